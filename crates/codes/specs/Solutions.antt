-- Codes whose check words make sums zero are lawful, and their right columns are those of zero sums. Assumes nothing.
use Rattle.std.specs.Prelude.{◌≡◌, ℕ, zero, suc, ◌+◌, ◌-◌, ◌<◌, ◌≤◌, Bool, cond, ◌&&◌, T, List, [], ◌∷◌, ◌++◌, map, length, take, drop, replicate, ◌==◌, slice_index, refl, Option, Some, None, unwrap_or}
use Rattle.std.proofs.Common.{sym, ◌∙◌, ap, ap₂, subst, zero-le, eq-or-lt_of_le, le_of_suc-le-suc, le_trans, le_refl, zero-add, inl, inr, eqb→eq, lit<, length-append, not-suc-le-zero}
use Rattle.std.proofs.Math.Nat.{suc-ne-zero, suc_inj, le-suc, le-add_right, add-le-add, add-sub_cancel_left}
use Rattle.std.proofs.Math.Dec.{eqb_refl}
use Rattle.std.proofs.lemmas.List.{take-append-drop, length-take-le, length-drop}
use Rattle.field.specs.Polynomials.{word_product, word_inverse}
use Rattle.field.specs.Sums.{weighted}
use Rattle.field.specs.TwoFields.{word_field_laws, word_differ}
use Rattle.codes.specs.Code.{AllWords, Code, Right, Lawful, differences}
use Rattle.codes.specs.Rebuild.{Agrees, missing, fillings}
use Rattle.codes.specs.TwoCodes.{sum, zero_sums, SumsAreZero, by_sums, SumsMakeRight}
use Rattle.codes.specs.Filling.{Vanishes}
use Rattle.codes.specs.Searching.{is_true, and_left, and_right, agrees_among, among-agrees, find_only}
use Rattle.codes.specs.Agreeing.{at_most_one, differ-missing, same_length, still-words, words_small}
use Rattle.codes.specs.Distance.{few-differences}

-- ---- the test of zero sums

zero_fact : (r : ℕ) (ws : List ℕ) → T (zero_sums r ws) → SumsAreZero r ws
zero_fact zero ws t j h = absurd (not-suc-le-zero h)
zero_fact (suc r) ws t j h = elim (eq-or-lt_of_le (le_of_suc-le-suc h)) [
  | inl e ↦ ap (λ i. sum i ws) e ∙ eqb→eq (sum r ws) 0 (and_left _ _ t)
  | inr l ↦ zero_fact r ws (and_right _ _ t) j l
]

zero_test : (r : ℕ) (ws : List ℕ) → SumsAreZero r ws → T (zero_sums r ws)
zero_test zero ws h = tt
zero_test (suc r) ws h =
    subst (λ (b : Bool). T (b && zero_sums r ws))
    (sym (is_true (sum r ws == 0) (subst (λ v. T (v == 0)) (sym (h r (le_refl (suc r)))) tt)))
    (zero_test r ws (λ j l. h j (le_trans l (le-suc r))))

-- ---- columns of zero sums

pub vanishes : (r : ℕ) (ws : List ℕ) → length ws ≡ 16 + r → AllWords ws → SumsAreZero r ws
    → Vanishes 16 word_product (16 + r) r ws
unfolding sum
vanishes r ws l a z = record {
  long = l;
  small = λ i h. words_small ws a i (subst (λ n. i < n) (sym l) h);
  sums = λ j h. ap (λ n. weighted word_product 2 n j (λ i. slice_index ws i)) (sym l) ∙ z j h;
}

equal : (r : ℕ) (us ws : List ℕ) → r ≤ 4 → Vanishes 16 word_product (16 + r) r us → Vanishes 16 word_product (16 + r) r ws
    → differences us ws ≤ r → us ≡ ws
equal r us ws r4 u w h =
    few-differences 16 word_product word_inverse word_field_laws (lit< tt) 2 (lit< tt) (16 + r)
    (λ i j p q. word_differ i j (le_trans p twenty) (le_trans q twenty)) r us ws u.long w.long u.small w.small
    u.sums w.sums h
  where
    twenty : 16 + r ≤ 20
    twenty = add-le-add (le_refl 16) r4

-- ---- the words that by_sums finds

gaps_agree : (ws cs : List ℕ) (r : ℕ) → length cs ≡ r → AllWords cs
    → Agrees (map Some ws ++ replicate r None) (ws ++ cs)
gaps_agree (w ∷ ws) cs r l a = (refl, gaps_agree ws cs r l a)
gaps_agree [] [] zero l a = tt
gaps_agree [] [] (suc r) l a = absurd (suc-ne-zero r (sym l))
gaps_agree [] (c ∷ cs) zero l a = absurd (suc-ne-zero (length cs) l)
gaps_agree [] (c ∷ cs) (suc r) l a = (a.0, gaps_agree [] cs r (suc_inj l) a.1)

gaps-missing : (ws : List ℕ) (r : ℕ) → missing (map Some ws ++ replicate r None) ≡ r
gaps-missing (w ∷ ws) r = gaps-missing ws r
gaps-missing [] zero = refl
gaps-missing [] (suc r) = ap suc (gaps-missing [] r)

drop_front : (ws cs : List ℕ) → drop (length ws) (ws ++ cs) ≡ cs
drop_front [] cs = refl
drop_front (w ∷ ws) cs = drop_front ws cs

pub all_append : (us ws : List ℕ) → AllWords us → AllWords ws → AllWords (us ++ ws)
all_append [] ws a b = b
all_append (u ∷ us) ws a b = (a.0, all_append us ws a.1 b)

pub solution : (r : ℕ) (ws cs : List ℕ) → r ≤ 4 → length ws ≡ 16 → AllWords ws → length cs ≡ r → AllWords cs
    → SumsAreZero r (ws ++ cs)
    → by_sums r ws ≡ cs
unfolding by_sums
solution r ws cs r4 lw aw lc ac z =
    ap (λ o. drop (length ws) (unwrap_or o []))
    (find_only (zero_sums r) (fillings gaps) (ws ++ cs) (agrees_among gaps (ws ++ cs) fits) (zero_test r (ws ++ cs) z)
    (λ u k t.
    let a : Agrees gaps u = among-agrees gaps u k in
    equal r u (ws ++ cs) r4
    (vanishes r u (same_length gaps u (ws ++ cs) a fits ∙ long) (still-words gaps u (ws ++ cs) a fits all)
    (zero_fact r u t))
    (vanishes r (ws ++ cs) long all z)
    (le_trans (differ-missing gaps u (ws ++ cs) a fits) (subst (λ n. n ≤ r) (sym (gaps-missing ws r)) (le_refl r)))))
    ∙ drop_front ws cs
  where
    gaps : List (Option ℕ)
    gaps = map Some ws ++ replicate r None

    fits : Agrees gaps (ws ++ cs)
    fits = gaps_agree ws cs r lc ac

    long : length (ws ++ cs) ≡ 16 + r
    long = length-append ws cs ∙ ap₂ (λ x y. x + y) lw lc

    all : AllWords (ws ++ cs)
    all = all_append ws cs aw ac

-- ---- a code whose check words make its sums zero

pub record Solves (code : Code) : Type 0 where
  pub one : 1 ≤ code.r
  pub four : code.r ≤ 4
  pub makes : (ws : List ℕ) → length ws ≡ 16 → AllWords ws
      → (length (code.checks ws) ≡ code.r) × AllWords (code.checks ws)
  pub zeros : (ws : List ℕ) → length ws ≡ 16 → AllWords ws → SumsAreZero code.r (ws ++ code.checks ws)

front_all : (n : ℕ) (ws : List ℕ) → AllWords ws → AllWords (take n ws)
front_all zero ws a = tt
front_all (suc n) [] a = tt
front_all (suc n) (w ∷ ws) a = (a.0, front_all n ws a.1)

few-behind : (t us ws : List ℕ) → differences (t ++ us) (t ++ ws) ≤ length us
few-behind (x ∷ t) us ws =
    subst (λ (b : Bool). cond b 0 1 + differences (t ++ us) (t ++ ws) ≤ length us)
    (sym (is_true (x == x) (eqb_refl x)))
    (subst (λ n. n ≤ length us) (sym (zero-add (differences (t ++ us) (t ++ ws)))) (few-behind t us ws))
few-behind [] [] ws = zero-le
few-behind [] (u ∷ us) [] = zero-le
few-behind [] (u ∷ us) (w ∷ ws) = at_most_one (u == w) (differences us ws) (length us) (few-behind [] us ws)

module _ (code : Code) (S : Solves code) where
  front_long : (ws : List ℕ) → length ws ≡ 16 + code.r → length (take 16 ws) ≡ 16
  front_long ws l = length-take-le 16 ws (subst (λ n. 16 ≤ n) (sym l) (le-add_right 16 code.r))

  pub right_zero : (ws : List ℕ) → Right code ws → SumsAreZero code.r ws
  right_zero ws r =
      subst (SumsAreZero code.r) (ap (λ t. take 16 ws ++ t) (sym r.2) ∙ take-append-drop 16 ws)
      (S.zeros (take 16 ws) (front_long ws r.0) (front_all 16 ws r.1))

  pub right-vanishes : (ws : List ℕ) → Right code ws → Vanishes 16 word_product (16 + code.r) code.r ws
  right-vanishes ws r = vanishes code.r ws r.0 r.1 (right_zero ws r)

  zero_right : (ws : List ℕ) → length ws ≡ 16 + code.r → AllWords ws → SumsAreZero code.r ws → Right code ws
  zero_right ws l a z = (
    l,
    a,
    ap (drop 16) same ∙ ap (λ n. drop n (t ++ code.checks t)) (sym tl)
        ∙ drop_front t (code.checks t),
  )
    where
      t : List ℕ
      t = take 16 ws

      tl : length t ≡ 16
      tl = front_long ws l

      ta : AllWords t
      ta = front_all 16 ws a

      made : (length (code.checks t) ≡ code.r) × AllWords (code.checks t)
      made = S.makes t tl ta

      parts : t ++ drop 16 ws ≡ ws
      parts = take-append-drop 16 ws

      near : differences ws (t ++ code.checks t) ≤ code.r
      near =
          subst (λ x. differences x (t ++ code.checks t) ≤ code.r) parts
          (le_trans (few-behind t (drop 16 ws) (code.checks t))
          (subst (λ n. n ≤ code.r)
          (sym (length-drop 16 ws ∙ ap (λ n. n - 16) l ∙ add-sub_cancel_left 16 code.r)) (le_refl code.r)))

      same : ws ≡ t ++ code.checks t
      same =
          equal code.r ws (t ++ code.checks t) S.four (vanishes code.r ws l a z)
          (vanishes code.r (t ++ code.checks t) (length-append t (code.checks t) ∙ ap₂ (λ x y. x + y) tl made.0)
          (all_append t (code.checks t) ta made.1) (S.zeros t tl ta))
          near

  pub sums_make_right : SumsMakeRight code.r code
  sums_make_right ws l a = (right_zero ws, zero_right ws l a)

  pub lawful : Lawful code
  lawful = record {
    at_least_one = S.one;
    at_most_four = S.four;
    makes-words = S.makes;
    distance = λ us ws ru rw h. equal code.r us ws S.four (right-vanishes us ru) (right-vanishes ws rw) h;
  }
