-- The check words of the parity code and of the four-check code make their sums zero. Assumes nothing.
use Rattle.std.specs.Prelude.{◌≡◌, ℕ, zero, suc, ◌+◌, ◌*◌, ◌^◌, ◌<◌, ◌≤◌, List, [], ◌∷◌, ◌++◌, length, bit_xor, slice_index}
use Rattle.std.proofs.Math.Path.{refl, ap}
use Rattle.std.proofs.Common.{sym, ◌∙◌, ap₂, subst, lit<, lit≤, length-append, add-zero, add-suc, le_trans, le_refl, le_of_suc-le-suc, not-suc-le-zero}
use Rattle.std.proofs.Math.Nat.{add-le-add}
use Rattle.std.specs.Int.Bits.{xor_self, xor_zero_l}
use Rattle.std.proofs.lemmas.List.{get_or_append_left, get_or-append-add}
use Rattle.field.specs.Polynomials.{word_product, word_inverse}
use Rattle.field.specs.Sums.{total, power, weighted}
use Rattle.field.proofs.Totals.{total_ext, total-lt}
use Rattle.field.proofs.Powers.{power_none}
use Rattle.field.specs.TwoFields.{word_field_laws}
use Rattle.codes.specs.Code.{AllWords}
use Rattle.codes.specs.TwoCodes.{sum, SumsAreZero, by_sums, parity, parity_word, four_check}
use Rattle.check_groups.specs.Groups.{next_word}
use Rattle.codes.specs.Agreeing.{all_words, words_small}
use Rattle.codes.specs.Grouping.{not-four, Carried, carried_none, carried_more, tail, total-add}
use Rattle.codes.specs.Solutions.{Solves, solution}

front_at : (ws cs : List ℕ) → length ws ≡ 16 → (i : ℕ) → i < 16 → slice_index (ws ++ cs) i ≡ slice_index ws i
front_at ws cs l i h = get_or_append_left ws cs 0 i (subst (λ n. i < n) (sym l) h)

behind_at : (ws cs : List ℕ) → length ws ≡ 16 → (p : ℕ) → slice_index (ws ++ cs) (16 + p) ≡ slice_index cs p
behind_at ws cs l p = ap (λ n. slice_index (ws ++ cs) (n + p)) (sym l) ∙ get_or-append-add ws cs p 0

-- a sum of the sixteen words and the check words behind them
sum-parts : (r j : ℕ) (ws cs : List ℕ) → length ws ≡ 16 → length cs ≡ r
    → sum j (ws ++ cs)
    ≡ bit_xor (weighted word_product 2 16 j (λ i. slice_index ws i))
    (total (λ q. word_product (power word_product 2 ((16 + q) * j)) (slice_index cs q)) r)
unfolding sum weighted
sum-parts r j ws cs lw lc =
    ap (total f) (length-append ws cs ∙ ap₂ (λ x y. x + y) lw lc) ∙ total-add f 16 r
    ∙ ap₂ bit_xor (total_ext _ _ 16 (λ i l. ap (word_product _) (front_at ws cs lw i l)))
    (total_ext _ _ r (λ q l. ap (word_product _) (behind_at ws cs lw q)))
  where
    f : ℕ → ℕ
    f i = word_product (power word_product 2 (i * j)) (slice_index (ws ++ cs) i)

-- ---- the four-check code

module _ (ws : List ℕ) (lw : length ws ≡ 16) (aw : AllWords ws) where
  w-lt : (i : ℕ) → i < 16 → slice_index ws i < 2 ^ 16
  w-lt i h = words_small ws aw i (subst (λ n. i < n) (sym lw) h)

  carried_zero : (cs : List ℕ) → Carried (λ i. slice_index ws i) 16 cs → SumsAreZero 4 (ws ++ cs)
  carried_zero cs c j h =
      sum-parts 4 j ws cs lw c.long ∙ ap₂ bit_xor (c.same j h) opened ∙ xor_self (tail 16 j (λ q. slice_index cs q))
    where
      opened : total (λ q. word_product (power word_product 2 ((16 + q) * j)) (slice_index cs q)) 4
          ≡ tail 16 j (λ q. slice_index cs q)
      opened = unfold tail in refl

  carried-words : (cs : List ℕ) → Carried (λ i. slice_index ws i) 16 cs → AllWords cs
  carried-words cs c = all_words cs (λ i l. c.small i (subst (λ n. i < n) c.long l))

  pub carried_all : (cs : List ℕ) → Carried (λ i. slice_index ws i) 16 cs → by_sums 4 ws ≡ cs
  carried_all cs c = solution 4 ws cs (lit≤ tt) lw aw c.long (carried-words cs c) (carried_zero cs c)

  group : ℕ → List ℕ
  group n = slice_index ws n ∷ slice_index ws (n + 1) ∷ slice_index ws (n + 2) ∷ slice_index ws (n + 3) ∷ []

  stepped : List ℕ → ℕ → List ℕ
  stepped s n = at 0 ∷ at 1 ∷ at 2 ∷ at 3 ∷ []
    where
      at : ℕ → ℕ
      at p = next_word (λ q. slice_index s q) (λ q. slice_index (group n) q) p

  stepped-carried : (n : ℕ) (s : List ℕ) → n + 4 ≤ 16 → Carried (λ i. slice_index ws i) n s
      → Carried (λ i. slice_index ws i) (n + 4) (stepped s n)
  unfolding stepped
  stepped-carried n s h c =
      carried_more (λ i. slice_index ws i) n s (group n) (stepped s n) (λ q l. w-lt (n + q) (in_front q l)) grouped
      refl made c
    where
      in_front : (q : ℕ) → q < 4 → n + q < 16
      in_front q l = le_trans (subst (λ m. m ≤ n + 4) (add-suc n q) (add-le-add (le_refl n) l)) h

      grouped : (q : ℕ) → q < 4 → slice_index (group n) q ≡ slice_index ws (n + q)
      grouped zero l = unfold group in ap (λ k. slice_index ws k) (sym (add-zero n))
      grouped (suc zero) l = unfold group in refl
      grouped (suc (suc zero)) l = unfold group in refl
      grouped (suc (suc (suc zero))) l = unfold group in refl
      grouped (suc (suc (suc (suc q)))) l = absurd (not-four l)

      made : (p : ℕ) → p < 4 → slice_index (stepped s n) p ≡ next_word (λ q. slice_index s q) (λ q. slice_index (group n) q) p
      made zero l = refl
      made (suc zero) l = refl
      made (suc (suc zero)) l = refl
      made (suc (suc (suc zero))) l = refl
      made (suc (suc (suc (suc p)))) l = absurd (not-four l)

  -- there are such words
  four-words : (cs : List ℕ) × Carried (λ i. slice_index ws i) 16 cs
  four-words = (
    _,
    stepped-carried 12 _ (lit≤ tt) (stepped-carried 8 _ (lit≤ tt) (stepped-carried 4 _ (lit≤ tt)
        (stepped-carried 0 _ (lit≤ tt) (carried_none (λ i. slice_index ws i))))),
  )

  -- and the code has them
  pub four-carried : Carried (λ i. slice_index ws i) 16 (by_sums 4 ws)
  four-carried = subst (Carried (λ i. slice_index ws i) 16) (sym (carried_all four-words.0 four-words.1))
      four-words.1

pub four_solves : Solves four_check
four_solves = record {
  one = lit≤ tt;
  four = lit≤ tt;
  makes = λ ws l a. ((four-carried ws l a).long, carried-words ws l a _ (four-carried ws l a));
  zeros = λ ws l a. carried_zero ws l a _ (four-carried ws l a);
}

-- ---- the parity code

pub plain-sum : (n : ℕ) (f : ℕ → ℕ) → ((i : ℕ) → i < n → f i < 2 ^ 16) → weighted word_product 2 n 0 f ≡ total f n
unfolding weighted
plain-sum n f h =
    total_ext _ _ n (λ i p.
    ap (λ t. word_product t (f i)) (power_none 16 word_product word_inverse word_field_laws (lit< tt) 2 (lit< tt) i)
    ∙ word_field_laws.mul-one (f i) (h i p))

parity-lt : (ws : List ℕ) → length ws ≡ 16 → AllWords ws → parity_word ws < 2 ^ 16
unfolding parity_word
parity-lt ws l a = total-lt (λ i. slice_index ws i) 16 16 (λ i h. words_small ws a i (subst (λ n. i < n) (sym l) h))

parity_zero : (ws : List ℕ) → length ws ≡ 16 → AllWords ws → SumsAreZero 1 (ws ++ parity_word ws ∷ [])
parity_zero ws l a (suc j) h = absurd (not-suc-le-zero (le_of_suc-le-suc h))
parity_zero ws l a zero h =
    sum-parts 1 0 ws (parity_word ws ∷ []) l refl
    ∙ ap₂ bit_xor (plain-sum 16 (λ i. slice_index ws i) (λ i q. words_small ws a i (subst (λ n. i < n) (sym l) q)))
    (plain_one (λ q. word_product (power word_product 2 ((16 + q) * 0)) (slice_index (parity_word ws ∷ []) q))
    ∙ ap (λ t. word_product t (parity_word ws))
    (power_none 16 word_product word_inverse word_field_laws (lit< tt) 2 (lit< tt) 16)
    ∙ word_field_laws.mul-one (parity_word ws) (parity-lt ws l a) ∙ opened)
    ∙ xor_self (total (λ i. slice_index ws i) 16)
  where
    opened : parity_word ws ≡ total (λ i. slice_index ws i) 16
    opened = unfold parity_word in refl

    plain_one : (f : ℕ → ℕ) → total f 1 ≡ f 0
    plain_one f = unfold total in xor_zero_l (f 0)

pub parity_solves : Solves parity
parity_solves = record {
  one = lit≤ tt;
  four = lit≤ tt;
  makes = λ ws l a. (refl, (parity-lt ws l a, tt));
  zeros = parity_zero;
}
