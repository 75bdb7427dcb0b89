-- What rebuild answers, from a filled column and its check words. Assumes nothing.
use Rattle.std.proofs.Common.{◌≡◌, ℕ, ◌+◌, ◌-◌, ◌<◌, ◌≤◌, Bool, false, cond, T, List, [], ◌∷◌, ◌++◌, length, get_or, take, drop, replicate, Ok, Err, sym, ap, ◌∙◌, subst, ap₂, arith, Option, Some}
use Rattle.std.proofs.lemmas.List.{ext_get_or, get_or-take, length-take-le, take-append-drop, append_cancel_right, drop-take, drop-drop}
use Rattle.std.proofs.lemmas.Bool.{lt-ltb, le-ltb}
use Rattle.codes.specs.Code.{Code, Right}
use Rattle.codes.specs.Rebuild.{Agrees, missing, present, seen, fillings, is_right, same_list, rebuild, offered, answered, IsTheColumn, HasNoColumn}
use Rattle.codes.specs.Filling.{missing_count, Keeps, Filled}
use Rattle.codes.specs.Searching.{same-eq, same_refl, agrees_among, among-agrees, find_only, find_none}
use Rattle.codes.specs.Agreeing.{same_length, still-words, agrees_from, back_same, missing-present, all_words, back_long, back-small}

-- ---- the search

rebuilds : (code : Code) (c : List (Option ℕ)) (ws : List ℕ) → IsTheColumn code c ws → rebuild code c ≡ Some ws
unfolding rebuild
rebuilds code c ws h =
    find_only (is_right code) (fillings c) ws (agrees_among c ws h.agrees)
    (subst (λ (x : List ℕ). T (same_list (drop 16 ws) x)) h.right.2 (same_refl (drop 16 ws)))
    (λ u k t.
    let a : Agrees c u = among-agrees c u k in
    h.only u (
      same_length c u ws a h.agrees
          ∙ h.right.0,
      still-words c u ws a h.agrees h.right.1,
      same-eq (drop 16 u) (code.checks (take 16 u))
          t,
    ) a)

module _ (code : Code) (column : List ℕ) (ms : List Bool) where
  n : ℕ
  n = 16 + code.r

  keeps-agrees : (ws : List ℕ) → Right code ws → ((i : ℕ) → i < 16 + code.r → get_or ws i 0 < 65536)
      → Keeps ws column ms (16 + code.r)
      → Agrees (seen code column ms) ws
  unfolding present
  keeps-agrees ws r small k =
      agrees_from (λ i. get_or ms i false) (λ i. get_or column i 0) 0 (16 + code.r) ws r.0 small
      (λ i l e.
      let z : 0 + i ≡ i = omega arith in
      k i l (subst (λ j. get_or ms j false ≡ false) z e) ∙ ap (λ j. get_or column j 0) (sym z))

  agrees-keeps : (ws : List ℕ) → Agrees (seen code column ms) ws → Keeps ws column ms (16 + code.r)
  unfolding present
  agrees-keeps ws a i l e =
      let z : 0 + i ≡ i = omega arith in
      back_same (λ i. get_or ms i false) (λ i. get_or column i 0) 0 (16 + code.r) ws a i l
      (subst (λ j. get_or ms j false ≡ false) (sym z) e)
      ∙ ap (λ j. get_or column j 0) z

  agrees_right : ((k : ℕ) → get_or column k 0 < 65536) → (ws : List ℕ) → Agrees (seen code column ms) ws
      → T (is_right code ws) → Right code ws
  unfolding present
  agrees_right small ws a t = (
    long,
    all_words ws (λ i l. back-small (λ i. get_or ms i false) (λ i. get_or column i 0) small 0 (16 + code.r) ws a i
        (subst (λ m. i < m) long l)),
    same-eq (drop 16 ws) (code.checks (take 16 ws)) t,
  )
    where
      long : length ws ≡ 16 + code.r
      long = back_long (λ i. get_or ms i false) (λ i. get_or column i 0) 0 (16 + code.r) ws a

  count-seen : missing (seen code column ms) ≡ missing_count ms (16 + code.r)
  count-seen = missing-present (16 + code.r) column ms

  -- ---- too many are missing

  pub too_many : (count : ℕ) → count ≡ missing_count ms (16 + code.r) → code.r < count
      → code.r < missing (seen code column ms)
  too_many count e l = subst (λ m. code.r < m) (e ∙ sym count-seen) l

  pub many-answered : (count : ℕ) → count ≡ missing_count ms (16 + code.r) → code.r < count
      → (replicate 20 0, Err (15, count ∷ [])) ≡ answered code (seen code column ms)
  many-answered count e l =
      ap (λ m. (replicate 20 0, Err (15, m ∷ []))) (e ∙ sym count-seen)
      ∙ sym (ap (λ b. cond b (replicate 20 0, Err (15, missing (seen code column ms) ∷ []))
      (offered code (rebuild code (seen code column ms))))
      (lt-ltb code.r (missing (seen code column ms)) (too_many count e l)))

  few-answered : missing_count ms (16 + code.r) ≤ code.r
      → offered code (rebuild code (seen code column ms)) ≡ answered code (seen code column ms)
  few-answered l =
      sym (ap (λ b. cond b (replicate 20 0, Err (15, missing (seen code column ms) ∷ []))
      (offered code (rebuild code (seen code column ms))))
      (le-ltb code.r (missing (seen code column ms)) (subst (λ m. m ≤ code.r) (sym count-seen) l)))

  -- ---- the filled column is right, or there is none

  module _ (out : List ℕ) (r4 : code.r ≤ 4) (few : missing_count ms (16 + code.r) ≤ code.r)
      (F : Filled code column ms out)
      (long : length out ≡ 20) (small : (k : ℕ) → k < 20 → get_or out k 0 < 65536) (made : List ℕ)
      (is_made : made ≡ code.checks (take 16 out) ++ replicate (4 - code.r) 0) where
    ws : List ℕ
    ws = take (16 + code.r) out

    ws-long : length (take (16 + code.r) out) ≡ 16 + code.r
    ws-long = length-take-le (16 + code.r) out (omega arith)

    ws-small : (i : ℕ) → i < 16 + code.r → get_or (take (16 + code.r) out) i 0 < 65536
    ws-small i h = subst (λ x. x < 65536) (sym (get_or-take (16 + code.r) out i 0 h)) (small i (omega arith))

    ws-keeps : Keeps (take (16 + code.r) out) column ms (16 + code.r)
    ws-keeps i h e = get_or-take (16 + code.r) out i 0 h ∙ F.keeps i h e

    front_same : take 16 (take (16 + code.r) out) ≡ take 16 out
    front_same =
        ext_get_or 0 _ _ (length-take-le 16 (take (16 + code.r) out) (omega (arith, ws-long))
        ∙ sym (length-take-le 16 out (omega arith)))
        (λ i p. let q : i < 16 = omega (arith, length-take-le 16 (take (16 + code.r) out) (omega (arith, ws-long))) in
        get_or-take 16 (take (16 + code.r) out) i 0 q ∙ get_or-take (16 + code.r) out i 0 (omega arith)
        ∙ sym (get_or-take 16 out i 0 q))

    tail-parts : drop 16 out ≡ drop 16 (take (16 + code.r) out) ++ replicate (4 - code.r) 0
    tail-parts =
        sym (take-append-drop code.r (drop 16 out))
        ∙ ap₂ (λ x y. x ++ y) (sym (drop-take 16 code.r out)) (drop-drop code.r 16 out ∙ F.rest)

    made_is : made ≡ code.checks (take 16 (take (16 + code.r) out)) ++ replicate (4 - code.r) 0
    made_is = is_made ∙ ap (λ t. code.checks t ++ replicate (4 - code.r) 0) (sym front_same)

    pub the_column : drop 16 out ≡ made → IsTheColumn code (seen code column ms) (take (16 + code.r) out)
    the_column e = record {
      few = subst (λ m. m ≤ code.r) (sym count-seen) few;
      right = right;
      agrees = keeps-agrees (take (16 + code.r) out) right ws-small ws-keeps;
      only = λ us ru au. F.forced few us ru (agrees-keeps us au);
    }
      where
        right : Right code (take (16 + code.r) out)
        right = (
          ws-long,
          all_words (take (16 + code.r) out) (λ i l. ws-small i (subst (λ m. i < m) ws-long l)),
          append_cancel_right _ _ (replicate (4 - code.r) 0) (sym tail-parts ∙ e ∙ made_is),
        )

    pub column-answered : drop 16 out ≡ made → (out, Ok tt) ≡ answered code (seen code column ms)
    column-answered e =
        ap (λ x. (x, Ok tt)) (sym (take-append-drop (16 + code.r) out)
        ∙ ap (λ t. take (16 + code.r) out ++ t) F.rest)
        ∙ ap (offered code) (sym (rebuilds code (seen code column ms) (take (16 + code.r) out) (the_column e)))
        ∙ few-answered few

    pub no-column : (drop 16 out ≡ made → ⊥) → HasNoColumn code (seen code column ms)
    no-column ne = record {
      few = subst (λ m. m ≤ code.r) (sym count-seen) few;
      none = λ us ru au.
          let e : us ≡ take (16 + code.r) out = F.forced few us ru (agrees-keeps us au) in
          ne (tail-parts
          ∙ ap (λ t. t ++ replicate (4 - code.r) 0) (subst (λ t. drop 16 t ≡ code.checks (take 16 t)) e ru.2)
          ∙ sym made_is);
    }

    pub none-answered : ((k : ℕ) → get_or column k 0 < 65536) → (drop 16 out ≡ made → ⊥)
        → (replicate 20 0, Err (13, 0 ∷ 0 ∷ 0 ∷ [])) ≡ answered code (seen code column ms)
    unfolding rebuild
    none-answered fits ne =
        ap (offered code)
        (sym (find_none (is_right code) (fillings (seen code column ms))
        (λ us k t.
        let a : Agrees (seen code column ms) us = among-agrees (seen code column ms) us k in
        (no-column ne).none us (agrees_right fits us a t) a)))
        ∙ few-answered few
