-- The check words of sixteen words, carried from group to group. Assumes nothing.
use Rattle.std.proofs.Common.{◌≡◌, ℕ, zero, suc, ◌+◌, ◌<◌, List, [], ◌∷◌, length, get_or, take, drop, fold, refl, sym, ap, ◌∙◌, zero-add, arith}
use Rattle.std.specs.Simd.{first_chunks}
use Rattle.std.proofs.lemmas.List.{get_or-take, get_or-drop}
use Rattle.check_groups.specs.Groups.{next_word, next_words}
use Rattle.codes.specs.TwoCodes.{by_sums}
use Rattle.codes.specs.Agreeing.{all_words}
use Rattle.codes.specs.Grouping.{Carried, carried_none, carried_more}
use Rattle.codes.specs.BothSolve.{carried_all}

next_at : (s g : List ℕ) (p : ℕ) → p < 4
    → get_or (next_words s g) p 0 ≡ next_word (λ q. get_or s q 0) (λ q. get_or g q 0) p
next_at s g zero h = refl
next_at s g (suc zero) h = refl
next_at s g (suc (suc zero)) h = refl
next_at s g (suc (suc (suc zero))) h = refl
next_at s g (suc (suc (suc (suc p)))) h = absurd (omega arith)

pub check_words_by_groups : (ws : List ℕ) → length ws ≡ 16 → ((i : ℕ) → i < 16 → get_or ws i 0 < 65536)
    → fold next_words (0 ∷ 0 ∷ 0 ∷ 0 ∷ []) (first_chunks 4 4 ws) ≡ by_sums 4 ws
check_words_by_groups ws long small =
    sym (carried_all ws long (all_words ws (λ i l. small i (omega (arith, long)))) _
    (more 12 (drop 4 (drop 4 (drop 4 ws))) _ (omega arith) at_12
    (more 8 (drop 4 (drop 4 ws)) _ (omega arith) at_8
    (more 4 (drop 4 ws) _ (omega arith) (λ q. get_or-drop 4 ws q 0)
    (more 0 ws _ (omega arith) (λ q. ap w (sym (zero-add q))) (carried_none w))))))
  where
    w : ℕ → ℕ
    w i = get_or ws i 0

    at_8 : (q : ℕ) → get_or (drop 4 (drop 4 ws)) q 0 ≡ w (8 + q)
    at_8 q =
        get_or-drop 4 (drop 4 ws) q 0 ∙ get_or-drop 4 ws (4 + q) 0
        ∙ ap w (let e : 4 + (4 + q) ≡ 8 + q = omega arith in e)

    at_12 : (q : ℕ) → get_or (drop 4 (drop 4 (drop 4 ws))) q 0 ≡ w (12 + q)
    at_12 q =
        get_or-drop 4 (drop 4 (drop 4 ws)) q 0 ∙ at_8 (4 + q)
        ∙ ap w (let e : 8 + (4 + q) ≡ 12 + q = omega arith in e)

    -- one more group, the first four of the words that are left
    more : (n : ℕ) (rest s : List ℕ) → n + 4 < 17 → ((q : ℕ) → get_or rest q 0 ≡ w (n + q)) → Carried w n s
        → Carried w (n + 4) (next_words s (take 4 rest))
    more n rest s h at c =
        carried_more w n s (take 4 rest) _ (λ q l. small (n + q) (omega arith))
        (λ q l. get_or-take 4 rest q 0 l ∙ at q) refl
        (next_at s (take 4 rest)) c
