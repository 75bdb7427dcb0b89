-- The exclusive-or over a list is that over its positions. Assumes nothing.
use Rattle.std.proofs.Common.{◌≡◌, ℕ, zero, suc, ◌≤◌, List, length, get_or, take, fold, refl, sym, ap, ◌∙◌, add-one, le_refl, arith, bit_xor}
use Rattle.std.proofs.lemmas.List.{take_all}
use Rattle.std.proofs.lemmas.List.Sums.{fold_more}
use Rattle.field.specs.Sums.{total}

folded_part : {A : Type 0} (g : A → ℕ) (xs : List A) (d : A) (n : ℕ) → n ≤ length xs
    → fold (λ a x. bit_xor a (g x)) 0 (take n xs) ≡ total (λ i. g (get_or xs i d)) n
unfolding total
folded_part g xs d zero h = refl
folded_part g xs d (suc n) h =
    ap (λ k. fold (λ a x. bit_xor a (g x)) 0 (take k xs)) (sym (add-one n))
    ∙ fold_more (λ a x. bit_xor a (g x)) 0 xs n d (omega arith)
    ∙ ap (λ a. bit_xor a (g (get_or xs n d))) (folded_part g xs d n (omega arith))

pub total_folded : {A : Type 0} (g : A → ℕ) (xs : List A) (d : A)
    → fold (λ a x. bit_xor a (g x)) 0 xs ≡ total (λ i. g (get_or xs i d)) (length xs)
total_folded g xs d =
    ap (fold (λ a x. bit_xor a (g x)) 0) (sym (take_all (length xs) xs (le_refl (length xs))))
    ∙ folded_part g xs d (length xs) (le_refl (length xs))
