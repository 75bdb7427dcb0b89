-- A list cut into chunks, and the chunks joined again. Assumes nothing.
use Rattle.std.proofs.Common.{◌≡◌, ℕ, zero, suc, ◌+◌, ◌*◌, List, [], ◌∷◌, ◌++◌, take, drop, sym, ap, ◌∙◌, zero-mul, suc-mul, add_comm}
use Rattle.std.specs.Simd.{first_chunks}
use Rattle.std.proofs.lemmas.List.{append_assoc, take-append-drop, drop-drop}

abbrev pub joined : List (List ℕ) → List ℕ
joined [] = []
joined (c ∷ cs) = c ++ joined cs

-- the first k chunks of n elements, and what is behind them
pub joined_is : (n k : ℕ) (xs : List ℕ) → joined (first_chunks n k xs) ++ drop (k * n) xs ≡ xs
joined_is n zero xs = ap (λ (m : ℕ). drop m xs) (zero-mul n)
joined_is n (suc k) xs =
    append_assoc (take n xs) (joined (first_chunks n k (drop n xs))) (drop (suc k * n) xs)
    ∙ ap (λ (t : List ℕ). take n xs ++ (joined (first_chunks n k (drop n xs)) ++ t)) (ap (λ (m : ℕ). drop m xs) (suc-mul k n ∙ add_comm (k * n) n) ∙ sym (drop-drop (k * n) n xs))
    ∙ ap (λ (t : List ℕ). take n xs ++ t) (joined_is n k (drop n xs))
    ∙ take-append-drop n xs
