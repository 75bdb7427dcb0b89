-- Counting the missing words of a column, and putting zeros in their places. Assumes nothing.
use Rattle.std.proofs.Common.{◌≡◌, ℕ, zero, suc, ◌<◌, ◌≤◌, Bool, true, false, not, ◌&&◌, ltb, cond, List, length, get_or, replicate, sym, refl, ap, ap₂, ◌∙◌, inl, inr, le_of_suc-le-suc, eq-or-lt_of_le, arith}
use Rattle.std.proofs.lemmas.Bool.{cases_lt, lt-ltb, le-ltb}
use Rattle.std.proofs.lemmas.List.{get_or_past}
use Rattle.codes.specs.Filling.{missing_count, Blanked}

pub zeros_at : (n k : ℕ) → get_or {A = ℕ} (replicate n 0) k 0 ≡ 0
zeros_at zero k = refl
zeros_at (suc n) zero = refl
zeros_at (suc n) (suc k) = zeros_at n k

pub blank_all : (column : List ℕ) (ms : List Bool) (n : ℕ) (out : List ℕ) → length column ≡ 20 → length out ≡ 20
    → ((i : ℕ) → i < 20 → get_or out i 0 ≡ cond (ltb i n && not (get_or ms i false)) (get_or column i 0) 0)
    → Blanked column ms n out
blank_all column ms n out lc lo at = record {
  present = λ k h e. elim (cases_lt k 20) [
    | inl l ↦ at k l ∙ ap₂ (λ b m. cond (b && not m) (get_or column k 0) 0) (lt-ltb k n h) e
    | inr g ↦ past out k lo g ∙ sym (past column k lc g)
  ];
  absent = λ k h e. elim (cases_lt k 20) [
    | inl l ↦ at k l ∙ ap₂ (λ b m. cond (b && not m) (get_or column k 0) 0) (lt-ltb k n h) e
    | inr g ↦ past out k lo g
  ];
  rest = λ k h. elim (cases_lt k 20) [
    | inl l ↦ at k l ∙ ap (λ b. cond (b && not (get_or ms k false)) (get_or column k 0) 0) (le-ltb k n h)
    | inr g ↦ past out k lo g
  ];
}
  where
    past : (xs : List ℕ) (k : ℕ) → length xs ≡ 20 → 20 ≤ k → get_or xs k 0 ≡ 0
    past xs k l g = get_or_past xs k 0 (omega arith)

pub none-missing : (ms : List Bool) (n : ℕ) → missing_count ms n ≡ 0 → (i : ℕ) → i < n → get_or ms i false ≡ false
unfolding missing_count
none-missing ms zero z i h = absurd (omega arith)
none-missing ms (suc n) z i h = elim (eq-or-lt_of_le (le_of_suc-le-suc h)) [
  | inl e ↦ ap (λ k. get_or ms k false) e ∙ off (get_or ms n false) (omega arith)
  | inr l ↦ none-missing ms n (omega arith) i l
]
  where
    off : (b : Bool) → cond {A = ℕ} b 1 0 ≡ 0 → b ≡ false
    off true e = absurd (omega arith)
    off false e = refl
