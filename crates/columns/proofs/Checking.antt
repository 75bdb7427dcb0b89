-- One column more has its check words. Assumes nothing.
use Rattle.std.proofs.Common.{◌≡◌, ℕ, zero, suc, ◌+◌, ◌-◌, ◌*◌, ◌<◌, ◌≤◌, false, ◌≢◌, List, [], ◌∷◌, ◌++◌, get_or, take, replicate, sym, refl, ap, ◌∙◌, subst, ap₂, inl, inr, eq-or-lt_of_le, arith}
use Rattle.codes.specs.Code.{Code, check_four}
use Rattle.codes.proofs.Blanking.{zeros_at}
use Rattle.columns.specs.Columns.{word_at, column, is_check, check_at}
use Rattle.columns.proofs.WordLaws.{front_same}
use Rattle.columns.proofs.CheckBytes.{data-byte}

-- zeros behind a list say what its end says
behind : (xs : List ℕ) (n j : ℕ) → get_or (xs ++ replicate n 0) j 0 ≡ get_or xs j 0
behind [] n j = zeros_at n j
behind (x ∷ xs) n zero = refl
behind (x ∷ xs) n (suc j) = behind xs n j

-- the data words are those of the start, while no byte of theirs is changed
data_same : (r : ℕ) (before now : List ℕ) (c : ℕ) → c < 4114
    → ((q : ℕ) → is_check r q ≡ false → get_or now q 0 ≡ get_or before q 0)
    → take 16 (column now c) ≡ take 16 (column before c)
data_same r before now c h o =
    front_same before now c
    (λ k l. ap₂ (λ (x y : ℕ). x + 256 * y) (o (k * 8256 + 2 * c) (data-byte r k (2 * c) l (omega arith)))
    (let e : k * 8256 + 2 * c + 1 ≡ k * 8256 + (2 * c + 1) = omega arith in
    ap (λ (q : ℕ). get_or now q 0) e ∙ o (k * 8256 + (2 * c + 1)) (data-byte r k (2 * c + 1) l (omega arith))
    ∙ ap (λ (q : ℕ). get_or before q 0) (sym e)))

module _ (code : Code) (r : ℕ) (r-is : r ≡ code.r) (before now after checks : List ℕ) (c : ℕ) (small : c < 4114)
    (made : checks ≡ check_four code (take 16 (column now c)))
    (words : (j k : ℕ) → j < code.r → k < c → word_at now (16 + j) k ≡ check_at code before j k)
    (others : (q : ℕ) → is_check code.r q ≡ false → get_or now q 0 ≡ get_or before q 0)
    (here : (j : ℕ) → j < r → word_at after (16 + j) c ≡ get_or checks j 0)
    (elsewhere : (j k : ℕ) → k < 4114 → k ≢ c → word_at after (16 + j) k ≡ word_at now (16 + j) k)
    (kept : (q : ℕ) → is_check r q ≡ false → get_or after q 0 ≡ get_or now q 0) where
  this-word : (j : ℕ) → j < code.r → word_at after (16 + j) c ≡ check_at code before j c
  this-word j h =
      here j (subst (λ (n : ℕ). j < n) (sym r-is) h) ∙ ap (λ (xs : List ℕ). get_or xs j 0) made
      ∙ behind (code.checks (take 16 (column now c))) (4 - code.r) j
      ∙ ap (λ (ws : List ℕ). get_or (code.checks ws) j 0) (data_same code.r before now c small others)

  pub checks_more :
      ((j k : ℕ) → j < code.r → k < c + 1 → word_at after (16 + j) k ≡ check_at code before j k)
      × ((q : ℕ) → is_check code.r q ≡ false → get_or after q 0 ≡ get_or before q 0)
  checks_more = (at, λ q h. kept q (ap (λ (n : ℕ). is_check n q) r-is ∙ h) ∙ others q h)
    where
      at : (j k : ℕ) → j < code.r → k < c + 1 → word_at after (16 + j) k ≡ check_at code before j k
      at j k h l =
          elim (eq-or-lt_of_le (let m : k ≤ c = omega arith in m)) [
            | inl e ↦ subst (λ (x : ℕ). word_at after (16 + j) x ≡ check_at code before j x) (sym e) (this-word j h)
            | inr g ↦ elsewhere j k (omega arith) (λ e. let z : k ≡ c = e in omega arith) ∙ words j k h g
          ]
