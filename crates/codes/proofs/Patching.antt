-- Missing words put into a blank column. Assumes nothing.
use Rattle.std.proofs.Common.{◌≡◌, ℕ, ◌<◌, ◌≤◌, Bool, true, false, ◌&&◌, ltb, List, length, get_or, sym, refl, ap, ap₂, ◌∙◌, inl, inr, arith}
use Rattle.std.proofs.lemmas.Bool.{cases_lt, lt-ltb, le-ltb}
use Rattle.std.proofs.lemmas.List.{get_or_past}
use Rattle.codes.specs.Filling.{missing_count, Keeps, Vanishes, FilledBySums}
use Rattle.codes.proofs.Blanking.{none-missing}

-- v is the word at position p of every column of zero sums that has the blank column's words
abbrev pub Forced : ℕ → (ℕ → ℕ → ℕ) → ℕ → ℕ → List ℕ → List Bool → ℕ → ℕ → Type 0
Forced w mul n r blank ms p v =
    missing_count ms n ≤ r → (ws : List ℕ) → Vanishes w mul n r ws → Keeps ws blank ms n → get_or ws p 0 ≡ v

module _ (w : ℕ) (mul : ℕ → ℕ → ℕ) (n r : ℕ) (blank : List ℕ) (ms : List Bool) where
  pub patched : (out : List ℕ) → n ≤ 20 → length blank ≡ 20 → length out ≡ 20
      → ((i : ℕ) → i < 20 → ltb i n && get_or ms i false ≡ true → Forced w mul n r blank ms i (get_or out i 0))
      → ((i : ℕ) → i < 20 → ltb i n && get_or ms i false ≡ false → get_or out i 0 ≡ get_or blank i 0)
      → FilledBySums w mul n r blank ms out
  patched out n20 lb lo on off = record {
    keeps = λ i e. off_all i (ap (λ t. ltb i n && t) e ∙ and_false (ltb i n));
    rest = λ i h. off_all i (ap (λ t. t && get_or ms i false) (le-ltb i n h));
    forced = λ few ws vs ks i l. at few ws vs ks i l (get_or ms i false) refl;
  }
    where
      and_false : (b : Bool) → (b && false) ≡ false
      and_false true = refl
      and_false false = refl

      off_all : (i : ℕ) → ltb i n && get_or ms i false ≡ false → get_or out i 0 ≡ get_or blank i 0
      off_all i e = elim (cases_lt i 20) [
        | inl l ↦ off i l e
        | inr g ↦ get_or_past out i 0 (omega arith) ∙ sym (get_or_past blank i 0 (omega arith))
      ]

      at : missing_count ms n ≤ r → (ws : List ℕ) → Vanishes w mul n r ws → Keeps ws blank ms n
          → (i : ℕ) → i < n → (t : Bool) → get_or ms i false ≡ t → get_or ws i 0 ≡ get_or out i 0
      at few ws vs ks i l true e = on i (omega arith) (ap₂ ◌&&◌ (lt-ltb i n l) e) few ws vs ks
      at few ws vs ks i l false e = ks i l e ∙ sym (off_all i (ap₂ ◌&&◌ (lt-ltb i n l) e))

  -- nothing to put in
  pub patch-whole : missing_count ms n ≡ 0 → FilledBySums w mul n r blank ms blank
  patch-whole z = record {
    keeps = λ i e. refl;
    rest = λ i h. refl;
    forced = λ few ws vs ks i l. ks i l (none-missing ms n z i l);
  }
