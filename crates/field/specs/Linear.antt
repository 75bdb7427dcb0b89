-- Maps of words that take sums to sums: two that agree on the powers of two agree. Assumes nothing.
use Rattle.std.specs.Prelude.{◌≡◌, ℕ, zero, suc, ◌+◌, ◌*◌, ◌/◌, ◌%◌, ◌^◌, ◌<◌, ◌≤◌, List, [], ◌∷◌, bit_xor, refl}
use Rattle.std.proofs.Common.{sym, ◌∙◌, ap, ap₂, subst, one-mul, mod-lt, div-lt_iff_lt-mul, div-add-mod', le_refl, le_of_suc-le-suc, zero-mul, zero-add, pow_pos}
use Rattle.std.proofs.Math.Nat.{lt_trans, le_of_suc-le}
use Rattle.std.proofs.Math.Arith.{le-zero}
use Rattle.std.proofs.Math.Nat.{pow-succ'}
use Rattle.std.proofs.Math.Pow.{pow-lt}
use Rattle.std.specs.Int.Bits.{xor_self, xor_shifted}
use Rattle.field.specs.ExclusiveOr.{xor-swap, xor_low, xor_half, bit_right, mod2-lt, not-two}

-- a map of words that takes sums to sums
abbrev pub Linear : ℕ → (ℕ → ℕ) → Type 0
Linear w f = (a b : ℕ) → a < 2 ^ w → b < 2 ^ w → f (bit_xor a b) ≡ bit_xor (f a) (f b)

-- two such maps that agree on the powers of two agree on every word
pub linear_agree : (w : ℕ) (f g : ℕ → ℕ) → Linear w f → Linear w g → ((i : ℕ) → i < w → f (2 ^ i) ≡ g (2 ^ i))
    → (a : ℕ) → a < 2 ^ w → f a ≡ g a
linear_agree w f g lf lg e = go w (le_refl w)
  where
    zero_at : (k : ℕ → ℕ) → Linear w k → k 0 ≡ 0
    zero_at k lk = lk 0 0 (pow_pos w) (pow_pos w) ∙ xor_self (k 0)

    step : (k a q r : ℕ) → suc k ≤ w → q < 2 → r < 2 ^ k → a ≡ q * 2 ^ k + r → f r ≡ g r → f a ≡ g a
    step k a zero r n p q c ih =
        let d : a ≡ r = c ∙ ap (λ x. x + r) (zero-mul (2 ^ k)) ∙ zero-add r in
        ap f d ∙ ih ∙ sym (ap g d)
    step k a (suc zero) r n p q c ih =
        let u : 2 ^ k < 2 ^ w = pow-lt {i = k} {j = w} n in
        let v : r < 2 ^ w = lt_trans q u in
        let d : a ≡ bit_xor (2 ^ k) r =
        c ∙ sym (xor_shifted 1 k r q) ∙ ap (λ x. bit_xor x r) (one-mul (2 ^ k)) in
        ap f d ∙ lf (2 ^ k) r u v ∙ ap₂ bit_xor (e k n) ih ∙ sym (lg (2 ^ k) r u v) ∙ sym (ap g d)
    step k a (suc (suc x)) r n p q c ih = absurd (not-two p)

    go : (k : ℕ) → k ≤ w → (a : ℕ) → a < 2 ^ k → f a ≡ g a
    go zero n a p =
        let d : a ≡ 0 = le-zero (le_of_suc-le-suc p) in
        ap f d ∙ zero_at f lf ∙ sym (zero_at g lg)
        ∙ sym (ap g d)
    go (suc k) n a p =
        step k a (a / 2 ^ k) (a % 2 ^ k) n ((div-lt_iff_lt-mul (pow_pos k)).1 (subst (λ x. a < x) (pow-succ' 2 k) p))
        (mod-lt a (pow_pos k)) (sym (div-add-mod' a (2 ^ k)))
        (go k (le_of_suc-le n) (a % 2 ^ k) (mod-lt a (pow_pos k)))

-- the map of words that takes 2 ^ i to row i
unfoldable pub combine : List ℕ → ℕ → ℕ
combine [] v = 0
combine (r ∷ rs) v = bit_xor (r * (v % 2)) (combine rs (v / 2))

pub combine-xor : (rs : List ℕ) (a b : ℕ) → combine rs (bit_xor a b) ≡ bit_xor (combine rs a) (combine rs b)
unfolding combine
combine-xor [] a b = refl
combine-xor (r ∷ rs) a b =
    ap₂ bit_xor (ap (λ x. r * x) (xor_low a b) ∙ bit_right r (a % 2) (b % 2) (mod2-lt a) (mod2-lt b))
    (ap (combine rs) (xor_half a b) ∙ combine-xor rs (a / 2) (b / 2))
    ∙ xor-swap (r * (a % 2)) (r * (b % 2)) _ _
