-- Products of words modulo a polynomial: linear, commutative, associative, of the same width. Assumes nothing.
use Rattle.std.specs.Prelude.{◌≡◌, ℕ, zero, suc, ◌+◌, ◌*◌, ◌/◌, ◌%◌, ◌^◌, ◌<◌, ◌≤◌, bit_xor}
use Rattle.std.proofs.Math.Path.{refl, sym, ap, ap₂}
use Rattle.std.proofs.Common.{◌∙◌, subst, le_refl, mul-one, div-lt_iff_lt-mul, zero-mul, zero-add, one-mul, mod-lt, le_of_suc-le-suc, lit<}
use Rattle.std.proofs.Math.Nat.{pow-succ', lt_of_lt_of_le, mul-zero, zero-div, pow-suc, add-mul, mul_assoc, le_of_suc-le, mul-lt-mul_of_pos_right, div-eq_of_lt, div-add-mod', pow-le-pow_right}
use Rattle.std.proofs.Math.Arith.{le-zero}
use Rattle.std.proofs.Math.Pow.{pow_pos}
use Rattle.std.specs.Int.Bits.{xor_comm, xor_self, xor_zero_r, xor_lt, xor_block, xor_shifted}
use Rattle.std.proofs.lemmas.Nat.{xor_shr}
use Rattle.field.specs.ExclusiveOr.{bit_left, bit_right, mod2-lt, not-two, xor_half, xor_low, xor-swap, xor-twice}
use Rattle.field.specs.Polynomials.{double, times, product}

-- ---- the double is linear

module _ (h m : ℕ) where
  pub double-xor : (a b : ℕ) → double h m (bit_xor a b) ≡ bit_xor (double h m a) (double h m b)
  unfolding double
  double-xor a b =
      ap₂ bit_xor (xor-twice a b)
      (ap (λ x. m * x) (ap (λ x. x % 2) (xor_shr a b h) ∙ xor_low (a / 2 ^ h) (b / 2 ^ h))
      ∙ bit_right m (a / 2 ^ h % 2) (b / 2 ^ h % 2) (mod2-lt _) (mod2-lt _))
      ∙ xor-swap (a * 2) (b * 2) (m * (a / 2 ^ h % 2)) (m * (b / 2 ^ h % 2))

  pub double_zero : double h m 0 ≡ 0
  unfolding double
  double_zero =
      ap₂ bit_xor (zero-mul 2) (ap (λ x. m * (x % 2)) (zero-div (2 ^ h)) ∙ mul-zero m) ∙ xor_self 0

  -- a word times a bit, doubled
  double-bit : (a x : ℕ) → x < 2 → double h m (a * x) ≡ double h m a * x
  double-bit a zero p = ap (double h m) (mul-zero a) ∙ double_zero ∙ sym (mul-zero _)
  double-bit a (suc zero) p = ap (double h m) (mul-one a) ∙ sym (mul-one _)
  double-bit a (suc (suc x)) p = absurd (not-two p)

  pub times-xor_l : (k a b c : ℕ) → times h m k (bit_xor a b) c ≡ bit_xor (times h m k a c) (times h m k b c)
  unfolding times
  times-xor_l zero a b c = refl
  times-xor_l (suc k) a b c =
      ap₂ bit_xor (bit_left a b (c % 2) (mod2-lt c))
      (ap (double h m) (times-xor_l k a b (c / 2)) ∙ double-xor (times h m k a (c / 2)) (times h m k b (c / 2)))
      ∙ xor-swap (a * (c % 2)) (b * (c % 2)) _ _

  pub times-xor_r : (k a b c : ℕ) → times h m k a (bit_xor b c) ≡ bit_xor (times h m k a b) (times h m k a c)
  unfolding times
  times-xor_r zero a b c = refl
  times-xor_r (suc k) a b c =
      ap₂ bit_xor (ap (λ x. a * x) (xor_low b c) ∙ bit_right a (b % 2) (c % 2) (mod2-lt b) (mod2-lt c))
      (ap (double h m) (ap (times h m k a) (xor_half b c) ∙ times-xor_r k a (b / 2) (c / 2))
      ∙ double-xor (times h m k a (b / 2)) (times h m k a (c / 2)))
      ∙ xor-swap (a * (b % 2)) (a * (c % 2)) _ _

  pub times_zero_l : (k c : ℕ) → times h m k 0 c ≡ 0
  unfolding times
  times_zero_l zero c = refl
  times_zero_l (suc k) c = ap₂ bit_xor (zero-mul (c % 2)) (ap (double h m) (times_zero_l k (c / 2)) ∙ double_zero)

  pub times_zero_r : (k a : ℕ) → times h m k a 0 ≡ 0
  unfolding times
  times_zero_r zero a = refl
  times_zero_r (suc k) a = ap₂ bit_xor (mul-zero a) (ap (double h m) (times_zero_r k a) ∙ double_zero)

  times-bit : (k a c x : ℕ) → x < 2 → times h m k (a * x) c ≡ times h m k a c * x
  times-bit k a c zero p = ap (λ y. times h m k y c) (mul-zero a) ∙ times_zero_l k c ∙ sym (mul-zero _)
  times-bit k a c (suc zero) p = ap (λ y. times h m k y c) (mul-one a) ∙ sym (mul-one _)
  times-bit k a c (suc (suc x)) p = absurd (not-two p)

  pub times-double : (k a c : ℕ) → times h m k (double h m a) c ≡ double h m (times h m k a c)
  unfolding times
  times-double zero a c = sym double_zero
  times-double (suc k) a c =
      ap₂ bit_xor (sym (double-bit a (c % 2) (mod2-lt c))) (ap (double h m) (times-double k a (c / 2)))
      ∙ sym (double-xor (a * (c % 2)) (double h m (times h m k a (c / 2))))

  pub times_exchange : (k l a b c : ℕ) → times h m k (times h m l a c) b ≡ times h m l (times h m k a b) c
  unfolding times
  times_exchange zero l a b c = sym (times_zero_l l c)
  times_exchange (suc k) l a b c =
      ap₂ bit_xor (sym (times-bit l a c (b % 2) (mod2-lt b)))
      (ap (double h m) (times_exchange k l a (b / 2) c) ∙ sym (times-double l (times h m k a (b / 2)) c))
      ∙ sym (times-xor_l l (a * (b % 2)) (double h m (times h m k a (b / 2))) c)

  -- where the top bit is not set, the double is twice the number
  double-low : (v : ℕ) → v < 2 ^ h → double h m v ≡ v * 2
  unfolding double
  double-low v p =
      ap (bit_xor (v * 2)) (ap (λ x. m * (x % 2)) (div-eq_of_lt p) ∙ mul-zero m) ∙ xor_zero_r (v * 2)

  half_lt : (b k : ℕ) → b < 2 ^ suc k → b / 2 < 2 ^ k
  half_lt b k p = (div-lt_iff_lt-mul (lit< tt)).1 (subst (λ x. b < x) (pow-suc 2 k) p)

  one-times : (k b : ℕ) → k ≤ suc h → b < 2 ^ k → times h m k 1 b ≡ b
  unfolding times
  one-times zero b q p = sym (le-zero (le_of_suc-le-suc p))
  one-times (suc k) b q p =
      let r : b / 2 < 2 ^ k = half_lt b k p in
      let u : k ≤ h = le_of_suc-le-suc q in
      let t : b / 2 < 2 ^ h = lt_of_lt_of_le r (pow-le-pow_right {n = 2} (lit< tt) u) in
      let v : k ≤ suc h = le_of_suc-le q in
      ap₂ bit_xor (one-mul (b % 2)) (ap (double h m) (one-times k (b / 2) v r) ∙ double-low (b / 2) t)
      ∙ xor_comm (b % 2) (b / 2 * 2) ∙ xor_shifted (b / 2) 1 (b % 2) (mod2-lt b) ∙ div-add-mod' b 2

  pub product_comm : (a b : ℕ) → a < 2 ^ suc h → b < 2 ^ suc h → product h m a b ≡ product h m b a
  unfolding product
  product_comm a b p q =
      ap (λ x. times h m (suc h) x b) (sym (one-times (suc h) a (le_refl _) p))
      ∙ times_exchange (suc h) (suc h) 1 b a
      ∙ ap (λ x. times h m (suc h) x a) (one-times (suc h) b (le_refl _) q)

  pub product_one_l : (a : ℕ) → a < 2 ^ suc h → product h m 1 a ≡ a
  unfolding product
  product_one_l a p = one-times (suc h) a (le_refl _) p

  pub product-xor_l : (a b c : ℕ) → product h m (bit_xor a b) c ≡ bit_xor (product h m a c) (product h m b c)
  unfolding product
  product-xor_l a b c = times-xor_l (suc h) a b c

  pub product-xor_r : (a b c : ℕ) → product h m a (bit_xor b c) ≡ bit_xor (product h m a b) (product h m a c)
  unfolding product
  product-xor_r a b c = times-xor_r (suc h) a b c

  pub product_zero_l : (c : ℕ) → product h m 0 c ≡ 0
  unfolding product
  product_zero_l c = times_zero_l (suc h) c

  pub product_zero_r : (a : ℕ) → product h m a 0 ≡ 0
  unfolding product
  product_zero_r a = times_zero_r (suc h) a

  product_exchange : (x y z : ℕ) → product h m (product h m x y) z ≡ product h m (product h m x z) y
  unfolding product
  product_exchange x y z = times_exchange (suc h) (suc h) x z y

-- the polynomial has degree h + 1
module _ (h m low : ℕ) (top : m ≡ 1 * 2 ^ suc h + low) (low-lt : low < 2 ^ suc h) where
  twice_lt : (r : ℕ) → r < 2 ^ h → r * 2 < 2 ^ suc h
  twice_lt r p = subst (λ x. r * 2 < x) (sym (pow-suc 2 h)) (mul-lt-mul_of_pos_right p (lit< tt))

  pub double-lt : (v : ℕ) → v < 2 ^ suc h → double h m v < 2 ^ suc h
  unfolding double
  double-lt v p =
      go (v / 2 ^ h) (v % 2 ^ h)
      ((div-lt_iff_lt-mul (pow_pos h)).1 (subst (λ x. v < x) (pow-succ' 2 h) p))
      (mod-lt v (pow_pos h)) (sym (div-add-mod' v (2 ^ h)))
    where
      go : (q r : ℕ) → q < 2 → r < 2 ^ h → v ≡ q * 2 ^ h + r → bit_xor (v * 2) (m * (q % 2)) < 2 ^ suc h
      go zero r a b c =
          let e : bit_xor (v * 2) (m * 0) ≡ r * 2 =
          ap (bit_xor (v * 2)) (mul-zero m) ∙ xor_zero_r (v * 2)
          ∙ ap (λ x. x * 2) (c ∙ ap (λ x. x + r) (zero-mul (2 ^ h)) ∙ zero-add r) in
          subst (λ x. x < 2 ^ suc h) (sym e) (twice_lt r b)
      go (suc zero) r a b c =
          let d : v * 2 ≡ 1 * 2 ^ suc h + r * 2 =
          ap (λ x. x * 2) c ∙ add-mul (1 * 2 ^ h) r 2
          ∙ ap (λ x. x + r * 2) (mul_assoc 1 (2 ^ h) 2 ∙ ap (λ x. 1 * x) (sym (pow-suc 2 h))) in
          let lt : r * 2 < 2 ^ suc h = twice_lt r b in
          let e : bit_xor (v * 2) (m * 1) ≡ 0 * 2 ^ suc h + bit_xor (r * 2) low =
          ap₂ bit_xor d (mul-one m ∙ top) ∙ xor_block (suc h) 1 1 (r * 2) low lt low-lt in
          let z : 0 * 2 ^ suc h + bit_xor (r * 2) low ≡ bit_xor (r * 2) low =
          ap (λ x. x + bit_xor (r * 2) low) (zero-mul (2 ^ suc h)) ∙ zero-add (bit_xor (r * 2) low) in
          subst (λ x. x < 2 ^ suc h) (sym (e ∙ z)) (xor_lt (suc h) (r * 2) low lt low-lt)
      go (suc (suc q)) r a b c = absurd (not-two a)

  bit-lt : (a x k : ℕ) → x < 2 → a < 2 ^ k → a * x < 2 ^ k
  bit-lt a zero k p q = subst (λ y. y < 2 ^ k) (sym (mul-zero a)) (pow_pos k)
  bit-lt a (suc zero) k p q = subst (λ y. y < 2 ^ k) (sym (mul-one a)) q
  bit-lt a (suc (suc x)) k p q = absurd (not-two p)

  times-lt : (k a b : ℕ) → a < 2 ^ suc h → times h m k a b < 2 ^ suc h
  unfolding times
  times-lt zero a b p = pow_pos (suc h)
  times-lt (suc k) a b p = xor_lt (suc h) (a * (b % 2)) _ (bit-lt a (b % 2) (suc h) (mod2-lt b) p)
      (double-lt _ (times-lt k a (b / 2) p))

  pub product_lt : (a b : ℕ) → a < 2 ^ suc h → product h m a b < 2 ^ suc h
  unfolding product
  product_lt a b p = times-lt (suc h) a b p

  pub product_assoc : (a b c : ℕ) → a < 2 ^ suc h → b < 2 ^ suc h → c < 2 ^ suc h
      → product h m (product h m a b) c ≡ product h m a (product h m b c)
  product_assoc a b c p q r =
      ap (λ x. product h m x c) (product_comm h m a b p q)
      ∙ product_exchange h m b a c
      ∙ product_comm h m (product h m b c) a (product_lt b c q) p
