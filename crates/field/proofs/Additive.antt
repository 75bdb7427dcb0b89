-- Maps of numbers that take exclusive-or to exclusive-or, and the product by tables, which is one in each factor.
-- Assumes nothing.
use Rattle.std.proofs.Common.{◌≡◌, ℕ, zero, suc, ◌+◌, ◌*◌, ◌/◌, ◌%◌, ◌^◌, ◌<◌, ◌≤◌, sym, ap, ◌∙◌, subst, ap₂, lt_of_lt_of_le, add-zero, mul_assoc, pow-suc, mul-zero, mul-one, arith, lit≤, pow_pos}
use Rattle.std.proofs.Math.Nat.{pow-le-pow_right}
use Rattle.std.specs.Int.Bits.{bit_xor, xor_block, xor_comm, xor_shr, xor_mod, xor_zero_r, xor_lt, xor_shifted}
use Rattle.field.specs.Polynomials.{double, times, product, word_product}
use Rattle.field.specs.ExclusiveOr.{xor-swap}
use Rattle.field.specs.Products.{times-xor_l, times-xor_r, times-double, product-xor_l, product-xor_r}
use Rattle.field.specs.Linear.{linear_agree}
use Rattle.field.specs.Computed.{same_at}

pub record Additive (f : ℕ → ℕ) : Type 0 where
  pub adds : (x y : ℕ) → f (bit_xor x y) ≡ bit_xor (f x) (f y)

add-sum : {f g : ℕ → ℕ} → Additive f → Additive g → Additive (λ x. bit_xor (f x) (g x))
add-sum {f} {g} F G = record { adds = λ x y. ap₂ bit_xor (F.adds x y) (G.adds x y) ∙ xor-swap (f x) (f y) (g x) (g y) }

add_then : {f g : ℕ → ℕ} → Additive f → Additive g → Additive (λ x. f (g x))
add_then {f} {g} F G = record { adds = λ x y. ap f (G.adds x y) ∙ F.adds (g x) (g y) }

add_up : (s : ℕ) → Additive (λ x. x * 2 ^ s)
add_up s = record { adds = at }
  where
    at : (x y : ℕ) → bit_xor x y * 2 ^ s ≡ bit_xor (x * 2 ^ s) (y * 2 ^ s)
    at x y =
        let e : bit_xor (x * 2 ^ s + 0) (y * 2 ^ s + 0)
        ≡ bit_xor x y * 2 ^ s + 0 = xor_block s x y 0 0 (pow_pos s) (pow_pos s) in
        simp add-zero at (sym e)

-- digit of sixteen at a place
add_digit : (s : ℕ) → Additive (λ x. x / 2 ^ s % 2 ^ 4)
add_digit s = record { adds = λ x y. ap (λ z. z % 2 ^ 4) (xor_shr x y s) ∙ xor_mod (x / 2 ^ s) (y / 2 ^ s) 4 }

add_right : (m k a : ℕ) → Additive (times 15 m k a)
add_right m k a = record { adds = times-xor_r 15 m k a }

add_left : (m k n : ℕ) → Additive (λ a. times 15 m k a n)
add_left m k n = record { adds = λ x y. times-xor_l 15 m k x y n }

add_low : (k : ℕ) → Additive (λ x. x % 2 ^ k)
add_low k = record { adds = λ x y. xor_mod x y k }

add_down : (k : ℕ) → Additive (λ x. x / 2 ^ k)
add_down k = record { adds = λ x y. xor_shr x y k }

-- ---- products with nothing reduced

double_plain : (v : ℕ) → double 15 0 v ≡ v * 2
unfolding double
double_plain v = ap (bit_xor (v * 2)) (let z : 0 * (v / 2 ^ 15 % 2) ≡ 0 = omega arith in z) ∙ xor_zero_r (v * 2)

times_up : (s k a n : ℕ) → times 15 0 k (a * 2 ^ s) n ≡ times 15 0 k a n * 2 ^ s
times_up zero k a n = ap (λ z. times 15 0 k z n) (let z : a * 1 ≡ a = omega arith in z)
    ∙ (let z : times 15 0 k a n ≡ times 15 0 k a n * 1 = omega arith in z)
times_up (suc s) k a n =
    ap (λ z. times 15 0 k z n) (twice a ∙ sym (double_plain (a * 2 ^ s)))
    ∙ times-double 15 0 k (a * 2 ^ s) n ∙ double_plain (times 15 0 k (a * 2 ^ s) n)
    ∙ ap (λ z. z * 2) (times_up s k a n) ∙ sym (twice (times 15 0 k a n))
  where
    twice : (v : ℕ) → v * 2 ^ suc s ≡ v * 2 ^ s * 2
    twice v = ap (λ z. v * z) (pow-suc 2 s) ∙ sym (mul_assoc v (2 ^ s) 2)

-- a word by its two bytes
pub nibble-bytes : (a n : ℕ) → bit_xor (times 15 0 4 (a % 256) n) (times 15 0 4 (a / 256) n * 256) ≡ times 15 0 4 a n
nibble-bytes a n =
    let low : a % 256 < 2 ^ 8 = omega arith in
    let whole : a / 256 * 256 + a % 256 ≡ a = omega arith in
    ap (bit_xor (times 15 0 4 (a % 256) n)) (sym (times_up 8 4 (a / 256) n))
    ∙ sym (times-xor_l 15 0 4 (a % 256) (a / 256 * 256) n)
    ∙ ap (λ z. times 15 0 4 z n) (xor_comm (a % 256) (a / 256 * 256) ∙ xor_shifted (a / 256) 8 (a % 256) low ∙ whole)

bit-lt : (a x k : ℕ) → x < 2 → a < 2 ^ k → a * x < 2 ^ k
bit-lt a zero k p q = subst (λ y. y < 2 ^ k) (sym (mul-zero a)) (pow_pos k)
bit-lt a (suc zero) k p q = subst (λ y. y < 2 ^ k) (sym (mul-one a)) q
bit-lt a (suc (suc x)) k p q = absurd (omega arith)

plain-lt : (k a n : ℕ) → a < 2 ^ 16 → times 15 0 k a n < 2 ^ (16 + k)
unfolding times
plain-lt zero a n h = pow_pos (16 + 0)
plain-lt (suc k) a n h =
    let up : 2 ^ (16 + suc k) ≡ 2 ^ (16 + k) * 2 = ap (λ z. 2 ^ z)
    (let z : 16 + suc k ≡ suc (16 + k) = omega arith in z) ∙ pow-suc 2 (16 + k) in
    let wide : 2 ^ 16 ≤ 2 ^ (16 + suc k) = pow-le-pow_right {n = 2} (lit≤ tt)
    (let z : 16 ≤ 16 + suc k = omega arith in z) in
    let one : n % 2 < 2 = omega arith in
    xor_lt (16 + suc k) (a * (n % 2)) _ (lt_of_lt_of_le (bit-lt a (n % 2) 16 one h) wide)
    (subst (λ z. z < 2 ^ (16 + suc k)) (sym (double_plain (times 15 0 k a (n / 2))))
    (omega (arith, up, plain-lt k a (n / 2) h)))

pub nibble-lt : (a n : ℕ) → a < 65536 → times 15 0 4 a n < 1048576
nibble-lt a n h = plain-lt 4 a n h

-- ---- the product by tables

abbrev pub whole : ℕ → ℕ → ℕ
whole a b =
    bit_xor (bit_xor (bit_xor (times 15 0 4 a (b % 16)) (times 15 0 4 a (b / 16 % 16) * 16))
    (times 15 0 4 a (b / 256 % 16) * 256))
    (times 15 0 4 a (b / 4096 % 16) * 4096)

abbrev pub back : ℕ → ℕ
back v = bit_xor (bit_xor (v % 65536) (times 15 0x1100B 8 0x100B (v / 65536 % 256)))
    (times 15 0x1100B 8 0x1BBB (v / 16777216))

back-add : Additive back
back-add =
    add-sum (add-sum (add_low 16) (add_then (add_right 0x1100B 8 0x100B) (add_then (add_low 8) (add_down 16))))
    (add_then (add_right 0x1100B 8 0x1BBB) (add_down 24))

part_right : (a s : ℕ) → Additive (λ b. times 15 0 4 a (b / 2 ^ s % 2 ^ 4) * 2 ^ s)
part_right a s = add_then (add_up s) (add_then (add_right 0 4 a) (add_digit s))

right-add : (a : ℕ) → Additive (λ b. back (whole a b))
right-add a =
    add_then back-add
    (add-sum (add-sum (add-sum (add_then (add_right 0 4 a) (add_low 4)) (part_right a 4)) (part_right a 8))
    (part_right a 12))

part_left : (n s : ℕ) → Additive (λ a. times 15 0 4 a n * 2 ^ s)
part_left n s = add_then (add_up s) (add_left 0 4 n)

left-add : (b : ℕ) → Additive (λ a. back (whole a b))
left-add b =
    add_then back-add
    (add-sum (add-sum (add-sum (add_left 0 4 (b % 16)) (part_left (b / 16 % 16) 4)) (part_left (b / 256 % 16) 8))
    (part_left (b / 4096 % 16) 12))

corners : (k : ℕ) → k < 256 → back (whole (2 ^ (k % 16)) (2 ^ (k / 16)))
    ≡ product 15 0x1100B (2 ^ (k % 16)) (2 ^ (k / 16))
unfolding product times double
corners = same_at (λ k. back (whole (2 ^ (k % 16)) (2 ^ (k / 16))))
    (λ k. product 15 0x1100B (2 ^ (k % 16)) (2 ^ (k / 16))) 256 tt

corner : (i j : ℕ) → i < 16 → j < 16 → back (whole (2 ^ j) (2 ^ i)) ≡ product 15 0x1100B (2 ^ j) (2 ^ i)
corner i j hi hj =
    let k : 16 * i + j < 256 = omega arith in
    let low : (16 * i + j) % 16 ≡ j = omega arith in
    let high : (16 * i + j) / 16 ≡ i = omega arith in
    ap₂ (λ u v. back (whole (2 ^ u) (2 ^ v))) (sym low) (sym high) ∙ corners (16 * i + j) k
    ∙ ap₂ (λ u v. product 15 0x1100B (2 ^ u) (2 ^ v)) low high

pub product_by_tables : (a b : ℕ) → a < 65536 → b < 65536 → back (whole a b) ≡ word_product a b
unfolding word_product
product_by_tables a b ha hb =
    linear_agree 16 (λ y. back (whole a y)) (product 15 0x1100B a) (λ x y p q. (right-add a).adds x y)
    (λ x y p q. product-xor_r 15 0x1100B a x y)
    (λ i hi.
    linear_agree 16 (λ x. back (whole x (2 ^ i))) (λ x. product 15 0x1100B x (2 ^ i))
    (λ x y p q. (left-add (2 ^ i)).adds x y)
    (λ x y p q. product-xor_l 15 0x1100B x y (2 ^ i)) (λ j hj. corner i j hi hj) a ha)
    b hb
