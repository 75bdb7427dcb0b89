-- Sums over the powers of distinct points: r that are 0, of at most r words that are not, leave none. Assumes nothing.
use Rattle.std.proofs.Common.{◌≡◌, ℕ, zero, suc, ◌^◌, ◌<◌, ◌≤◌, sym, ap, ◌∙◌, ap₂, inl, inr, arith, pow_pos}
use Rattle.std.specs.Int.Bits.{bit_xor, xor_self, xor_lt}
use Rattle.field.specs.Laws.{FieldLaws}
use Rattle.field.specs.Sums.{total, nonzeros}
use Rattle.field.proofs.Totals.{
  xor-equal,
  total_ext,
  total-xor,
  total_single,
  total-lt,
  nonzeros_none,
  nonzeros-less,
  search-nonzero,
}

module _ (w : ℕ) (mul : ℕ → ℕ → ℕ) (inv : ℕ → ℕ) (F : FieldLaws w mul inv) where
  pub zero_r : (a : ℕ) → a < 2 ^ w → mul a 0 ≡ 0
  zero_r a p = F.mul-xor a 0 0 p (pow_pos w) (pow_pos w) ∙ xor_self (mul a 0)

  pub xor_l : (a b c : ℕ) → a < 2 ^ w → b < 2 ^ w → c < 2 ^ w → mul (bit_xor a b) c ≡ bit_xor (mul a c) (mul b c)
  xor_l a b c p q r =
      F.mul_comm (bit_xor a b) c (xor_lt w a b p q) r ∙ F.mul-xor c a b r p q
      ∙ ap₂ bit_xor (F.mul_comm c a r p) (F.mul_comm c b r q)

  -- a product is 0 only where a factor is
  pub cancel : (a b : ℕ) → a < 2 ^ w → b < 2 ^ w → (a ≡ 0 → ⊥) → mul a b ≡ 0 → b ≡ 0
  cancel a b p q ne e =
      sym (F.mul-one b q)
      ∙ ap (λ x. mul x b) (sym (F.mul_inv a p ne) ∙ F.mul_comm a (inv a) p (F.inv-lt a p))
      ∙ F.mul_assoc (inv a) a b (F.inv-lt a p) p q
      ∙ ap (mul (inv a)) e ∙ zero_r (inv a) (F.inv-lt a p)

  pub total-mul : (c : ℕ) (f : ℕ → ℕ) (n : ℕ) → c < 2 ^ w → ((i : ℕ) → i < n → f i < 2 ^ w)
      → mul c (total f n) ≡ total (λ i. mul c (f i)) n
  unfolding total
  total-mul c f zero p h = zero_r c p
  total-mul c f (suc n) p h =
      F.mul-xor c (total f n) (f n) p (total-lt f w n (λ i q. h i (omega arith))) (h n (omega arith))
      ∙ ap (λ x. bit_xor x (mul c (f n))) (total-mul c f n p (λ i q. h i (omega arith)))

  -- n points x i, each with the powers c i 0, c i 1, ..
  module _ (n : ℕ) (x : ℕ → ℕ) (c : ℕ → ℕ → ℕ)
      (x_lt : (i : ℕ) → x i < 2 ^ w) (c_lt : (i j : ℕ) → c i j < 2 ^ w)
      (c-zero : (i : ℕ) → c i 0 ≡ 1) (c-suc : (i j : ℕ) → c i (suc j) ≡ mul (x i) (c i j)) where
    unfoldable pub moment : ℕ → (ℕ → ℕ) → ℕ
    moment j d = total (λ i. mul (c i j) (d i)) n

    -- each word times the point's distance from y
    unfoldable pub away : ℕ → (ℕ → ℕ) → ℕ → ℕ
    away y d i = mul (bit_xor (x i) y) (d i)

    pub away-lt : (y : ℕ) (d : ℕ → ℕ) → y < 2 ^ w → (i : ℕ) → d i < 2 ^ w → away y d i < 2 ^ w
    unfolding away
    away-lt y d p i q = F.mul-lt (bit_xor (x i) y) (d i) (xor_lt w (x i) y (x_lt i) p) q

    pub moment-step : (j y : ℕ) (d : ℕ → ℕ) → y < 2 ^ w → ((i : ℕ) → i < n → d i < 2 ^ w)
        → moment j (away y d) ≡ bit_xor (moment (suc j) d) (mul y (moment j d))
    unfolding moment away
    moment-step j y d p h =
        total_ext _ (λ i. bit_xor (mul (c i (suc j)) (d i)) (mul y (mul (c i j) (d i)))) n (λ i l. point i (h i l))
        ∙ total-xor (λ i. mul (c i (suc j)) (d i)) (λ i. mul y (mul (c i j) (d i))) n
        ∙ ap (bit_xor (total (λ i. mul (c i (suc j)) (d i)) n))
        (sym (total-mul y (λ i. mul (c i j) (d i)) n p (λ i l. F.mul-lt (c i j) (d i) (c_lt i j) (h i l))))
      where
        point : (i : ℕ) → d i < 2 ^ w
            → mul (c i j) (mul (bit_xor (x i) y) (d i)) ≡ bit_xor (mul (c i (suc j)) (d i)) (mul y (mul (c i j) (d i)))
        point i q =
            sym (F.mul_assoc (c i j) (bit_xor (x i) y) (d i) (c_lt i j) (xor_lt w (x i) y (x_lt i) p) q)
            ∙ ap (λ t. mul t (d i)) (F.mul-xor (c i j) (x i) y (c_lt i j) (x_lt i) p)
            ∙ xor_l (mul (c i j) (x i)) (mul (c i j) y) (d i) (F.mul-lt _ _ (c_lt i j) (x_lt i))
            (F.mul-lt _ _ (c_lt i j) p) q
            ∙ ap₂ bit_xor
            (ap (λ t. mul t (d i)) (F.mul_comm (c i j) (x i) (c_lt i j) (x_lt i) ∙ sym (c-suc i j)))
            (ap (λ t. mul t (d i)) (F.mul_comm (c i j) y (c_lt i j) p) ∙ F.mul_assoc y (c i j) (d i) p (c_lt i j) q)

    vanish_at : ((i j : ℕ) → i < n → j < n → x i ≡ x j → i ≡ j) → (r : ℕ) (d : ℕ → ℕ)
        → ((i : ℕ) → i < n → d i < 2 ^ w) → nonzeros d n ≤ suc r → ((j : ℕ) → j < suc r → moment j d ≡ 0)
        → ((e : ℕ → ℕ) → ((i : ℕ) → i < n → e i < 2 ^ w) → nonzeros e n ≤ r → ((j : ℕ) → j < r → moment j e ≡ 0)
        → (i : ℕ) → i < n → e i ≡ 0)
        → (p : ℕ) → p < n → (d p ≡ 0 → ⊥) → d p ≡ 0
    vanish_at apart r d h s z ih p l ne =
        sym (F.mul-one (d p) (h p l)) ∙ ap (λ t. mul t (d p)) (sym (c-zero p))
        ∙ sym (total_single (λ i. mul (c i 0) (d i)) n p l (λ i k q. ap (mul (c i 0)) (others i k q)
        ∙ zero_r (c i 0) (c_lt i 0)))
        ∙ first
      where
        first : total (λ i. mul (c i 0) (d i)) n ≡ 0
        first = unfold moment in z 0 (omega arith)

        here : away (x p) d p ≡ 0
        here = unfold away in ap (λ t. mul t (d p)) (xor_self (x p)) ∙ F.mul_comm 0 (d p) (pow_pos w) (h p l)
            ∙ zero_r (d p) (h p l)

        keeps : (i : ℕ) → i < n → d i ≡ 0 → away (x p) d i ≡ 0
        keeps i k q = unfold away in ap (mul (bit_xor (x i) (x p))) q ∙ zero_r _ (xor_lt w (x i) (x p) (x_lt i) (x_lt p))

        fewer : nonzeros (away (x p) d) n ≤ r
        fewer = omega (arith, nonzeros-less d (away (x p) d) n p l ne here keeps)

        moments : (j : ℕ) → j < r → moment j (away (x p) d) ≡ 0
        moments j k =
            moment-step j (x p) d (x_lt p) h
            ∙ ap₂ bit_xor (z (suc j) (omega arith)) (ap (mul (x p)) (z j (omega arith)) ∙ zero_r (x p) (x_lt p))

        others : (i : ℕ) → i < n → (i ≡ p → ⊥) → d i ≡ 0
        others i k q =
            cancel (bit_xor (x i) (x p)) (d i) (xor_lt w (x i) (x p) (x_lt i) (x_lt p)) (h i k)
            (λ t. q (apart i p k l (xor-equal (x i) (x p) t)))
            (unfold away in ih (away (x p) d) (λ i o. away-lt (x p) d (x_lt p) i (h i o)) fewer moments i k)

    -- r moments that are 0, and at most r words that are not: then all are 0
    pub vanish : ((i j : ℕ) → i < n → j < n → x i ≡ x j → i ≡ j) → (r : ℕ) (d : ℕ → ℕ)
        → ((i : ℕ) → i < n → d i < 2 ^ w) → nonzeros d n ≤ r → ((j : ℕ) → j < r → moment j d ≡ 0)
        → (i : ℕ) → i < n → d i ≡ 0
    vanish apart zero d h s z = nonzeros_none d n (omega arith)
    vanish apart (suc r) d h s z = elim (search-nonzero d n) [
      | inl all ↦ all
      | inr found ↦ absurd (found.2 (vanish_at apart r d h s z (vanish apart r) found.0 found.1 found.2))
    ]
