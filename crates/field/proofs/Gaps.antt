-- An inverse is known by its product. Assumes nothing.
use Rattle.std.proofs.Common.{◌≡◌, ℕ, ◌^◌, ◌<◌, Bool, true, false, cond, ◌&&◌, T, eqb, ltb, sym, refl, ap, ◌∙◌, subst, arith, lit<, eqb→eq}
use Rattle.std.specs.Int.Bits.{bit_xor, xor_self, xor_lt}
use Rattle.std.proofs.lemmas.Bool.{ltb-true}
use Rattle.field.specs.Polynomials.{double, times, product, squares, inverse, word_product, word_inverse}
use Rattle.field.specs.Sums.{power}
use Rattle.field.specs.Products.{product_zero_l}
use Rattle.field.proofs.Powers.{power-lt}
use Rattle.field.specs.TwoFields.{word_field_laws}

-- e is 0 at two equal positions, and undoes the sum of their points at others
unfoldable pub is_gap : ℕ → ℕ → ℕ → Bool
is_gap i k e =
    cond (eqb i k) (eqb e 0) (ltb e 65536 && eqb
    (word_product (bit_xor (power word_product 2 i) (power word_product 2 k)) e) 1)

zero-inverse : word_inverse 0 ≡ 0
unfolding word_inverse inverse squares product times double
zero-inverse = refl

inverse_only : (a e : ℕ) → a < 2 ^ 16 → e < 2 ^ 16 → word_product a e ≡ 1 → e ≡ word_inverse a
inverse_only a e ha he one =
    sym (word_field_laws.mul-one e he)
    ∙ ap (λ t. word_product t e) (sym (word_field_laws.mul_inv a ha nonzero) ∙ word_field_laws.mul_comm a (word_inverse a) ha hi)
    ∙ word_field_laws.mul_assoc (word_inverse a) a e hi ha he
    ∙ ap (word_product (word_inverse a)) one
    ∙ word_field_laws.mul_comm (word_inverse a) 1 hi (lit< tt) ∙ word_field_laws.mul-one (word_inverse a) hi
  where
    hi : word_inverse a < 2 ^ 16
    hi = word_field_laws.inv-lt a ha

    zero : word_product 0 e ≡ 0
    zero = unfold word_product in product_zero_l 15 0x1100B e

    nonzero : a ≡ 0 → ⊥
    nonzero z = let n : ◌≡◌ {A = ℕ} 0 1 = sym zero ∙ ap (λ t. word_product t e) (sym z) ∙ one in omega arith

and_both : (a b : Bool) → T (a && b) → T a × T b
and_both true b t = (tt, t)
and_both false b t = absurd t

true_is : (b : Bool) → T b → b ≡ true
true_is true t = refl
true_is false t = absurd t

pub gap-inverse : (i k e : ℕ) → T (is_gap i k e)
    → e ≡ word_inverse (bit_xor (power word_product 2 i) (power word_product 2 k))
gap-inverse i k e t = go (eqb i k) refl (opened t)
  where
    d : ℕ
    d = bit_xor (power word_product 2 i) (power word_product 2 k)

    p-lt : (n : ℕ) → power word_product 2 n < 2 ^ 16
    p-lt = power-lt 16 word_product word_inverse word_field_laws (lit< tt) 2 (lit< tt)

    opened : T (is_gap i k e) → T (cond (eqb i k) (eqb e 0)
        (ltb e 65536 && eqb (word_product (bit_xor (power word_product 2 i) (power word_product 2 k)) e) 1))
    opened t = unfold is_gap in t

    go : (b : Bool) → eqb i k ≡ b
        → T (cond b (eqb e 0) (ltb e 65536 && eqb
        (word_product (bit_xor (power word_product 2 i) (power word_product 2 k)) e) 1))
        → e ≡ word_inverse (bit_xor (power word_product 2 i) (power word_product 2 k))
    go true q t =
        eqb→eq e 0 t ∙ sym (ap word_inverse
        (ap (λ n. bit_xor (power word_product 2 n) (power word_product 2 k)) (eqb→eq i k (subst T (sym q) tt))
        ∙ xor_self (power word_product 2 k)) ∙ zero-inverse)
    go false q t =
        let both = and_both (ltb e 65536)
        (eqb (word_product (bit_xor (power word_product 2 i) (power word_product 2 k)) e) 1) t in
        inverse_only _ e (xor_lt 16 _ _ (p-lt i) (p-lt k)) (ltb-true e 65536 (true_is (ltb e 65536) both.0))
        (eqb→eq (word_product (bit_xor (power word_product 2 i) (power word_product 2 k)) e) 1 both.1)
