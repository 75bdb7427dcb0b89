-- Steps of the loop that inverts two-byte words. Assumes nothing.
use Rattle.std.proofs.Common.{◌≡◌, ℕ, suc, ◌+◌, ◌-◌, ◌<◌, ◌≤◌, sym, refl, ap, ◌∙◌, subst, ap₂, arith, lit<}
use Rattle.field.specs.Polynomials.{squares, inverse, word_product, word_inverse}
use Rattle.field.specs.Inverses.{squares-lt}
use Rattle.field.specs.TwoFields.{word_field_laws}

sq_lt' : (n b : ℕ) → b < 65536 → squares 15 0x1100B n b < 65536
sq_lt' n b p = squares-lt 15 0x1100B 0x100B refl (lit< tt) n b (lit< tt) p

pub squares-start : (a q : ℕ) → a < 65536 → q ≡ word_product a a
    → word_product 1 (squares 15 0x1100B 15 q) ≡ word_inverse a
unfolding inverse word_product word_inverse
squares-start a q h e =
    let lt : q < 65536 = subst (λ t. t < 65536) (sym e) (word_field_laws.mul-lt a a h h) in
    word_field_laws.mul-one _ (sq_lt' 15 q lt) ∙ ap (squares 15 0x1100B 15) e

pub squares-step : (i p q p' q' v : ℕ) → i < 15 → p < 65536 → q < 65536 → p' ≡ word_product p q → q' ≡ word_product q q
    → word_product p (squares 15 0x1100B (15 - i) q) ≡ v → word_product p' (squares 15 0x1100B (15 - (i + 1)) q') ≡ v
squares-step i p q p' q' v h pl ql ep eq e =
    ap₂ (λ x y. word_product x (squares 15 0x1100B (15 - (i + 1)) y)) ep eq
    ∙ word_field_laws.mul_assoc p q (squares 15 0x1100B (15 - (i + 1)) (word_product q q)) pl ql
    (sq_lt' _ _ (word_field_laws.mul-lt q q ql ql))
    ∙ ap (word_product p) (unroll (15 - (i + 1))
    ∙ ap (λ n. squares 15 0x1100B n q) (let z : suc (15 - (i + 1)) ≡ 15 - i = omega arith in z))
    ∙ e
  where
    unroll : (n : ℕ) → word_product q (squares 15 0x1100B n (word_product q q)) ≡ squares 15 0x1100B (suc n) q
    unroll n = unfold squares word_product in refl

pub squares_end : (i p q v : ℕ) → 15 ≤ i → p < 65536 → word_product p (squares 15 0x1100B (15 - i) q) ≡ v → p ≡ v
squares_end i p q v h pl e =
    sym (word_field_laws.mul_comm p 1 pl (lit< tt) ∙ word_field_laws.mul-one p pl) ∙ ap (word_product p) none ∙ e
  where
    none : 1 ≡ squares 15 0x1100B (15 - i) q
    none = sym (ap (λ n. squares 15 0x1100B n q) (let z : 15 - i ≡ 0 = omega arith in z) ∙ (unfold squares in refl))
