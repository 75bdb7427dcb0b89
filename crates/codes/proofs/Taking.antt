-- Missing positions taken out of the sums one by one, until one word is left. Assumes nothing.
use Rattle.std.proofs.Common.{◌≡◌, ℕ, zero, suc, ◌+◌, ◌*◌, ◌^◌, ◌<◌, ◌≤◌, Bool, true, false, cond, T, eqb, ◌⊎◌, List, get_or, sym, refl, ap, ◌∙◌, subst, ap₂, inl, inr, le_of_suc-le-suc, add-zero, eq-or-lt_of_le, add-one, arith, eqb→eq, pow_pos}
use Rattle.std.proofs.Math.Decide.{ℕ_discrete}
use Rattle.std.proofs.Math.Dec.{eqb_refl}
use Rattle.std.specs.Int.Bits.{bit_xor, xor_self, xor_lt}
use Rattle.field.specs.Laws.{FieldLaws}
use Rattle.field.specs.Sums.{total, weighted, power}
use Rattle.codes.specs.Filling.{missing_count}
use Rattle.field.proofs.Totals.{total_single, total_ext}
use Rattle.field.proofs.Vandermonde.{moment, away, moment-step, zero_r}
use Rattle.field.proofs.Powers.{power-lt, power_none, power-suc}

-- the missing positions below k other than p
unfoldable pub others_count : List Bool → ℕ → ℕ → ℕ
others_count ms p zero = 0
others_count ms p (suc k) = others_count ms p k + cond (get_or ms k false) (cond (eqb k p) 0 1) 0

others-take : (ms : List Bool) (p k : ℕ) → (k ≡ p → ⊥) → get_or ms k false ≡ true
    → others_count ms p (k + 1) ≡ others_count ms p k + 1
unfolding others_count
others-take ms p k ne miss =
    ap (others_count ms p) (add-one k)
    ∙ ap (λ t. others_count ms p k + cond t (cond (eqb k p) 0 1) 0) miss
    ∙ ap (λ t. others_count ms p k + t) (other (eqb k p) refl)
  where
    other : (b : Bool) → eqb k p ≡ b → cond {A = ℕ} b 0 1 ≡ 1
    other true q = absurd (ne (eqb→eq k p (subst T (sym q) tt)))
    other false q = refl

others-skip : (ms : List Bool) (p k : ℕ) → (get_or ms k false ≡ false) ⊎ (k ≡ p)
    → others_count ms p (k + 1) ≡ others_count ms p k
unfolding others_count
others-skip ms p k why =
    ap (others_count ms p) (add-one k) ∙ ap (λ t. others_count ms p k + t) (none why) ∙ add-zero (others_count ms p k)
  where
    on : (t b : Bool) → T b → cond {A = ℕ} t (cond b 0 1) 0 ≡ 0
    on true true q = refl
    on true false q = absurd q
    on false b q = refl

    none : (get_or ms k false ≡ false) ⊎ (k ≡ p) → cond {A = ℕ} (get_or ms k false) (cond (eqb k p) 0 1) 0 ≡ 0
    none (inl m) = ap (λ t. cond {A = ℕ} t (cond (eqb k p) 0 1) 0) m
    none (inr m) = on (get_or ms k false) (eqb k p) (subst (λ t. T (eqb k t)) m (eqb_refl k))

-- p is missing, so the others are fewer than all
pub others-fewer : (ms : List Bool) (p n : ℕ) → p < n → get_or ms p false ≡ true → others_count ms p n < missing_count ms n
unfolding others_count missing_count
others-fewer ms p zero l e = absurd (omega arith)
others-fewer ms p (suc n) l e = elim (eq-or-lt_of_le (le_of_suc-le-suc l)) [
  | inl q ↦ omega (
    arith,
    most n,
    ap (λ x. cond {A = ℕ} x 1 0) (sym (ap (λ k. get_or ms k false) q) ∙ e),
    at n
        (subst (λ t. T (eqb n t)) (sym q) (eqb_refl n)),
  )
  | inr k ↦ omega (arith, others-fewer ms p n k e, less (get_or ms n false) (eqb n p))
]
  where
    less : (t b : Bool) → cond {A = ℕ} t (cond b 0 1) 0 ≤ cond {A = ℕ} t 1 0
    less true true = omega arith
    less true false = omega arith
    less false b = omega arith

    on : (t b : Bool) → T b → cond {A = ℕ} t (cond b 0 1) 0 ≡ 0
    on true true q = refl
    on true false q = absurd q
    on false b q = refl

    at : (n : ℕ) → T (eqb n p) → cond {A = ℕ} (get_or ms n false) (cond (eqb n p) 0 1) 0 ≡ 0
    at n q = on (get_or ms n false) (eqb n p) q

    most : (n : ℕ) → others_count ms p n ≤ missing_count ms n
    most zero = omega arith
    most (suc n) = omega (arith, most n, less (get_or ms n false) (eqb n p))

-- the words f that are left of the differences e, once the missing positions below k other than p are taken out
pub record Red (mul : ℕ → ℕ → ℕ) (w a n r : ℕ) (ms : List Bool) (p k scale : ℕ) (sums : List ℕ) (e f : ℕ → ℕ) : Type 0
  where
    pub small : (i : ℕ) → i < n → f i < 2 ^ w
    pub off : (i : ℕ) → i < n → get_or ms i false ≡ false → f i ≡ 0
    pub dead : (i : ℕ) → i < n → i < k → (i ≡ p → ⊥) → f i ≡ 0
    pub own : f p ≡ mul scale (e p)
    pub total : (j : ℕ) → j + others_count ms p k < r → get_or sums j 0 ≡ weighted mul a n j f

module _ (w : ℕ) (mul : ℕ → ℕ → ℕ) (inv : ℕ → ℕ) (F : FieldLaws w mul inv) (one-lt : 1 < 2 ^ w) (a : ℕ)
    (a_lt : a < 2 ^ w)
    (n r : ℕ) (ms : List Bool) (p : ℕ) (p-lt : p < n) (e : ℕ → ℕ) (e-lt : (i : ℕ) → i < n → e i < 2 ^ w) where
  x_lt : (i : ℕ) → power mul a i < 2 ^ w
  x_lt = power-lt w mul inv F one-lt a a_lt

  weighted-step : (j y : ℕ) (d : ℕ → ℕ) → y < 2 ^ w → ((i : ℕ) → i < n → d i < 2 ^ w)
      → weighted mul a n j (λ i. mul (bit_xor (power mul a i) y) (d i))
      ≡ bit_xor (weighted mul a n (suc j) d) (mul y (weighted mul a n j d))
  unfolding weighted moment away
  weighted-step j y d q h =
      moment-step w mul inv F n (λ i. power mul a i) (λ i j. power mul a (i * j)) x_lt (λ i j. x_lt (i * j))
      (power_none w mul inv F one-lt a a_lt) (power-suc w mul inv F one-lt a a_lt) j y d q h

  pub red-start : (sums : List ℕ) → ((i : ℕ) → i < n → get_or ms i false ≡ false → e i ≡ 0)
      → ((j : ℕ) → j < r → get_or sums j 0 ≡ weighted mul a n j e) → Red mul w a n r ms p 0 1 sums e e
  unfolding others_count
  red-start sums off t = record {
    small = e-lt;
    off = off;
    dead = λ i h k. absurd (omega arith);
    own = sym (F.mul-one (e p) (e-lt p p-lt));
    total = λ j h. t j (omega arith);
  }

  -- a missing position k other than p
  pub red-take : (k scale : ℕ) (sums sums' : List ℕ) (f : ℕ → ℕ) → k < n → scale < 2 ^ w → (k ≡ p → ⊥)
      → get_or ms k false ≡ true
      → ((j : ℕ) → suc j < r → get_or sums' j 0 ≡ bit_xor (get_or sums (suc j) 0) (mul (power mul a k) (get_or sums j 0)))
      → Red mul w a n r ms p k scale sums e f
      → Red mul w a n r ms p (k + 1) (mul scale (bit_xor (power mul a p) (power mul a k))) sums' e
      (λ i. mul (bit_xor (power mul a i) (power mul a k)) (f i))
  red-take k scale sums sums' f l s-lt ne miss step red = record {
    small = λ i h. F.mul-lt _ _ (x2-lt i k) (red.small i h);
    off = λ i h q. ap (mul _) (red.off i h q) ∙ zero_r w mul inv F _ (x2-lt i k);
    dead = λ i h q o. elim (ℕ_discrete i k) [
      | yes z ↦ ap (λ t. mul (bit_xor (power mul a t) (power mul a k)) (f i)) z
          ∙ ap (λ t. mul t (f i)) (xor_self (power mul a k))
          ∙ F.mul_comm 0 (f i) (pow_pos w) (red.small i h) ∙ zero_r w mul inv F (f i) (red.small i h)
      | no z ↦ ap (mul (bit_xor (power mul a i) (power mul a k))) (red.dead i h (omega arith) o)
          ∙ zero_r w mul inv F _ (x2-lt i k)
    ];
    own = ap (mul (bit_xor (power mul a p) (power mul a k))) red.own
        ∙ sym (F.mul_assoc (bit_xor (power mul a p) (power mul a k)) scale (e p) (x2-lt p k) s-lt (e-lt p p-lt))
        ∙ ap (λ t. mul t (e p)) (F.mul_comm (bit_xor (power mul a p) (power mul a k)) scale (x2-lt p k) s-lt);
    total = λ j h.
        let u : suc j + others_count ms p k < r = omega (arith, more) in
        let v : j + others_count ms p k < r = omega (arith, more) in
        step j (omega arith) ∙ ap₂ bit_xor (red.total (suc j) u) (ap (mul (power mul a k)) (red.total j v))
        ∙ sym (weighted-step j (power mul a k) f (x_lt k) red.small);
  }
    where
      x2-lt : (i k : ℕ) → bit_xor (power mul a i) (power mul a k) < 2 ^ w
      x2-lt i k = xor_lt w (power mul a i) (power mul a k) (x_lt i) (x_lt k)

      more : others_count ms p (k + 1) ≡ others_count ms p k + 1
      more = others-take ms p k ne miss

  -- a position that is not taken out
  pub red-skip : (k scale : ℕ) (sums : List ℕ) (f : ℕ → ℕ) → (get_or ms k false ≡ false) ⊎ (k ≡ p)
      → Red mul w a n r ms p k scale sums e f → Red mul w a n r ms p (k + 1) scale sums e f
  red-skip k scale sums f why red = record {
    small = red.small;
    off = red.off;
    dead = λ i h q o. elim (ℕ_discrete i k) [
      | yes z ↦ elim why [ inl m ↦ red.off i h (ap (λ t. get_or ms t false) z ∙ m) | inr m ↦ absurd (o (z ∙ m)) ]
      | no z ↦ red.dead i h (omega arith) o
    ];
    own = red.own;
    total = λ j h. red.total j (omega (arith, same why));
  }
    where
      same : (get_or ms k false ≡ false) ⊎ (k ≡ p) → others_count ms p (k + 1) ≡ others_count ms p k
      same = others-skip ms p k

  weighted_zero_any : (f : ℕ → ℕ) → ((i : ℕ) → i < n → f i < 2 ^ w) → weighted mul a n 0 f ≡ total f n
  unfolding weighted
  weighted_zero_any f h = total_ext _ _ n (λ i q. ap (λ t. mul t (f i)) (power_none w mul inv F one-lt a a_lt i)
      ∙ F.mul-one (f i) (h i q))

  pub red_end : (scale over : ℕ) (sums : List ℕ) (f : ℕ → ℕ) → scale < 2 ^ w → over < 2 ^ w → mul over scale ≡ 1
      → others_count ms p n < r
      → Red mul w a n r ms p n scale sums e f → mul over (get_or sums 0 0) ≡ e p
  red_end scale over sums f s-lt o_lt one few red =
      ap (mul over) (red.total 0 (omega arith) ∙ sum_zero ∙ total_single f n p p-lt (λ i h o. red.dead i h h o)
      ∙ red.own)
      ∙ sym (F.mul_assoc over scale (e p) o_lt s-lt (e-lt p p-lt))
      ∙ ap (λ t. mul t (e p)) one
      ∙ F.mul-one (e p) (e-lt p p-lt)
    where
      sum_zero : weighted mul a n 0 f ≡ total f n
      sum_zero = weighted_zero_any f red.small
