-- One missing word from the sums of a column, over any field. Assumes nothing.
use Rattle.std.proofs.Common.{◌≡◌, ℕ, ◌+◌, ◌^◌, ◌<◌, ◌≤◌, Bool, true, false, ◌⊎◌, List, get_or, sym, ap, ◌∙◌, add-one, arith, lit≤}
use Rattle.std.proofs.Math.Nat.{pow-le-pow_right}
use Rattle.std.specs.Int.Bits.{bit_xor, xor_lt, xor_self}
use Rattle.field.specs.Laws.{FieldLaws, PowersDiffer}
use Rattle.field.specs.Sums.{power, weighted}
use Rattle.field.proofs.Totals.{xor-equal}
use Rattle.field.proofs.Powers.{power-lt, weighted-xor}
use Rattle.codes.specs.Filling.{Keeps, Differs, Vanishes, missing_count}
use Rattle.codes.proofs.Taking.{Red, red-start, red-take, red-skip, red_end, others-fewer}

pub two-below : (w : ℕ) → 2 ≤ w → 2 < 2 ^ w
two-below w h = let four : 4 ≤ 2 ^ w = pow-le-pow_right {n = 2} (lit≤ tt) h in omega arith

pub one_below : (w : ℕ) → 2 ≤ w → 1 < 2 ^ w
one_below w h = omega (arith, two-below w h)

-- what holds as the turn at k begins
pub record Held (mul : ℕ → ℕ → ℕ) (w n r : ℕ) (ms : List Bool) (p : ℕ) (totals : List ℕ) (k over : ℕ)
    (sums : List ℕ) : Type 0 where
  pub scale : ℕ
  pub low : scale < 2 ^ w
  pub over-low : over < 2 ^ w
  pub undone : mul over scale ≡ 1
  pub left : (e : ℕ → ℕ) → Differs w mul n r ms totals e → (f : ℕ → ℕ) × Red mul w 2 n r ms p k scale sums e f

module _ (w : ℕ) (mul : ℕ → ℕ → ℕ) (inv : ℕ → ℕ) (F : FieldLaws w mul inv) (wide : 2 ≤ w)
    (differ : PowersDiffer mul 2 20) (n r : ℕ) where
  x_lt : (k : ℕ) → power mul 2 k < 2 ^ w
  x_lt = power-lt w mul inv F (one_below w wide) 2 (two-below w wide)

  -- a right column that has the words present differs from the blank one by words that have the blank one's sums
  pub differs_from : (blank : List ℕ) (ms : List Bool) (totals ws : List ℕ)
      → ((k : ℕ) → k < n → get_or blank k 0 < 2 ^ w)
      → ((j : ℕ) → j < r → get_or totals j 0 ≡ weighted mul 2 n j (λ i. get_or blank i 0))
      → Vanishes w mul n r ws → Keeps ws blank ms n
      → Differs w mul n r ms totals (λ i. bit_xor (get_or ws i 0) (get_or blank i 0))
  differs_from blank ms totals ws bl t v keeps = record {
    small = λ i h. xor_lt w _ _ (v.small i h) (bl i h);
    off = λ i h q. ap (λ u. bit_xor u (get_or blank i 0)) (keeps i h q) ∙ xor_self (get_or blank i 0);
    total = λ j h. t j h ∙ ap (λ u. bit_xor u (weighted mul 2 n j (λ i. get_or blank i 0))) (sym (v.sums j h))
        ∙ sym (weighted-xor w mul inv F (one_below w wide) 2 (two-below w wide) n j (λ i. get_or ws i 0)
        (λ i. get_or blank i 0) v.small bl);
  }

  module _ (n-le : n ≤ 20) (ms : List Bool) (p : ℕ) (p-lt : p < n) (totals : List ℕ) where
    step : ℕ → ℕ
    step k = bit_xor (power mul 2 p) (power mul 2 k)

    step-lt : (k : ℕ) → step k < 2 ^ w
    unfolding step
    step-lt k = xor_lt w _ _ (x_lt p) (x_lt k)

    step-undone : (k : ℕ) → k < n → (k ≡ p → ⊥) → mul (inv (step k)) (step k) ≡ 1
    unfolding step
    step-undone k l ne =
        F.mul_comm (inv (step k)) (step k) (F.inv-lt (step k) (step-lt k)) (step-lt k)
        ∙ F.mul_inv (step k) (step-lt k) (λ e. ne (sym (differ p k (omega arith) (omega arith) (xor-equal _ _ e))))

    -- what undoes two factors undoes their product
    undone_more : (o s u v : ℕ) → o < 2 ^ w → s < 2 ^ w → u < 2 ^ w → v < 2 ^ w → mul o s ≡ 1 → mul u v ≡ 1
        → mul (mul o u) (mul s v) ≡ 1
    undone_more o s u v ol sl ul vl os uv =
        F.mul_assoc o u (mul s v) ol ul (F.mul-lt s v sl vl)
        ∙ ap (mul o) (ap (mul u) (F.mul_comm s v sl vl) ∙ sym (F.mul_assoc u v s ul vl sl) ∙ ap (λ t. mul t s) uv
        ∙ F.mul-one s sl)
        ∙ os

    pub held_start : Held mul w n r ms p totals 0 1 totals
    held_start = record {
      scale = 1;
      low = one_below w wide;
      over-low = one_below w wide;
      undone = F.mul-one 1 (one_below w wide);
      left = λ e d. (
        e,
        red-start w mul inv F (one_below w wide) 2 (two-below w wide) n r ms p p-lt e d.small
            totals d.off d.total,
      );
    }

    pub held-skip : (k over : ℕ) (sums : List ℕ) → (get_or ms k false ≡ false) ⊎ (k ≡ p)
        → Held mul w n r ms p totals k over sums → Held mul w n r ms p totals (k + 1) over sums
    held-skip k over sums why h = record {
      scale = h.scale;
      low = h.low;
      over-low = h.over-low;
      undone = h.undone;
      left = λ e d. (
        (h.left e d).0,
        red-skip w mul inv F (one_below w wide) 2 (two-below w wide) n r ms p p-lt e d.small k h.scale sums
            (h.left e d).0 why (h.left e d).1,
      );
    }

    pub held-take : (k over : ℕ) (sums sums' : List ℕ) → r ≤ 4 → k < n → (k ≡ p → ⊥) → get_or ms k false ≡ true
        → ((j : ℕ) → j < 3 → get_or sums' j 0 ≡ bit_xor (get_or sums (j + 1) 0) (mul (power mul 2 k) (get_or sums j 0)))
        → Held mul w n r ms p totals k over sums
        → Held mul w n r ms p totals (k + 1) (mul over (inv (bit_xor (power mul 2 p) (power mul 2 k)))) sums'
    unfolding step
    held-take k over sums sums' r4 l ne miss next h = record {
      scale = mul h.scale (step k);
      low = F.mul-lt h.scale _ h.low (step-lt k);
      over-low = F.mul-lt over _ h.over-low (F.inv-lt (step k) (step-lt k));
      undone = undone_more over h.scale (inv (step k)) (step k) h.over-low h.low
          (F.inv-lt (step k) (step-lt k)) (step-lt k) h.undone (step-undone k l ne);
      left = λ e d. (
        _,
        red-take w mul inv F (one_below w wide) 2 (two-below w wide) n r ms p p-lt e d.small k h.scale sums
            sums' (h.left e d).0 l h.low ne miss
            (λ j q. next j (omega arith) ∙ ap (λ t. bit_xor (get_or sums t 0) (mul (power mul 2 k) (get_or sums j 0)))
            (add-one j)) (h.left e d).1,
      );
    }

    pub held_end : (over : ℕ) (sums : List ℕ) → missing_count ms n ≤ r → get_or ms p false ≡ true
        → Held mul w n r ms p totals n over sums
        → (e : ℕ → ℕ) → Differs w mul n r ms totals e → mul over (get_or sums 0 0) ≡ e p
    held_end over sums few miss h e d =
        red_end w mul inv F (one_below w wide) 2 (two-below w wide) n r ms p p-lt e d.small h.scale over sums
        (h.left e d).0 h.low h.over-low h.undone
        (omega (arith, others-fewer ms p n p-lt miss)) (h.left e d).1
