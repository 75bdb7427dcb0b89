-- Words modulo a polynomial that passes two tests are a field. Assumes nothing.
use Rattle.std.specs.Prelude.{◌≡◌, ℕ, zero, suc, ◌+◌, ◌*◌, ◌/◌, ◌%◌, ◌^◌, ◌<◌, List, ◌≢◌, bit_xor}
use Rattle.std.proofs.Math.Path.{refl, sym, ap}
use Rattle.std.proofs.Common.{◌∙◌, ap₂, subst, zero-add, div-add-mod'}
use Rattle.std.specs.Int.Bits.{xor_assoc, xor_self}
use Rattle.field.specs.Polynomials.{product, squares, inverse}
use Rattle.field.specs.Laws.{FieldLaws}
use Rattle.field.specs.Linear.{Linear, linear_agree, combine, combine-xor}
use Rattle.field.specs.ExclusiveOr.{xor-swap, xor_half, xor-twice, mod2-lt, not-two}
use Rattle.field.specs.Products.{product_lt, product_comm, product_assoc, product-xor_l, product-xor_r, product_one_l, product_zero_r}

-- a squared n times
unfoldable pub frob : ℕ → ℕ → ℕ → ℕ → ℕ
frob h m zero a = a
frob h m (suc n) a = frob h m n (product h m a a)

module _ (h m low : ℕ) (top : m ≡ 1 * 2 ^ suc h + low) (low-lt : low < 2 ^ suc h) where
  sq-lt : (a : ℕ) → a < 2 ^ suc h → product h m a a < 2 ^ suc h
  sq-lt a p = product_lt h m low top low-lt a a p

  sq-xor : (a b : ℕ) → a < 2 ^ suc h → b < 2 ^ suc h
      → product h m (bit_xor a b) (bit_xor a b) ≡ bit_xor (product h m a a) (product h m b b)
  sq-xor a b p q =
      product-xor_l h m a b (bit_xor a b)
      ∙ ap₂ bit_xor (product-xor_r h m a a b) (product-xor_r h m b a b
      ∙ ap (λ x. bit_xor x (product h m b b)) (product_comm h m b a q p))
      ∙ xor_assoc (product h m a a) (product h m a b) _
      ∙ ap (bit_xor (product h m a a)) (sym (xor_assoc (product h m a b) (product h m a b) _)
      ∙ ap (λ x. bit_xor x (product h m b b)) (xor_self (product h m a b)))

  frob-lt : (n a : ℕ) → a < 2 ^ suc h → frob h m n a < 2 ^ suc h
  unfolding frob
  frob-lt zero a p = p
  frob-lt (suc n) a p = frob-lt n _ (sq-lt a p)

  frob-xor : (n : ℕ) → Linear (suc h) (frob h m n)
  unfolding frob
  frob-xor zero a b p q = refl
  frob-xor (suc n) a b p q = ap (frob h m n) (sq-xor a b p q) ∙ frob-xor n _ _ (sq-lt a p) (sq-lt b q)

  pub squares-lt : (n b : ℕ) → 1 < 2 ^ suc h → b < 2 ^ suc h → squares h m n b < 2 ^ suc h
  unfolding squares
  squares-lt zero b o p = o
  squares-lt (suc n) b o p = product_lt h m low top low-lt b _ p

  squares-frob : (n a : ℕ) → 1 < 2 ^ suc h → a < 2 ^ suc h → product h m a (squares h m n a) ≡ frob h m n a
  unfolding squares frob
  squares-frob zero a o p = product_comm h m a 1 p o ∙ product_one_l h m a p
  squares-frob (suc n) a o p =
      sym (product_assoc h m low top low-lt a a (squares h m n (product h m a a)) p p (squares-lt n _ o (sq-lt a p)))
      ∙ squares-frob n (product h m a a) o (sq-lt a p)

  -- the two tests of the polynomial: the words are the roots of a ^ (2 ^ (h + 1)) = a, and only 0 and 1 are their
  -- own squares
  module _ (one-lt : 1 < 2 ^ suc h) (rows : List ℕ)
      (turn : (i : ℕ) → i < suc h → frob h m (suc h) (2 ^ i) ≡ 2 ^ i)
      (kernel : (i : ℕ) → i < suc h → combine rows (bit_xor (product h m (2 ^ i) (2 ^ i)) (2 ^ i)) ≡ 2 ^ i / 2 * 2) where
    turns : (a : ℕ) → a < 2 ^ suc h → frob h m (suc h) a ≡ a
    turns = linear_agree (suc h) (frob h m (suc h)) (λ a. a) (frob-xor (suc h)) (λ a b p q. refl) turn

    kernels : (a : ℕ) → a < 2 ^ suc h → combine rows (bit_xor (product h m a a) a) ≡ a / 2 * 2
    kernels =
        linear_agree (suc h) (λ a. combine rows (bit_xor (product h m a a) a)) (λ a. a / 2 * 2)
        (λ a b p q. ap (combine rows) (ap (λ x. bit_xor x (bit_xor a b)) (sq-xor a b p q)
        ∙ xor-swap (product h m a a) (product h m b b) a b)
        ∙ combine-xor rows _ _)
        (λ a b p q. ap (λ x. x * 2) (xor_half a b) ∙ xor-twice (a / 2) (b / 2)) kernel

    idempotent : (a : ℕ) → a < 2 ^ suc h → product h m a a ≡ a → a < 2
    idempotent a p e =
        let z : combine rows (bit_xor (product h m a a) a) ≡ combine rows (bit_xor 0 0) =
        ap (combine rows) (ap (λ x. bit_xor x a) e ∙ xor_self a) in
        let y : combine rows (bit_xor 0 0) ≡ 0 = combine-xor rows 0 0 ∙ xor_self (combine rows 0) in
        let k : a / 2 * 2 ≡ 0 = sym (kernels a p) ∙ z ∙ y in
        let r : a ≡ a % 2 = sym (div-add-mod' a 2) ∙ ap (λ x. x + a % 2) k ∙ zero-add (a % 2) in
        subst (λ x. x < 2) (sym r) (mod2-lt a)

    pub inverse-lt : (a : ℕ) → a < 2 ^ suc h → inverse h m a < 2 ^ suc h
    unfolding inverse
    inverse-lt a p = squares-lt h _ one-lt (sq-lt a p)

    pub product-inverse : (a : ℕ) → a < 2 ^ suc h → (a ≢ 0) → product h m a (inverse h m a) ≡ 1
    unfolding inverse squares
    product-inverse a p ne =
        let e : ℕ = product h m a (inverse h m a) in
        let il : inverse h m a < 2 ^ suc h = inverse-lt a p in
        let el : e < 2 ^ suc h = product_lt h m low top low-lt a _ p in
        let ae : product h m a e ≡ a = squares-frob (suc h) a one-lt p ∙ turns a p in
        let ee : product h m e e ≡ e =
        product_comm h m e e el el ∙ ap (λ x. product h m x e) (product_comm h m a (inverse h m a) p il)
        ∙ product_assoc h m low top low-lt (inverse h m a) a e il p el
        ∙ ap (product h m (inverse h m a)) ae ∙ product_comm h m (inverse h m a) a il p in
        go e (idempotent e el ee) ae
      where
        go : (e : ℕ) → e < 2 → product h m a e ≡ a → e ≡ 1
        go zero q x = absurd (ne (sym x ∙ product_zero_r h m a))
        go (suc zero) q x = refl
        go (suc (suc n)) q x = absurd (not-two q)

    pub field : FieldLaws (suc h) (product h m) (inverse h m)
    field = record {
      mul-lt = λ a b p q. product_lt h m low top low-lt a b p;
      mul_comm = product_comm h m;
      mul_assoc = product_assoc h m low top low-lt;
      mul-xor = λ a b c p q r. product-xor_r h m a b c;
      mul-one = product_one_l h m;
      inv-lt = inverse-lt;
      mul_inv = product-inverse;
    }
