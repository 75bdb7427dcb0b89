-- Four products in one number: sums go by parts, and a word goes by its two bytes. Assumes nothing.
use Rattle.std.proofs.Common.{◌≡◌, sym, ap, ap₂, ◌∙◌, ℕ, ◌+◌, ◌*◌, ◌/◌, ◌%◌, ◌^◌, ◌<◌, arith, lit<}
use Rattle.std.specs.Int.Bits.{bit_xor, xor_block, xor_comm, xor_lt, xor_shifted}
use Rattle.field.specs.Polynomials.{word_product}
use Rattle.field.specs.TwoFields.{word_field_laws}
use Rattle.check_groups.specs.Groups.{four}

abbrev pub pack : ℕ → ℕ → ℕ → ℕ → ℕ
pack p q r s = p + q * 2 ^ 16 + r * 2 ^ 32 + s * 2 ^ 48

-- exclusive-or goes by parts
pub pack-xor : (p q r s p' q' r' s' : ℕ) → p < 2 ^ 16 → q < 2 ^ 16 → r < 2 ^ 16 → p' < 2 ^ 16 → q' < 2 ^ 16
    → r' < 2 ^ 16
    → bit_xor (pack p q r s) (pack p' q' r' s') ≡ pack (bit_xor p p') (bit_xor q q') (bit_xor r r') (bit_xor s s')
pack-xor p q r s p' q' r' s' hp hq hr hp' hq' hr' =
    let l : pack p q r s ≡ ((s * 2 ^ 16 + r) * 2 ^ 16 + q) * 2 ^ 16 + p = omega arith in
    let l' : pack p' q' r' s' ≡ ((s' * 2 ^ 16 + r') * 2 ^ 16 + q') * 2 ^ 16 + p' = omega arith in
    ap₂ bit_xor l l' ∙ xor_block 16 ((s * 2 ^ 16 + r) * 2 ^ 16 + q) ((s' * 2 ^ 16 + r') * 2 ^ 16 + q') p p' hp hp'
    ∙ ap (λ x. x * 2 ^ 16 + bit_xor p p')
    (xor_block 16 (s * 2 ^ 16 + r) (s' * 2 ^ 16 + r') q q' hq hq'
    ∙ ap (λ x. x * 2 ^ 16 + bit_xor q q') (xor_block 16 s s' r r' hr hr'))
    ∙ omega arith

pub lane_0 : (p q r s : ℕ) → p < 2 ^ 16 → pack p q r s % 2 ^ 16 ≡ p
lane_0 p q r s hp = omega arith

pub lane_1 : (p q r s : ℕ) → p < 2 ^ 16 → q < 2 ^ 16 → pack p q r s / 2 ^ 16 % 2 ^ 16 ≡ q
lane_1 p q r s hp hq = omega arith

pub lane_2 : (p q r s : ℕ) → p < 2 ^ 16 → q < 2 ^ 16 → r < 2 ^ 16 → pack p q r s / 2 ^ 32 % 2 ^ 16 ≡ r
lane_2 p q r s hp hq hr = omega arith

pub lane_3 : (p q r s : ℕ) → p < 2 ^ 16 → q < 2 ^ 16 → r < 2 ^ 16 → s < 2 ^ 16 → pack p q r s / 2 ^ 48 % 2 ^ 16 ≡ s
lane_3 p q r s hp hq hr hs = omega arith

four-xor : (a b c d x y : ℕ) → a < 2 ^ 16 → b < 2 ^ 16 → c < 2 ^ 16 → d < 2 ^ 16 → x < 2 ^ 16 → y < 2 ^ 16
    → bit_xor (four a b c d x) (four a b c d y) ≡ four a b c d (bit_xor x y)
four-xor a b c d x y ha hb hc hd hx hy =
    pack-xor (word_product a x) (word_product b x) (word_product c x) (word_product d x) (word_product a y)
    (word_product b y) (word_product c y) (word_product d y)
    (lt a x ha hx) (lt b x hb hx) (lt c x hc hx) (lt a y ha hy) (lt b y hb hy) (lt c y hc hy)
    ∙ ap₂ ◌+◌ (ap₂ ◌+◌ (ap₂ ◌+◌ (sum a ha) (ap (λ z. z * 2 ^ 16) (sum b hb))) (ap (λ z. z * 2 ^ 32) (sum c hc)))
    (ap (λ z. z * 2 ^ 48) (sum d hd))
  where
    lt : (a x : ℕ) → a < 2 ^ 16 → x < 2 ^ 16 → word_product a x < 2 ^ 16
    lt a x ha hx = word_field_laws.mul-lt a x ha hx

    sum : (a : ℕ) → a < 2 ^ 16 → bit_xor (word_product a x) (word_product a y) ≡ word_product a (bit_xor x y)
    sum a ha = sym (word_field_laws.mul-xor a x y ha hx hy)

-- a word by its two bytes
pub by_bytes : (a b c d x : ℕ) → a < 2 ^ 16 → b < 2 ^ 16 → c < 2 ^ 16 → d < 2 ^ 16 → x < 2 ^ 16
    → bit_xor (four a b c d (x % 256 * 1)) (four a b c d (x / 256 * 256)) ≡ four a b c d x
by_bytes a b c d x ha hb hc hd hx =
    let one : x % 256 * 1 ≡ x % 256 = omega arith in
    let whole : x / 256 * 256 + x % 256 ≡ x = omega arith in
    let low : x % 256 < 2 ^ 8 = omega arith in
    ap (λ z. bit_xor (four a b c d z) (four a b c d (x / 256 * 256))) one
    ∙ four-xor a b c d (x % 256) (x / 256 * 256) ha hb hc hd (omega arith) (omega arith)
    ∙ ap (four a b c d) (xor_comm (x % 256) (x / 256 * 256) ∙ xor_shifted (x / 256) 8 (x % 256) low ∙ whole)

-- ---- the words of a group, each with its four numbers

module _ (n : ℕ → ℕ → ℕ) (n-lt : (p q : ℕ) → p < 4 → q < 4 → n p q < 2 ^ 16) (x : ℕ → ℕ) (x_lt : (q : ℕ) → q < 4
    → x q < 2 ^ 16) where
  -- check word p
  abbrev pub lane : ℕ → ℕ
  lane p = bit_xor (bit_xor (bit_xor (word_product (n p 0) (x 0)) (word_product (n p 1) (x 1)))
      (word_product (n p 2) (x 2))) (word_product (n p 3) (x 3))

  abbrev two : ℕ → ℕ
  two p = bit_xor (word_product (n p 0) (x 0)) (word_product (n p 1) (x 1))

  abbrev three : ℕ → ℕ
  three p = bit_xor (two p) (word_product (n p 2) (x 2))

  abbrev pub word : ℕ → ℕ
  word q = four (n 0 q) (n 1 q) (n 2 q) (n 3 q) (x q)

  p-lt : (p q : ℕ) → p < 4 → q < 4 → word_product (n p q) (x q) < 2 ^ 16
  p-lt p q hp hq = word_field_laws.mul-lt (n p q) (x q) (n-lt p q hp hq) (x_lt q hq)

  two-lt : (p : ℕ) → p < 4 → two p < 2 ^ 16
  two-lt p h = xor_lt 16 _ _ (p-lt p 0 h (lit< tt)) (p-lt p 1 h (lit< tt))

  three-lt : (p : ℕ) → p < 4 → three p < 2 ^ 16
  three-lt p h = xor_lt 16 _ _ (two-lt p h) (p-lt p 2 h (lit< tt))

  pub lane-lt : (p : ℕ) → p < 4 → lane p < 2 ^ 16
  lane-lt p h = xor_lt 16 _ _ (three-lt p h) (p-lt p 3 h (lit< tt))

  pub joined : bit_xor (bit_xor (bit_xor (word 0) (word 1)) (word 2)) (word 3) ≡ pack (lane 0) (lane 1) (lane 2) (lane 3)
  joined =
      ap (λ z. bit_xor (bit_xor z (word 2)) (word 3))
      (pack-xor _ _ _ _ _ _ _ _ (p-lt 0 0 (lit< tt) (lit< tt)) (p-lt 1 0 (lit< tt) (lit< tt))
      (p-lt 2 0 (lit< tt) (lit< tt))
      (p-lt 0 1 (lit< tt) (lit< tt)) (p-lt 1 1 (lit< tt) (lit< tt)) (p-lt 2 1 (lit< tt) (lit< tt)))
      ∙ ap (λ z. bit_xor z (word 3))
      (pack-xor (two 0) (two 1) (two 2) (two 3) _ _ _ _ (two-lt 0 (lit< tt)) (two-lt 1 (lit< tt)) (two-lt 2 (lit< tt))
      (p-lt 0 2 (lit< tt) (lit< tt)) (p-lt 1 2 (lit< tt) (lit< tt)) (p-lt 2 2 (lit< tt) (lit< tt)))
      ∙ pack-xor (three 0) (three 1) (three 2) (three 3) _ _ _ _ (three-lt 0 (lit< tt)) (three-lt 1 (lit< tt))
      (three-lt 2 (lit< tt))
      (p-lt 0 3 (lit< tt) (lit< tt)) (p-lt 1 3 (lit< tt) (lit< tt)) (p-lt 2 3 (lit< tt) (lit< tt))
