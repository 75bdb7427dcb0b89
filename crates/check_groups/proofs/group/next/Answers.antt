-- The words of the number are the next check words. Assumes nothing.
use Rattle.std.proofs.Common.{◌≡◌, refl, ℕ, zero, suc, ◌/◌, ◌%◌, ◌^◌, ◌<◌, [], ◌∷◌, get_or, ap, ◌∙◌, ap₂, arith, lit<, rules, bit_xor}
use Rattle.std.specs.Int.Bits.{xor_lt}
use Rattle.check_groups.specs.Groups.{number, next_word}
use Rattle.check_groups.proofs.Lanes.{pack, lane, lane-lt, joined, lane_0, lane_1, lane_2, lane_3}
use Rattle.check_groups.proofs.LanesNext.{number_lt, lane_next}
use Rattle.check_groups.proofs.group.next.Goals as goal

pub returns : goal.returns
returns c = ap₂ ◌∷◌ w0 (ap₂ ◌∷◌ w1 (ap₂ ◌∷◌ w2 (ap₂ ◌∷◌ w3 refl)))
  where
    s : ℕ → ℕ
    s q = get_or c.args.state q 0

    g : ℕ → ℕ
    g q = get_or c.args.group q 0

    s-lt : (q : ℕ) → q < 4 → get_or c.args.state q 0 < 65536
    s-lt q h = search rules

    g-lt : (q : ℕ) → q < 4 → get_or c.args.group q 0 < 65536
    g-lt q h = search rules

    x_lt : (q : ℕ) → q < 4 → bit_xor (s q) (g q) < 2 ^ 16
    x_lt q h = xor_lt 16 (s q) (g q) (s-lt q h) (g-lt q h)

    l : ℕ → ℕ
    l = lane number number_lt (λ q. bit_xor (s q) (g q)) x_lt

    lt : (p : ℕ) → p < 4 → l p < 2 ^ 16
    lt = lane-lt number number_lt (λ q. bit_xor (s q) (g q)) x_lt

    all : ℕ
    all = bit_xor (bit_xor (bit_xor c.products.result c.products-2.result) c.products-3.result) c.products-4.result

    packed : all ≡ pack (l 0) (l 1) (l 2) (l 3)
    packed =
        ap₂ bit_xor (ap₂ bit_xor (ap₂ bit_xor c.products.ensures c.products-2.ensures) c.products-3.ensures)
        c.products-4.ensures
        ∙ joined number number_lt (λ q. bit_xor (s q) (g q)) x_lt

    r0 : c.from_le_bytes.result ≡ all % 65536
    r0 = search rules

    r1 : c.from_le_bytes-2.result ≡ all / 65536 % 65536
    r1 = search rules

    r2 : c.from_le_bytes-3.result ≡ all / 4294967296 % 65536
    r2 = search rules

    r3 : c.from_le_bytes-4.result ≡ all / 281474976710656 % 65536
    r3 = search rules

    w0 : c.from_le_bytes.result ≡ next_word s g 0
    w0 =
        r0 ∙ ap (λ z. z % 65536) packed ∙ lane_0 (l 0) (l 1) (l 2) (l 3) (lt 0 (lit< tt)) ∙ lane_next s g x_lt 0

    w1 : c.from_le_bytes-2.result ≡ next_word s g 1
    w1 =
        r1 ∙ ap (λ z. z / 65536 % 65536) packed ∙ lane_1 (l 0) (l 1) (l 2) (l 3) (lt 0 (lit< tt)) (lt 1 (lit< tt))
        ∙ lane_next s g x_lt 1

    w2 : c.from_le_bytes-3.result ≡ next_word s g 2
    w2 =
        r2 ∙ ap (λ z. z / 4294967296 % 65536) packed
        ∙ lane_2 (l 0) (l 1) (l 2) (l 3) (lt 0 (lit< tt)) (lt 1 (lit< tt)) (lt 2 (lit< tt))
        ∙ lane_next s g x_lt 2

    w3 : c.from_le_bytes-4.result ≡ next_word s g 3
    w3 =
        r3 ∙ ap (λ z. z / 281474976710656 % 65536) packed
        ∙ lane_3 (l 0) (l 1) (l 2) (l 3) (lt 0 (lit< tt)) (lt 1 (lit< tt)) (lt 2 (lit< tt)) (lt 3 (lit< tt))
        ∙ lane_next s g x_lt 3
