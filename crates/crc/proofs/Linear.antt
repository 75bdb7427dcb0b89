-- The CRC over lists of bytes: in parts, within 64 bits, linear, and never two registers to one.
-- Assumes nothing.
use Rattle.std.proofs.Common.{◌≡◌, ℕ, zero, suc, ◌^◌, ◌<◌, List, [], ◌∷◌, ◌++◌, length, replicate, sym, refl, ap, ◌∙◌, ap₂, arith, lit<}
use lib.Bits.{bit_xor, xor_self, xor_zero_r}
use Rattle.std.proofs.lemmas.List.{length-replicate}
use Rattle.crc.specs.Crc.{crc, crc_byte, crc_more}
use Rattle.crc.specs.Laws.{xor_bytes}
use Rattle.crc.proofs.Steps.{byte-xor, byte-lt, same_from_byte}

pub more-append : (c : ℕ) (xs ys : List ℕ) → crc_more c (xs ++ ys) ≡ crc_more (crc_more c xs) ys
unfolding crc_more
more-append c [] ys = refl
more-append c (x ∷ xs) ys = more-append (crc_byte c x) xs ys

pub crc-append : (xs ys : List ℕ) → crc (xs ++ ys) ≡ crc_more (crc xs) ys
crc-append xs ys = more-append 0 xs ys

pub more_lt : (c : ℕ) (bs : List ℕ) → c < 2 ^ 64 → crc_more c bs < 2 ^ 64
unfolding crc_more
more_lt c [] h = h
more_lt c (b ∷ bs) h = more_lt (crc_byte c b) bs (byte-lt c b)

pub crc-lt : (bs : List ℕ) → crc bs < 2 ^ 64
crc-lt bs = more_lt 0 bs (lit< tt)

pub more-xor : (a b : ℕ) (xs ys : List ℕ) → length xs ≡ length ys
    → crc_more (bit_xor a b) (xor_bytes xs ys) ≡ bit_xor (crc_more a xs) (crc_more b ys)
unfolding crc_more
more-xor a b [] [] e = refl
more-xor a b [] (y ∷ ys) e = absurd (omega arith)
more-xor a b (x ∷ xs) [] e = absurd (omega arith)
more-xor a b (x ∷ xs) (y ∷ ys) e =
    ap (λ c. crc_more c (xor_bytes xs ys)) (byte-xor a b x y)
    ∙ more-xor (crc_byte a x) (crc_byte b y) xs ys (omega arith)

-- two registers that the same bytes bring together were one
pub same_from_more : (a b : ℕ) (bs : List ℕ) → a < 2 ^ 64 → b < 2 ^ 64 → crc_more a bs ≡ crc_more b bs → a ≡ b
unfolding crc_more
same_from_more a b [] ha hb e = e
same_from_more a b (x ∷ bs) ha hb e =
    same_from_byte a b x ha hb (same_from_more (crc_byte a x) (crc_byte b x) bs (byte-lt a x) (byte-lt b x) e)

abbrev pub zeros : ℕ → List ℕ
zeros n = replicate n 0

pub xor_bytes-zeros : (bs : List ℕ) → xor_bytes (zeros (length bs)) bs ≡ bs
xor_bytes-zeros [] = refl
xor_bytes-zeros (b ∷ bs) = ap (λ xs. b ∷ xs) (xor_bytes-zeros bs)

pub xor_bytes_self : (bs : List ℕ) → xor_bytes bs bs ≡ zeros (length bs)
xor_bytes_self [] = refl
xor_bytes_self (b ∷ bs) = ap₂ ◌∷◌ (xor_self b) (xor_bytes_self bs)

pub crc-zeros : (n : ℕ) → crc (zeros n) ≡ 0
unfolding crc_more crc_byte
crc-zeros zero = refl
crc-zeros (suc n) = crc-zeros n

-- the register and the bytes each count for themselves
pub more-apart : (c : ℕ) (bs : List ℕ) → crc_more c bs ≡ bit_xor (crc_more c (zeros (length bs))) (crc bs)
more-apart c bs =
    sym (ap₂ crc_more (xor_zero_r c) (xor_bytes-zeros bs))
    ∙ more-xor c 0 (zeros (length bs)) bs (length-replicate (length bs) 0)

-- and so do the first byte and the others
pub crc-cons : (d : ℕ) (ds : List ℕ) → crc (d ∷ ds) ≡ bit_xor (crc (d ∷ zeros (length ds))) (crc ds)
unfolding crc_more
crc-cons d ds = more-apart (crc_byte 0 d) ds

-- each byte with zeros behind it, as the tables have it
abbrev pub sliced : ℕ → List ℕ → ℕ
sliced d [] = crc (d ∷ [])
sliced d (e ∷ es) = bit_xor (crc (d ∷ 0 ∷ zeros (length es))) (sliced e es)

pub crc-sliced : (d : ℕ) (ds : List ℕ) → crc (d ∷ ds) ≡ sliced d ds
crc-sliced d [] = refl
crc-sliced d (e ∷ es) = crc-cons d (e ∷ es) ∙ ap (bit_xor (crc (d ∷ 0 ∷ zeros (length es)))) (crc-sliced e es)
