-- What the CRC is good for, as laws over all bytes. Assumes nothing.
--
--   xor_bytes xs ys       the bytes xs and ys exclusive-ored place by place
--   GoesOn                the CRC of joined bytes goes on from the CRC of the first
--   ClosedGivesZero       bytes with their own CRC behind them have the CRC 0
--   ZeroOnlyIfClosed      and with any other eight bytes behind them they have not
--   IsLinear              the CRC of an exclusive-or is the exclusive-or of the CRCs
--   ShowsAChangedBurst    no change within eight neighbouring bytes leaves the CRC as it was
--   ShowsAChangedByte     in particular no change of one byte
use Rattle.std.specs.Prelude.{◌≡◌, ℕ, ◌<◌, ◌≤◌, List, [], ◌∷◌, ◌++◌, length, bit_xor, slice_index, slice_set}
use Rattle.bits.specs.Fields.{bytes, AllBytes}
use Rattle.crc.specs.Crc.{crc, crc_more}

abbrev pub xor_bytes : List ℕ → List ℕ → List ℕ
xor_bytes [] ys = []
xor_bytes (x ∷ xs) [] = []
xor_bytes (x ∷ xs) (y ∷ ys) = bit_xor x y ∷ xor_bytes xs ys

abbrev pub GoesOn : Type 0
GoesOn = (xs ys : List ℕ) → crc (xs ++ ys) ≡ crc_more (crc xs) ys

abbrev pub ClosedGivesZero : Type 0
ClosedGivesZero = (bs : List ℕ) → crc (bs ++ bytes 8 (crc bs)) ≡ 0

abbrev pub ZeroOnlyIfClosed : Type 0
ZeroOnlyIfClosed =
    (bs ys : List ℕ) → AllBytes ys → length ys ≡ 8 → crc (bs ++ ys) ≡ 0 → ys ≡ bytes 8 (crc bs)

abbrev pub IsLinear : Type 0
IsLinear = (xs ys : List ℕ) → length xs ≡ length ys → crc (xor_bytes xs ys) ≡ bit_xor (crc xs) (crc ys)

abbrev pub ShowsAChangedBurst : Type 0
ShowsAChangedBurst =
    (front back xs ys : List ℕ) → AllBytes xs → AllBytes ys → length xs ≡ length ys → length xs ≤ 8
    → crc (front ++ (xs ++ back)) ≡ crc (front ++ (ys ++ back)) → xs ≡ ys

abbrev pub ShowsAChangedByte : Type 0
ShowsAChangedByte =
    (bs : List ℕ) (k x : ℕ) → AllBytes bs → k < length bs → x < 256 → crc (slice_set bs k x) ≡ crc bs → x ≡ slice_index bs k
