-- Fields of bits in bytes: fields stand in order, the high bit first. Assumes nothing.
--
--   sum ws             the widths ws added up
--   join ws vs         the number whose bits are the fields vs, in ws bits each; a wider value keeps its low bits
--   split ws x         the fields of ws bits each in the number x
--   bytes n x          the low n bytes of x, high byte first
--   value bs           the number that the bytes bs write, high byte first
--   encode ws vs       the fields vs as bytes
--   decode ws bs       the fields in the bytes bs
--   sized n bs x       x, if bs are n bytes
--   Within ws vs       there are as many values as widths, and each fits its width
--   narrow ws vs       the low bits of each value that its width keeps
--   AllBytes bs        each of bs is below 256
use Rattle.std.specs.Prelude.{◌≡◌, ℕ, ◌+◌, ◌*◌, ◌/◌, ◌%◌, ◌^◌, ◌<◌, Bool, true, false, cond, List, [], ◌∷◌, length, replicate, Some, None, Option, ◌==◌}

abbrev pub sum : List ℕ → ℕ
sum [] = 0
sum (n ∷ ns) = n + sum ns

abbrev pub join : List ℕ → List ℕ → ℕ
join [] vs = 0
join (w ∷ ws) [] = 0
join (w ∷ ws) (v ∷ vs) = v % 2 ^ w * 2 ^ sum ws + join ws vs

abbrev pub split : List ℕ → ℕ → List ℕ
split [] x = []
split (w ∷ ws) x = x / 2 ^ sum ws % 2 ^ w ∷ split ws x

abbrev pub bytes : ℕ → ℕ → List ℕ
bytes n x = split (replicate n 8) x

abbrev pub value : List ℕ → ℕ
value bs = join (replicate (length bs) 8) bs

abbrev pub encode : List ℕ → List ℕ → List ℕ
encode ws vs = bytes (sum ws / 8) (join ws vs)

abbrev pub decode : List ℕ → List ℕ → List ℕ
decode ws bs = split ws (value bs)

-- what n bytes hold; nothing if there are more or fewer
abbrev pub sized : {A : Type 0} → ℕ → List ℕ → A → Option A
sized n bs x = cond (length bs == n) (Some x) None

-- a field of one bit
abbrev pub bit : Bool → ℕ
bit true = 1
bit false = 0

abbrev pub Within : List ℕ → List ℕ → Type 0
Within [] [] = Unit {0}
Within [] (v ∷ vs) = ⊥
Within (w ∷ ws) [] = ⊥
Within (w ∷ ws) (v ∷ vs) = (v < 2 ^ w) × Within ws vs

-- the values as fields of these widths keep them
abbrev pub narrow : List ℕ → List ℕ → List ℕ
narrow [] vs = []
narrow (w ∷ ws) [] = []
narrow (w ∷ ws) (v ∷ vs) = v % 2 ^ w ∷ narrow ws vs

abbrev pub AllBytes : List ℕ → Type 0
AllBytes [] = Unit {0}
AllBytes (b ∷ bs) = (b < 256) × AllBytes bs

-- Decoding gives back what encoding keeps of the values, whatever the widths of a whole number of bytes.
abbrev pub DecodeNarrows : Type 0
DecodeNarrows =
    (ws vs : List ℕ) (n : ℕ) → sum ws ≡ 8 * n → length ws ≡ length vs → decode ws (encode ws vs) ≡ narrow ws vs

-- Decoding undoes encoding, and encoding undoes decoding, whatever the widths of a whole number of bytes.
abbrev pub DecodeEncode : Type 0
DecodeEncode =
    (ws vs : List ℕ) (n : ℕ) → sum ws ≡ 8 * n → Within ws vs → decode ws (encode ws vs) ≡ vs

abbrev pub EncodeDecode : Type 0
EncodeDecode =
    (ws bs : List ℕ) → sum ws ≡ 8 * length bs → AllBytes bs → encode ws (decode ws bs) ≡ bs
