-- Fields of bits: decoding undoes encoding, and encoding undoes decoding, by induction over the widths. Assumes nothing.
use Rattle.std.proofs.Common.{◌≡◌, ℕ, zero, suc, ◌+◌, ◌*◌, ◌/◌, ◌%◌, ◌^◌, ◌<◌, Bool, true, false, eqb, List, [], ◌∷◌, length, get_or, replicate, sym, refl, ap, ◌∙◌, subst, ap₂, le_of_suc-le-suc, not-suc-le-zero, mod-lt, mod-eq_of_lt, mul_assoc, add_comm, arith, lit<, pow_pos, pow-add}
use native.Mathlib.Nat.{mod-mod, mod-one, add-mul-div_right, add-mul-mod_self_right}
use lib.ListN.{length-replicate}
use lib.Pow.{high, mod-pow-add}
use lib.Arith.{digits_lt}
use Rattle.bits.specs.Fields.{sum, bit, join, split, bytes, value, Within, AllBytes, narrow, DecodeNarrows, DecodeEncode, EncodeDecode}

pub join-lt : (ws vs : List ℕ) → join ws vs < 2 ^ sum ws
join-lt [] vs = lit< tt
join-lt (w ∷ ws) [] = pow_pos (w + sum ws)
join-lt (w ∷ ws) (v ∷ vs) =
    subst (λ (m : ℕ). v % 2 ^ w * 2 ^ sum ws + join ws vs < m) (sym (pow-add 2 w (sum ws)))
    (digits_lt (mod-lt v (pow_pos w)) (join-lt ws vs))

-- bits above the fields do not matter
pub split-low : (ws : List ℕ) (a x : ℕ) → split ws (x + a * 2 ^ sum ws) ≡ split ws x
split-low [] a x = refl
split-low (w ∷ ws) a x =
    let up : x + a * 2 ^ (w + sum ws) ≡ x + a * 2 ^ w * 2 ^ sum ws =
    ap (λ (m : ℕ). x + m) (ap (λ (m : ℕ). a * m) (pow-add 2 w (sum ws)) ∙ sym (mul_assoc a (2 ^ w) (2 ^ sum ws))) in
    ap₂ ◌∷◌
    (ap (λ (m : ℕ). m / 2 ^ sum ws % 2 ^ w) up
    ∙ ap (λ (m : ℕ). m % 2 ^ w) (add-mul-div_right x (a * 2 ^ w) (pow_pos (sum ws)))
    ∙ add-mul-mod_self_right (x / 2 ^ sum ws) a (2 ^ w))
    (ap (split ws) up ∙ split-low ws (a * 2 ^ w) x)

pub split-join : (ws vs : List ℕ) → length ws ≡ length vs → split ws (join ws vs) ≡ narrow ws vs
split-join [] vs e = refl
split-join (w ∷ ws) [] e = absurd (let z : suc (length ws) ≡ 0 = e in omega arith)
split-join (w ∷ ws) (v ∷ vs) e =
    let v' : ℕ = v % 2 ^ w in
    ap₂ ◌∷◌
    (ap (λ (m : ℕ). m % 2 ^ w) (high v' (sum ws) (join-lt ws vs)) ∙ mod-mod v (2 ^ w))
    (ap (split ws) (add_comm (v' * 2 ^ sum ws) (join ws vs)) ∙ split-low ws v' (join ws vs) ∙ split-join ws vs (omega arith))

pub within-length : (ws vs : List ℕ) → Within ws vs → length ws ≡ length vs
within-length [] [] h = refl
within-length [] (v ∷ vs) h = absurd h
within-length (w ∷ ws) [] h = absurd h
within-length (w ∷ ws) (v ∷ vs) h = ap suc (within-length ws vs h.1)

pub narrow_within : (ws vs : List ℕ) → Within ws vs → narrow ws vs ≡ vs
narrow_within [] [] h = refl
narrow_within [] (v ∷ vs) h = absurd h
narrow_within (w ∷ ws) [] h = absurd h
narrow_within (w ∷ ws) (v ∷ vs) h = ap₂ ◌∷◌ (mod-eq_of_lt h.0) (narrow_within ws vs h.1)

pub split_within : (ws vs : List ℕ) → Within ws vs → split ws (join ws vs) ≡ vs
split_within ws vs h = split-join ws vs (within-length ws vs h) ∙ narrow_within ws vs h

pub join-split : (ws : List ℕ) (x : ℕ) → join ws (split ws x) ≡ x % 2 ^ sum ws
join-split [] x = sym (mod-one x)
join-split (w ∷ ws) x =
    ap₂ (λ (m n : ℕ). m * 2 ^ sum ws + n) (mod-eq_of_lt (mod-lt (x / 2 ^ sum ws) (pow_pos w))) (join-split ws x)
    ∙ sym (mod-pow-add x w (sum ws))

pub length-split : (ws : List ℕ) (x : ℕ) → length (split ws x) ≡ length ws
length-split [] x = refl
length-split (w ∷ ws) x = ap suc (length-split ws x)

pub length-bytes : (n x : ℕ) → length (bytes n x) ≡ n
length-bytes n x = length-split (replicate n 8) x ∙ length-replicate n 8

pub sum_eights : (n : ℕ) → sum (replicate n 8) ≡ 8 * n
sum_eights zero = refl
sum_eights (suc n) = ap (λ (m : ℕ). 8 + m) (sum_eights n) ∙ omega arith

pub value-bytes : (n x : ℕ) → value (bytes n x) ≡ x % 2 ^ (8 * n)
value-bytes n x =
    ap (λ (m : ℕ). join (replicate m 8) (bytes n x)) (length-bytes n x) ∙ join-split (replicate n 8) x
    ∙ ap (λ (k : ℕ). x % 2 ^ k) (sum_eights n)

pub bytes_within : (bs : List ℕ) → AllBytes bs → Within (replicate (length bs) 8) bs
bytes_within [] h = tt
bytes_within (b ∷ bs) h = (h.0, bytes_within bs h.1)

pub bytes-value : (bs : List ℕ) → AllBytes bs → bytes (length bs) (value bs) ≡ bs
bytes-value bs h = split_within (replicate (length bs) 8) bs (bytes_within bs h)

pub bytes_all : (n x : ℕ) → AllBytes (bytes n x)
bytes_all zero x = tt
bytes_all (suc n) x = (mod-lt (x / 2 ^ sum (replicate n 8)) (lit< tt), bytes_all n x)

eighth : (s n : ℕ) → s ≡ 8 * n → s / 8 ≡ n
eighth s n e = omega arith

pub decode_narrows : DecodeNarrows
decode_narrows ws vs n e l =
    ap (λ (m : ℕ). split ws (value (bytes m (join ws vs)))) (eighth (sum ws) n e)
    ∙ ap (split ws) (value-bytes n (join ws vs)
    ∙ mod-eq_of_lt (subst (λ (k : ℕ). join ws vs < 2 ^ k) e (join-lt ws vs)))
    ∙ split-join ws vs l

pub decode_encode : DecodeEncode
decode_encode ws vs n e h = decode_narrows ws vs n e (within-length ws vs h) ∙ narrow_within ws vs h

pub value-lt : (bs : List ℕ) → value bs < 2 ^ (8 * length bs)
value-lt bs = subst (λ (k : ℕ). value bs < 2 ^ k) (sum_eights (length bs)) (join-lt (replicate (length bs) 8) bs)

pub encode_decode : EncodeDecode
encode_decode ws bs e h =
    ap (λ (m : ℕ). bytes m (join ws (split ws (value bs)))) (eighth (sum ws) (length bs) e)
    ∙ ap (bytes (length bs))
    (join-split ws (value bs) ∙ mod-eq_of_lt (subst (λ (k : ℕ). value bs < 2 ^ k) (sym e) (value-lt bs)))
    ∙ bytes-value bs h

-- ---- a field of one bit

pub flag-bit : (b : Bool) → eqb (bit b) 1 ≡ b
flag-bit true = refl
flag-bit false = refl

pub bit-flag : (x : ℕ) → x < 2 → bit (eqb x 1) ≡ x
bit-flag zero h = refl
bit-flag (suc zero) h = refl
bit-flag (suc (suc x)) h = absurd (not-suc-le-zero (le_of_suc-le-suc (le_of_suc-le-suc h)))

-- ---- each byte of bytes

pub byte-lt : (bs : List ℕ) (k : ℕ) → AllBytes bs → get_or bs k 0 < 256
byte-lt [] k h = lit< tt
byte-lt (b ∷ bs) zero h = h.0
byte-lt (b ∷ bs) (suc k) h = byte-lt bs k h.1

pub all-bytes : (bs : List ℕ) → ((k : ℕ) → get_or bs k 0 < 256) → AllBytes bs
all-bytes [] h = tt
all-bytes (b ∷ bs) h = (h 0, all-bytes bs (λ k. h (suc k)))
