-- The laws of the CRC. Assumes nothing.
use Rattle.std.proofs.Common.{◌≡◌, ℕ, suc, ◌+◌, ◌-◌, ◌*◌, ◌%◌, ◌^◌, ◌<◌, ◌≤◌, List, [], ◌∷◌, ◌++◌, length, get_or, take, drop, set, replicate, sym, refl, ap, ◌∙◌, subst, mul-le-mul_right, mod-lt, mod-eq_of_lt, suc-mul, mul_comm, arith, lit<, lit≤}
use native.Mathlib.Nat.{eq_of_mul-eq-mul_right}
use lib.Bits.{bit_xor, xor_self, xor_assoc}
use Rattle.std.proofs.lemmas.Nat.{pow-add}
use Rattle.std.proofs.lemmas.List.{set-get_or, set_split}
use Rattle.crc.specs.Crc.{crc, crc_more}
use Rattle.bits.specs.Fields.{bytes, value, AllBytes}
use Rattle.bits.proofs.BitLaws.{join-lt, sum_eights, bytes_all, bytes-value, byte-lt}
use Rattle.crc.specs.Laws.{
  ClosedGivesZero,
  ZeroOnlyIfClosed,
  IsLinear,
  ShowsAChangedBurst,
  ShowsAChangedByte,
}
use Rattle.crc.proofs.Linear.{
  zeros,
  crc-append,
  crc-lt,
  crc-zeros,
  more-append,
  more_lt,
  more-xor,
  more-apart,
  same_from_more,
  xor_bytes_self,
}
use Rattle.crc.proofs.Words.{width, crc-bytes, more-eight, pos_from_mul}

pub is_linear : IsLinear
is_linear xs ys e = more-xor 0 0 xs ys e

pub closed_gives_zero : ClosedGivesZero
closed_gives_zero bs =
    let own : List ℕ = bytes 8 (crc bs) in
    crc-append bs own ∙ more-eight (crc bs) own (crc-lt bs) refl ∙ ap crc (xor_bytes_self own) ∙ crc-zeros 8

fits_above : (s p v : ℕ) → s * p ≡ 2 ^ 64 → v < p → v * s < 2 ^ 64
fits_above s p v e h =
    omega (arith, mul-le-mul_right s h, suc-mul v s, mul_comm s p, pos_from_mul s p (omega arith))

-- s moves n bytes to the top of the register
same-value : (n s v w : ℕ) → s * 2 ^ width n ≡ 2 ^ 64 → v < 2 ^ width n → w < 2 ^ width n
    → crc (bytes n v) ≡ crc (bytes n w) → v ≡ w
same-value n s v w unit hv hw e =
    let p : ℕ = 2 ^ width n in
    let same : v * s % 2 ^ 64 ≡ w * s % 2 ^ 64 =
    same_from_more (v * s % 2 ^ 64) (w * s % 2 ^ 64) (zeros n) (mod-lt (v * s) (lit< tt)) (mod-lt (w * s) (lit< tt))
    (crc-bytes n s v unit ∙ e ∙ sym (crc-bytes n s w unit)) in
    eq_of_mul-eq-mul_right s (pos_from_mul s p (omega arith)) v w
    (sym (mod-eq_of_lt (fits_above s p v unit hv)) ∙ same ∙ mod-eq_of_lt (fits_above s p w unit hw))

again : (n : ℕ) (bs : List ℕ) → AllBytes bs → length bs ≡ n → bytes n (value bs) ≡ bs
again n bs h e = ap (λ m. bytes m (value bs)) (sym e) ∙ bytes-value bs h

below : (n : ℕ) (bs : List ℕ) → length bs ≡ n → value bs < 2 ^ width n
below n bs e = subst (λ (m : ℕ). value bs < 2 ^ width m) e (join-lt (replicate (length bs) 8) bs)

-- at most eight bytes are known by their CRC
same_from_crc : (xs ys : List ℕ) → AllBytes xs → AllBytes ys → length xs ≡ length ys → length xs ≤ 8
    → crc xs ≡ crc ys → xs ≡ ys
same_from_crc xs ys hx hy e short same =
    let n : ℕ = length xs in
    let above : ℕ = 8 * (8 - n) in
    let all : above + width n ≡ 64 = omega (arith, sum_eights n) in
    let unit : 2 ^ above * 2 ^ width n ≡ 2 ^ 64 = sym (pow-add 2 above (width n)) ∙ ap (λ k. 2 ^ k) all in
    let xs-again : bytes n (value xs) ≡ xs = again n xs hx refl in
    let ys-again : bytes n (value ys) ≡ ys = again n ys hy (sym e) in
    sym xs-again
    ∙ ap (bytes n)
    (same-value n (2 ^ above) (value xs) (value ys) unit (below n xs refl) (below n ys (sym e))
    (ap crc xs-again ∙ same ∙ sym (ap crc ys-again)))
    ∙ ys-again

xor_undo : (a b : ℕ) → bit_xor a (bit_xor a b) ≡ b
xor_undo a b = sym (xor_assoc a a b) ∙ ap (λ x. bit_xor x b) (xor_self a)

-- and by what they make of any register
same_from_register : (c : ℕ) (xs ys : List ℕ) → AllBytes xs → AllBytes ys → length xs ≡ length ys → length xs ≤ 8
    → crc_more c xs ≡ crc_more c ys → xs ≡ ys
same_from_register c xs ys hx hy e short same =
    let far : ℕ = crc_more c (zeros (length xs)) in
    let both : bit_xor far (crc xs) ≡ bit_xor far (crc ys) =
    sym (more-apart c xs) ∙ same ∙ more-apart c ys
    ∙ ap (λ n. bit_xor (crc_more c (zeros n)) (crc ys)) (sym e) in
    same_from_crc xs ys hx hy e short
    (sym (xor_undo far (crc xs)) ∙ ap (bit_xor far) both ∙ xor_undo far (crc ys))

pub shows_a_changed_burst : ShowsAChangedBurst
shows_a_changed_burst front back xs ys hx hy e short same =
    let c : ℕ = crc front in
    let split : (zs : List ℕ) → crc (front ++ (zs ++ back)) ≡ crc_more (crc_more c zs) back =
    λ zs. crc-append front (zs ++ back) ∙ more-append c zs back in
    same_from_register c xs ys hx hy e short
    (same_from_more (crc_more c xs) (crc_more c ys) back (more_lt c xs (crc-lt front)) (more_lt c ys (crc-lt front))
    (sym (split xs) ∙ same ∙ split ys))

pub shows_a_changed_byte : ShowsAChangedByte
shows_a_changed_byte bs k x h inside hx same =
    let d : ℕ = get_or bs k 0 in
    let front : List ℕ = take k bs in
    let back : List ℕ = drop (suc k) bs in
    let changed : set bs k x ≡ front ++ (x ∷ back) = set_split bs k x inside in
    let whole : bs ≡ front ++ (d ∷ back) = sym (set-get_or bs k 0) ∙ set_split bs k d inside in
    ap (λ xs. get_or xs 0 0)
    (shows_a_changed_burst front back (x ∷ []) (d ∷ []) (hx, tt) (byte-lt bs k h, tt) refl (lit≤ tt)
    (sym (ap crc changed) ∙ same ∙ ap crc whole))

pub zero_only_if_closed : ZeroOnlyIfClosed
zero_only_if_closed bs ys hy e none =
    let own : List ℕ = bytes 8 (crc bs) in
    same_from_register (crc bs) ys own hy (bytes_all 8 (crc bs)) e (omega arith)
    (sym (crc-append bs ys) ∙ none ∙ sym (closed_gives_zero bs) ∙ crc-append bs own)
