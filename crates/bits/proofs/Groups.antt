-- Fields that fill whole bytes can be put together and taken apart group by group. Assumes nothing.
use Rattle.std.proofs.Common.{◌≡◌, ℕ, zero, suc, ◌+◌, ◌-◌, ◌*◌, ◌/◌, ◌%◌, ◌^◌, ◌<◌, ◌≤◌, List, [], ◌∷◌, ◌++◌, length, take, drop, replicate, sym, refl, ap, ◌∙◌, subst, ap₂, add_assoc, mul_assoc, add-mul, add_comm, arith, length-append, length-drop, pow-add, shr-shr}
use lib.Pow.{high}
use Rattle.std.proofs.lemmas.List.{take-append-drop, drop-drop, take_all}
use Rattle.bits.specs.Fields.{sum, join, split, bytes, value, encode, decode}
use Rattle.bits.proofs.BitLaws.{join-lt, split-low, sum_eights, value-lt}

pub sum-append : (ws us : List ℕ) → sum (ws ++ us) ≡ sum ws + sum us
sum-append [] us = omega arith
sum-append (w ∷ ws) us = ap (λ (m : ℕ). w + m) (sum-append ws us) ∙ sym (add_assoc w (sum ws) (sum us))

-- one group of fields before another
pub join-append : (ws us vs xs : List ℕ) → length ws ≡ length vs
    → join (ws ++ us) (vs ++ xs) ≡ join ws vs * 2 ^ sum us + join us xs
join-append [] us [] xs e = omega arith
join-append [] us (v ∷ vs) xs e = absurd (let z : 0 ≡ suc (length vs) = e in omega arith)
join-append (w ∷ ws) us [] xs e = absurd (let z : suc (length ws) ≡ 0 = e in omega arith)
join-append (w ∷ ws) us (v ∷ vs) xs e =
    let up : 2 ^ sum (ws ++ us) ≡ 2 ^ sum ws * 2 ^ sum us = ap (λ (m : ℕ). 2 ^ m) (sum-append ws us) ∙ pow-add 2 (sum ws) (sum us) in
    ap₂ (λ (m n : ℕ). v % 2 ^ w * m + n) up (join-append ws us vs xs (omega arith))
    ∙ sym (add_assoc (v % 2 ^ w * (2 ^ sum ws * 2 ^ sum us)) (join ws vs * 2 ^ sum us) (join us xs))
    ∙ ap (λ (m : ℕ). m + join us xs)
    (ap (λ (m : ℕ). m + join ws vs * 2 ^ sum us) (sym (mul_assoc (v % 2 ^ w) (2 ^ sum ws) (2 ^ sum us)))
    ∙ sym (add-mul (v % 2 ^ w * 2 ^ sum ws) (join ws vs) (2 ^ sum us)))

pub split-append : (ws us : List ℕ) (x y : ℕ) → y < 2 ^ sum us
    → split (ws ++ us) (x * 2 ^ sum us + y) ≡ split ws x ++ split us y
split-append [] us x y h = ap (split us) (add_comm (x * 2 ^ sum us) y) ∙ split-low us x y
split-append (w ∷ ws) us x y h =
    let n : ℕ = x * 2 ^ sum us + y in
    ap₂ ◌∷◌
    (ap (λ (m : ℕ). n / 2 ^ m % 2 ^ w) (sum-append ws us ∙ add_comm (sum ws) (sum us))
    ∙ ap (λ (m : ℕ). m % 2 ^ w) (sym (shr-shr n (sum us) (sum ws)) ∙ ap (λ (m : ℕ). m / 2 ^ sum ws) (high x (sum us) h)))
    (split-append ws us x y h)

replicate-append : (m n w : ℕ) → replicate (m + n) w ≡ replicate m w ++ replicate n w
replicate-append zero n w = let e : 0 + n ≡ n = omega arith in ap (λ (k : ℕ). replicate k w) e
replicate-append (suc m) n w =
    let e : suc m + n ≡ suc (m + n) = omega arith in
    ap (λ (k : ℕ). replicate k w) e ∙ ap (λ (t : List ℕ). w ∷ t) (replicate-append m n w)

pub bytes-append : (m n x y : ℕ) → y < 2 ^ (8 * n) → bytes (m + n) (x * 2 ^ (8 * n) + y) ≡ bytes m x ++ bytes n y
bytes-append m n x y h =
    ap₂ (λ (t : List ℕ) (k : ℕ). split t (x * 2 ^ k + y)) (replicate-append m n 8) (sym (sum_eights n))
    ∙ split-append (replicate m 8) (replicate n 8) x y (subst (λ (k : ℕ). y < 2 ^ k) (sym (sum_eights n)) h)

eighths : (s t m n : ℕ) → s ≡ 8 * m → t ≡ 8 * n → (s + t) / 8 ≡ m + n
eighths s t m n e f = omega arith

eighth : (s m : ℕ) → s ≡ 8 * m → m ≡ s / 8
eighth s m e = omega arith

pub encode-append : (ws us vs xs : List ℕ) (m n : ℕ) → sum ws ≡ 8 * m → sum us ≡ 8 * n → length ws ≡ length vs
    → encode (ws ++ us) (vs ++ xs) ≡ encode ws vs ++ encode us xs
encode-append ws us vs xs m n e f l =
    ap₂ (λ (k y : ℕ). bytes k y)
    (ap (λ (k : ℕ). k / 8) (sum-append ws us) ∙ eighths (sum ws) (sum us) m n e f)
    (join-append ws us vs xs l ∙ ap (λ (k : ℕ). join ws vs * 2 ^ k + join us xs) f)
    ∙ bytes-append m n (join ws vs) (join us xs) (subst (λ (k : ℕ). join us xs < 2 ^ k) f (join-lt us xs))
    ∙ ap₂ (λ (j k : ℕ). bytes j (join ws vs) ++ bytes k (join us xs)) (eighth (sum ws) m e) (eighth (sum us) n f)

pub value-append : (cs bs : List ℕ) → value (cs ++ bs) ≡ value cs * 2 ^ (8 * length bs) + value bs
value-append cs bs =
    ap (λ (t : List ℕ). join t (cs ++ bs))
    (ap (λ (k : ℕ). replicate k 8) (length-append cs bs) ∙ replicate-append (length cs) (length bs) 8)
    ∙ join-append (replicate (length cs) 8) (replicate (length bs) 8) cs bs (lengths (length cs))
    ∙ ap (λ (k : ℕ). value cs * 2 ^ k + value bs) (sum_eights (length bs))
  where
    lengths : (n : ℕ) → length {A = ℕ} (replicate n 8) ≡ n
    lengths zero = refl
    lengths (suc n) = ap suc (lengths n)

pub decode-append : (ws us cs bs : List ℕ) → sum us ≡ 8 * length bs → decode (ws ++ us) (cs ++ bs) ≡ decode ws cs ++ decode us bs
decode-append ws us cs bs f =
    ap (split (ws ++ us)) (value-append cs bs ∙ ap (λ (k : ℕ). value cs * 2 ^ k + value bs) (sym f))
    ∙ split-append ws us (value cs) (value bs) (subst (λ (k : ℕ). value bs < 2 ^ k) (sym f) (value-lt bs))

-- the first group of the bytes from a on, which has n of them
pub decode-cut : (ws us bs : List ℕ) (a n : ℕ) → sum us ≡ 8 * (length bs - (a + n))
    → decode (ws ++ us) (drop a bs) ≡ decode ws (take n (drop a bs)) ++ decode us (drop (a + n) bs)
decode-cut ws us bs a n f =
    ap (decode (ws ++ us)) (sym (take-append-drop n (drop a bs)))
    ∙ decode-append ws us (take n (drop a bs)) (drop n (drop a bs))
    (f ∙ ap (λ (k : ℕ). 8 * k) (sym (length-drop (a + n) bs) ∙ ap length (sym (drop-drop n a bs))))
    ∙ ap (λ (t : List ℕ). decode ws (take n (drop a bs)) ++ decode us t) (drop-drop n a bs)

-- the first k fields, which fill m bytes, before the others, which fill n
pub group : (k m n : ℕ) (ws vs : List ℕ) {front rest : List ℕ}
    → sum (take k ws) ≡ 8 * m → sum (drop k ws) ≡ 8 * n → length (take k ws) ≡ length (take k vs)
    → encode (take k ws) (take k vs) ≡ front → encode (drop k ws) (drop k vs) ≡ rest → encode ws vs ≡ front ++ rest
group k m n ws vs e f l p q =
    ap₂ encode (sym (take-append-drop k ws)) (sym (take-append-drop k vs))
    ∙ encode-append (take k ws) (drop k ws) (take k vs) (drop k vs) m n e f l ∙ ap₂ ◌++◌ p q

-- the first k fields of the bytes from a on, which fill n of them, before the others
pub degroup : (k a n : ℕ) (ws bs : List ℕ) {front rest : List ℕ} → sum (drop k ws) ≡ 8 * (length bs - (a + n))
    → decode (take k ws) (take n (drop a bs)) ≡ front → decode (drop k ws) (drop (a + n) bs) ≡ rest
    → decode ws (drop a bs) ≡ front ++ rest
degroup k a n ws bs f p q =
    ap (λ (t : List ℕ). decode t (drop a bs)) (sym (take-append-drop k ws))
    ∙ decode-cut (take k ws) (drop k ws) bs a n f ∙ ap₂ ◌++◌ p q

-- the last group
pub degroup_last : (a n : ℕ) (ws bs : List ℕ) {rest : List ℕ} → length bs ≤ a + n → decode ws (take n (drop a bs)) ≡ rest
    → decode ws (drop a bs) ≡ rest
degroup_last a n ws bs h p =
    ap (decode ws) (sym (take_all n (drop a bs) (simp length-drop (omega arith)))) ∙ p
