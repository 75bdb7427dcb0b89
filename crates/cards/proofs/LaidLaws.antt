-- Laws of a list that is laid over a part of another, and of parts of a list. Assumes nothing.
use Rattle.std.proofs.Common.{◌≡◌, ℕ, ◌+◌, ◌<◌, ◌≤◌, List, length, get_or, take, drop, sym, ◌∙◌, arith, rules}
use Rattle.std.proofs.lemmas.List.{places, ext_get_or, length-take, length-drop, get_or-take, get_or-drop}
use Rattle.cards.specs.Rows.{laid}

pub length-laid : {X : Type 0} (xs : List X) (at : ℕ) (ys : List X) → at + length ys ≤ length xs
    → length (laid xs at ys) ≡ length xs
unfolding laid
length-laid xs at ys h = search (rules, places)

pub laid-below : {X : Type 0} (xs : List X) (at : ℕ) (ys : List X) (k : ℕ) (d : X) → at ≤ length xs → k < at
    → get_or (laid xs at ys) k d ≡ get_or xs k d
unfolding laid
laid-below xs at ys k d h l = search (rules, places)

pub laid_in : {X : Type 0} (xs : List X) (at : ℕ) (ys : List X) (k : ℕ) (d : X) → at ≤ length xs → k < length ys
    → get_or (laid xs at ys) (at + k) d ≡ get_or ys k d
unfolding laid
laid_in xs at ys k d h l = search (rules, places)

pub laid_above : {X : Type 0} (xs : List X) (at : ℕ) (ys : List X) (k : ℕ) (d : X) → at ≤ length xs → at + length ys ≤ k
    → get_or (laid xs at ys) k d ≡ get_or xs k d
unfolding laid
laid_above xs at ys k d h l = search (rules, places)

-- a part of a list depends on its own elements alone
pub part_same : (xs ys : List ℕ) (a n : ℕ) → length xs ≡ length ys
    → ((k : ℕ) → a ≤ k → k < a + n → get_or xs k 0 ≡ get_or ys k 0) → take n (drop a xs) ≡ take n (drop a ys)
part_same xs ys a n e h =
    ext_get_or 0 (take n (drop a xs)) (take n (drop a ys)) (simp (length-take, length-drop, e))
    (λ i l.
    let m : i < n = omega (arith, length-take n (drop a xs)) in
    simp (get_or-take, get_or-drop) (h (a + i) (omega arith) (omega arith)))

-- a part of a list is known from its elements
pub part_is : (xs ys : List ℕ) (a n : ℕ) → length ys ≡ n → a + n ≤ length xs
    → ((k : ℕ) → k < n → get_or xs (a + k) 0 ≡ get_or ys k 0) → take n (drop a xs) ≡ ys
part_is xs ys a n e f h =
    let t : length (take n (drop a xs)) ≡ n = simp (length-take, length-drop) (omega arith) in
    ext_get_or 0 (take n (drop a xs)) ys (t ∙ sym e)
    (λ i l. let m : i < n = omega (arith, t) in rw (get_or-take, get_or-drop) (h i m))
