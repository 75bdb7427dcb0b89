-- A loop that puts contents at the places of a run, the top place first. Assumes nothing.
use Rattle.std.proofs.Common.{◌≡◌, ℕ, ◌+◌, ◌-◌, ◌<◌, ◌≤◌, List, [], ◌∷◌, ◌++◌, length, get_or, take, drop, set, sym, ap, ◌∙◌, arith}
use Rattle.std.proofs.lemmas.List.{append_assoc, take_more, drop_more, set_at, length-take-le, length-append, length-drop, take-append-drop, drop_all}
use Rattle.cards.specs.Content.{block_len, Content, lost, block}
use Rattle.cards.specs.Calls.{put_contents}
use Rattle.cards.specs.Rows.{laid}
use Rattle.cards.proofs.AnswerLaws.{put_in}

-- the contents cs, with those of ys from the i-th on at the places from s + i on
abbrev pub down_to : List Content → ℕ → List Content → ℕ → List Content
down_to cs s ys i = take (s + i) cs ++ (drop i ys ++ drop (s + length ys) cs)

pub down_none : (cs ys : List Content) (s n : ℕ) → length ys ≡ n → cs ≡ down_to cs s ys n
down_none cs ys s n e =
    sym
    (ap (λ z. take (s + n) cs ++ (z ++ drop (s + length ys) cs)) (drop_all n ys (omega arith))
    ∙ ap (λ z. take (s + n) cs ++ drop (s + z) cs) e ∙ take-append-drop (s + n) cs
    )

length_down : (cs ys : List Content) (s i : ℕ) → i ≤ length ys → s + length ys ≤ length cs
    → length (down_to cs s ys i) ≡ length cs
length_down cs ys s i h k =
    let t = length-take-le (s + i) cs (omega arith) in
    simp (length-append, length-drop) (omega arith)

set-take : (k : ℕ) (cs ts : List Content) (x : Content) → k < length cs
    → set (take (k + 1) cs ++ ts) k x ≡ take k cs ++ (x ∷ ts)
set-take k cs ts x h =
    let t : length (take k cs) ≡ k = length-take-le k cs (omega arith) in
    ap (λ z. set (z ++ ts) k x) (take_more cs k lost h)
    ∙ ap (λ z. set z k x) (append_assoc (take k cs) (get_or cs k lost ∷ []) ts)
    ∙ set_at (take k cs) (get_or cs k lost) ts x k t

down_more : (cs ys : List Content) (s i : ℕ) (x : Content) → s + i < length cs → i < length ys → get_or ys i lost ≡ x
    → set (down_to cs s ys (i + 1)) (s + i) x ≡ down_to cs s ys i
down_more cs ys s i x h k e =
    let a : s + (i + 1) ≡ (s + i) + 1 = omega arith in
    ap (λ z. set (take z cs ++ (drop (i + 1) ys ++ drop (s + length ys) cs)) (s + i) x) a
    ∙ set-take (s + i) cs (drop (i + 1) ys ++ drop (s + length ys) cs) x h
    ∙ ap (λ z. take (s + i) cs ++ (z ++ drop (s + length ys) cs))
    (ap (λ z. z ∷ drop (i + 1) ys) (sym e) ∙ sym (drop_more ys i lost k))

pub down_all : (cs ys : List Content) (s i : ℕ) → i ≡ 0 → down_to cs s ys i ≡ laid cs s ys
unfolding laid
down_all cs ys s i e =
    let z : s + 0 ≡ s = omega arith in
    ap (down_to cs s ys) e ∙ ap (λ k. take k cs ++ (ys ++ drop (s + length ys) cs)) z

-- one turn down: the content before the i-th is put
pub down_step : (cs ys : List Content) (s i n : ℕ) (was then : List Content) (bs : List ℕ) → 0 < i → i ≤ n
    → length ys ≡ n → s + n ≤ length cs
    → was ≡ down_to cs s ys i → then ≡ put_contents was (s + (i - 1)) bs → length bs ≡ block_len
    → get_or ys (i - 1) lost ≡ block bs
    → then ≡ down_to cs s ys (i - 1)
down_step cs ys s i n was then bs p q e h w t l g =
    let j : i ≡ (i - 1) + 1 = omega arith in
    let m = length_down cs ys s i (omega arith) (omega arith) in
    let o = ap length w in
    t ∙ put_in was (s + (i - 1)) bs l (omega arith)
    ∙ ap (λ z. set z (s + (i - 1)) (block bs)) (w ∙ ap (down_to cs s ys) j)
    ∙ down_more cs ys s (i - 1) (block bs) (omega arith) (omega arith) g
