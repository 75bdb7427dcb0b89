-- A loop that puts contents at the places of a run, the first place first. Assumes nothing.
use Rattle.std.proofs.Common.{◌≡◌, ℕ, ◌+◌, ◌<◌, List, ◌++◌, length, get_or, take, drop, set, sym, ap, ◌∙◌, arith}
use lib.Seq.{paste}
use Rattle.std.proofs.lemmas.List.Edits.{paste_more, paste_all, length-paste}
use Rattle.cards.specs.Content.{block_len, Content, lost, block}
use Rattle.cards.specs.Calls.{put_contents}
use Rattle.cards.specs.Rows.{laid}
use Rattle.cards.proofs.AnswerLaws.{put_in}

-- one turn: the i-th of the contents ys is put at place s + i
pub up_more : (cs ys : List Content) (s i : ℕ) (was then : List Content) (bs : List ℕ) → was ≡ paste cs s ys i
    → then ≡ put_contents was (s + i) bs
    → s + i < length cs → i < length ys → get_or ys i lost ≡ block bs → length bs ≡ block_len
    → then ≡ paste cs s ys (i + 1)
up_more cs ys s i was then bs w t h k e n =
    let p = length-paste cs s ys i (omega arith) (omega arith) in
    let q = ap length w in
    t ∙ put_in was (s + i) bs n (omega arith) ∙ ap (λ z. set z (s + i) (block bs)) w
    ∙ ap (λ x. set (paste cs s ys i) (s + i) x) (sym e)
    ∙ paste_more cs s ys i lost h k

pub up_all : (cs ys : List Content) (s n : ℕ) → length ys ≡ n → paste cs s ys n ≡ laid cs s ys
unfolding laid
up_all cs ys s n e = paste_all cs s ys n (sym e) ∙ ap (λ z. take s cs ++ (ys ++ drop (s + z) cs)) (sym e)
