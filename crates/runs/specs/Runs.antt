-- Runs of places: what is put at several places in a row, and what is got from them. Assumes nothing.
--
--   block_at bytes i             block i of bytes in which blocks stand joined
--   blocks bytes n               the first n of them, as contents
--   judged_block m               1 and the length m, unless it is that of a block
--   judged_blocks m              1 and the length m, unless it is that of whole blocks
--   judged_run P s n             2 and the first place that is lacking, unless the n places from s on are among P places
--   copies_answer, copies_contents  what is answered, and what the places then hold, for n copies of a block from s on
--   run_answer, run_contents     the same for all blocks of some bytes, from s on
--   run_bytes cs s n             what n gets from place s on give, joined; a place that is not there gives zeros
--   run_buffer cs s buf          what a buffer holds after its blocks are got from the places from s on
use Rattle.std.specs.Prelude.{ℕ, ◌+◌, ◌*◌, ◌/◌, ◌%◌, max, cond, List, [], ◌∷◌, map, length, take, drop, replicate, Ok, Err, ◌==◌, nat_le}
use Rattle.std.specs.List.{range_with_len, flat_map}
use Rattle.refusal.specs.Tells.{Answer, and_then}
use Rattle.cards.specs.Content.{block_len, Content, block, content_at, bytes_of}
use Rattle.cards.specs.Calls.{if_granted}
use Rattle.cards.specs.Rows.{laid}

abbrev pub block_at : List ℕ → ℕ → List ℕ
block_at bytes i = take block_len (drop (i * block_len) bytes)

unfoldable pub blocks : List ℕ → ℕ → List Content
blocks bytes n = map (λ i. block (block_at bytes i)) (range_with_len 0 n)

abbrev pub judged_block : ℕ → Answer (Unit {0})
judged_block m = cond (m == block_len) (Ok tt) (Err (1, m ∷ []))

abbrev pub judged_blocks : ℕ → Answer (Unit {0})
judged_blocks m = cond (m % block_len == 0) (Ok tt) (Err (1, m ∷ []))

abbrev pub judged_run : ℕ → ℕ → ℕ → Answer (Unit {0})
judged_run P s n = cond (nat_le (s + n) P) (Ok tt) (Err (2, max s P ∷ []))

abbrev pub copies_answer : ℕ → ℕ → ℕ → ℕ → Answer (Unit {0})
copies_answer P s n m = and_then (judged_block m) (λ _. judged_run P s n)

abbrev pub copies_contents : List Content → ℕ → ℕ → List ℕ → List Content
copies_contents cs s n bs =
    if_granted (copies_answer (length cs) s n (length bs)) (laid cs s (replicate n (block bs))) cs

abbrev pub run_answer : ℕ → ℕ → ℕ → Answer (Unit {0})
run_answer P s m = and_then (judged_blocks m) (λ _. judged_run P s (m / block_len))

abbrev pub run_contents : List Content → ℕ → List ℕ → List Content
run_contents cs s bytes =
    if_granted (run_answer (length cs) s (length bytes)) (laid cs s (blocks bytes (length bytes / block_len))) cs

unfoldable pub run_bytes : List Content → ℕ → ℕ → List ℕ
run_bytes cs s n = flat_map (λ i. bytes_of (content_at cs (s + i))) (range_with_len 0 n)

abbrev pub run_buffer : List Content → ℕ → List ℕ → List ℕ
run_buffer cs s buf = if_granted (judged_blocks (length buf)) (run_bytes cs s (length buf / block_len)) buf
