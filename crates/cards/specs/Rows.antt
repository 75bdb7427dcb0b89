-- How places lie in a memory: rows of 8,258 bytes, each a mark of two bytes and then a block. Assumes nothing.
--
--   row_len, row_count mem       the bytes of a row, and the whole rows of a memory; bytes behind the last one mean nothing
--   block_mark, blank_mark, struck_mark  the marks of a block, of a blank place, and the one that a strike writes
--   mark_kind mark               what a mark means: every mark but those of block and blank means lost
--   row_at mem i                 the content of row i: its mark decides, and a block's bytes stand behind it
--   rows mem                     the contents of all rows
--   laid xs at ys                xs with ys laid over it from index `at` on
--   stored mem i bs              the memory after a block is written to row i
--   struck mem i                 the memory after row i is struck: its block bytes stay
--   put_memory, strike_memory    the memory after a put or a strike at a place, granted or refused
use Rattle.std.specs.Prelude.{ℕ, ◌+◌, ◌*◌, ◌/◌, Bool, cond, ◌&&◌, List, [], ◌∷◌, ◌++◌, map, length, take, drop, ◌==◌, slice_index}
use Rattle.std.specs.List.{range_with_len}
use Rattle.cards.specs.declared.Kind.{Kind}
use Rattle.cards.specs.declared.Kind.TheVariants.{Blank, Lost, Block}
use Rattle.cards.specs.Content.{block_len, Content, blank, lost, block}
use Rattle.cards.specs.Calls.{judged, judged_place, if_granted}

abbrev pub row_len : ℕ
row_len = 8258

abbrev pub row_count : List ℕ → ℕ
row_count mem = length mem / row_len

abbrev pub block_mark : List ℕ
block_mark = 0xD1 ∷ 0x05 ∷ []

abbrev pub blank_mark : List ℕ
blank_mark = 0x00 ∷ 0x00 ∷ []

abbrev pub struck_mark : List ℕ
struck_mark = 0xEE ∷ 0xEE ∷ []

-- both bytes of a mark are those of another
abbrev pub same_mark : List ℕ → List ℕ → Bool
same_mark mark other = slice_index mark 0 == slice_index other 0 && slice_index mark 1 == slice_index other 1

abbrev pub mark_kind : List ℕ → Kind
mark_kind mark = cond (same_mark mark block_mark) Block (cond (same_mark mark blank_mark) Blank Lost)

abbrev pub content_of : Kind → List ℕ → Content
content_of Blank bs = blank
content_of Lost bs = lost
content_of Block bs = block bs

unfoldable pub row_at : List ℕ → ℕ → Content
row_at mem i = content_of (mark_kind (take 2 (drop (i * row_len) mem))) (take block_len (drop (i * row_len + 2) mem))

unfoldable pub rows : List ℕ → List Content
rows mem = map (row_at mem) (range_with_len 0 (row_count mem))

unfoldable pub laid : {X : Type 0} → List X → ℕ → List X → List X
laid xs at ys = take at xs ++ (ys ++ drop (at + length ys) xs)

abbrev pub stored : List ℕ → ℕ → List ℕ → List ℕ
stored mem i bs = laid (laid mem (i * row_len) block_mark) (i * row_len + 2) bs

abbrev pub struck : List ℕ → ℕ → List ℕ
struck mem i = laid mem (i * row_len) struck_mark

abbrev pub put_memory : List ℕ → ℕ → List ℕ → List ℕ
put_memory mem p bs = if_granted (judged (length bs) (row_count mem) p) (stored mem p bs) mem

abbrev pub strike_memory : List ℕ → ℕ → List ℕ
strike_memory mem p = if_granted (judged_place (row_count mem) p) (struck mem p) mem
