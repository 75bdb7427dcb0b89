-- What a card means: the content of each of its places. Assumes nothing.
--
--   block_len        the bytes of a block
--   Content          what a place holds: blank, lost, or a block's bytes
--   content_at cs p  the content of place p, where the places 0, 1, 2 and on hold cs; lost where there is no such place
--   bytes_of x       what a get of the content x leaves in the buffer
--   Whole cs         no place has a block of another length
use Rattle.std.specs.Prelude.{◌≡◌, ℕ, List, length, replicate, slice_index_or}

abbrev pub block_len : ℕ
block_len = 8256

-- nothing was put there; what was put can no longer be read; a block stands there
pub data Content : Type 0 where
  blank : Content
  lost : Content
  block : List ℕ → Content

abbrev pub content_at : List Content → ℕ → Content
content_at cs p = slice_index_or cs p lost

abbrev pub bytes_of : Content → List ℕ
bytes_of blank = replicate block_len 0
bytes_of lost = replicate block_len 0
bytes_of (block bs) = bs

abbrev pub Whole : List Content → Type 0
Whole cs = (p : ℕ) → length (bytes_of (content_at cs p)) ≡ block_len
