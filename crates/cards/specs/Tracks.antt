-- Places dealt out in turn to four memories. Assumes nothing.
--
--   shortest ms                  as many rows as the shortest of four memories has
--   dealt ms                     the contents of the places: place i is row i / 4 of memory i % 4
--   on_track ms p f              the memories, with that of place p changed by f at its row
--   put_memories, strike_memories  the memories after a put or a strike at a place, granted or refused
use Rattle.std.specs.Prelude.{ℕ, ◌*◌, ◌/◌, ◌%◌, min, List, [], map, length, slice_index_or, slice_set}
use Rattle.std.specs.List.{range_with_len}
use Rattle.cards.specs.Content.{Content}
use Rattle.cards.specs.Calls.{judged, judged_place, if_granted}
use Rattle.cards.specs.Rows.{row_at, row_count, stored, struck}

abbrev pub memory_of : List (List ℕ) → ℕ → List ℕ
memory_of ms j = slice_index_or ms j []

abbrev pub shortest : List (List ℕ) → ℕ
shortest ms =
    min (min (row_count (memory_of ms 0)) (row_count (memory_of ms 1)))
    (min (row_count (memory_of ms 2)) (row_count (memory_of ms 3)))

abbrev pub dealt_at : List (List ℕ) → ℕ → Content
dealt_at ms i = row_at (memory_of ms (i % 4)) (i / 4)

unfoldable pub dealt : List (List ℕ) → List Content
dealt ms = map (dealt_at ms) (range_with_len 0 (4 * shortest ms))

abbrev pub on_track : List (List ℕ) → ℕ → (List ℕ → ℕ → List ℕ) → List (List ℕ)
on_track ms p f = slice_set ms (p % 4) (f (memory_of ms (p % 4)) (p / 4))

abbrev pub put_memories : List (List ℕ) → ℕ → List ℕ → List (List ℕ)
put_memories ms p bs =
    if_granted (judged (length bs) (4 * shortest ms) p) (on_track ms p (λ mem row. stored mem row bs)) ms

abbrev pub strike_memories : List (List ℕ) → ℕ → List (List ℕ)
strike_memories ms p = if_granted (judged_place (4 * shortest ms) p) (on_track ms p struck) ms
