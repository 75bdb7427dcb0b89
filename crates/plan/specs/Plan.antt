-- How the objects of a write are packed into data blocks, page by page. Assumes nothing.
--
--   data_page, mark_page, filler_page  the three kinds of page
--   onto pg bs                   the page pg before the pages of the first of the blocks bs
--   pack                         the blocks that some objects still need
--   packed ls                    the data blocks of the objects with the lengths ls
--   plan ls                      the same, with the block that a last entity of one data block gets added
use Rattle.std.specs.Prelude.{ℕ, zero, suc, ◌+◌, ◌-◌, ◌*◌, ◌%◌, Bool, true, false, cond, List, [], ◌∷◌, ◌++◌, length, ◌==◌, nat_le, slice_index}
use Rattle.bits.specs.Fields.{sum}
use Rattle.pages.specs.declared.page_type.PageType.TheVariants.{Filler, Data, TapeMark}
use Rattle.plan.specs.declared.page.PlannedPage.{PlannedPage}

-- c bytes of a record of l bytes, object o of the write, as its piece m
abbrev pub data_page : ℕ → Bool → ℕ → ℕ → ℕ → PlannedPage
data_page m more c l o = record { kind = Data; piece = m; more = more; count = c; total = l; object = o }

abbrev pub mark_page : ℕ → ℕ → PlannedPage
mark_page c o = record { kind = TapeMark; piece = 1; more = false; count = c; total = 0; object = o }

abbrev pub filler_page : ℕ → ℕ → PlannedPage
filler_page c o = record { kind = Filler; piece = 1; more = false; count = c; total = 0; object = o }

abbrev pub onto : PlannedPage → List (List PlannedPage) → List (List PlannedPage)
onto pg [] = (pg ∷ []) ∷ []
onto pg (b ∷ bs) = (pg ∷ b) ∷ bs

-- Packs objects into blocks, the first of which has `free` bytes left. `rest` bytes of the first object are still to
-- come, as its piece `m`; `o` is its number in the write. A page starts only if more than 16 bytes are free, and has at
-- most free - 8 bytes: a record takes what it needs of that and goes on in the next block, a tape mark takes all of it,
-- and so does Filler after the last object.
-- Each step but the last is a page or a new block, so twice the bytes and objects bound the steps.
unfoldable pub pack : ℕ → ℕ → ℕ → ℕ → ℕ → List ℕ → List (List PlannedPage)
pack zero free m rest o ls = [] ∷ []
pack (suc steps) free m rest o [] =
    elim (nat_le free 16) [ true ↦ [] ∷ [] | false ↦ (filler_page (free - 8) (o - 1) ∷ []) ∷ [] ]
pack (suc steps) free m rest o (l ∷ ls) =
    elim (nat_le free 16) [
      | true ↦ [] ∷ pack steps 8208 m rest o (l ∷ ls)
      | false ↦
          elim (l == 0) [
            | true ↦ onto (mark_page (free - 8) o) (pack steps 0 1 (slice_index ls 0) (suc o) ls)
            | false ↦
                elim (nat_le rest (free - 8)) [
                  | true ↦ onto (data_page m false rest l o) (pack steps (free - 8 - rest) 1 (slice_index ls 0) (suc o) ls)
                  | false ↦ onto (data_page m true (free - 8) l o)
                      (pack steps 0 (suc m) (rest - (free - 8)) o (l ∷ ls))
                ]
          ]
    ]

abbrev pub packed : List ℕ → List (List PlannedPage)
packed ls = pack (2 * (sum ls + length ls) + 2) 8208 1 (slice_index ls 0) 1 ls

-- a last entity of one data block gets a second, of one Filler page
unfoldable pub plan : List ℕ → List (List PlannedPage)
plan ls =
    let bs : List (List PlannedPage) = packed ls in
    cond (length bs % 16 == 1) (bs ++ ((filler_page 8200 (length ls) ∷ []) ∷ [])) bs

-- the data blocks of a write, the added one counted
abbrev pub data_block_count : List ℕ → ℕ
data_block_count ls = length (plan ls)
