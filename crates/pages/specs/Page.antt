-- What the page call answers: one page of a block as a part of that block. Assumes nothing.
--
--   View               a page by its kind: the bytes and place of a Data page, the place and count of the others
--   viewed r           the answer r, with its page by the bytes it borrows
--   page_is field k    the page behind the first k pages
--   page_answer b n    what the call answers of page n of the block b, pages counted from 1
use Rattle.std.specs.Prelude.{ℕ, ◌-◌, cond, ◌&&◌, List, [], ◌∷◌, length, take, drop, Some, None, Ok, Err, Option, Result, ◌==◌, nat_le}
use Rattle.refusal.specs.Tells.{Answer, tells}
use Rattle.refusal.specs.declared.Refusal.{Refusal}
use Rattle.block.specs.Block.{data_field, block_len}
use Rattle.pages.specs.Map.{entry_at, map_size, page_start}
use Rattle.pages.specs.declared.page_type.PageType.TheVariants as kinds
use Rattle.pages.specs.declared.entry.Entry.{Entry}
use Rattle.pages.specs.declared.page.Page.{Page as Pages}
use Rattle.pages.specs.declared.page.Page.TheVariants.{Data, Filler, TapeMark}

pub data View : Type 0 where
  data_at : List ℕ → ℕ → View
  filler_at : ℕ → ℕ → View
  mark_at : ℕ → ℕ → View

abbrev pub view : Pages → View
view (Data bytes place) = data_at bytes.now place
view (Filler place count) = filler_at place count
view (TapeMark place count) = mark_at place count

abbrev pub viewed : Result Pages Refusal → Answer View
viewed (Ok p) = Ok (view p)
viewed (Err e) = Err (tells e)

abbrev pub page_of : List ℕ → Entry → ℕ → View
page_of field e place =
    elim e.kind [
      | kinds.Data ↦ data_at (take e.count (drop place field)) place
      | kinds.TapeMark ↦ mark_at place e.count
      | _ ↦ filler_at place e.count
    ]

abbrev pub page_is : List ℕ → ℕ → View
page_is field k = page_of field (entry_at field k) (page_start field k)

-- in a map of so many entries; an unlawful map is refused with 14, a number that no page has with 10
abbrev pub page_among : List ℕ → Option ℕ → ℕ → Answer View
page_among field None n = Err (14, 0 ∷ 0 ∷ 0 ∷ [])
page_among field (Some pages) n = cond (nat_le 1 n && nat_le n pages) (Ok (page_is field (n - 1))) (Err (10, n ∷ []))

abbrev pub page_answer : List ℕ → ℕ → Answer View
page_answer b n = cond (length b == block_len) (page_among (data_field b) (map_size (data_field b)) n) (Err (1, length b ∷ []))
