-- The Data Field of a block's pages: pages from the front, their MAP entries from the back. Assumes nothing.
--
--   entry_for pg last     the MAP entry of the page pg, the last of its block or not
--   entries pgs           the bytes of the entries, the first page's last
--   page_entries pgs      the entries, the first page's first
--   user_count pg         the bytes of records on a page
--   user_bytes pgs        the same on all pages of a block; all_user_bytes, of several blocks
--   page_bytes pgs bs     the bytes of the pages, those of records taken from the joined bytes bs
--   page_sizes pgs        the bytes of the pages and their entries
--   field_of pgs bs       the Data Field; fields, those of several blocks
--   starts_record pgs     a record starts on one of the pages
--   has_mark pgs          one of the pages is a tape mark
--   ends_on pgs           how many objects end on the pages; ends_in, in several blocks
use Rattle.std.specs.Prelude.{ℕ, ◌+◌, ◌-◌, Bool, true, false, cond, ◌&&◌, ◌||◌, List, [], ◌∷◌, ◌++◌, take, drop, ◌==◌, nat_lt}
use Rattle.block.specs.Block.{zeros}
use Rattle.pages.specs.Entry.{entry_bytes}
use Rattle.pages.specs.declared.page_type.PageType.TheVariants.{Filler, Data, TapeMark}
use Rattle.pages.specs.declared.entry.Entry.{Entry}
use Rattle.plan.specs.declared.page.PlannedPage.{PlannedPage}

abbrev pub is_empty : {A : Type 0} → List A → Bool
is_empty [] = true
is_empty (x ∷ xs) = false

abbrev pub entry_for : PlannedPage → Bool → Entry
entry_for pg l = record {
  kind = pg.kind;
  next = pg.more;
  prev = nat_lt 1 pg.piece;
  last = l;
  compressed = false;
  reserved = 0;
  count = pg.count;
  total = pg.total;
}

abbrev pub entries : List PlannedPage → List ℕ
entries [] = []
entries (pg ∷ pgs) = entries pgs ++ entry_bytes (entry_for pg (is_empty pgs))

abbrev pub page_entries : List PlannedPage → List Entry
page_entries [] = []
page_entries (pg ∷ pgs) = entry_for pg (is_empty pgs) ∷ page_entries pgs

abbrev pub holds_record : PlannedPage → Bool
holds_record pg = elim pg.kind [ Data ↦ true | _ ↦ false ]

abbrev pub user_count : PlannedPage → ℕ
user_count pg = cond (holds_record pg) pg.count 0

abbrev pub user_bytes : List PlannedPage → ℕ
user_bytes [] = 0
user_bytes (pg ∷ pgs) = user_count pg + user_bytes pgs

abbrev pub all_user_bytes : List (List PlannedPage) → ℕ
all_user_bytes [] = 0
all_user_bytes (pgs ∷ more) = user_bytes pgs + all_user_bytes more

-- tape marks and Filler are zeros
abbrev pub page_bytes : List PlannedPage → List ℕ → List ℕ
page_bytes [] bs = []
page_bytes (pg ∷ pgs) bs =
    let n : ℕ = user_count pg in
    (take n bs ++ zeros (pg.count - n)) ++ page_bytes pgs (drop n bs)

abbrev pub page_sizes : List PlannedPage → ℕ
page_sizes [] = 0
page_sizes (pg ∷ pgs) = pg.count + 8 + page_sizes pgs

-- unmapped bytes are zeros
abbrev pub field_of : List PlannedPage → List ℕ → List ℕ
field_of pgs bs = page_bytes pgs bs ++ (zeros (8208 - page_sizes pgs) ++ entries pgs)

abbrev pub fields : List (List PlannedPage) → List ℕ → List (List ℕ)
fields [] bs = []
fields (pgs ∷ more) bs = field_of pgs bs ∷ fields more (drop (user_bytes pgs) bs)

abbrev pub starts_record : List PlannedPage → Bool
starts_record [] = false
starts_record (pg ∷ pgs) = (holds_record pg && pg.piece == 1) || starts_record pgs

abbrev pub has_mark : List PlannedPage → Bool
has_mark [] = false
has_mark (pg ∷ pgs) = elim pg.kind [ TapeMark ↦ true | _ ↦ has_mark pgs ]

abbrev pub ends_on : List PlannedPage → ℕ
ends_on [] = 0
ends_on (pg ∷ pgs) = (elim pg.kind [ Filler ↦ 0 | _ ↦ cond pg.more 0 1 ]) + ends_on pgs

abbrev pub ends_in : List (List PlannedPage) → ℕ
ends_in [] = 0
ends_in (pgs ∷ more) = ends_on pgs + ends_in more
