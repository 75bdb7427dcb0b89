-- Following the pages of data blocks, read from the bytes of their Data Fields, to the objects they hold. Assumes nothing.
--
--   entries_of field          the entries of a lawful map
--   Open                      a record that goes on: its Record Byte Count and its bytes so far; or none
--   joins e total got         what a Data page says when `got` are its record's bytes up to its end, of `total` in all
--   page_step o e bs          what a page with the entry e and the bytes bs says where o is open
--   follow_pages, follow_block the objects that end on some pages, in a block, and what is open behind them
--   follow_blocks last o b fs the same over the Data Fields fs of blocks numbered from b; in an envelope's last entity
--                            nothing may stay open
use Rattle.std.specs.Prelude.{ℕ, suc, ◌-◌, Bool, true, false, cond, ◌&&◌, List, [], ◌∷◌, ◌++◌, map, length, take, drop, Some, None, ◌==◌, nat_lt, Option}
use Rattle.std.specs.List.{range_with_len}
use Rattle.pages.specs.Map.{entry_at, is_data, map_size}
use Rattle.pages.specs.declared.page_type.PageType.TheVariants.{Data, TapeMark}
use Rattle.pages.specs.declared.entry.Entry.{Entry}
use Rattle.plan.specs.Objects.{Object, mark, rec}

unfoldable pub entries_of : List ℕ → Option (List Entry)
entries_of field = elim (map_size field) [ None ↦ None | Some n ↦ Some (map (entry_at field) (range_with_len 0 n)) ]

pub data Open : Type 0 where
  closed : Open
  going : ℕ → List ℕ → Open

-- the objects that ended, and then what is open, or that a page broke the rule
pub record Followed : Type 0 where
  pub ended : List Object
  pub after : Option Open

abbrev pub after_object : Object → Followed → Followed
after_object o f = record { ended = o ∷ f.ended; after = f.after }

abbrev pub broke : Followed
broke = record { ended = []; after = None }

-- a page breaks the rule, leaves a record or nothing open, or ends an object
pub data PageStep : Type 0 where
  breaks : PageStep
  goes_on : Open → PageStep
  ends : Object → PageStep

-- N, and exactly as many bytes as the Record Byte Count says
abbrev pub joins : Entry → ℕ → List ℕ → PageStep
joins e total got =
    cond (e.total == total)
    (cond e.next (cond (nat_lt (length got) total) (goes_on (going total got)) breaks)
    (cond (length got == total) (ends (rec got)) breaks))
    breaks

-- Filler is passed over
abbrev pub page_step : Open → Entry → List ℕ → PageStep
page_step closed e bs =
    elim e.kind [
      | Data ↦ cond e.prev breaks (joins e e.total bs)
      | TapeMark ↦ ends mark
      | _ ↦ goes_on closed
    ]
page_step (going total got) e bs = cond (is_data e && e.prev) (joins e total (got ++ bs)) breaks

unfoldable pub follow_pages : Open → List Entry → List ℕ → Followed
follow_pages o [] bs = record { ended = []; after = Some o }
follow_pages o (e ∷ es) bs =
    elim (page_step o e (take e.count bs)) [
      | breaks ↦ broke
      | goes_on p ↦ follow_pages p es (drop e.count bs)
      | ends x ↦ after_object x (follow_pages closed es (drop e.count bs))
    ]

abbrev pub follow_block : Open → List ℕ → Followed
follow_block o field = elim (entries_of field) [ None ↦ broke | Some es ↦ follow_pages o es field ]

-- the objects that ended, the number of the block that breaks the rule, if one does, and else what is open
pub record EntityFollowed : Type 0 where
  pub found : List Object
  pub broken : Option ℕ
  pub left_open : Open

abbrev pub before_found : List Object → EntityFollowed → EntityFollowed
before_found os f = record { found = os ++ f.found; broken = f.broken; left_open = f.left_open }

abbrev pub is_open : Open → Bool
is_open closed = false
is_open (going t got) = true

unfoldable pub follow_blocks : Bool → Open → ℕ → List (List ℕ) → EntityFollowed
follow_blocks last o b [] =
    record { found = []; broken = cond (last && is_open o) (Some (b - 1)) None; left_open = o }
follow_blocks last o b (f ∷ fs) =
    let g : Followed = follow_block o f in
    elim g.after [
      | None ↦ record { found = g.ended; broken = Some b; left_open = closed }
      | Some p ↦ before_found g.ended (follow_blocks last p (suc b) fs)
    ]
