-- The map of a Data Field: its entries from the back, when it is lawful, and where its pages start. Assumes nothing.
--
--   entry_at field i           the i-th entry, from 0: the first page's stands in the last eight bytes, the next before it
--   is_data e                  e is the entry of a page that holds bytes of a record
--   lawful_entry first e       the entry e may stand in a map, as its first or not
--   map_step free first e      what e says of the map, where `free` bytes are free; nothing if it is then not lawful
--   map_size field             how many entries the map has, if it is lawful
--   page_start field k         where the page behind the first k starts
--   pages_and_entries field k  the bytes of the first k pages and their entries
use Rattle.std.specs.Prelude.{◌≡◌, ℕ, zero, suc, ◌+◌, ◌-◌, ◌*◌, ◌<◌, ◌≤◌, Bool, true, false, cond, not, ◌&&◌, ◌||◌, List, take, drop, Some, None, Option, ◌==◌, nat_le}
use Rattle.pages.specs.PageType.{is_known}
use Rattle.pages.specs.declared.page_type.PageType.TheVariants.{Data}
use Rattle.pages.specs.Entry.{entry_of}
use Rattle.pages.specs.declared.entry.Entry.{Entry}
use Rattle.pages.specs.declared.map.Step.{Step}
use Rattle.pages.specs.declared.map.Step.TheVariants.{Last, Next}

abbrev pub entry_at : List ℕ → ℕ → Entry
entry_at field i = entry_of (take 8 (drop (8208 - 8 * (i + 1)) field))

abbrev pub is_data : Entry → Bool
is_data e = elim e.kind [ Data ↦ true | _ ↦ false ]

abbrev pub lawful_entry : Bool → Entry → Bool
lawful_entry first e =
    is_known e.kind && (not e.compressed && (e.reserved == 0 && (nat_le 1 e.count
    && ((not e.prev || (first && is_data e))
    && ((not e.next || (e.last && is_data e))
    && cond (is_data e) (nat_le 1 e.total && nat_le e.total 1048576) (e.last && e.total == 0))))))

abbrev pub map_step : ℕ → Bool → Entry → Option Step
map_step free first e =
    cond (lawful_entry first e && nat_le (e.count + 8) free)
    (cond e.last (cond (nat_le (free - (e.count + 8)) 16) (Some Last) None) (Some (Next (free - (e.count + 8)))))
    None

-- entries from the i-th on, with `free` bytes free; a block has room for 1,026 at most
unfoldable pub map_from : ℕ → ℕ → ℕ → List ℕ → Option ℕ
map_from zero free i field = None
map_from (suc left) free i field =
    elim (map_step free (i == 0) (entry_at field i))
    [ None ↦ None | Some Last ↦ Some (i + 1) | Some (Next rest) ↦ map_from left rest (i + 1) field ]

unfoldable pub map_size : List ℕ → Option ℕ
map_size field = map_from 1026 8208 0 field

unfoldable pub page_start : List ℕ → ℕ → ℕ
page_start field zero = 0
page_start field (suc k) = page_start field k + (entry_at field k).count

abbrev pub pages_and_entries : List ℕ → ℕ → ℕ
pages_and_entries field k = page_start field k + 8 * k

-- The rule of the map, said of all its n entries at once.
pub record LawfulMap (field : List ℕ) (n : ℕ) : Type 0 where
  pub some : 1 ≤ n
  pub last : (i : ℕ) → i < n → (entry_at field i).last ≡ (i + 1 == n)
  pub each : (i : ℕ) → i < n → lawful_entry (i == 0) (entry_at field i) ≡ true
  pub room : pages_and_entries field n ≤ 8208
  pub full : 8208 ≤ pages_and_entries field n + 16

-- A map of n entries is found exactly where the rule holds of n entries.
abbrev pub MapsByRule : Type 0
MapsByRule =
    (field : List ℕ) (n : ℕ) → (map_size field ≡ Some n → LawfulMap field n) × (LawfulMap field n → map_size field ≡ Some n)
