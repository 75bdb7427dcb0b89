-- A MAP entry as fields of bits: Page Type, N, P, L, C, Reserved, Page Byte Count, Record Byte Count. Assumes nothing.
use Rattle.std.specs.Prelude.{◌≡◌, ℕ, List, [], ◌∷◌, length, ◌==◌, slice_index}
use Rattle.bits.specs.Fields.{encode, decode, bit, Within, AllBytes}
use Rattle.pages.specs.PageType.{type_of, number_of}
use Rattle.pages.specs.declared.entry.Entry.{Entry}

abbrev pub entry_widths : List ℕ
entry_widths = 3 ∷ 1 ∷ 1 ∷ 1 ∷ 1 ∷ 9 ∷ 16 ∷ 32 ∷ []

abbrev pub entry_fields : Entry → List ℕ
entry_fields e =
    number_of e.kind ∷ bit e.next ∷ bit e.prev ∷ bit e.last ∷ bit e.compressed ∷ e.reserved ∷ e.count ∷ e.total ∷ []

-- an entry in eight bytes
unfoldable pub entry_bytes : Entry → List ℕ
entry_bytes e = encode entry_widths (entry_fields e)

abbrev pub from_entry_fields : List ℕ → Entry
from_entry_fields f = record {
  kind = type_of (slice_index f 0);
  next = (slice_index f 1 == 1);
  prev = (slice_index f 2 == 1);
  last = (slice_index f 3 == 1);
  compressed = (slice_index f 4 == 1);
  reserved = slice_index f 5;
  count = slice_index f 6;
  total = slice_index f 7;
}

-- the entry that eight bytes hold
unfoldable pub entry_of : List ℕ → Entry
entry_of bs = from_entry_fields (decode entry_widths bs)

-- An entry within its widths comes back from its bytes, and bytes come back from the entry they hold.
abbrev pub EntryDecodes : Type 0
EntryDecodes =
    (e : Entry) → Within entry_widths (entry_fields e) → entry_of (entry_bytes e) ≡ e

abbrev pub EntryEncodes : Type 0
EntryEncodes = (bs : List ℕ) → length bs ≡ 8 → AllBytes bs → entry_bytes (entry_of bs) ≡ bs
