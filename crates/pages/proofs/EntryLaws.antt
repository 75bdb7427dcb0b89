-- A MAP entry goes into its eight bytes and comes out again. Assumes nothing.
use Rattle.std.proofs.Common.{◌≡◌, ℕ, ◌+◌, ◌-◌, ◌*◌, ◌/◌, ◌%◌, ◌^◌, ◌<◌, eqb, List, [], ◌∷◌, ◌++◌, length, get_or, take, drop, sym, refl, ap, ◌∙◌, mod-lt, div-one, arith, lit<, length-drop, length-take}
use Rattle.bits.specs.Fields.{join, split, bytes, value, encode, decode, bit}
use Rattle.pages.specs.PageType.{type_of, number_of}
use Rattle.pages.specs.Entry.{entry_widths, entry_fields, from_entry_fields, entry_bytes, entry_of, EntryDecodes, EntryEncodes}
use Rattle.pages.specs.declared.entry.Entry.{Entry}
use Rattle.pages.proofs.PageTypes.{number_again, type_again}
use Rattle.bits.proofs.BitLaws.{decode_encode, encode_decode}
use Rattle.bits.proofs.Groups.{group, degroup, degroup_last}
use Rattle.bits.proofs.Digits.{bytes_two, bytes_four, encode_one, decode_one}
use Rattle.bits.proofs.BitLaws.{flag-bit, bit-flag}

entry_fields_lem : (e : Entry) → number_of e.kind < 8 → from_entry_fields (entry_fields e) ≡ e
entry_fields_lem e h = λ i. record {
  kind = type_again e.kind h i;
  next = flag-bit e.next i;
  prev = flag-bit e.prev i;
  last = flag-bit e.last i;
  compressed = flag-bit e.compressed i;
  reserved = e.reserved;
  count = e.count;
  total = e.total;
}

pub entry_decodes : EntryDecodes
unfolding entry_bytes entry_of
entry_decodes e h =
    ap from_entry_fields (decode_encode entry_widths (entry_fields e) 8 refl h) ∙ entry_fields_lem e h.0

fields_back : (x : ℕ) → entry_fields (from_entry_fields (split entry_widths x)) ≡ split entry_widths x
fields_back x = λ i.
    (number_again (f 0) ∙ low) i ∷ bit-flag (f 1) (mod-lt (x / 2 ^ 60) (lit< tt)) i ∷ bit-flag (f 2) (mod-lt (x / 2 ^ 59) (lit< tt)) i
    ∷ bit-flag (f 3) (mod-lt (x / 2 ^ 58) (lit< tt)) i ∷ bit-flag (f 4) (mod-lt (x / 2 ^ 57) (lit< tt)) i ∷ f 5 ∷ f 6 ∷ f 7 ∷ []
  where
    f : ℕ → ℕ
    f n = get_or (split entry_widths x) n 0

    low : f 0 % 8 ≡ f 0
    low = omega arith

pub entry_encodes : EntryEncodes
unfolding entry_bytes entry_of
entry_encodes bs l h =
    ap (encode entry_widths) (fields_back (value bs)) ∙ encode_decode entry_widths bs (ap (λ (n : ℕ). 8 * n) (sym l)) h

-- ---- as the code writes it

abbrev flags : Entry → ℕ
flags e = join (3 ∷ 1 ∷ 1 ∷ 1 ∷ 1 ∷ 9 ∷ [])
    (number_of e.kind ∷ bit e.next ∷ bit e.prev ∷ bit e.last ∷ bit e.compressed ∷ e.reserved ∷ [])

groups : (e : Entry) → entry_bytes e ≡ bytes 2 (flags e) ++ (bytes 2 e.count ++ bytes 4 e.total)
unfolding entry_bytes
groups e =
    group 6 2 6 entry_widths (entry_fields e) refl refl refl refl
    (group 1 2 4 (drop 6 entry_widths) (drop 6 (entry_fields e)) refl refl refl (encode_one 2 e.count) (encode_one 4 e.total))

pub entry_bytes_are : (e : Entry) (f : ℕ) → f ≡ flags e
    → entry_bytes e ≡ f / 256 % 256 ∷ f % 256 ∷ e.count / 256 % 256 ∷ e.count % 256
    ∷ e.total / 16777216 % 256 ∷ e.total / 65536 % 256 ∷ e.total / 256 % 256 ∷ e.total % 256 ∷ []
entry_bytes_are e f ef =
    groups e ∙ (λ i. (ap (bytes 2) (sym ef) ∙ bytes_two f) i ++ (bytes_two e.count i ++ bytes_four e.total i))

-- ---- as the code reads it

long : (n a : ℕ) (bs : List ℕ) → length bs ≡ 8 → a + n < 9 → length (take n (drop a bs)) ≡ n
long n a bs l h = simp (length-take, length-drop) (omega arith)

abbrev at : List ℕ → ℕ → ℕ → ℕ
at bs a n = value (take n (drop a bs))

entry-groups : (bs : List ℕ) → length bs ≡ 8
    → decode entry_widths bs ≡ split (3 ∷ 1 ∷ 1 ∷ 1 ∷ 1 ∷ 9 ∷ []) (at bs 0 2) ++ (at bs 2 2 ∷ at bs 4 4 ∷ [])
entry-groups bs l =
    degroup 6 0 2 entry_widths bs (ap (λ (n : ℕ). 8 * (n - 2)) (sym l)) refl
    (degroup 1 2 2 (drop 6 entry_widths) bs (ap (λ (n : ℕ). 8 * (n - 4)) (sym l)) (decode_one 2 (take 2 (drop 2 bs)) (long 2 2 bs l (omega arith)))
    (degroup_last 4 4 (32 ∷ []) bs (omega arith) (decode_one 4 (take 4 (drop 4 bs)) (long 4 4 bs l (omega arith)))))

pub entry_is : (bs : List ℕ) → length bs ≡ 8 → (f count total : ℕ) → f ≡ at bs 0 2 → count ≡ at bs 2 2 → total ≡ at bs 4 4 → f < 2 ^ 16
    → entry_of bs ≡ record {
      kind = type_of (f / 8192);
      next = eqb (f / 4096 % 2) 1;
      prev = eqb (f / 2048 % 2) 1;
      last = eqb (f / 1024 % 2) 1;
      compressed = eqb (f / 512 % 2) 1;
      reserved = f % 512;
      count = count;
      total = total;
    }
unfolding entry_of
entry_is bs l f count total ef ec et lf =
    ap from_entry_fields (entry-groups bs l)
    ∙ (λ i. record {
      kind = type_of (kind i);
      next = eqb (sym ef i / 4096 % 2) 1;
      prev = eqb (sym ef i / 2048 % 2) 1;
      last = eqb (sym ef i / 1024 % 2) 1;
      compressed = eqb (sym ef i / 512 % 2) 1;
      reserved = reserved i;
      count = sym ec i;
      total = sym et i;
    })
  where
    kind : at bs 0 2 / 8192 % 8 ≡ f / 8192
    kind = ap (λ (x : ℕ). x / 8192 % 8) (sym ef) ∙ omega arith

    reserved : at bs 0 2 / 1 % 512 ≡ f % 512
    reserved = ap (λ (x : ℕ). x % 512) (div-one (at bs 0 2) ∙ sym ef)
