-- Every block that stands in a memory has 8,256 bytes, which a card owes as its member `whole`. Assumes nothing.
use Rattle.std.specs.Prelude.{◌≡◌, ℕ, zero, suc, ◌+◌, ◌-◌, ◌*◌, ◌/◌, ◌%◌, ◌<◌, ◌≤◌, List, map, length, take, drop}
use Rattle.std.proofs.Common.{sym, ap, subst, ◌∙◌, ⊎_elim, lit<}
use Rattle.std.specs.List.{range_with_len}
use Rattle.std.proofs.Math.Nat.{
  le_trans,
  lt_of_lt_of_le,
  le_of_suc-le-suc,
  not-suc-le-zero,
  le-add_right,
  zero-add,
  suc-mul,
  add_assoc,
  add-sub_of_le,
  mul_comm,
  min-le_left,
  min-le_right,
  mod-lt,
  le-div_iff_mul-le,
  div-lt_iff_lt-mul,
}
use Rattle.std.proofs.Math.Arith.{add-le_cancel_left}
use Rattle.std.proofs.lemmas.List.{length-take-le, length-drop, get_or_past, length-replicate}
use Rattle.std.proofs.lemmas.List.FromFn.{length-map-range_with_len, get_or-map-range_with_len}
use Rattle.std.proofs.lemmas.Bool.{cases_lt}
use Rattle.cards.specs.declared.Kind.{Kind}
use Rattle.cards.specs.declared.Kind.TheVariants.{Blank, Lost, Block}
use Rattle.cards.specs.Content.{block_len, Content, lost, bytes_of, Whole}
use Rattle.cards.specs.Rows.{row_len, row_count, mark_kind, content_of, row_at, rows}
use Rattle.cards.specs.Tracks.{memory_of, shortest, dealt_at, dealt}

abbrev size : Content → ℕ
size x = length (bytes_of x)

-- places whose contents are given by their number
pub whole-counted : (f : ℕ → Content) (n : ℕ) → ((i : ℕ) → i < n → size (f i) ≡ block_len) → Whole (map f (range_with_len 0 n))
whole-counted f n w p =
    ⊎_elim
    (λ (h : p < n). ap size (get_or-map-range_with_len f 0 n p p lost h (zero-add p)) ∙ w p h)
    (λ (h : n ≤ p).
    let e = length-map-range_with_len f 0 n in
    ap size (get_or_past (map f (range_with_len 0 n)) p lost (subst (λ z. z ≤ p) (sym e) h))
    ∙ length-replicate {A = ℕ} block_len 0)
    (cases_lt p n)

content-whole : (kind : Kind) (bs : List ℕ) → length bs ≡ block_len → size (content_of kind bs) ≡ block_len
content-whole Blank bs e = length-replicate {A = ℕ} block_len 0
content-whole Lost bs e = length-replicate {A = ℕ} block_len 0
content-whole Block bs e = e

pub row-whole : (mem : List ℕ) (i : ℕ) → i < row_count mem → size (row_at mem i) ≡ block_len
unfolding row_at
row-whole mem i h =
    let f : suc i * row_len ≤ length mem = (le-div_iff_mul-le (lit< tt)).0 h in
    let e : (i * row_len + 2) + block_len ≡ suc i * row_len
    = add_assoc (i * row_len) 2 block_len ∙ sym (suc-mul i row_len) in
    let g : (i * row_len + 2) + block_len ≤ length mem = subst (λ z. z ≤ length mem) (sym e) f in
    let b : i * row_len + 2 ≤ length mem = le_trans (le-add_right (i * row_len + 2) block_len) g in
    let k : block_len ≤ length mem - (i * row_len + 2)
    = add-le_cancel_left (i * row_len + 2)
    (subst (λ z. (i * row_len + 2) + block_len ≤ z) (sym (add-sub_of_le b)) g) in
    content-whole (mark_kind (take 2 (drop (i * row_len) mem))) (take block_len (drop (i * row_len + 2) mem))
    (length-take-le block_len (drop (i * row_len + 2) mem)
    (subst (λ z. block_len ≤ z) (sym (length-drop (i * row_len + 2) mem)) k))

pub rows_whole : (mem : List ℕ) → Whole (rows mem)
unfolding rows
rows_whole mem = whole-counted (row_at mem) (row_count mem) (row-whole mem)

-- no memory has fewer rows than the shortest
pub shortest-le : (ms : List (List ℕ)) (j : ℕ) → j < 4 → shortest ms ≤ row_count (memory_of ms j)
shortest-le ms zero h = le_trans (min-le_left _ _) (min-le_left _ _)
shortest-le ms (suc zero) h = le_trans (min-le_left _ _) (min-le_right _ _)
shortest-le ms (suc (suc zero)) h = le_trans (min-le_right _ _) (min-le_left _ _)
shortest-le ms (suc (suc (suc zero))) h = le_trans (min-le_right _ _) (min-le_right _ _)
shortest-le ms (suc (suc (suc (suc j)))) h = absurd (not-suc-le-zero (le_of_suc-le-suc (le_of_suc-le-suc (le_of_suc-le-suc (le_of_suc-le-suc h)))))

pub dealt-whole : (ms : List (List ℕ)) → Whole (dealt ms)
unfolding dealt
dealt-whole ms =
    whole-counted (dealt_at ms) (4 * shortest ms)
    (λ i h.
    let row : i / 4 < shortest ms = (div-lt_iff_lt-mul (lit< tt)).1 (subst (λ z. i < z) (mul_comm 4 (shortest ms)) h) in
    row-whole (memory_of ms (i % 4)) (i / 4) (lt_of_lt_of_le row (shortest-le ms (i % 4) (mod-lt i (lit< tt)))))
