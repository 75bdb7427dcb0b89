-- Laws of the rows of a memory: what a write or a strike of one row changes. Assumes nothing.
use Rattle.std.proofs.Common.{◌≡◌, ℕ, ◌+◌, ◌*◌, ◌/◌, ◌<◌, ◌≤◌, ◌≢◌, ◌⊎◌, List, map, length, get_or, take, drop, set, sym, refl, ap, ◌∙◌, inl, inr, ⊎_elim, arith}
use Rattle.std.specs.List.{range_with_len}
use Rattle.std.proofs.lemmas.List.FromFn.{length-map-range_with_len, get_or-map-range_with_len}
use Rattle.std.proofs.lemmas.Bool.{cases_lt}
use Rattle.cards.specs.declared.Kind.{Kind}
use Rattle.cards.specs.Content.{block_len, Content, block, lost, content_at}
use Rattle.cards.specs.Calls.{judged, judged_place, if_granted, put_contents, strike_contents}
use Rattle.cards.specs.Rows.{
  row_len,
  row_count,
  block_mark,
  struck_mark,
  mark_kind,
  content_of,
  row_at,
  rows,
  laid,
  stored,
  struck,
  put_memory,
  strike_memory,
}
use Rattle.cards.proofs.AnswerLaws.{by_answer, judged-length, judged_within, judged_place_lem}
use Rattle.cards.proofs.CountedLaws.{counted-set}
use Rattle.cards.proofs.LaidLaws.{length-laid, laid-below, laid_in, laid_above, part_same, part_is}

pub length-rows : (mem : List ℕ) → length (rows mem) ≡ row_count mem
unfolding rows
length-rows mem = length-map-range_with_len (row_at mem) 0 (row_count mem)

pub content_at-rows : (mem : List ℕ) (i : ℕ) → i < row_count mem → content_at (rows mem) i ≡ row_at mem i
unfolding rows
content_at-rows mem i h = get_or-map-range_with_len (row_at mem) 0 (row_count mem) i i lost h (omega arith)

-- what a row holds, from what its mark was read as
pub row_read : (mem : List ℕ) (i k m : ℕ) (kind : Kind) → k ≡ 2 → m ≡ block_len
    → kind ≡ mark_kind (take k (drop (i * row_len) mem))
    → row_at mem i ≡ content_of kind (take m (drop (i * row_len + 2) mem))
unfolding row_at
row_read mem i k m kind ek em e = rw (e, ek, em) refl

-- a memory that holds x in row p, and in every other row what another memory holds
pub record Changes (mem after : List ℕ) (p : ℕ) (x : Content) : Type 0 where
  pub size : length after ≡ length mem
  pub here : row_at after p ≡ x
  pub there : (i : ℕ) → i ≢ p → row_at after i ≡ row_at mem i

-- another row lies wholly before or wholly behind row p
row_other : (mem after : List ℕ) (p i : ℕ) → length after ≡ length mem → i ≢ p
    → ((k : ℕ) → (k < p * row_len) ⊎ (p * row_len + row_len ≤ k) → get_or after k 0 ≡ get_or mem k 0)
    → row_at after i ≡ row_at mem i
unfolding row_at
row_other mem after p i e ne h =
    let out : (k : ℕ) → i * row_len ≤ k → k < i * row_len + row_len → (k < p * row_len) ⊎ (p * row_len + row_len ≤ k)
    = λ k a b. ⊎_elim (λ (u : k < p * row_len). inl u) (λ v. inr (omega arith)) (cases_lt k (p * row_len)) in
    let m = part_same after mem (i * row_len) 2 e (λ k a b. h k (out k a (omega arith))) in
    let w = part_same after mem (i * row_len + 2) block_len e (λ k a b. h k (out k (omega arith) (omega arith))) in
    cc

-- no byte changes but the two of the mark
pub struck-rest : (mem : List ℕ) (p k : ℕ) → p < row_count mem → (k < p * row_len) ⊎ (p * row_len + 2 ≤ k)
    → get_or (struck mem p) k 0 ≡ get_or mem k 0
struck-rest mem p k l =
    let f : p * row_len + row_len ≤ length mem = omega arith in
    ⊎_elim (λ u. laid-below mem (p * row_len) struck_mark k 0 (omega arith) u)
    (λ v. laid_above mem (p * row_len) struck_mark k 0 (omega arith) v)

pub struck_changes : (mem : List ℕ) (p : ℕ) → p < row_count mem → Changes mem (struck mem p) p lost
unfolding row_at
struck_changes mem p l =
    let f : p * row_len + row_len ≤ length mem = omega arith in
    let e = length-laid mem (p * row_len) struck_mark (omega arith) in
    let m : take 2 (drop (p * row_len) (struck mem p)) ≡ struck_mark
    = part_is (struck mem p) struck_mark (p * row_len) 2 refl (omega arith)
    (λ k b. laid_in mem (p * row_len) struck_mark k 0 (omega arith) b) in
    record {
      size = e;
      here = ap (λ z. content_of (mark_kind z) (take block_len (drop (p * row_len + 2) (struck mem p)))) m;
      there = λ i ne. row_other mem (struck mem p) p i e ne
          (λ k. ⊎_elim (λ u. struck-rest mem p k l (inl u)) (λ v. struck-rest mem p k l (inr (omega arith))));
    }

-- the mark first, and then the block: no byte changes but those of the row
module _ (mem bs : List ℕ) (p : ℕ) (l : p < row_count mem) (eb : length bs ≡ block_len) where
  row_fits : p * row_len + row_len ≤ length mem
  row_fits = omega arith

  with-mark : List ℕ
  with-mark = laid mem (p * row_len) block_mark

  length_with-mark : length with-mark ≡ length mem
  unfolding with-mark
  length_with-mark = let f = row_fits in length-laid mem (p * row_len) block_mark (omega arith)

  length-stored : length (stored mem p bs) ≡ length mem
  unfolding with-mark
  length-stored =
      let f = row_fits in
      let e = length_with-mark in
      length-laid with-mark (p * row_len + 2) bs (omega arith) ∙ e

  pub stored-rest : (k : ℕ) → (k < p * row_len) ⊎ (p * row_len + row_len ≤ k) → get_or (stored mem p bs) k 0 ≡ get_or mem k 0
  unfolding with-mark
  stored-rest k =
      let f = row_fits in
      let e = length_with-mark in
      ⊎_elim
      (λ u.
      laid-below with-mark (p * row_len + 2) bs k 0 (omega arith) (omega arith)
      ∙ laid-below mem (p * row_len) block_mark k 0 (omega arith) u)
      (λ v.
      laid_above with-mark (p * row_len + 2) bs k 0 (omega arith) (omega arith)
      ∙ laid_above mem (p * row_len) block_mark k 0 (omega arith) (omega arith))

  stored-mark : take 2 (drop (p * row_len) (stored mem p bs)) ≡ block_mark
  unfolding with-mark
  stored-mark =
      let f = row_fits in
      let e = length_with-mark in
      let n = length-stored in
      part_is (stored mem p bs) block_mark (p * row_len) 2 refl (omega arith)
      (λ k b.
      laid-below with-mark (p * row_len + 2) bs (p * row_len + k) 0 (omega arith) (omega arith)
      ∙ laid_in mem (p * row_len) block_mark k 0 (omega arith) b)

  stored-block : take block_len (drop (p * row_len + 2) (stored mem p bs)) ≡ bs
  unfolding with-mark
  stored-block =
      let f = row_fits in
      let e = length_with-mark in
      let n = length-stored in
      part_is (stored mem p bs) bs (p * row_len + 2) block_len eb (omega arith)
      (λ k b. laid_in with-mark (p * row_len + 2) bs k 0 (omega arith) (omega arith))

  pub stored_changes : Changes mem (stored mem p bs) p (block bs)
  unfolding row_at
  stored_changes =
      record {
        size = length-stored;
        here = ap (λ z. content_of (mark_kind z) (take block_len (drop (p * row_len + 2) (stored mem p bs)))) stored-mark
            ∙ ap block stored-block;
        there = λ i ne. row_other mem (stored mem p bs) p i length-stored ne stored-rest;
      }

pub rows_changed : (mem after : List ℕ) (p : ℕ) (x : Content) → p < row_count mem → Changes mem after p x
    → rows after ≡ set (rows mem) p x
unfolding rows
rows_changed mem after p x l c =
    ap (λ z. map (row_at after) (range_with_len 0 (z / row_len))) c.size
    ∙ counted-set (row_at mem) (row_at after) (row_count mem) p x l c.here c.there

-- what the places hold after a put or a strike, from what the memory holds
pub rows-put : (mem : List ℕ) (p : ℕ) (bs : List ℕ) → rows (put_memory mem p bs) ≡ put_contents (rows mem) p bs
rows-put mem p bs =
    by_answer (λ a. rows (if_granted a (stored mem p bs) mem) ≡ if_granted a (set (rows mem) p (block bs)) (rows mem))
    (judged (length bs) (row_count mem) p)
    (λ g.
    let l = judged_within (length bs) (row_count mem) p g in
    rows_changed mem (stored mem p bs) p (block bs) l
    (stored_changes mem bs p l (judged-length (length bs) (row_count mem) p g)))
    (λ _. refl)
    ∙ ap (λ z. if_granted (judged (length bs) z p) (set (rows mem) p (block bs)) (rows mem)) (sym (length-rows mem))

pub rows-strike : (mem : List ℕ) (p : ℕ) → rows (strike_memory mem p) ≡ strike_contents (rows mem) p
rows-strike mem p =
    by_answer (λ a. rows (if_granted a (struck mem p) mem) ≡ if_granted a (set (rows mem) p lost) (rows mem))
    (judged_place (row_count mem) p)
    (λ g. let l = judged_place_lem (row_count mem) p g in rows_changed mem (struck mem p) p lost l (struck_changes mem p l))
    (λ _. refl)
    ∙ ap (λ z. if_granted (judged_place z p) (set (rows mem) p lost) (rows mem)) (sym (length-rows mem))
