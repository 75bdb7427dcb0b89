-- A loop that gets the places of a run into a work area. Assumes nothing.
use Rattle.std.proofs.Common.{◌≡◌, ℕ, zero, suc, ◌+◌, ◌*◌, List, [], ◌++◌, length, drop, sym, refl, ap, ◌∙◌, add-one, arith}
use borrow.Rule.Slice.PartMut.{put_mid}
use Rattle.std.specs.List.{range_with_len, flat_map}
use Rattle.std.proofs.lemmas.List.{append_assoc, drop-drop, length-append, take_at, drop_at, flat_map_more}
use Rattle.cards.specs.Content.{block_len, Content, content_at, bytes_of, Whole}
use Rattle.runs.specs.Runs.{run_bytes}
use Rattle.runs.proofs.BlockLaws.{counting_more}

run_bytes_none : (cs : List Content) (s : ℕ) → run_bytes cs s 0 ≡ []
unfolding run_bytes
run_bytes_none cs s = refl

pub run_bytes-start : (cs : List Content) (s : ℕ) (work : List ℕ) → work ≡ run_bytes cs s 0 ++ drop (0 * block_len) work
run_bytes-start cs s work = sym (ap (λ z. z ++ work) (run_bytes_none cs s))

-- one place more
run_bytes_more : (cs : List Content) (s i : ℕ)
    → run_bytes cs s (i + 1) ≡ run_bytes cs s i ++ bytes_of (content_at cs (s + i))
unfolding run_bytes
run_bytes_more cs s i =
    ap (flat_map (λ j. bytes_of (content_at cs (s + j)))) (counting_more i)
    ∙ sym (flat_map_more (λ j. bytes_of (content_at cs (s + j))) [] (range_with_len 0 i) i)

module _ (cs : List Content) (whole : Whole cs) (s : ℕ) where
  length-run_bytes : (n : ℕ) → length (run_bytes cs s n) ≡ n * block_len
  length-run_bytes zero = ap length (run_bytes_none cs s)
  length-run_bytes (suc n) =
      let h = length-run_bytes n in
      let w = whole (s + n) in
      rw (sym (add-one n)) (ap length (run_bytes_more cs s n)
      ∙ length-append (run_bytes cs s n) (bytes_of (content_at cs (s + n))) ∙ (omega arith))

  -- one turn: the part at i blocks holds what was got
  pub run_bytes-turn : (work was part : List ℕ) (i k : ℕ) → k ≡ block_len
      → was ≡ run_bytes cs s i ++ drop (i * block_len) work
      → part ≡ bytes_of (content_at cs (s + i)) → put_mid (i * block_len) k was part
      ≡ run_bytes cs s (i + 1) ++ drop ((i + 1) * block_len) work
  run_bytes-turn work was part i k e w p =
      let r : List ℕ = run_bytes cs s i in
      let b : List ℕ = bytes_of (content_at cs (s + i)) in
      let l : length r ≡ i * block_len = length-run_bytes i in
      let q : i * block_len + k ≡ (i + 1) * block_len = omega arith in
      ap (λ z. put_mid (i * block_len) k was z) p ∙ ap (λ z. put_mid (i * block_len) k z b) w
      ∙ ap (λ z. z ++ (b ++ drop k (drop (i * block_len) (r ++ drop (i * block_len) work))))
      (take_at r (drop (i * block_len) work) (i * block_len) l)
      ∙ ap (λ z. r ++ (b ++ drop k z)) (drop_at r (drop (i * block_len) work) (i * block_len) l)
      ∙ ap (λ z. r ++ (b ++ z)) (drop-drop k (i * block_len) work)
      ∙ ap (λ z. r ++ (b ++ drop z work)) q
      ∙ sym (append_assoc r b (drop ((i + 1) * block_len) work))
      ∙ ap (λ z. z ++ drop ((i + 1) * block_len) work) (sym (run_bytes_more cs s i))
