-- Laws of blocks that stand joined. Assumes nothing.
use Rattle.std.proofs.Common.{◌≡◌, ℕ, zero, suc, ◌+◌, ◌*◌, ◌/◌, ◌<◌, ◌≤◌, List, [], ◌∷◌, ◌++◌, map, length, get_or, drop, Ok, sym, refl, ap, ◌∙◌, arith}
use Rattle.std.specs.List.{range_with_len}
use Rattle.std.specs.Simd.{first_chunks}
use Rattle.std.proofs.lemmas.List.{length-take, length-drop, length-map, get_or-map, map-id, drop-drop}
use Rattle.std.proofs.lemmas.List.FromFn.{length-map-range_with_len, get_or-map-range_with_len, map-range_with_len_more}
use Rattle.std.proofs.lemmas.Bool.Decides.{nat_tests}
use Rattle.cards.specs.Content.{block_len, lost, block}
use Rattle.runs.specs.Runs.{block_at, blocks, run_answer}

pub length-blocks : (bytes : List ℕ) (n : ℕ) → length (blocks bytes n) ≡ n
unfolding blocks
length-blocks bytes n = length-map-range_with_len (λ i. block (block_at bytes i)) 0 n

pub get_or-blocks : (bytes : List ℕ) (n i : ℕ) → i < n → get_or (blocks bytes n) i lost ≡ block (block_at bytes i)
unfolding blocks
get_or-blocks bytes n i h = get_or-map-range_with_len (λ j. block (block_at bytes j)) 0 n i i lost h (omega arith)

pub length-block_at : (bytes : List ℕ) (n i : ℕ) → i < n → n * block_len ≤ length bytes
    → length (block_at bytes i) ≡ block_len
length-block_at bytes n i h f = simp (length-take, length-drop) (omega arith)

-- the first numbers, and one more
pub counting_more : (n : ℕ) → range_with_len 0 (n + 1) ≡ range_with_len 0 n ++ n ∷ []
counting_more n =
    sym (map-id (range_with_len 0 (n + 1))) ∙ map-range_with_len_more (λ i. i) 0 n n (omega arith)
    ∙ ap (λ z. z ++ n ∷ []) (map-id (range_with_len 0 n))

-- what is cut into arrays is the joined blocks
chunks_from : (n a : ℕ) (bytes : List ℕ) → map block (first_chunks block_len n (drop (a * block_len) bytes))
    ≡ map (λ i. block (block_at bytes i)) (range_with_len a n)
chunks_from zero a bytes = refl
chunks_from (suc n) a bytes =
    let e : a * block_len + block_len ≡ (a + 1) * block_len = omega arith in
    ap (λ z. block (block_at bytes a) ∷ map block (first_chunks block_len n z))
    (drop-drop block_len (a * block_len) bytes ∙ ap (λ z. drop z bytes) e)
    ∙ ap (λ z. block (block_at bytes a) ∷ z) (chunks_from n (a + 1) bytes)

pub chunks_are_blocks : (bytes : List ℕ) (n : ℕ) → map block (first_chunks block_len n bytes) ≡ blocks bytes n
unfolding blocks
chunks_are_blocks bytes n = chunks_from n 0 bytes

pub length-chunks : (bytes : List ℕ) (n : ℕ) (chunks : List (List ℕ)) → map block chunks ≡ blocks bytes n → length chunks ≡ n
length-chunks bytes n chunks e = sym (length-map chunks (λ bs. block bs)) ∙ ap length e ∙ length-blocks bytes n

-- each array that was cut is the block of its index
pub chunk_at : (bytes : List ℕ) (n i : ℕ) (chunks : List (List ℕ)) → map block chunks ≡ blocks bytes n
    → i < n → n * block_len ≤ length bytes
    → (length (get_or chunks i []) ≡ block_len) × (get_or (blocks bytes n) i lost ≡ block (get_or chunks i []))
chunk_at bytes n i chunks e h f =
    let l : length chunks ≡ n = length-chunks bytes n chunks e in
    let b : get_or (blocks bytes n) i lost ≡ block (get_or chunks i [])
    = ap (λ z. get_or z i lost) (sym e) ∙ get_or-map (λ bs. block bs) chunks i [] lost (omega arith) in
    let same : block (get_or chunks i []) ≡ block (block_at bytes i) = sym b ∙ get_or-blocks bytes n i h in
    let k : get_or chunks i [] ≡ block_at bytes i = cc in
    (ap length k ∙ length-block_at bytes n i h f, b)

pub run_within : (P s m : ℕ) → run_answer P s m ≡ Ok tt → s + m / block_len ≤ P
run_within P s m h = grind (arith, nat_tests)
