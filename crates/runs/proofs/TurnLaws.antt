-- Contents that are put at the places of a run in turns, from either end. Assumes nothing.
use Rattle.std.proofs.Common.{◌≡◌, ℕ, zero, suc, ◌+◌, ◌-◌, ◌*◌, ◌<◌, ◌≤◌, List, [], map, length, get_or, subst, ap, ◌∙◌, arith}
use Rattle.std.specs.List.{range_with_len, FoldsTo}
use lib.Seq.{paste}
use Rattle.std.proofs.lemmas.List.Edits.{paste_none}
use Rattle.cards.specs.Content.{block_len, Content, lost, block}
use Rattle.cards.specs.Calls.{put_contents}
use Rattle.cards.specs.Rows.{laid}
use Rattle.runs.specs.Runs.{blocks}
use Rattle.runs.proofs.BlockLaws.{chunk_at}
use Rattle.runs.proofs.UpLaws.{up_more, up_all}
use Rattle.runs.proofs.DownLaws.{down_to, down_none, down_step, down_all}

-- what a first turn finds and each turn keeps is there after the last
turns_keep : (R : List Content → ℕ → List Content → Type 0) (J : ℕ → List Content → Type 0) (n a : ℕ) (p q : List Content)
    → ((i : ℕ) (was then : List Content) → a ≤ i → i < a + n → J i was → R was i then → J (i + 1) then)
    → J a p → FoldsTo R p (range_with_len a n) q → J (a + n) q
turns_keep R J zero a p q keeps first f =
    let e : a ≡ a + 0 = omega arith in
    subst (λ z. J z q) e (subst (J a) f first)
turns_keep R J (suc n) a p q keeps first f =
    let e : (a + 1) + n ≡ a + suc n = omega arith in
    subst (λ z. J z q) e
    (turns_keep R J n (a + 1) f.0 q (λ i was then low high. keeps i was then (omega arith) (omega arith))
    (keeps a p f.0 (omega arith) (omega arith) first f.1) f.2)

-- the content x is put at place p
pub record Puts (was : List Content) (p : ℕ) (x : Content) (then : List Content) : Type 0 where
  pub bytes : List ℕ
  pub sized : length bytes ≡ block_len
  pub is : x ≡ block bytes
  pub put : then ≡ put_contents was p bytes

-- a turn that puts the array of an index puts the block of that index
pub puts_chunk : (bytes : List ℕ) (n i p : ℕ) (chunks : List (List ℕ)) (was then : List Content)
    → map block chunks ≡ blocks bytes n → i < n → n * block_len ≤ length bytes
    → then ≡ put_contents was p (get_or chunks i []) → Puts was p (get_or (blocks bytes n) i lost) then
puts_chunk bytes n i p chunks was then e h f t =
    let k = chunk_at bytes n i chunks e h f in
    record { bytes = get_or chunks i []; sized = k.0; is = k.1; put = t }

module _ (cs ys : List Content) (s n : ℕ) (R : List Content → ℕ → List Content → Type 0) (after : List Content)
    (e : length ys ≡ n) (h : s + n ≤ length cs) (f : FoldsTo R cs (range_with_len 0 n) after) where
  pub laid_up : ((was : List Content) (i : ℕ) (then : List Content) → i < n → R was i then → Puts was (s + i) (get_or ys i lost) then)
      → after ≡ laid cs s ys
  laid_up turn =
      let z : 0 + n ≡ n = omega arith in
      turns_keep R (λ i c. c ≡ paste cs s ys i) n 0 cs after
      (λ i was then low high w r.
      let t = turn was i then (omega arith) r in
      up_more cs ys s i was then t.bytes w t.put (omega arith) (omega arith) t.is t.sized)
      (paste_none cs s ys) f
      ∙ ap (paste cs s ys) z ∙ up_all cs ys s n e

  pub laid_down : ((was : List Content) (i : ℕ) (then : List Content) → i < n → R was i then
      → Puts was (s + (n - 1 - i)) (get_or ys (n - 1 - i) lost) then)
      → after ≡ laid cs s ys
  laid_down turn =
      let all : n ≡ n - 0 = omega arith in
      turns_keep R (λ i c. c ≡ down_to cs s ys (n - i)) n 0 cs after
      (λ i was then low high w r.
      let t = turn was i then (omega arith) r in
      let k : n - 1 - i ≡ (n - i) - 1 = omega arith in
      let m : (n - i) - 1 ≡ n - (i + 1) = omega arith in
      down_step cs ys s (n - i) n was then t.bytes (omega arith) (omega arith) e h w
      (t.put ∙ ap (λ z. put_contents was (s + z) t.bytes) k) t.sized
      (subst (λ z. get_or ys z lost ≡ block t.bytes) k t.is)
      ∙ ap (down_to cs s ys) m)
      (down_none cs ys s n e ∙ ap (down_to cs s ys) all) f
      ∙ down_all cs ys s (n - (0 + n)) (omega arith)
