-- What a put and a strike leave alone, on any card and in a memory. Assumes nothing.
--
--   OnePlace cs after p  the places are as many as before, and every place but p holds what it held
--   ChangesOnePlace      a put or a strike changes its own place at most; one that is granted changes it as it should
--   KeepsTheRest         a put changes no byte of a memory but those of its row; a strike none but those of its mark
use Rattle.std.specs.Prelude.{◌≡◌, ℕ, ◌+◌, ◌*◌, ◌<◌, ◌≤◌, ◌⊎◌, List, length, Ok, ◌≢◌, slice_index}
use Rattle.cards.specs.Content.{Content, block, lost, content_at}
use Rattle.cards.specs.Calls.{put_answer, put_contents, strike_answer, strike_contents}
use Rattle.cards.specs.Rows.{row_len, put_memory, strike_memory}

pub record OnePlace (cs after : List Content) (p : ℕ) : Type 0 where
  pub count : length after ≡ length cs
  pub others : (q : ℕ) → (q ≢ p) → content_at after q ≡ content_at cs q

abbrev pub ChangesOnePlace : Type 0
ChangesOnePlace =
    (cs : List Content) (p : ℕ) (bs : List ℕ)
    → OnePlace cs (put_contents cs p bs) p
    × (put_answer cs p (length bs) ≡ Ok tt → content_at (put_contents cs p bs) p ≡ block bs)
    × OnePlace cs (strike_contents cs p) p
    × (strike_answer cs p ≡ Ok tt → content_at (strike_contents cs p) p ≡ lost)

abbrev pub KeepsTheRest : Type 0
KeepsTheRest =
    (mem : List ℕ) (p : ℕ) (bs : List ℕ) (k : ℕ)
    → ((k < p * row_len) ⊎ (p * row_len + row_len ≤ k) → slice_index (put_memory mem p bs) k ≡ slice_index mem k)
    × ((k < p * row_len) ⊎ (p * row_len + 2 ≤ k) → slice_index (strike_memory mem p) k ≡ slice_index mem k)
