-- Words of a work area, column by column. Assumes nothing.
use Rattle.std.proofs.Common.{◌≡◌, ℕ, ◌<◌, ◌≤◌, List, length, get_or, take, sym, ◌∙◌, lit≤, arith}
use Rattle.std.proofs.lemmas.List.{get_or-take, ext_get_or, length-take-le, take_all}
use Rattle.std.proofs.lemmas.List.FromFn.{fill_by_all, length-map-range_with_len, get_or-map-range_with_len}
use Rattle.columns.specs.Columns.{word_at, column}

pub column-made : (bs ws : List ℕ) (c : ℕ) → length ws ≡ 20 → ((k : ℕ) → k < 20 → get_or ws k 0 ≡ word_at bs k c)
    → ws ≡ column bs c
unfolding column
column-made bs ws c l h = fill_by_all (λ i. word_at bs i c) ws 20 0 l h

pub column-long : (bs : List ℕ) (c : ℕ) → length (column bs c) ≡ 20
unfolding column
column-long bs c = length-map-range_with_len (λ i. word_at bs i c) 0 20

pub column-word : (bs : List ℕ) (c k : ℕ) → k < 20 → get_or (column bs c) k 0 ≡ word_at bs k c
unfolding column
column-word bs c k h = get_or-map-range_with_len (λ i. word_at bs i c) 0 20 k k 0 h (omega arith)

pub words-made : (bs ws : List ℕ) (c n : ℕ) → n ≤ 20 → length ws ≡ n → ((k : ℕ) → k < n → get_or ws k 0 ≡ word_at bs k c)
    → ws ≡ take n (column bs c)
words-made bs ws c n few l h =
    ext_get_or 0 ws (take n (column bs c)) (l ∙ sym (length-take-le n (column bs c)
    (omega (arith, column-long bs c))))
    (λ k p. h k (omega (arith, l)) ∙ sym (get_or-take n (column bs c) k 0 (omega (arith, l))
    ∙ column-word bs c k (omega (arith, l))))

-- the whole column is its first twenty words
pub column_whole : (bs : List ℕ) (c : ℕ) → take 20 (column bs c) ≡ column bs c
column_whole bs c = take_all 20 (column bs c) (omega (arith, column-long bs c))

-- columns with the same words are equal
pub column_same : (bs es : List ℕ) (c : ℕ) → ((k : ℕ) → k < 20 → word_at es k c ≡ word_at bs k c)
    → column es c ≡ column bs c
column_same bs es c h = column-made bs (column es c) c (column-long es c) (λ k p. column-word es c k p ∙ h k p)

pub front_same : (bs es : List ℕ) (c : ℕ) → ((k : ℕ) → k < 16 → word_at es k c ≡ word_at bs k c)
    → take 16 (column es c) ≡ take 16 (column bs c)
front_same bs es c h =
    words-made bs (take 16 (column es c)) c 16 (lit≤ tt) (length-take-le 16 (column es c) (omega (arith, column-long es c)))
    (λ k p. get_or-take 16 (column es c) k 0 p ∙ column-word es c k (omega arith) ∙ h k p)
