-- Rules that hold at each number below another, or at each entry of a table, by a test that antt computes. Assumes
-- nothing.
use Rattle.std.specs.Prelude.{◌≡◌, ℕ, zero, suc, ◌+◌, ◌<◌, Bool, true, false, T, List, [], ◌∷◌, length, ◌==◌, slice_index, slice_index_or}
use Rattle.std.proofs.Common.{sym, ◌∙◌, ap, subst, inl, inr, add-zero, zero-add, add-suc, suc-add, eq-or-lt_of_le, le_of_suc-le-suc, not-suc-le-zero, eqb→eq}

-- a test of two functions at each number below n, as antt computes it
abbrev pub both : Bool → Bool → Bool
both true b = b
both false b = false

both_left : (a b : Bool) → T (both a b) → T a
both_left true b t = tt
both_left false b t = t

both_right : (a b : Bool) → T (both a b) → T b
both_right true b t = t
both_right false b t = absurd t

abbrev pub same : (ℕ → ℕ) → (ℕ → ℕ) → ℕ → Bool
same f g zero = true
same f g (suc n) = both (f n == g n) (same f g n)

pub same_at : (f g : ℕ → ℕ) (n : ℕ) → T (same f g n) → (i : ℕ) → i < n → f i ≡ g i
same_at f g zero t i p = absurd (not-suc-le-zero p)
same_at f g (suc n) t i p = elim (eq-or-lt_of_le (le_of_suc-le-suc p)) [
  | inl e ↦ ap f e ∙ eqb→eq (f n) (g n) (both_left _ _ t) ∙ sym (ap g e)
  | inr l ↦ same_at f g n (both_right _ _ t) i l
]

-- ---- the entries of a table

-- the test f passes at each entry of the list and its place, counted from i
abbrev pub every : (ℕ → ℕ → Bool) → ℕ → List ℕ → Bool
every f i [] = true
every f i (x ∷ xs) = both (f i x) (every f (suc i) xs)

from : (f : ℕ → ℕ → Bool) (xs : List ℕ) (i : ℕ) → T (every f i xs) → (k : ℕ) → k < length xs
    → T (f (i + k) (slice_index xs k))
from f [] i t k h = absurd (not-suc-le-zero h)
from f (x ∷ xs) i t zero h = subst (λ (m : ℕ). T (f m x)) (sym (add-zero i)) (both_left (f i x) (every f (suc i) xs) t)
from f (x ∷ xs) i t (suc k) h =
    subst (λ (m : ℕ). T (f m (slice_index xs k))) (suc-add i k ∙ sym (add-suc i k))
    (from f xs (suc i) (both_right (f i x) (every f (suc i) xs) t) k (le_of_suc-le-suc h))

pub at : (f : ℕ → ℕ → Bool) (xs : List ℕ) → T (every f 0 xs) → (k : ℕ) → k < length xs → T (f k (slice_index xs k))
at f xs t k h = subst (λ (m : ℕ). T (f m (slice_index xs k))) (zero-add k) (from f xs 0 t k h)

-- ---- the entries of a table of rows

-- the test f passes at each entry and its row and place, the rows counted from q; each row has n entries
abbrev pub every_row : (ℕ → ℕ → ℕ → Bool) → ℕ → ℕ → List (List ℕ) → Bool
every_row f n q [] = true
every_row f n q (r ∷ rs) = both (length r == n) (both (every (f q) 0 r) (every_row f n (suc q) rs))

row_from : (f : ℕ → ℕ → ℕ → Bool) (n : ℕ) (rows : List (List ℕ)) (i : ℕ) → T (every_row f n i rows) → (d : List ℕ)
    → (q k : ℕ) → q < length rows → k < n → T (f (i + q) k (slice_index (slice_index_or rows q d) k))
row_from f n [] i t d q k h l = absurd (not-suc-le-zero h)
row_from f n (r ∷ rs) i t d zero k h l =
    let entries : T (every (f i) 0 r) =
    both_left (every (f i) 0 r) (every_row f n (suc i) rs) (both_right (length r == n) _ t) in
    let long : length r ≡ n = eqb→eq (length r) n (both_left (length r == n) _ t) in
    subst (λ (m : ℕ). T (f m k (slice_index r k))) (sym (add-zero i))
    (at (f i) r entries k (subst (λ (m : ℕ). k < m) (sym long) l))
row_from f n (r ∷ rs) i t d (suc q) k h l =
    let below : T (every_row f n (suc i) rs) = both_right (every (f i) 0 r) _ (both_right (length r == n) _ t) in
    subst (λ (m : ℕ). T (f m k (slice_index (slice_index_or rs q d) k))) (suc-add i q ∙ sym (add-suc i q))
    (row_from f n rs (suc i) below d q k (le_of_suc-le-suc h) l)

pub at_row : (f : ℕ → ℕ → ℕ → Bool) (n : ℕ) (rows : List (List ℕ)) → T (every_row f n 0 rows) → (d : List ℕ)
    → (q k : ℕ) → q < length rows → k < n → T (f q k (slice_index (slice_index_or rows q d) k))
at_row f n rows t d q k h l =
    subst (λ (m : ℕ). T (f m k (slice_index (slice_index_or rows q d) k))) (zero-add q)
    (row_from f n rows 0 t d q k h l)
