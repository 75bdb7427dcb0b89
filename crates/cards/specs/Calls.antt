-- What each call of a card answers and leaves, from the contents before it. Assumes nothing.
--
--   kind_of x                    what a get answers of the content x
--   judged_place P p             2 and the place, unless p is one of P places
--   judged n P p                 1 and the length, unless a buffer has the n bytes of a block; then as judged_place
--   if_granted a new old         new if the answer a grants, old if it refuses
--   get_answer, get_buffer       what get answers, and what its buffer then holds
--   put_answer, put_contents     what put answers, and what the places then hold
--   strike_answer, strike_contents  the same of strike
use Rattle.std.specs.Prelude.{ℕ, cond, List, [], ◌∷◌, length, Ok, Err, ◌==◌, nat_lt, slice_set}
use Rattle.refusal.specs.Tells.{Answer, and_then}
use Rattle.cards.specs.declared.Kind.{Kind}
use Rattle.cards.specs.declared.Kind.TheVariants.{Blank, Lost, Block}
use Rattle.cards.specs.Content.{block_len, Content, blank, lost, block, content_at, bytes_of}

abbrev pub kind_of : Content → Kind
kind_of blank = Blank
kind_of lost = Lost
kind_of (block bs) = Block

abbrev pub judged_place : ℕ → ℕ → Answer (Unit {0})
judged_place P p = cond (nat_lt p P) (Ok tt) (Err (2, p ∷ []))

abbrev pub judged : ℕ → ℕ → ℕ → Answer (Unit {0})
judged n P p = cond (n == block_len) (judged_place P p) (Err (1, n ∷ []))

abbrev pub if_granted : {T S : Type 0} → Answer T → S → S → S
if_granted (Ok x) new old = new
if_granted (Err e) new old = old

abbrev pub get_answer : List Content → ℕ → ℕ → Answer Kind
get_answer cs p n = and_then (judged n (length cs) p) (λ _. Ok (kind_of (content_at cs p)))

abbrev pub get_buffer : List Content → ℕ → List ℕ → List ℕ
get_buffer cs p buf = if_granted (judged (length buf) (length cs) p) (bytes_of (content_at cs p)) buf

abbrev pub put_answer : List Content → ℕ → ℕ → Answer (Unit {0})
put_answer cs p n = judged n (length cs) p

abbrev pub put_contents : List Content → ℕ → List ℕ → List Content
put_contents cs p bs = if_granted (judged (length bs) (length cs) p) (slice_set cs p (block bs)) cs

abbrev pub strike_answer : List Content → ℕ → Answer (Unit {0})
strike_answer cs p = judged_place (length cs) p

abbrev pub strike_contents : List Content → ℕ → List Content
strike_contents cs p = if_granted (judged_place (length cs) p) (slice_set cs p lost) cs
