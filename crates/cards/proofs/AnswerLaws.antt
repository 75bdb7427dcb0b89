-- What a call's judgement tells: where it grants, and what it leaves either way. Assumes nothing.
use Rattle.std.proofs.Common.{◌≡◌, ℕ, ◌<◌, List, length, set, Ok, Err, refl, ap, arith}
use Rattle.std.proofs.lemmas.Bool.Decides.{nat_tests}
use Rattle.refusal.specs.Tells.{Answer, and_then}
use Rattle.cards.specs.Content.{block_len, Content, block, lost, content_at, bytes_of}
use Rattle.cards.specs.Calls.{kind_of, judged, judged_place, if_granted, get_answer, get_buffer, put_contents, strike_contents}

pub judged_place_lem : (P p : ℕ) → judged_place P p ≡ Ok tt → p < P
judged_place_lem P p e = grind (arith, nat_tests)

pub judged-length : (n P p : ℕ) → judged n P p ≡ Ok tt → n ≡ block_len
judged-length n P p e = grind (arith, nat_tests)

pub judged_within : (n P p : ℕ) → judged n P p ≡ Ok tt → p < P
judged_within n P p e = grind (arith, nat_tests)

pub judged_ok : (n P p : ℕ) → n ≡ block_len → p < P → judged n P p ≡ Ok tt
judged_ok n P p e h = grind (arith, nat_tests)

pub judged_place_ok : (P p : ℕ) → p < P → judged_place P p ≡ Ok tt
judged_place_ok P p h = grind (arith, nat_tests)

-- a fact of every answer, from the two it can be
pub by_answer : (P : Answer (Unit {0}) → Type 0) (a : Answer (Unit {0})) → (a ≡ Ok tt → P (Ok tt))
    → ((e : ℕ × List ℕ) → P (Err e)) → P a
by_answer P (Ok tt) granted refused = granted refl
by_answer P (Err e) granted refused = refused e

pub get_in : (cs : List Content) (p n : ℕ) → n ≡ block_len → p < length cs
    → get_answer cs p n ≡ Ok (kind_of (content_at cs p))
get_in cs p n e h = ap (λ a. and_then a (λ _. Ok (kind_of (content_at cs p)))) (judged_ok n (length cs) p e h)

pub buffer_in : (cs : List Content) (p : ℕ) (buf : List ℕ) → length buf ≡ block_len → p < length cs
    → get_buffer cs p buf ≡ bytes_of (content_at cs p)
buffer_in cs p buf e h = ap (λ a. if_granted a (bytes_of (content_at cs p)) buf) (judged_ok (length buf) (length cs) p e h)

pub put_in : (cs : List Content) (p : ℕ) (bs : List ℕ) → length bs ≡ block_len → p < length cs
    → put_contents cs p bs ≡ set cs p (block bs)
put_in cs p bs e h = ap (λ a. if_granted a (set cs p (block bs)) cs) (judged_ok (length bs) (length cs) p e h)

pub strike_in : (cs : List Content) (p : ℕ) → p < length cs → strike_contents cs p ≡ set cs p lost
strike_in cs p h = ap (λ a. if_granted a (set cs p lost) cs) (judged_place_ok (length cs) p h)
