-- What rebuild answers. Assumes nothing.
--
--   present n column marks       the first n words of a column, none where one is marked missing
--   seen code column marks       what a code reads of a column
--   missing c                    how many words are missing
--   Agrees c ws                  ws has the words that are present, and some two-byte word for each that is missing
--   fillings c                   every column that agrees
--   rebuild code c               the right column that agrees, if there is one
--   answered code c              the twenty words and the flag that rebuild answers
--   rebuilt code column marks    the same, of a column and its marks
--   Settles code column marks answer  the law of an answer: right, agreeing and the only one; or refused for cause
use Rattle.std.specs.Prelude.{◌≡◌, ℕ, zero, suc, ◌+◌, ◌-◌, ◌<◌, ◌≤◌, Bool, true, false, cond, ◌&&◌, List, [], ◌∷◌, ◌++◌, map, take, drop, replicate, Ok, Err, ◌==◌, nat_lt, slice_index, slice_index_or, Option, Some, None}
use Rattle.std.specs.List.{find, range_with_len}
use Rattle.refusal.specs.Tells.{Answer}
use Rattle.codes.specs.Code.{Code, Right}

unfoldable pub present : ℕ → List ℕ → List Bool → List (Option ℕ)
present n column marks = map (λ i. cond (slice_index_or marks i false) None (Some (slice_index column i))) (range_with_len 0 n)

-- what a code reads of a column: its first 16 + r words
abbrev pub seen : Code → List ℕ → List Bool → List (Option ℕ)
seen code column marks = present (16 + code.r) column marks

abbrev pub missing : List (Option ℕ) → ℕ
missing [] = 0
missing (None ∷ c) = suc (missing c)
missing (Some w ∷ c) = missing c

abbrev pub Agrees : List (Option ℕ) → List ℕ → Type 0
Agrees [] [] = Unit {0}
Agrees [] (w ∷ ws) = ⊥
Agrees (c ∷ cs) [] = ⊥
Agrees (None ∷ cs) (w ∷ ws) = (w < 65536) × Agrees cs ws
Agrees (Some u ∷ cs) (w ∷ ws) = (u ≡ w) × Agrees cs ws

-- the numbers below n
unfoldable pub below : ℕ → List ℕ
below zero = []
below (suc n) = n ∷ below n

-- each number of the list in front of each of the columns
unfoldable pub each_then : List ℕ → List (List ℕ) → List (List ℕ)
each_then [] wss = []
each_then (u ∷ us) wss = map (λ ws. u ∷ ws) wss ++ each_then us wss

unfoldable pub fillings : List (Option ℕ) → List (List ℕ)
fillings [] = [] ∷ []
fillings (Some u ∷ c) = each_then (u ∷ []) (fillings c)
fillings (None ∷ c) = each_then (below 65536) (fillings c)

abbrev pub same_list : List ℕ → List ℕ → Bool
same_list [] [] = true
same_list [] (w ∷ ws) = false
same_list (u ∷ us) [] = false
same_list (u ∷ us) (w ∷ ws) = u == w && same_list us ws

abbrev pub is_right : Code → List ℕ → Bool
is_right code ws = same_list (drop 16 ws) (code.checks (take 16 ws))

-- The law of the code makes it the only one where at most r words are missing.
unfoldable pub rebuild : Code → List (Option ℕ) → Option (List ℕ)
rebuild code c = find (is_right code) (fillings c)

-- the right column and zeros up to twenty words, or twenty zeros and refusal 13
abbrev pub offered : Code → Option (List ℕ) → List ℕ × Answer (Unit {0})
offered code (Some ws) = (ws ++ replicate (4 - code.r) 0, Ok tt)
offered code None = (replicate 20 0, Err (13, 0 ∷ 0 ∷ 0 ∷ []))

-- more than r missing is refused with 15 and the count, before anything is rebuilt
abbrev pub answered : Code → List (Option ℕ) → List ℕ × Answer (Unit {0})
answered code c =
    cond (nat_lt code.r (missing c)) (replicate 20 0, Err (15, missing c ∷ [])) (offered code (rebuild code c))

-- what rebuild answers to a column and its marks
abbrev pub rebuilt : Code → List ℕ → List Bool → List ℕ × Answer (Unit {0})
rebuilt code column marks = answered code (seen code column marks)

pub record IsTheColumn (code : Code) (c : List (Option ℕ)) (ws : List ℕ) : Type 0 where
  pub few : missing c ≤ code.r
  pub right : Right code ws
  pub agrees : Agrees c ws
  pub only : (us : List ℕ) → Right code us → Agrees c us → us ≡ ws

pub record HasNoColumn (code : Code) (c : List (Option ℕ)) : Type 0 where
  pub few : missing c ≤ code.r
  pub none : (us : List ℕ) → Right code us → Agrees c us → ⊥

-- refusal 15 says that more than r are missing, and any other that no right column agrees
abbrev pub Refuses : Code → List (Option ℕ) → ℕ × List ℕ → Type 0
Refuses code c e = cond (e.0 == 15) (code.r < missing c) (HasNoColumn code c)

abbrev pub Settles : Code → List ℕ → List Bool → List ℕ × Answer (Unit {0}) → Type 0
Settles code column marks (out, Ok _) = IsTheColumn code (seen code column marks) (take (16 + code.r) out)
Settles code column marks (out, Err e) = Refuses code (seen code column marks) e
