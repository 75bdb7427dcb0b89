-- Where few words are missing, a code answers the right column, or refuses since there is none. Assumes nothing.
use Rattle.std.proofs.Common.{◌≡◌, ℕ, ◌+◌, ◌≤◌, Bool, cond, List, [], ◌∷◌, replicate, Ok, Err, sym, refl, ap, ◌∙◌, subst, le-ltb, Option, Some, None}
use Rattle.refusal.specs.Tells.{Answer}
use Rattle.codes.specs.Code.{Code}
use Rattle.codes.specs.Rebuild.{missing, seen, rebuild, offered, rebuilt}
use Rattle.codes.specs.Filling.{missing_count}
use Rattle.codes.specs.Agreeing.{missing-present}
use Rattle.columns.specs.Columns.{twenty}

offered_none : (code : Code) (o : Option (List ℕ)) (e : ℕ × List ℕ)
    → ◌≡◌ {A = Answer (Unit {0})} (Err e) (offered code o).1
    → twenty code o ≡ None
offered_none code None e h = refl
offered_none code (Some ws) e h = cc

-- few words are missing, so that the answer is what the search for a right column offers
few-rebuilt : (code : Code) (column : List ℕ) (marks : List Bool)
    → missing_count marks (16 + code.r) ≤ code.r
    → rebuilt code column marks ≡ offered code (rebuild code (seen code column marks))
few-rebuilt code column marks few =
    ap (λ b. cond b (replicate 20 0, Err (15, missing (seen code column marks) ∷ []))
    (offered code (rebuild code (seen code column marks))))
    (le-ltb code.r (missing (seen code column marks))
    (subst (λ m. m ≤ code.r) (sym (missing-present (16 + code.r) column marks)) few))

pub none_right : (code : Code) (column : List ℕ) (marks : List Bool) (e : ℕ × List ℕ)
    → missing_count marks (16 + code.r) ≤ code.r
    → ◌≡◌ {A = Answer (Unit {0})} (Err e) (rebuilt code column marks).1
    → twenty code (rebuild code (seen code column marks)) ≡ None
none_right code column marks e few h =
    offered_none code (rebuild code (seen code column marks)) e
    (h ∙ ap (λ p. p.1) (few-rebuilt code column marks few))

offered_some : (code : Code) (o : Option (List ℕ)) → ◌≡◌ {A = Answer (Unit {0})} (Ok tt) (offered code o).1
    → twenty code o ≡ Some (offered code o).0
offered_some code None h = cc
offered_some code (Some ws) h = refl

pub some_right : (code : Code) (column : List ℕ) (marks : List Bool)
    → missing_count marks (16 + code.r) ≤ code.r
    → ◌≡◌ {A = Answer (Unit {0})} (Ok tt) (rebuilt code column marks).1
    → twenty code (rebuild code (seen code column marks)) ≡ Some (rebuilt code column marks).0
some_right code column marks few h =
    offered_some code (rebuild code (seen code column marks)) (h ∙ ap (λ p. p.1) (few-rebuilt code column marks few))
    ∙ ap (λ p. Some p.0) (sym (few-rebuilt code column marks few))
