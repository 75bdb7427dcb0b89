-- The blocks of a plan, followed entity after entity. Assumes nothing.
use Rattle.std.proofs.Common.{◌≡◌, ℕ, zero, suc, ◌+◌, ◌≤◌, Bool, true, false, List, [], ◌∷◌, ◌++◌, length, take, drop, sym, refl, ap, ◌∙◌, subst, append-nil, le_of_eq, le_refl, not-suc-le-zero, arith, length-append, None}
use Rattle.std.proofs.lemmas.List.{take_at, drop_at, length-drop, take-append-drop}
use Rattle.bits.specs.Fields.{sum}
use Rattle.plan.specs.declared.page.PlannedPage.{PlannedPage}
use Rattle.plan.specs.Objects.{Object, objects_of}
use Rattle.plan.specs.Plan.{plan}
use Rattle.plan.specs.DataFields.{is_empty, all_user_bytes, fields, ends_in}
use Rattle.plan.specs.Entities.{groups}
use Rattle.plan.specs.Following.{Open, closed, EntityFollowed, before_found, follow_blocks}
use Rattle.plan.specs.Laws.{AllLaid, FollowByEntity, FollowingByEntity, FollowingCounts}
use Rattle.plan.proofs.Splitting.{whole-found, all_found, follow_on, follow_first, any-number, fields-append}
use Rattle.plan.proofs.Following.{plan-follow, plan_laid}
use Rattle.plan.proofs.Ending.{count-blocks}

-- ---- entity after entity
laid-parts : (xs ys : List (List PlannedPage)) → AllLaid (xs ++ ys) → AllLaid xs × AllLaid ys
laid-parts [] ys l = (tt, l)
laid-parts (x ∷ xs) ys l = let p : AllLaid xs × AllLaid ys = laid-parts xs ys l.1 in ((l.0, p.0), p.1)

bytes-append : (xs ys : List (List PlannedPage)) → all_user_bytes (xs ++ ys) ≡ all_user_bytes xs + all_user_bytes ys
bytes-append [] ys = omega arith
bytes-append (x ∷ xs) ys = omega (arith, bytes-append xs ys)

-- an entity that leaves nothing open may be the last
any_last : (last : Bool) (xs : List (List ℕ)) (o : Open) (b : ℕ) (os : List Object)
    → follow_blocks false o b xs ≡ all_found os → follow_blocks last o b xs ≡ all_found os
any_last last xs o b os h =
    ap (follow_blocks last o b) (sym (append-nil xs)) ∙ follow_on last xs [] o closed b os h
    ∙ ap (before_found os) (none_after last) ∙ ap all_found (append-nil os)
  where
    none_after : (last : Bool) → follow_blocks last closed (b + length xs) [] ≡ all_found []
    none_after true = unfold follow_blocks in refl
    none_after false = unfold follow_blocks in refl

no_entity : (o : Open) (b : ℕ) (bs : List ℕ) (os : List Object) → follow_blocks true o b [] ≡ all_found os
    → FollowByEntity o [] bs os
unfolding follow_blocks
no_entity o b bs os e = (ap (λ (f : EntityFollowed). f.left_open) e, sym (ap (λ (f : EntityFollowed). f.found) e))

-- the entity of the blocks `xs`, and then those of the blocks `ys`
one_entity : (xs ys : List (List PlannedPage)) (gs : List (List (List PlannedPage))) (o : Open) (b : ℕ) (bs : List ℕ)
    (os : List Object)
    → AllLaid (xs ++ ys) → all_user_bytes (xs ++ ys) ≤ length bs
    → follow_blocks true o b (fields (xs ++ ys) bs) ≡ all_found os
    → ((o' : Open) (b' : ℕ) (later : List Object) → follow_blocks true o' b' (fields ys (drop (all_user_bytes xs) bs))
    ≡ all_found later
    → FollowByEntity o' gs (drop (all_user_bytes xs) bs) later)
    → FollowByEntity o (xs ∷ gs) bs os
one_entity xs ys gs o b bs os l h e ih =
    let fx : List (List ℕ) = fields xs bs in
    let fy : List (List ℕ) = fields ys (drop (all_user_bytes xs) bs) in
    let both : follow_blocks true o b (fx ++ fy) ≡ all_found os =
    ap (follow_blocks true o b) (sym (fields-append xs ys bs)) ∙ e in
    let unbroken : (follow_blocks false o b fx).broken ≡ None =
    follow_first true fx fy o b (ap (λ (f : EntityFollowed). f.broken) both) in
    let first : EntityFollowed = follow_blocks false o b fx in
    let here : List Object = first.found in
    let o' : Open = first.left_open in
    let second : EntityFollowed = follow_blocks true o' (b + length fx) fy in
    let is-first : first ≡ whole-found here o' = λ i. record { found = here; broken = unbroken i; left_open = o' } in
    let joined : all_found os ≡ before_found here second = sym both ∙ follow_on true fx fy o o' b here is-first in
    let later : List Object = second.found in
    let is-second : second ≡ all_found later = λ i. record {
      found = later;
      broken = (sym joined i).broken;
      left_open =
          (sym joined i).left_open;
    } in
    let objects : os ≡ here ++ later = ap (λ (f : EntityFollowed). f.found) joined in
    let count : length here ≡ ends_in xs = count-blocks false xs o b bs (laid-parts xs ys l).0
    (omega (arith, bytes-append xs ys)) unbroken in
    let at_one : follow_blocks false o 1 fx ≡ whole-found here o' = any-number false fx o b 1 unbroken ∙ is-first in
    let behind : FollowByEntity o' gs (drop (all_user_bytes xs) bs) later = ih o' (b + length fx) later is-second in (
      o',
      (laid-parts xs ys l).0,
      omega (arith, bytes-append xs ys),
      omega (arith, ap length objects, length-append here later),
      ending gs (drop (all_user_bytes xs) bs) later o' here fx behind at_one
          ∙ ap (λ (x : List Object). whole-found x o') (sym
          (ap (take (ends_in xs)) objects ∙ take_at here later (ends_in xs) count)),
      subst (FollowByEntity o' gs (drop (all_user_bytes xs) bs))
          (sym (ap (drop (ends_in xs)) objects ∙ drop_at here later (ends_in xs) count)) behind,
    )
  where
    ending : (gs : List (List (List PlannedPage))) (r : List ℕ) (later : List Object) (o' : Open) (here : List Object)
        (fx : List (List ℕ))
        → FollowByEntity o' gs r later → follow_blocks false o 1 fx ≡ whole-found here o'
        → follow_blocks (is_empty gs) o 1 fx ≡ whole-found here o'
    ending [] r later o' here fx f k =
        any_last true fx o 1 here (k ∙ ap (whole-found here) f.0) ∙ ap (whole-found here) (sym f.0)
    ending (g ∷ gs) r later o' here fx f k = k

by_entity : (n : ℕ) (blocks : List (List PlannedPage)) (o : Open) (b : ℕ) (bs : List ℕ) (os : List Object)
    → length blocks ≤ n → AllLaid blocks → all_user_bytes blocks ≤ length bs
    → follow_blocks true o b (fields blocks bs) ≡ all_found os → FollowByEntity o (groups n blocks) bs os
by_entity zero [] o b bs os hn l h e = no_entity o b bs os e
by_entity (suc n) [] o b bs os hn l h e = no_entity o b bs os e
by_entity zero (p ∷ ps) o b bs os hn l h e = absurd (not-suc-le-zero hn)
by_entity (suc n) (p ∷ ps) o b bs os hn l h e =
    let xs : List (List PlannedPage) = take 16 (p ∷ ps) in
    let ys : List (List PlannedPage) = drop 16 (p ∷ ps) in
    let q : p ∷ ps ≡ xs ++ ys = sym (take-append-drop 16 (p ∷ ps)) in
    let l' : AllLaid (xs ++ ys) = subst AllLaid q l in
    let h' : all_user_bytes (xs ++ ys) ≤ length bs = subst
    (λ (x : List (List PlannedPage)). all_user_bytes x ≤ length bs) q h in
    one_entity xs ys (groups n ys) o b bs os l' h' (subst
    (λ (x : List (List PlannedPage)). follow_blocks true o b (fields x bs) ≡ all_found os) q e)
    (λ o' b' later k.
    by_entity n ys o' b' (drop (all_user_bytes xs) bs) later (omega (arith, length-drop 16 (p ∷ ps)))
    (laid-parts xs ys l').1
    (omega (arith, bytes-append xs ys, length-drop (all_user_bytes xs) bs)) k)

pub following_by_entity : FollowingByEntity
following_by_entity ls bs a e =
    let p : AllLaid (plan ls) × (all_user_bytes (plan ls) ≡ sum ls) = plan_laid ls a in
    by_entity (length (plan ls)) (plan ls) closed 1 bs (objects_of ls bs) (le_refl _) p.0 (omega (arith, p.1))
    (plan-follow ls bs a (le_of_eq e))

-- ---- the first blocks of a plan
pub following_counts : FollowingCounts
following_counts ls bs front behind a e cut =
    let p : AllLaid (plan ls) × (all_user_bytes (plan ls) ≡ sum ls) = plan_laid ls a in
    let whole : follow_blocks true closed 1 (fields front bs ++ fields behind (drop (all_user_bytes front) bs))
    ≡ all_found (objects_of ls bs) =
    ap (follow_blocks true closed 1) (sym (ap (λ (x : List (List PlannedPage)). fields x bs) cut
    ∙ fields-append front behind bs)) ∙ plan-follow ls bs a (le_of_eq e) in
    count-blocks false front closed 1 bs (laid-parts front behind (subst AllLaid cut p.0)).0
    (omega (arith, p.1, bytes-append front behind, ap all_user_bytes cut))
    (follow_first true (fields front bs) (fields behind (drop (all_user_bytes front) bs)) closed 1
    (ap (λ (f : EntityFollowed). f.broken) whole))
