-- What holds of every plan: following its pages, read back from their bytes, gives the objects back. Assumes nothing.
--
--   Laid head free pgs       pages laid into `free` bytes, the first at the head of its block or not
--   MapReadsBack             the map of a laid block, read from its bytes, is the list of its pages' entries
--   PlanLaid                 the blocks of a plan are laid, and hold the bytes of the objects
--   FollowingUndoesPacking   following all blocks of a plan gives the objects of the write
--   FollowingByEntity        the same entity by entity, an open record carried from one to the next
--   FollowingCounts          as many objects end in the first blocks as their pages say
--   EntitiesSized            an entity has 2 to 16 data blocks
--   FieldsProper             the Data Fields of a plan are 8,208 bytes each
--   EndsAddUp                every object ends on one page
--   PageNumbers              a record lies on at most 129 blocks, and pages name objects of the write
use Rattle.std.specs.Prelude.{◌≡◌, ℕ, ◌+◌, ◌-◌, ◌≤◌, Bool, true, false, T, List, [], ◌∷◌, ◌++◌, length, take, drop, Some, None}
use Rattle.bits.specs.Fields.{sum, AllBytes}
use Rattle.pages.specs.Map.{lawful_entry}
use Rattle.plan.specs.declared.page.PlannedPage.{PlannedPage}
use Rattle.plan.specs.Members.{AllOf}
use Rattle.plan.specs.Objects.{Object, objects_of, AllUpTo}
use Rattle.plan.specs.Plan.{plan}
use Rattle.plan.specs.DataFields.{is_empty, entry_for, page_entries, user_bytes, all_user_bytes, field_of, fields, ends_in}
use Rattle.plan.specs.Entities.{entities}
use Rattle.plan.specs.Following.{entries_of, Open, closed, follow_blocks}

-- each entry is lawful where it stands, and at most 16 bytes are left
abbrev pub Laid : Bool → ℕ → List PlannedPage → Type 0
Laid head free [] = free ≤ 16
Laid head free (pg ∷ pgs) =
    T (lawful_entry head (entry_for pg (is_empty pgs))) × (pg.count + 8 ≤ free)
    × Laid false (free - (pg.count + 8)) pgs

abbrev pub AllLaid : List (List PlannedPage) → Type 0
AllLaid bs = AllOf (Laid true 8208) bs

abbrev pub MapReadsBack : Type 0
MapReadsBack =
    (pgs : List PlannedPage) (bs : List ℕ) → Laid true 8208 pgs → user_bytes pgs ≤ length bs
    → entries_of (field_of pgs bs) ≡ Some (page_entries pgs)

abbrev pub PlanLaid : Type 0
PlanLaid = (ls : List ℕ) → AllUpTo 1048576 ls → AllLaid (plan ls) × (all_user_bytes (plan ls) ≡ sum ls)

abbrev pub FollowingUndoesPacking : Type 0
FollowingUndoesPacking =
    (ls bs : List ℕ) → AllUpTo 1048576 ls → sum ls ≡ length bs
    → follow_blocks true closed 1 (fields (plan ls) bs)
    ≡ record { found = objects_of ls bs; broken = None; left_open = closed }

-- each entity is laid and gives the objects that end in it, and nothing stays open at the end
abbrev pub FollowByEntity : Open → List (List (List PlannedPage)) → List ℕ → List Object → Type 0
FollowByEntity o [] bs os = (o ≡ closed) × (os ≡ [])
FollowByEntity o (e ∷ es) bs os =
    (p : Open)
    × AllLaid e
    × (all_user_bytes e ≤ length bs)
    × (ends_in e ≤ length os)
    × (follow_blocks (is_empty es) o 1 (fields e bs) ≡ record {
      found = take (ends_in e) os;
      broken = None;
      left_open =
          p;
    })
    × FollowByEntity p es (drop (all_user_bytes e) bs) (drop (ends_in e) os)

abbrev pub FollowingByEntity : Type 0
FollowingByEntity =
    (ls bs : List ℕ) → AllUpTo 1048576 ls → sum ls ≡ length bs
    → FollowByEntity closed (entities (plan ls)) bs (objects_of ls bs)

abbrev pub FollowingCounts : Type 0
FollowingCounts =
    (ls bs : List ℕ) (front behind : List (List PlannedPage)) → AllUpTo 1048576 ls → sum ls ≡ length bs
    → plan ls ≡ front ++ behind → length (follow_blocks false closed 1 (fields front bs)).found ≡ ends_in front

abbrev pub EntitiesSized : Type 0
EntitiesSized =
    (ls : List ℕ) → AllOf (λ (e : List (List PlannedPage)). (2 ≤ length e) × (length e ≤ 16)) (entities (plan ls))

abbrev pub FieldsProper : Type 0
FieldsProper =
    (ls bs : List ℕ) → AllUpTo 1048576 ls → sum ls ≡ length bs → AllBytes bs
    → AllOf (λ (f : List ℕ). (length f ≡ 8208) × AllBytes f) (fields (plan ls) bs)

abbrev pub EndsAddUp : Type 0
EndsAddUp = (ls : List ℕ) → AllUpTo 1048576 ls → ends_in (plan ls) ≡ length ls

abbrev pub Numbered : ℕ → PlannedPage → Type 0
Numbered k pg = (1 ≤ pg.piece) × (pg.piece ≤ 129) × (1 ≤ pg.object) × (pg.object ≤ k)

abbrev pub PageNumbers : Type 0
PageNumbers =
    (ls : List ℕ) → 1 ≤ length ls → AllUpTo 1048576 ls → AllOf (AllOf (Numbered (length ls))) (plan ls)

abbrev pub EntitiesNumbered : Type 0
EntitiesNumbered =
    (ls : List ℕ) → 1 ≤ length ls → AllUpTo 1048576 ls
    → AllOf (AllOf (AllOf (Numbered (length ls)))) (entities (plan ls))
