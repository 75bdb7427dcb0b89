-- Following the pages of packed blocks, read from the bytes of their Data Fields, gives the objects back. Assumes nothing.
use Rattle.std.proofs.Common.{◌≡◌, ℕ, zero, suc, ◌+◌, ◌-◌, ◌*◌, ◌%◌, ◌<◌, ◌≤◌, Bool, true, false, cond, eqb, leb, List, [], ◌∷◌, ◌++◌, length, get_or, drop, sym, refl, ap, ◌∙◌, inl, inr, append-nil, zero-le, le_of_eq, le_refl, not-suc-le-zero, arith, lit≤, eqb→eq, leb→le}
use lib.Dec.{nleb→lt}
use Rattle.std.proofs.lemmas.List.{length-drop}
use Rattle.bits.specs.Fields.{sum}
use Rattle.plan.specs.declared.page.PlannedPage.{PlannedPage}
use Rattle.plan.specs.Objects.{Object, mark, objects_of, AllUpTo}
use Rattle.plan.specs.Plan.{pack, packed, plan, data_page, mark_page, filler_page}
use Rattle.plan.specs.DataFields.{entry_for, user_bytes, all_user_bytes, fields}
use Rattle.plan.specs.Following.{Open, closed, going, goes_on, ends, page_step, follow_pages, EntityFollowed}
use Rattle.plan.specs.Following.{before_found, follow_blocks}
use Rattle.plan.specs.Laws.{AllLaid, PlanLaid, FollowingUndoesPacking}
use Rattle.plan.proofs.Splitting.{then-blocks, all_found, follow_on, not_last, fields-append}
use Rattle.plan.proofs.Laying.{all_laid, none_first, bytes-waiting, bytes_next, Packed, ready_next, packs, not_zero}
use Rattle.plan.proofs.LawfulPages.{filler-lawful}
use Rattle.plan.proofs.OverPages.{over, over-blocks, by_maps, page-part, onto-ends, onto_goes, over_none}
use Rattle.plan.proofs.FollowSteps.{Stands, still, stands_next, stands_ready, mark-step, end_step, more-step}
use Rattle.plan.proofs.Waiting.{test, waiting, waiting_next, turn, turn-le}

-- ---- every packed block followed

over_nothing : (b : ℕ) (bs junk : List ℕ) → over-blocks closed b [] bs junk ≡ all_found []
unfolding over-blocks over then-blocks follow_pages follow_blocks
over_nothing b bs junk = refl

-- a Filler page alone in what is left of the last block
over_filler : (b c n : ℕ) (bs junk : List ℕ) → over-blocks closed b ((filler_page c n ∷ []) ∷ []) bs junk
    ≡ all_found []
over_filler b c n bs junk = onto_goes (filler_page c n) [] closed closed b bs junk zero-le refl
    ∙ over_nothing b bs junk

follows : (steps free m rest n : ℕ) (ls : List ℕ) (o : Open) (b : ℕ) (bs junk : List ℕ) → free ≤ 8208
    → 2 * waiting rest ls + turn (leb free 16) < steps
    → AllUpTo 1048576 ls → Stands m rest ls o → bytes-waiting rest ls ≤ length bs
    → over-blocks o b (pack steps free m rest n ls) bs junk ≡ all_found (still o rest ls bs)
unfolding pack
follows zero free m rest n ls o b bs junk hf hs a s w = absurd (not-suc-le-zero hs)
follows (suc steps) free m rest n [] (going t got) b bs junk hf hs a s w = absurd s
follows (suc steps) free m rest n [] closed b bs junk hf hs a s w =
    elim (test (leb free 16)) [
      | inl t ↦ rw (t.0, pack) (over_none closed b [] bs junk ∙ nothing_more)
      | inr t ↦ rw (t.0, pack) (over_filler b (free - 8) (n - 1) bs junk)
    ]
  where
    nothing_more : follow_blocks true closed (suc b) [] ≡ all_found []
    nothing_more = unfold follow_blocks in refl
follows (suc steps) free m rest n (l ∷ ls) o b bs junk hf hs a s w =
    elim (test (leb free 16)) [
      | inl t ↦
          let k : turn (leb free 16) ≡ 1 = ap turn t.0 in
          let p : Packed true 8208 (bytes-waiting rest (l ∷ ls)) (pack steps 8208 m rest n (l ∷ ls)) =
          packs steps 8208 m rest n (l ∷ ls) true (le_refl 8208) (omega arith) (stands_ready m rest l ls o s a) in
          let q : (j : List ℕ) × (follow_blocks true o (suc b) (fields (pack steps 8208 m rest n (l ∷ ls)) bs)
          ≡ over-blocks o (suc b) (pack steps 8208 m rest n (l ∷ ls)) bs j) =
          by_maps o (suc b) (pack steps 8208 m rest n (l ∷ ls)) bs p.laid (omega (arith, p.used)) in
          rw (t.0, pack)
          (over_none o b (pack steps 8208 m rest n (l ∷ ls)) bs junk ∙ q.1
          ∙ follows steps 8208 m rest n (l ∷ ls) o (suc b) bs q.0 (le_refl 8208) (omega arith) a s w)
      | inr t ↦
          let h : 16 < free = nleb→lt free 16 t.1 in
          elim (test (eqb l 0)) [
            | inl u ↦
                let z : l ≡ 0 = eqb→eq l 0 u.1 in
                let p : List (List PlannedPage) = pack steps 0 1 (get_or ls 0 0) (suc n) ls in
                let g : (page_step o (entry_for (mark_page (free - 8) n) (none_first p))
                (page-part (mark_page (free - 8) n) bs) ≡ ends mark)
                × (still o rest (l ∷ ls) bs ≡ mark ∷ objects_of ls bs) =
                mark-step m rest l ls o bs s z (free - 8) n (none_first p) in
                let later : over-blocks closed b p bs junk ≡ all_found (objects_of ls bs) =
                follows steps 0 1 (get_or ls 0 0) (suc n) ls closed b bs junk zero-le (omega (arith, waiting_next ls))
                a.1 (stands_next ls) (omega (arith, bytes_next ls)) in
                rw (t.0, pack) (rw u.0
                (onto-ends (mark_page (free - 8) n) p o b bs junk mark zero-le g.0
                ∙ ap (before_found (mark ∷ [])) later ∙ ap all_found (sym g.1)))
            | inr u ↦
                let nz : 1 ≤ l = not_zero l u.1 in
                elim (test (leb rest (free - 8))) [
                  | inl v ↦
                      let hv : rest ≤ free - 8 = leb→le rest (free - 8) v.1 in
                      let p : List (List PlannedPage) = pack steps (free - 8 - rest) 1 (get_or ls 0 0) (suc n) ls in
                      let g : (x : Object) × (page_step o (entry_for (data_page m false rest l n) (none_first p))
                      (page-part (data_page m false rest l n) bs) ≡ ends x)
                      × (still o rest (l ∷ ls) bs ≡ x ∷ objects_of ls (drop rest bs)) =
                      end_step m rest l ls o bs s nz (omega arith) n (none_first p) in
                      let later : over-blocks closed b p (drop rest bs) junk ≡ all_found (objects_of ls (drop rest bs)) =
                      follows steps (free - 8 - rest) 1 (get_or ls 0 0) (suc n) ls closed b (drop rest bs) junk
                      (omega arith)
                      (omega (arith, waiting_next ls, turn-le (leb (free - 8 - rest) 16))) a.1 (stands_next ls)
                      (omega (arith, bytes_next ls, length-drop rest bs)) in
                      rw (t.0, pack) (rw u.0 (rw v.0
                      (onto-ends (data_page m false rest l n) p o b bs junk g.0 (omega arith) g.1
                      ∙ ap (before_found (g.0 ∷ [])) later ∙ ap all_found (sym g.2))))
                  | inr v ↦
                      let hv : free - 8 < rest = nleb→lt rest (free - 8) v.1 in
                      let c : ℕ = free - 8 in
                      let p : List (List PlannedPage) = pack steps 0 (suc m) (rest - c) n (l ∷ ls) in
                      let g : (o' : Open) × (page_step o (entry_for (data_page m true c l n) (none_first p))
                      (page-part (data_page m true c l n) bs) ≡ goes_on o')
                      × Stands (suc m) (rest - c) (l ∷ ls) o'
                      × (still o rest (l ∷ ls) bs ≡ still o' (rest - c) (l ∷ ls) (drop c bs)) =
                      more-step m rest c l ls o bs s nz hv (omega arith) n (none_first p) in
                      let later : over-blocks g.0 b p (drop c bs) junk
                      ≡ all_found (still g.0 (rest - c) (l ∷ ls) (drop c bs)) =
                      follows steps 0 (suc m) (rest - c) n (l ∷ ls) g.0 b (drop c bs) junk zero-le (omega arith) a
                      g.2 (omega (arith, length-drop c bs)) in
                      rw (t.0, pack) (rw u.0 (rw v.0
                      (onto_goes (data_page m true c l n) p o g.0 b bs junk (omega arith) g.1 ∙ later
                      ∙ ap all_found (sym g.3))))
                ]
          ]
    ]

packed-follow : (ls bs : List ℕ) (b : ℕ) → AllUpTo 1048576 ls → sum ls ≤ length bs
    → follow_blocks true closed b (fields (packed ls) bs) ≡ all_found (objects_of ls bs)
packed-follow ls bs b a h =
    let steps : ℕ = 2 * (sum ls + length ls) + 2 in
    let p : Packed true 8208 (bytes-waiting (get_or ls 0 0) ls) (packed ls) =
    packs steps 8208 1 (get_or ls 0 0) 1 ls true (le_refl 8208) (omega (arith, waiting_next ls))
    (ready_next true 8208 ls a) in
    let q : (j : List ℕ) × (follow_blocks true closed b (fields (packed ls) bs)
    ≡ over-blocks closed b (packed ls) bs j) =
    by_maps closed b (packed ls) bs p.laid (omega (arith, p.used, bytes_next ls)) in
    q.1 ∙ follows steps 8208 1 (get_or ls 0 0) 1 ls closed b bs q.0 (le_refl 8208)
    (omega (arith, waiting_next ls)) a (stands_next ls) (omega (arith, bytes_next ls))

-- ---- the added block of one Filler page
filler-follow : (n b : ℕ) (bs : List ℕ) → follow_blocks true closed b (fields ((filler_page 8200 n ∷ []) ∷ []) bs)
    ≡ all_found []
filler-follow n b bs =
    let q : (j : List ℕ) × (follow_blocks true closed b (fields ((filler_page 8200 n ∷ []) ∷ []) bs)
    ≡ over-blocks closed b ((filler_page 8200 n ∷ []) ∷ []) bs j) =
    by_maps closed b ((filler_page 8200 n ∷ []) ∷ []) bs
    ((filler-lawful true 8200 n (lit≤ tt), lit≤ tt, lit≤ tt), tt) zero-le in
    q.1 ∙ over_filler b 8200 n bs q.0

pub plan_laid : PlanLaid
unfolding plan
plan_laid ls a = go (eqb (length (packed ls) % 16) 1)
  where
    alone : List (List PlannedPage)
    alone = (filler_page 8200 (length ls) ∷ []) ∷ []

    laid_more : (xs ys : List (List PlannedPage)) → AllLaid xs → AllLaid ys → AllLaid (xs ++ ys)
    laid_more [] ys l m = m
    laid_more (x ∷ xs) ys l m = (l.0, laid_more xs ys l.1 m)

    bytes_more : (xs : List (List PlannedPage)) → all_user_bytes (xs ++ alone) ≡ all_user_bytes xs
    bytes_more [] = refl
    bytes_more (x ∷ xs) = ap (λ (k : ℕ). user_bytes x + k) (bytes_more xs)

    p : Packed true 8208 (bytes-waiting (get_or ls 0 0) ls) (packed ls)
    p = packs (2 * (sum ls + length ls) + 2) 8208 1 (get_or ls 0 0) 1 ls true (le_refl 8208)
        (omega (arith, waiting_next ls)) (ready_next true 8208 ls a)

    go : (q : Bool) → AllLaid (cond q (packed ls ++ alone) (packed ls))
        × (all_user_bytes (cond q (packed ls ++ alone) (packed ls)) ≡ sum ls)
    go true = (
      laid_more (packed ls) alone (all_laid (packed ls) p.laid)
          ((filler-lawful true 8200 (length ls) (lit≤ tt), lit≤ tt, lit≤ tt), tt),
      bytes_more (packed ls) ∙ p.used ∙ bytes_next ls,
    )
    go false = (all_laid (packed ls) p.laid, p.used ∙ bytes_next ls)

pub plan-follow : (ls bs : List ℕ) → AllUpTo 1048576 ls → sum ls ≤ length bs
    → follow_blocks true closed 1 (fields (plan ls) bs) ≡ all_found (objects_of ls bs)
unfolding plan
plan-follow ls bs a h = go (eqb (length (packed ls) % 16) 1)
  where
    os : List Object
    os = objects_of ls bs

    whole : follow_blocks true closed 1 (fields (packed ls) bs) ≡ all_found os
    whole = packed-follow ls bs 1 a h

    alone : List (List PlannedPage)
    alone = (filler_page 8200 (length ls) ∷ []) ∷ []

    go : (p : Bool) → follow_blocks true closed 1 (fields (cond p (packed ls ++ alone) (packed ls)) bs) ≡ all_found os
    go true =
        ap (follow_blocks true closed 1) (fields-append (packed ls) alone bs)
        ∙ follow_on true (fields (packed ls) bs) (fields alone
        (drop (all_user_bytes (packed ls)) bs)) closed closed 1 os
        (not_last (fields (packed ls) bs) closed 1 (ap (λ (f : EntityFollowed). f.broken) whole) ∙ whole)
        ∙ ap (before_found os) (filler-follow (length ls) (1 + length (fields (packed ls) bs))
        (drop (all_user_bytes (packed ls)) bs))
        ∙ ap all_found (append-nil os)
    go false = whole

pub following_undoes_packing : FollowingUndoesPacking
following_undoes_packing ls bs a e = plan-follow ls bs a (le_of_eq e)
