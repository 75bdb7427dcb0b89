-- One page more: what following says of each page that packing lays. Assumes nothing.
use Rattle.std.proofs.Common.{◌≡◌, ℕ, zero, suc, ◌+◌, ◌-◌, ◌<◌, ◌≤◌, Bool, true, false, cond, T, eqb, ltb, List, [], ◌∷◌, ◌++◌, length, get_or, take, drop, sym, refl, ap, ◌∙◌, subst, ap₂, append_assoc, append-nil, not-suc-le-zero, arith, lt→ltb, length-append, ne_eqb}
use lib.Dec.{eqb_refl}
use Rattle.std.proofs.lemmas.List.{length-take-le, drop-drop, take-take, drop-take, take-append-drop}
use Rattle.block.specs.Block.{zeros}
use Rattle.plan.specs.Objects.{Object, mark, rec, objects_of, AllUpTo}
use Rattle.plan.specs.Plan.{data_page, mark_page}
use Rattle.plan.specs.DataFields.{entry_for}
use Rattle.plan.specs.Following.{Open, closed, going, breaks, goes_on, ends}
use Rattle.plan.specs.Following.{joins, page_step}
use Rattle.plan.proofs.Truth.{is_true}
use Rattle.plan.proofs.Laying.{Ready}
use Rattle.plan.proofs.OverPages.{page-part}

-- ---- where the first object stands, and the objects still to come

-- `rest` bytes of the first object are still to come, as its piece m
abbrev pub Stands : ℕ → ℕ → List ℕ → Open → Type 0
Stands m rest [] closed = Unit {0}
Stands m rest [] (going t got) = ⊥
Stands m rest (l ∷ ls) closed = (m ≡ 1) × (rest ≡ l)
Stands m rest (l ∷ ls) (going t got) = (1 < m) × (t ≡ l) × (length got + rest ≡ l) × (1 ≤ rest)

abbrev pub still : Open → ℕ → List ℕ → List ℕ → List Object
still closed rest ls bs = objects_of ls bs
still (going t got) rest [] bs = []
still (going t got) rest (l ∷ ls) bs = rec (got ++ take rest bs) ∷ objects_of ls (drop rest bs)

pub stands_next : (ls : List ℕ) → Stands 1 (get_or ls 0 0) ls closed
stands_next [] = tt
stands_next (l ∷ ls) = (refl, refl)

pub stands_ready : (m rest l : ℕ) (ls : List ℕ) (o : Open) → Stands m rest (l ∷ ls) o → AllUpTo 1048576 (l ∷ ls)
    → Ready true 8208 m rest (l ∷ ls)
stands_ready m rest l ls closed s a = (omega arith, (λ h. omega arith), (λ _. tt), a)
stands_ready m rest l ls (going t got) s a = (omega arith, (λ _. omega arith), (λ _. tt), a)

-- ---- the three steps of packing
data-part : (m : ℕ) (more : Bool) (c l n : ℕ) (bs : List ℕ) → page-part (data_page m more c l n) bs ≡ take c bs
unfolding page-part zeros
data-part m more c l n bs =
    let z : c - c ≡ 0 = omega arith in
    ap (λ (k : ℕ). take c bs ++ zeros k) z ∙ append-nil (take c bs)

pub mark-step : (m rest l : ℕ) (ls : List ℕ) (o : Open) (bs : List ℕ) → Stands m rest (l ∷ ls) o → l ≡ 0
    → (c n : ℕ) (last : Bool)
    → (page_step o (entry_for (mark_page c n) last) (page-part (mark_page c n) bs) ≡ ends mark)
    × (still o rest (l ∷ ls) bs ≡ mark ∷ objects_of ls bs)
mark-step m rest l ls closed bs s z c n last = (
  refl,
  ap {B = List Object}
      (λ (k : ℕ). cond (eqb k 0) mark (rec (take k bs)) ∷ objects_of ls (drop k bs)) z,
)
mark-step m rest l ls (going t got) bs s z c n last = absurd (omega arith)

joins_end : (m c l n : ℕ) (last : Bool) (got : List ℕ) → length got ≡ l
    → joins (entry_for (data_page m false c l n) last) l got ≡ ends (rec got)
joins_end m c l n last got e =
    ap (λ (p : Bool). cond p (cond (eqb (length got) l) (ends (rec got)) breaks) breaks)
    (is_true (eqb l l) (eqb_refl l))
    ∙ ap (λ (p : Bool). cond p (ends (rec got)) breaks)
    (is_true (eqb (length got) l) (subst (λ (k : ℕ). T (eqb (length got) k)) e (eqb_refl (length got))))

joins_more : (m c l n : ℕ) (last : Bool) (got : List ℕ) → length got < l
    → joins (entry_for (data_page m true c l n) last) l got ≡ goes_on (going l got)
joins_more m c l n last got e =
    ap (λ (p : Bool). cond p (cond (ltb (length got) l) (goes_on (going l got)) breaks) breaks)
    (is_true (eqb l l) (eqb_refl l))
    ∙ ap (λ (p : Bool). cond p (goes_on (going l got)) breaks)
    (is_true (ltb (length got) l) (lt→ltb (length got) l e))

-- a data page in its record: the first piece, or one after the bytes got so far
first_piece : (m c l n : ℕ) (more last : Bool) (bs : List ℕ) → m ≡ 1
    → page_step closed (entry_for (data_page m more c l n) last) (page-part (data_page m more c l n) bs)
    ≡ joins (entry_for (data_page m more c l n) last) l (take c bs)
first_piece m c l n more last bs e =
    ap (λ (p : Bool). cond p breaks (joins (entry_for (data_page m more c l n) last) l
    (page-part (data_page m more c l n) bs))) (ap (ltb 1) e)
    ∙ ap (joins (entry_for (data_page m more c l n) last) l) (data-part m more c l n bs)

later_piece : (m c l t n : ℕ) (more last : Bool) (got bs : List ℕ) → 1 < m → t ≡ l
    → page_step (going t got) (entry_for (data_page m more c l n) last) (page-part (data_page m more c l n) bs)
    ≡ joins (entry_for (data_page m more c l n) last) l (got ++ take c bs)
later_piece m c l t n more last got bs h e =
    ap (λ (p : Bool). cond p (joins (entry_for (data_page m more c l n) last) t
    (got ++ page-part (data_page m more c l n) bs)) breaks)
    (is_true (ltb 1 m) (lt→ltb 1 m h))
    ∙ ap₂ (λ (u : ℕ) (x : List ℕ). joins (entry_for (data_page m more c l n) last) u (got ++ x)) e
    (data-part m more c l n bs)

-- a record whose bytes are all still to come
whole_record : (l rest : ℕ) (ls bs : List ℕ) → 1 ≤ l → rest ≡ l
    → objects_of (l ∷ ls) bs ≡ rec (take rest bs) ∷ objects_of ls (drop rest bs)
whole_record zero rest ls bs h e = absurd (not-suc-le-zero h)
whole_record (suc l) rest ls bs h e =
    ap {B = List Object} (λ (p : Bool). cond p mark (rec (take (suc l) bs)) ∷ objects_of ls (drop (suc l) bs))
    (ne_eqb (suc l) 0 (λ e. let z : suc l ≡ 0 = e in omega arith))
    ∙ ap {B = List Object} (λ (k : ℕ). rec (take k bs) ∷ objects_of ls (drop k bs)) (sym e)

-- the bytes of two pieces
two_pieces : (c r : ℕ) (bs : List ℕ) → c ≤ r → take r bs ≡ take c bs ++ take (r - c) (drop c bs)
two_pieces c r bs h =
    let e : c + (r - c) ≡ r = omega arith in
    sym (take-append-drop c (take r bs))
    ∙ ap₂ ◌++◌ (take-take c r bs h) (ap (λ (k : ℕ). drop c (take k bs)) (sym e) ∙ drop-take c (r - c) bs)

rest-behind : (c r : ℕ) (bs : List ℕ) → c ≤ r → drop r bs ≡ drop (r - c) (drop c bs)
rest-behind c r bs h = let e : r ≡ c + (r - c) = omega arith in ap (λ (k : ℕ). drop k bs) e
    ∙ sym (drop-drop (r - c) c bs)

pub end_step : (m rest l : ℕ) (ls : List ℕ) (o : Open) (bs : List ℕ) → Stands m rest (l ∷ ls) o → 1 ≤ l
    → rest ≤ length bs → (n : ℕ) (last : Bool)
    → (x : Object) × (page_step o (entry_for (data_page m false rest l n) last)
    (page-part (data_page m false rest l n) bs) ≡ ends x)
    × (still o rest (l ∷ ls) bs ≡ x ∷ objects_of ls (drop rest bs))
end_step m rest l ls closed bs s nz h n last = (
  rec (take rest bs),
  first_piece m rest l n false last bs s.0 ∙ joins_end m rest l n last (take rest bs)
      (length-take-le rest bs h ∙ s.1),
  whole_record l rest ls bs nz s.1,
)
end_step m rest l ls (going t got) bs s nz h n last = (
  rec (got ++ take rest bs),
  later_piece m rest l t n false last got bs s.0 s.1
      ∙ joins_end m rest l n last (got ++ take rest bs)
      (length-append got (take rest bs) ∙ ap (λ (k : ℕ). length got + k) (length-take-le rest bs h) ∙ s.2),
  refl,
)

pub more-step : (m rest c l : ℕ) (ls : List ℕ) (o : Open) (bs : List ℕ) → Stands m rest (l ∷ ls) o → 1 ≤ l → c < rest
    → c ≤ length bs → (n : ℕ) (last : Bool)
    → (o' : Open) × (page_step o (entry_for (data_page m true c l n) last) (page-part (data_page m true c l n) bs)
    ≡ goes_on o')
    × Stands (suc m) (rest - c) (l ∷ ls) o' × (still o rest (l ∷ ls) bs ≡ still o' (rest - c) (l ∷ ls) (drop c bs))
more-step m rest c l ls closed bs s nz h k n last = (
  going l (take c bs),
  first_piece m c l n true last bs s.0 ∙ joins_more m c l n last (take c bs)
      (omega (arith, length-take-le c bs k)),
  (omega arith, refl, omega (arith, length-take-le c bs k), omega arith),
  whole_record l rest ls bs nz s.1
      ∙ ap₂ {C = List Object} (λ (x y : List ℕ). rec x ∷ objects_of ls y) (two_pieces c rest bs (omega arith))
      (rest-behind c rest bs (omega arith)),
)
more-step m rest c l ls (going t got) bs s nz h k n last = (
  going l (got ++ take c bs),
  later_piece m c l t n true last got bs s.0 s.1
      ∙ joins_more m c l n last (got ++ take c bs) (omega
      (arith, length-take-le c bs k, length-append got (take c bs))),
  (omega arith, refl, omega (arith, length-take-le c bs k, length-append got (take c bs)), omega arith),
  ap₂ {C = List Object} (λ (x y : List ℕ). rec x ∷ objects_of ls y)
      (ap (λ (x : List ℕ). got ++ x) (two_pieces c rest bs (omega arith))
      ∙ sym (append_assoc got (take c bs) (take (rest - c) (drop c bs))))
      (rest-behind c rest bs (omega arith)),
)
