-- What a lawful entry says of its fields, and that the three kinds of page have lawful entries. Assumes nothing.
use Rattle.std.proofs.Common.{◌≡◌, ℕ, ◌<◌, ◌≤◌, Bool, true, false, cond, not, ◌&&◌, ◌||◌, T, eqb, ltb, leb, arith, lit<, refl, le→leb, eqb→eq, leb→le}
use Rattle.bits.specs.Fields.{bit, Within}
use Rattle.pages.specs.PageType.{number_of, is_known}
use Rattle.pages.specs.declared.page_type.PageType.{PageType}
use Rattle.pages.specs.declared.page_type.PageType.TheVariants.{Filler, Data, TapeMark, Other0, Other4, Other5, Other6, Other7, Wide}
use Rattle.pages.specs.Entry.{entry_widths, entry_fields}
use Rattle.pages.specs.Map.{is_data, lawful_entry}
use Rattle.pages.specs.declared.entry.Entry.{Entry}
use Rattle.plan.specs.declared.page.PlannedPage.{PlannedPage}
use Rattle.plan.specs.Plan.{data_page, mark_page, filler_page}
use Rattle.plan.specs.DataFields.{entry_for}
use Rattle.plan.proofs.Truth.{T_and, and_left, and_right}

-- the last rule of an entry: its Record Byte Count
abbrev counted : Entry → Bool
counted e = cond (is_data e) (leb 1 e.total && leb e.total 1048576) (e.last && eqb e.total 0)

abbrev from_before : Bool → Entry → Bool
from_before head e = not e.prev || (head && is_data e)

abbrev pub into_next : Entry → Bool
into_next e = not e.next || (e.last && is_data e)

lawful : (head : Bool) (e : Entry) → T (is_known e.kind) → T (not e.compressed)
    → T (eqb e.reserved 0) → T (leb 1 e.count) → T (from_before head e) → T (into_next e) → T (counted e)
    → T (lawful_entry head e)
lawful head e t0 t2 t3 t4 t5 t6 t7 =
    T_and _ _ t0 (T_and _ _ t2 (T_and _ _ t3 (T_and _ _ t4 (T_and _ _ t5 (T_and _ _ t6 t7)))))

total-le : (d l : Bool) (n : ℕ) → T (cond d (leb 1 n && leb n 1048576) (l && eqb n 0)) → n ≤ 1048576
total-le true l n t = leb→le n 1048576 (and_right (leb 1 n) (leb n 1048576) t)
total-le false l n t = let z : n ≡ 0 = eqb→eq n 0 (and_right l (eqb n 0) t) in omega arith

pub record Law (e : Entry) : Type 0 where
  pub known : T (is_known e.kind)
  pub total_to : e.total ≤ 1048576
  pub goes_on_last : T (into_next e)

pub law : (head : Bool) (e : Entry) → T (lawful_entry head e) → Law e
law head e t =
    let from2 : T _ = and_right (is_known e.kind) _ t in
    let from3 : T _ = and_right (not e.compressed) _ from2 in
    let from4 : T _ = and_right (eqb e.reserved 0) _ from3 in
    let from5 : T _ = and_right (leb 1 e.count) _ from4 in
    let from6 : T _ = and_right (from_before head e) _ from5 in
    record {
      known = and_left (is_known e.kind) _ t;
      total_to = total-le (is_data e) e.last e.total (and_right (into_next e) (counted e) from6);
      goes_on_last = and_left (into_next e) _ from6;
    }

bit-lt : (b : Bool) → bit b < 2
bit-lt true = lit< tt
bit-lt false = lit< tt

known_small : (t : PageType) → T (is_known t) → number_of t < 8
known_small Filler k = lit< tt
known_small Data k = lit< tt
known_small TapeMark k = lit< tt
known_small Other0 k = absurd k
known_small Other4 k = absurd k
known_small Other5 k = absurd k
known_small Other6 k = absurd k
known_small Other7 k = absurd k
known_small (Wide n) k = absurd k

pub entry_within : (head last : Bool) (pg : PlannedPage) → T (lawful_entry head (entry_for pg last)) → pg.count < 65536
    → Within entry_widths (entry_fields (entry_for pg last))
entry_within head last pg t h =
    let p : Law (entry_for pg last) = law head (entry_for pg last) t in (
      known_small pg.kind p.known,
      (
        bit-lt pg.more,
        (
          bit-lt (ltb 1 pg.piece),
          (
            bit-lt last,
            (lit< tt, (lit< tt, (h, (omega (arith, p.total_to), tt)))),
          ),
        ),
      ),
    )

-- ---- the three kinds of page that packing makes

prev_ok : (b head : Bool) → (T b → T head) → T (not b || (head && true))
prev_ok true true f = tt
prev_ok true false f = f tt
prev_ok false head f = tt

next_ok : (b last : Bool) → (T b → T last) → T (not b || (last && true))
next_ok true true f = tt
next_ok true false f = f tt
next_ok false last f = tt

pub data-lawful : (head last more : Bool) (m c l o : ℕ) → 1 ≤ c → 1 ≤ l → l ≤ 1048576
    → (T (ltb 1 m) → T head) → (T more → T last) → T (lawful_entry head (entry_for (data_page m more c l o) last))
data-lawful head last more m c l o hc hl hu f g =
    lawful head (entry_for (data_page m more c l o) last) tt tt tt (le→leb 1 c hc)
    (prev_ok (ltb 1 m) head f) (next_ok more last g) (T_and (leb 1 l) (leb l 1048576) (le→leb 1 l hl)
    (le→leb l 1048576 hu))

pub mark-lawful : (head last : Bool) (c o : ℕ) → 1 ≤ c → T last → T (lawful_entry head (entry_for (mark_page c o) last))
mark-lawful head true c o hc t = lawful head (entry_for (mark_page c o) true) tt tt tt (le→leb 1 c hc) tt tt tt
mark-lawful head false c o hc t = absurd t

pub filler-lawful : (head : Bool) (c o : ℕ) → 1 ≤ c → T (lawful_entry head (entry_for (filler_page c o) true))
filler-lawful head c o hc = lawful head (entry_for (filler_page c o) true) tt tt tt (le→leb 1 c hc) tt tt tt
