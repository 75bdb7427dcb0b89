-- One record more, and no record more. Assumes nothing.
use Rattle.std.proofs.Common.{◌≡◌, ℕ, ◌+◌, ◌<◌, ◌≤◌, true, false, cond, List, ◌∷◌, length, get_or, drop, map, Some, None, sym, ap, ◌∙◌}
use Rattle.std.proofs.lemmas.List.{at_drop_more, at_drop_all}
use Rattle.pages.specs.declared.page_type.PageType.TheVariants.{Data}
use Rattle.one_block.specs.Laying.{Laid, fits, with_page, with_records}

module _ {X : Type 0} (items : X → List ℕ) (s : Laid) (xs : List X) (k : ℕ) where
  one_more : (x : X) (bs : List ℕ) → k < length xs → x ≡ get_or xs k x → bs ≡ items x
      → with_records s (map items (drop k xs))
      ≡ cond (fits s bs) (with_records (with_page s Data bs (length bs) (length bs)) (map items (drop (k + 1) xs))) None
  unfolding with_records
  one_more x bs h e f =
      at_drop_more (λ ys. with_records s (map items ys)) xs k x h
      ∙ ap (λ y. with_records s (y ∷ map items (drop (k + 1) xs))) (ap items (sym e) ∙ sym f)

  pub goes_on : (x : X) (bs : List ℕ) (t : Laid) → k < length xs → x ≡ get_or xs k x → bs ≡ items x → fits s bs ≡ true
      → t ≡ with_page s Data bs (length bs) (length bs)
      → with_records s (map items (drop k xs)) ≡ with_records t (map items (drop (k + 1) xs))
  goes_on x bs t h e f w p =
      one_more x bs h e f
      ∙ ap (λ b. cond b (with_records (with_page s Data bs (length bs) (length bs)) (map items (drop (k + 1) xs))) None) w
      ∙ ap (λ u. with_records u (map items (drop (k + 1) xs))) (sym p)

  pub stops : (x : X) (bs : List ℕ) → k < length xs → x ≡ get_or xs k x → bs ≡ items x → fits s bs ≡ false
      → with_records s (map items (drop k xs)) ≡ None
  stops x bs h e f w =
      one_more x bs h e f
      ∙ ap (λ b. cond b (with_records (with_page s Data bs (length bs) (length bs)) (map items (drop (k + 1) xs))) None) w

  pub no_more : length xs ≤ k → with_records s (map items (drop k xs)) ≡ Some s
  unfolding with_records
  no_more h = at_drop_all (λ ys. with_records s (map items ys)) xs k h
