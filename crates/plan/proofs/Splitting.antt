-- Following blocks is following the first of them and then the others, with what the first leave open. Assumes nothing.
use Rattle.std.proofs.Common.{◌≡◌, ℕ, suc, ◌+◌, ◌-◌, Bool, true, false, cond, ◌&&◌, List, [], ◌∷◌, ◌++◌, length, drop, sym, refl, ap, ◌∙◌, append_assoc, add-zero, arith, Option, Some, None}
use Rattle.std.proofs.lemmas.List.{drop-drop}
use Rattle.plan.specs.declared.page.PlannedPage.{PlannedPage}
use Rattle.plan.specs.Objects.{Object}
use Rattle.plan.specs.DataFields.{user_bytes, all_user_bytes, field_of, fields}
use Rattle.plan.specs.Following.{Open, closed, going, is_open, Followed, follow_block, EntityFollowed, before_found}
use Rattle.plan.specs.Following.{follow_blocks}

-- nothing broke: the objects found, and what is left open
abbrev pub whole-found : List Object → Open → EntityFollowed
whole-found os o = record { found = os; broken = None; left_open = o }

abbrev pub all_found : List Object → EntityFollowed
all_found os = whole-found os closed

-- what a block leaves, and the blocks after it
unfoldable pub then-blocks : Bool → ℕ → Followed → List (List ℕ) → EntityFollowed
then-blocks last b g fs =
    elim g.after [
      | None ↦ record { found = g.ended; broken = Some b; left_open = closed }
      | Some o' ↦ before_found g.ended (follow_blocks last o' (suc b) fs)
    ]

before-twice : (es fs : List Object) (f : EntityFollowed)
    → before_found es (before_found fs f) ≡ before_found (es ++ fs) f
before-twice es fs f = λ i. record {
  found = sym (append_assoc es fs f.found) i;
  broken = f.broken;
  left_open =
      f.left_open;
}

-- blocks `ys` behind blocks `xs`
pub follow_on : (last : Bool) (xs ys : List (List ℕ)) (o o' : Open) (b : ℕ) (os : List Object)
    → follow_blocks false o b xs ≡ whole-found os o'
    → follow_blocks last o b (xs ++ ys) ≡ before_found os (follow_blocks last o' (b + length xs) ys)
unfolding follow_blocks then-blocks
follow_on last [] ys o o' b os h = λ i. before_found (h i).found
    (follow_blocks last (h i).left_open (sym (add-zero b) i) ys)
follow_on last (x ∷ xs) ys o o' b os h =
    go (follow_block o x).ended (follow_block o x).after (λ o₁. follow_on last xs ys o₁ o' (suc b)) h
  where
    go : (es : List Object) (q : Option Open)
        → ((o₁ : Open) (fs : List Object) → follow_blocks false o₁ (suc b) xs ≡ whole-found fs o'
        → follow_blocks last o₁ (suc b) (xs ++ ys) ≡ before_found fs (follow_blocks last o' (suc b + length xs) ys))
        → then-blocks false b (record { ended = es; after = q }) xs ≡ whole-found os o'
        → then-blocks last b (record { ended = es; after = q }) (xs ++ ys)
        ≡ before_found os (follow_blocks last o' (b + length (x ∷ xs)) ys)
    go es None ih k = let e : Some b ≡ None = ap (λ (f : EntityFollowed). f.broken) k in cc
    go es (Some o₁) ih k =
        let f : EntityFollowed = follow_blocks false o₁ (suc b) xs in
        let n : suc b + length xs ≡ b + suc (length xs) = omega arith in
        ap (before_found es) (ih o₁ f.found (λ i. record {
          found = f.found;
          broken = (k i).broken;
          left_open =
              (k i).left_open;
        }))
        ∙ before-twice es f.found (follow_blocks last o' (suc b + length xs) ys)
        ∙ (λ i. before_found (k i).found (follow_blocks last o' (n i) ys))

-- the same, with what the blocks `xs` are found to be
pub follow-parts : (last : Bool) (xs ys : List (List ℕ)) (o : Open) (b : ℕ) → (follow_blocks false o b xs).broken ≡ None
    → follow_blocks last o b (xs ++ ys) ≡ before_found (follow_blocks false o b xs).found
    (follow_blocks last (follow_blocks false o b xs).left_open (b + length xs) ys)
follow-parts last xs ys o b h =
    let f : EntityFollowed = follow_blocks false o b xs in
    follow_on last xs ys o f.left_open b f.found (λ i. record {
      found = f.found;
      broken = h i;
      left_open =
          f.left_open;
    })

-- where nothing breaks in all, nothing breaks in the first blocks
pub follow_first : (last : Bool) (xs ys : List (List ℕ)) (o : Open) (b : ℕ)
    → (follow_blocks last o b (xs ++ ys)).broken ≡ None → (follow_blocks false o b xs).broken ≡ None
unfolding follow_blocks then-blocks
follow_first last [] ys o b h = refl
follow_first last (x ∷ xs) ys o b h = go (follow_block o x).ended (follow_block o x).after
    (λ o₁. follow_first last xs ys o₁ (suc b)) h
  where
    go : (es : List Object) (q : Option Open)
        → ((o₁ : Open) → (follow_blocks last o₁ (suc b) (xs ++ ys)).broken ≡ None
        → (follow_blocks false o₁ (suc b) xs).broken ≡ None)
        → (then-blocks last b (record { ended = es; after = q }) (xs ++ ys)).broken ≡ None
        → (then-blocks false b (record { ended = es; after = q }) xs).broken ≡ None
    go es None ih k = cc
    go es (Some o₁) ih k = ih o₁ k

-- where nothing breaks, the blocks' numbers say nothing
pub any-number : (last : Bool) (xs : List (List ℕ)) (o : Open) (b b' : ℕ) → (follow_blocks last o b xs).broken ≡ None
    → follow_blocks last o b' xs ≡ follow_blocks last o b xs
unfolding follow_blocks then-blocks
any-number last [] o b b' h = go (last && is_open o) h
  where
    go : (p : Bool) → cond p (Some (b - 1)) None ≡ None
        → ◌≡◌ {A = EntityFollowed} (record { found = []; broken = cond p (Some (b' - 1)) None; left_open = o })
        (record { found = []; broken = cond p (Some (b - 1)) None; left_open = o })
    go true k = cc
    go false k = refl
any-number last (x ∷ xs) o b b' h = go (follow_block o x).ended (follow_block o x).after
    (λ o₁. any-number last xs o₁ (suc b) (suc b')) h
  where
    go : (es : List Object) (q : Option Open)
        → ((o₁ : Open) → (follow_blocks last o₁ (suc b) xs).broken ≡ None
        → follow_blocks last o₁ (suc b') xs ≡ follow_blocks last o₁ (suc b) xs)
        → (then-blocks last b (record { ended = es; after = q }) xs).broken ≡ None
        → then-blocks last b' (record { ended = es; after = q }) xs
        ≡ then-blocks last b (record { ended = es; after = q }) xs
    go es None ih k = cc
    go es (Some o₁) ih k = ap (before_found es) (ih o₁ k)

-- what is lawful in the last entity is lawful in any
pub not_last : (xs : List (List ℕ)) (o : Open) (b : ℕ) → (follow_blocks true o b xs).broken ≡ None
    → follow_blocks false o b xs ≡ follow_blocks true o b xs
unfolding follow_blocks then-blocks
not_last [] closed b h = refl
not_last [] (going t got) b h = cc
not_last (x ∷ xs) o b h = go (follow_block o x).ended (follow_block o x).after (λ o₁. not_last xs o₁ (suc b)) h
  where
    go : (es : List Object) (q : Option Open)
        → ((o₁ : Open) → (follow_blocks true o₁ (suc b) xs).broken ≡ None
        → follow_blocks false o₁ (suc b) xs ≡ follow_blocks true o₁ (suc b) xs)
        → (then-blocks true b (record { ended = es; after = q }) xs).broken ≡ None
        → then-blocks false b (record { ended = es; after = q }) xs
        ≡ then-blocks true b (record { ended = es; after = q }) xs
    go es None ih k = cc
    go es (Some o₁) ih k = ap (before_found es) (ih o₁ k)

pub fields-append : (xs ys : List (List PlannedPage)) (bs : List ℕ)
    → fields (xs ++ ys) bs ≡ fields xs bs ++ fields ys (drop (all_user_bytes xs) bs)
fields-append [] ys bs = refl
fields-append (x ∷ xs) ys bs =
    ap {B = List (List ℕ)} (λ (fs : List (List ℕ)). field_of x bs ∷ fs)
    (fields-append xs ys (drop (user_bytes x) bs)
    ∙ ap (λ (r : List ℕ). fields xs (drop (user_bytes x) bs) ++ fields ys r)
    (drop-drop (all_user_bytes xs) (user_bytes x) bs))
