-- Contents that are given by the number of their place. Assumes nothing.
use Rattle.std.proofs.Common.{◌≡◌, ℕ, ◌<◌, ◌≢◌, map, get_or, set, sym, ap, ◌∙◌, ⊎_elim, arith}
use Rattle.std.specs.List.{range_with_len}
use Rattle.std.proofs.lemmas.List.{ext_get_or, length-set, get_or-set_same, get_or-set_other}
use Rattle.std.proofs.lemmas.List.FromFn.{length-map-range_with_len, get_or-map-range_with_len}
use Rattle.std.proofs.lemmas.Bool.{cases_eq}
use Rattle.cards.specs.Content.{Content, lost}

-- where two rules agree at every place but p, their contents differ at p alone
pub counted-set : (f g : ℕ → Content) (n p : ℕ) (x : Content) → p < n → g p ≡ x → ((i : ℕ) → i ≢ p → g i ≡ f i)
    → map g (range_with_len 0 n) ≡ set (map f (range_with_len 0 n)) p x
counted-set f g n p x l here there =
    let lf = length-map-range_with_len f 0 n in
    let lg = length-map-range_with_len g 0 n in
    ext_get_or lost (map g (range_with_len 0 n)) (set (map f (range_with_len 0 n)) p x) (simp length-set (lg ∙ sym lf))
    (λ i b.
    let c : get_or (map g (range_with_len 0 n)) i lost ≡ g i = get_or-map-range_with_len g 0 n i i lost (omega arith) (omega arith) in
    ⊎_elim
    (λ (e : i ≡ p).
    c ∙ ap g e ∙ here
    ∙ sym (ap (λ z. get_or (set (map f (range_with_len 0 n)) p x) z lost) e
    ∙ get_or-set_same (map f (range_with_len 0 n)) p x lost (omega arith)))
    (λ ne.
    c ∙ there i ne ∙ sym (get_or-map-range_with_len f 0 n i i lost (omega arith) (omega arith))
    ∙ sym (get_or-set_other (map f (range_with_len 0 n)) p i x lost ne))
    (cases_eq i p))
