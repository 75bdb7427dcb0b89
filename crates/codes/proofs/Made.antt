-- What `array::from_fn` put at each place, if its function leaves what it captured as it was. Assumes nothing.
use Rattle.std.proofs.Common.{◌≡◌, ℕ, zero, suc, ◌+◌, ◌<◌, List, get_or, sym, subst, arith}
use Rattle.std.specs.Fn.{Called, Mut}
use Rattle.std.specs.Array.{IsFromFnResultFrom}

pub made_at : {F B : Type 0} (g : Mut F (ℕ × Unit {0}) B) (f : F) (P : ℕ → B → Type 0)
    → ((i : ℕ) (y : B) (q : F) → Called g f (i, tt) y q → (q ≡ f) × P i y)
    → (ys : List B) (n i : ℕ) → IsFromFnResultFrom g f ys i n → (k j : ℕ) → k < n → i + k ≡ j → (d : B)
    → P j (get_or ys j d)
made_at g f P call ys zero i m k j h e d = absurd (omega arith)
made_at g f P call ys (suc n) i m zero j h e d =
    let at : i ≡ j = omega arith in
    subst (λ (t : ℕ). P t (get_or ys t d)) at (subst (P i) (sym (m.2.1 d)) (call i m.1 m.0 m.3).1)
made_at {F} g f P call ys (suc n) i m (suc k) j h e d =
    made_at g f P call ys n (i + 1)
    (subst (λ (q : F). IsFromFnResultFrom g q ys (i + 1) n) (call i m.1 m.0 m.3).0 m.4) k j (omega arith) (omega arith) d
