-- A column filled by its sums is filled for a code whose check words make those sums zero. Assumes nothing.
use Rattle.std.proofs.Common.{◌≡◌, ℕ, ◌+◌, ◌-◌, ◌<◌, Bool, List, length, take, drop, replicate, sym, ap, ◌∙◌, arith}
use Rattle.std.proofs.lemmas.List.{ext_get_or, get_or-take, get_or-drop, length-take-le, length-drop, length-replicate}
use Rattle.field.specs.Polynomials.{word_product}
use Rattle.codes.specs.Code.{Code}
use Rattle.codes.specs.Filling.{Blanked, Filled, FilledBySums}
use Rattle.codes.proofs.Blanking.{zeros_at}
use Rattle.codes.specs.Solutions.{Solves, right-vanishes}

pub filled_code : (code : Code) (column blank out : List ℕ) (ms : List Bool) → Solves code → length out ≡ 20
    → Blanked column ms (16 + code.r) blank
    → FilledBySums 16 word_product (16 + code.r) code.r blank ms out → Filled code column ms out
filled_code code column blank out ms S long B F = record {
  keeps = λ i h e. F.keeps i e ∙ B.present i h e;
  rest =
      ext_get_or 0 (drop (16 + code.r) out) (replicate (4 - code.r) 0)
      (length-drop (16 + code.r) out ∙ ap (λ m. m - (16 + code.r)) long
      ∙ (let z : 20 - (16 + code.r) ≡ 4 - code.r = omega arith in z)
      ∙ sym (length-replicate (4 - code.r) 0))
      (λ i l. get_or-drop (16 + code.r) out i 0 ∙ F.rest (16 + code.r + i) (omega arith)
      ∙ B.rest (16 + code.r + i) (omega arith)
      ∙ sym (zeros_at (4 - code.r) i));
  forced = λ few ws right keeps.
      ext_get_or 0 ws (take (16 + code.r) out) (right.0
      ∙ sym (length-take-le (16 + code.r) out (omega (arith, S.four))))
      (λ i l.
      let q : i < 16 + code.r = omega (arith, right.0) in
      F.forced few ws (right-vanishes code S ws right) (λ k h e. keeps k h e ∙ sym (B.present k h e)) i q
      ∙ sym (get_or-take (16 + code.r) out i 0 q));
}
