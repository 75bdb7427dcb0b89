-- A column is written. Assumes nothing.
use Rattle.std.proofs.Common.{◌≡◌, ℕ, ◌+◌, ◌/◌, ◌%◌, ◌≤◌, Bool, true, false, ◌&&◌, length, sym, refl, ap, ◌∙◌, zero-add, arith, rules}
use Rattle.std.specs.Prelude.{nat_le, nat_lt}
use Rattle.columns.specs.Columns.{word_at}
use Rattle.columns.proofs.WordLaws.{column-made, column_same}
use Rattle.columns.proofs.rebuild.put_column.Goals as goal

off : (a b : Bool) (x : ℕ) → 8228 ≤ x → a && (b && nat_lt x 8228) ≡ false
off false b x h = refl
off true false x h = refl
off true true x h = search rules

pub returns : goal.returns
returns c =
    let long : length c.args.words ≡ 20 = search rules in
    record {
      here = sym (column-made c.put_words.new.work c.args.words c.args.c long
          (λ k h. sym (ap (λ (n : ℕ). word_at c.put_words.new.work n c.args.c) (sym (zero-add k)) ∙ c.put_words.ensures.here k (omega (arith, long, h)))));
      others = λ k h ne. column_same c.args.work.now c.put_words.new.work k (λ j q. c.put_words.ensures.elsewhere j k h ne);
      uncovered = λ q h. c.put_words.ensures.others q (off (nat_le 0 (q / 8256)) (nat_lt (q / 8256) (0 + length c.args.words)) (q % 8256) h);
    }
