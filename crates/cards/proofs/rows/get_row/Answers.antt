-- What a get of a row answers and copies, by what its mark was read as. Assumes nothing.
use Rattle.std.proofs.Common.{◌≡◌, ℕ, ◌+◌, ◌-◌, ◌*◌, ◌⊎◌, List, length, take, drop, replicate, sym, refl, ap, ◌∙◌, ⊎_elim, arith, rules}
use Rattle.cards.specs.declared.Kind.{Kind}
use Rattle.cards.specs.declared.Kind.TheVariants.{Blank, Lost, Block}
use Rattle.cards.specs.Content.{block_len, bytes_of}
use Rattle.cards.specs.Rows.{content_of, rows}
use Rattle.cards.proofs.AnswerLaws.{buffer_in}
use Rattle.cards.proofs.RowLaws.{length-rows, content_at-rows, row_read}
use Rattle.cards.proofs.rows.get_row.Goals as goal

-- where no block stands a get gives zeros
zeros : (kind : Kind) (bs : List ℕ) → (kind ≡ Blank) ⊎ (kind ≡ Lost) → bytes_of (content_of kind bs) ≡ replicate block_len 0
zeros Blank bs h = refl
zeros Lost bs h = refl
zeros Block bs h = ⊎_elim (λ (e : Block ≡ Blank). cc) (λ (e : Block ≡ Lost). cc) h

pub returns-in_err-judge_call : goal.returns-in_err-judge_call
returns-in_err-judge_call c = let n = length-rows c.args.mem.now in
    record { answer = search rules; buffer = search rules }

pub returns-in-Block : goal.returns-in-Block
returns-in-Block c =
    let n = length-rows c.args.mem.now in
    let x = content_at-rows c.args.mem.now c.args.row (search rules) in
    let g = row_read c.args.mem.now c.args.row
    ((c.args.row * 8258 + 2) - c.args.row * 8258) block_len Block (omega arith) refl c.in-Block.ensures in
    let k : (c.args.row * 8258 + 8258) - (c.args.row * 8258 + 2) ≡ block_len = omega arith in
    let b = buffer_in (rows c.args.mem.now) c.args.row c.args.buf.now (search rules) (search rules) in
    record {
      answer = search rules;
      buffer =
          c.copy_from_slice.ensures.after ∙ ap (λ z. take z (drop (c.args.row * 8258 + 2) c.args.mem.now)) k
          ∙ sym (b ∙ ap bytes_of (x ∙ g));
    }

pub returns-in-Blank : goal.returns-in-Blank
returns-in-Blank c =
    let n = length-rows c.args.mem.now in
    let x = content_at-rows c.args.mem.now c.args.row (search rules) in
    let g = row_read c.args.mem.now c.args.row ((c.args.row * 8258 + 2) - c.args.row * 8258) block_len
    c.read_mark-kind.result (omega arith) refl c.read_mark-kind.ensures in
    let b = buffer_in (rows c.args.mem.now) c.args.row c.args.buf.now (search rules) (search rules) in
    let e : length c.args.buf.now ≡ block_len = search rules in
    let f : c.fill.new.self ≡ replicate block_len 0 = c.fill.ensures.after (λ y q. q) ∙ ap (λ z. replicate z 0) e in
    let z = zeros c.read_mark-kind.result (take block_len (drop (c.args.row * 8258 + 2) c.args.mem.now)) c.in-Blank.is in
    record { answer = search rules; buffer = f ∙ sym (b ∙ ap bytes_of (x ∙ g) ∙ z) }
