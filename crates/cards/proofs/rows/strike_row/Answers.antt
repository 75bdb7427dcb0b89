-- What a strike of a row answers, and that it lays the mark over that of the row. Assumes nothing.
use Rattle.std.proofs.Common.{rules}
use Rattle.std.proofs.lemmas.List.{drop-drop}
use Rattle.cards.specs.Rows.{laid}
use Rattle.cards.proofs.RowLaws.{length-rows}
use Rattle.cards.proofs.rows.strike_row.Goals as goal

pub returns-in_err-judge_place-clause-answer : goal.returns-in_err-judge_place-clause-answer
returns-in_err-judge_place-clause-answer c = let n = length-rows c.args.mem.now in search rules

pub returns-clause-answer : goal.returns-clause-answer
returns-clause-answer c = let n = length-rows c.args.mem.now in search rules

pub returns-clause-memory : goal.returns-clause-memory
unfolding laid
returns-clause-memory c = search (rules, drop-drop)
