-- The words that the closure reads are those of the column. Assumes nothing.
use Rattle.std.proofs.Common.{◌≡◌, ℕ, zero-add, rules}
use Rattle.columns.specs.Columns.{word_at}
use Rattle.codes.proofs.Made.{made_at}
use Rattle.columns.proofs.WordLaws.{words-made}
use Rattle.columns.proofs.words.words_at.Goals as goal

pub returns : goal.returns
returns g c =
    let work = c.args.work.now in
    let at = λ (k : ℕ) (y : ℕ). y ≡ word_at work k c.args.c in
    words-made work c.from_fn.result c.args.c g.row.N c.requires.few c.from_fn.ensures.items.long
    (λ k h. made_at _ _ at (λ i y f called. search rules) c.from_fn.result g.row.N 0 c.from_fn.ensures.items.each k k h (zero-add k) 0)
