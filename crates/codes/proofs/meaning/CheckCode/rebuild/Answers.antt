-- The answer is the defined one, and settles the column. Assumes nothing.
use Rattle.std.proofs.Common.{◌≡◌, ℕ, ◌+◌, ◌-◌, ◌<◌, ◌≤◌, ◌++◌, length, get_or, take, drop, replicate, false, sym, ap, ◌∙◌, subst, rules}
use Rattle.std.proofs.lemmas.Bool.{false≢true}
use Rattle.std.proofs.lemmas.Bool.Decides.{Decides-eqb}
use Rattle.std.proofs.lemmas.Slice.Eq.{slice_eq-Decides}
use Rattle.codes.specs.Filling.{missing_count}
use Rattle.codes.specs.Agreeing.{all_words, fits_all}
use Rattle.codes.proofs.Settling.{too_many, many-answered, the_column, column-answered, no-column, none-answered}
use Rattle.codes.proofs.meaning.CheckCode.rebuild.Goals as goal

pub returns-then-count-r : goal.returns-then-count-r
returns-then-count-r g c =
    let code = g.Self.CheckCode.code c.args.self.now in
    let count = c.count_missing-count.result in
    let e : count ≡ missing_count c.args.marks (16 + code.r) =
    c.count_missing-count.ensures ∙ ap (λ m. missing_count c.args.marks (16 + m)) c.r-r.ensures in
    let l : code.r < count = subst (λ m. m < count) c.r-r.ensures c.if-count-r.true in
    record {
      words = ap (λ a. a.0) (many-answered code c.args.column c.args.marks count e l);
      flag = ap (λ a. a.1) (many-answered code c.args.column c.args.marks count e l);
      settles = too_many code c.args.column c.args.marks count e l;
    }

pub returns-then-eq : goal.returns-then-eq
returns-then-eq g c =
    let code = g.Self.CheckCode.code c.args.self.now in
    let out = c.fill-filled.result in
    let few : missing_count c.args.marks (16 + code.r) ≤ code.r =
    subst (λ m. missing_count c.args.marks (16 + m) ≤ m) c.r-r.ensures
    (subst (λ k. k ≤ c.r-r.result) c.count_missing-count.ensures c.if-count-r.false) in
    let small : (k : ℕ) → k < 20 → get_or out k 0 < 65536 = λ k h. search rules in
    let long : length out ≡ 20 = search rules in
    let made : c.check_words.result ≡ code.checks (take 16 out) ++ replicate (4 - code.r) 0 =
    c.check_words.ensures ∙ ap (λ t. code.checks t ++ replicate (4 - code.r) 0) c.split.ensures.front in
    let r4 = (g.met.Self.CheckCode.lawful c.args.self.now).at_most_four in
    let eq : c.check_words.result ≡ c.split.result.1 = search rules in
    let same : drop 16 out ≡ c.check_words.result = sym c.split.ensures.tail ∙ sym eq in
    record {
      words = ap (λ a. a.0) (column-answered code c.args.column c.args.marks out r4 few
          c.fill-filled.ensures long small _ made same);
      flag = ap (λ a. a.1) (column-answered code c.args.column c.args.marks out r4 few
          c.fill-filled.ensures long small _ made same);
      settles = the_column code c.args.column c.args.marks out r4 few c.fill-filled.ensures long small _
          made same;
    }

pub returns : goal.returns
returns g c =
    let code = g.Self.CheckCode.code c.args.self.now in
    let out = c.fill-filled.result in
    let few : missing_count c.args.marks (16 + code.r) ≤ code.r =
    subst (λ m. missing_count c.args.marks (16 + m) ≤ m) c.r-r.ensures
    (subst (λ k. k ≤ c.r-r.result) c.count_missing-count.ensures c.if-count-r.false) in
    let small : (k : ℕ) → k < 20 → get_or out k 0 < 65536 = λ k h. search rules in
    let length20 : length c.args.column ≡ 20 = search rules in
    let below : (k : ℕ) → k < 20 → get_or c.args.column k 0 < 65536 = λ k h. search rules in
    let fits = fits_all c.args.column
    (all_words c.args.column (λ i l. below i (subst (λ m. i < m) length20 l))) in
    let long : length out ≡ 20 = search rules in
    let made : c.check_words.result ≡ code.checks (take 16 out) ++ replicate (4 - code.r) 0 =
    c.check_words.ensures ∙ ap (λ t. code.checks t ++ replicate (4 - code.r) 0) c.split.ensures.front in
    let r4 = (g.met.Self.CheckCode.lawful c.args.self.now).at_most_four in
    let other : drop 16 out ≡ c.check_words.result → ⊥ =
    λ e. false≢true ((slice_eq-Decides Decides-eqb c.check_words.result c.split.result.1 false c.if-eq.ensures).1
    (sym e ∙ sym c.split.ensures.tail)) in
    record {
      words = ap (λ a. a.0) (none-answered code c.args.column c.args.marks out r4 few
          c.fill-filled.ensures long small _ made fits other);
      flag = ap (λ a. a.1) (none-answered code c.args.column c.args.marks out r4 few
          c.fill-filled.ensures long small _ made fits other);
      settles = no-column code c.args.column c.args.marks out r4 few c.fill-filled.ensures long small _
          made other;
    }
