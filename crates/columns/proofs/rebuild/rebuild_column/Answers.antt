-- An answer of a code is the right column, and a refusal says that there is none. Assumes nothing.
use Rattle.std.proofs.Common.{◌≡◌, Some, Ok, Err, Result, OnErr, sym, ap, ◌∙◌, rules}
use Rattle.refusal.specs.Tells.{told, tells}
use Rattle.codes.specs.Code.{Code}
use Rattle.codes.specs.Rebuild.{seen, rebuild, rebuilt}
use Rattle.columns.specs.Columns.{column, twenty}
use Rattle.columns.proofs.WordLaws.{column_whole}
use Rattle.columns.proofs.Rebuilding.{none_right, some_right}
use Rattle.columns.proofs.rebuild.rebuild_column.Goals as goal

pub returns-clause-answer : goal.returns-clause-answer
returns-clause-answer g c =
    let code : Code = g.K.CheckCode.code c.args.code.now in
    let whole : c.words_at.result ≡ column c.args.work.now c.args.c =
    c.words_at.ensures ∙ column_whole c.args.work.now c.args.c in
    ap told (sym c.in_ok-flag.was) ∙ c.rebuild-flag.ensures.flag ∙ ap (λ ws. (rebuilt code ws c.args.marks).1) whole

pub returns-clause-found : goal.returns-clause-found
returns-clause-found g c =
    let code : Code = g.K.CheckCode.code c.args.code.now in
    let whole : c.words_at.result ≡ column c.args.work.now c.args.c =
    c.words_at.ensures ∙ column_whole c.args.work.now c.args.c in
    ap (λ ws. twenty code (rebuild code (seen code ws c.args.marks))) (sym whole)
    ∙ some_right code c.words_at.result c.args.marks c.requires.few (ap told (sym c.in_ok-flag.was) ∙ c.rebuild-flag.ensures.flag)
    ∙ ap Some (sym (c.put_column.ensures.here ∙ c.rebuild-flag.ensures.words))

pub returns-in_err-flag-clause-answer : goal.returns-in_err-flag-clause-answer
returns-in_err-flag-clause-answer g c =
    let code : Code = g.K.CheckCode.code c.args.code.now in
    let whole : c.words_at.result ≡ column c.args.work.now c.args.c =
    c.words_at.ensures ∙ column_whole c.args.work.now c.args.c in
    let passed : told c.from_residual.result ≡ Err (tells c.in_err-flag.field-0.0) = search rules in
    passed ∙ ap told (sym c.in_err-flag.was) ∙ c.rebuild-flag.ensures.flag ∙ ap (λ ws. (rebuilt code ws c.args.marks).1) whole

on_err : {T E : Type 0} {P : Type 0} (r : Result T E) → P → OnErr r P
on_err (Ok x) p = tt
on_err (Err e) p = p

pub returns-in_err-flag-clause-lacking : goal.returns-in_err-flag-clause-lacking
returns-in_err-flag-clause-lacking g c =
    let code : Code = g.K.CheckCode.code c.args.code.now in
    let whole : c.words_at.result ≡ column c.args.work.now c.args.c =
    c.words_at.ensures ∙ column_whole c.args.work.now c.args.c in
    on_err c.from_residual.result
    (ap (λ ws. twenty code (rebuild code (seen code ws c.args.marks))) (sym whole)
    ∙ none_right code c.words_at.result c.args.marks (tells c.in_err-flag.field-0.0) c.requires.few
    (ap told (sym c.in_err-flag.was) ∙ c.rebuild-flag.ensures.flag))
