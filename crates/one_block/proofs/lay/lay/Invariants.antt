-- The records that are left, laid behind those that are laid, give the whole. Assumes nothing.
use Rattle.std.proofs.Common.{◌≡◌, drop, map}
use Rattle.one_block.specs.Laying.{laid, nothing_laid, with_records}
use Rattle.one_block.proofs.lay.lay.Given as goal

abbrev pub invariant-loop-record : goal.invariant-loop-record
invariant-loop-record l =
    with_records (laid l.laying) (map (λ v. v.items) (drop l.record-index l.records))
    ≡ with_records nothing_laid (map (λ v. v.items) l.records)
