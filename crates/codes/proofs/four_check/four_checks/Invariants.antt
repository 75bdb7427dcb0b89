-- The check words of the groups so far. Assumes nothing.
use Rattle.std.proofs.Common.{◌≡◌, [], ◌∷◌, take, fold}
use Rattle.check_groups.specs.Groups.{next_words}
use Rattle.codes.proofs.four_check.four_checks.Given as goal

abbrev pub invariant-loop-group : goal.invariant-loop-group
invariant-loop-group l = l.state ≡ fold next_words (0 ∷ 0 ∷ 0 ∷ 0 ∷ []) (take l.group-index l.groups)
