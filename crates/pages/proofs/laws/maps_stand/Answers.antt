-- A map is found exactly where the rule of maps holds. Assumes nothing.
use Rattle.pages.proofs.MapRule.{maps_by_rule}
use Rattle.pages.proofs.laws.maps_stand.Goals as goal

pub returns : goal.returns
returns c = maps_by_rule
