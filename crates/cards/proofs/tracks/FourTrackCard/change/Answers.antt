-- What a change on a track leaves, track by track. Assumes nothing.
use Rattle.std.proofs.Common.{rules}
use Rattle.cards.proofs.tracks.FourTrackCard.change.Goals as goal

pub returns-in-0-clause-memories : goal.returns-in-0-clause-memories
returns-in-0-clause-memories g c = (c.f.new.arg2, search rules, search rules)

pub returns-in-1-clause-memories : goal.returns-in-1-clause-memories
returns-in-1-clause-memories g c = (c.f-in-1.new.arg2, search rules, search rules)

pub returns-in-2-clause-memories : goal.returns-in-2-clause-memories
returns-in-2-clause-memories g c = (c.f-in-2.new.arg2, search rules, search rules)

pub returns-in_default-clause-memories : goal.returns-in_default-clause-memories
returns-in_default-clause-memories g c = (c.f-in_default.new.arg2, search rules, search rules)
