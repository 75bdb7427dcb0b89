-- Each case writes its text: the pieces of the format, joined, are the number and the values. Assumes nothing.
use Rattle.std.specs.Fmt.{digits}
use Rattle.refusal.proofs.RefusalDisplay.fmt.Goals as goal

pub returns-in-WrongLength-clause-writes : goal.returns-in-WrongLength-clause-writes
unfolding digits
returns-in-WrongLength-clause-writes g c = simp c.in-WrongLength.is c.write.ensures.writes

pub returns-in-NoSuchPlace-clause-writes : goal.returns-in-NoSuchPlace-clause-writes
unfolding digits
returns-in-NoSuchPlace-clause-writes g c = simp c.in-NoSuchPlace.is c.write-in-NoSuchPlace.ensures.writes

pub returns-in-WrongCardSize-clause-writes : goal.returns-in-WrongCardSize-clause-writes
unfolding digits
returns-in-WrongCardSize-clause-writes g c = simp c.in-WrongCardSize.is c.write-in-WrongCardSize.ensures.writes

pub returns-in-HoldStands-clause-writes : goal.returns-in-HoldStands-clause-writes
unfolding digits
returns-in-HoldStands-clause-writes g c = simp c.in-HoldStands.is c.write-in-HoldStands.ensures.writes

pub returns-in-HoldsSpent-clause-writes : goal.returns-in-HoldsSpent-clause-writes
unfolding digits
returns-in-HoldsSpent-clause-writes g c = simp c.in-HoldsSpent.is c.write-in-HoldsSpent.ensures.writes

pub returns-in-NotStanding-clause-writes : goal.returns-in-NotStanding-clause-writes
unfolding digits
returns-in-NotStanding-clause-writes g c = simp c.in-NotStanding.is c.write-in-NotStanding.ensures.writes

pub returns-in-BadList-clause-writes : goal.returns-in-BadList-clause-writes
unfolding digits
returns-in-BadList-clause-writes g c = simp c.in-BadList.is c.write-in-BadList.ensures.writes

pub returns-in-TooManyBlocks-clause-writes : goal.returns-in-TooManyBlocks-clause-writes
unfolding digits
returns-in-TooManyBlocks-clause-writes g c = simp c.in-TooManyBlocks.is c.write-in-TooManyBlocks.ensures.writes

pub returns-in-NoRoom-clause-writes : goal.returns-in-NoRoom-clause-writes
unfolding digits
returns-in-NoRoom-clause-writes g c = simp c.in-NoRoom.is c.write-in-NoRoom.ensures.writes

pub returns-in-NoSuchNumber-clause-writes : goal.returns-in-NoSuchNumber-clause-writes
unfolding digits
returns-in-NoSuchNumber-clause-writes g c = simp c.in-NoSuchNumber.is c.write-in-NoSuchNumber.ensures.writes

pub returns-in-ShortBuffer-clause-writes : goal.returns-in-ShortBuffer-clause-writes
unfolding digits
returns-in-ShortBuffer-clause-writes g c = simp c.in-ShortBuffer.is c.write-in-ShortBuffer.ensures.writes

pub returns-in-Ruined-clause-writes : goal.returns-in-Ruined-clause-writes
unfolding digits
returns-in-Ruined-clause-writes g c = simp c.in-Ruined.is c.write-in-Ruined.ensures.writes

pub returns-in-NoColumn-clause-writes : goal.returns-in-NoColumn-clause-writes
unfolding digits
returns-in-NoColumn-clause-writes g c = simp c.in-NoColumn.is c.write-in-NoColumn.ensures.writes

pub returns-in-Unlawful-clause-writes : goal.returns-in-Unlawful-clause-writes
unfolding digits
returns-in-Unlawful-clause-writes g c = simp c.in-Unlawful.is c.write-in-Unlawful.ensures.writes

pub returns-in-TooManyMissing-clause-writes : goal.returns-in-TooManyMissing-clause-writes
unfolding digits
returns-in-TooManyMissing-clause-writes g c = simp c.in-TooManyMissing.is c.write-in-TooManyMissing.ensures.writes
