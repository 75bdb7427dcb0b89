-- Both codes are lawful, and their right columns have zero sums. Assumes nothing.
use Rattle.codes.specs.TwoCodes.{parity, four_check}
use Rattle.codes.specs.Solutions.{lawful, sums_make_right}
use Rattle.codes.specs.BothSolve.{parity_solves, four_solves}
use Rattle.codes.proofs.laws.codes_stand.Goals as goal

pub returns : goal.returns
returns c = record {
  lawful = (lawful parity parity_solves, lawful four_check four_solves);
  one = sums_make_right parity parity_solves;
  four = sums_make_right four_check four_solves;
}
