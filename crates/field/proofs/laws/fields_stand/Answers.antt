-- The laws of both fields, from one argument. Assumes nothing.
use Rattle.field.specs.TwoFields.{field16, field8, differ16, differ8}
use Rattle.field.proofs.laws.fields_stand.Goals as goal

pub returns : goal.returns
returns c = record { words = field16; bytes = field8; powers = (differ16, differ8) }
