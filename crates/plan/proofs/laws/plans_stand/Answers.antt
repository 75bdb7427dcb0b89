-- Plans keep their bounds. Assumes nothing.
use Rattle.plan.proofs.Following.{plan_laid}
use Rattle.plan.proofs.Sized.{entities_sized, ends_add_up}
use Rattle.plan.proofs.FieldBytes.{fields_proper}
use Rattle.plan.proofs.PageNumbers.{page_numbers, entities_numbered}
use Rattle.plan.proofs.laws.plans_stand.Goals as goal

pub returns : goal.returns
returns c = record {
  laid = plan_laid;
  sized = entities_sized;
  proper = fields_proper;
  ends = ends_add_up;
  pages = page_numbers;
  entities = entities_numbered;
}
