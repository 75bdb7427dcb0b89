-- The pages of a plan give its objects back. Assumes nothing.
use Rattle.plan.proofs.MapBytes.{map_reads_back}
use Rattle.plan.proofs.Following.{following_undoes_packing}
use Rattle.plan.proofs.ByEntity.{following_by_entity, following_counts}
use Rattle.plan.proofs.laws.pages_follow.Goals as goal

pub returns : goal.returns
returns c = record {
  maps = map_reads_back;
  objects = following_undoes_packing;
  entities = following_by_entity;
  counts = following_counts;
}
