-- The entries from the i-th on give the map. Assumes nothing.
use Rattle.std.proofs.Common.{◌≡◌, ◌-◌, length}
use Rattle.pages.specs.Map.{map_from, map_size}
use Rattle.pages.proofs.map.map_size.Given as goal

abbrev pub invariant-loop-i : goal.invariant-loop-i
invariant-loop-i l =
    (goal.iterator-loop-i).can_next l.i-iterator × (goal.iterator-loop-i).is_finite l.i-iterator
    × (map_from (1026 - length l.yielded) l.free (length l.yielded) l.field ≡ map_size l.field)
