-- The pairs that are left, and what is behind them, give the EDC. Assumes nothing.
use Rattle.std.proofs.Common.{◌≡◌, ◌++◌, drop}
use Rattle.bits.proofs.Chunks.{joined}
use Rattle.block.specs.Edc.{words, edc_words, edc}
use Rattle.block.proofs.edc.edc_of.Given as goal

abbrev pub invariant-loop-low : goal.invariant-loop-low
invariant-loop-low l = edc_words l.sum (words (joined (drop l.low-index l.pairs) ++ l.last)) ≡ edc l.bytes
