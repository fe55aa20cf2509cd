use Rattle.std.proofs.Common.{◌-◌, ◌<◌, ◌≤◌, length, slice_index_or}
use Rattle.state_space.proofs.number.function_of.Given as goal

abbrev pub invariant-loop-low : goal.invariant-loop-low
invariant-loop-low l =
    (l.low < l.high) × (l.high < length l.firsts) × (slice_index_or l.firsts l.low 0 ≤ l.place) × (l.place < slice_index_or l.firsts l.high 0)

abbrev pub decreases-loop-low : goal.decreases-loop-low
decreases-loop-low l = l.high - l.low
