use Rattle.std.proofs.Common.{arith}
use Rattle.stab_io.proofs.Moved.{took_more, took_within}
use Rattle.stab_io.proofs.transfer.read_all.Goals as goal

pub returns-then-count-limit-clause-too_long : goal.returns-then-count-limit-clause-too_long
returns-then-count-limit-clause-too_long g c =
    λ _. took_more _ _ _ _ _ _ _ c.loop-bytes.invariant.whole c.loop-bytes.invariant.within c.in_ok-count.ensures.bound.0 (omega arith) c.in_ok-count.ensures.bytes.0

pub returns-in_err-extend_from_slice-clause-no_memory_within : goal.returns-in_err-extend_from_slice-clause-no_memory_within
returns-in_err-extend_from_slice-clause-no_memory_within g c =
    λ _. took_within _ _ _ _ _ _ _ c.loop-bytes.invariant.whole c.loop-bytes.invariant.within c.in_ok-count.ensures.bound.0 (omega arith) c.in_ok-count.ensures.bytes.0
