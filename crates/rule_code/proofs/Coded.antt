-- Maps of programs that fit their machine are coded.
use Rattle.std.proofs.Common.{arith}
use Rattle.bound_count.proofs.MapEnds.{maps-end-inside}
use Rattle.rule_code.specs.CodedLaw.{PlacedMapsAreCoded}

pub placed-maps-are-coded : PlacedMapsAreCoded
placed-maps-are-coded layout program is few = record { placed = is; small = let end = maps-end-inside layout program in omega (arith, end, few) }
