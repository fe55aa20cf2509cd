use Rattle.std.proofs.Common.{◌≡◌, ◌-◌, ◌≤◌, ◌++◌, length, drop, map}
use Rattle.std.specs.List.{All}
use Rattle.text_core.specs.Fields.{AreInOrder, IsWithin, fields, piece}
use Rattle.text_core.proofs.InOrder.{last_end}
use Rattle.text_core.proofs.field_reading.fields.Given as goal

abbrev pub invariant-loop-start : goal.invariant-loop-start
invariant-loop-start l = record {
  inside : l.at ≤ length l.line;
  fields : map (piece l.line) l.places.items ++ fields (drop l.at l.line) ≡ fields l.line;
  within : All (IsWithin l.line) l.places.items;
  order : AreInOrder 0 l.places.items;
  last : last_end 0 l.places.items ≡ l.at;
}

abbrev pub decreases-loop-start : goal.decreases-loop-start
decreases-loop-start l = length l.line - l.at
