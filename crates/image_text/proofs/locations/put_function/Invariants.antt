use Rattle.std.proofs.Common.{◌≡◌, ◌+◌, ◌++◌, drop}
use Rattle.std.specs.Io.{StartsWith}
use Rattle.state_space.specs.Locations.{tuples}
use Rattle.text_core.specs.WrittenLines.{lines_text}
use Rattle.image_text.specs.Report.{numbered, side_line}
use Rattle.image_text.specs.ReportParts.{own_locations}
use Rattle.image_text.proofs.locations.put_function.Given as goal

abbrev pub invariant-loop-tuple : goal.invariant-loop-tuple
invariant-loop-tuple l =
    (l.out.items ++ lines_text (numbered (side_line l.side l.program l.map) l.number (own_locations l.fun (drop l.tuple (tuples l.signature.args))))
    ≡ l.initial.out.items ++ lines_text (numbered (side_line l.side l.program l.map) l.first (own_locations l.fun (tuples l.signature.args))))
    × (l.number ≡ l.first + l.tuple)
    × StartsWith l.out.items l.initial.out.items
