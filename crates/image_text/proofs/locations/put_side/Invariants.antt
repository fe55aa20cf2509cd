use Rattle.std.proofs.Common.{◌≡◌, ◌++◌, drop}
use Rattle.std.specs.Io.{StartsWith}
use Rattle.state_space.specs.Firsts.{before}
use Rattle.state_space.specs.Kinds.{of_side}
use Rattle.state_space.specs.Locations.{located}
use Rattle.text_core.specs.WrittenLines.{lines_text}
use Rattle.image_text.specs.Report.{numbered, side_line}
use Rattle.image_text.proofs.locations.put_side.Given as goal

abbrev pub invariant-loop-fun : goal.invariant-loop-fun
invariant-loop-fun l =
    (l.out.items ++ lines_text (numbered (side_line l.side l.program l.map) l.first (located (of_side l.side) l.fun (drop l.fun l.map.signatures)))
    ≡ l.initial.out.items ++ lines_text (numbered (side_line l.side l.program l.map) 0 (located (of_side l.side) 0 l.map.signatures)))
    × (l.first ≡ before (of_side l.side) l.map.signatures l.fun)
    × StartsWith l.out.items l.initial.out.items
