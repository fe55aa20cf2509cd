use Rattle.std.proofs.Common.{◌≡◌, ◌+◌, ◌≤◌, ◌++◌, drop, length, map}
use Rattle.std.specs.Io.{StartsWith}
use Rattle.text_core.specs.Room.{room_of}
use Rattle.text_core.specs.WrittenLines.{parted}
use Rattle.text_core.specs.WrittenPieces.{text_of}
use Rattle.text_core.proofs.Parted.{behind}
use Rattle.text_core.proofs.writing.put_parted.Given as goal

abbrev pub invariant-loop-index : goal.invariant-loop-index
invariant-loop-index l = record {
  text : l.out.items ++ behind l.separator l.index (map text_of (drop l.index l.pieces)) ≡ l.initial.out.items ++ parted l.separator (map text_of l.pieces);
  front : StartsWith l.out.items l.initial.out.items;
  room : room_of l.initial.out + length l.initial.out.items ≤ room_of l.out + length l.out.items;
}
