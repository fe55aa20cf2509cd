-- What is read and sent in a round.
use Rattle.std.specs.Prelude.{ℕ, zero, suc, ◌+◌, ℤ, List, [], ◌∷◌, drop, true, false}
use Rattle.rv_machine.specs.Run.{offered}
use Rattle.rv_machine.specs.Tick.{Event, Sent, Took}
use Rattle.block_code.specs.Footprint.{Footprint}
use Rattle.mask_guard.specs.Mask.{word_of}
use Rattle.state_layout.specs.declared.cell.Cell.{Cell}
use Rattle.state_layout.specs.Map.{Placement, entry_at, in_kept, value_at, value_of}

-- so many ports are read, from this one on
abbrev pub took : (port count : ℕ) → List Event
took port zero = []
took port (suc count) = Took port ∷ took (port + 1) count

-- the values that the next readings stand for, at these input cells in order
abbrev pub values_read : Placement → List Cell → List ℕ → List ℤ
values_read placement [] readings = []
values_read placement (cell ∷ cells) readings = value_of (entry_at placement cell) (offered readings) ∷ values_read placement cells (drop 1 readings)

-- the values of these cells are sent, the first to this port
abbrev pub sends : Placement → List ℕ → (port : ℕ) → List Cell → List Event
sends placement ram port [] = []
sends placement ram port (cell ∷ cells) = Sent port (word_of (value_at ram (entry_at placement cell))) ∷ sends placement ram (port + 1) cells

-- reading stores in the kept words and takes readings
abbrev pub reading : Placement → Footprint
reading placement = record { region = in_kept placement; takes = true; sends = false }

-- sending sends words alone
abbrev pub sending : Footprint
sending = record { region = λ o. false; takes = false; sends = true }
