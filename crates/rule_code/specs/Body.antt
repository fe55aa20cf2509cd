-- What the code of a round does.
use Rattle.std.specs.Prelude.{◌≡◌, ◌≤◌, true, ◌++◌, drop, length}
use Rattle.asm_names.specs.declared.program.Resolved.{Resolved}
use Rattle.asm_ranges.specs.Ranges.{TablesFit, unscoped}
use Rattle.state_space.specs.Firing.{fired}
use Rattle.block_code.specs.{Leads.{IsSameOutside}, Moment.{Moment}}
use Rattle.state_layout.specs.Map.{Placement, decoded, input_cells}
use Rattle.staged_commit.specs.{Code.{output_cells}, Ports.{sends, took, values_read}}
use Rattle.update_sets.specs.Steps.{unbound}
use Rattle.rule_expand.specs.declared.flat.Flat.{Flat}
use Rattle.rule_expand.specs.{FlatDefined.{MeetsDefined}, FlatUpdates.{flat_updates}, FlatWeights.{flat_registers}}
use Rattle.rule_code.specs.{Short.{flat_short}, Within.{in_map}}

-- a rule that code can be written for: its terms are short, all that is met is defined, and registers and ports suffice
pub record IsWritable (program : Resolved) (placement : Placement) (flat : Flat) : Type 0 where
  pub short : flat_short program flat unscoped ≡ true
  pub met : MeetsDefined program flat
  pub registers : flat_registers flat ≤ 16
  pub inputs : length (input_cells placement) ≤ 256
  pub outputs : length (output_cells placement.signatures) ≤ 256
  pub tables : TablesFit program

-- from s to e a round is made: the inputs are read, the rule's updates are fired, and the outputs of the new state are sent
pub record MakesRound (program : Resolved) (placement : Placement) (flat : Flat) (s e : Moment) : Type 0 where
  pub fires : decoded placement e.hart.ram ≡ fired (decoded placement s.hart.ram)
      (flat_updates program (decoded placement s.hart.ram) (values_read placement (input_cells placement) s.readings) flat (unbound program))
  pub log : e.log ≡ s.log ++ (took 0 (length (input_cells placement)) ++ sends placement e.hart.ram 0 (output_cells placement.signatures))
  pub readings : e.readings ≡ drop (length (input_cells placement)) s.readings
  pub outside : IsSameOutside (in_map placement program.binders) s e
