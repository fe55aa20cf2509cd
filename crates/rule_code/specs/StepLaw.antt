-- What the code of a round does by itself, whatever stands in ROM behind it.
use Rattle.std.specs.Prelude.{◌≡◌, ◌≢◌, ℕ, ◌+◌, ◌*◌, ◌≤◌, List, drop, All}
use Rattle.std.specs.List.{range_with_len}
use Rattle.asm_names.specs.declared.program.Resolved.{Resolved}
use Rattle.rv_machine.specs.{Code.{Stands}, Hart.{HartState, IsValid}, Run.{after, events, ports_taken, words_sent}, Tick.{Trapped}}
use Rattle.state_space.specs.{Locations.{is_static, signatures_of}, Sizes.{padded_sum}}
use Rattle.block_code.specs.{Place.{IsMachine}, Plan.{Plan, code, full, len}}
use Rattle.state_layout.specs.{Map.{Placement, decoded, map_end}, declared.layout.Layout.{Layout}}
use Rattle.bound_count.specs.declared.numbers.Numbers.{Numbers}
use Rattle.update_sets.specs.Steps.{StepLeast}
use Rattle.instr_select.specs.Held.{HoldsTables}
use Rattle.rule_expand.specs.declared.flat.Flat.{Flat}
use Rattle.round_spec.specs.Ports.{input_count, inputs_taken, words_for}
use Rattle.rule_code.specs.{Code.{body_plan}, Image.{IsExpanded, IsFitted}}

-- In so many ticks, none of which traps, it is left behind its last word. Each input port is read once, in order; RAM then holds what the
-- step of the least choices makes of the state that it held, with the inputs that were read; the outputs of the new state are sent, and no
-- other words; and RAM behind the map is as it was.
pub record RunsStep (program : Resolved) (placement : Placement) (tree : Plan) (rom readings : List ℕ) (m : HartState) : Type 0 where
  pub ticks : ℕ
  pub soon : ticks ≤ full tree
  pub leaves : (after rom ticks readings m).pc ≡ 4 * len tree
  pub untrapped : All (λ e. e ≢ Trapped) (events rom ticks readings m)
  pub taken : ports_taken (events rom ticks readings m) ≡ range_with_len 0 (input_count program)
  pub step : StepLeast program (decoded placement m.ram) (inputs_taken program readings) (decoded placement (after rom ticks readings m).ram)
  pub sent : words_sent (events rom ticks readings m) ≡ words_for program (decoded placement (after rom ticks readings m).ram)
  pub kept : (n : ℕ) → map_end placement program.binders ≤ n → drop n (after rom ticks readings m).ram ≡ drop n m.ram

-- with the jump behind it, the code is within the words and the ticks of a round
abbrev pub RoundCodeFits : Type 0
RoundCodeFits =
    (rom_size ram_size : ℕ) (layout : Layout) (program : Resolved) (placement : Placement) (needs : Numbers) → IsFitted rom_size ram_size layout program placement needs
    → (flat : Flat) → IsExpanded program flat → (tables : ℕ)
    → (full (body_plan program placement tables flat) + 1 ≤ needs.round)
    × (len (body_plan program placement tables flat) + 1 + padded_sum is_static (signatures_of program) ≤ needs.rom)

-- from every valid hart at address 0, where it stands there, and the tables stand at theirs
abbrev pub RoundCodeRunsSteps : Type 0
RoundCodeRunsSteps =
    (rom_size ram_size : ℕ) (layout : Layout) (program : Resolved) (placement : Placement) (needs : Numbers) → IsFitted rom_size ram_size layout program placement needs
    → (flat : Flat) → IsExpanded program flat → (tables : ℕ) (rom : List ℕ) → IsMachine rom ram_size → HoldsTables rom program placement tables
    → Stands rom 0 (code (body_plan program placement tables flat)) → (readings : List ℕ) (m : HartState) → IsValid ram_size m → m.pc ≡ 0
    → RunsStep program placement (body_plan program placement tables flat) rom readings m
