-- One round of an image: the ticks from one stand at the loop head, the program counter 0, to the next.
use Rattle.std.specs.Prelude.{◌≡◌, ◌≢◌, ℕ, ◌<◌, List, drop, All}
use Rattle.std.specs.List.{range_with_len}
use Rattle.asm_names.specs.declared.program.Resolved.{Resolved}
use Rattle.asm_ranges.specs.Values.{State}
use Rattle.bound_count.specs.declared.numbers.Numbers.{Numbers}
use Rattle.rv_machine.specs.Hart.{HartState}
use Rattle.rv_machine.specs.Run.{after, events, ports_taken, words_sent}
use Rattle.rv_machine.specs.Tick.{Trapped}
use Rattle.state_layout.specs.Map.{Placement, decoded}
use Rattle.update_sets.specs.Steps.{Step, StepLeast}
use Rattle.round_spec.specs.Ports.{input_count, inputs_taken, words_for}

-- what was compiled: the words of ROM and of its written part, the map of RAM, and the bounds
pub record Compiled : Type 0 where
  pub rom : List ℕ
  pub written : List ℕ
  pub map : Placement
  pub needs : Numbers

-- the state that the RAM of a hart holds
abbrev pub state_of : Compiled → HartState → State
state_of built m = decoded built.map m.ram

-- the t ticks from m to m' are one round
pub record Round (program : Resolved) (built : Compiled) (readings : List ℕ) (m : HartState) (t : ℕ) (m' : HartState) : Type 0 where
  -- it goes from the head to the head, and not over it
  pub starts : m.pc ≡ 0
  pub lasts : 0 < t
  pub arrives : after built.rom t readings m ≡ m'
  pub ends : m'.pc ≡ 0
  pub away : (s : ℕ) → 0 < s → s < t → (after built.rom s readings m).pc ≢ 0
  -- no tick traps, and each input port is read once, in order
  pub untrapped : All (λ e. e ≢ Trapped) (events built.rom t readings m)
  pub taken : ports_taken (events built.rom t readings m) ≡ range_with_len 0 (input_count program)
  -- it makes a step of the program on the state that RAM holds, with the inputs that were read
  pub step : Step program (state_of built m) (inputs_taken program readings) (state_of built m')
  -- it sends the outputs of the new state, and no other words
  pub sent : words_sent (events built.rom t readings m) ≡ words_for program (state_of built m')
  -- the bytes that the image has no need of are left as they were
  pub kept : drop built.needs.ram m'.ram ≡ drop built.needs.ram m.ram

-- of a round from m to m': its step is that of the least choices
pub record IsLeastRound (program : Resolved) (built : Compiled) (readings : List ℕ) (m m' : HartState) : Type 0 where
  pub least : StepLeast program (state_of built m) (inputs_taken program readings) (state_of built m')
