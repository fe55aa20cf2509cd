-- What the pieces of a round do.
use Rattle.std.specs.Prelude.{◌≡◌, ℕ, ◌+◌, ◌*◌, ◌^◌, ◌≤◌, List, [], ◌∷◌, ◌++◌, drop, length, slice_get, true, Some, FitsSigned}
use Rattle.std.specs.Int.{w32}
use Rattle.block_code.specs.Effect.{reg_at}
use Rattle.block_code.specs.Footprint.{LinesTouchOnly, only_in}
use Rattle.block_code.specs.Leads.{IsEntered, Leads}
use Rattle.block_code.specs.Moment.{Moment}
use Rattle.block_code.specs.Plan.{Plan, len}
use Rattle.mask_guard.specs.Mask.{word_of}
use Rattle.state_space.specs.Firing.{fired}
use Rattle.state_space.specs.Locations.{is_state}
use Rattle.state_space.specs.declared.signature.Signature.{Signature}
use Rattle.state_space.specs.declared.update.Update.{Update}
use Rattle.state_layout.specs.Map.{Placement, decoded, input_cells, kept_end}
use Rattle.state_layout.specs.MapLaw.{IsPlaced}
use Rattle.state_layout.specs.Inputs.{HoldsInputs}
use Rattle.staged_commit.specs.Code.{first, output_cells, padded_at, second}
use Rattle.staged_commit.specs.Ports.{sends, took, values_read}
use Rattle.staged_commit.specs.Regions.{in_stage}
use Rattle.staged_commit.specs.Staged.{IsUpdateOf, Staged}

-- how much RAM the arrays, the clash mark and the counter word take
abbrev pub need : Placement → ℕ
need placement = kept_end placement + 8

-- a map that code can be written for: what is placed lies at offsets of RAM
pub record IsCoded (placement : Placement) : Type 0 where
  pub placed : IsPlaced placement
  pub small : need placement ≤ 2 ^ 20

-- the block leads from every hart to where nothing is staged, if RAM is large enough
abbrev pub Clears : Placement → Plan → Type 0
Clears placement tree =
    (rom : List ℕ) (size address : ℕ) (s : Moment) → IsEntered rom size address tree s → need placement ≤ size
    → Leads rom size address tree (λ s'. Staged placement s'.hart.ram []) s

-- the block leads from where updates are staged to where they are fired
abbrev pub Commits : Placement → Plan → Type 0
Commits placement tree =
    (rom : List ℕ) (size address : ℕ) (s : Moment) (updates : List Update) → IsEntered rom size address tree s → need placement ≤ size → Staged placement s.hart.ram updates
    → Leads rom size address tree (λ s'. decoded placement s'.hart.ram ≡ fired (decoded placement s.hart.ram) updates) s

-- from every hart, whatever RAM holds, the block is left behind its last word without a trap, if RAM is large enough
abbrev pub GoesThrough : Placement → Plan → Type 0
GoesThrough placement tree = (rom : List ℕ) (size address : ℕ) (s : Moment) → IsEntered rom size address tree s → need placement ≤ size → Leads rom size address tree (λ s'. Unit {0}) s

-- the function with this number has its values in the state
pub record HasState (signatures : List Signature) (fun : ℕ) : Type 0 where
  pub signature : Signature
  pub here : slice_get signatures fun ≡ Some signature
  pub held : is_state signature.kind ≡ true

-- The block stages an update of the function beside those that are staged, if the first part leads to the padded index of the
-- location in register 5, the second to the value in register 6 with register 5 as it was, and both leave RAM as it was.
abbrev pub Stages : Placement → (fun : ℕ) → (address value tree : Plan) → Type 0
Stages placement fun address value tree =
    (rom : List ℕ) (size at : ℕ) (s : Moment) (updates : List Update) (u : Update) (index x : ℕ) → IsEntered rom size at tree s → need placement ≤ size
    → Staged placement s.hart.ram updates → IsUpdateOf placement (record { fun = fun; index = index }) x u → FitsSigned w32 u.value
    → Leads rom size at address (λ m. (m.hart.ram ≡ s.hart.ram) × (reg_at first m ≡ index)) s
    → ((m : Moment) → IsEntered rom size (at + 4 * len address) value m → m.hart.ram ≡ s.hart.ram → reg_at first m ≡ index
    → Leads rom size (at + 4 * len address) value (λ n. (n.hart.ram ≡ s.hart.ram) × (reg_at first n ≡ index) × (reg_at second n ≡ word_of u.value)) m)
    → Leads rom size at tree (λ e. Staged placement e.hart.ram (updates ++ u ∷ [])) s

-- whatever RAM holds, and whatever its parts leave, the block is left behind its last word without a trap, if its parts are
abbrev pub StagesThrough : Placement → (address value tree : Plan) → Type 0
StagesThrough placement address value tree =
    (rom : List ℕ) (size at : ℕ) (s : Moment) → IsEntered rom size at tree s → need placement ≤ size → Leads rom size at address (λ m. Unit {0}) s
    → ((m : Moment) → IsEntered rom size (at + 4 * len address) value m → Leads rom size (at + 4 * len address) value (λ n. Unit {0}) m)
    → Leads rom size at tree (λ e. Unit {0}) s

-- the block touches the function's staged values and flags and the clash mark alone, if its parts touch no more
abbrev pub StagesOnly : Placement → (fun : ℕ) → (address value tree : Plan) → Type 0
StagesOnly placement fun address value tree =
    LinesTouchOnly (only_in (in_stage placement fun (padded_at placement fun))) address → LinesTouchOnly (only_in (in_stage placement fun (padded_at placement fun))) value
    → LinesTouchOnly (only_in (in_stage placement fun (padded_at placement fun))) tree

-- the block sends the value of each output location to its port, in order, and leaves RAM and the readings as they were
abbrev pub SendsOutputs : Placement → Plan → Type 0
SendsOutputs placement tree =
    (rom : List ℕ) (size address : ℕ) (s : Moment) → IsEntered rom size address tree s → need placement ≤ size
    → Leads rom size address tree
    (λ e. (e.log ≡ s.log ++ sends placement s.hart.ram 0 (output_cells placement.signatures)) × (e.readings ≡ s.readings) × (e.hart.ram ≡ s.hart.ram)) s

-- the block reads each input port once, in order, and keeps what was read
abbrev pub ReadsInputs : Placement → Plan → Type 0
ReadsInputs placement tree =
    (rom : List ℕ) (size address : ℕ) (s : Moment) → IsEntered rom size address tree s → need placement ≤ size
    → Leads rom size address tree
    (λ e. (e.log ≡ s.log ++ took 0 (length (input_cells placement))) × (e.readings ≡ drop (length (input_cells placement)) s.readings)
    × HoldsInputs placement e.hart.ram (values_read placement (input_cells placement) s.readings)) s
