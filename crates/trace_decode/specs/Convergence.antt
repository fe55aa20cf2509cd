-- Sources that converge: after some steps each state is legal, and it stays so.
use Rattle.std.specs.Prelude.{◌≡◌, ℕ, zero, suc, List, ◌++◌, true, Some, drop}
use Rattle.std.specs.List.{AllByRecursion}
use Rattle.asm_names.specs.declared.program.Resolved.{Resolved}
use Rattle.asm_names.specs.declared.resolved_term.ResolvedTerm.{ResolvedTerm}
use Rattle.asm_ranges.specs.Values.{Inputs, State}
use Rattle.fault_script.specs.Faults.{AreEvents}
use Rattle.fault_script.specs.declared.event.Event.{Event}
use Rattle.round_spec.specs.Round.{Compiled, state_of}
use Rattle.state_space.specs.Codomains.{LocationsFit}
use Rattle.state_space.specs.Locations.{input_locations, signatures_of, state_locations}
use Rattle.update_sets.specs.Legal.{legal_of}
use Rattle.update_sets.specs.Steps.{Step}
use Rattle.trace_decode.specs.Play.{AtHead, Cause, Mark, Standing, marks}

-- each state location, and each input location, has a value of its codomain
abbrev pub IsState : Resolved → State → Type 0
IsState program state = LocationsFit (signatures_of program) (state_locations (signatures_of program)) state

abbrev pub AreInputs : Resolved → Inputs → Type 0
AreInputs program inputs = LocationsFit (signatures_of program) (input_locations (signatures_of program)) inputs

-- the program says of the state that it is legal
abbrev pub IsLegal : Resolved → State → Type 0
IsLegal program state = legal_of program state ≡ Some true

-- k steps, each under any inputs
abbrev pub AreSteps : Resolved → ℕ → State → State → Type 0
AreSteps program zero state next = state ≡ next
AreSteps program (suc k) state next = (middle : State) × (inputs : Inputs) × AreInputs program inputs × Step program state inputs middle × AreSteps program k middle next

-- The program says which states are legal; k steps from any state end in a legal one, and a step from a legal state ends in one.
pub record Converges (program : Resolved) (k : ℕ) : Type 0 where
  pub term : ResolvedTerm
  pub told : program.legal ≡ Some term
  pub reached : (state next : State) → IsState program state → AreSteps program k state next → IsLegal program next
  pub kept : (state next : State) (inputs : Inputs) → IsState program state → IsLegal program state → AreInputs program inputs → Step program state inputs next
      → IsLegal program next

abbrev pub IsHeadCause : Cause → Type 0
IsHeadCause AtHead = Unit {0}
IsHeadCause _ = ⊥

-- a head line
abbrev pub IsHead : Mark → Type 0
IsHead mark = IsHeadCause mark.cause

-- the state of the line is legal, and is marked so
abbrev pub IsMarkedLegal : Resolved → Compiled → Mark → Type 0
IsMarkedLegal program built mark = IsLegal program (state_of built mark.at.hart)

-- of head lines with no fault between them, the k-th behind the first and all later ones are marked as legal
abbrev pub BecomesLegal : ℕ → Resolved → Compiled → Standing → Type 0
BecomesLegal size program built start =
    (k : ℕ) → Converges program k → (events : List Event) → AreEvents size events → (before stretch later : List Mark)
    → marks built.rom events start ≡ before ++ (stretch ++ later) → AllByRecursion IsHead stretch → AllByRecursion (IsMarkedLegal program built) (drop k stretch)
