-- The programs, maps and terms that code can be written for.
use Rattle.std.specs.Prelude.{◌≡◌, ◌≤◌, ◌<◌, ℕ, ◌+◌, ◌^◌, ℤ, true, List, map}
use Rattle.std.specs.List.{list_all}
use Rattle.asm_names.specs.declared.{program.Resolved.{Resolved}, resolved_term.ResolvedTerm.{ResolvedTerm}}
use Rattle.state_space.specs.{declared.signature.Range.{Range}, Locations.{signatures_of}}
use Rattle.asm_ranges.specs.{Ranges.{Scope}, Values.{defined, lie_in, value}}
use Rattle.block_code.specs.{Effect.{Does, reg_at}, Leads.{IsEntered, Leads}, Moment.{Moment}, Plan.{Plan}}
use Rattle.state_layout.specs.Map.{Placement, decoded, map_end, padded_index}
use Rattle.bound_count.specs.TermWeights.{arguments_registers, arguments_weight, term_registers, term_weight}
use Rattle.instr_select.specs.{FitLaw.{short_numbers}, SelectLaw.{HasValue, IsHeld, IsMapped}, Short.{is_short}, Terms.{binders_below}}

-- a program and its map, whose arrays and slots lie in a RAM
pub record IsReady (program : Resolved) (placement : Placement) : Type 0 where
  pub mapped : IsMapped program placement
  pub small : map_end placement program.binders ≤ 2 ^ 20

-- a term with no binder but the program's, whose numbers are words and for whose registers there is room
pub record IsWritable (program : Resolved) (term : ResolvedTerm) (register : ℕ) : Type 0 where
  pub below : binders_below program.binders term ≡ true
  pub short : short_numbers term ≡ true
  pub registers : register + term_registers term ≤ 21

-- arguments that are such terms, where so many registers are taken before them
pub record AreWritable (program : Resolved) (args : List ResolvedTerm) (taken register : ℕ) : Type 0 where
  pub below : list_all (λ below. below) (map (binders_below program.binders) args) ≡ true
  pub short : list_all (λ short. short) (map short_numbers args) ≡ true
  pub registers : register + arguments_registers taken (map term_registers args) ≤ 21

-- how many words the code of their index may take, and how many ticks
abbrev pub index_weight : List ResolvedTerm → ℕ
index_weight args = 2 + arguments_weight (map term_weight args)

-- entered where RAM and ROM hold what the term speaks of, the code leads to where the register has the term's value, if the term is defined there
-- and its ranges are of 32 signed bits
abbrev pub LeavesValue : Resolved → Placement → (tables : ℕ) → ResolvedTerm → (register : ℕ) → Plan → Type 0
LeavesValue program placement tables term register tree =
    (rom : List ℕ) (size address : ℕ) (s : Moment) (inputs env : List ℤ) (scope : Scope) → IsHeld rom size program placement tables s.hart.ram inputs env scope
    → defined program (decoded placement s.hart.ram) inputs env term ≡ true → is_short (signatures_of program) scope term ≡ true → IsEntered rom size address tree s
    → Leads rom size address tree (HasValue register (value program (decoded placement s.hart.ram) inputs env term) s) s

-- entered where RAM and ROM hold what the arguments speak of, the code leads to where the register has the padded index of the arguments' values, and RAM is
-- as it was, if each argument is defined there and lies in its domain, and its ranges are of 32 signed bits
abbrev pub LeavesIndex : Resolved → Placement → (tables : ℕ) → List Range → List ResolvedTerm → (register : ℕ) → Plan → Type 0
LeavesIndex program placement tables ranges args register tree =
    (rom : List ℕ) (size address : ℕ) (s : Moment) (inputs env : List ℤ) (scope : Scope) → IsHeld rom size program placement tables s.hart.ram inputs env scope
    → list_all (defined program (decoded placement s.hart.ram) inputs env) args ≡ true → list_all (is_short (signatures_of program) scope) args ≡ true
    → lie_in ranges (map (value program (decoded placement s.hart.ram) inputs env) args) ≡ true → IsEntered rom size address tree s
    → Leads rom size address tree
    (λ s'. (s'.hart.ram ≡ s.hart.ram) × (reg_at register s' ≡ padded_index ranges (map (value program (decoded placement s.hart.ram) inputs env) args))) s

-- from every valid hart, the code leaves in the register a number below this one
abbrev pub LeavesBelow : (register bound : ℕ) → Plan → Type 0
LeavesBelow register bound tree =
    (rom : List ℕ) (size address : ℕ) (s s' : Moment) → IsEntered rom size address tree s → Does rom address tree s s' → reg_at register s' < bound
