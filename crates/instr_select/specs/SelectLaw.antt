-- What holds of the code of terms.
use Rattle.std.specs.Prelude.{◌≡◌, ◌<◌, ◌≤◌, ℕ, ◌+◌, ◌^◌, ℤ, false, true, List, length, map, slice_get, is_some, Some}
use Rattle.std.specs.List.{AllByRecursion}
use Rattle.asm_names.specs.{WellFormed.{IsDomain, IsFun}, declared.{program.Resolved.{Resolved}, resolved_term.ResolvedTerm.{ResolvedTerm}}}
use Rattle.state_space.specs.{declared.signature.Signature.{Signature}, Locations.{signatures_of}, Sizes.{fits, padded_count}}
use Rattle.asm_ranges.specs.{Ranges.{EnvFits, ReadsFit, Scope, TablesFit}, Values.{defined, value}}
use Rattle.block_code.specs.Block.{IsBlock}
use Rattle.block_code.specs.Effect.{Does, Holds, reg_at}
use Rattle.block_code.specs.Leads.{IsEntered, KeepsRegs, Leads}
use Rattle.block_code.specs.Moment.{Moment}
use Rattle.block_code.specs.Plan.{full, len}
use Rattle.block_code.specs.Silent.{IsSilent, IsStorelessPlan, Respects}
use Rattle.state_layout.specs.Map.{Placement, decoded, map_end}
use Rattle.mask_guard.specs.Mask.{word_of}
use Rattle.bound_count.specs.TermWeights.{arguments_registers, term_registers, term_weight}
use Rattle.state_layout.specs.Inputs.{HoldsInputs}
use Rattle.instr_select.specs.{Binders.{binder_domain}, Held.{HoldsBinders, HoldsTables}, Short.{is_short}, Terms.{binders_below, index_plan, is_static, term_plan}}

-- a program whose map is this one: its domains are small, the state and the inputs take no more room than they may, and loops are over domains that are there
pub record IsMapped (program : Resolved) (placement : Placement) : Type 0 where
  pub signatures : placement.signatures ≡ signatures_of program
  pub room : fits placement.signatures ≡ true
  pub domains : AllByRecursion IsDomain program.domains
  pub funs : AllByRecursion (IsFun program.domains) program.funs
  pub loops : (binder domain : ℕ) → binder_domain program.rule binder ≡ Some domain → domain < length program.domains

-- RAM holds the inputs and the values of the binders in scope, ROM holds the tables, and all that is read lies in its domain
pub record IsHeld (rom : List ℕ) (size : ℕ) (program : Resolved) (placement : Placement) (tables : ℕ) (ram : List ℕ) (inputs env : List ℤ) (scope : Scope) : Type 0 where
  pub inside : map_end placement program.binders ≤ size
  pub kept : HoldsInputs placement ram inputs
  pub slots : HoldsBinders program placement ram scope env
  pub words : HoldsTables rom program placement tables
  pub reads : ReadsFit program (decoded placement ram) inputs
  pub bound : EnvFits scope env
  pub few : (binder : ℕ) → is_some (scope binder) ≡ true → binder < program.binders

-- a register holds a value, the registers from x5 below it are as they were, and so is RAM
pub record HasValue (register : ℕ) (value : ℤ) (s s' : Moment) : Type 0 where
  pub holds : reg_at register s' ≡ word_of value
  pub kept : KeepsRegs 5 register s s'
  pub ram : s'.hart.ram ≡ s.hart.ram

-- the code of a term leaves its value on the state that RAM holds, where the term is defined there and its ranges are of 32 signed bits
abbrev pub TermsLeaveValues : Type 0
TermsLeaveValues =
    (rom : List ℕ) (size : ℕ) (program : Resolved) (placement : Placement) (tables : ℕ) (ram : List ℕ) (inputs env : List ℤ) (scope : Scope) (term : ResolvedTerm)
    → IsMapped program placement → IsHeld rom size program placement tables ram inputs env scope
    → defined program (decoded placement ram) inputs env term ≡ true → is_short (signatures_of program) scope term ≡ true
    → (register address : ℕ) (s : Moment) → 5 ≤ register → register + term_registers term ≤ 21 → IsEntered rom size address (term_plan program placement tables term register) s → s.hart.ram ≡ ram
    → Leads rom size address (term_plan program placement tables term register) (HasValue register (value program (decoded placement ram) inputs env term) s) s

-- the code of a term is a block of lines that store nothing, without loops and scans, and it and its ticks are within the term's weight
pub record IsTermBlock (program : Resolved) (placement : Placement) (tables : ℕ) (term : ResolvedTerm) (register : ℕ) : Type 0 where
  pub block : IsBlock (term_plan program placement tables term register)
  pub holds : (size : ℕ) → Holds size (term_plan program placement tables term register)
  pub storeless : IsStorelessPlan (term_plan program placement tables term register)
  pub words : len (term_plan program placement tables term register) ≤ term_weight term
  pub ticks : full (term_plan program placement tables term register) ≤ term_weight term
  -- from every valid hart, the registers from x5 below the term's are as they were, where it leaves and where it traps
  pub kept : Respects (KeepsRegs 5 register) (term_plan program placement tables term register)

abbrev pub TermsAreBlocks : Type 0
TermsAreBlocks = (program : Resolved) (placement : Placement) (tables : ℕ) (term : ResolvedTerm) (register : ℕ) → register ≤ 21 → IsTermBlock program placement tables term register

-- from every valid hart the code of a term takes no reading and sends nothing, where the map lies in a RAM, and the term has no binder but the program's
abbrev pub TermsAreSilent : Type 0
TermsAreSilent =
    (program : Resolved) (placement : Placement) (tables : ℕ) (term : ResolvedTerm) → IsMapped program placement → map_end placement program.binders ≤ 2 ^ 20
    → binders_below program.binders term ≡ true → (register : ℕ) → 5 ≤ register → register + term_registers term ≤ 21 → IsSilent (term_plan program placement tables term register)

-- from every valid hart the code of the index of arguments leaves a number below the function's padded size, whatever the arguments are
abbrev pub IndicesStayInside : Type 0
IndicesStayInside =
    (rom : List ℕ) (size : ℕ) (program : Resolved) (placement : Placement) (tables : ℕ) (fun : ℕ) (signature : Signature) (args : List ResolvedTerm) → IsMapped program placement
    → slice_get placement.signatures fun ≡ Some signature → is_static signature.kind ≡ false → (register address : ℕ) (s s' : Moment) → 5 ≤ register
    → register + arguments_registers 0 (map term_registers args) ≤ 21 → IsEntered rom size address (index_plan signature.args (map (term_plan program placement tables) args) register) s
    → Does rom address (index_plan signature.args (map (term_plan program placement tables) args) register) s s' → reg_at register s' < padded_count signature.args

-- whatever RAM holds, the state that it holds and the inputs that its kept words decode to lie in their codomains
abbrev pub HeldValuesFit : Type 0
HeldValuesFit =
    (program : Resolved) (placement : Placement) (ram : List ℕ) (inputs : List ℤ) → IsMapped program placement → TablesFit program → HoldsInputs placement ram inputs
    → ReadsFit program (decoded placement ram) inputs
