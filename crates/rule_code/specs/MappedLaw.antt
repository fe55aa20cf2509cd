-- What the code of terms wants of a program.
use Rattle.std.specs.{Prelude.{◌≡◌, true, List}, List.{AllByRecursion}}
use Rattle.asm_names.specs.declared.program.Resolved.{Resolved}
use Rattle.asm_ranges.specs.Keeping.{IsChecked}
use Rattle.state_space.specs.{declared.signature.Signature.{Signature}, Locations.{signatures_of}, Sizes.{IsSized, fits}}
use Rattle.state_layout.specs.Map.{Placement}
use Rattle.instr_select.specs.{FitLaw.{AreShortSignatures}, SelectLaw.{IsMapped}}

-- code for the terms of a checked program can be written for a map of it, where the state and the inputs take no more room than they may
abbrev pub CheckedProgramsAreMapped : Type 0
CheckedProgramsAreMapped =
    (program : Resolved) (placement : Placement) → IsChecked program → placement.signatures ≡ signatures_of program → fits (signatures_of program) ≡ true → IsMapped program placement

-- the codomains of functions of a program are of 32 signed bits
abbrev pub SizedSignaturesAreShort : Type 0
SizedSignaturesAreShort = (signatures : List Signature) → AllByRecursion IsSized signatures → AreShortSignatures signatures
