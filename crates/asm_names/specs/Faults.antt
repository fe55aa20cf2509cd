-- Lists of faults, and functions that find the first.
use Rattle.std.specs.Prelude.{◌≡◌, ◌≢◌, ℕ, Bool, true, false, List, [], ◌∷◌, Option, Some, None, Result, Ok, Err}
use Rattle.asm_names.specs.declared.fault.NameFault.{NameFault}
use Rattle.asm_names.specs.declared.fault.NameFault.TheVariants as causes
use Rattle.asm_names.specs.declared.fault.NameEnd.{NameEnd}
use Rattle.asm_names.specs.declared.fault.NameEnd.TheVariants as ends
use Rattle.asm_names.specs.declared.fault.PlacedFault.{PlacedFault}

-- the number by which a fault is reported
abbrev pub code_of : NameFault → ℕ
code_of causes.Unknown = 201
code_of causes.Repeated = 202
code_of causes.Empty = 203
code_of causes.TooLarge = 204
code_of causes.Count = 205
code_of causes.Sort = 206
code_of causes.NotUpdatable = 209
code_of causes.TooManyArguments = 210

-- the number of a token, and what is wrong there
abbrev pub Fault : Type 0
Fault = ℕ × NameFault

-- a fault at a token, where it is one
abbrev pub fault : NameFault → ℕ → Bool → List Fault
fault cause at true = (at, cause) ∷ []
fault cause at false = []

-- what a function that stops at the first fault answers
unfoldable pub first_end : List Fault → Option NameEnd
first_end [] = None
first_end ((token, cause) ∷ others) = Some (ends.Fault cause token)

-- A function answers the first fault, or else, where there is none, a value of which P holds; or memory ran out.
abbrev pub Judges : {T : Type 0} → List Fault → Result T NameEnd → (T → Type 0) → Type 0
Judges faults (Ok value) P = (faults ≡ []) × P value
Judges faults (Err e) P = e ≢ ends.NoMemory → first_end faults ≡ Some e

-- A function that takes no memory answers the first fault, or else, where there is none, a value of which P holds.
abbrev pub Finds : {T : Type 0} → List Fault → Result T PlacedFault → (T → Type 0) → Type 0
Finds faults (Ok value) P = (faults ≡ []) × P value
Finds faults (Err e) P = first_end faults ≡ Some (ends.Fault e.fault e.token)
