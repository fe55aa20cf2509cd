-- The lines of a model's section `%run` that give locations their first values.
use Rattle.std.specs.Prelude.{ℕ, ◌+◌, ℤ, pos, neg_ℤ, ◌+ℤ◌, ◌&&◌, Bool, not, ◌==◌, int_lt, List, [], ◌∷◌, length, map, slice_set, Option, Some, None, Result, Ok, Err, bytes_eq, codes, if◌then◌else◌, option_and_then, option_map}
use Rattle.std.specs.List.{position_from}
use Rattle.asm_names.specs.declared.program.Domain.{Domain}
use Rattle.asm_names.specs.declared.program.Resolved.{Resolved}
use Rattle.asm_ranges.specs.Values.{State, fun_of}
use Rattle.asm_tree.specs.Names.{is_name}
use Rattle.state_space.specs.Codomains.{lowest}
use Rattle.state_space.specs.Locations.{location_at, signatures_of, state_locations}
use Rattle.text_core.specs.Numbers.{number_of}
use Rattle.fault_script.specs.Script.{FaultyLine, script_fields}
use Rattle.fault_script.specs.StateText.{domain_of, location_name}
use Rattle.fault_script.specs.declared.script_end.ScriptFault.{ScriptFault}
use Rattle.fault_script.specs.declared.script_end.ScriptFault.TheVariants as script_faults
use Rattle.fault_script.specs.declared.value_reading.Given.{Given}

-- ---- a value

-- a number below 0 stands behind its sign
abbrev pub below_zero : ℕ → Option ℤ
below_zero n = if n == 0 then None else Some (neg_ℤ (pos n))

-- the number that a text spells in decimal, with a sign before it where it is negative
abbrev pub number_spelled : List ℕ → Option ℤ
number_spelled [] = None
number_spelled (c ∷ cs) = if c == 45 then option_and_then below_zero (number_of cs) else option_map (λ n. pos n) (number_of (c ∷ cs))

abbrev pub index_or : Option ℕ → Result ℤ ScriptFault
index_or None = Err script_faults.Range
index_or (Some index) = Ok (pos index)

-- the number of the enumerator with this name, or the fault that there is none
abbrev pub named : List (List ℕ) → List ℕ → Result ℤ ScriptFault
named names text = index_or (position_from (bytes_eq text) 0 names)

-- the value is one of the numbers of a domain
abbrev pub is_number : Domain → ℤ → Bool
is_number domain value = (length domain.items == 0) && (not (int_lt value domain.lo) && int_lt value (domain.lo +ℤ pos domain.size))

abbrev pub numbered : Domain → Option ℤ → Result ℤ ScriptFault
numbered domain None = Err script_faults.Form
numbered domain (Some value) = if is_number domain value then Ok value else Err script_faults.Range

-- the value of a domain that a text spells by a name or in decimal; or the fault of another form, or of a value that the domain lacks
abbrev pub value_given : Domain → List ℕ → Result ℤ ScriptFault
value_given domain text = if is_name text then named domain.items text else numbered domain (number_spelled text)

-- ---- a location

-- the number of the state location that is spelled so
abbrev pub place_named : Resolved → List ℕ → Option ℕ
place_named program text = position_from (bytes_eq text) 0 (map (location_name program) (state_locations (signatures_of program)))

-- the domain of the values of the location with a number
abbrev pub codomain_at : Resolved → ℕ → Domain
codomain_at program place = domain_of program.domains (fun_of program (location_at (signatures_of program) place).fun).codomain

-- ---- lines

abbrev pub valued : ℕ → ℕ → Result ℤ ScriptFault → Result Given FaultyLine
valued line place (Ok value) = Ok (record { place = place; value = value })
valued line place (Err fault) = Err (record { fault = fault; line = line })

abbrev pub given_at : Resolved → ℕ → List ℕ → Option ℕ → Result Given FaultyLine
given_at program line value None = Err (record { fault = script_faults.Form; line = line })
given_at program line value (Some place) = valued line place (value_given (codomain_at program place) value)

-- what a line says behind its first word: another form, or no such location, is the one fault, a value that the codomain lacks the other
abbrev pub given : Resolved → ℕ → List (List ℕ) → Result Given FaultyLine
given program line (location ∷ value ∷ []) = given_at program line value (place_named program location)
given program line _ = Err (record { fault = script_faults.Form; line = line })

-- a state, and the first bad line where there is one
pub record Started : Type 0 where
  pub state : State
  pub fault : Option FaultyLine

-- what a line does to a state, before those behind it
abbrev pub set_by : (State → Started) → State → Option (Result Given FaultyLine) → Started
set_by later state None = later state
set_by later state (Some (Ok g)) = later (slice_set state g.place g.value)
set_by later state (Some (Err e)) = record { state = state; fault = Some e }

-- the state after the lines from the one with this number on, up to the first bad one
abbrev pub values_from : Resolved → ℕ → List (List ℕ) → State → Started
values_from program number [] state = record { state = state; fault = None }
values_from program number (line ∷ lines) state =
    set_by (values_from program (number + 1) lines) state (option_map (given program number) (script_fields (codes "value") line))

-- the state from which a program starts: the least one, where the lines, the first of which has this number, have put their values in order
abbrev pub first_state : Resolved → ℕ → List (List ℕ) → Started
first_state program first lines = values_from program first lines (lowest (signatures_of program))
