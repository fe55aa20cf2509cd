-- What is found of a script's lines, one after another.
use Rattle.std.specs.Prelude.{ℕ, Bool, List, ◌++◌, Option, Some, None, Result, Ok, Err, ◌≡◌, nat_lt, if◌then◌else◌}
use Rattle.fault_script.specs.declared.event.Event.{Event}
use Rattle.fault_script.specs.declared.event.Timed.{Timed}
use Rattle.fault_script.specs.declared.script_end.ScriptEnd.{ScriptEnd}
use Rattle.fault_script.specs.declared.script_end.ScriptEnd.TheVariants.{Fault, NoMemory}
use Rattle.fault_script.specs.declared.script_end.ScriptFault.{ScriptFault}
use Rattle.fault_script.specs.declared.script_end.ScriptFault.TheVariants as script_faults
use Rattle.fault_script.specs.Script.{Said, FaultyLine}

-- an event whose line's numbers are in range, or the fault that they aren't
abbrev pub event_of : Bool → Event → Result Event ScriptFault
event_of fits event = if fits then Ok event else Err script_faults.Range

-- what a line says where its numbers are in range, or its fault
abbrev pub judged_as : Option Said → Result Event ScriptFault
judged_as None = Err script_faults.Form
judged_as (Some s) = event_of s.fits s.event

-- the fault alone
abbrev pub refused : {A : Type 0} → Result A FaultyLine → Result A ScriptFault
refused (Ok x) = Ok x
refused (Err e) = Err e.fault

-- faults before others that are read, or the first bad line behind them
abbrev pub behind : List Timed → Result (List Timed) FaultyLine → Result (List Timed) FaultyLine
behind faults (Ok later) = Ok (faults ++ later)
behind faults (Err e) = Err e

-- an event with its time, behind a line with the time `last`
abbrev pub in_order : ℕ → ℕ → Result Event ScriptFault → Result Timed ScriptFault
in_order last time (Ok event) = if nat_lt time last then Err script_faults.Order else Ok (record { time = time; event = event })
in_order last time (Err fault) = Err fault

-- the first bad line, or no memory was left
abbrev pub IsBad : {A : Type 0} → Result A FaultyLine → ScriptEnd → Type 0
IsBad found (Fault fault line) = found ≡ Err (record { fault = fault; line = line })
IsBad found NoMemory = Unit {0}
