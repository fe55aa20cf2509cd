-- Where the reading of first values stops.
use Rattle.std.specs.Prelude.{◌≡◌, Some}
use Rattle.asm_ranges.specs.Values.{State}
use Rattle.fault_script.specs.StartValues.{Started}
use Rattle.fault_script.specs.declared.script_end.ScriptEnd.{ScriptEnd}
use Rattle.fault_script.specs.declared.script_end.ScriptEnd.TheVariants.{Fault, NoMemory}

-- at the first bad line, with what the lines before it made; or no memory was left
abbrev pub IsStopped : Started → State → ScriptEnd → Type 0
IsStopped started state (Fault fault line) = started ≡ record { state = state; fault = Some (record { fault = fault; line = line }) }
IsStopped started state NoMemory = Unit {0}
