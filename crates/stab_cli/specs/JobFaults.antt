-- The faults that come while an image runs, as the section `%run` of a job tells them.
use Rattle.std.specs.Prelude.{ℕ, List, Result, Ok, Err}
use Rattle.fault_script.specs.Script.{FaultyLine, script_of}
use Rattle.fault_script.specs.declared.event.Timed.{Timed}
use Rattle.fault_script.specs.declared.script_end.ScriptEnd.{ScriptEnd}
use Rattle.fault_script.specs.declared.script_end.ScriptEnd.TheVariants.{Fault, NoMemory}
use Rattle.job_text.specs.Jobs.{JobState}
use Rattle.stab_cli.specs.BuiltJob.{text_of}
use Rattle.stab_cli.specs.declared.job_end.JobEnd.{JobEnd}
use Rattle.stab_cli.specs.declared.job_end.JobEnd.TheVariants as ends
use Rattle.stab_cli.specs.declared.machine_sizes.TheConstants.{RAM_BYTES}
use Rattle.stab_cli.specs.declared.refusal.Refusal.{Refusal}
use Rattle.stab_cli.specs.declared.refusal.Refusal.TheVariants.{BadScript}
use Rattle.text_core.specs.Lines.{lines}

-- the faults that a script tells; its first bad line refuses the job
abbrev pub script_found : Result (List Timed) FaultyLine → Result (List Timed) Refusal
script_found (Ok faults) = Ok faults
script_found (Err faulty) = Err (BadScript faulty.fault faulty.line)

-- the faults that a job tells
unfoldable pub job_faults : List ℕ → JobState → Result (List Timed) Refusal
job_faults bytes job = script_found (script_of RAM_BYTES job.script.line (lines (text_of bytes job.script)))

-- what an end of reading a script is here
abbrev pub script_end : ScriptEnd → JobEnd
script_end (Fault fault line) = ends.Refused (BadScript fault line)
script_end NoMemory = ends.NoMemory
