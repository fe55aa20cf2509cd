-- What functions that read a job answer, as what its lines give.
use Rattle.std.specs.Prelude.{◌≡◌, Option, Some, None, Result, Ok, Err}
use Rattle.job_text.specs.JobFaults.{Draft, FaultyLine}
use Rattle.job_text.specs.declared.fault.JobFault.{JobFault}
use Rattle.job_text.specs.declared.fault.JobEnd.{JobEnd}
use Rattle.job_text.specs.declared.fault.JobEnd.TheVariants.{Fault, NoMemory}

-- the draft, unless a line is at fault
abbrev pub outcome : Option JobFault → Draft → Result Draft JobFault
outcome None draft = Ok draft
outcome (Some fault) draft = Err fault

-- what is found is what the job's lines give, or its first line at fault; want of memory says nothing
abbrev pub IsRead : {X : Type 0} → Result X JobEnd → Result X FaultyLine → Type 0
IsRead (Ok found) given = given ≡ Ok found
IsRead (Err (Fault fault line)) given = given ≡ Err (record { fault = fault; line = line })
IsRead (Err NoMemory) given = Unit {0}
