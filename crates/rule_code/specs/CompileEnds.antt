-- How the answer of a compilation follows from what a program needs.
use Rattle.std.specs.Prelude.{◌≡◌, Result, Ok, Err}
use Rattle.bound_count.specs.declared.numbers.{NeedEnd.{NeedEnd}, Numbers.{Numbers}}
use Rattle.round_spec.specs.Round.{Compiled}
use Rattle.rule_code.specs.declared.compiling.CompileEnd.{CompileEnd}
use Rattle.rule_code.specs.declared.compiling.CompileEnd.TheVariants.{Needs, NoMemory}

-- a need that is too great, or an image with the numbers, if there is memory
abbrev pub AnswersNeeds : Result Numbers NeedEnd → Result Compiled CompileEnd → Type 0
AnswersNeeds (Err need) result = result ≡ Err (Needs need)
AnswersNeeds (Ok numbers) (Ok built) = built.needs ≡ numbers
AnswersNeeds (Ok numbers) (Err end) = end ≡ NoMemory
