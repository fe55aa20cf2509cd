-- A job for `run` is tried in one way.
use Rattle.std.proofs.Common.{◌≡◌, ◌≢◌, ◌∙◌, ℕ, ◌≤◌, ◌<◌, ◌^◌, List, true, false, Result, Ok, Err, min, nat_le, refl, sym, ap}
use Rattle.std.proofs.lemmas.Bool.{le-leb, lt-leb}
use Rattle.asm_names.specs.Resolving.{Resolves}
use Rattle.asm_names.specs.declared.program.Resolved.{Resolved}
use Rattle.asm_tree.specs.Programs.{Parts}
use Rattle.bound_count.specs.Numbers.{numbers_of}
use Rattle.bound_count.specs.declared.shape.Shape.TheVariants.{Unrolled}
use Rattle.fault_script.specs.Judging.{IsBad}
use Rattle.fault_script.specs.Script.{FaultyLine, script_of}
use Rattle.fault_script.specs.declared.event.Timed.{Timed}
use Rattle.fault_script.specs.declared.script_end.ScriptEnd.{ScriptEnd}
use Rattle.fault_script.specs.declared.script_end.ScriptEnd.TheVariants.{Fault, NoMemory}
use Rattle.job_text.specs.Jobs.{JobState}
use Rattle.state_layout.specs.declared.layout.Layout.TheVariants.{Words}
use Rattle.text_core.specs.Lines.{lines}
use Rattle.trace_decode.specs.Budget.{budget_of, most}
use Rattle.stab_cli.specs.BuiltJob.{text_of}
use Rattle.stab_cli.specs.ExecJob.{with_faults}
use Rattle.stab_cli.specs.JobFaults.{job_faults, script_end, script_found}
use Rattle.round_spec.specs.Round.{Compiled}
use Rattle.stab_cli.specs.RunJob.{IsTrialOf, Trial, trial_found}
use Rattle.stab_cli.specs.Stages.{Is, IsOne, Settles}
use Rattle.stab_cli.specs.declared.job_end.JobEnd.{JobEnd}
use Rattle.stab_cli.specs.declared.job_end.JobEnd.TheVariants as ends
use Rattle.stab_cli.specs.declared.refusal.Refusal.{Refusal}
use Rattle.stab_cli.specs.declared.machine_sizes.TheConstants.{RAM_BYTES}
use Rattle.stab_cli.specs.declared.refusal.Refusal.TheVariants.{TooManyTicks}
use Rattle.stab_cli.proofs.Chains.{is_one}

module _ (bytes : List ℕ) (job : JobState) where
  abbrev said : Result (List Timed) FaultyLine
  said = script_of RAM_BYTES job.script.line (lines (text_of bytes job.script))

  -- the faults that are read are those of the job
  pub faults_told : (faults : List Timed) → said ≡ Ok faults → IsOne (Is (job_faults bytes job)) (Ok faults)
  unfolding job_faults
  faults_told faults is = is_one (job_faults bytes job) (Ok faults) (sym (ap script_found is))

  -- the first bad line refuses the job
  pub faults_refused : (end : ScriptEnd) → IsBad said end → Settles (Is (job_faults bytes job)) (Err (script_end end))
  unfolding job_faults
  faults_refused (Fault fault line) is = is_one (job_faults bytes job) _ (sym (ap script_found is))
  faults_refused NoMemory is = tt

-- a program in numbers has one list of needs, and so one budget
one_list : (parts : Parts) (first second : Resolved) → Resolves parts first → Resolves parts second → numbers_of Unrolled Words first ≡ numbers_of Unrolled Words second
one_list parts first second one two = rw (one.domains, one.funs, one.binders, one.rule, two.domains, two.funs, two.binders, two.rule) refl

one_budget : (parts : Parts) (faults : List Timed) (rounds : ℕ) (first second : Resolved) → Resolves parts first → Resolves parts second
    → budget_of (numbers_of Unrolled Words first) faults rounds ≡ budget_of (numbers_of Unrolled Words second) faults rounds
one_budget parts faults rounds first second one two = ap (λ needs. budget_of needs faults rounds) (one_list parts first second one two)

module _ (numbers : Resolved) (resolves : Resolves numbers.source numbers) (faults : List Timed) (rounds : ℕ) where
  abbrev ticks : ℕ
  ticks = budget_of (numbers_of Unrolled Words numbers) faults rounds

  one_trial : (found : Result _ _) → found ≡ trial_found (record { program = numbers.source; faults = faults }) ticks → IsOne (IsTrialOf rounds faults numbers.source) found
  one_trial found says = (
    record { numbers = numbers; resolves = resolves; says = says },
    λ other is. is.says ∙ ap (trial_found _) (one_budget numbers.source faults rounds is.numbers numbers is.resolves resolves) ∙ sym says,
  )

  pub is_within : ticks ≤ most → IsOne (IsTrialOf rounds faults numbers.source) (Ok (record { program = numbers.source; faults = faults }))
  is_within few = one_trial _ (let is : nat_le ticks most ≡ true = le-leb _ _ few in rw is refl)

  pub takes_too_long : most < ticks → IsOne (IsTrialOf rounds faults numbers.source) (Err (TooManyTicks (min ticks (2 ^ 62))))
  takes_too_long many = one_trial _ (let is : nat_le ticks most ≡ false = lt-leb _ _ many in rw is refl)

-- a program, and the faults that come to its image
abbrev pub trial_of : Parts → List Timed → Trial
trial_of program faults = record { program = program; faults = faults }

-- what the code finds of a job
abbrev pub trial_in : Resolved × Compiled × List Timed → Trial
trial_in found = record { program = found.0.source; faults = found.2 }

-- faults that are refused refuse what they come to
pub unfaulted : (words : List ℕ) (computed : Result (List Timed) Refusal) (end : JobEnd) → Settles (Is computed) (Err end) → end ≢ ends.NoMemory → with_faults words computed ≡ Err end
unfaulted words computed (ends.Refused refusal) one some = ap (with_faults words) (sym one.0)
unfaulted words computed ends.NoMemory one some = absurd (some refl)
