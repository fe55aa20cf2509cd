-- Bytes are one job of a mode, or have one refusal.
use Rattle.std.proofs.Common.{◌≡◌, ◌≢◌, ℕ, List, true, false, Result, Ok, Err, refl, sym, ap}
use Rattle.job_text.specs.Jobs.{IsJob, JobState, job_of, job_state}
use Rattle.job_text.specs.declared.fault.JobEnd.{JobEnd as ReadingEnd}
use Rattle.job_text.specs.declared.fault.JobEnd.TheVariants as reading_ends
use Rattle.job_text.specs.declared.mode.Mode.{Mode}
use Rattle.stab_cli.specs.BuiltJob.{built_job, if_built, is_built, of_job, reading_end}
use Rattle.stab_cli.specs.Stages.{Is, IsOne, SettlesAs}
use Rattle.stab_cli.specs.declared.refusal.Refusal.TheVariants.{NotBuilt}
use Rattle.stab_cli.specs.declared.job_end.JobEnd.{JobEnd}
use Rattle.stab_cli.specs.declared.job_end.JobEnd.TheVariants.{Refused, NoMemory}
use Rattle.stab_cli.proofs.Chains.{is_one}

module _ (which : Mode) (bytes : List ℕ) where
  -- a job that isn't read is refused for its first line at fault
  pub unread : (end : ReadingEnd) → IsJob (Err end) (job_of which bytes) → SettlesAs job_state (Is (built_job which bytes)) (Err (reading_end end))
  unfolding built_job
  unread (reading_ends.Fault fault line) is = is_one (built_job which bytes) _ (sym (ap if_built is))
  unread reading_ends.NoMemory is = tt

  module _ (job : JobState) (is : job_of which bytes ≡ Ok job) where
    pub built : is_built job ≡ true → IsOne (Is (built_job which bytes)) (Ok job)
    unfolding built_job
    built all = is_one (built_job which bytes) (Ok job) (rw (is, all) refl)

    pub unbuilt : is_built job ≡ false → IsOne (Is (built_job which bytes)) (Err NotBuilt)
    unfolding built_job
    unbuilt not_all = is_one (built_job which bytes) (Err NotBuilt) (rw (is, not_all) refl)

  -- nothing is computed of a job that is refused
  pub unjudged : {A : Type 0} (f : JobState → Result A JobEnd) (end : JobEnd) → SettlesAs job_state (Is (built_job which bytes)) (Err end)
      → end ≢ NoMemory → of_job f (built_job which bytes) ≡ Err end
  unjudged f (Refused refusal) one some = ap (of_job f) (sym one.0)
  unjudged f NoMemory one some = absurd (some refl)
