use Rattle.std.proofs.Common.{◌≡◌, ◌∙◌, ℕ, List, Result, Ok, Err, refl, ap, sym}
use Rattle.std.proofs.lemmas.Result.{err_from_is_err_and}
use Rattle.job_text.specs.Jobs.{job_state}
use Rattle.job_text.specs.declared.mode.Mode.TheVariants.{Asm}
use Rattle.rv_asm.specs.Assembly.{Comes}
use Rattle.rv_asm.specs.declared.fault.AsmEnd.{AsmEnd}
use Rattle.rv_line.specs.declared.item.Item.{Item}
use Rattle.stab_cli.specs.AsmJob.{IsAsmText, SectionAssembles, asm_end, source_items}
use Rattle.stab_cli.specs.BuiltJob.{built_job, of_job, text_of}
use Rattle.stab_cli.specs.Verdict.{ended_by}
use Rattle.stab_cli.proofs.Chains.{accepts, ends}
use Rattle.stab_cli.proofs.ReadJobs.{unjudged}
use Rattle.stab_cli.proofs.asm.text.Goals as goal

-- what assembles to words has items
items_of : (read : Result (List Item) AsmEnd) (words : List ℕ) → Comes read words → (items : List Item) × (ended_by asm_end read ≡ Ok items)
items_of (Ok items) words comes = (items, refl)
items_of (Err end) words comes = absurd comes

pub returns-in_err-job : goal.returns-in_err-job
returns-in_err-job c =
    let bytes = c.args.bytes.now in
    let given = err_from_is_err_and c.from_residual.result c.from_residual.ensures.1 in
    rw (given.1, given.2)
    (ends (of_job (source_items bytes) (built_job Asm bytes)) (IsAsmText bytes) _ (unjudged Asm bytes (source_items bytes) c.in_err-job.field-0.0 c.in_err-job.ensures.judged))

pub returns-in_err-words : goal.returns-in_err-words
returns-in_err-words c =
    let bytes = c.args.bytes.now in
    let read : built_job Asm bytes ≡ Ok (job_state c.in_ok-job.job) = sym c.in_ok-job.ensures.judged.0 in
    let given = err_from_is_err_and c.from_residual-in_err-words.result c.from_residual-in_err-words.ensures.1 in
    rw (given.1, given.2)
    (ends (of_job (source_items bytes) (built_job Asm bytes)) (IsAsmText bytes) _
    (λ some. ap (of_job (source_items bytes)) read ∙ rw (c.section_at.ensures.text, c.section_at.ensures.line) at (c.in_err-words.ensures.err some)))

pub returns : goal.returns
returns c =
    let bytes = c.args.bytes.now in
    let job = job_state c.in_ok-job.job in
    let read : built_job Asm bytes ≡ Ok job = sym c.in_ok-job.ensures.judged.0 in
    let assembles : SectionAssembles job.source.line (text_of bytes job.source) c.in_ok-words.words =
    rw (c.section_at.ensures.text, c.section_at.ensures.line) at c.in_ok-words.ensures.ok in
    let items = items_of _ c.in_ok-words.words assembles in (
      accepts (of_job (source_items bytes) (built_job Asm bytes)) items.0 (ap (of_job (source_items bytes)) read ∙ items.1),
      record { job = job; words = c.in_ok-words.words; read = read; assembles = assembles; says = rw c.list.ensures at c.in_ok-words_text.ensures },
    )
