use Rattle.asm_names.proofs.Common.{arith}
use Rattle.asm_names.proofs.Numbering.{binders-tokens}
use Rattle.std.proofs.Common.{refl}
use Rattle.std.proofs.lemmas.Result.{err_from_is_err_and}
use Rattle.asm_names.proofs.ProgramSpans.{program_ascending}
use Rattle.asm_names.proofs.resolution.resolve.Goals as goal

pub rule-requires-2-clause-bound_room : goal.rule-requires-2-clause-bound_room
rule-requires-2-clause-bound_room c = rw c.rule.ensures.rule (omega (arith, binders-tokens c.args.program.now.rule, c.requires, c.in_ok-legal.ensures.1.1.bound))

pub returns-in_err-table-clause-ordered : goal.returns-in_err-table-clause-ordered
returns-in_err-table-clause-ordered c = program_ascending c.args.program.now

pub returns-in_err-legal-clause-ordered : goal.returns-in_err-legal-clause-ordered
returns-in_err-legal-clause-ordered c = program_ascending c.args.program.now

pub returns-in_err-rule-clause-ordered : goal.returns-in_err-rule-clause-ordered
returns-in_err-rule-clause-ordered c = program_ascending c.args.program.now

pub returns-in_err-no_intervals-clause-first : goal.returns-in_err-no_intervals-clause-first
returns-in_err-no_intervals-clause-first c =
    let p = err_from_is_err_and c.from_residual-in_err-no_intervals.result c.from_residual-in_err-no_intervals.ensures.1 in
    rw (p.1, p.2) (λ real. absurd (real refl))
