use Rattle.std.proofs.Common.{◌∙◌, [], ap, refl, subst, sym, arith}
use Rattle.std.proofs.KnownBytes.{Appends-nil}
use Rattle.std.proofs.lemmas.Result.{err_from_is_err_and}
use Rattle.stab_cli.specs.Outcome.{IsReply}
use Rattle.stab_cli.specs.declared.outcome.Outcome.TheVariants.{Accepted}
use Rattle.stab_cli.specs.Refusal.{refusal_line}
use Rattle.stab_cli.proofs.Decided.{play_part}
use Rattle.stab_cli.proofs.outcome.Outcome.write_to.Goals as goal

pub returns-in_err-line-in-Refused-clause-part : goal.returns-in_err-line-in-Refused-clause-part
returns-in_err-line-in-Refused-clause-part g c =
    let line = refusal_line c.in-Refused.refusal in
    let given = err_from_is_err_and c.from_residual-in_err-line-in-Refused.result c.from_residual-in_err-line-in-Refused.ensures.1 in
    rw given.1 (line, subst (λ outcome. IsReply outcome line) (sym c.in-Refused.is) refl, ([], (refl, omega arith), Appends-nil _))

pub returns-in-Accepted-Play-clause-part : goal.returns-in-Accepted-Play-clause-part
returns-in-Accepted-Play-clause-part g c =
    play_part c.write_to.result c.args.self c.in-Accepted-Play.run' _ _ (c.in-Accepted-Play.is ∙ ap Accepted c.in-Accepted-Play.field-0-is) c.write_to.ensures.part
