use Rattle.std.proofs.Common.{ap, sym, ◌∙◌}
use Rattle.std.proofs.lemmas.List.{length-map}
use Rattle.asm_tokens.specs.Tokens.{kinds}
use Rattle.asm_syntax.specs.Reading.{program}
use Rattle.asm_syntax.proofs.Wholes.{program_found, ok_answers, err_answers, err_refused}
use Rattle.asm_syntax.proofs.parsing.parse.Goals as goal

pub returns-in-Ok-clause-found : goal.returns-in-Ok-clause-found
returns-in-Ok-clause-found c = program_found (kinds c.args.list.now) c.program.new.cursor c.in-Ok.found (ap program (sym c.new-cursor.ensures) ∙ c.in-Ok.ensures)

pub returns-in-Ok-clause-only : goal.returns-in-Ok-clause-only
returns-in-Ok-clause-only c = λ p is e. ok_answers (kinds c.args.list.now) c.program.new.cursor c.in-Ok.found p (ap program (sym c.new-cursor.ensures) ∙ c.in-Ok.ensures) is e

pub returns-in-Err-Stopped-clause-only : goal.returns-in-Err-Stopped-clause-only
returns-in-Err-Stopped-clause-only c = λ p is e. err_answers (kinds c.args.list.now) _ c.in-Err-Stopped.stop c.end_of.result p (ap program (sym c.new-cursor.ensures) ∙ c.in-Err-Stopped.ensures c.in-Err-Stopped.stop c.in-Err-Stopped.field-0-is) c.end_of.ensures is e

pub returns-in-Err-Stopped-clause-refused : goal.returns-in-Err-Stopped-clause-refused
returns-in-Err-Stopped-clause-refused c =
    err_refused (kinds c.args.list.now) _ c.in-Err-Stopped.stop c.end_of.result (sym (length-map c.args.list.now (λ t. t.kind))) (ap program (sym c.new-cursor.ensures) ∙ c.in-Err-Stopped.ensures c.in-Err-Stopped.stop c.in-Err-Stopped.field-0-is) c.end_of.ensures
