use Rattle.std.proofs.Common.{◌≡◌, ◌+◌, sym, ◌∙◌, arith, refl}
use Rattle.std.proofs.lemmas.List.{take_rest}
use Rattle.text_core.specs.Fields.{first_end}
use Rattle.text_core.proofs.FirstField.{first_place, no_field}
use Rattle.text_core.proofs.field_reading.field_place.Goals as goal

pub returns-then-start-line-clause-none : goal.returns-then-start-line-clause-none
returns-then-start-line-clause-none c = no_field c.args.line.now (sym c.blanks-start.ensures.value ∙ c.if-start-line.true)

pub returns : goal.returns
returns c =
    let line = c.args.line.now in
    let blanks = c.blanks-start.ensures.value in
    let len = rw take_rest at c.field_len.ensures.value in
    let end : c.blanks-start.result + c.field_len.result ≡ first_end line = rw (len, ← blanks) refl in
    let first = first_place line c.blanks-start.result c.field_len.result blanks (omega arith) len in
    record { none = tt; field = first.field; end = end; some = first.some; inside = first.inside }
