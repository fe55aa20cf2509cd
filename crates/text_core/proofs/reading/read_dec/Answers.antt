use Rattle.std.proofs.Common.{sym, ◌∙◌}
use Rattle.text_core.proofs.Decimal.{Decimal-from, value_of-small, is_text, none_else}
use Rattle.text_core.proofs.reading.read_dec.Goals as goal

pub returns-then-not-is_decimal-clause-none : goal.returns-then-not-is_decimal-clause-none
returns-then-not-is_decimal-clause-none c = λ n small e. none_else c.args.text.now n (sym c.is_decimal.ensures ∙ c.if-not-is_decimal.true) small e

pub returns-clause-found : goal.returns-clause-found
returns-clause-found c =
    let d = Decimal-from c.args.text.now (sym c.is_decimal.ensures ∙ c.if-not-is_decimal.false) in
    rw c.value_of.ensures (value_of-small c.args.text.now d, is_text c.args.text.now d)
