use Rattle.std.proofs.Common.{◌∙◌, arith}
use Rattle.std.proofs.lemmas.Fmt.{decimal_injective}
use Rattle.asm_tokens.proofs.lexer.number.Goals as goal

pub returns-then-value-gt2147483647-clause-none : goal.returns-then-value-gt2147483647-clause-none
returns-then-value-gt2147483647-clause-none c = λ n small e.
    let found = c.in_ok-value.ensures.found in
    let same = decimal_injective n c.in_ok-value.value (omega arith) (omega (arith, found.0)) (e ∙ found.1) in
    omega (arith, same, c.if-value-gt2147483647.true)
