use Rattle.std.proofs.Common.{sym}
use Rattle.asm_tokens.proofs.Spellings.{no_name, not_digit}
use Rattle.asm_tokens.proofs.lexer.word_kind.Goals as goal

pub returns-in-Ok-None-clause-err : goal.returns-in-Ok-None-clause-err
returns-in-Ok-None-clause-err c = λ k t e.
    no_name c.args.word.now (not_digit c.args.word.now (sym c.if-is_ascii_digit.ensures.value)) c.in_default.ensures (rw c.in-Ok-None.field-0-is at c.in-Ok-None.ensures) c.requires.bytes k t e
