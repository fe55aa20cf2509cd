use Rattle.std.proofs.Common.{sym}
use Rattle.asm_tokens.proofs.Spellings.{bad_byte, first_no_word}
use Rattle.asm_tokens.proofs.lexer.front.Goals as goal

pub returns-in-None-clause-err : goal.returns-in-None-clause-err
returns-in-None-clause-err c = bad_byte c.args.text.now c.requires (first_no_word c.args.text.now (sym c.if-is_word.ensures)) (sym c.in-None.ensures.sign)
