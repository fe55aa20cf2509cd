use Rattle.std.proofs.Common.{◌≤◌, ◌+◌, length}
use Rattle.asm_tokens.specs.Lexing.{LexesTo}
use Rattle.asm_tokens.proofs.lexer.lexed.Given as goal

abbrev pub invariant-lexing : goal.invariant-lexing
invariant-lexing l = record {
  reached : LexesTo l.fn.first_line l.fn.text l.found l.line l.rest;
  room : l.line + length l.rest ≤ l.fn.first_line + length l.fn.text;
  few : length l.found + length l.rest ≤ length l.fn.text;
}

abbrev pub decreases-lexing : goal.decreases-lexing
decreases-lexing l = length l.rest
