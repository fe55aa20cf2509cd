use Rattle.std.proofs.Common.{◌∷◌, [], length, ap, arith}
use Rattle.std.proofs.lemmas.List.{length-append}
use Rattle.asm_tokens.specs.Lexing.{spelling}
use Rattle.asm_tokens.proofs.Spellings.{spelling-positive}
use Rattle.asm_tokens.proofs.Lexed.{LexesTo-more}
use Rattle.asm_tokens.proofs.lexer.lexed.Goals as goal

pub lexing-smaller : goal.lexing-smaller
lexing-smaller c =
    let f = c.in-Ok.ensures.ok in
    let some = spelling-positive c.in-Ok.pair.0 f.token in
    let e = ap length f.parts in
    omega (arith, some, e, length-append (spelling c.in-Ok.pair.0) c.in-Ok.pair.1.now, c.skip.ensures.shrinks)

pub lexing-preserved : goal.lexing-preserved
lexing-preserved c =
    let f = c.in-Ok.ensures.ok in
    let some = spelling-positive c.in-Ok.pair.0 f.token in
    let e = ap length f.parts in
    let parts = length-append (spelling c.in-Ok.pair.0) c.in-Ok.pair.1.now in
    let more = ap length c.in_ok-push.ensures.ok in
    let one = length-append c.lexing.found (record { line = c.lexing.line; kind = c.in-Ok.pair.0 } ∷ []) in
    record {
      reached = rw c.in_ok-push.ensures.ok (LexesTo-more c.args.first_line c.args.text.now c.lexing.found c.lexing.line c.skip.result.0 c.lexing.rest.now c.in-Ok.pair.1.now c.skip.result.1.now c.in-Ok.pair.0
          c.lexing.invariant.reached f.parts f.token f.ends c.skip.ensures.gap);
      room = omega (arith, some, e, parts, c.skip.ensures.room, c.lexing.invariant.room);
      few = omega (arith, some, e, parts, more, one, c.skip.ensures.shrinks, c.lexing.invariant.few);
    }
