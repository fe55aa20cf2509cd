use Rattle.asm_names.proofs.Common.{arith, refl, scope, domains_faults}
use Rattle.asm_names.proofs.InTurn.{stopped_at}
use Rattle.asm_names.proofs.declarations.Declarations.arguments.Goals as goal

pub returns-in_err-number : goal.returns-in_err-number
returns-in_err-number c =
    let found = stopped_at (λ ws. domains_faults (scope c.loop-arg.self.table) ws c.loop-arg.self.place) _ _ _ c.loop-arg-test.true c.arg-item.is _ _ _ _ c.loop-arg.invariant.rest refl (λ (_ : Unit {0}). c.in_err-number.ensures) tt in
    grind (arith, found)
