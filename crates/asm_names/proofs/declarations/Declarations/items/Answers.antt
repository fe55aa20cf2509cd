use Rattle.asm_names.proofs.Common.{arith, refl, scope, items_faults}
use Rattle.asm_names.proofs.InTurn.{stopped_at}
use Rattle.asm_names.proofs.declarations.Declarations.items.Goals as goal

pub returns-in_err-check_new : goal.returns-in_err-check_new
returns-in_err-check_new c =
    let found = stopped_at (λ ws. items_faults (scope c.loop-index.self.table) c.args.domain c.loop-index.index ws c.loop-index.self.place) _ _ _ c.loop-index-test.true c.index-items-index.is _ _ _ _ c.loop-index.invariant.rest refl (λ (_ : Unit {0}). c.in_err-check_new.ensures) tt in
    grind (arith, found)
