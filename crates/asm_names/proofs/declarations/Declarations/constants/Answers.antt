use Rattle.asm_names.proofs.Common.{arith, refl, scope, consts_faults}
use Rattle.asm_names.proofs.InTurn.{stopped_at}
use Rattle.asm_names.specs.declared.sort.Need.TheVariants as needs
use Rattle.asm_names.proofs.declarations.Declarations.constants.Goals as goal

pub returns-in_err-find_const : goal.returns-in_err-find_const
returns-in_err-find_const c =
    let found = stopped_at (λ cs. consts_faults (scope c.loop-constant.self.table) (needs.Only c.args.values) cs c.loop-constant.self.place) _ _ _ c.loop-constant-test.true c.constant-item.is _ _ _ _ c.loop-constant.invariant.rest refl (λ (_ : Unit {0}). c.in_err-find_const.ensures) tt in
    grind (arith, found)
