use Rattle.asm_names.proofs.Common.{arith, refl, subst, scope, decls_faults}
use Rattle.asm_names.proofs.InTurn.{drop-next, stopped_at}
use Rattle.asm_names.proofs.Numbering.{AreRead, read-next}
use Rattle.asm_names.proofs.resolution.declare_all.Goals as goal

pub returns-in_err-declaration : goal.returns-in_err-declaration
returns-in_err-declaration c =
    let found = stopped_at (λ ds. decls_faults (scope c.loop-decl.found.table) ds c.loop-decl.found.place) _ _ _ c.loop-decl-test.true c.decl-item.is _ _ _ _ c.loop-decl.invariant.rest refl c.in_err-declaration.ensures.judged in
    grind (arith, found)

pub loop-decl-preserved : goal.loop-decl-preserved
loop-decl-preserved c =
    let left = subst (λ ds. AreRead c.args.decls.now ds c.loop-decl.found) (drop-next _ _ _ c.loop-decl-test.true c.decl-item.is) c.loop-decl.invariant in
    read-next _ _ _ _ _ left c.in_ok-declaration.ensures.judged.1 c.in_ok-declaration.ensures.judged.0
