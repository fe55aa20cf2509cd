use Rattle.std.proofs.Common.{◌++◌, [], ◌∷◌, take, subst, sym, ap, ◌∙◌}
use Rattle.std.proofs.lemmas.List.{take_more}
use Rattle.block_code.specs.Emit.{HasGrown}
use Rattle.block_code.proofs.Growth.{begun-take, grown-push, refused}
use Rattle.block_code.proofs.emission.append.Goals as goal

pub returns-in_err-push : goal.returns-in_err-push
returns-in_err-push c =
    refused c.from_residual.result c.args.code.now c.args.out.now c.push.new.self c.from_residual.ensures.0
    (begun-take c.args.code.now c.loop-instr.instr-index c.args.out.now c.push.new.self
    (subst (HasGrown (take c.loop-instr.instr-index c.args.code.now) c.args.out.now) (sym c.in_err-push.ensures.err) c.loop-instr.invariant))

pub loop-instr-preserved : goal.loop-instr-preserved
loop-instr-preserved c =
    let first = take c.loop-instr.instr-index c.args.code.now in
    let more = take_more c.args.code.now c.loop-instr.instr-index c.instr-item.result c.loop-instr-test.true in
    let code = more ∙ ap (λ x. first ++ x ∷ []) (sym c.instr-item.is) in
    subst (λ l. HasGrown l c.args.out.now c.push.new.self) (sym code)
    (grown-push first c.instr-item.result c.args.out.now c.loop-instr.out c.push.new.self c.encode.result c.loop-instr.invariant c.encode.ensures.row c.in_ok-push.ensures.ok)
