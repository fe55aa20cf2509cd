use Rattle.std.proofs.Common.{◌+◌, length, ap, ◌∙◌}
use Rattle.block_code.specs.Emit.{HasGrown}
use Rattle.block_code.specs.Tree.{plan_of}
use Rattle.block_code.proofs.Growth.{grown-length, on-ok-map}
use Rattle.block_code.proofs.emission.emit.Goals as goal
use Rattle.block_code.specs.Plan as plan
use Rattle.block_code.proofs.Place.{length-code}

pub returns-clause-len : goal.returns-clause-len
returns-clause-len c =
    let old = c.args.out.now in
    let tree = plan_of c.tree.result.now in
    let len = length-code tree ∙ ap (λ t. plan.len (plan_of t)) c.tree.ensures.value in
    on-ok-map c.emit_behind.result (HasGrown (plan.code tree) old c.emit_behind.new.out) _ (λ h. grown-length (plan.code tree) old _ h ∙ ap (λ n. length old + n) len) c.emit_behind.ensures.0
