use Rattle.std.proofs.Common.{[], ◌*◌, sym, subst, ap, ◌∙◌, arith}
use Rattle.rv_encode.specs.Table.{Row}
use Rattle.rv_machine.specs.Image.{jump_home}
use Rattle.block_code.proofs.Growth.{grown-push}
use Rattle.block_code.specs.Emit.{HasGrown}
use Rattle.block_code.specs.Tree.{plan_of}
use Rattle.block_code.specs.Plan as plan
use Rattle.bound_count.specs.Numbers.{numbers_of}
use Rattle.bound_count.specs.declared.shape.Shape.TheVariants as forms
use Rattle.rom_anchor.specs.Placed.{IsBody}
use Rattle.rule_code.specs.Image.{IsExpanded}
use Rattle.rule_code.proofs.Bodies.{body-len}
use Rattle.rule_code.proofs.Making.{few-inputs, prepared, weighs-little, writable}
use Rattle.rule_code.proofs.compiling.round_words.Goals as goal

pub body-requires : goal.body-requires
body-requires g c =
    let program = c.args.checked.now in
    let place = c.args.map.now in
    let flat = c.in_ok-flat.flat in
    let made = c.in_ok-flat.ensures in
    let numbers = numbers_of forms.Unrolled place.layout program in
    let expanded : IsExpanded program flat =
    record { least = made.updates; permitted = made.permitted; sums = made.sums; fresh = made.new; met = made.met; light = made.weight; registers = made.registers } in
    let little = weighs-little g.row.ROM g.row.RAM place.layout program place numbers c.requires.fitted flat expanded in
    record {
      prepared = prepared g.row.ROM g.row.RAM place.layout program place numbers c.requires.fitted;
      writable = writable g.row.ROM g.row.RAM place.layout program place numbers c.requires.fitted flat expanded;
      weight = omega arith;
    }

pub jump_to_start-requires-clause-range : goal.jump_to_start-requires-clause-range
jump_to_start-requires-clause-range g c =
    let program = c.args.checked.now in
    let place = c.args.map.now in
    let flat = c.in_ok-flat.flat in
    let made = c.in_ok-flat.ensures in
    let numbers = numbers_of forms.Unrolled place.layout program in
    let expanded : IsExpanded program flat =
    record { least = made.updates; permitted = made.permitted; sums = made.sums; fresh = made.new; met = made.met; light = made.weight; registers = made.registers } in
    let little = weighs-little g.row.ROM g.row.RAM place.layout program place numbers c.requires.fitted flat expanded in
    let few = body-len program place (4 * c.args.at) flat (few-inputs g.row.ROM g.row.RAM place.layout program place numbers c.requires.fitted) in
    let long = c.len.ensures ∙ ap plan.len c.in_ok-block.ensures.plan in
    omega arith

pub returns : goal.returns
returns g c =
    let program = c.args.checked.now in
    let flat = c.in_ok-flat.flat in
    let made = c.in_ok-flat.ensures in
    let tree = plan_of c.in_ok-block.block in
    let emitted : HasGrown (plan.code tree) [] c.emit.new.out = subst (λ old. HasGrown (plan.code tree) old c.emit.new.out) c.new-words.ensures c.in_ok-emit.ensures.ok in
    let jump = subst (λ n. Row c.jump_to_start.result (jump_home (4 * n))) c.len.ensures c.jump_to_start.ensures in
    let whole = grown-push (plan.code tree) (jump_home (4 * plan.len tree)) [] c.emit.new.out c.push.new.self c.jump_to_start.result emitted jump c.in_ok-push.ensures.ok in
    record {
      flat = flat;
      expanded = record { least = made.updates; permitted = made.permitted; sums = made.sums; fresh = made.new; met = made.met; light = made.weight; registers = made.registers };
      rows = subst (λ t. IsBody t c.push.new.self) c.in_ok-block.ensures.plan (subst (λ l. IsBody tree l) (sym whole.grown) whole.rows);
    }
