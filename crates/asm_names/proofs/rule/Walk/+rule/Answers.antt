use Rattle.asm_names.proofs.Common.{Ok, ◌≡◌, ◌+◌, arith, sym, refl, ap, ◌∙◌, map, drop, sum, sum_by-cons, rule_tokens, rule_binders, led, scope, each_rule_faults, faulty}
use Rattle.asm_names.proofs.Firsts.{first_rules}
use Rattle.asm_names.proofs.InTurn.{layer-If, layer-Choose, drop-next, stopped_at}
use Rattle.asm_names.proofs.RuleLevels.{tokens_of, whole, room_of}
use Rattle.asm_tree.specs.declared.rule.Rule.TheVariants as variants
use Rattle.asm_names.proofs.rule.Walk.+rule.Goals as goal

pub rule-skip-requires : goal.rule-skip-requires
rule-skip-requires t c = (room_of _ _ (variants.rolls-Skip ∙ sym c.in-Skip.is) _ _ c.requires.room c.requires.bound_room).0

pub rule-update-requires : goal.rule-update-requires
rule-update-requires t c = let room = room_of _ _ (variants.rolls-Update _ _ _ ∙ sym c.in-Update.is) _ _ c.requires.room c.requires.bound_room in record { room = room.0; bound_room = room.1 }

pub rule-conditional-requires : goal.rule-conditional-requires
rule-conditional-requires t c = let tokens = tokens_of _ _ (variants.rolls-If _ _ _ ∙ sym c.in-If.is) in (omega (arith, tokens, layer-If c.in-If.guard c.in-If.then_rule c.in-If.else_rule), room_of _ _ (variants.rolls-If _ _ _ ∙ sym c.in-If.is) _ _ c.requires.room c.requires.bound_room)

pub rule-parallel-requires : goal.rule-parallel-requires
rule-parallel-requires t c = let tokens = tokens_of _ _ (variants.rolls-Par _ ∙ sym c.in-Par.is) in (omega (arith, tokens), room_of _ _ (variants.rolls-Par _ ∙ sym c.in-Par.is) _ _ c.requires.room c.requires.bound_room)

pub rule-forall-requires : goal.rule-forall-requires
rule-forall-requires t c = let tokens = tokens_of _ _ (variants.rolls-Forall _ _ _ _ ∙ sym c.in-Forall.is) in (omega (arith, tokens), room_of _ _ (variants.rolls-Forall _ _ _ _ ∙ sym c.in-Forall.is) _ _ c.requires.room c.requires.bound_room)

pub rule-choose-requires : goal.rule-choose-requires
rule-choose-requires t c = let tokens = tokens_of _ _ (variants.rolls-Choose _ _ _ _ _ ∙ sym c.in-Choose.is) in (omega (arith, tokens, layer-Choose c.in-Choose.var c.in-Choose.domain c.in-Choose.guard c.in-Choose.body c.in-Choose.else_rule), room_of _ _ (variants.rolls-Choose _ _ _ _ _ ∙ sym c.in-Choose.is) _ _ c.requires.room c.requires.bound_room)

pub rule-local-requires : goal.rule-local-requires
rule-local-requires t c = let tokens = tokens_of _ _ (variants.rolls-Let _ _ _ ∙ sym c.in-Let.is) in (omega (arith, tokens), room_of _ _ (variants.rolls-Let _ _ _ ∙ sym c.in-Let.is) _ _ c.requires.room c.requires.bound_room)

pub rule-returns-in-Skip : goal.rule-returns-in-Skip
rule-returns-in-Skip t c = whole _ _ (variants.rolls-Skip ∙ sym c.in-Skip.is) c.args.self.now (Ok c.skip.result) c.skip.new.self (refl, (c.skip.ensures.rule, c.skip.ensures.passes))

pub rule-returns-in-Update : goal.rule-returns-in-Update
rule-returns-in-Update t c = whole _ _ (variants.rolls-Update _ _ _ ∙ sym c.in-Update.is) _ _ _ c.update.ensures

pub rule-returns-in-If : goal.rule-returns-in-If
rule-returns-in-If t c = whole _ _ (variants.rolls-If _ _ _ ∙ sym c.in-If.is) _ _ _ c.conditional.ensures

pub rule-returns-in-Par : goal.rule-returns-in-Par
rule-returns-in-Par t c = whole _ _ (variants.rolls-Par _ ∙ sym c.in-Par.is) _ _ _ c.parallel.ensures

pub rule-returns-in-Forall : goal.rule-returns-in-Forall
rule-returns-in-Forall t c = whole _ _ (variants.rolls-Forall _ _ _ _ ∙ sym c.in-Forall.is) _ _ _ c.forall.ensures

pub rule-returns-in-Choose : goal.rule-returns-in-Choose
rule-returns-in-Choose t c = whole _ _ (variants.rolls-Choose _ _ _ _ _ ∙ sym c.in-Choose.is) _ _ _ c.choose.ensures

pub rule-returns-in-Let : goal.rule-returns-in-Let
rule-returns-in-Let t c = whole _ _ (variants.rolls-Let _ _ _ ∙ sym c.in-Let.is) _ _ _ c.local.ensures

pub choose-returns-in_err-domain : goal.choose-returns-in_err-domain
choose-returns-in_err-domain t c =
    let three : c.args.self.now.place + 1 + 2 ≡ c.args.self.now.place + 3 = omega arith in
    let found = rw three at c.in_err-domain.ensures in
    grind (arith, first_rules, found)

pub forall-returns-in_err-domain : goal.forall-returns-in_err-domain
forall-returns-in_err-domain t c =
    let three : c.args.self.now.place + 1 + 2 ≡ c.args.self.now.place + 3 = omega arith in
    let found = rw three at c.in_err-domain.ensures in
    grind (arith, first_rules, found)

pub each-rule-requires : goal.each-rule-requires
each-rule-requires t c =
    let next = drop-next c.loop-rule.rule-index c.args.rules.now c.rule-item.result c.loop-rule-test.true c.rule-item.is in
    let tokens = ap (λ rs. led (map rule_tokens rs)) next in
    let binders = ap (λ rs. sum (map rule_binders rs)) next ∙ sum_by-cons (λ n. n) (rule_binders c.rule-item.result) (map rule_binders (drop (c.loop-rule.rule-index + 1) c.args.rules.now)) in
    (omega (arith, tokens, c.loop-rule.invariant.further, c.loop-rule.invariant.place), (omega (arith, tokens, c.loop-rule.invariant.place, c.requires.room), omega (arith, binders, c.loop-rule.invariant.binders, c.requires.bound_room)))

pub each-returns-in_err-rule : goal.each-returns-in_err-rule
each-returns-in_err-rule t c =
    let found = stopped_at (λ rs. each_rule_faults (scope c.loop-rule.self.table) (map faulty rs) c.loop-rule.self.place c.loop-rule.self.binders) _ _ _ c.loop-rule-test.true c.rule-item.is _ _ _ _ c.loop-rule.invariant.rest refl c.in_err-rule.ensures in
    grind (arith, found)
