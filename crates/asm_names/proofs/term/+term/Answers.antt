use Rattle.std.proofs.Common.{rules}
use Rattle.asm_names.proofs.Common.{Ok, arith, sym, ap, ◌∙◌, map, scope, term_tokens, parted}
use Rattle.std.proofs.lemmas.Grind.{common_steps}
use Rattle.asm_names.proofs.Levels.{faults_at, tokens_of, whole}
use Rattle.asm_names.proofs.Firsts.{stopped}
use Rattle.asm_names.proofs.InTurn.{drop-next}
use Rattle.asm_names.proofs.Separated.{parted-in_parentheses, each_faults-next}
use Rattle.asm_tree.specs.declared.term.Term.TheVariants as terms
use Rattle.std.proofs.lemmas.List.{append-nil}
use Rattle.asm_names.proofs.term.+term.Goals as goal

pub term-number-requires : goal.term-number-requires
term-number-requires t c = let tokens = tokens_of _ _ (terms.rolls-Number _ ∙ sym c.in-Number.is) in omega (arith, tokens)

pub term-apply-requires : goal.term-apply-requires
term-apply-requires t c = let tokens = tokens_of _ _ (terms.rolls-Apply _ _ ∙ sym c.in-Apply.is) in (omega (arith, tokens, parted-in_parentheses (map term_tokens c.in-Apply.args)), omega (arith, tokens))

pub term-binary-requires : goal.term-binary-requires
term-binary-requires t c = let tokens = tokens_of _ _ (terms.rolls-Binary _ _ _ ∙ sym c.in-Binary.is) in (omega (arith, tokens), omega (arith, tokens))

pub term-negation-requires : goal.term-negation-requires
term-negation-requires t c = let tokens = tokens_of _ _ (terms.rolls-Not _ ∙ sym c.in-Not.is) in (omega (arith, tokens), omega (arith, tokens))

pub term-pair-requires : goal.term-pair-requires
term-pair-requires t c = let tokens = tokens_of _ _ (terms.rolls-Min _ _ ∙ sym c.in-Min.is) in (omega (arith, tokens), omega (arith, tokens))

pub term-pair-requires-in-Max : goal.term-pair-requires-in-Max
term-pair-requires-in-Max t c = let tokens = tokens_of _ _ (terms.rolls-Max _ _ ∙ sym c.in-Max.is) in (omega (arith, tokens), omega (arith, tokens))

pub term-conditional-requires : goal.term-conditional-requires
term-conditional-requires t c = let tokens = tokens_of _ _ (terms.rolls-Cond _ _ _ ∙ sym c.in-Cond.is) in (omega (arith, tokens), omega (arith, tokens))

pub term-returns-in_ok-number-in-Number : goal.term-returns-in_ok-number-in-Number
term-returns-in_ok-number-in-Number t c =
    whole _ _ (terms.rolls-Number _ ∙ sym c.in-Number.is) (scope c.args.table.now) c.args.need c.args.place.now (Ok c.in_ok-number-in-Number.field-0) c.number.new.place
    (append-nil _ ∙ c.in_ok-number-in-Number.ensures.0, c.in_ok-number-in-Number.ensures.1)

pub term-returns-in_err-number-in-Number : goal.term-returns-in_err-number-in-Number
term-returns-in_err-number-in-Number t c =
    let faults = faults_at _ _ (terms.rolls-Number _ ∙ sym c.in-Number.is) (scope c.args.table.now) c.args.need c.args.place.now ∙ append-nil _ in
    search (rules, faults)

pub term-returns-in-Apply : goal.term-returns-in-Apply
term-returns-in-Apply t c = whole _ _ (terms.rolls-Apply _ _ ∙ sym c.in-Apply.is) _ _ _ _ _ c.apply.ensures

pub term-returns-in-Binary : goal.term-returns-in-Binary
term-returns-in-Binary t c = whole _ _ (terms.rolls-Binary _ _ _ ∙ sym c.in-Binary.is) _ _ _ _ _ c.binary.ensures

pub term-returns-in-Not : goal.term-returns-in-Not
term-returns-in-Not t c = whole _ _ (terms.rolls-Not _ ∙ sym c.in-Not.is) _ _ _ _ _ c.negation.ensures

pub term-returns-in-Min : goal.term-returns-in-Min
term-returns-in-Min t c = whole _ _ (terms.rolls-Min _ _ ∙ sym c.in-Min.is) _ _ _ _ _ c.pair.ensures

pub term-returns-in-Max : goal.term-returns-in-Max
term-returns-in-Max t c = whole _ _ (terms.rolls-Max _ _ ∙ sym c.in-Max.is) _ _ _ _ _ c.pair-in-Max.ensures

pub term-returns-in-Cond : goal.term-returns-in-Cond
term-returns-in-Cond t c = whole _ _ (terms.rolls-Cond _ _ _ ∙ sym c.in-Cond.is) _ _ _ _ _ c.conditional.ensures

pub separated-term-requires : goal.separated-term-requires
separated-term-requires t c =
    let next = ap (λ ts. parted (map term_tokens ts)) (drop-next c.loop-i.i c.args.args.now c.index-args-i.result c.loop-i-test.true c.index-args-i.is) in
    (omega (arith, next, c.loop-i.invariant.place, c.loop-i.invariant.further), omega (arith, next, c.loop-i.invariant.place))

pub separated-returns-in_err-term : goal.separated-returns-in_err-term
separated-returns-in_err-term t c =
    let next = each_faults-next c.loop-i.i c.args.args.now c.index-args-i.result c.loop-i-test.true c.index-args-i.is (scope c.args.table.now) c.args.sorts.now c.need_at.result c.loop-i.place (omega arith) c.need_at.ensures in
    let found = stopped _ _ _ _ (c.loop-i.invariant.rest ∙ next) c.in_err-term.ensures in
    grind (arith, found)

pub separated-loop-i-preserved : goal.separated-loop-i-preserved
separated-loop-i-preserved t c =
    let next = each_faults-next c.loop-i.i c.args.args.now c.index-args-i.result c.loop-i-test.true c.index-args-i.is (scope c.args.table.now) c.args.sorts.now c.need_at.result c.loop-i.place (omega arith) c.need_at.ensures in
    let rest = c.loop-i.invariant.rest ∙ next in
    record { rest = grind (arith, common_steps, rest); done = grind (arith, common_steps); place = grind (arith, common_steps); further = grind (arith, common_steps) }
