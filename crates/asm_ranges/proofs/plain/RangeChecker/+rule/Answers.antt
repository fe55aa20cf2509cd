use Rattle.std.proofs.Common.{map, ap, ◌≡◌, ◌+◌, ◌≤◌, Ok, Err, true, refl, sym, ◌∙◌, arith}
use Rattle.std.proofs.lemmas.{Bool.{and_parts, ltb-true, leb-true}, List.Folds.{list_all-map}}
use Rattle.asm_names.specs.{declared.resolved_rule.ResolvedRule.{ResolvedRule-F}, Places.{led}, ResolvedPlaces.{led_if, resolved_term_tokens, resolved_rule_tokens}}
use Rattle.asm_ranges.specs.{Contexts.{IsWord, facts_of, legible, scope_of, signatures_in}, FindingRules.{IsAbove, all_words, faulty_rule}, RangeFaults.{each_rule_faults}}
use Rattle.asm_ranges.proofs.{InTurn.{all-at, left-from}, Measures.{interval-word}, RuleLists.{led-drop, stopped}, TermForms.{fits-under-Held, fits-under-Failed}}
use Rattle.asm_ranges.proofs.RuleForms.{whole_rule, handed_rule, updated, above-map, above-Held, above-Failed, above-Over, above-Bounded, fits-in-Over, fits-in-Bounded, set-word, rule-Held, rule-Bounded, held-judged, held-err, guarded-held, guarded-free, else-Failed, held-Over, guarded-Over, if-ok, if-first, if-second, forall-ok, forall-err, choose-ok, choose-first, choose-second, let-ok, let-err, let-first, choose-else}
use Rattle.asm_names.specs.declared.resolved_rule.ResolvedRule.TheVariants as rules
use Rattle.asm_ranges.proofs.plain.RangeChecker.+rule.Goals as goal

pub each-rule-requires : goal.each-rule-requires
each-rule-requires t c =
    let next = left-from c.loop-rule.rule-index c.args.rules.now c.rule-item.result c.loop-rule-test.true c.rule-item.is in
    let tokens = ap (λ rs. led (map resolved_rule_tokens rs)) next in
    let above : IsAbove c.args.context.now (legible c.args.self.domains.now c.rule-item.result) = above-map c.args.context.now _ _ (λ n h. all-at (λ r. legible c.args.self.domains.now r n) c.args.rules.now c.loop-rule.rule-index c.rule-item.result h c.loop-rule-test.true c.rule-item.is) c.requires.legible in (
      omega (arith, tokens, led-drop c.loop-rule.rule-index c.args.rules.now),
      (c.requires.ready, (c.requires.fits, (c.loop-rule.invariant.words, (above, omega (arith, tokens, c.loop-rule.invariant.after, c.requires.room))))),
    )

pub each-returns-in_err-place : goal.each-returns-in_err-place
each-returns-in_err-place t c =
    let next = left-from c.loop-rule.rule-index c.args.rules.now c.rule-item.result c.loop-rule-test.true c.rule-item.is in
    let signatures = (signatures_in c.args.self.domains.now c.args.self.funs.now) in
    let all = ap (λ rs. each_rule_faults (map (faulty_rule c.args.self.domains.now signatures) rs) (scope_of c.args.context.now) (facts_of c.args.context.now) c.loop-rule.place) next in
    let found = stopped _ _ _ _ (c.loop-rule.invariant.rest ∙ all) c.in_err-place.ensures in
    grind (arith, found)

pub parallel-each-requires : goal.parallel-each-requires
parallel-each-requires t c =
    (omega arith, (c.requires.ready, (c.requires.fits, (c.requires.words, (above-map c.args.context.now _ _ (λ n h. sym (list_all-map (λ f. f n) (legible c.args.self.domains.now) c.args.rules.now) ∙ h) c.requires.legible, omega (arith, c.requires.room))))))

pub held-rule-requires : goal.held-rule-requires
held-rule-requires t c =
    let fits = fits-under-Held c.args.guard c.args.context c.requires.small (omega (arith, c.requires.room)) c.requires.fits in
    (omega arith, (c.requires.ready, (fits, (c.requires.words, (above-Held c.args.context (legible c.args.self.domains.now c.args.body.now) c.args.guard c.requires.legible, omega (arith, c.requires.room, c.in_ok-test.ensures.1.after))))))

pub held-returns : goal.held-returns
held-returns t c =
    held-judged c.args.self.domains.now (signatures_in c.args.self.domains.now c.args.self.funs.now) (scope_of c.args.context.now) (facts_of c.args.context.now) c.args.guard.now c.args.body.now c.args.row.now c.args.at _ _ _ c.in_ok-test.ensures.0 c.in_ok-test.ensures.1.after
    (rule-Held c.args.self.domains.now (signatures_in c.args.self.domains.now c.args.self.funs.now) c.args.context c.args.body.now c.args.row.now _ c.rule.result c.rule.new.row c.args.guard c.rule.ensures)

pub held-returns-in_err-test : goal.held-returns-in_err-test
held-returns-in_err-test t c =
    let found = held-err c.args.self.domains.now (signatures_in c.args.self.domains.now c.args.self.funs.now) (scope_of c.args.context.now) (facts_of c.args.context.now) c.args.guard.now c.args.body.now c.args.at _ c.in_err-test.ensures in
    grind (arith, found)

pub guarded-returns-then-guarded : goal.guarded-returns-then-guarded
guarded-returns-then-guarded t c =
    guarded-held c.args.self.domains.now (signatures_in c.args.self.domains.now c.args.self.funs.now) (scope_of c.args.context.now) (facts_of c.args.context.now) c.args.guard.now c.args.body.now c.args.row.now c.args.at _ _ c.args.guarded (c.if-guarded.true) c.held.ensures

pub guarded-returns-else-guarded : goal.guarded-returns-else-guarded
guarded-returns-else-guarded t c =
    guarded-free c.args.self.domains.now (signatures_in c.args.self.domains.now c.args.self.funs.now) (scope_of c.args.context.now) (facts_of c.args.context.now) c.args.guard.now c.args.body.now c.args.row.now c.args.at _ _ c.args.guarded (c.if-guarded.false) c.rule.ensures

pub guarded-held-requires : goal.guarded-held-requires
guarded-held-requires t c =
    let room = rw (c.if-guarded.true) at c.requires.room in
    (omega arith, (c.requires.ready, (c.requires.fits, (c.requires.words, (c.requires.small, (c.requires.legible, omega (arith, room)))))))

pub branch-held-requires : goal.branch-held-requires
branch-held-requires t c =
    let g = ap resolved_term_tokens c.get.ensures in
    let k = ap resolved_rule_tokens c.get-2.ensures in (
      omega (arith, k),
      (
        c.requires.ready,
        (
          c.requires.fits,
          (
            c.requires.words,
            (rw c.get.ensures (and_parts _ _ c.requires.legible.holds).0, (rw c.get-2.ensures (above-map c.args.context.now _ _ (λ n h. (and_parts _ _ (and_parts _ _ h).1).0) c.requires.legible), omega (arith, c.requires.room, g, k))),
          ),
        ),
      ),
    )

pub branch-other-requires : goal.branch-other-requires
branch-other-requires t c =
    let h = rw (c.get.ensures, c.get-2.ensures) at c.in_ok-after.ensures in
    let k = ap (λ r. led_if c.args.has_else (resolved_rule_tokens r)) c.get-4.ensures in
    let fits = fits-under-Failed c.get-3.result c.args.context (rw c.get-3.ensures (and_parts _ _ c.requires.legible.holds).0) (omega (arith, c.requires.room, ap resolved_term_tokens c.get-3.ensures)) c.requires.fits in (
      omega (arith, k),
      (
        c.requires.ready,
        (
          fits,
          (
            h.1.words,
            (above-Failed c.args.context _ c.get-3.result (rw c.get-4.ensures (above-map c.args.context.now _ _ (λ n h. (and_parts _ _ (and_parts _ _ h).1).1) c.requires.legible)), omega (arith, c.requires.room, h.1.place, k)),
          ),
        ),
      ),
    )

pub branch-returns : goal.branch-returns
branch-returns t c =
    if-ok c.args.self.domains.now (signatures_in c.args.self.domains.now c.args.self.funs.now) (scope_of c.args.context.now) (facts_of c.args.context.now) c.args.row.now c.args.at c.args.guard.now c.args.then_rule.now c.args.else_rule.now c.args.has_else _ _ _ _ (rw (c.get.ensures, c.get-2.ensures) at c.in_ok-after.ensures)
    (rw (c.get-3.ensures, c.get-4.ensures) at (else-Failed c.args.self.domains.now (signatures_in c.args.self.domains.now c.args.self.funs.now) c.args.context c.get-3.result c.args.has_else c.get-4.result.now _ _ (Ok _) _ c.in_ok-after-2.ensures))

pub branch-returns-in_err-after : goal.branch-returns-in_err-after
branch-returns-in_err-after t c =
    let found = if-first c.args.self.domains.now (signatures_in c.args.self.domains.now c.args.self.funs.now) (scope_of c.args.context.now) (facts_of c.args.context.now) c.args.row.now c.args.at c.args.guard.now c.args.then_rule.now c.args.else_rule.now c.args.has_else _ c.held.new.row (rw (c.get.ensures, c.get-2.ensures) at c.in_err-after.ensures) in
    grind (arith, found)

pub branch-returns-in_err-after-2 : goal.branch-returns-in_err-after-2
branch-returns-in_err-after-2 t c =
    let found = if-second c.args.self.domains.now (signatures_in c.args.self.domains.now c.args.self.funs.now) (scope_of c.args.context.now) (facts_of c.args.context.now) c.args.row.now c.args.at c.args.guard.now c.args.then_rule.now c.args.else_rule.now c.args.has_else _ _ c.held.new.row c.other.new.row (rw (c.get.ensures, c.get-2.ensures) at c.in_ok-after.ensures)
    (rw (c.get-3.ensures, c.get-4.ensures) at (else-Failed c.args.self.domains.now (signatures_in c.args.self.domains.now c.args.self.funs.now) c.args.context c.get-3.result c.args.has_else c.get-4.result.now c.held.new.row _ (Err _) c.other.new.row c.in_err-after-2.ensures)) in
    grind (arith, found)

pub forall-guarded-requires : goal.forall-guarded-requires
forall-guarded-requires t c =
    let parts = and_parts _ _ c.requires.legible.holds in
    let here = and_parts _ _ parts.0 in
    let less : c.requires.legible.from ≤ c.args.binder = leb-true _ _ here.1 in
    let word : IsWord c.domain_interval-interval.result = rw c.domain_interval-interval.ensures (interval-word c.args.self.domains.now c.args.domain c.requires.ready.all_domains (ltb-true _ _ here.0)) in
    let fits = fits-in-Over c.args.binder c.requires.legible.from c.domain_interval-interval.result c.args.context c.requires.legible.above less c.requires.fits word in
    let words : all_words c.bind.new.row ≡ true = rw c.bind.ensures (set-word c.args.row.now c.args.binder c.domain_interval-interval.result c.requires.words word) in
    let g = ap resolved_term_tokens c.get.ensures in
    let k = ap resolved_rule_tokens c.get-2.ensures in
    let inside = and_parts _ _ parts.1 in (
      omega (arith, k),
      (
        c.requires.ready,
        (
          fits,
          (
            words,
            (
              rw c.get.ensures inside.0,
              (above-Over c.args.context _ c.args.binder c.requires.legible.from _ c.requires.legible.above less (rw c.get-2.ensures inside.1), rw (c.get.ensures, c.get-2.ensures) (omega (arith, c.requires.room))),
            ),
          ),
        ),
      ),
    )

pub forall-returns : goal.forall-returns
forall-returns t c =
    forall-ok c.args.self.domains.now (signatures_in c.args.self.domains.now c.args.self.funs.now) (scope_of c.args.context.now) (facts_of c.args.context.now) c.args.row.now c.args.at c.args.binder c.args.domain c.args.guard.now c.args.body.now c.args.guarded _ _ (rw (c.get.ensures, c.get-2.ensures, c.bind.ensures, c.domain_interval-interval.ensures) at (guarded-Over c.args.self.domains.now (signatures_in c.args.self.domains.now c.args.self.funs.now) c.args.context c.args.binder c.domain_interval-interval.result c.get.result.now c.get-2.result.now c.bind.new.row _ (Ok _) _ c.args.guarded c.in_ok-after.ensures))

pub forall-returns-in_err-after : goal.forall-returns-in_err-after
forall-returns-in_err-after t c =
    let found = forall-err c.args.self.domains.now (signatures_in c.args.self.domains.now c.args.self.funs.now) (scope_of c.args.context.now) (facts_of c.args.context.now) c.args.row.now c.args.at c.args.binder c.args.domain c.args.guard.now c.args.body.now c.args.guarded _ c.guarded.new.row (rw (c.get.ensures, c.get-2.ensures, c.domain_interval-interval.ensures) at (guarded-Over c.args.self.domains.now (signatures_in c.args.self.domains.now c.args.self.funs.now) c.args.context c.args.binder c.domain_interval-interval.result c.get.result.now c.get-2.result.now c.bind.new.row _ (Err _) c.guarded.new.row c.args.guarded c.in_err-after.ensures)) in
    grind (arith, found)

pub choose-held-requires : goal.choose-held-requires
choose-held-requires t c =
    let parts = and_parts _ _ c.requires.legible.holds in
    let here = and_parts _ _ parts.0 in
    let less : c.requires.legible.from ≤ c.args.binder = leb-true _ _ here.1 in
    let word : IsWord c.domain_interval-interval.result = rw c.domain_interval-interval.ensures (interval-word c.args.self.domains.now c.args.domain c.requires.ready.all_domains (ltb-true _ _ here.0)) in
    let fits = fits-in-Over c.args.binder c.requires.legible.from c.domain_interval-interval.result c.args.context c.requires.legible.above less c.requires.fits word in
    let words : all_words c.bind.new.row ≡ true = rw c.bind.ensures (set-word c.args.row.now c.args.binder c.domain_interval-interval.result c.requires.words word) in
    let g = ap resolved_term_tokens c.get.ensures in
    let k = ap resolved_rule_tokens c.get-2.ensures in
    let inside = and_parts _ _ parts.1 in
    let rest = and_parts _ _ inside.1 in (
      omega (arith, k),
      (
        c.requires.ready,
        (
          fits,
          (
            words,
            (
              rw c.get.ensures inside.0,
              (above-Over c.args.context _ c.args.binder c.requires.legible.from _ c.requires.legible.above less (rw c.get-2.ensures rest.0), rw (c.get.ensures, c.get-2.ensures) (omega (arith, c.requires.room))),
            ),
          ),
        ),
      ),
    )

pub choose-other-requires : goal.choose-other-requires
choose-other-requires t c =
    let h = rw (c.get.ensures, c.get-2.ensures) at c.in_ok-after.ensures in
    let k = ap (λ r. led_if c.args.has_else (resolved_rule_tokens r)) c.get-3.ensures in (
      omega (arith, k),
      (
        c.requires.ready,
        (
          c.requires.fits,
          (
            h.1.words,
            (rw c.get-3.ensures (above-map c.args.context.now _ _ (λ n h. choose-else c.args.self.domains.now c.args.binder c.args.domain c.args.guard.now c.args.body.now c.args.else_rule.now c.args.has_else n h) c.requires.legible), omega (arith, c.requires.room, h.1.place, k)),
          ),
        ),
      ),
    )

pub choose-returns : goal.choose-returns
choose-returns t c =
    choose-ok c.args.self.domains.now (signatures_in c.args.self.domains.now c.args.self.funs.now) (scope_of c.args.context.now) (facts_of c.args.context.now) c.args.row.now c.args.at c.args.binder c.args.domain c.args.guard.now c.args.body.now c.args.else_rule.now c.args.has_else _ _ _ _ (rw (c.get.ensures, c.get-2.ensures, c.bind.ensures, c.domain_interval-interval.ensures) at (held-Over c.args.self.domains.now (signatures_in c.args.self.domains.now c.args.self.funs.now) c.args.context c.args.binder c.domain_interval-interval.result c.get.result.now c.get-2.result.now c.bind.new.row _ (Ok _) _ c.in_ok-after.ensures)) (rw c.get-3.ensures at c.in_ok-after-2.ensures)

pub choose-returns-in_err-after : goal.choose-returns-in_err-after
choose-returns-in_err-after t c =
    let found = choose-first c.args.self.domains.now (signatures_in c.args.self.domains.now c.args.self.funs.now) (scope_of c.args.context.now) (facts_of c.args.context.now) c.args.row.now c.args.at c.args.binder c.args.domain c.args.guard.now c.args.body.now c.args.else_rule.now c.args.has_else _ c.held.new.row (rw (c.get.ensures, c.get-2.ensures, c.domain_interval-interval.ensures) at (held-Over c.args.self.domains.now (signatures_in c.args.self.domains.now c.args.self.funs.now) c.args.context c.args.binder c.domain_interval-interval.result c.get.result.now c.get-2.result.now c.bind.new.row _ (Err _) c.held.new.row c.in_err-after.ensures)) in
    grind (arith, found)

pub choose-returns-in_err-after-2 : goal.choose-returns-in_err-after-2
choose-returns-in_err-after-2 t c =
    let found = choose-second c.args.self.domains.now (signatures_in c.args.self.domains.now c.args.self.funs.now) (scope_of c.args.context.now) (facts_of c.args.context.now) c.args.row.now c.args.at c.args.binder c.args.domain c.args.guard.now c.args.body.now c.args.else_rule.now c.args.has_else _ _ _ c.other.new.row (rw (c.get.ensures, c.get-2.ensures, c.bind.ensures, c.domain_interval-interval.ensures) at (held-Over c.args.self.domains.now (signatures_in c.args.self.domains.now c.args.self.funs.now) c.args.context c.args.binder c.domain_interval-interval.result c.get.result.now c.get-2.result.now c.bind.new.row _ (Ok _) _ c.in_ok-after.ensures)) (rw c.get-3.ensures at c.in_err-after-2.ensures) in
    grind (arith, found)

pub local-rule-requires : goal.local-rule-requires
local-rule-requires t c =
    let parts = and_parts _ _ c.requires.legible.holds in
    let less : c.requires.legible.from ≤ c.args.binder = leb-true _ _ parts.0 in
    let h = c.in_ok-found.ensures.1 in
    let fits = fits-in-Bounded c.args.binder c.requires.legible.from _ c.args.context c.requires.legible.above less c.requires.fits h.word _ h.part in
    let words : all_words c.bind.new.row ≡ true = rw c.bind.ensures (set-word c.args.row.now c.args.binder _ c.requires.words h.word) in
    let g = ap resolved_term_tokens c.get.ensures in
    let k = ap resolved_rule_tokens c.get-2.ensures in
    (omega (arith, k), (c.requires.ready, (fits, (words, (above-Bounded c.args.context _ c.args.binder c.requires.legible.from _ _ c.requires.legible.above less (rw c.get-2.ensures (and_parts _ _ parts.1).1), omega (arith, c.requires.room, h.after, g, k))))))

pub local-returns : goal.local-returns
local-returns t c =
    let value = rw c.get.ensures at c.in_ok-found.ensures in
    let body = rule-Bounded c.args.self.domains.now (signatures_in c.args.self.domains.now c.args.self.funs.now) c.args.context c.get-2.result.now c.bind.new.row _ (Ok _) _ c.args.binder _ _ c.in_ok-after.ensures in
    let-ok c.args.self.domains.now (signatures_in c.args.self.domains.now c.args.self.funs.now) (scope_of c.args.context.now) (facts_of c.args.context.now) c.args.row.now c.args.at c.args.binder c.args.value.now c.args.body.now _ _ _ value.0 value.1.after value.1.is_plain value.1.is_refined _ _ (rw (c.get-2.ensures, c.bind.ensures) at body)

pub local-returns-in_err-after : goal.local-returns-in_err-after
local-returns-in_err-after t c =
    let value = rw c.get.ensures at c.in_ok-found.ensures in
    let body = rule-Bounded c.args.self.domains.now (signatures_in c.args.self.domains.now c.args.self.funs.now) c.args.context c.get-2.result.now c.bind.new.row _ (Err _) c.rule.new.row c.args.binder _ _ c.in_err-after.ensures in
    let found = let-err c.args.self.domains.now (signatures_in c.args.self.domains.now c.args.self.funs.now) (scope_of c.args.context.now) (facts_of c.args.context.now) c.args.row.now c.args.at c.args.binder c.args.value.now c.args.body.now _ _ _ value.0 value.1.after value.1.is_plain value.1.is_refined _ c.rule.new.row (rw c.get-2.ensures at body) in
    grind (arith, found)

pub local-returns-in_err-found : goal.local-returns-in_err-found
local-returns-in_err-found t c =
    let found = let-first c.args.self.domains.now (signatures_in c.args.self.domains.now c.args.self.funs.now) (scope_of c.args.context.now) (facts_of c.args.context.now) c.args.at c.args.binder c.args.value.now c.args.body.now _ (rw c.get.ensures at c.in_err-found.ensures) in
    grind (arith, found)

pub rule-returns-in-Skip : goal.rule-returns-in-Skip
rule-returns-in-Skip t c =
    whole_rule ResolvedRule-F.Skip _ (rules.rolls-Skip ∙ sym c.in-Skip.is) _ _ c.args.context.now _ _ (Ok (c.args.at + 1)) _ (refl, record { place = refl; row = refl; words = c.requires.words })

pub rule-branch-self-requires : goal.rule-branch-self-requires
rule-branch-self-requires t c =
    let h = handed_rule (ResolvedRule-F.If c.in-If.guard c.in-If.then_rule c.in-If.else_rule c.in-If.has_else) c.args.rule.now (rules.rolls-If c.in-If.guard c.in-If.then_rule c.in-If.else_rule c.in-If.has_else ∙ sym c.in-If.is) c.args.self.domains.now c.args.context.now c.args.at c.requires.legible c.requires.room in
    (omega (arith, h.0), (c.requires.ready, (c.requires.fits, (c.requires.words, (h.1, h.2)))))

pub rule-returns-in-If : goal.rule-returns-in-If
rule-returns-in-If t c =
    whole_rule (ResolvedRule-F.If c.in-If.guard c.in-If.then_rule c.in-If.else_rule c.in-If.has_else) c.args.rule.now (rules.rolls-If c.in-If.guard c.in-If.then_rule c.in-If.else_rule c.in-If.has_else ∙ sym c.in-If.is) _ _ c.args.context.now _ _ c.branch-self.result c.branch-self.new.row c.branch-self.ensures

pub rule-forall-requires : goal.rule-forall-requires
rule-forall-requires t c =
    let h = handed_rule (ResolvedRule-F.Forall c.in-Forall.binder c.in-Forall.domain c.in-Forall.guard c.in-Forall.guarded c.in-Forall.body) c.args.rule.now (rules.rolls-Forall c.in-Forall.binder c.in-Forall.domain c.in-Forall.guard c.in-Forall.guarded c.in-Forall.body ∙ sym c.in-Forall.is) c.args.self.domains.now c.args.context.now c.args.at c.requires.legible c.requires.room in
    (omega (arith, h.0), (c.requires.ready, (c.requires.fits, (c.requires.words, (h.1, h.2)))))

pub rule-returns-in-Forall : goal.rule-returns-in-Forall
rule-returns-in-Forall t c =
    whole_rule (ResolvedRule-F.Forall c.in-Forall.binder c.in-Forall.domain c.in-Forall.guard c.in-Forall.guarded c.in-Forall.body) c.args.rule.now (rules.rolls-Forall c.in-Forall.binder c.in-Forall.domain c.in-Forall.guard c.in-Forall.guarded c.in-Forall.body ∙ sym c.in-Forall.is) _ _ c.args.context.now _ _ c.forall.result c.forall.new.row c.forall.ensures

pub rule-choose-requires : goal.rule-choose-requires
rule-choose-requires t c =
    let h = handed_rule (ResolvedRule-F.Choose c.in-Choose.binder c.in-Choose.domain c.in-Choose.guard c.in-Choose.body c.in-Choose.else_rule c.in-Choose.has_else) c.args.rule.now (rules.rolls-Choose c.in-Choose.binder c.in-Choose.domain c.in-Choose.guard c.in-Choose.body c.in-Choose.else_rule c.in-Choose.has_else ∙ sym c.in-Choose.is) c.args.self.domains.now c.args.context.now c.args.at c.requires.legible c.requires.room in
    (omega (arith, h.0), (c.requires.ready, (c.requires.fits, (c.requires.words, (h.1, h.2)))))

pub rule-returns-in-Choose : goal.rule-returns-in-Choose
rule-returns-in-Choose t c =
    whole_rule (ResolvedRule-F.Choose c.in-Choose.binder c.in-Choose.domain c.in-Choose.guard c.in-Choose.body c.in-Choose.else_rule c.in-Choose.has_else) c.args.rule.now (rules.rolls-Choose c.in-Choose.binder c.in-Choose.domain c.in-Choose.guard c.in-Choose.body c.in-Choose.else_rule c.in-Choose.has_else ∙ sym c.in-Choose.is) _ _ c.args.context.now _ _ c.choose.result c.choose.new.row c.choose.ensures

pub rule-local-requires : goal.rule-local-requires
rule-local-requires t c =
    let h = handed_rule (ResolvedRule-F.Let c.in-Let.binder c.in-Let.value c.in-Let.body) c.args.rule.now (rules.rolls-Let c.in-Let.binder c.in-Let.value c.in-Let.body ∙ sym c.in-Let.is) c.args.self.domains.now c.args.context.now c.args.at c.requires.legible c.requires.room in
    (omega (arith, h.0), (c.requires.ready, (c.requires.fits, (c.requires.words, (h.1, h.2)))))

pub rule-returns-in-Let : goal.rule-returns-in-Let
rule-returns-in-Let t c =
    whole_rule (ResolvedRule-F.Let c.in-Let.binder c.in-Let.value c.in-Let.body) c.args.rule.now (rules.rolls-Let c.in-Let.binder c.in-Let.value c.in-Let.body ∙ sym c.in-Let.is) _ _ c.args.context.now _ _ c.local.result c.local.new.row c.local.ensures

pub rule-parallel-requires : goal.rule-parallel-requires
rule-parallel-requires t c =
    let h = handed_rule (ResolvedRule-F.Par c.as_slice.result.now) c.args.rule.now (cc (rules.rolls-Par c.as_slice.result.now, c.as_slice.ensures, c.in-Par.is)) c.args.self.domains.now c.args.context.now c.args.at c.requires.legible c.requires.room in
    (omega (arith, h.0), (c.requires.ready, (c.requires.fits, (c.requires.words, (h.1, h.2)))))

pub rule-returns-in-Par : goal.rule-returns-in-Par
rule-returns-in-Par t c =
    whole_rule (ResolvedRule-F.Par c.as_slice.result.now) c.args.rule.now (cc (rules.rolls-Par c.as_slice.result.now, c.as_slice.ensures, c.in-Par.is)) _ _ c.args.context.now _ _ c.parallel.result c.parallel.new.row c.parallel.ensures

pub rule-update-requires : goal.rule-update-requires
rule-update-requires t c =
    let h = handed_rule (ResolvedRule-F.Update c.in-Update.fun c.in-Update.args c.in-Update.value) c.args.rule.now (rules.rolls-Update c.in-Update.fun c.in-Update.args c.in-Update.value ∙ sym c.in-Update.is) c.args.self.domains.now c.args.context.now c.args.at c.requires.legible c.requires.room in
    let small = and_parts _ _ h.1.holds in
    record { ready = c.requires.ready; fits = c.requires.fits; args = small.0; value = small.1; room = h.2 }

pub rule-returns-in-Update : goal.rule-returns-in-Update
rule-returns-in-Update t c =
    updated (ResolvedRule-F.Update c.in-Update.fun c.in-Update.args c.in-Update.value) c.args.rule.now (rules.rolls-Update c.in-Update.fun c.in-Update.args c.in-Update.value ∙ sym c.in-Update.is) _ _ c.args.context.now _ _ c.update.result c.requires.words (λ _. refl) c.update.ensures
