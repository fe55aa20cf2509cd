use Rattle.std.proofs.Common.{◌≡◌, map, sym, ap, ◌∙◌, arith, rules, w64}
use Rattle.std.{proofs.{Math.ListN.{drop_of_length-le}, lemmas.{Bool.{eqb-true, and_parts}, List.{nil_from_length}, List.Folds.{list_all-map}, Int.{to_z-of_z}}}}
use Rattle.asm_names.specs.{declared.resolved_term.ResolvedTerm.{ResolvedTerm-F}, ResolvedPlaces.{resolved_term_tokens}, Places.{parted}}
use Rattle.asm_ranges.specs.{Faults.{first_fault, either}, Contexts.{small_numbers, signatures_in, scope_of, facts_of}}
use Rattle.state_space.specs.{Codomains.{just}, Locations.{range_of}}
use Rattle.asm_ranges.proofs.{InTurn.{all-at, parted-drop, left-from, args-next, filled, domains-some, domains-none}, Firsts.{first-append, first-none, either-none, either-both}, CutSteps.{near-part}, Measures.{near-below, word-near, codomain-word}}
use Rattle.asm_ranges.proofs.TermForms.{handed, fits-under-Held, fits-under-Failed, finds-Number, finds-Var, finds-Read, finds-Not, finds-Binary, finds-Min, finds-Max, finds-Cond}
use Rattle.asm_names.proofs.Separated.{parted-in_parentheses}
use Rattle.asm_names.specs.declared.resolved_term.ResolvedTerm.TheVariants as terms
use Rattle.asm_ranges.proofs.plain.RangeChecker.+term.Goals as goal

-- ---- arguments

pub args-term-next-requires : goal.args-term-next-requires
args-term-next-requires t c =
    let next = ap (λ ts. parted (map resolved_term_tokens ts)) (left-from c.loop-index.index c.args.args.now c.index-args-index.result c.loop-index-test.true c.index-args-index.is) in
    let less = parted-drop c.loop-index.index c.args.args.now in (
      omega (arith, next, less),
      (
        c.requires.ready,
        (
          c.requires.fits,
          (
            all-at small_numbers c.args.args.now c.loop-index.index c.index-args-index.result c.requires.small c.loop-index-test.true c.index-args-index.is,
            omega (arith, next, c.loop-index.invariant.after, c.requires.room),
          ),
        ),
      ),
    )

pub args-loop-index-preserved : goal.args-loop-index-preserved
args-loop-index-preserved t c =
    let next = ap (λ ts. parted (map resolved_term_tokens ts)) (left-from c.loop-index.index c.args.args.now c.index-args-index.result c.loop-index-test.true c.index-args-index.is) in
    let all = args-next c.loop-index.index c.args.args.now c.index-args-index.result c.loop-index-test.true c.index-args-index.is
    (signatures_in c.args.self.domains.now c.args.self.funs.now) (scope_of c.args.context.now) (facts_of c.args.context.now) c.args.self.domains.now c.args.domains.now c.loop-index.found.after in
    let here = ap first_fault all ∙ first-append _ _ in
    record {
      after = omega (arith, next, c.loop-index.invariant.after, c.term-next.ensures.after);
      first = rw (c.either-found.ensures, c.term-next.ensures.after, either-both, c.term-next.ensures.first, c.needed-need.ensures) (c.loop-index.invariant.first ∙ ap (either c.loop-index.found.fault) here);
    }

pub args-returns : goal.args-returns
args-returns t c =
    let past = drop_of_length-le c.args.args.now c.loop-index-test.false in
    record {
      after = omega (arith, rw past at c.loop-index.invariant.after);
      first = sym (rw past at c.loop-index.invariant.first ∙ (ap (either c.loop-index.found.fault) first-none ∙ either-none _));
    }

pub arguments-returns-then-is_empty : goal.arguments-returns-then-is_empty
arguments-returns-then-is_empty t c =
    rw (nil_from_length c.args.args.now (eqb-true _ 0 (sym c.if-is_empty.ensures))) (record { after = omega arith; first = sym first-none })

pub arguments-returns-in-Some : goal.arguments-returns-in-Some
arguments-returns-in-Some t c =
    let tokens = filled resolved_term_tokens c.args.args.now (c.if-is_empty.ensures) in
    let domains = domains-some c.args.self.domains.now c.args.self.funs.now c.args.fun c.in-Some.found.now c.in-Some.ensures.lookup.0 c.in-Some.ensures.lookup.1 ∙ ap (map (range_of c.args.self.domains.now)) (sym c.as_slice.ensures) in
    rw (tokens, domains) (record { after = omega (arith, c.args-in-Some.ensures.after); first = c.args-in-Some.ensures.first })

pub arguments-returns-in-None : goal.arguments-returns-in-None
arguments-returns-in-None t c =
    let tokens = filled resolved_term_tokens c.args.args.now (c.if-is_empty.ensures) in
    let domains = domains-none c.args.self.domains.now c.args.self.funs.now c.args.fun c.in-None.ensures.lookup.0 in
    rw (tokens, domains) (record { after = omega (arith, c.args-in-None.ensures.after); first = c.args-in-None.ensures.first })

-- ---- terms

pub term-returns-in-Number : goal.term-returns-in-Number
term-returns-in-Number t c =
    let is : c.just-range.result ≡ just c.in-Number.value = c.just-range.ensures ∙ ap just (to_z-of_z w64 c.in-Number.value (search rules)) in
    finds-Number (signatures_in c.args.self.domains.now c.args.self.funs.now) c.args.context.now c.args.term.now c.args.need c.args.at c.closed.result c.in-Number.value (terms.rolls-Number c.in-Number.value ∙ sym c.in-Number.is) _ _ _ is c.requires.small c.after.ensures.fault c.after.ensures.after c.closed.ensures.plain c.closed.ensures.refined c.closed.ensures.after c.closed.ensures.fault

pub term-cuts-refined-requires : goal.term-cuts-refined-requires
term-cuts-refined-requires t c =
    record { ready = c.requires.ready; fits = c.requires.fits; known = c.requires.fits; near = near-part _ _ _ c.binder_start-begun.ensures.part (word-near _ _ c.binder_start-begun.ensures.word (omega arith)) }

pub term-returns-in-Var : goal.term-returns-in-Var
term-returns-in-Var t c =
    finds-Var (signatures_in c.args.self.domains.now c.args.self.funs.now) c.args.context.now c.args.term.now c.args.need c.args.at c.closed-in-Var.result c.in-Var.binder (terms.rolls-Var c.in-Var.binder ∙ sym c.in-Var.is) _ _ _ _ _ c.binder_start-begun.ensures c.cuts-refined.ensures c.after-in-Var.ensures.fault c.after-in-Var.ensures.after c.closed-in-Var.ensures.plain c.closed-in-Var.ensures.refined c.closed-in-Var.ensures.after c.closed-in-Var.ensures.fault

pub term-arguments-inner-requires : goal.term-arguments-inner-requires
term-arguments-inner-requires t c =
    let h = handed (ResolvedTerm-F.Read c.in-Read.fun c.in-Read.args) c.args.term.now (terms.rolls-Read c.in-Read.fun c.in-Read.args ∙ sym c.in-Read.is) c.args.at c.requires.small c.requires.room in (
      omega (arith, h.0, ap (λ ts. parted (map resolved_term_tokens ts)) c.as_slice.ensures, parted-in_parentheses (map resolved_term_tokens c.in-Read.args)),
      (c.requires.ready, (c.requires.fits, (rw c.as_slice.ensures (sym (list_all-map (λ small. small) small_numbers c.in-Read.args) ∙ h.1), rw c.as_slice.ensures (omega (arith, h.2))))),
    )

pub term-cuts-refined-requires-in-Read : goal.term-cuts-refined-requires-in-Read
term-cuts-refined-requires-in-Read t c =
    record { ready = c.requires.ready; fits = c.requires.fits; known = c.requires.fits; near = rw c.codomain-plain.ensures (word-near _ _ (codomain-word c.args.self.domains.now c.args.self.funs.now c.in-Read.fun c.requires.ready.all_domains c.requires.ready.all_funs) (omega arith)) }

pub term-returns-in-Read : goal.term-returns-in-Read
term-returns-in-Read t c =
    finds-Read c.args.self.domains.now c.args.self.funs.now c.args.context.now c.args.term.now c.args.need c.args.at c.closed-in-Read.result c.in-Read.fun c.in-Read.args (terms.rolls-Read c.in-Read.fun c.in-Read.args ∙ sym c.in-Read.is) c.requires.ready _ _ _ (rw c.as_slice.ensures at c.arguments-inner.ensures) c.codomain-plain.ensures c.cuts-refined-in-Read.ensures c.closed-in-Read.ensures.plain c.closed-in-Read.ensures.refined c.closed-in-Read.ensures.after c.closed-in-Read.ensures.fault

pub term-pair-requires : goal.term-pair-requires
term-pair-requires t c =
    let h = handed (ResolvedTerm-F.Binary c.in-Binary.op c.in-Binary.left c.in-Binary.right) c.args.term.now (terms.rolls-Binary c.in-Binary.op c.in-Binary.left c.in-Binary.right ∙ sym c.in-Binary.is) c.args.at c.requires.small c.requires.room in
    let l = ap resolved_term_tokens c.get.ensures in
    let r = ap resolved_term_tokens c.get-in-Binary.ensures in
    let small = and_parts _ _ h.1 in
    (omega (arith, h.0, l, r), (c.requires.ready, (c.requires.fits, (rw c.get.ensures small.0, (rw c.get-in-Binary.ensures small.1, omega (arith, h.2, l, r))))))

pub term-of-requires : goal.term-of-requires
term-of-requires t c =
    let h = handed (ResolvedTerm-F.Binary c.in-Binary.op c.in-Binary.left c.in-Binary.right) c.args.term.now (terms.rolls-Binary c.in-Binary.op c.in-Binary.left c.in-Binary.right ∙ sym c.in-Binary.is) c.args.at c.requires.small c.requires.room in
    let l = ap resolved_term_tokens c.get.ensures in
    let r = ap resolved_term_tokens c.get-in-Binary.ensures in
    omega (arith, h.2, l, r, c.pair.ensures.second.after)

pub term-binary_range-plain-requires-clause-left : goal.term-binary_range-plain-requires-clause-left
term-binary_range-plain-requires-clause-left t c =
    let h = handed (ResolvedTerm-F.Binary c.in-Binary.op c.in-Binary.left c.in-Binary.right) c.args.term.now (terms.rolls-Binary c.in-Binary.op c.in-Binary.left c.in-Binary.right ∙ sym c.in-Binary.is) c.args.at c.requires.small c.requires.room in
    near-below _ _ _ c.pair.ensures.first.near (omega (arith, h.2, ap resolved_term_tokens c.get.ensures, ap resolved_term_tokens c.get-in-Binary.ensures))

pub term-binary_range-plain-requires-clause-right : goal.term-binary_range-plain-requires-clause-right
term-binary_range-plain-requires-clause-right t c =
    let h = handed (ResolvedTerm-F.Binary c.in-Binary.op c.in-Binary.left c.in-Binary.right) c.args.term.now (terms.rolls-Binary c.in-Binary.op c.in-Binary.left c.in-Binary.right ∙ sym c.in-Binary.is) c.args.at c.requires.small c.requires.room in
    near-below _ _ _ c.pair.ensures.second.near (omega (arith, h.2, ap resolved_term_tokens c.get.ensures, ap resolved_term_tokens c.get-in-Binary.ensures))

pub term-binary_range-refined-requires-clause-left : goal.term-binary_range-refined-requires-clause-left
term-binary_range-refined-requires-clause-left t c =
    let h = handed (ResolvedTerm-F.Binary c.in-Binary.op c.in-Binary.left c.in-Binary.right) c.args.term.now (terms.rolls-Binary c.in-Binary.op c.in-Binary.left c.in-Binary.right ∙ sym c.in-Binary.is) c.args.at c.requires.small c.requires.room in
    near-below _ _ _ (near-part _ _ _ c.pair.ensures.first.part c.pair.ensures.first.near) (omega (arith, h.2, ap resolved_term_tokens c.get.ensures, ap resolved_term_tokens c.get-in-Binary.ensures))

pub term-binary_range-refined-requires-clause-right : goal.term-binary_range-refined-requires-clause-right
term-binary_range-refined-requires-clause-right t c =
    let h = handed (ResolvedTerm-F.Binary c.in-Binary.op c.in-Binary.left c.in-Binary.right) c.args.term.now (terms.rolls-Binary c.in-Binary.op c.in-Binary.left c.in-Binary.right ∙ sym c.in-Binary.is) c.args.at c.requires.small c.requires.room in
    near-below _ _ _ (near-part _ _ _ c.pair.ensures.second.part c.pair.ensures.second.near) (omega (arith, h.2, ap resolved_term_tokens c.get.ensures, ap resolved_term_tokens c.get-in-Binary.ensures))

pub term-returns-in-Binary : goal.term-returns-in-Binary
term-returns-in-Binary t c =
    finds-Binary (signatures_in c.args.self.domains.now c.args.self.funs.now) c.args.context.now c.args.term.now c.args.need c.args.at c.closed-in-Binary.result c.in-Binary.left c.in-Binary.right _ _ _ _ _ _ c.in-Binary.op (terms.rolls-Binary c.in-Binary.op c.in-Binary.left c.in-Binary.right ∙ sym c.in-Binary.is) _
    (rw c.get.ensures at c.pair.ensures.first) (rw (c.get.ensures, c.get-in-Binary.ensures) at c.pair.ensures.second) c.binary_range-plain.ensures c.binary_range-refined.ensures c.wide.ensures c.of.ensures.after c.of.ensures.fault
    c.closed-in-Binary.ensures.plain c.closed-in-Binary.ensures.refined c.closed-in-Binary.ensures.after c.closed-in-Binary.ensures.fault

pub term-term-found-requires : goal.term-term-found-requires
term-term-found-requires t c =
    let h = handed (ResolvedTerm-F.Not c.in-Not.inner) c.args.term.now (terms.rolls-Not c.in-Not.inner ∙ sym c.in-Not.is) c.args.at c.requires.small c.requires.room in
    let l = ap resolved_term_tokens c.get-in-Not.ensures in
    (omega (arith, h.0, l), (c.requires.ready, (c.requires.fits, (rw c.get-in-Not.ensures h.1, omega (arith, h.2, l)))))

pub term-returns-in-Not : goal.term-returns-in-Not
term-returns-in-Not t c =
    finds-Not (signatures_in c.args.self.domains.now c.args.self.funs.now) c.args.context.now c.args.term.now c.args.need c.args.at c.closed-in-Not.result c.in-Not.inner (terms.rolls-Not c.in-Not.inner ∙ sym c.in-Not.is) _ _ _ c.truths.ensures c.truths-in-Not.ensures (rw c.get-in-Not.ensures at c.term-found.ensures)
    c.closed-in-Not.ensures.plain c.closed-in-Not.ensures.refined c.closed-in-Not.ensures.after c.closed-in-Not.ensures.fault

pub term-pair-requires-in-Min : goal.term-pair-requires-in-Min
term-pair-requires-in-Min t c =
    let h = handed (ResolvedTerm-F.Min c.in-Min.first c.in-Min.second) c.args.term.now (terms.rolls-Min c.in-Min.first c.in-Min.second ∙ sym c.in-Min.is) c.args.at c.requires.small c.requires.room in
    let l = ap resolved_term_tokens c.get-in-Min.ensures in
    let r = ap resolved_term_tokens c.get-in-Min-2.ensures in
    let small = and_parts _ _ h.1 in
    (omega (arith, h.0, l, r), (c.requires.ready, (c.requires.fits, (rw c.get-in-Min.ensures small.0, (rw c.get-in-Min-2.ensures small.1, omega (arith, h.2, l, r))))))

pub term-of-requires-in-Min : goal.term-of-requires-in-Min
term-of-requires-in-Min t c =
    let h = handed (ResolvedTerm-F.Min c.in-Min.first c.in-Min.second) c.args.term.now (terms.rolls-Min c.in-Min.first c.in-Min.second ∙ sym c.in-Min.is) c.args.at c.requires.small c.requires.room in
    let l = ap resolved_term_tokens c.get-in-Min.ensures in
    let r = ap resolved_term_tokens c.get-in-Min-2.ensures in
    omega (arith, h.2, l, r, c.pair-in-Min.ensures.second.after)

pub term-returns-in-Min : goal.term-returns-in-Min
term-returns-in-Min t c =
    finds-Min (signatures_in c.args.self.domains.now c.args.self.funs.now) c.args.context.now c.args.term.now c.args.need c.args.at c.closed-in-Min.result c.in-Min.first c.in-Min.second _ _ _ _ _ _
    (rw c.get-in-Min.ensures at c.pair-in-Min.ensures.first) (rw (c.get-in-Min.ensures, c.get-in-Min-2.ensures) at c.pair-in-Min.ensures.second) c.of-in-Min.ensures.after c.of-in-Min.ensures.fault
    c.closed-in-Min.ensures.plain c.closed-in-Min.ensures.refined c.closed-in-Min.ensures.after c.closed-in-Min.ensures.fault
    (terms.rolls-Min c.in-Min.first c.in-Min.second ∙ sym c.in-Min.is) c.lesser-plain.ensures.low c.lesser-plain.ensures.high c.lesser-refined.ensures.low c.lesser-refined.ensures.high

pub term-pair-requires-in-Max : goal.term-pair-requires-in-Max
term-pair-requires-in-Max t c =
    let h = handed (ResolvedTerm-F.Max c.in-Max.first c.in-Max.second) c.args.term.now (terms.rolls-Max c.in-Max.first c.in-Max.second ∙ sym c.in-Max.is) c.args.at c.requires.small c.requires.room in
    let l = ap resolved_term_tokens c.get-in-Max.ensures in
    let r = ap resolved_term_tokens c.get-in-Max-2.ensures in
    let small = and_parts _ _ h.1 in
    (omega (arith, h.0, l, r), (c.requires.ready, (c.requires.fits, (rw c.get-in-Max.ensures small.0, (rw c.get-in-Max-2.ensures small.1, omega (arith, h.2, l, r))))))

pub term-of-requires-in-Max : goal.term-of-requires-in-Max
term-of-requires-in-Max t c =
    let h = handed (ResolvedTerm-F.Max c.in-Max.first c.in-Max.second) c.args.term.now (terms.rolls-Max c.in-Max.first c.in-Max.second ∙ sym c.in-Max.is) c.args.at c.requires.small c.requires.room in
    let l = ap resolved_term_tokens c.get-in-Max.ensures in
    let r = ap resolved_term_tokens c.get-in-Max-2.ensures in
    omega (arith, h.2, l, r, c.pair-in-Max.ensures.second.after)

pub term-returns-in-Max : goal.term-returns-in-Max
term-returns-in-Max t c =
    finds-Max (signatures_in c.args.self.domains.now c.args.self.funs.now) c.args.context.now c.args.term.now c.args.need c.args.at c.closed-in-Max.result c.in-Max.first c.in-Max.second _ _ _ _ _ _
    (rw c.get-in-Max.ensures at c.pair-in-Max.ensures.first) (rw (c.get-in-Max.ensures, c.get-in-Max-2.ensures) at c.pair-in-Max.ensures.second) c.of-in-Max.ensures.after c.of-in-Max.ensures.fault
    c.closed-in-Max.ensures.plain c.closed-in-Max.ensures.refined c.closed-in-Max.ensures.after c.closed-in-Max.ensures.fault
    (terms.rolls-Max c.in-Max.first c.in-Max.second ∙ sym c.in-Max.is) c.greater-plain.ensures.low c.greater-plain.ensures.high c.greater-refined.ensures.low c.greater-refined.ensures.high

pub term-term-test-requires : goal.term-term-test-requires
term-term-test-requires t c =
    let h = handed (ResolvedTerm-F.Cond c.in-Cond.guard c.in-Cond.first c.in-Cond.second) c.args.term.now (terms.rolls-Cond c.in-Cond.guard c.in-Cond.first c.in-Cond.second ∙ sym c.in-Cond.is) c.args.at c.requires.small c.requires.room in
    let g = ap resolved_term_tokens c.get-in-Cond.ensures in
    (omega (arith, h.0, g), (c.requires.ready, (c.requires.fits, (rw c.get-in-Cond.ensures (and_parts _ _ h.1).0, omega (arith, h.2, g)))))

pub term-term-before-requires : goal.term-term-before-requires
term-term-before-requires t c =
    let h = handed (ResolvedTerm-F.Cond c.in-Cond.guard c.in-Cond.first c.in-Cond.second) c.args.term.now (terms.rolls-Cond c.in-Cond.guard c.in-Cond.first c.in-Cond.second ∙ sym c.in-Cond.is) c.args.at c.requires.small c.requires.room in
    let g = ap resolved_term_tokens c.get-in-Cond.ensures in
    let k = ap resolved_term_tokens c.get-in-Cond-2.ensures in
    let l = ap resolved_term_tokens c.get-in-Cond-3.ensures in
    let fits = fits-under-Held c.get-in-Cond-2.result c.args.context (rw c.get-in-Cond-2.ensures (and_parts _ _ h.1).0) (omega (arith, h.2, k)) c.requires.fits in
    (omega (arith, h.0, l), (c.requires.ready, (fits, (rw c.get-in-Cond-3.ensures (and_parts _ _ (and_parts _ _ h.1).1).0, omega (arith, h.2, g, l, c.term-test.ensures.after)))))

pub term-term-after-requires : goal.term-term-after-requires
term-term-after-requires t c =
    let h = handed (ResolvedTerm-F.Cond c.in-Cond.guard c.in-Cond.first c.in-Cond.second) c.args.term.now (terms.rolls-Cond c.in-Cond.guard c.in-Cond.first c.in-Cond.second ∙ sym c.in-Cond.is) c.args.at c.requires.small c.requires.room in
    let g = ap resolved_term_tokens c.get-in-Cond.ensures in
    let k = ap resolved_term_tokens c.get-in-Cond-2.ensures in
    let l = ap resolved_term_tokens c.get-in-Cond-3.ensures in
    let m = ap resolved_term_tokens c.get-in-Cond-4.ensures in
    let r = ap resolved_term_tokens c.get-in-Cond-5.ensures in
    let fits = fits-under-Failed c.get-in-Cond-4.result c.args.context (rw c.get-in-Cond-4.ensures (and_parts _ _ h.1).0) (omega (arith, h.2, m)) c.requires.fits in
    (omega (arith, h.0, r), (c.requires.ready, (fits, (rw c.get-in-Cond-5.ensures (and_parts _ _ (and_parts _ _ h.1).1).1, omega (arith, h.2, g, l, r, c.term-test.ensures.after, c.term-before.ensures.after)))))

pub term-of-parts-requires : goal.term-of-parts-requires
term-of-parts-requires t c =
    let h = handed (ResolvedTerm-F.Cond c.in-Cond.guard c.in-Cond.first c.in-Cond.second) c.args.term.now (terms.rolls-Cond c.in-Cond.guard c.in-Cond.first c.in-Cond.second ∙ sym c.in-Cond.is) c.args.at c.requires.small c.requires.room in
    let g = ap resolved_term_tokens c.get-in-Cond.ensures in
    let k = ap resolved_term_tokens c.get-in-Cond-2.ensures in
    let l = ap resolved_term_tokens c.get-in-Cond-3.ensures in
    let m = ap resolved_term_tokens c.get-in-Cond-4.ensures in
    let r = ap resolved_term_tokens c.get-in-Cond-5.ensures in
    omega (arith, h.2, g, l, r, c.term-test.ensures.after, c.term-before.ensures.after, c.term-after.ensures.after)

pub term-returns-in-Cond : goal.term-returns-in-Cond
term-returns-in-Cond t c =
    let test = rw c.get-in-Cond.ensures at c.term-test.ensures in
    finds-Cond (signatures_in c.args.self.domains.now c.args.self.funs.now) c.get-in-Cond-2.result c.get-in-Cond-4.result (c.get-in-Cond-4.ensures ∙ sym c.get-in-Cond-2.ensures) c.args.context c.args.term.now c.in-Cond.first c.in-Cond.second c.args.need c.args.at c.closed-in-Cond.result c.term-test.result c.term-before.result c.term-after.result _ _ _ _ _
    (rw c.get-in-Cond-2.ensures (terms.rolls-Cond c.in-Cond.guard c.in-Cond.first c.in-Cond.second ∙ sym c.in-Cond.is))
    (rw c.get-in-Cond-2.ensures test) (rw c.get-in-Cond-3.ensures at c.term-before.ensures) (rw c.get-in-Cond-5.ensures at c.term-after.ensures)
    c.hull-plain.ensures.low c.hull-plain.ensures.high c.hull-refined.ensures.low c.hull-refined.ensures.high
    c.of-parts.ensures.after c.of-parts.ensures.fault c.either.ensures
    c.closed-in-Cond.ensures.plain c.closed-in-Cond.ensures.refined c.closed-in-Cond.ensures.after c.closed-in-Cond.ensures.fault

pub term-overflow_add-test : goal.term-overflow_add-test
term-overflow_add-test t c =
    let h = handed (ResolvedTerm-F.Cond c.in-Cond.guard c.in-Cond.first c.in-Cond.second) c.args.term.now (terms.rolls-Cond c.in-Cond.guard c.in-Cond.first c.in-Cond.second ∙ sym c.in-Cond.is) c.args.at c.requires.small c.requires.room in
    omega (arith, h.2, ap resolved_term_tokens c.get-in-Cond.ensures, c.term-test.ensures.after)

pub term-overflow_add-before : goal.term-overflow_add-before
term-overflow_add-before t c =
    let h = handed (ResolvedTerm-F.Cond c.in-Cond.guard c.in-Cond.first c.in-Cond.second) c.args.term.now (terms.rolls-Cond c.in-Cond.guard c.in-Cond.first c.in-Cond.second ∙ sym c.in-Cond.is) c.args.at c.requires.small c.requires.room in
    omega (arith, h.2, ap resolved_term_tokens c.get-in-Cond.ensures, ap resolved_term_tokens c.get-in-Cond-3.ensures, c.term-test.ensures.after, c.term-before.ensures.after)
