use Rattle.std.proofs.Common.{true, false, sym, ap, ◌∙◌, arith}
use Rattle.std.proofs.lemmas.Bool.{and_parts}
use Rattle.asm_names.specs.{declared.resolved_term.ResolvedTerm.{ResolvedTerm-F}, ResolvedPlaces.{resolved_term_tokens}}
use Rattle.asm_names.proofs.ResolvedLevels.{term_tokens_of}
use Rattle.asm_ranges.specs.{Contexts.{scope_of, signatures_in}}
use Rattle.asm_ranges.proofs.{Measures.{small_of}, CutSteps.{near-part, cuts-both, uncut, recut, by-Binary, by-Not, by-comparison, by-other}}
use Rattle.asm_tree.specs.declared.term.Op.TheVariants as ops
use Rattle.asm_names.specs.declared.resolved_term.ResolvedTerm.TheVariants as terms
use Rattle.asm_ranges.proofs.plain.RangeChecker.+cut.Goals as goal

pub cut-cut_both-requires : goal.cut-cut_both-requires
cut-cut_both-requires t c =
    let tokens = term_tokens_of (ResolvedTerm-F.Binary c.in-Binary.op c.in-Binary.left c.in-Binary.right) c.args.guard.now (terms.rolls-Binary c.in-Binary.op c.in-Binary.left c.in-Binary.right ∙ sym c.in-Binary.is) in
    let small = and_parts _ _ (sym (small_of (ResolvedTerm-F.Binary c.in-Binary.op c.in-Binary.left c.in-Binary.right) c.args.guard.now (terms.rolls-Binary c.in-Binary.op c.in-Binary.left c.in-Binary.right ∙ sym c.in-Binary.is)) ∙ c.requires.small) in
    let l = ap resolved_term_tokens c.get.ensures in
    let r = ap resolved_term_tokens c.get-then-truth.ensures in
    (omega (arith, tokens, l, r), (c.requires.ready, (c.requires.fits, (rw c.get.ensures small.0, (rw c.get-then-truth.ensures small.1, (omega (arith, tokens, l, c.requires.room), (omega (arith, tokens, r, c.requires.room), c.requires.near)))))))

pub cut-cut_both-requires-else-truth-2 : goal.cut-cut_both-requires-else-truth-2
cut-cut_both-requires-else-truth-2 t c =
    let tokens = term_tokens_of (ResolvedTerm-F.Binary c.in-Binary.op c.in-Binary.left c.in-Binary.right) c.args.guard.now (terms.rolls-Binary c.in-Binary.op c.in-Binary.left c.in-Binary.right ∙ sym c.in-Binary.is) in
    let small = and_parts _ _ (sym (small_of (ResolvedTerm-F.Binary c.in-Binary.op c.in-Binary.left c.in-Binary.right) c.args.guard.now (terms.rolls-Binary c.in-Binary.op c.in-Binary.left c.in-Binary.right ∙ sym c.in-Binary.is)) ∙ c.requires.small) in
    let l = ap resolved_term_tokens c.get-else-truth-2.ensures in
    let r = ap resolved_term_tokens c.get-else-truth-2-2.ensures in
    (omega (arith, tokens, l, r), (c.requires.ready, (c.requires.fits, (rw c.get-else-truth-2.ensures small.0, (rw c.get-else-truth-2-2.ensures small.1, (omega (arith, tokens, l, c.requires.room), (omega (arith, tokens, r, c.requires.room), c.requires.near)))))))

pub cut-cut_compared-requires : goal.cut-cut_compared-requires
cut-cut_compared-requires t c =
    let tokens = term_tokens_of (ResolvedTerm-F.Binary c.in-Binary.op c.in-Binary.left c.in-Binary.right) c.args.guard.now (terms.rolls-Binary c.in-Binary.op c.in-Binary.left c.in-Binary.right ∙ sym c.in-Binary.is) in
    let small = and_parts _ _ (sym (small_of (ResolvedTerm-F.Binary c.in-Binary.op c.in-Binary.left c.in-Binary.right) c.args.guard.now (terms.rolls-Binary c.in-Binary.op c.in-Binary.left c.in-Binary.right ∙ sym c.in-Binary.is)) ∙ c.requires.small) in
    let l = ap resolved_term_tokens c.get-in_default-op.ensures in
    let r = ap resolved_term_tokens c.get-in_default-op-2.ensures in
    record {
      ready = c.requires.ready;
      fits = c.requires.fits;
      left = rw c.get-in_default-op.ensures small.0;
      right = rw c.get-in_default-op-2.ensures small.1;
      left_room = omega (arith, tokens, l, c.requires.room);
      right_room = omega (arith, tokens, r, c.requires.room);
      near = c.requires.near;
    }

pub cut-cut-requires : goal.cut-cut-requires
cut-cut-requires t c =
    let tokens = term_tokens_of (ResolvedTerm-F.Not c.in-Not.inner) c.args.guard.now (terms.rolls-Not c.in-Not.inner ∙ sym c.in-Not.is) in
    let small = sym (small_of (ResolvedTerm-F.Not c.in-Not.inner) c.args.guard.now (terms.rolls-Not c.in-Not.inner ∙ sym c.in-Not.is)) ∙ c.requires.small in
    let i = ap resolved_term_tokens c.get-in-Not.ensures in
    (omega (arith, tokens, i), (c.requires.ready, (c.requires.fits, (rw c.get-in-Not.ensures small, (omega (arith, tokens, i, c.requires.room), c.requires.near)))))

pub cut-returns-then-truth : goal.cut-returns-then-truth
cut-returns-then-truth t c =
    rw (c.in-Binary.is, c.in-And.is, c.if-truth.true)
    (recut (signatures_in c.args.self.domains.now c.args.self.funs.now) (scope_of c.args.context.now) c.args.atom.now _ _ c.args.found _ (by-Binary (signatures_in c.args.self.domains.now c.args.self.funs.now) (scope_of c.args.context.now) c.args.atom.now ops.And c.in-Binary.left c.in-Binary.right true c.args.found) (rw (c.get.ensures, c.get-then-truth.ensures) at c.cut_both.ensures))

pub cut-returns-else-truth : goal.cut-returns-else-truth
cut-returns-else-truth t c =
    rw (c.in-Binary.is, c.in-And.is, c.if-truth.false)
    (uncut (signatures_in c.args.self.domains.now c.args.self.funs.now) (scope_of c.args.context.now) c.args.atom.now _ c.args.found _ c.requires.near (by-Binary (signatures_in c.args.self.domains.now c.args.self.funs.now) (scope_of c.args.context.now) c.args.atom.now ops.And c.in-Binary.left c.in-Binary.right false c.args.found))

pub cut-returns-then-truth-2 : goal.cut-returns-then-truth-2
cut-returns-then-truth-2 t c =
    rw (c.in-Binary.is, c.in-Or.is, c.if-truth-2.true)
    (uncut (signatures_in c.args.self.domains.now c.args.self.funs.now) (scope_of c.args.context.now) c.args.atom.now _ c.args.found _ c.requires.near (by-Binary (signatures_in c.args.self.domains.now c.args.self.funs.now) (scope_of c.args.context.now) c.args.atom.now ops.Or c.in-Binary.left c.in-Binary.right true c.args.found))

pub cut-returns-else-truth-2 : goal.cut-returns-else-truth-2
cut-returns-else-truth-2 t c =
    rw (c.in-Binary.is, c.in-Or.is, c.if-truth-2.false)
    (recut (signatures_in c.args.self.domains.now c.args.self.funs.now) (scope_of c.args.context.now) c.args.atom.now _ _ c.args.found _ (by-Binary (signatures_in c.args.self.domains.now c.args.self.funs.now) (scope_of c.args.context.now) c.args.atom.now ops.Or c.in-Binary.left c.in-Binary.right false c.args.found) (rw (c.get-else-truth-2.ensures, c.get-else-truth-2-2.ensures) at c.cut_both-else-truth-2.ensures))

pub cut-returns-in_default-op : goal.cut-returns-in_default-op
cut-returns-in_default-op t c =
    rw c.in-Binary.is
    (recut (signatures_in c.args.self.domains.now c.args.self.funs.now) (scope_of c.args.context.now) c.args.atom.now _ _ c.args.found _ (by-comparison (signatures_in c.args.self.domains.now c.args.self.funs.now) (scope_of c.args.context.now) c.args.atom.now c.in-Binary.op c.in-Binary.left c.in-Binary.right c.args.truth c.args.found c.in_default-op.not-And c.in_default-op.not-Or)
    (rw (c.get-in_default-op.ensures, c.get-in_default-op-2.ensures) at c.cut_compared.ensures))

pub cut-returns-in-Not : goal.cut-returns-in-Not
cut-returns-in-Not t c =
    rw c.in-Not.is
    (recut (signatures_in c.args.self.domains.now c.args.self.funs.now) (scope_of c.args.context.now) c.args.atom.now _ _ c.args.found _ (by-Not (signatures_in c.args.self.domains.now c.args.self.funs.now) (scope_of c.args.context.now) c.args.atom.now c.in-Not.inner c.args.truth c.args.found) (rw c.get-in-Not.ensures at c.cut.ensures))

pub cut-returns-in_default : goal.cut-returns-in_default
cut-returns-in_default t c = uncut (signatures_in c.args.self.domains.now c.args.self.funs.now) (scope_of c.args.context.now) c.args.atom.now _ c.args.found _ c.requires.near (by-other (signatures_in c.args.self.domains.now c.args.self.funs.now) (scope_of c.args.context.now) c.args.atom.now c.args.guard.now c.args.truth c.args.found c.in_default.not-Binary c.in_default.not-Not)

pub cut_both-cut-first-requires : goal.cut_both-cut-first-requires
cut_both-cut-first-requires t c = (omega arith, (c.requires.ready, (c.requires.fits, (c.requires.left, (c.requires.left_room, c.requires.near)))))

pub cut_both-cut-requires : goal.cut_both-cut-requires
cut_both-cut-requires t c = (omega arith, (c.requires.ready, (c.requires.fits, (c.requires.right, (c.requires.right_room, near-part _ _ _ c.cut-first.ensures.part c.requires.near)))))

pub cut_both-returns : goal.cut_both-returns
cut_both-returns t c = cuts-both (signatures_in c.args.self.domains.now c.args.self.funs.now) (scope_of c.args.context.now) c.args.atom.now c.args.left.now c.args.right.now c.args.truth c.args.found _ _ c.cut-first.ensures c.cut.ensures
