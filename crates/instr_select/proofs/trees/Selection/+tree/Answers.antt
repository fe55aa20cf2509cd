use Rattle.std.proofs.Common.{◌≡◌, IfOk, length, map, slice_get, rules, refl, sym, ap, ◌∙◌, subst, w64, arith}
use Rattle.std.proofs.lemmas.{Bool.{ltb-true}, Option.{slice_get_read}}
use Rattle.asm_names.specs.declared.resolved_term.ResolvedTerm.{ResolvedTerm-F}
use Rattle.asm_names.specs.declared.resolved_term.ResolvedTerm.TheVariants as terms
use Rattle.state_space.proofs.Padding.{sized_from}
use Rattle.instr_select.proofs.Sizes.{size, size_of, sizes}
use Rattle.std.specs.Int.RustNames.{FitsSigned}
use Rattle.std.specs.Int.{w32}
use Rattle.std.specs.List.{AllByRecursion}
use Rattle.state_space.specs.Sizes.{IsRange, IsSized}
use Rattle.std.proofs.lemmas.Int.{to_z-of_z}
use Rattle.block_code.specs.Tree.{plan_of}
use Rattle.block_code.specs.Plan.{Line}
use Rattle.block_code.specs.Sequence.{load_immediate}
use Rattle.mask_guard.specs.Mask.{word_of}
use Rattle.instr_select.specs.Terms.{read_plan, term_plan}
use Rattle.instr_select.specs.Writing.{AreWritable, IsWritable}
use Rattle.instr_select.proofs.Written.{args-of, binder-known, first-arg, later-args, next-arg, number-fits, of-Binary, of-Cond, of-Max, of-Min, of-Not, plan-Binary, plan-Cond, plan-Max, plan-Min, plan-Not, plan-Number, plan-Read, plan-Var}
use Rattle.instr_select.proofs.trees.Selection.+tree.Goals as goal

pub further-further-requires : goal.further-further-requires
further-further-requires t c =
    (omega (arith, ap sizes c.in-Some-split_first.ensures.cases.0), (c.requires.ready, (search rules, later-args c.args.self.program.now c.in-Some-split_first.arg.now c.args.register 1 c.args.args.now c.in-Some-split_first.arg.now c.in-Some-split_first.others.now c.in-Some-split_first.ensures.cases.0 c.requires.writable)))

pub index-further-requires : goal.index-further-requires
index-further-requires t c =
    (omega (arith, ap sizes c.in-Some-split_first.ensures.cases.0), (c.requires.ready, (search rules, later-args c.args.self.program.now c.in-Some-split_first.arg.now c.args.register 0 c.args.args.now c.in-Some-split_first.arg.now c.in-Some-split_first.others.now c.in-Some-split_first.ensures.cases.0 c.requires.writable)))

pub tree-number_line-requires : goal.tree-number_line-requires
tree-number_line-requires t c =
    subst (FitsSigned w32) (sym (to_z-of_z w64 c.in-Number.value (search rules))) (number-fits c.args.self.program.now c.args.term.now c.args.register c.in-Number.value c.in-Number.is c.requires.writable)

pub tree-var-requires-clause-known : goal.tree-var-requires-clause-known
tree-var-requires-clause-known t c =
    binder-known c.args.self.program.now c.args.term.now c.args.register c.in-Var.var c.in-Var.is c.requires.writable

pub tree-reading-requires : goal.tree-reading-requires
tree-reading-requires t c =
    (omega (arith, size_of _ _ (ResolvedTerm-F.Read c.in-Read.fun c.in-Read.args) c.in-Read.is (terms.rolls-Read c.in-Read.fun c.in-Read.args), ap sizes c.as_slice.ensures), (c.requires.ready, subst (λ ts. AreWritable c.args.self.program.now ts 0 c.args.register) (sym c.as_slice.ensures) (args-of c.args.self.program.now c.args.term.now c.args.register c.in-Read.fun c.in-Read.args c.in-Read.is c.requires.writable)))

pub tree-tree-requires : goal.tree-tree-requires
tree-tree-requires t c =
    (omega (arith, size_of _ _ (ResolvedTerm-F.Binary c.in-Binary.op c.in-Binary.left c.in-Binary.right) c.in-Binary.is (terms.rolls-Binary c.in-Binary.op c.in-Binary.left c.in-Binary.right), ap size c.get.ensures), (c.requires.ready, subst (λ t. IsWritable c.args.self.program.now t c.args.register) (sym c.get.ensures) (of-Binary c.args.self.program.now c.args.term.now c.args.register c.in-Binary.op c.in-Binary.left c.in-Binary.right c.in-Binary.is c.requires.writable).0))

pub tree-tree-requires-in-Binary : goal.tree-tree-requires-in-Binary
tree-tree-requires-in-Binary t c =
    (omega (arith, size_of _ _ (ResolvedTerm-F.Binary c.in-Binary.op c.in-Binary.left c.in-Binary.right) c.in-Binary.is (terms.rolls-Binary c.in-Binary.op c.in-Binary.left c.in-Binary.right), ap size c.get-in-Binary.ensures), (c.requires.ready, subst (λ t. IsWritable c.args.self.program.now t c.behind.result) (sym c.get-in-Binary.ensures) (subst (λ q. IsWritable c.args.self.program.now c.in-Binary.right q) (sym c.behind.ensures) (of-Binary c.args.self.program.now c.args.term.now c.args.register c.in-Binary.op c.in-Binary.left c.in-Binary.right c.in-Binary.is c.requires.writable).1)))

pub tree-tree-requires-in-Not : goal.tree-tree-requires-in-Not
tree-tree-requires-in-Not t c =
    (omega (arith, size_of _ _ (ResolvedTerm-F.Not c.in-Not.inner) c.in-Not.is (terms.rolls-Not c.in-Not.inner), ap size c.get-in-Not.ensures), (c.requires.ready, subst (λ t. IsWritable c.args.self.program.now t c.args.register) (sym c.get-in-Not.ensures) (of-Not c.args.self.program.now c.args.term.now c.args.register c.in-Not.inner c.in-Not.is c.requires.writable)))

pub tree-tree-requires-in-Min : goal.tree-tree-requires-in-Min
tree-tree-requires-in-Min t c =
    (omega (arith, size_of _ _ (ResolvedTerm-F.Min c.in-Min.left c.in-Min.right) c.in-Min.is (terms.rolls-Min c.in-Min.left c.in-Min.right), ap size c.get-in-Min.ensures), (c.requires.ready, subst (λ t. IsWritable c.args.self.program.now t c.args.register) (sym c.get-in-Min.ensures) (of-Min c.args.self.program.now c.args.term.now c.args.register c.in-Min.left c.in-Min.right c.in-Min.is c.requires.writable).0))

pub tree-tree-requires-in-Min-2 : goal.tree-tree-requires-in-Min-2
tree-tree-requires-in-Min-2 t c =
    (omega (arith, size_of _ _ (ResolvedTerm-F.Min c.in-Min.left c.in-Min.right) c.in-Min.is (terms.rolls-Min c.in-Min.left c.in-Min.right), ap size c.get-in-Min-2.ensures), (c.requires.ready, subst (λ t. IsWritable c.args.self.program.now t c.behind-in-Min.result) (sym c.get-in-Min-2.ensures) (subst (λ q. IsWritable c.args.self.program.now c.in-Min.right q) (sym c.behind-in-Min.ensures) (of-Min c.args.self.program.now c.args.term.now c.args.register c.in-Min.left c.in-Min.right c.in-Min.is c.requires.writable).1)))

pub tree-tree-requires-in-Max : goal.tree-tree-requires-in-Max
tree-tree-requires-in-Max t c =
    (omega (arith, size_of _ _ (ResolvedTerm-F.Max c.in-Max.left c.in-Max.right) c.in-Max.is (terms.rolls-Max c.in-Max.left c.in-Max.right), ap size c.get-in-Max.ensures), (c.requires.ready, subst (λ t. IsWritable c.args.self.program.now t c.args.register) (sym c.get-in-Max.ensures) (of-Max c.args.self.program.now c.args.term.now c.args.register c.in-Max.left c.in-Max.right c.in-Max.is c.requires.writable).0))

pub tree-tree-requires-in-Max-2 : goal.tree-tree-requires-in-Max-2
tree-tree-requires-in-Max-2 t c =
    (omega (arith, size_of _ _ (ResolvedTerm-F.Max c.in-Max.left c.in-Max.right) c.in-Max.is (terms.rolls-Max c.in-Max.left c.in-Max.right), ap size c.get-in-Max-2.ensures), (c.requires.ready, subst (λ t. IsWritable c.args.self.program.now t c.behind-in-Max.result) (sym c.get-in-Max-2.ensures) (subst (λ q. IsWritable c.args.self.program.now c.in-Max.right q) (sym c.behind-in-Max.ensures) (of-Max c.args.self.program.now c.args.term.now c.args.register c.in-Max.left c.in-Max.right c.in-Max.is c.requires.writable).1)))

pub tree-tree-requires-in-Cond : goal.tree-tree-requires-in-Cond
tree-tree-requires-in-Cond t c =
    (omega (arith, size_of _ _ (ResolvedTerm-F.Cond c.in-Cond.guard c.in-Cond.left c.in-Cond.right) c.in-Cond.is (terms.rolls-Cond c.in-Cond.guard c.in-Cond.left c.in-Cond.right), ap size c.get-in-Cond.ensures), (c.requires.ready, subst (λ t. IsWritable c.args.self.program.now t c.args.register) (sym c.get-in-Cond.ensures) (of-Cond c.args.self.program.now c.args.term.now c.args.register c.in-Cond.guard c.in-Cond.left c.in-Cond.right c.in-Cond.is c.requires.writable).0))

pub tree-tree-requires-in-Cond-2 : goal.tree-tree-requires-in-Cond-2
tree-tree-requires-in-Cond-2 t c =
    (omega (arith, size_of _ _ (ResolvedTerm-F.Cond c.in-Cond.guard c.in-Cond.left c.in-Cond.right) c.in-Cond.is (terms.rolls-Cond c.in-Cond.guard c.in-Cond.left c.in-Cond.right), ap size c.get-in-Cond-2.ensures), (c.requires.ready, subst (λ t. IsWritable c.args.self.program.now t c.args.register) (sym c.get-in-Cond-2.ensures) (of-Cond c.args.self.program.now c.args.term.now c.args.register c.in-Cond.guard c.in-Cond.left c.in-Cond.right c.in-Cond.is c.requires.writable).1))

pub tree-tree-requires-in-Cond-3 : goal.tree-tree-requires-in-Cond-3
tree-tree-requires-in-Cond-3 t c =
    (omega (arith, size_of _ _ (ResolvedTerm-F.Cond c.in-Cond.guard c.in-Cond.left c.in-Cond.right) c.in-Cond.is (terms.rolls-Cond c.in-Cond.guard c.in-Cond.left c.in-Cond.right), ap size c.get-in-Cond-3.ensures), (c.requires.ready, subst (λ t. IsWritable c.args.self.program.now t c.args.register) (sym c.get-in-Cond-3.ensures) (of-Cond c.args.self.program.now c.args.term.now c.args.register c.in-Cond.guard c.in-Cond.left c.in-Cond.right c.in-Cond.is c.requires.writable).2))

pub tree-returns-in-Number : goal.tree-returns-in-Number
tree-returns-in-Number t c =
    subst (λ x. IfOk c.number_line.result (λ tree. plan_of tree ≡ x)) (ap (λ v. Line (load_immediate c.args.register (word_of v))) (to_z-of_z w64 c.in-Number.value (search rules)) ∙ plan-Number c.args.self.program.now c.args.self.map.now c.args.self.tables c.args.term.now c.args.register c.in-Number.value c.in-Number.is) c.number_line.ensures

pub tree-returns-in-Var : goal.tree-returns-in-Var
tree-returns-in-Var t c =
    subst (λ x. IfOk c.var.result (λ tree. plan_of tree ≡ x)) (plan-Var c.args.self.program.now c.args.self.map.now c.args.self.tables c.args.term.now c.args.register c.in-Var.var c.in-Var.is) c.var.ensures

pub tree-returns-in-Read : goal.tree-returns-in-Read
tree-returns-in-Read t c =
    subst (λ x. IfOk c.reading.result (λ tree. plan_of tree ≡ x)) (ap (λ ts. read_plan c.args.self.map.now c.args.self.tables c.in-Read.fun (slice_get c.args.self.map.now.signatures c.in-Read.fun) (map (term_plan c.args.self.program.now c.args.self.map.now c.args.self.tables) ts) c.args.register) c.as_slice.ensures ∙ plan-Read c.args.self.program.now c.args.self.map.now c.args.self.tables c.args.term.now c.args.register c.in-Read.fun c.in-Read.args c.in-Read.is) c.reading.ensures

pub tree-returns-in_ok-line-in-Binary : goal.tree-returns-in_ok-line-in-Binary
tree-returns-in_ok-line-in-Binary t c =
    subst (λ x. IfOk c.in_turn.result (λ tree. plan_of tree ≡ x)) (plan-Binary c.args.self.program.now c.args.self.map.now c.args.self.tables c.args.term.now c.args.register c.in-Binary.op c.in-Binary.left c.in-Binary.right c.in-Binary.is _ _ _ (c.in_ok-first-in-Binary.ensures ∙ ap (λ t. term_plan c.args.self.program.now c.args.self.map.now c.args.self.tables t c.args.register) c.get.ensures) (c.in_ok-second-in-Binary.ensures ∙ ap (λ t. term_plan c.args.self.program.now c.args.self.map.now c.args.self.tables t c.behind.result) c.get-in-Binary.ensures ∙ ap (term_plan c.args.self.program.now c.args.self.map.now c.args.self.tables c.in-Binary.right) c.behind.ensures) c.in_ok-line-in-Binary.ensures) c.in_turn.ensures

pub tree-returns-in_ok-line-in-Not : goal.tree-returns-in_ok-line-in-Not
tree-returns-in_ok-line-in-Not t c =
    subst (λ x. IfOk c.seq.result (λ tree. plan_of tree ≡ x)) (plan-Not c.args.self.program.now c.args.self.map.now c.args.self.tables c.args.term.now c.args.register c.in-Not.inner c.in-Not.is _ _ (c.in_ok-first-in-Not.ensures ∙ ap (λ t. term_plan c.args.self.program.now c.args.self.map.now c.args.self.tables t c.args.register) c.get-in-Not.ensures) c.in_ok-line-in-Not.ensures) c.seq.ensures

pub tree-returns-in_ok-line-in-Min : goal.tree-returns-in_ok-line-in-Min
tree-returns-in_ok-line-in-Min t c =
    subst (λ x. IfOk c.in_turn-in-Min.result (λ tree. plan_of tree ≡ x)) (plan-Min c.args.self.program.now c.args.self.map.now c.args.self.tables c.args.term.now c.args.register c.in-Min.left c.in-Min.right c.in-Min.is _ _ _ (c.in_ok-first-in-Min.ensures ∙ ap (λ t. term_plan c.args.self.program.now c.args.self.map.now c.args.self.tables t c.args.register) c.get-in-Min.ensures) (c.in_ok-second-in-Min.ensures ∙ ap (λ t. term_plan c.args.self.program.now c.args.self.map.now c.args.self.tables t c.behind-in-Min.result) c.get-in-Min-2.ensures ∙ ap (term_plan c.args.self.program.now c.args.self.map.now c.args.self.tables c.in-Min.right) c.behind-in-Min.ensures) c.in_ok-line-in-Min.ensures) c.in_turn-in-Min.ensures

pub tree-returns-in_ok-line-in-Max : goal.tree-returns-in_ok-line-in-Max
tree-returns-in_ok-line-in-Max t c =
    subst (λ x. IfOk c.in_turn-in-Max.result (λ tree. plan_of tree ≡ x)) (plan-Max c.args.self.program.now c.args.self.map.now c.args.self.tables c.args.term.now c.args.register c.in-Max.left c.in-Max.right c.in-Max.is _ _ _ (c.in_ok-first-in-Max.ensures ∙ ap (λ t. term_plan c.args.self.program.now c.args.self.map.now c.args.self.tables t c.args.register) c.get-in-Max.ensures) (c.in_ok-second-in-Max.ensures ∙ ap (λ t. term_plan c.args.self.program.now c.args.self.map.now c.args.self.tables t c.behind-in-Max.result) c.get-in-Max-2.ensures ∙ ap (term_plan c.args.self.program.now c.args.self.map.now c.args.self.tables c.in-Max.right) c.behind-in-Max.ensures) c.in_ok-line-in-Max.ensures) c.in_turn-in-Max.ensures

pub tree-returns-in_ok-choice-in-Cond : goal.tree-returns-in_ok-choice-in-Cond
tree-returns-in_ok-choice-in-Cond t c =
    subst (λ x. IfOk c.seq-in-Cond.result (λ tree. plan_of tree ≡ x)) (plan-Cond c.args.self.program.now c.args.self.map.now c.args.self.tables c.args.term.now c.args.register c.in-Cond.guard c.in-Cond.left c.in-Cond.right c.in-Cond.is _ _ _ _ (c.in_ok-test-in-Cond.ensures ∙ ap (λ t. term_plan c.args.self.program.now c.args.self.map.now c.args.self.tables t c.args.register) c.get-in-Cond.ensures) (c.in_ok-first-in-Cond.ensures ∙ ap (λ t. term_plan c.args.self.program.now c.args.self.map.now c.args.self.tables t c.args.register) c.get-in-Cond-2.ensures) (c.in_ok-second-in-Cond.ensures ∙ ap (λ t. term_plan c.args.self.program.now c.args.self.map.now c.args.self.tables t c.args.register) c.get-in-Cond-3.ensures) c.in_ok-choice-in-Cond.ensures) c.seq-in-Cond.ensures

pub further-tree-requires : goal.further-tree-requires
further-tree-requires t c =
    (omega (arith, ap sizes c.in-Some-split_first.ensures.cases.0), (c.requires.ready, subst (λ q. IsWritable c.args.self.program.now c.in-Some-split_first.arg.now q) (sym c.behind.ensures) (next-arg c.args.self.program.now c.args.register c.args.args.now c.in-Some-split_first.arg.now c.in-Some-split_first.others.now c.in-Some-split_first.ensures.cases.0 c.requires.writable)))

pub index-tree-requires : goal.index-tree-requires
index-tree-requires t c =
    (omega (arith, ap sizes c.in-Some-split_first.ensures.cases.0), (c.requires.ready, first-arg c.args.self.program.now c.args.register c.args.args.now c.in-Some-split_first.arg.now c.in-Some-split_first.others.now c.in-Some-split_first.ensures.cases.0 c.requires.writable))

pub reading-index-requires : goal.reading-index-requires
reading-index-requires t c =
    let there = slice_get_read c.signatures.result.now (length c.signatures.result.now) c.args.fun c.in-Some.signature.now refl (ltb-true _ _ (sym c.in-Some.ensures.lookup.0)) c.in-Some.ensures.lookup.1 in
    let sized = sized_from c.signatures.result.now c.args.fun c.in-Some.signature.now (subst (AllByRecursion IsSized) (sym c.signatures.ensures.signatures) c.signatures.ensures.sized) there in
    (omega arith, (c.requires.ready, (subst (AllByRecursion IsRange) (sym c.as_slice.ensures) sized.domains, c.requires.writable)))
