use Rattle.std.proofs.Common.{◌≡◌, ℕ, zero, suc, pos, ℤ, length, replicate, ap, subst, sym, ◌∙◌, arith}
use Rattle.std.proofs.lemmas.List.{length-replicate}
use Rattle.rv_isa.specs.declared.instr.Instr.TheVariants.{Addi}
use Rattle.block_code.specs.Tree.{plan_of}
use Rattle.block_code.specs.declared.tree.Tree.{Line}
use Rattle.block_code.specs.Block.{Keeps, Spares}
use Rattle.block_code.specs.Plan.{AreStoreless, IsLine}
use Rattle.loop_code.proofs.tests.adds.Goals as goal

line : (n r : ℕ) (z : ℤ) → IsLine (replicate n (Addi r r z))
line zero r z = tt
line (suc n) r z = (tt, line n r z)

storeless : (n r : ℕ) (z : ℤ) → AreStoreless (replicate n (Addi r r z))
storeless zero r z = tt
storeless (suc n) r z = (tt, storeless n r z)

pub of-requires : goal.of-requires
of-requires c =
    let len : length c.loop-index.instrs ≡ c.loop-index.index = ap length c.loop-index.invariant ∙ length-replicate _ _ in
    record {
      block = subst IsLine (sym c.loop-index.invariant) (line c.loop-index.index 5 (pos c.args.number));
      short = omega arith;
      full = omega arith;
      entry = omega arith;
    }

pub returns-clause-kept : goal.returns-clause-kept
returns-clause-kept c = λ slot.
    let is = c.of.ensures ∙ ap Line c.loop-index.invariant in
    subst (λ t. Keeps slot (plan_of t)) (sym is) (c.storeless_lines_keep.ensures slot _ (storeless c.loop-index.index 5 (pos c.args.number)))

pub returns-clause-spared : goal.returns-clause-spared
returns-clause-spared c = λ slot.
    let is = c.of.ensures ∙ ap Line c.loop-index.invariant in
    subst (λ t. Spares slot (plan_of t)) (sym is) (c.storeless_lines_keep.ensures slot _ (storeless c.loop-index.index 5 (pos c.args.number)))
