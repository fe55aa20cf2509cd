use Rattle.std.proofs.Common.{ℕ, ◌≤◌, sym, ap, ◌∙◌, subst}
use Rattle.block_code.specs.Tree.{plan_of}
use Rattle.block_code.specs.Block.{IsInRange}
use Rattle.block_code.specs.Effect.{Holds}
use Rattle.block_code.specs.Leads.{KeepsRegs}
use Rattle.block_code.specs.Plan.{Plan, full, len}
use Rattle.block_code.specs.Silent.{IsSilent, IsStorelessPlan, Respects}
use Rattle.bound_count.specs.TermWeights.{term_weight}
use Rattle.instr_select.specs.Writing.{LeavesValue}
use Rattle.instr_select.proofs.Blocks.{coded, in-range, is-silent, leaves-value}
use Rattle.instr_select.proofs.selecting.select.Goals as goal

pub of-requires : goal.of-requires
of-requires c = subst IsInRange (sym c.in_ok-tree.ensures) (in-range c.args.checked.now c.args.map.now c.args.tables c.args.term.now c.args.register c.requires.ready c.requires.writable c.requires.weight)

pub returns-clause-value : goal.returns-clause-value
returns-clause-value c = subst (LeavesValue c.args.checked.now c.args.map.now c.args.tables c.args.term.now c.args.register) (sym (ap plan_of c.of.ensures ∙ c.in_ok-tree.ensures)) (leaves-value c.args.checked.now c.args.map.now c.args.tables c.args.term.now c.args.register c.requires.ready c.requires.writable c.requires.register)

pub returns-clause-storeless : goal.returns-clause-storeless
returns-clause-storeless c = subst IsStorelessPlan (sym (ap plan_of c.of.ensures ∙ c.in_ok-tree.ensures)) (coded c.args.checked.now c.args.map.now c.args.tables c.args.term.now c.args.register c.requires.ready c.requires.writable).storeless

pub returns-clause-silent : goal.returns-clause-silent
returns-clause-silent c = subst IsSilent (sym (ap plan_of c.of.ensures ∙ c.in_ok-tree.ensures)) (is-silent c.args.checked.now c.args.map.now c.args.tables c.args.term.now c.args.register c.requires.ready c.requires.writable c.requires.register)

pub returns-clause-kept : goal.returns-clause-kept
returns-clause-kept c = subst (Respects (KeepsRegs 5 c.args.register)) (sym (ap plan_of c.of.ensures ∙ c.in_ok-tree.ensures)) (coded c.args.checked.now c.args.map.now c.args.tables c.args.term.now c.args.register c.requires.ready c.requires.writable).kept

pub returns-clause-slots : goal.returns-clause-slots
returns-clause-slots c = subst (λ (t : Plan). (size : ℕ) → Holds size t) (sym (ap plan_of c.of.ensures ∙ c.in_ok-tree.ensures)) (coded c.args.checked.now c.args.map.now c.args.tables c.args.term.now c.args.register c.requires.ready c.requires.writable).holds

pub returns-clause-len : goal.returns-clause-len
returns-clause-len c = subst (λ (t : Plan). len t ≤ term_weight c.args.term.now) (sym (ap plan_of c.of.ensures ∙ c.in_ok-tree.ensures)) (coded c.args.checked.now c.args.map.now c.args.tables c.args.term.now c.args.register c.requires.ready c.requires.writable).words

pub returns-clause-full : goal.returns-clause-full
returns-clause-full c = subst (λ (t : Plan). full t ≤ term_weight c.args.term.now) (sym (ap plan_of c.of.ensures ∙ c.in_ok-tree.ensures)) (coded c.args.checked.now c.args.map.now c.args.tables c.args.term.now c.args.register c.requires.ready c.requires.writable).ticks
