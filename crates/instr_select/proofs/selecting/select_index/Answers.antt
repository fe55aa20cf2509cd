use Rattle.std.proofs.Common.{◌≡◌, ℕ, ◌≤◌, sym, ap, ◌∙◌, subst}
use Rattle.block_code.specs.Tree.{plan_of}
use Rattle.block_code.specs.Block.{IsInRange}
use Rattle.block_code.specs.Effect.{Holds}
use Rattle.block_code.specs.Leads.{KeepsRegs}
use Rattle.block_code.specs.Plan.{Plan, full, len}
use Rattle.block_code.specs.Silent.{IsSilent, IsStorelessPlan, Respects}
use Rattle.state_space.specs.{declared.signature.Signature.{Signature}, Sizes.{padded_count}}
use Rattle.state_space.proofs.Padding.{read_at}
use Rattle.instr_select.specs.Terms.{arguments_plan}
use Rattle.instr_select.specs.Writing.{LeavesBelow, LeavesIndex, index_weight}
use Rattle.instr_select.proofs.Blocks.{index-below, index-full, index-holds, index-in-range, index-kept, index-len, index-silent, index-storeless, leaves-index}
use Rattle.instr_select.proofs.selecting.select_index.Goals as goal

pub of-requires : goal.of-requires
of-requires c = subst IsInRange (sym c.in_ok-tree.ensures) (index-in-range c.args.checked.now c.args.map.now c.args.tables c.as_slice-ranges.result.now c.args.args.now c.args.register c.requires.writable c.requires.weight)

pub returns-clause-plan : goal.returns-clause-plan
returns-clause-plan c signature here =
    let found : Signature = c.index-signatures-fun.result in
    let there = read_at c.signatures.result.now c.args.map.now.signatures c.args.fun found (c.signatures.ensures.signatures ∙ c.space.ensures) c.index-signatures-fun.is c.requires.there in
    let same : found ≡ signature = cc in
    ap plan_of c.of.ensures ∙ c.in_ok-tree.ensures
    ∙ ap (λ rs. arguments_plan c.args.checked.now c.args.map.now c.args.tables rs c.args.args.now c.args.register) (c.as_slice-ranges.ensures ∙ ap (λ (s : Signature). s.args) same)

pub returns-clause-value : goal.returns-clause-value
returns-clause-value c signature here =
    subst (LeavesIndex c.args.checked.now c.args.map.now c.args.tables signature.args c.args.args.now c.args.register) (sym (returns-clause-plan c signature here))
    (leaves-index c.args.checked.now c.args.map.now c.args.tables c.args.args.now c.args.register c.requires.writable c.requires.ready c.requires.register c.args.fun signature here)

pub returns-clause-inside : goal.returns-clause-inside
returns-clause-inside c signature here held =
    subst (LeavesBelow c.args.register (padded_count signature.args)) (sym (returns-clause-plan c signature here))
    (index-below c.args.checked.now c.args.map.now c.args.tables c.args.args.now c.args.register c.requires.writable c.requires.ready c.requires.register c.args.fun signature here held)

pub returns-clause-storeless : goal.returns-clause-storeless
returns-clause-storeless c = subst IsStorelessPlan (sym (ap plan_of c.of.ensures ∙ c.in_ok-tree.ensures)) (index-storeless c.args.checked.now c.args.map.now c.args.tables c.as_slice-ranges.result.now c.args.args.now c.args.register c.requires.writable)

pub returns-clause-silent : goal.returns-clause-silent
returns-clause-silent c = subst IsSilent (sym (ap plan_of c.of.ensures ∙ c.in_ok-tree.ensures)) (index-silent c.args.checked.now c.args.map.now c.args.tables c.as_slice-ranges.result.now c.args.args.now c.args.register c.requires.writable c.requires.ready c.requires.register)

pub returns-clause-kept : goal.returns-clause-kept
returns-clause-kept c = subst (Respects (KeepsRegs 5 c.args.register)) (sym (ap plan_of c.of.ensures ∙ c.in_ok-tree.ensures)) (index-kept c.args.checked.now c.args.map.now c.args.tables c.as_slice-ranges.result.now c.args.args.now c.args.register c.requires.writable)

pub returns-clause-slots : goal.returns-clause-slots
returns-clause-slots c = subst (λ (t : Plan). (size : ℕ) → Holds size t) (sym (ap plan_of c.of.ensures ∙ c.in_ok-tree.ensures)) (index-holds c.args.checked.now c.args.map.now c.args.tables c.as_slice-ranges.result.now c.args.args.now c.args.register c.requires.writable)

pub returns-clause-len : goal.returns-clause-len
returns-clause-len c = subst (λ (t : Plan). len t ≤ index_weight c.args.args.now) (sym (ap plan_of c.of.ensures ∙ c.in_ok-tree.ensures)) (index-len c.args.checked.now c.args.map.now c.args.tables c.as_slice-ranges.result.now c.args.args.now c.args.register c.requires.writable)

pub returns-clause-full : goal.returns-clause-full
returns-clause-full c = subst (λ (t : Plan). full t ≤ index_weight c.args.args.now) (sym (ap plan_of c.of.ensures ∙ c.in_ok-tree.ensures)) (index-full c.args.checked.now c.args.map.now c.args.tables c.as_slice-ranges.result.now c.args.args.now c.args.register c.requires.writable)
