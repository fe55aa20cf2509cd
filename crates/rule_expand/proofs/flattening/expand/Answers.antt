use Rattle.std.proofs.Common.{◌≡◌, ◌≤◌, true}
use Rattle.asm_ranges.specs.Ranges.{unscoped}
use Rattle.bound_count.specs.declared.shape.Shape.TheVariants as shapes
use Rattle.bound_count.specs.RuleWeights.{rule_words, rule_registers}
use Rattle.rule_expand.specs.FlatUpdates.{HasLeastUpdates, HasPermittedUpdates}
use Rattle.rule_expand.specs.FlatSums.{flat_sums_fit}
use Rattle.rule_expand.specs.FlatNew.{flat_new}
use Rattle.rule_expand.specs.FlatDefined.{MeetsDefined}
use Rattle.rule_expand.specs.FlatWeights.{flat_weight, flat_registers}
use Rattle.rule_expand.proofs.Written.{of_result}
use Rattle.rule_expand.proofs.flattening.expand.Goals as goal

pub returns-clause-updates : goal.returns-clause-updates
returns-clause-updates c =
    of_result c.args.checked.now c.resolved.ensures.checked (HasLeastUpdates c.args.checked.now) (λ f h. h.updates) c.written_out.result (rw c.resolved.ensures.program at c.written_out.ensures)

pub returns-clause-permitted : goal.returns-clause-permitted
returns-clause-permitted c =
    of_result c.args.checked.now c.resolved.ensures.checked (HasPermittedUpdates c.args.checked.now) (λ f h. h.permitted) c.written_out.result (rw c.resolved.ensures.program at c.written_out.ensures)

pub returns-clause-sums : goal.returns-clause-sums
returns-clause-sums c =
    of_result c.args.checked.now c.resolved.ensures.checked (λ f. flat_sums_fit c.args.checked.now f unscoped ≡ true) (λ f h. h.sums) c.written_out.result (rw c.resolved.ensures.program at c.written_out.ensures)

pub returns-clause-new : goal.returns-clause-new
returns-clause-new c =
    of_result c.args.checked.now c.resolved.ensures.checked (λ f. flat_new c.args.checked.now f unscoped ≡ true) (λ f h. h.new) c.written_out.result
    (rw c.resolved.ensures.program at c.written_out.ensures)

pub returns-clause-met : goal.returns-clause-met
returns-clause-met c =
    of_result c.args.checked.now c.resolved.ensures.checked (MeetsDefined c.args.checked.now) (λ f h. h.met) c.written_out.result (rw c.resolved.ensures.program at c.written_out.ensures)

pub returns-clause-weight : goal.returns-clause-weight
returns-clause-weight c =
    of_result c.args.checked.now c.resolved.ensures.checked (λ f. flat_weight f ≤ rule_words shapes.Unrolled c.args.checked.now.domains c.args.checked.now.rule) (λ f h. h.weight) c.written_out.result (rw c.resolved.ensures.program at c.written_out.ensures)

pub returns-clause-registers : goal.returns-clause-registers
returns-clause-registers c =
    of_result c.args.checked.now c.resolved.ensures.checked (λ f. flat_registers f ≤ rule_registers c.args.checked.now.rule) (λ f h. h.registers) c.written_out.result (rw c.resolved.ensures.program at c.written_out.ensures)
