use Rattle.std.proofs.Common.{◌≡◌, ◌+◌, map, take}
use Rattle.block_code.specs.Tree.{plan_of}
use Rattle.rule_code.specs.Code.{case_code, rule_plan}
use Rattle.rule_code.proofs.FlatSizes.{case_sizes, size, sizes}
use Rattle.rule_code.proofs.rules.RuleWriter.+rule.Given as goal

abbrev pub decreases-rule : goal.decreases-rule
decreases-rule l = size l.flat.now

abbrev pub decreases-case : goal.decreases-case
decreases-case l = 1 + size l.rule.now

abbrev pub decreases-cases : goal.decreases-cases
decreases-cases l = case_sizes l.list.now

abbrev pub decreases-parts : goal.decreases-parts
decreases-parts l = sizes l.parts.now

abbrev pub invariant-cases-loop-guard : goal.invariant-cases-loop-guard
invariant-cases-loop-guard l = map plan_of l.trees.items ≡ map (case_code l.self.checked.now l.self.map.now l.self.tables) (take l.guard-index l.list)

abbrev pub invariant-parts-loop-part : goal.invariant-parts-loop-part
invariant-parts-loop-part l = map plan_of l.trees.items ≡ map (rule_plan l.self.checked.now l.self.map.now l.self.tables) (take l.part-index l.parts)
