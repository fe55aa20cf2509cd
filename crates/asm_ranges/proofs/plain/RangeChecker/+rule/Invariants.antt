use Rattle.std.proofs.Common.{◌≡◌, ◌+◌, ◌*◌, true, map, drop}
use Rattle.asm_names.specs.{Places.{led}, ResolvedPlaces.{resolved_rule_tokens, led_if}}
use Rattle.asm_ranges.specs.{RangeFaults.{each_rule_faults}, Rows.{after_each, intervals_after}, Contexts.{facts_of, scope_of, signatures_in}, FindingRules.{all_words, faulty_rule}}
use Rattle.asm_ranges.proofs.plain.RangeChecker.+rule.Given as goal

abbrev pub decreases-rule : goal.decreases-rule
decreases-rule l = 4 * resolved_rule_tokens l.rule.now

abbrev pub decreases-other : goal.decreases-other
decreases-other l = 4 * led_if l.has_else (resolved_rule_tokens l.rule.now) + 1

abbrev pub decreases-held : goal.decreases-held
decreases-held l = 4 * resolved_rule_tokens l.body.now + 1

abbrev pub decreases-branch : goal.decreases-branch
decreases-branch l = 4 * (resolved_rule_tokens l.then_rule.now + led_if l.has_else (resolved_rule_tokens l.else_rule.now)) + 2

abbrev pub decreases-each : goal.decreases-each
decreases-each l = 4 * led (map resolved_rule_tokens l.rules.now) + 1

abbrev pub decreases-parallel : goal.decreases-parallel
decreases-parallel l = 4 * led (map resolved_rule_tokens l.rules.now) + 2

abbrev pub decreases-guarded : goal.decreases-guarded
decreases-guarded l = 4 * resolved_rule_tokens l.body.now + 2

abbrev pub decreases-forall : goal.decreases-forall
decreases-forall l = 4 * resolved_rule_tokens l.body.now + 3

abbrev pub decreases-choose : goal.decreases-choose
decreases-choose l = 4 * (resolved_rule_tokens l.body.now + led_if l.has_else (resolved_rule_tokens l.else_rule.now)) + 3

abbrev pub decreases-local : goal.decreases-local
decreases-local l = 4 * resolved_rule_tokens l.body.now + 2

abbrev pub invariant-each-loop-rule : goal.invariant-each-loop-rule
invariant-each-loop-rule l = record {
  rest : each_rule_faults (map (faulty_rule l.self.domains.now (signatures_in l.self.domains.now l.self.funs.now)) l.rules) (scope_of l.context) (facts_of l.context) l.at
      ≡ each_rule_faults (map (faulty_rule l.self.domains.now (signatures_in l.self.domains.now l.self.funs.now)) (drop l.rule-index l.rules)) (scope_of l.context) (facts_of l.context) l.place;
  done : after_each (map (intervals_after l.self.domains.now (signatures_in l.self.domains.now l.self.funs.now)) l.rules) (scope_of l.context) l.initial.row
      ≡ after_each (map (intervals_after l.self.domains.now (signatures_in l.self.domains.now l.self.funs.now)) (drop l.rule-index l.rules)) (scope_of l.context) l.row;
  after : l.place + led (map resolved_rule_tokens (drop l.rule-index l.rules)) ≡ l.at + led (map resolved_rule_tokens l.rules);
  words : all_words l.row ≡ true;
}
