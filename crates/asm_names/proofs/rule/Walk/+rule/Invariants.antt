use Rattle.asm_names.proofs.Common.{◌≡◌, ◌+◌, ◌*◌, ◌≤◌, ◌++◌, map, drop, sum, option_map, scope, rule_tokens, rule_binders, else_tokens, led, each_rule_faults, resolved_each, faulty, made}
use Rattle.asm_names.proofs.rule.Walk.+rule.Given as goal

abbrev pub decreases-rule : goal.decreases-rule
decreases-rule l = 4 * rule_tokens l.rule.now

abbrev pub decreases-boxed : goal.decreases-boxed
decreases-boxed l = 4 * rule_tokens l.rule.now + 1

abbrev pub decreases-else_part : goal.decreases-else_part
decreases-else_part l = 4 * else_tokens (option_map rule_tokens l.other.now)

abbrev pub decreases-each : goal.decreases-each
decreases-each l = 4 * led (map rule_tokens l.rules.now) + 1

abbrev pub decreases-conditional : goal.decreases-conditional
decreases-conditional l = 4 * (rule_tokens l.then_rule.now + else_tokens (option_map rule_tokens l.else_rule.now)) + 2

abbrev pub decreases-parallel : goal.decreases-parallel
decreases-parallel l = 4 * led (map rule_tokens l.rules.now) + 2

abbrev pub decreases-forall : goal.decreases-forall
decreases-forall l = 4 * rule_tokens l.body.now + 2

abbrev pub decreases-choose : goal.decreases-choose
decreases-choose l = 4 * (rule_tokens l.body.now + else_tokens (option_map rule_tokens l.else_rule.now)) + 2

abbrev pub decreases-local : goal.decreases-local
decreases-local l = 4 * rule_tokens l.body.now + 2

abbrev pub invariant-each-loop-rule : goal.invariant-each-loop-rule
invariant-each-loop-rule l = record {
  rest : each_rule_faults (scope l.initial.self.table) (map faulty l.rules) l.initial.self.place l.initial.self.binders
      ≡ each_rule_faults (scope l.self.table) (map faulty (drop l.rule-index l.rules)) l.self.place l.self.binders;
  done : l.resolved ++ resolved_each (scope l.self.table) (map made (drop l.rule-index l.rules)) l.self.binders
      ≡ resolved_each (scope l.initial.self.table) (map made l.rules) l.initial.self.binders;
  place : l.self.place + led (map rule_tokens (drop l.rule-index l.rules)) ≡ l.initial.self.place + led (map rule_tokens l.rules);
  binders : l.self.binders + sum (map rule_binders (drop l.rule-index l.rules)) ≡ l.initial.self.binders + sum (map rule_binders l.rules);
  names : scope l.self.table ≡ scope l.initial.self.table;
  further : l.initial.self.place ≤ l.self.place;
}
