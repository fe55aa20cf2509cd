use Rattle.asm_names.proofs.Common.{◌≡◌, ◌+◌, ◌*◌, map, take, drop, Some, scope, meaning_of, number_of, sort_of_domain, domains_faults}
use Rattle.asm_names.proofs.declarations.Declarations.arguments.Given as goal

abbrev pub invariant-loop-arg : goal.invariant-loop-arg
invariant-loop-arg l = record {
  rest : domains_faults (scope l.initial.self.table) l.args l.initial.self.place ≡ domains_faults (scope l.self.table) (drop l.arg-index l.args) l.self.place;
  numbers : l.numbers ≡ map (λ arg. number_of (meaning_of (scope l.initial.self.table) arg)) (take l.arg-index l.args);
  sorts : map Some l.sorts ≡ map (λ arg. sort_of_domain (meaning_of (scope l.initial.self.table) arg)) (take l.arg-index l.args);
  self : l.self ≡ record l.initial.self { place = l.initial.self.place + 2 * l.arg-index };
}
