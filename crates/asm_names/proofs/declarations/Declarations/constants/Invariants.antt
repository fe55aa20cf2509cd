use Rattle.asm_names.proofs.Common.{◌≡◌, ◌+◌, map, take, drop, scope, consts_tokens, consts_faults, resolved_const}
use Rattle.asm_names.specs.declared.sort.Need.TheVariants as needs
use Rattle.asm_names.proofs.declarations.Declarations.constants.Given as goal

abbrev pub invariant-loop-constant : goal.invariant-loop-constant
invariant-loop-constant l = record {
  rest : consts_faults (scope l.initial.self.table) (needs.Only l.values) l.table l.initial.self.place
      ≡ consts_faults (scope l.self.table) (needs.Only l.values) (drop l.constant-index l.table) l.self.place;
  found : l.found ≡ map (resolved_const (scope l.initial.self.table)) (take l.constant-index l.table);
  place : l.self.place + consts_tokens (drop l.constant-index l.table) ≡ l.initial.self.place + consts_tokens l.table;
  self : l.self ≡ record l.initial.self { place = l.self.place };
}
