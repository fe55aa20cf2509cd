use Rattle.asm_names.proofs.Common.{◌≡◌, ◌+◌, ◌*◌, ◌++◌, drop, scope, items_faults, items_from}
use Rattle.asm_names.proofs.declarations.Declarations.items.Given as goal

abbrev pub invariant-loop-index : goal.invariant-loop-index
invariant-loop-index l = record {
  rest : items_faults (scope l.initial.self.table) l.domain 0 l.items l.initial.self.place ≡ items_faults (scope l.self.table) l.domain l.index (drop l.index l.items) l.self.place;
  names : scope l.self.table ++ items_from l.domain l.index (drop l.index l.items) ≡ scope l.initial.self.table ++ items_from l.domain 0 l.items;
  place : l.self.place ≡ l.initial.self.place + 2 * l.index;
  domains : l.self.domains ≡ l.initial.self.domains;
  funs : l.self.funs ≡ l.initial.self.funs;
}
