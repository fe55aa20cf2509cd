use Rattle.asm_names.proofs.Common.{◌≡◌, ◌++◌, map, drop}
use Rattle.asm_names.specs.Binders.{joined, kinds_in}
use Rattle.asm_names.proofs.binders.+list_binders.Given as goal

abbrev pub invariant-list_each-loop-rule : goal.invariant-list_each-loop-rule
invariant-list_each-loop-rule l = l.found ++ joined (map kinds_in (drop l.rule-index l.rules)) ≡ l.initial.found ++ joined (map kinds_in l.rules)
