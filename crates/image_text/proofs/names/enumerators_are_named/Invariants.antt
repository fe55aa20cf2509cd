use Rattle.std.proofs.Common.{drop}
use Rattle.std.specs.List.{AllByRecursion}
use Rattle.asm_tree.specs.Names.{IsName}
use Rattle.image_text.proofs.names.enumerators_are_named.Given as goal

abbrev pub invariant-loop-domain : goal.invariant-loop-domain
invariant-loop-domain l = AllByRecursion (λ domain. AllByRecursion IsName domain.items) (drop l.domain-index l.domains) → AllByRecursion (λ domain. AllByRecursion IsName domain.items) l.domains
