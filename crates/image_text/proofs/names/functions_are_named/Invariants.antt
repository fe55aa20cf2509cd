use Rattle.std.proofs.Common.{drop}
use Rattle.std.specs.List.{AllByRecursion}
use Rattle.asm_tree.specs.Names.{IsName}
use Rattle.image_text.proofs.names.functions_are_named.Given as goal

abbrev pub invariant-loop-function : goal.invariant-loop-function
invariant-loop-function l = AllByRecursion (λ fun. IsName fun.name) (drop l.function-index l.functions) → AllByRecursion (λ fun. IsName fun.name) l.functions
