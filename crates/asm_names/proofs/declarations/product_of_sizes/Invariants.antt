use Rattle.asm_names.proofs.Common.{◌≡◌, ℕ, map, min, drop, scope, meaning_of, size_of_domain, times_sizes}
use Rattle.asm_names.proofs.declarations.product_of_sizes.Given as goal

abbrev pub invariant-loop-name : goal.invariant-loop-name
invariant-loop-name l = (p : ℕ) × (l.product ≡ min p 18446744073709551615)
    × (times_sizes 1 (map (λ name. size_of_domain (meaning_of (scope l.table) name)) l.names)
    ≡ times_sizes p (map (λ name. size_of_domain (meaning_of (scope l.table) name)) (drop l.name-index l.names)))
