-- Terms in a list, one after another.
use Rattle.asm_names.proofs.Common.{◌≡◌, ℕ, ◌+◌, ◌<◌, ◌≤◌, List, [], ◌∷◌, ◌++◌, map, drop, get_or, length, Some, refl, arith, slice_get, drop_more, slice_get-get_or, Term, Sort, Need, same_as, Scope}
use Rattle.asm_names.proofs.Common.{term_faults, each_faults, term_tokens, parted, in_parentheses, part}
use Rattle.asm_names.proofs.InTurn.{drop-next}
use Rattle.asm_names.specs.declared.sort.Sort.TheVariants as sorts

pub parted-in_parentheses : (ns : List ℕ) → parted ns ≤ in_parentheses ns
parted-in_parentheses [] = omega arith
parted-in_parentheses (n ∷ ns) = omega arith

pub each_faults-next : (i : ℕ) (ts : List Term) (t : Term) → i < length ts → t ≡ get_or ts i t → (scope : Scope) (ss : List Sort) (need : Need) (at : ℕ) → i < length ss → need ≡ same_as (slice_get ss i)
    → each_faults (map Some (drop i ss)) (map (part scope) (drop i ts)) at
    ≡ term_faults scope t need at ++ each_faults (map Some (drop (i + 1) ss)) (map (part scope) (drop (i + 1) ts)) (at + term_tokens t + 1)
each_faults-next i ts t there is scope ss need at within needed =
    let sorted : drop i ss ≡ get_or ss i sorts.Int ∷ drop (i + 1) ss = drop_more ss i sorts.Int within in
    rw (needed, slice_get-get_or ss i sorts.Int within, sorted, drop-next i ts t there is) refl
