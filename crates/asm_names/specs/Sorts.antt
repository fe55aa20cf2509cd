-- Sorts, and the sorts that places need.
use Rattle.std.specs.Prelude.{Bool, true, false, not, nat_eq, Option, Some, None}
use Rattle.asm_tree.specs.declared.term.Op.{Op}
use Rattle.asm_tree.specs.declared.term.Op.TheVariants as ops
use Rattle.asm_names.specs.declared.sort.Sort.{Sort}
use Rattle.asm_names.specs.declared.sort.Sort.TheVariants as sorts
use Rattle.asm_names.specs.declared.sort.Need.{Need}
use Rattle.asm_names.specs.declared.sort.Need.TheVariants as needs

-- whether two sorts are equal
abbrev pub same_sort : Sort → Sort → Bool
same_sort sorts.Int sorts.Int = true
same_sort sorts.Truth sorts.Truth = true
same_sort (sorts.List domain) (sorts.List other) = nat_eq domain other
same_sort _ _ = false

-- the same sort, where there is one
abbrev pub same_as : Option Sort → Need
same_as None = needs.Anything
same_as (Some sort) = needs.Only sort

-- whether a sort isn't the one needed; a missing sort is no fault
abbrev pub refuses : Need → Option Sort → Bool
refuses need None = false
refuses needs.Anything (Some sort) = false
refuses needs.NotTruth (Some sort) = same_sort sort sorts.Truth
refuses (needs.Only needed) (Some sort) = not (same_sort needed sort)

-- the sort of two terms with this operator between them
abbrev pub op_sort : Op → Sort
op_sort ops.Add = sorts.Int
op_sort ops.Sub = sorts.Int
op_sort _ = sorts.Truth

-- what the operator needs of the term before it
abbrev pub left_need : Op → Need
left_need ops.Eq = needs.NotTruth
left_need ops.Ne = needs.NotTruth
left_need ops.And = needs.Only sorts.Truth
left_need ops.Or = needs.Only sorts.Truth
left_need _ = needs.Only sorts.Int

-- what it needs of the term after it, by the sort of the one before
abbrev pub right_need : Op → Option Sort → Need
right_need ops.Eq left = same_as left
right_need ops.Ne left = same_as left
right_need op left = left_need op
