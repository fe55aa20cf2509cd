-- Static tables as lists of indices, with a power of two for each argument.
use Rattle.std.specs.Prelude.{ℕ, ◌+◌, ◌*◌, ◌/◌, ◌%◌, ◌<◌, ℤ, pos, ◌-ℤ◌, List, [], ◌∷◌, ◌++◌, length, map, unsigned_abs, slice_get, slice_index_or, nat_lt, if◌then◌else◌, Option, Some, None, IsSomeAnd}
use Rattle.std.specs.List.{range_with_len}
use Rattle.std.specs.Option.{option_map}
use Rattle.asm_names.specs.declared.program.Domain.{Domain}
use Rattle.asm_names.specs.declared.program.Fun.{Fun}
use Rattle.asm_names.specs.declared.program.Resolved.{Resolved}
use Rattle.asm_tree.specs.declared.decl.Kind.{Kind}
use Rattle.asm_tree.specs.declared.decl.Kind.TheVariants as kinds
use Rattle.rv_isa.specs.declared.instr.Instr.{Instr}
use Rattle.rv_isa.specs.declared.instr.Instr.TheVariants.{Lui}
use Rattle.state_space.specs.Codomains.{In, whole}
use Rattle.state_space.specs.Locations.{range_of, tuples}
use Rattle.state_space.specs.Sizes.{padded_count}
use Rattle.state_space.specs.declared.signature.Range.{Range}

-- the instruction that stands in a table for an index
abbrev pub table_entry : ℕ → Instr
table_entry index = Lui 0 index

-- its word
abbrev pub table_number : ℕ → ℕ
table_number index = 4096 * index + 55

-- the index of a value in its domain, the least value having index 0
abbrev pub index_in : Range → ℤ → ℕ
index_in range value = unsigned_abs (value -ℤ range.lo)

-- the number of the tuple that stands at a padded index, none in a gap
abbrev pub place_at : List Range → ℕ → Option ℕ
place_at [] place = Some 0
place_at (range ∷ ranges) place =
    let index = place / padded_count ranges in
    if nat_lt index range.size then option_map (λ inner. index * length (tuples ranges) + inner) (place_at ranges (place % padded_count ranges)) else None

-- the index of the table's value with a number, 0 where there is none
abbrev pub index_at : Range → List ℤ → Option ℕ → ℕ
index_at range table None = 0
index_at range table (Some number) = index_in range (slice_index_or table number (pos 0))

-- each of so many values is there, and lies in the domain
abbrev pub EachHolds : Range → List ℤ → ℕ → Type 0
EachHolds range table count = (number : ℕ) → number < count → IsSomeAnd (slice_get table number) (In (whole range))

-- a function's table: the index of the value at each padded index, and 0 in the gaps
abbrev pub table_row : List Range → Range → List ℤ → List ℕ
table_row args range table = map (λ place. index_at range table (place_at args place)) (range_with_len 0 (padded_count args))

abbrev pub fun_row : List Domain → Fun → List ℕ
fun_row domains fun = table_row (map (range_of domains) fun.args) (range_of domains fun.codomain) fun.table

-- the table of a static function
abbrev pub own_row : Kind → List ℕ → List ℕ
own_row kinds.Static row = row
own_row kinds.Controlled row = []
own_row kinds.Output row = []
own_row kinds.Input row = []

-- the tables of these functions, one behind the other
abbrev pub rows : List Domain → List Fun → List ℕ
rows domains [] = []
rows domains (fun ∷ funs) = own_row fun.kind (fun_row domains fun) ++ rows domains funs

-- all static tables of a program
abbrev pub table_indices : Resolved → List ℕ
table_indices program = rows program.domains program.funs
