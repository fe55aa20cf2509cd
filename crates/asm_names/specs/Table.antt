-- The names of a table.
use Rattle.std.specs.Prelude.{map, Some}
use Rattle.asm_names.specs.declared.table.Entry.{Entry}
use Rattle.asm_names.specs.declared.table.Entry.TheVariants as entries
use Rattle.asm_names.specs.declared.table.Table.{Table}
use Rattle.asm_names.specs.Meanings.{Meaning, Domain, Enumerator, Function, Binder, Scope}

-- what an entry says that a name stands for
abbrev pub known : Entry → Meaning
known (entries.Domain number size sort) = Domain number size sort
known (entries.Enumerator domain index) = Enumerator domain index
known (entries.Function number kind args values) = Function number kind (map Some args) (Some values)
known (entries.Binder number sort) = Binder number sort

-- the names of a table with what they stand for, in the order in which they were added
unfoldable pub scope : Table → Scope
scope table = map (λ entry. (entry.0.items, known entry.1)) table.entries.entries
