-- The terms whose numbers are of 32 signed bits.
use Rattle.std.specs.{Prelude.{Bool, true, ◌&&◌}, List.{list_all}}
use Rattle.asm_names.specs.declared.resolved_term.ResolvedTerm.{ResolvedTerm, ResolvedTerm-F}
use Rattle.asm_names.specs.declared.resolved_term.ResolvedTerm.TheFolds.{fold-ResolvedTerm}
use Rattle.state_space.specs.Codomains.{just}
use Rattle.asm_ranges.specs.Ranges.{inside, words}

-- one term, with whether the numbers in each part are of 32 signed bits
abbrev pub short_numbers_by : ResolvedTerm-F Bool → Bool
short_numbers_by (ResolvedTerm-F.Number value) = inside (just value) words
short_numbers_by (ResolvedTerm-F.Var binder) = true
short_numbers_by (ResolvedTerm-F.Read fun args) = list_all (λ short. short) args
short_numbers_by (ResolvedTerm-F.Binary op left right) = left && right
short_numbers_by (ResolvedTerm-F.Not inner) = inner
short_numbers_by (ResolvedTerm-F.Min first second) = first && second
short_numbers_by (ResolvedTerm-F.Max first second) = first && second
short_numbers_by (ResolvedTerm-F.Cond guard first second) = guard && (first && second)

-- whether each number in a term is of 32 signed bits
unfoldable pub short_numbers : ResolvedTerm → Bool
short_numbers = fold-ResolvedTerm Bool short_numbers_by
