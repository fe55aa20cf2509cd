-- How many functions and locations a program has.
use Rattle.std.specs.Prelude.{ℕ, Bool, List, length, if◌then◌else◌}
use Rattle.std.specs.List.{sum_by}
use Rattle.asm_tree.specs.declared.decl.Kind.{Kind}
use Rattle.state_space.specs.declared.signature.Signature.{Signature}
use Rattle.state_space.specs.Locations.{located}
pub use Rattle.state_space.specs.Locations.{is_output, is_static}

-- how many functions are of such kinds
abbrev pub function_count : (Kind → Bool) → List Signature → ℕ
function_count held functions = sum_by (λ fun. if held fun.kind then 1 else 0) functions

-- how many locations these have
abbrev pub location_count : (Kind → Bool) → List Signature → ℕ
location_count held functions = length (located held 0 functions)
