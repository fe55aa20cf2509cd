-- How many values domains have, and how much room functions take where each argument has a power of two.
use Rattle.std.specs.Prelude.{ℕ, ◌≤◌, pos, negsuc, ◌+ℤ◌, ◌≤ℤ◌, Bool, ◌&&◌, nat_le, List, length, map, if◌then◌else◌}
use Rattle.std.specs.List.{sum_by, AllByRecursion}
use Rattle.asm_tree.specs.declared.decl.Kind.{Kind}
use Rattle.state_space.specs.declared.signature.Range.{Range}
use Rattle.state_space.specs.declared.signature.Signature.{Signature}
use Rattle.state_space.specs.Decoding.{padded_product}
use Rattle.state_space.specs.Locations.{is_state, is_input}

-- a domain has 1 to 65,536 values, which are at most 1,048,576 from 0
pub record IsRange (range : Range) : Type 0 where
  pub some : 1 ≤ range.size
  pub few : range.size ≤ 65536
  pub low : negsuc 1048575 ≤ℤ range.lo
  pub high : (range.lo +ℤ pos range.size) ≤ℤ pos 1048577

-- a function has at most 3 arguments, and its domains have 1 to 65,536 values each
pub record IsSized (signature : Signature) : Type 0 where
  pub few : length signature.args ≤ 3
  pub domains : AllByRecursion IsRange signature.args
  pub range : IsRange signature.codomain

-- the product, over a function's arguments, of the least power of two that is at least the domain's size
abbrev pub padded_count : List Range → ℕ
padded_count ranges = padded_product (map (λ range. range.size) ranges)

-- the padded size of a function, where its kind is such
abbrev pub padded_own : (Kind → Bool) → Signature → ℕ
padded_own is_kind signature = if is_kind signature.kind then padded_count signature.args else 0

-- the padded sizes of the functions of such kinds, in all
abbrev pub padded_sum : (Kind → Bool) → List Signature → ℕ
padded_sum is_kind signatures = sum_by (padded_own is_kind) signatures

-- as much as the state may take, and the inputs
abbrev pub most : ℕ
most = 524288

-- whether the state and the inputs take no more
abbrev pub fits : List Signature → Bool
fits signatures = nat_le (padded_sum is_state signatures) most && nat_le (padded_sum is_input signatures) most
