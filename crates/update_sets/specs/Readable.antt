-- What the calls inside this crate know of what terms are read in.
use Rattle.std.specs.Prelude.{◌≡◌, ℤ, List}
use Rattle.asm_names.specs.declared.program.Resolved.{Resolved}
use Rattle.state_space.specs.declared.signature.Signature.{Signature}
use Rattle.state_space.specs.Locations.{signatures_of}
use Rattle.asm_ranges.specs.{Keeping.{IsChecked}, Ranges.{ReadsFit}}

-- the program is checked, the space is its, and all that is read has values of it
pub record Readable (program : Resolved) (space : List Signature) (state inputs : List ℤ) : Type 0 where
  pub spaces : space ≡ signatures_of program
  pub reads : ReadsFit program state inputs
  pub checked : IsChecked program
