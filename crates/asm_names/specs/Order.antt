-- Faults in order.
use Rattle.std.specs.Prelude.{◌≡◌, ℕ, ◌<◌, ◌≤◌, ◌⊎◌, List, [], ◌∷◌}
use Rattle.std.specs.List.{AllByRecursion}
use Rattle.asm_names.specs.Faults.{Fault, code_of}

-- a fault comes before another: by its token, and at one token by its code
abbrev pub Before : Fault → Fault → Type 0
Before f g = (f.0 < g.0) ⊎ ((f.0 ≡ g.0) × (code_of f.1 < code_of g.1))

-- each fault comes before all that follow it
abbrev pub Ascending : List Fault → Type 0
Ascending [] = Unit {0}
Ascending (f ∷ fs) = AllByRecursion (Before f) fs × Ascending fs

-- faults in order, at tokens from one number up to another
pub record Spans (from to : ℕ) (faults : List Fault) : Type 0 where
  pub order : from ≤ to
  pub inside : AllByRecursion (λ f. (from ≤ f.0) × (f.0 < to)) faults
  pub ascending : Ascending faults
