-- What is known of terms whose sums fit.
use Rattle.std.specs.Prelude.{◌≡◌, ℕ, true, List, slice_get, IfSome}
use Rattle.asm_names.specs.declared.resolved_term.ResolvedTerm.{ResolvedTerm}
use Rattle.state_space.specs.{declared.signature.Signature.{Signature}, Codomains.{codomain_range}}
use Rattle.asm_ranges.specs.Ranges.{Scope, inside, sums_fit, words}
use Rattle.instr_select.specs.Short.{is_short}
pub use Rattle.bound_count.specs.ShortNumbers.{short_numbers, short_numbers_by}

-- the intervals of binders are of 32 signed bits
abbrev pub IsShortScope : Scope → Type 0
IsShortScope scope = (binder : ℕ) → IfSome (scope binder) (λ interval. inside interval words ≡ true)

-- so are the codomains of functions
abbrev pub AreShortSignatures : List Signature → Type 0
AreShortSignatures signatures = (fun : ℕ) → inside (codomain_range (slice_get signatures fun)) words ≡ true

-- the ranges of a term whose sums fit are of 32 signed bits, where its numbers, its binders and its functions' codomains are
abbrev pub FittingTermsAreShort : Type 0
FittingTermsAreShort =
    (signatures : List Signature) (scope : Scope) (term : ResolvedTerm) → IsShortScope scope → AreShortSignatures signatures → short_numbers term ≡ true → sums_fit signatures scope term ≡ true
    → is_short signatures scope term ≡ true
