-- The domains of loops.
use Rattle.std.proofs.Common.{◌≡◌, ℕ, ◌<◌, length, Option, Some, None, refl, subst}
use Rattle.asm_names.proofs.BinderRows.{binder-there}
use Rattle.asm_names.specs.{Binders.{binder_of}, WellFormed.{IsWellFormed}}
use Rattle.asm_names.specs.declared.{binders.Binder.{Binder}, program.Resolved.{Resolved}}
use Rattle.asm_names.specs.declared.binders.Binder.TheVariants.{Element, Local}
use Rattle.instr_select.specs.Binders.{binder_domain, element_domain}

-- the loops of a well-formed program are over domains that are there
pub loops-there : (program : Resolved) → IsWellFormed program → (binder domain : ℕ) → binder_domain program.rule binder ≡ Some domain → domain < length program.domains
unfolding binder_domain
loops-there program formed binder domain = by (binder_of program.rule binder) refl
  where
    by : (found : Option Binder) → binder_of program.rule binder ≡ found → element_domain found ≡ Some domain → domain < length program.domains
    by None is e = absurd cc
    by (Some Local) is e = absurd cc
    by (Some (Element d)) is e = let same : d ≡ domain = cc in subst (λ n. n < length program.domains) same (binder-there program formed binder (Element d) is)
