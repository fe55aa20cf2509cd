-- What holds where no binder is bound.
use Rattle.std.proofs.Common.{◌≡◌, ◌<◌, ℤ, pos, List, [], ◌++◌, length, Option, Some, refl, sym, ap, ◌∙◌, subst}
use Rattle.std.proofs.Math.ListN.{length-replicate}
use Rattle.std.proofs.lemmas.Slice.Zip.{AllZip-long}
use Rattle.asm_names.specs.declared.resolved_term.ResolvedTerm.{ResolvedTerm}
use Rattle.std.specs.List.{All}
use Rattle.asm_names.specs.declared.program.Resolved.{Resolved}
use Rattle.state_space.specs.declared.signature.Signature.{Signature}
use Rattle.state_space.specs.Locations.{state_locations, signatures_of}
use Rattle.asm_ranges.specs.{Keeping.{IsChecked}, Places.{RulePlaced, TermPlaced}, Ranges.{ReadsFit}}
use Rattle.asm_ranges.proofs.PlacedRules.{placed-program, placed-legal}
use Rattle.state_space.specs.Firing.{fired}
use Rattle.update_sets.specs.Fitting.{Fitting, FitsLocation}
use Rattle.update_sets.specs.Readable.{Readable}
use Rattle.update_sets.proofs.Keeps.{fired_fits, fit_all, fit_placed, yields_fit}
use Rattle.update_sets.specs.Least.{least}
use Rattle.update_sets.specs.Steps.{unbound, Step, StepLeast}
use Rattle.update_sets.specs.Yields.{Updates, Yields, YieldsLeast}
use Rattle.update_sets.proofs.Choices.{least_is_yielded, least_is_any}

-- the program's rule stands where no binder is bound
pub start_placed : (program : Resolved) (state inputs env : List ℤ) → IsChecked program → ReadsFit program state inputs → env ≡ unbound program → RulePlaced program state inputs program.rule env
start_placed program state inputs env checked reads e = placed-program program state inputs checked reads env (ap length e ∙ length-replicate program.binders (pos 0))

-- what was appended to no updates is what is computed where no binder is bound
pub start_computed : (program : Resolved) (state inputs env : List ℤ) (us : Updates) → env ≡ unbound program → us ≡ [] ++ least program state inputs program.rule env
    → us ≡ least program state inputs program.rule (unbound program)
start_computed program state inputs env us e h = h ∙ ap (λ n. least program state inputs program.rule n) e

abbrev pub Computed : Resolved → List ℤ → List ℤ → Updates → Type 0
Computed program state inputs us = us ≡ least program state inputs program.rule (unbound program)

-- the computed updates are yielded
pub computed_yields : (program : Resolved) (state inputs : List ℤ) (us : Updates) → Computed program state inputs us
    → YieldsLeast program state inputs program.rule (unbound program) us
computed_yields program state inputs us is =
    subst (λ vs. YieldsLeast program state inputs program.rule (unbound program) vs) (sym is) (least_is_yielded program state inputs program.rule (unbound program))

-- what a checked program adds to what fits
pub readable : (program : Resolved) (space : List Signature) (state inputs : List ℤ) → Fitting program space state inputs → IsChecked program → Readable program space state inputs
readable program space state inputs fit checked =
    record { spaces = fit.spaces; reads = record { states = fit.states; readings = fit.readings; tables = checked.tables }; checked = checked }

-- what the program may yield is at places of the state
pub yielded_placed : (program : Resolved) (space : List Signature) (state inputs : List ℤ) (us : Updates) → Readable program space state inputs → Yields program state inputs program.rule (unbound program) us
    → All (λ u. u.place < length state) us
yielded_placed program space state inputs us r y =
    subst (λ n. All (λ u. u.place < n) us) (sym (AllZip-long _ (state_locations (signatures_of program)) state r.reads.states))
    (fit_placed program state inputs r.checked r.reads us
    (yields_fit program state inputs r.checked r.reads program.rule (unbound program) (start_placed program state inputs (unbound program) r.checked r.reads refl) us y))

-- and its values lie in their codomains
pub yielded_values : (program : Resolved) (space : List Signature) (state inputs : List ℤ) (us : Updates) → Readable program space state inputs → Yields program state inputs program.rule (unbound program) us
    → All (FitsLocation program) us
yielded_values program space state inputs us r y =
    fit_all program state inputs r.checked r.reads us
    (yields_fit program state inputs r.checked r.reads program.rule (unbound program) (start_placed program state inputs (unbound program) r.checked r.reads refl) us y)

-- what fits still does after what the program may yield
pub yielded_fits : (program : Resolved) (space : List Signature) (state inputs : List ℤ) (us : Updates) → Readable program space state inputs → Yields program state inputs program.rule (unbound program) us
    → Fitting program space (fired state us) inputs
yielded_fits program space state inputs us r y = record {
  spaces = r.spaces;
  states =
      fired_fits program state inputs r.checked r.reads us
      (yields_fit program state inputs r.checked r.reads program.rule (unbound program) (start_placed program state inputs (unbound program) r.checked r.reads refl) us y);
  readings = r.reads.readings;
}

-- the computed updates may be yielded
pub computed_any : (program : Resolved) (state inputs : List ℤ) (us : Updates) → Computed program state inputs us → Yields program state inputs program.rule (unbound program) us
computed_any program state inputs us is = least_is_any program state inputs program.rule (unbound program) us (computed_yields program state inputs us is)

-- a step of the least choices is a step
pub least_step : (program : Resolved) (state inputs next : List ℤ) → StepLeast program state inputs next → Step program state inputs next
least_step program state inputs next s =
    record { updates = s.updates; yielded = least_is_any program state inputs program.rule (unbound program) s.updates s.yielded; made = s.made }

-- a program's legal term has a value where no binder is bound
pub legal_placed : (program : Resolved) (state inputs : List ℤ) (legal : Option ResolvedTerm) (term : ResolvedTerm) → IsChecked program → ReadsFit program state inputs → legal ≡ program.legal
    → legal ≡ Some term → TermPlaced program state inputs term []
legal_placed program state inputs legal term checked reads same is = placed-legal program state inputs checked reads [] term (sym same ∙ is)
