-- What is read and what is updated has a location.
use Rattle.std.proofs.Common.{◌≡◌, ℤ, Bool, true, List, map, Option, Some, None, refl, ap, sym, ◌∙◌, arith}
use Rattle.std.{specs.{Prelude.{is_some, slice_get}, List.{list_any, position}, Option.{option_map}}, proofs.lemmas.{Bool.{and_parts}, Option.{slice_get-map}}}
use Rattle.asm_tree.specs.declared.decl.Kind.{Kind}
use Rattle.asm_names.specs.declared.{program.{Fun.{Fun}}, resolved_term.ResolvedTerm.{ResolvedTerm-F}}
use Rattle.asm_names.specs.WellFormed.{is_changing, may_be_updated}
use Rattle.state_space.specs.Locations.{input_locations, is_input, is_state, place_among, signature_of, signatures_of, state_locations, tuples}
use Rattle.asm_ranges.specs.{Laws.{ReadsHaveLocations, UpdatesHaveLocations}, Values.{takes_args, value}}
use Rattle.asm_ranges.proofs.{Levels.{defined_at, defined_read}, PlacedRules.{changing-Update, placed-write, taken-Update}, Readings.{found, location_in, tuple_in}, Terms.{lie-in}}
use Rattle.asm_tree.specs.declared.decl.Kind.TheVariants as kinds
use Rattle.asm_names.specs.declared.resolved_term.ResolvedTerm.TheVariants as terms

is-there : {A : Type 0} (p : A → Bool) (xs : List A) → list_any p xs ≡ true → is_some (position p xs) ≡ true
is-there p xs h = ap is_some (found p xs h)

pub reads-have-locations : ReadsHaveLocations
reads-have-locations program state inputs env fun args signature there h =
    let taken = (and_parts _ _ (sym (defined_read program state inputs env fun args) ∙ sym (defined_at (ResolvedTerm-F.Read fun args) _ (terms.rolls-Read fun args) program state inputs env) ∙ h)).1 in
    let values : List ℤ = map (value program state inputs env) args in
    let inside = lie-in signature.args values (ap (λ o. takes_args o values) (sym there) ∙ taken) in (
      λ kind. is-there _ (state_locations (signatures_of program)) (location_in is_state (signatures_of program) 0 fun fun signature values (omega arith) there kind inside),
      λ kind. is-there _ (input_locations (signatures_of program)) (location_in is_input (signatures_of program) 0 fun fun signature values (omega arith) there kind inside),
      is-there _ (tuples signature.args) (tuple_in values signature.args inside),
    )

changing-state : (kind : Kind) → is_changing kind ≡ true → is_state kind ≡ true
changing-state kinds.Controlled h = refl
changing-state kinds.Output h = refl
changing-state kinds.Input h = absurd cc
changing-state kinds.Static h = absurd cc

pub updates-have-locations : UpdatesHaveLocations
updates-have-locations program state inputs env fun args new checked reads placed = (
  by (slice_get program.funs fun) refl (changing-Update program state inputs checked reads env _ placed fun args new refl)
      (taken-Update program state inputs checked reads env _ placed fun args new refl),
  placed-write program state inputs checked reads env _ placed fun args new refl,
)
  where
    by : (o : Option Fun) → slice_get program.funs fun ≡ o → may_be_updated o ≡ true → takes_args (slice_get (signatures_of program) fun) (map (value program state inputs env) args) ≡ true
        → is_some (place_among (state_locations (signatures_of program)) (record { fun = fun; args = map (value program state inputs env) args })) ≡ true
    by None e m taken = absurd cc
    by (Some f) e m taken =
        let values : List ℤ = map (value program state inputs env) args in
        let there = slice_get-map (signature_of program.domains) program.funs fun ∙ ap (option_map (signature_of program.domains)) e in
        is-there _ (state_locations (signatures_of program))
        (location_in is_state (signatures_of program) 0 fun fun (signature_of program.domains f) values (omega arith) there (changing-state f.kind m)
        (lie-in (signature_of program.domains f).args values (ap (λ o. takes_args o values) (sym there) ∙ taken)))
