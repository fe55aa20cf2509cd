use Rattle.std.proofs.Common.{◌≡◌, ℤ, w64, to_z, of_z, rules, refl, subst, sym}
use Rattle.std.specs.Prelude.{slice_get}
use Rattle.std.proofs.lemmas.Option.{slice_get-get_or}
use Rattle.state_space.specs.Codomains.{In, codomain_range}
use Rattle.state_space.specs.Locations.{location_at, no_location, state_locations}
use Rattle.fault_script.proofs.Passed.{passed}
use Rattle.fault_script.proofs.value_reading.read_values.Goals as goal

pub reading-preserved-in-Some-behind_word : goal.reading-preserved-in-Some-behind_word
reading-preserved-in-Some-behind_word c =
    let space = c.args.space.now in
    let l = c.reading in
    let it = c.in_ok-it.it in
    let value : ℤ = to_z w64 (of_z w64 it.value) in
    let same : value ≡ it.value = passed it.value it.value (search rules) refl in (
      search rules,
      search rules,
      λ fit. rw c.set.ensures
          (c.values_keep_states_fitting.ensures space (state_locations space) l.state it.place (location_at space it.place) value (l.invariant.2 fit)
          (slice_get-get_or (state_locations space) it.place no_location c.in_ok-it.ensures.within)
          (subst (In (codomain_range (slice_get space (location_at space it.place).fun))) (sym same) c.in_ok-it.ensures.fits)),
    )
