use Rattle.std.proofs.Common.{◌-◌, sym, ap, ◌∙◌, arith, get_or}
use Rattle.state_space.specs.Locations.{location_at}
use Rattle.state_space.proofs.Located.{IsLocated, located-state}
use Rattle.state_space.proofs.Padding.{read_at}
use Rattle.state_space.proofs.space.Space.tuple_at.Goals as goal

located : (c : goal.After-as_slice-4) → IsLocated c.self.inside.signatures c.args.place c.function_of-fun.result (c.args.place - get_or c.self.inside.states c.function_of-fun.result 0) c.index-as_slice-fun.result
located c =
    let exists = rw c.as_slice.ensures at c.function_of-fun.ensures.exists in
    let there = read_at _ _ _ _ c.as_slice-3.ensures c.index-as_slice-fun.is (omega (arith, exists, c.self.invariant.of_states.long)) in
    located-state c.self.inside.signatures c.self.inside.states c.args.place c.function_of-fun.result c.index-as_slice-fun.result c.self.invariant.of_states there
    exists (rw c.as_slice.ensures at c.function_of-fun.ensures.low) (rw c.as_slice.ensures at c.function_of-fun.ensures.high)

pub returns-clause-within : goal.returns-clause-within
returns-clause-within c = rw (c.as_slice-4.ensures, sym c.index-as_slice-fun.is, c.as_slice-2.ensures) (located c).inside

pub returns-clause-tuple : goal.returns-clause-tuple
returns-clause-tuple c =
    rw (c.as_slice-4.ensures, sym c.index-as_slice-fun.is, c.as_slice-2.ensures)
    (sym (ap (λ location. location.args) (located c).location) ∙ ap (λ signatures. (location_at signatures c.args.place).args) c.self.view_is)
