use Rattle.std.proofs.Common.{sym, ap, ◌∙◌, arith}
use Rattle.state_space.specs.Locations.{location_at}
use Rattle.state_space.proofs.Located.{located-state, there}
use Rattle.state_space.proofs.space.Space.function_at.Goals as goal

pub returns-clause-function : goal.returns-clause-function
returns-clause-function c =
    let exists = rw c.as_slice.ensures at c.function_of.ensures.exists in
    let s = there c.self.inside.signatures c.function_of.result (omega (arith, exists, c.self.invariant.of_states.long)) in
    let at = located-state c.self.inside.signatures c.self.inside.states c.args.place c.function_of.result s.0 c.self.invariant.of_states s.1
    exists (rw c.as_slice.ensures at c.function_of.ensures.low) (rw c.as_slice.ensures at c.function_of.ensures.high) in
    sym (ap (λ location. location.fun) at.location) ∙ ap (λ signatures. (location_at signatures c.args.place).fun) c.self.view_is
