use Rattle.std.proofs.Common.{ap, sym, subst, ◌∙◌, slice_index_or, length, ◌≤◌, arith}
use Rattle.state_layout.specs.Map.{Placement}
use Rattle.state_layout.specs.Tables.{AreLow, no_ends}
use Rattle.state_layout.proofs.Tabling.{ends-low}
use Rattle.state_layout.proofs.map.Map.ends_at.Goals as goal

pub returns-clause-low : goal.returns-clause-low
returns-clause-low c =
    let placement : Placement = record { layout = c.self.inside.layout; signatures = c.self.inside.space } in
    let within : c.args.fun ≤ length placement.signatures = omega (arith, c.requires, ap (λ (p : Placement). length p.signatures) c.self.view_is) in
    subst AreLow (sym (ap (λ l. slice_index_or l c.args.fun no_ends) c.as_slice.ensures ∙ c.self.invariant.of_ends.each c.args.fun within)) (ends-low placement c.args.fun c.self.invariant.room)
