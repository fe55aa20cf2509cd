-- States that fit.
use Rattle.std.proofs.Common.{zero, suc, [], ◌∷◌}
use Rattle.std.proofs.Common.{◌≡◌, subst}
use Rattle.std.specs.Prelude.{slice_get}
use Rattle.state_space.specs.Codomains.{In, codomain_range}
use Rattle.state_space.specs.Locations.{Location}
use Rattle.state_space.specs.StateLaw.{ValuesKeepStatesFitting}

pub values-keep : ValuesKeepStatesFitting
values-keep signatures [] values place location value fit is inside = absurd cc
values-keep signatures (l ∷ ls) [] place location value fit is inside = absurd fit
values-keep signatures (l ∷ ls) (v ∷ vs) zero location value fit is inside =
    let same : location ≡ l = cc in
    (subst (λ (x : Location). In (codomain_range (slice_get signatures x.fun)) value) same inside, fit.1)
values-keep signatures (l ∷ ls) (v ∷ vs) (suc place) location value fit is inside = (fit.0, values-keep signatures ls vs place location value fit.1 is inside)
