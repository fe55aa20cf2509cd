-- The values of the generator, one at a time.
use Rattle.std.proofs.Common.{◌≡◌, ℕ, suc, ◌+◌, ◌-◌, ◌<◌, ◌∷◌, refl, arith}
use Rattle.job_text.specs.Start.{after, generated, successor}

-- where values are left to be made, the next one comes first
pub generated_next : (count index value : ℕ) → index < count
    → generated (count - index) value ≡ successor value ∷ generated (count - (index + 1)) (successor value)
generated_next count index value inside =
    let more : count - index ≡ suc (count - (index + 1)) = omega (arith, inside) in rw more refl

pub after_next : (count index value : ℕ) → index < count
    → after (count - index) value ≡ after (count - (index + 1)) (successor value)
after_next count index value inside =
    let more : count - index ≡ suc (count - (index + 1)) = omega (arith, inside) in rw more refl
