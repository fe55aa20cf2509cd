-- Where the map of each layout ends.
use Rattle.std.proofs.Common.{◌≡◌, ℕ, ◌+◌, ◌*◌, ◌%◌, Bool, true, false, List, [], ◌∷◌, ap, ◌∙◌, arith}
use Rattle.std.specs.Prelude.{if◌then◌else◌}
use Rattle.std.specs.List.{fold}
use Rattle.std.proofs.lemmas.List.Sums.{sum_by-cons}
use Rattle.state_space.specs.declared.signature.Signature.{Signature}
use Rattle.state_space.specs.Locations.{is_state}
use Rattle.state_space.specs.Sizes.{padded_count, padded_own, padded_sum}
use Rattle.state_layout.specs.declared.layout.Layout.TheVariants.{Words}
use Rattle.state_layout.specs.Map.{array_behind, arrays_end, flag_width, raised_for, array_size}
use Rattle.state_layout.specs.MapLaw.{PackedEnd, WordsEnd}

-- words need no raising
word-behind : (n : ℕ) (signature : Signature) → n % 4 ≡ 0 → array_behind Words n signature ≡ n + 4 * padded_own is_state signature
word-behind n signature h = by (is_state signature.kind)
  where
    by : (b : Bool) → (if b then raised_for Words n signature + array_size Words signature else n) ≡ n + 4 * (if b then padded_count signature.args else 0)
    by true = omega arith
    by false = omega arith

words-from : (n : ℕ) (signatures : List Signature) → n % 4 ≡ 0 → fold (array_behind Words) n signatures ≡ n + 4 * padded_sum is_state signatures
words-from n [] h = omega arith
words-from n (s ∷ signatures) h =
    let here = word-behind n s h in
    let multiple : array_behind Words n s % 4 ≡ 0 = omega (arith, here) in
    omega (arith, here, words-from (array_behind Words n s) signatures multiple, sum_by-cons (padded_own is_state) s signatures)

pub words-end : WordsEnd
words-end placement binders e =
    let whole : arrays_end placement.layout placement.signatures ≡ 4 * padded_sum is_state placement.signatures =
    ap (λ l. arrays_end l placement.signatures) e ∙ words-from 0 placement.signatures (omega arith) ∙ (let none : 0 + 4 * padded_sum is_state placement.signatures ≡ 4 * padded_sum is_state placement.signatures = omega arith in none) in
    let wide : flag_width placement.layout ≡ 4 = ap flag_width e in
    let flags : flag_width placement.layout * padded_sum is_state placement.signatures ≡ 4 * padded_sum is_state placement.signatures = ap (λ w. w * padded_sum is_state placement.signatures) wide in
    omega (arith, whole, flags)

pub packed-end : PackedEnd
packed-end placement binders e =
    let wide : flag_width placement.layout ≡ 1 = ap flag_width e in
    let flags : flag_width placement.layout * padded_sum is_state placement.signatures ≡ 1 * padded_sum is_state placement.signatures = ap (λ w. w * padded_sum is_state placement.signatures) wide in
    omega (arith, flags)
