-- Where the map of RAM ends.
use Rattle.std.proofs.Common.{◌≡◌, ℕ, ◌+◌, ◌*◌, Bool, true, false, List, [], ◌∷◌, ap, ◌∙◌, arith}
use Rattle.std.specs.Prelude.{if◌then◌else◌}
use Rattle.std.specs.List.{fold}
use Rattle.std.proofs.lemmas.List.Sums.{sum_by-cons}
use Rattle.state_space.specs.declared.signature.Signature.{Signature}
use Rattle.state_space.specs.Locations.{is_state, signatures_of}
use Rattle.state_space.specs.Sizes.{padded_count, padded_own, padded_sum}
use Rattle.trap_model.specs.Width.{bytes_of}
use Rattle.trap_model.specs.declared.width.Width.TheVariants.{Word}
use Rattle.state_layout.specs.declared.layout.Layout.TheVariants as layouts
use Rattle.state_layout.specs.Map.{array_behind, raised}
use Rattle.bound_count.specs.Laws.{MapsEndInside}

one-array : (held : Bool) (m n : ℕ) → (if held then raised (bytes_of Word) (4 * m) + bytes_of Word * n else 4 * m) ≡ 4 * (m + (if held then n else 0))
one-array true m n = omega arith
one-array false m n = omega arith

-- the arrays of words stand without gaps
words-end : (m : ℕ) (signatures : List Signature) → fold (array_behind layouts.Words) (4 * m) signatures ≡ 4 * (m + padded_sum is_state signatures)
words-end m [] = omega arith
words-end m (s ∷ signatures) =
    ap (λ end. fold (array_behind layouts.Words) end signatures) (one-array (is_state s.kind) m (padded_count s.args))
    ∙ words-end (m + padded_own is_state s) signatures
    ∙ omega (arith, sum_by-cons (padded_own is_state) s signatures)

pub maps-end-inside : MapsEndInside
maps-end-inside layouts.Words program = let all = words-end 0 (signatures_of program) in omega (arith, all)
maps-end-inside layouts.Packed program = omega arith
