-- How many locations there are, and how much room they take.
use Rattle.std.proofs.Common.{◌≡◌, ℕ, ◌+◌, ◌*◌, ◌≤◌, ◌^◌, Bool, true, false, List, [], ◌∷◌, length, map, take, refl, sym, ap, ◌∙◌, arith}
use Rattle.std.specs.Prelude.{if◌then◌else◌, nat_le}
use Rattle.std.specs.List.{sum_by, fold, AllByRecursion}
use Rattle.std.proofs.lemmas.Bool.{le-leb, and_from}
use Rattle.std.proofs.lemmas.List.{take_all}
use Rattle.std.proofs.lemmas.List.Sums.{sum_by-cons}
use Rattle.asm_tree.specs.declared.decl.Kind.{Kind}
use Rattle.asm_names.specs.declared.program.Domain.{Domain}
use Rattle.asm_names.specs.declared.program.Fun.{Fun}
use Rattle.asm_names.specs.declared.program.Resolved.{Resolved}
use Rattle.state_space.specs.declared.signature.Range.{Range}
use Rattle.state_space.specs.declared.signature.Signature.{Signature}
use Rattle.state_space.specs.Locations.{own_count, tuples, is_state, is_input, signature_of, signatures_of}
use Rattle.state_space.specs.Sizes.{IsRange, fits, padded_count, padded_own, padded_sum}
use Rattle.state_space.proofs.Numbers.{length-located, length-located-any}
use Rattle.state_space.proofs.Padding.{padded_count-within, sum_mapped}
use Rattle.state_space.proofs.Small.{tuples_padded}
use Rattle.state_layout.specs.declared.layout.Layout.{Layout}
use Rattle.state_layout.specs.declared.layout.Layout.TheVariants as layouts
use Rattle.trap_model.specs.Width.{bytes_of}
use Rattle.trap_model.specs.declared.width.Width.TheVariants.{Byte, Half}
use Rattle.state_layout.specs.Map.{array_behind, raised}
use Rattle.bound_count.specs.Amounts.{kept}
use Rattle.bound_count.specs.Counts.{location_count}
use Rattle.bound_count.specs.Numbers.{ram_number}

-- ---- locations

pub tuples-within : (ranges : List Range) → length ranges ≤ 3 → AllByRecursion IsRange ranges → length (tuples ranges) ≤ 2 ^ 48
tuples-within ranges few all = omega (arith, tuples_padded ranges, padded_count-within ranges few all)

counted : (held : Kind → Bool) (signatures : List Signature) → location_count held signatures ≡ sum_by (own_count held) signatures
counted held [] = refl
counted held (s ∷ signatures) =
    omega (arith, length-located held 0 s signatures, length-located-any held 1 0 signatures, counted held signatures, sum_by-cons (own_count held) s signatures)

-- all functions are counted
pub counted-all : (held : Kind → Bool) (domains : List Domain) (functions : List Fun) (n total : ℕ) → length functions ≤ n
    → total ≡ kept (sum_by (λ function. own_count held (signature_of domains function)) (take n functions)) → total ≡ kept (location_count held (map (signature_of domains) functions))
counted-all held domains functions n total past so_far =
    so_far
    ∙ ap kept
    (ap (sum_by (λ function. own_count held (signature_of domains function))) (take_all n functions past)
    ∙ sym (sum_mapped (signature_of domains) (own_count held) functions)
    ∙ sym (counted held (map (signature_of domains) functions)))

-- ---- room

-- an array takes at least a byte for each padded location
own-behind : (held small : Bool) (end n : ℕ)
    → end + (if held then n else 0)
    ≤ (if held then raised (bytes_of (if small then Byte else Half)) end + bytes_of (if small then Byte else Half) * n else end)
own-behind true true end n = omega arith
own-behind true false end n = omega arith
own-behind false small end n = omega arith

behind-all : (end : ℕ) (signatures : List Signature) → end + padded_sum is_state signatures ≤ fold (array_behind layouts.Packed) end signatures
behind-all end [] = omega arith
behind-all end (s ∷ signatures) =
    omega (
      arith,
      sum_by-cons (padded_own is_state) s signatures,
      own-behind (is_state s.kind) (nat_le s.codomain.size 256) end (padded_count s.args),
      behind-all (array_behind layouts.Packed end s) signatures,
    )

-- a program that needs little RAM has few locations
pub fits-little : (layout : Layout) (program : Resolved) → ram_number layout program ≤ 1048576 → fits (signatures_of program) ≡ true
fits-little layouts.Words program little =
    let states : padded_sum is_state (signatures_of program) ≤ 524288 = omega arith in
    let inputs : padded_sum is_input (signatures_of program) ≤ 524288 = omega arith in
    and_from _ _ (le-leb _ _ states) (le-leb _ _ inputs)
fits-little layouts.Packed program little =
    let packed = behind-all 0 (signatures_of program) in
    let states : padded_sum is_state (signatures_of program) ≤ 524288 = omega (arith, packed) in
    let inputs : padded_sum is_input (signatures_of program) ≤ 524288 = omega arith in
    and_from _ _ (le-leb _ _ states) (le-leb _ _ inputs)
