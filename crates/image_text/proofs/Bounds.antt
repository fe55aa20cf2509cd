-- The numbers of locations are small.
use Rattle.std.proofs.Common.{◌≡◌, ℕ, zero, suc, ◌<◌, ◌^◌, List, [], ◌∷◌, unsigned_abs, Some, refl, ap, ◌∙◌, arith}
use Rattle.std.specs.Prelude.{slice_get}
use Rattle.std.specs.List.{AllByRecursion}
use Rattle.std.specs.Option.{option_map}
use Rattle.std.proofs.lemmas.Int.{ints}
use Rattle.std.proofs.lemmas.Option.{slice_get-map}
use Rattle.state_space.specs.declared.signature.Range.{Range}
use Rattle.state_space.specs.declared.signature.Signature.{Signature}
use Rattle.state_space.specs.Codomains.{codomain_of}
use Rattle.state_space.specs.Locations.{Location, state_locations}
use Rattle.state_space.specs.Sizes.{IsRange, IsSized}
use Rattle.state_space.proofs.Small.{room}
use Rattle.state_layout.specs.declared.entry.Entry.{Entry}
use Rattle.state_layout.specs.Map.{Placement, access_at, cell_of, entries, entry_at, state_cells, state_end}
use Rattle.state_layout.specs.MapLaw.{IsPlaced}
use Rattle.state_layout.proofs.Arrays.{end-bound}
use Rattle.state_layout.proofs.Places.{entries-lie-inside}
use Rattle.state_layout.proofs.Widths.{width-some}
use Rattle.image_text.specs.Report.{address_of, entry_of}

-- the state ends below 2 ^ 23
state-low : (placement : Placement) → IsPlaced placement → state_end placement < 2 ^ 23
state-low placement placed =
    omega (arith, end-bound placement.layout 0 placement.signatures, (room placement.signatures placed.room).states)

pub entry-low : (placement : Placement) (i : ℕ) (e : Entry) → IsPlaced placement → slice_get (entries placement) i ≡ Some e → address_of e < 2 ^ 32
entry-low placement i e placed here =
    let inside = (entries-lie-inside placement i e placed.sized here).0 in
    omega (arith, inside.below, state-low placement placed)

-- ---- a domain has few values, the least of which is near 0
pub record IsTellable (range : Range) : Type 0 where
  pub size : range.size < 2 ^ 64
  pub lo : unsigned_abs range.lo < 2 ^ 63

range-tellable : (range : Range) → IsRange range → IsTellable range
range-tellable range is =
    let low = is.low in let high = is.high in let few = is.few in record { size = omega arith; lo = omega (arith, ints) }

pub codomain-tellable : (signatures : List Signature) (n : ℕ) → AllByRecursion IsSized signatures → IsTellable (codomain_of (slice_get signatures n))
codomain-tellable [] n all = record { size = omega arith; lo = omega arith }
codomain-tellable (s ∷ signatures) zero all = range-tellable s.codomain all.0.range
codomain-tellable (s ∷ signatures) (suc n) all = codomain-tellable signatures n all.1

pub width-small : (placement : Placement) (location : Location) → (entry_of placement location).width < 2 ^ 64
width-small placement location = omega (arith, width-some (access_at placement location.fun))

-- ---- the entries of the state locations
each-all : {A : Type 0} (P : A → Type 0) (xs : List A) → ((i : ℕ) (x : A) → slice_get xs i ≡ Some x → P x) → AllByRecursion P xs
each-all P [] h = tt
each-all P (x ∷ xs) h = (h 0 x refl, each-all P xs (λ i. h (suc i)))

pub entry-here : (placement : Placement) (i : ℕ) (location : Location) → slice_get (state_locations placement.signatures) i ≡ Some location
    → slice_get (entries placement) i ≡ Some (entry_of placement location)
entry-here placement i location here =
    slice_get-map (entry_at placement) (state_cells placement) i
    ∙ ap (option_map (entry_at placement)) (slice_get-map (cell_of placement.signatures) (state_locations placement.signatures) i ∙ ap (option_map (cell_of placement.signatures)) here)

pub entries-low : (placement : Placement) → IsPlaced placement → AllByRecursion (λ location. address_of (entry_of placement location) < 2 ^ 32) (state_locations placement.signatures)
entries-low placement placed =
    each-all (λ location. address_of (entry_of placement location) < 2 ^ 32) (state_locations placement.signatures)
    (λ i location here. entry-low placement i (entry_of placement location) placed (entry-here placement i location here))
