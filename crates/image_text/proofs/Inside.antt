-- The locations of a function on a side.
use Rattle.std.proofs.Common.{◌≡◌, ℕ, ◌+◌, ◌-◌, ◌<◌, ◌≤◌, ◌^◌, ℤ, true, List, [], length, get_or, Some, sym, ap, ◌∙◌, arith, zero-add}
use Rattle.std.specs.Prelude.{slice_get}
use Rattle.std.specs.List.{AllByRecursion}
use Rattle.std.proofs.lemmas.List.{get_or_read, length-map}
use Rattle.std.proofs.lemmas.Option.{slice_get_within, slice_get-get_or}
use Rattle.asm_names.specs.declared.program.Domain.{Domain}
use Rattle.asm_names.specs.declared.program.Fun.{Fun}
use Rattle.asm_names.specs.declared.program.Resolved.{Resolved}
use Rattle.state_space.specs.declared.signature.Side.{Side}
use Rattle.state_space.specs.declared.signature.Side.TheVariants as sides
use Rattle.state_space.specs.declared.signature.Signature.{Signature}
use Rattle.state_space.specs.Firsts.{before}
use Rattle.state_space.specs.Kinds.{of_side}
use Rattle.state_space.specs.Locations.{IsSmall, Location, located, no_location, signature_of, signatures_of, state_locations, tuples}
use Rattle.state_space.specs.Sizes.{IsRange, IsSized}
use Rattle.state_space.proofs.Located.{located-at}
use Rattle.state_space.proofs.Padding.{padded_count-within, sized_from}
use Rattle.state_space.proofs.Small.{small, tuples_padded}
use Rattle.asm_ranges.specs.Values.{fun_of, no_fun}
use Rattle.state_layout.specs.declared.entry.Entry.{Entry}
use Rattle.state_layout.specs.Map.{Placement, entries}
use Rattle.state_layout.specs.MapLaw.{IsPlaced}
use Rattle.fault_script.specs.StateText.{location_text}
use Rattle.image_text.specs.Report.{entry_of, location_name}
use Rattle.image_text.specs.ReportParts.{location_on}
use Rattle.image_text.proofs.Bounds.{entry-here}
use Rattle.image_text.proofs.Listing.{own-held, own-within}

side-small : (side : Side) (signatures : List Signature) → IsSmall signatures → length (located (of_side side) 0 signatures) < 2 ^ 32
side-small sides.State signatures s = s.states
side-small sides.Input signatures s = s.inputs
side-small sides.Output signatures s = s.outputs

-- what is known of the locations of a function
pub record IsListed (side : Side) (signatures : List Signature) (fun : ℕ) (s : Signature) : Type 0 where
  pub below : fun < length signatures
  pub few : length s.args ≤ 3
  pub domains : AllByRecursion IsRange s.args
  pub many : length (tuples s.args) < 2 ^ 64
  pub within : before (of_side side) signatures fun + length (tuples s.args) ≤ length (located (of_side side) 0 signatures)
  pub small : length (located (of_side side) 0 signatures) < 2 ^ 32
  pub each : (number tuple : ℕ) → number ≡ before (of_side side) signatures fun + tuple → tuple < length (tuples s.args)
      → location_on side signatures number ≡ record { fun = fun; args = get_or (tuples s.args) tuple [] }

pub listed : (side : Side) (placement : Placement) (fun : ℕ) (s : Signature) → IsPlaced placement → slice_get placement.signatures fun ≡ Some s → of_side side s.kind ≡ true
    → IsListed side placement.signatures fun s
listed side placement fun s placed here held =
    let signatures : List Signature = placement.signatures in
    let first : ℕ = before (of_side side) signatures fun in
    let sized : IsSized s = sized_from signatures fun s placed.sized here in
    record {
      below = slice_get_within signatures fun s here;
      few = sized.few;
      domains = sized.domains;
      many = omega (arith, tuples_padded s.args, padded_count-within s.args sized.few sized.domains);
      within = own-within (of_side side) signatures fun s here held;
      small = side-small side signatures (small signatures placed.sized placed.room);
      each = λ number tuple is inside.
          let index : number - first ≡ tuple = omega (arith, is) in
          located-at (of_side side) 0 fun number signatures s here (omega (arith, is)) (omega (arith, is, own-held (of_side side) s true held))
          ∙ ap (λ n. record { fun = n; args = get_or (tuples s.args) (number - first) [] }) (zero-add fun)
          ∙ ap (λ n. record { fun = fun; args = get_or (tuples s.args) n [] }) index;
    }

-- the name that is written of a location
pub named : (program : Resolved) (placement : Placement) (fun : ℕ) (function : Fun) (domains : List Domain) (funs : List Fun) (args : List ℤ) → placement.signatures ≡ signatures_of program
    → fun < length placement.signatures → domains ≡ program.domains → funs ≡ program.funs → function ≡ get_or funs fun function
    → location_text domains function args ≡ location_name program (record { fun = fun; args = args })
named program placement fun function domains funs args same below is_domains is_funs here =
    let inside : fun < length funs = omega (arith, ap length same, length-map program.funs (signature_of program.domains), ap length is_funs) in
    let found : function ≡ fun_of program fun = get_or_read funs fun function inside here no_fun ∙ ap (λ xs. get_or xs fun no_fun) is_funs in
    ap (λ ds. location_text ds function args) is_domains ∙ ap (λ f. location_text program.domains f args) found

-- the entry of the state location with a number
pub entry-is : (placement : Placement) (number : ℕ) (e : Entry) → slice_get (entries placement) number ≡ Some e → number < length (state_locations placement.signatures)
    → e ≡ entry_of placement (location_on sides.State placement.signatures number)
entry-is placement number e here within =
    let location : Location = location_on sides.State placement.signatures number in
    let there = entry-here placement number location (slice_get-get_or (state_locations placement.signatures) number no_location within) in
    let same : Some e ≡ Some (entry_of placement location) = sym here ∙ there in
    cc
