-- The state that RAM holds, of a program whose map lies in it.
use Rattle.std.proofs.Common.{◌≡◌, ℕ, List, length, sym, ap, ◌∙◌, subst, arith}
use Rattle.std.specs.List.{AllByRecursion}
use Rattle.std.proofs.lemmas.Slice.Zip.{AllZip-long}
use Rattle.asm_names.specs.declared.program.Resolved.{Resolved}
use Rattle.asm_ranges.specs.Values.{State}
use Rattle.model_run.specs.Running.{StateFits}
use Rattle.round_spec.specs.Round.{Compiled}
use Rattle.round_spec.specs.Stabilizes.{IsStable, placed}
use Rattle.bound_count.proofs.MapEnds.{maps-end-inside}
use Rattle.state_layout.proofs.Places.{all-parts-follow}
use Rattle.state_layout.specs.Map.{Placement, decoded, state_end}
use Rattle.state_space.specs.declared.signature.Signature.{Signature}
use Rattle.state_space.specs.Codomains.{LocationsFit}
use Rattle.state_space.specs.Locations.{signatures_of, state_locations}
use Rattle.state_space.specs.Sizes.{IsSized}
use Rattle.trace_decode.specs.Ready.{IsMapped}
use Rattle.trace_decode.proofs.Converging.{decoded-fits}

pub state-held : (size : ℕ) (program : Resolved) (built : Compiled) → IsMapped size program built → (ram : List ℕ) → StateFits program (decoded built.map ram)
state-held size program built mapped ram =
    subst (λ (xs : List Signature). LocationsFit xs (state_locations xs) (decoded built.map ram)) mapped.map
    (decoded-fits built.map ram (subst (AllByRecursion IsSized) (sym mapped.map) mapped.sized))

pub state-long : (size : ℕ) (program : Resolved) (built : Compiled) → IsMapped size program built → (state : State) → StateFits program state
    → length state ≡ length (state_locations built.map.signatures)
state-long size program built mapped state fits =
    AllZip-long _ (state_locations (signatures_of program)) state fits ∙ ap (λ (xs : List Signature). length (state_locations xs)) (sym mapped.map)

-- the map of an image that stabilizes is the program's, and lies inside RAM
pub mapped-of : (rom_size size : ℕ) (program : Resolved) (built : Compiled) → IsStable rom_size size program built → AllByRecursion IsSized (signatures_of program)
    → IsMapped size program built
mapped-of rom_size size program built stable sized =
    let s = stable.stabilizes in
    let p = all-parts-follow (placed stable.layout program) program.binders in
    let staged = p.staged in
    let flags = p.flags in
    let kept = p.kept in
    let marks = p.marks in
    let slots = p.slots in
    let end = maps-end-inside stable.layout program in
    let holds = s.within.ram_holds in
    record {
      map = ap (λ (m : Placement). m.signatures) s.map;
      inside = (let same = ap state_end s.map in omega arith);
      sized = sized;
    }
