-- The whole play of a script.
use Rattle.std.proofs.Common.{◌≡◌, ℕ, ◌+◌, ◌*◌, ◌%◌, ◌≤◌, List, sym, subst, ⊎_elim, arith}
use Rattle.asm_names.specs.declared.program.Resolved.{Resolved}
use Rattle.fault_script.specs.Faults.{AreFaults, last_time}
use Rattle.fault_script.specs.declared.event.Timed.{Timed}
use Rattle.round_spec.specs.Round.{Compiled}
use Rattle.round_spec.specs.Stabilizes.{IsStable}
use Rattle.rv_machine.specs.Hart.{HartState, IsValid}
use Rattle.rv_machine.specs.Memory.{IsMemorySize}
use Rattle.rv_machine.specs.Run.{FeedState}
use Rattle.std.specs.List.{AllByRecursion}
use Rattle.fault_script.specs.declared.event.Event.{Event}
use Rattle.state_space.specs.Locations.{signatures_of}
use Rattle.state_space.specs.Sizes.{IsSized}
use Rattle.trace_decode.specs.Budget.{budget_of}
use Rattle.trace_decode.specs.Convergence.{BecomesLegal}
use Rattle.trace_decode.specs.Play.{Play, Standing, reached, started}
use Rattle.trace_decode.specs.Stretches.{KeepsBounds, Linked}
use Rattle.trace_decode.proofs.Bounds.{heads-come}
use Rattle.trace_decode.proofs.Converging.{becomes-legal}
use Rattle.trace_decode.proofs.Links.{linked}
use Rattle.trace_decode.proofs.Plays.{Plays, plays}

pub multiple_of : (size : ℕ) → IsMemorySize size → size % 4 ≡ 0
multiple_of size h = ⊎_elim (λ e. omega arith) (λ e. omega arith) h

pub plays-stable : (rom_size size : ℕ) → IsMemorySize size → (program : Resolved) (built : Compiled) → IsStable rom_size size program built → (script : List Timed) (rounds limit : ℕ)
    → limit ≡ built.needs.anchor + rounds * built.needs.round → (m : HartState) (feed : FeedState) → IsValid size m → AreFaults size script
    → Plays built.rom rounds script (started m feed) (last_time 0 script + limit)
plays-stable rom_size size memory program built stable script rounds limit is m feed v faults =
    subst (λ n. Plays built.rom rounds script (started m feed) (last_time 0 script + n)) (sym is)
    (plays rom_size size (multiple_of size memory) stable.shape stable.layout program built stable.stabilizes rounds script (started m feed) v faults)

pub keeps-bounds : (rom_size size : ℕ) (program : Resolved) (built : Compiled) (start : Standing) → IsMemorySize size → IsStable rom_size size program built → IsValid size start.hart
    → KeepsBounds size program built start
keeps-bounds rom_size size program built start memory stable v =
    let multiple = multiple_of size memory in
    record {
      heads_come = λ k events e. heads-come rom_size size multiple stable.shape stable.layout program built stable.stabilizes k events start v e;
      linked = λ events e. linked rom_size size multiple stable.shape stable.layout program built stable.stabilizes events start e v;
    }

pub become-legal : (rom_size size : ℕ) (program : Resolved) (built : Compiled) (start : Standing) → IsMemorySize size → IsStable rom_size size program built → IsValid size start.hart
    → AllByRecursion IsSized (signatures_of program) → BecomesLegal size program built start
become-legal rom_size size program built start memory stable v sized = λ k c events e before stretch later is heads.
    becomes-legal stable.layout program built stable.stabilizes.map sized k c before stretch later
    (subst (Linked program built) is (linked rom_size size (multiple_of size memory) stable.shape stable.layout program built stable.stabilizes events start e v)) heads

pub plays-end : (rom_size size : ℕ) (program : Resolved) (built : Compiled) (script : List Timed) (rounds : ℕ) (m : HartState) (feed : FeedState)
    → IsMemorySize size → IsStable rom_size size program built → IsValid size m → AreFaults size script
    → (events : List Event) × Play built.rom rounds script (started m feed) events × ((reached built.rom events (started m feed)).time ≤ budget_of built.needs script rounds)
plays-end rom_size size program built script rounds m feed memory stable v faults =
    let found = plays rom_size size (multiple_of size memory) stable.shape stable.layout program built stable.stabilizes rounds script (started m feed) v faults in
    (found.events, found.play, found.soon)
