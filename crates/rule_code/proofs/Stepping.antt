-- The code of a round makes a step.
use Rattle.std.proofs.Common.{◌≡◌, ℕ, ◌+◌, ◌*◌, List, drop, sym, ap, ◌∙◌, subst, ⊎_elim, arith}
use Rattle.asm_names.specs.declared.program.Resolved.{Resolved}
use Rattle.rv_machine.specs.{Code.{Stands}, Hart.{HartState, IsValid}, Run.{after, events, left_after, ports_taken, words_sent}}
use Rattle.block_code.specs.{Ends.{EndsAt}, Home.{started}, Leads.{IsBehind, IsEntered}, Moment.{Moment, at_ports, moment_after}, Place.{IsMachine, Within}, Plan.{Plan, code, full, len}}
use Rattle.block_code.proofs.{After.{ends-at, moments-are-runs}, Home.{events-untrapped, ports-of, words-of}, Leads.{leads-run}}
use Rattle.state_layout.specs.{Map.{Placement, decoded}, declared.layout.Layout.{Layout}}
use Rattle.bound_count.specs.declared.numbers.Numbers.{Numbers}
use Rattle.state_space.specs.Locations.{signatures_of}
use Rattle.instr_select.specs.Held.{HoldsTables}
use Rattle.update_sets.specs.Steps.{StepLeast}
use Rattle.rule_expand.specs.declared.flat.Flat.{Flat}
use Rattle.round_spec.specs.Ports.{inputs_taken, words_for}
use Rattle.rule_code.specs.{Body.{IsWritable, MakesRound}, Code.{body_plan}, Image.{IsExpanded, IsFitted}, StepLaw.{RoundCodeFits, RoundCodeRunsSteps, RunsStep}, Within.{IsSetting}}
use Rattle.rule_code.proofs.{Bodies.{body-block, body-full, body-holds, body-leads, body-len}, Making.{coded, few-inputs, inside-ram, low, mapped, same-signatures, weighs-less, weighs-soon, writable}, Rounds.{kept-is, least-step_is, sent-is, taken-is}}

pub round-code-fits : RoundCodeFits
round-code-fits rom_size ram_size layout program placement needs f flat e tables =
    let few = few-inputs rom_size ram_size layout program placement needs f in
    let ticks = body-full program placement tables flat few in
    let words = body-len program placement tables flat few in
    let less = weighs-less rom_size ram_size layout program placement needs f flat e in
    let soon = weighs-soon rom_size ram_size layout program placement needs f flat e in
    (omega arith, omega arith)

module _ (rom_size ram_size : ℕ) (layout : Layout) (program : Resolved) (placement : Placement) (needs : Numbers) (f : IsFitted rom_size ram_size layout program placement needs)
    (flat : Flat) (e : IsExpanded program flat) (tables : ℕ) (rom : List ℕ) (machine : IsMachine rom ram_size) (words : HoldsTables rom program placement tables)
    (stands : Stands rom 0 (code (body_plan program placement tables flat))) (readings : List ℕ) (m : HartState) (valid : IsValid ram_size m) (head : m.pc ≡ 0) where
  abbrev tree : Plan
  tree = body_plan program placement tables flat

  abbrev s : Moment
  s = started readings m

  setting : IsSetting rom ram_size program placement tables
  setting = record {
    mapped = mapped rom_size ram_size layout program placement needs f;
    coded = coded rom_size ram_size layout program placement needs f;
    words = words;
    inside = inside-ram rom_size ram_size layout program placement needs f;
    small = low rom_size ram_size layout program placement needs f;
  }

  can : IsWritable program placement flat
  can = writable rom_size ram_size layout program placement needs f flat e

  entered : IsEntered rom ram_size 0 tree s
  entered = record {
    machine = machine;
    block = body-block program placement tables flat can rom ram_size setting;
    holds = body-holds program placement tables flat can.inputs ram_size;
    stands = stands;
    valid = record { hart = valid };
    here = head;
  }

  abbrev Made : Moment → Type 0
  Made = MakesRound program placement flat s

  run : EndsAt rom (Within 0 (0 + 4 * len tree)) (IsBehind ram_size 0 tree Made) (λ x. ⊥) (full tree) s
  run = ends-at rom (leads-run rom ram_size 0 tree Made s entered (body-leads program placement tables flat can rom ram_size setting 0 s entered))

  abbrev ended : Moment
  ended = moment_after rom run.ticks s

  behind : IsBehind ram_size 0 tree Made ended
  behind = ⊎_elim (λ g. g) (λ w. absurd w.3) run.ends

  is : ended ≡ record { hart = after rom run.ticks readings m; readings = left_after rom run.ticks readings m; log = at_ports (events rom run.ticks readings m) }
  is = moments-are-runs rom run.ticks s

  same : placement.signatures ≡ signatures_of program
  same = same-signatures rom_size ram_size layout program placement needs f

  pub runs-step : RunsStep program placement tree rom readings m
  runs-step = record {
    ticks = run.ticks;
    soon = run.soon;
    leaves = let here = behind.here in sym (ap (λ (x : Moment). x.hart.pc) is) ∙ omega arith;
    untrapped = events-untrapped rom run.ticks s run.untrapped;
    taken = ports-of (events rom run.ticks readings m) ∙ ap (λ (x : Moment). ports_taken x.log) (sym is) ∙ taken-is program placement flat same readings m ended behind.good;
    step = subst (λ (x : Moment). StepLeast program (decoded placement m.ram) (inputs_taken program readings) (decoded placement x.hart.ram)) is
        (least-step_is program placement flat same readings m ended behind.good e.least);
    sent = words-of (events rom run.ticks readings m) ∙ ap (λ (x : Moment). words_sent x.log) (sym is) ∙ sent-is program placement flat same readings m ended behind.good
        ∙ ap (λ (x : Moment). words_for program (decoded placement x.hart.ram)) is;
    kept = λ n below. ap (λ (x : Moment). drop n x.hart.ram) (sym is) ∙ kept-is program placement flat same readings m ended behind.good n below;
  }

pub round-code-runs-steps : RoundCodeRunsSteps
round-code-runs-steps rom_size ram_size layout program placement needs f flat e tables rom machine words stands readings m valid head =
    runs-step rom_size ram_size layout program placement needs f flat e tables rom machine words stands readings m valid head
