use Rattle.std.proofs.Common.{◌≡◌, ◌-◌, ◌+◌, subst, arith}
use Rattle.rv_machine.specs.Run.{RunsTo}
use Rattle.rv_machine.proofs.Run.{runs-add}
use Rattle.round_spec.specs.Heads.{IsAway, IsFirstHead}
use Rattle.round_spec.proofs.Running.{round-ran, round-ran_late, round-ran_within}
use Rattle.round_spec.proofs.run.round.Goals as goal

pub unreachable-requires : goal.unreachable-requires
unreachable-requires g c =
    let one = rw c.rom.ensures at c.tick.ensures in
    let away : IsAway c.rom-2.result.now c.tick.new.feed.left c.tick.new.hart (c.needs.result.round - 1) = c.in-Err.ensures.late in
    let away' = rw (c.rom-2.ensures, c.needs.ensures) at away in
    round-ran_late g.row.ROM g.row.RAM c.args.checked.now c.args.built.now c.requires.stabilizes c.args.feed.now c.tick.new.feed c.args.hart.now c.tick.new.hart c.pc.ensures.valid c.requires.head one away'

pub returns-clause-round : goal.returns-clause-round
returns-clause-round g c =
    let one = rw c.rom.ensures at c.tick.ensures in
    let found : IsFirstHead c.rom-2.result.now c.tick.new.feed.left c.tick.new.hart c.in-Ok.ticks = c.in-Ok.ensures.reached in
    let more : RunsTo c.rom-2.result.now c.in-Ok.ticks c.tick.new.feed c.to_head.new.feed c.tick.new.hart c.to_head.new.hart = c.in-Ok.ensures.runs in
    round-ran g.row.ROM g.row.RAM c.args.checked.now c.args.built.now c.requires.stabilizes c.args.feed.now c.tick.new.feed c.args.hart.now c.tick.new.hart c.pc.ensures.valid c.requires.head one
    c.in-Ok.ticks c.to_head.new.feed c.to_head.new.hart (rw c.rom-2.ensures at found) (rw c.rom-2.ensures at more)

pub returns-clause-within : goal.returns-clause-within
returns-clause-within g c =
    let one = rw c.rom.ensures at c.tick.ensures in
    let found : IsFirstHead c.rom-2.result.now c.tick.new.feed.left c.tick.new.hart c.in-Ok.ticks = c.in-Ok.ensures.reached in
    round-ran_within g.row.ROM g.row.RAM c.args.checked.now c.args.built.now c.requires.stabilizes c.args.feed.now c.tick.new.feed c.args.hart.now c.tick.new.hart c.pc.ensures.valid c.requires.head one
    c.in-Ok.ticks (rw c.rom-2.ensures at found)

pub returns-clause-runs : goal.returns-clause-runs
returns-clause-runs g c =
    let one = rw c.rom.ensures at c.tick.ensures in
    let more : RunsTo c.rom-2.result.now c.in-Ok.ticks c.tick.new.feed c.to_head.new.feed c.tick.new.hart c.to_head.new.hart = c.in-Ok.ensures.runs in
    let all = runs-add c.args.built.now.rom 1 c.in-Ok.ticks c.args.feed.now c.tick.new.feed c.to_head.new.feed c.args.hart.now c.tick.new.hart c.to_head.new.hart one (rw c.rom-2.ensures at more) in
    let e : 1 + c.in-Ok.ticks ≡ c.in-Ok.ticks + 1 = omega arith in
    subst (λ t. RunsTo c.args.built.now.rom t c.args.feed.now c.to_head.new.feed c.args.hart.now c.to_head.new.hart) e all
