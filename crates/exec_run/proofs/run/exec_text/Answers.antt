use Rattle.std.proofs.Common.{◌≡◌, ◌/◌, ℕ, List, [], ◌++◌, append_assoc, length, refl, arith}
use Rattle.std.proofs.lemmas.List.Concat.{flat_map-append}
use Rattle.rv_machine.specs.Hart.{HartState}
use Rattle.rv_machine.specs.Run.{ports_taken}
use Rattle.rv_machine.specs.Tick.{Event}
use Rattle.exec_run.specs.ExecText.{end_of, exec_text, pc_line, ram_lines, register_lines, run_events, run_lines, send_lines, shown_by, start_of, summary_line, traps}
use Rattle.text_core.specs.WrittenLines.{ended, lines_text}
use Rattle.exec_run.proofs.Striking.{faults-alone}
use Rattle.exec_run.proofs.run.exec_text.Goals as goal

joined : (s c p r m : List ℕ) → (((([] ++ s) ++ c) ++ p) ++ r) ++ m ≡ s ++ (c ++ (p ++ (r ++ m)))
joined s c p r m = simp append_assoc

-- the text of a run in the pieces in which it is written
pieces : (ticks : ℕ) (seen : List Event) (start end : HartState)
    → lines_text (run_lines ticks seen start end)
    ≡ lines_text (send_lines 1 seen)
    ++ (ended (summary_line ticks (traps seen) (length (ports_taken seen)))
    ++ (ended (pc_line end.pc) ++ (lines_text (register_lines 0 end.regs) ++ lines_text (ram_lines (length end.ram / 4) 0 start.ram end.ram))))
pieces ticks seen start end = rw (flat_map-append ended (send_lines 1 seen), flat_map-append ended (register_lines 0 end.regs)) refl

pub run-requires : goal.run-requires
run-requires g c = (omega arith, (omega arith, faults-alone g.row.RAM 0 c.args.script.now c.requires))

pub returns-clause-text : goal.returns-clause-text
unfolding exec_text
returns-clause-text g c =
    let start = c.args.hart.now in
    let seen = shown_by c.args.rom.now (run_events c.args.ticks 0 c.args.script.now) (start_of c.args.readings start) in
    let end = end_of c.args.rom.now c.args.ticks c.args.script.now c.args.readings start in
    rw (
      c.from_vec.ensures,
      c.in_ok-put_ram.ensures.ok,
      c.in_ok-put_registers.ensures.ok,
      c.in_ok-put_pc.ensures.ok,
      c.in_ok-put_summary.ensures.ok,
      c.in_ok-counts.ensures.lines,
      c.in_ok-counts.ensures.traps,
      c.in_ok-counts.ensures.readings,
      c.in_ok-counts.ensures.hart,
      c.in_ok-start.ensures,
      c.new-feed.ensures,
      c.new-out.ensures.items,
      pieces c.args.ticks seen start end,
    )
    (joined (lines_text (send_lines 1 seen)) (ended (summary_line c.args.ticks (traps seen) (length (ports_taken seen)))) (ended (pc_line end.pc)) (lines_text (register_lines 0 end.regs)) (lines_text (ram_lines (length end.ram / 4) 0 start.ram end.ram)))
