use Rattle.std.proofs.Common.{Err, ap}
use Rattle.std.proofs.lemmas.Result.{err_from_is_err_and}
use Rattle.stab_cli.specs.RunText.{start_in}
use Rattle.stab_cli.specs.declared.machine_sizes.TheConstants.{RAM_BYTES, ROM_BYTES}
use Rattle.stab_cli.proofs.Traces.{all_out, memory_sized, report_begun, stable, stopped_out}
use Rattle.stab_cli.proofs.run.Run.write_to.Goals as goal

pub returns-in_err-write_all_of-clause-part : goal.returns-in_err-write_all_of-clause-part
returns-in_err-write_all_of-clause-part g c =
    let run = c.args.self in
    let given = err_from_is_err_and c.from_residual.result c.from_residual.ensures.1 in
    let plays = c.plays_end.ensures ROM_BYTES RAM_BYTES run.program run.image run.faults run.rounds run.hart run.readings memory_sized (stable run.program run.image c.requires.holds) c.pc.ensures.valid c.requires.faults in
    rw given.1
    (report_begun run.report run.program run.image run.faults run.rounds (start_in run) plays.0 plays.1 _ _ (rw c.list.ensures at c.in_err-write_all_of.ensures.part))

pub returns-in_err-run_trace-clause-part : goal.returns-in_err-run_trace-clause-part
returns-in_err-run_trace-clause-part g c =
    let run = c.args.self in
    let given = err_from_is_err_and c.from_residual-in_err-run_trace.result c.from_residual-in_err-run_trace.ensures.1 in
    let plays = c.plays_end.ensures ROM_BYTES RAM_BYTES run.program run.image run.faults run.rounds run.hart run.readings memory_sized (stable run.program run.image c.requires.holds) c.pc.ensures.valid c.requires.faults in
    let stopped = c.in_err-run_trace.ensures in
    rw given.1
    (stopped_out run.report run.program run.image run.faults run.rounds (start_in run) plays.0 plays.1 c.in_err-run_trace.field-0.0 _ _ _ _ _
    (rw c.list.ensures at c.in_ok-write_all_of.ensures.whole) (λ is. rw c.as_slice.ensures at (stopped.cut (ap Err is))) (λ is. ap g.K.Sink.held (stopped.unwritten (ap Err is))))

pub returns-clause-whole : goal.returns-clause-whole
returns-clause-whole g c =
    let run = c.args.self in
    all_out run.report run.program run.image run.faults run.rounds (start_in run) _ _ _ _ _ _ (rw c.list.ensures at c.in_ok-write_all_of.ensures.whole) (rw c.as_slice.ensures at c.in_ok-run_trace.ensures.whole)
