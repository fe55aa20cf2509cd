use Rattle.std.proofs.Common.{◌≡◌, ◌+◌, length}
use Rattle.job_text.specs.JobFaults.{draft_of, read_rows}
use Rattle.job_text.specs.Rows.{rows}
use Rattle.job_text.proofs.draft.read_draft.Given as goal

abbrev pub invariant-reading : goal.invariant-reading
invariant-reading l = record {
  read : read_rows l.mode (length l.bytes) l.draft (rows l.rest) ≡ draft_of l.mode l.bytes;
  here : l.draft.place + length l.rest ≡ length l.bytes;
}

abbrev pub decreases-reading : goal.decreases-reading
decreases-reading l = length l.rest
