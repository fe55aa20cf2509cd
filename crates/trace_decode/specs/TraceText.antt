-- The text of a trace.
use Rattle.std.specs.Prelude.{ℕ, ◌==◌, List, ◌++◌, map, codes, if◌then◌else◌}
use Rattle.std.specs.Fmt.{decimal}
use Rattle.asm_names.specs.declared.program.Resolved.{Resolved}
use Rattle.asm_ranges.specs.Values.{State}
use Rattle.fault_script.specs.FaultText.{fault_line}
use Rattle.fault_script.specs.declared.event.Event.{Event}
use Rattle.model_run.specs.ModelText.{legal_text}
use Rattle.fault_script.specs.StateText.{state_text}
use Rattle.round_spec.specs.Round.{Compiled, state_of}
use Rattle.text_core.specs.WrittenLines.{◌␣◌, lines_text}
use Rattle.update_sets.specs.Legal.{legal_of}
use Rattle.trace_decode.specs.Play.{AtEnd, AtHead, Cause, Faulted, Mark, Standing, marks}

-- a head line is that of an anchor where it is the first since the start and since the last fault, and else that of a round
abbrev pub head_word : ℕ → List ℕ
head_word heads = if heads == 1 then codes "anchor" else codes "round"

-- a head line: its word, the time, the state that RAM holds, and whether that is legal, where the program says so
unfoldable pub head_line : Resolved → State → ℕ → ℕ → List ℕ
head_line program state heads time = (head_word heads ␣ decimal time) ++ (state_text program state ++ legal_text (legal_of program state))

-- the last line
unfoldable pub end_line : ℕ → List ℕ
end_line time = codes "end" ␣ decimal time

-- the line that is due by its cause
abbrev pub line_for : Resolved → Compiled → Standing → Cause → List ℕ
line_for program built s AtHead = head_line program (state_of built s.hart) s.heads s.time
line_for program built s (Faulted fault) = fault_line s.time fault
line_for program built s AtEnd = end_line s.time

abbrev pub line_of : Resolved → Compiled → Mark → List ℕ
line_of program built mark = line_for program built mark.at mark.cause

-- the text of some lines that are due
abbrev pub text_of : Resolved → Compiled → List Mark → List ℕ
text_of program built due = lines_text (map (line_of program built) due)

-- the text of a play from a start: each line is ended by a line feed
unfoldable pub trace_text : Resolved → Compiled → List Event → Standing → List ℕ
trace_text program built events start = text_of program built (marks built.rom events start)
