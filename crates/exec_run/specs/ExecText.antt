-- The text of a run: what was sent, what was counted, and what the hart holds at the end.
use Rattle.std.specs.Prelude.{ℕ, zero, suc, ◌+◌, ◌*◌, ◌/◌, ◌==◌, if◌then◌else◌, List, [], ◌∷◌, ◌++◌, length, codes}
use Rattle.std.specs.Fmt.{decimal}
use Rattle.text_core.specs.Hexadecimal.{hex8}
use Rattle.trap_model.specs.Map.{ram_base}
use Rattle.rv_machine.specs.Hart.{HartState}
use Rattle.rv_machine.specs.Memory.{number_at}
use Rattle.rv_machine.specs.Run.{offered, ports_taken}
use Rattle.rv_machine.specs.Tick.{Event as Shown, Quiet, Took, Sent, Trapped, tick}
pub use Rattle.fault_script.specs.Runs.{due, later, run_events}
use Rattle.fault_script.specs.Standings.{Standing, faulted, reached, started, ticked}
use Rattle.fault_script.specs.declared.event.Event.{Event}
use Rattle.fault_script.specs.declared.event.Event.TheVariants.{Tick}
use Rattle.fault_script.specs.declared.event.Timed.{Timed}
use Rattle.text_core.specs.WrittenLines.{◌␣◌, lines_text}

-- the line of a word that was sent: the number of the tick, the port and the word
unfoldable pub send_line : ℕ → ℕ → ℕ → List ℕ
send_line tick port word = codes "send" ␣ decimal tick ␣ decimal port ␣ hex8 word

-- the lines of the words that were sent, with the number of the first of these ticks
abbrev pub send_lines : ℕ → List Shown → List (List ℕ)
send_lines tick [] = []
send_lines tick (Quiet ∷ es) = send_lines (tick + 1) es
send_lines tick (Took port ∷ es) = send_lines (tick + 1) es
send_lines tick (Sent port word ∷ es) = send_line tick port word ∷ send_lines (tick + 1) es
send_lines tick (Trapped ∷ es) = send_lines (tick + 1) es

-- how many ticks trapped
abbrev pub traps : List Shown → ℕ
traps [] = 0
traps (Quiet ∷ es) = traps es
traps (Took port ∷ es) = traps es
traps (Sent port word ∷ es) = traps es
traps (Trapped ∷ es) = 1 + traps es

-- the line of the counts: ticks, those of them that trapped, and those that took a reading
unfoldable pub summary_line : ℕ → ℕ → ℕ → List ℕ
summary_line ticks trapped taken = codes "ticks" ␣ decimal ticks ␣ codes "traps" ␣ decimal trapped ␣ codes "readings" ␣ decimal taken

-- the line of the program counter
unfoldable pub pc_line : ℕ → List ℕ
pc_line pc = codes "pc" ␣ hex8 pc

-- the line of a register
unfoldable pub register_line : ℕ → ℕ → List ℕ
register_line number value = (codes "x" ++ decimal number) ␣ hex8 value

-- the lines of the registers that are not 0, with the number of the first of these registers
abbrev pub register_lines : ℕ → List ℕ → List (List ℕ)
register_lines number [] = []
register_lines number (x ∷ xs) =
    if x == 0 then register_lines (number + 1) xs else register_line number x ∷ register_lines (number + 1) xs

-- the line of a word of RAM, by its offset in bytes
unfoldable pub ram_line : ℕ → ℕ → List ℕ
ram_line offset word = codes "ram" ␣ hex8 (ram_base + offset) ␣ hex8 word

-- the lines of those words that changed, among so many words of RAM from this word on
abbrev pub ram_lines : ℕ → ℕ → List ℕ → List ℕ → List (List ℕ)
ram_lines zero number start end = []
ram_lines (suc count) number start end =
    if number_at 4 (4 * number) end == number_at 4 (4 * number) start
    then ram_lines count (number + 1) start end
    else ram_line (4 * number) (number_at 4 (4 * number) end) ∷ ram_lines count (number + 1) start end

-- the lines of a run of so many ticks that saw these events and took the hart from start to end
abbrev pub run_lines : ℕ → List Shown → HartState → HartState → List (List ℕ)
run_lines ticks seen start end =
    send_lines 1 seen
    ++ (summary_line ticks (traps seen) (length (ports_taken seen))
    ∷ (pc_line end.pc ∷ (register_lines 0 end.regs ++ ram_lines (length end.ram / 4) 0 start.ram end.ram)))

-- what the ticks among these events show
abbrev pub shown_by : List ℕ → List Event → Standing → List Shown
shown_by rom [] s = []
shown_by rom (Tick ∷ events) s = (tick rom (offered s.feed.left) s.hart).event ∷ shown_by rom events (ticked rom s)
shown_by rom (fault ∷ events) s = shown_by rom events (faulted fault s)

-- the start of a run, with readings of which none is taken
abbrev pub start_of : List ℕ → HartState → Standing
start_of readings m = started m (record { left = readings; used = 0 })

-- the hart at the end of a run
abbrev pub end_of : List ℕ → ℕ → List Timed → List ℕ → HartState → HartState
end_of rom ticks script readings m = (reached rom (run_events ticks 0 script) (start_of readings m)).hart

-- the lines of the run of a ROM from this hart on, with these faults and readings, without their line feeds
abbrev pub exec_lines : List ℕ → ℕ → List Timed → List ℕ → HartState → List (List ℕ)
exec_lines rom ticks script readings m =
    run_lines ticks (shown_by rom (run_events ticks 0 script) (start_of readings m)) m (end_of rom ticks script readings m)

-- the text of a run: each line is ended by a line feed
unfoldable pub exec_text : List ℕ → ℕ → List Timed → List ℕ → HartState → List ℕ
exec_text rom ticks script readings m = lines_text (exec_lines rom ticks script readings m)
