-- What is out while an image is played: a text of its report and its trace, or a front of one.
use Rattle.std.proofs.Common.{◌≡◌, ◌∙◌, ◌<◌, inl, ℕ, List, [], ◌∷◌, ◌++◌, drop, flat_map, length, map, refl, subst, sym, ap, append_assoc, arith, length-append, length-drop}
use Rattle.std.specs.declared.option.Option.{Option}
use Rattle.std.specs.Io.KnownBytes.{Appends}
use Rattle.std.proofs.KnownBytes.{Appends-trans, starts_with_rest}
use Rattle.std.proofs.Transfers.{starts_with_of_append}
use Rattle.std.proofs.lemmas.List.{map-append}
use Rattle.std.proofs.lemmas.List.Concat.{flat_map-append}
use Rattle.asm_names.specs.declared.program.Resolved.{Resolved}
use Rattle.bound_count.specs.declared.shape.Shape.TheVariants.{Unrolled}
use Rattle.fault_script.specs.Standings.{Standing}
use Rattle.fault_script.specs.declared.event.Event.{Event}
use Rattle.fault_script.specs.declared.event.Timed.{Timed}
use Rattle.round_spec.specs.Round.{Compiled}
use Rattle.round_spec.specs.Stabilizes.{IsStable}
use Rattle.rv_machine.specs.Hart.{HartState}
use Rattle.rv_machine.specs.Memory.{IsMemorySize}
use Rattle.rv_machine.specs.Run.{FeedState}
use Rattle.stab_io.specs.Pieces.{AppendsPart}
use Rattle.state_layout.specs.declared.layout.Layout.TheVariants.{Words}
use Rattle.text_core.specs.WrittenLines.{ended}
use Rattle.trace_decode.specs.Play.{AtEnd, Mark, Play, head_marks, marks, marks_of, reached}
use Rattle.trace_decode.specs.TraceText.{line_of, text_of, trace_text}
use Rattle.trace_decode.specs.Tracing.{IsCutOff, IsTraced}
use Rattle.trace_decode.specs.declared.tracing.TraceEnd.{TraceEnd}
use Rattle.trace_decode.specs.declared.tracing.TraceEnd.TheVariants.{NoMemory, WriteFault}
use Rattle.stab_cli.specs.ImageText.{IsImageOf}
use Rattle.stab_cli.specs.Outcome.{AppendsOneOf, AppendsPartOfOne}
use Rattle.stab_cli.specs.RunText.{IsReportAndTrace}
use Rattle.stab_cli.specs.declared.machine_sizes.TheConstants.{RAM_BYTES, ROM_BYTES}

-- the machine has memories of a size that may be
pub memory_sized : IsMemorySize RAM_BYTES
memory_sized = inl refl

-- an image of a program stabilizes in some shape and layout
pub stable : (program : Resolved) (built : Compiled) → IsImageOf program built → IsStable ROM_BYTES RAM_BYTES program built
stable program built is = record { shape = Unrolled; layout = Words; stabilizes = is.stabilizes }

-- behind a front that is not all of a piece something is left
left_over : (piece front more : List ℕ) → length front < length piece → 0 < length (drop (length front) piece ++ more)
left_over piece front more proper = omega (arith, proper, length-drop (length front) piece, length-append (drop (length front) piece) more)

module _ (report : List ℕ) (program : Resolved) (built : Compiled) (faults : List Timed) (rounds : ℕ) (start : Standing) where
  abbrev Told : List ℕ → Type 0
  Told = IsReportAndTrace report program built faults rounds start

  -- the report and the whole trace are out
  pub all_out : (a b c : Option (List ℕ)) (left : HartState) (unread : FeedState) (made : ℕ) → Appends a b report → IsTraced program built faults rounds start b c left unread made → AppendsOneOf Told a c
  all_out a b c left unread made first is =
      (report ++ trace_text program built is.events start, record { events = is.events; play = is.play; says = refl }, Appends-trans a b c _ _ first is.text)

  -- the lines of a trace in three parts
  parted : (events : List Event) (before later : List Mark) (cut : Mark) → marks built.rom events start ≡ before ++ cut ∷ later
      → trace_text program built events start ≡ text_of program built before ++ (ended (line_of program built cut) ++ text_of program built later)
  unfolding trace_text
  parted events before later cut due =
      ap (text_of program built) due
      ∙ (ap (λ lines. flat_map ended lines) (map-append (line_of program built) before (cut ∷ later)) ∙ flat_map-append ended (map (line_of program built) before) (map (line_of program built) (cut ∷ later)))

  -- a trace has its last line
  some_text : (events : List Event) → 0 < length (trace_text program built events start)
  some_text events =
      let before = head_marks start ++ marks_of built.rom events start in
      let end : Mark = record { cause = AtEnd; at = reached built.rom events start } in
      let line = line_of program built end in
      let all = parted events before [] end (sym (append_assoc (head_marks start) (marks_of built.rom events start) (end ∷ []))) in
      omega (arith, ap length all, length-append (text_of program built before) (ended line ++ []), length-append (ended line) [], length-append line (10 ∷ []))

  module _ (events : List Event) (play : Play built.rom rounds faults start events) where
    -- a front of the text is out
    front_out : (a b : Option (List ℕ)) (front rest : List ℕ) → report ++ trace_text program built events start ≡ front ++ rest → 0 < length rest → Appends a b front → AppendsPartOfOne Told a b
    front_out a b front rest is some out =
        let long = ap length is ∙ length-append front rest in
        (report ++ trace_text program built events start, record { events = events; play = play; says = refl }, (front, (starts_with_of_append _ front rest is, omega (arith, long)), out))

    -- the report is out, and nothing behind it
    pub report_out : (a b : Option (List ℕ)) → Appends a b report → AppendsPartOfOne Told a b
    report_out a b out = front_out a b report (trace_text program built events start) refl (some_text events) out

    -- a front of the report is out
    pub report_begun : (a b : Option (List ℕ)) → AppendsPart a b report → AppendsPartOfOne Told a b
    report_begun a b part =
        let rest = drop (length part.0) report in
        front_out a b part.0 (rest ++ trace_text program built events start)
        (ap (λ text. text ++ trace_text program built events start) (starts_with_rest report part.0 part.1.0) ∙ append_assoc part.0 rest (trace_text program built events start))
        (left_over report part.0 (trace_text program built events start) part.1.1) part.2

  -- the report is out, and the trace up to within a line
  pub cut_out : (a b c : Option (List ℕ)) (left : HartState) (unread : FeedState) → Appends a b report → IsCutOff program built faults rounds start b c left unread → AppendsPartOfOne Told a c
  cut_out a b c left unread first is =
      let line = ended (line_of program built is.cut) in
      let done = text_of program built is.before in
      let later = text_of program built is.later in
      let rest = drop (length is.part) line in
      let ends : line ++ later ≡ is.part ++ (rest ++ later) = ap (λ text. text ++ later) (starts_with_rest line is.part is.begins.0) ∙ append_assoc is.part rest later in
      front_out is.events is.play a c (report ++ (done ++ is.part)) (rest ++ later)
      (ap (λ text. report ++ text) (parted is.events is.before is.later is.cut is.due ∙ (ap (λ text. done ++ text) ends ∙ sym (append_assoc done is.part (rest ++ later)))) ∙ sym (append_assoc report (done ++ is.part) (rest ++ later)))
      (left_over line is.part later is.begins.1)
      (Appends-trans a b c _ _ first is.text)

  -- the report is out, and the trace as far as it went
  pub stopped_out : (events : List Event) → Play built.rom rounds faults start events → (end : TraceEnd) (a b c : Option (List ℕ)) (left : HartState) (unread : FeedState) → Appends a b report
      → (end ≡ WriteFault → IsCutOff program built faults rounds start b c left unread) → (end ≡ NoMemory → c ≡ b) → AppendsPartOfOne Told a c
  stopped_out events play WriteFault a b c left unread first cut none = cut_out a b c left unread first (cut refl)
  stopped_out events play NoMemory a b c left unread first cut none = subst (λ held. AppendsPartOfOne Told a held) (sym (none refl)) (report_out events play a b first)
