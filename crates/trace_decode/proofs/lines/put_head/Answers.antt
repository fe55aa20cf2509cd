use Rattle.std.proofs.Common.{◌≡◌, ◌++◌, ◌∷◌, ℕ, List, codes, refl, sym, ap, ◌∙◌, append_assoc}
use Rattle.std.specs.Fmt.{decimal}
use Rattle.std.specs.Result.{is_err}
use Rattle.asm_names.specs.declared.program.Resolved.{Resolved}
use Rattle.asm_ranges.specs.Values.{State}
use Rattle.text_core.specs.WrittenLines.{ended}
use Rattle.fault_script.specs.Putting.{IsBegun}
use Rattle.fault_script.specs.StateText.{state_text}
use Rattle.fault_script.proofs.Putting.{begun-then, put-last, put-next-refused, put-refused, put-whole}
use Rattle.model_run.specs.ModelText.{legal_text}
use Rattle.update_sets.specs.Legal.{legal_of}
use Rattle.trace_decode.specs.TraceText.{head_line, head_word}
use Rattle.trace_decode.proofs.lines.put_head.Goals as goal

regroup : (w t s l : List ℕ) → ended ((w ++ 32 ∷ t) ++ (s ++ l)) ≡ (w ++ (codes " " ++ t)) ++ (s ++ ended l)
regroup w t s l = simp append_assoc

-- the line in the three parts in which it is written
parts : (program : Resolved) (state : State) (heads time : ℕ) (word text legal : List ℕ) → word ≡ head_word heads → text ≡ state_text program state → legal ≡ legal_text (legal_of program state)
    → ended (head_line program state heads time) ≡ (word ++ (codes " " ++ decimal time)) ++ (text ++ ended legal)
unfolding head_line
parts program state heads time word text legal a b c =
    regroup (head_word heads) (decimal time) (state_text program state) (legal_text (legal_of program state))
    ∙ ap (λ w. (w ++ (codes " " ++ decimal time)) ++ (state_text program state ++ ended (legal_text (legal_of program state)))) (sym a)
    ∙ ap (λ s. (word ++ (codes " " ++ decimal time)) ++ (s ++ ended (legal_text (legal_of program state)))) (sym b)
    ∙ ap (λ l. (word ++ (codes " " ++ decimal time)) ++ (text ++ ended l)) (sym c)

pub returns-in_err-put_pieces : goal.returns-in_err-put_pieces
returns-in_err-put_pieces c =
    let program = c.args.checked.now in
    let state = c.args.state.now in
    let first : List ℕ = c.head_text.result.now ++ (codes " " ++ decimal c.args.time) in
    let e = parts program state c.args.heads c.args.time c.head_text.result.now (state_text program state) (legal_text (legal_of program state)) c.head_text.ensures refl refl in
    put-refused c.put_pieces.result c.from_residual.result _ first _ c.args.out.now c.put_pieces.new.out e c.from_residual.ensures.0 (ap is_err c.in_err-put_pieces.was)
    (put-whole c.put_pieces.result first c.args.out.now c.put_pieces.new.out c.put_pieces.ensures.ok c.put_pieces.ensures.err c.put_pieces.ensures.fits c.put_pieces.ensures.room)

pub returns-in_err-state_line : goal.returns-in_err-state_line
returns-in_err-state_line c =
    let program = c.args.checked.now in
    let state = c.args.state.now in
    let first : List ℕ = c.head_text.result.now ++ (codes " " ++ decimal c.args.time) in
    let text : List ℕ = state_text c.resolved.result.now state in
    let e = parts program state c.args.heads c.args.time c.head_text.result.now text (legal_text (legal_of program state)) c.head_text.ensures (ap (λ p. state_text p state) c.resolved.ensures.program) refl in
    let begun : IsBegun first c.args.out.now c.put_pieces.new.out = record { grown = c.in_ok-put_pieces.ensures.ok; room = c.in_ok-put_pieces.ensures.room } in
    put-next-refused c.state_line.result c.from_residual-in_err-state_line.result _ first text _ c.args.out.now c.put_pieces.new.out c.state_line.new.out e
    c.from_residual-in_err-state_line.ensures.0 (ap is_err c.in_err-state_line.was) begun
    (put-whole c.state_line.result text c.put_pieces.new.out c.state_line.new.out c.state_line.ensures.ok c.state_line.ensures.err c.state_line.ensures.fits c.state_line.ensures.room)

pub returns : goal.returns
returns c =
    let program = c.args.checked.now in
    let state = c.args.state.now in
    let first : List ℕ = c.head_text.result.now ++ (codes " " ++ decimal c.args.time) in
    let text : List ℕ = state_text c.resolved.result.now state in
    let legal : List ℕ = c.legal_text-legal.result.now in
    let e = parts program state c.args.heads c.args.time c.head_text.result.now text legal c.head_text.ensures (ap (λ p. state_text p state) c.resolved.ensures.program) (c.legal_text-legal.ensures ∙ ap legal_text c.legal_holds.ensures)
    ∙ sym (append_assoc first text (ended legal)) in
    let begun : IsBegun first c.args.out.now c.put_pieces.new.out = record { grown = c.in_ok-put_pieces.ensures.ok; room = c.in_ok-put_pieces.ensures.room } in
    let more : IsBegun text c.put_pieces.new.out c.state_line.new.out = record { grown = c.in_ok-state_line.ensures.ok; room = c.in_ok-state_line.ensures.room } in
    put-last c.put_line.result _ (first ++ text) (ended legal) c.args.out.now c.state_line.new.out c.put_line.new.out e
    (begun-then first text c.args.out.now c.put_pieces.new.out c.state_line.new.out begun more)
    (put-whole c.put_line.result (ended legal) c.state_line.new.out c.put_line.new.out c.put_line.ensures.ok c.put_line.ensures.err c.put_line.ensures.fits c.put_line.ensures.room)
