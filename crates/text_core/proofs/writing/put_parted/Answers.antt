use Rattle.std.proofs.Common.{◌≡◌, ℕ, [], ◌+◌, ◌≤◌, List, ◌++◌, length, map, drop, get_or, arith, length-append, ap, sym, ◌∙◌}
use Rattle.std.proofs.lemmas.Bool.{false≢true}
use Rattle.text_core.specs.Room.{room_of}
use Rattle.text_core.specs.WrittenLines.{parted}
use Rattle.text_core.specs.WrittenPieces.{text_of}
use Rattle.text_core.specs.declared.writing.Piece.TheVariants.{Text}
use Rattle.text_core.proofs.Parted.{behind, next_within}
use Rattle.text_core.proofs.writing.put_parted.Goals.{then-index-gt0+in_ok-put_bytes, else-index-gt0}
use Rattle.text_core.proofs.writing.put_parted.Goals as goal

lengths : (out left old all : List ℕ) → out ++ left ≡ old ++ all → length out + length left ≡ length old + length all
lengths out left old all e = sym (length-append out left) ∙ ap length e ∙ length-append old all

-- the separator fits
between : (c : goal.After-from_residual) → room_of c.args.out.now + length c.args.separator.now ≤ room_of c.loop-index.out + length (parted c.args.separator.now (map text_of c.args.pieces.now))
between c =
    let at = c.loop-index.index in
    let pieces = c.args.pieces.now in
    let separator = c.args.separator.now in
    let within = (next_within separator at pieces (Text record { ref_ptr = (0, 0); now = [] }) c.loop-index-test.true).0 c.if-index-gt0.true in
    let len = lengths c.loop-index.out.items (behind separator at (map text_of (drop at pieces))) c.args.out.now.items (parted separator (map text_of pieces)) c.loop-index.invariant.text in
    omega (arith, within, len, c.loop-index.invariant.room)

pub returns-in_err-put_bytes-clause-fits : goal.returns-in_err-put_bytes-clause-fits
returns-in_err-put_bytes-clause-fits c =
    λ fits. absurd (false≢true (c.in_err-put_bytes.ensures.fits (omega (arith, fits, between c, length-append (parted c.args.separator.now (map text_of c.args.pieces.now)) c.args.end.now))))

pub returns-in_err-put_bytes-clause-room : goal.returns-in_err-put_bytes-clause-room
returns-in_err-put_bytes-clause-room c =
    omega (arith, c.in_err-put_bytes.ensures.room, between c, length-append (parted c.args.separator.now (map text_of c.args.pieces.now)) c.args.end.now)

-- the next piece fits
next : (c : goal.After-from_residual-in_err-put_piece) → room_of c.args.out.now + length (text_of (get_or c.args.pieces.now c.loop-index.index (Text record { ref_ptr = (0, 0); now = [] })))
    ≤ room_of c.if-index-gt0.out + length (parted c.args.separator.now (map text_of c.args.pieces.now))
next c =
    let at = c.loop-index.index in
    let pieces = c.args.pieces.now in
    let separator = c.args.separator.now in
    let within = next_within separator at pieces (Text record { ref_ptr = (0, 0); now = [] }) c.loop-index-test.true in
    let len = lengths c.loop-index.out.items (behind separator at (map text_of (drop at pieces))) c.args.out.now.items (parted separator (map text_of pieces)) c.loop-index.invariant.text in
    elim c.if-index-gt0.branch [
      | then-index-gt0+in_ok-put_bytes w ↦ rw w.out-is (omega (arith, within.0 w.if-index-gt0.true, len, c.loop-index.invariant.room, w.in_ok-put_bytes.ensures.room))
      | else-index-gt0 w ↦ rw w.out-is (omega (arith, within.1, len, c.loop-index.invariant.room))
    ]

pub returns-in_err-put_piece-clause-fits : goal.returns-in_err-put_piece-clause-fits
returns-in_err-put_piece-clause-fits c =
    λ fits. absurd (false≢true (c.in_err-put_piece.ensures.fits (omega (arith, fits, next c, length-append (parted c.args.separator.now (map text_of c.args.pieces.now)) c.args.end.now))))

pub returns-in_err-put_piece-clause-room : goal.returns-in_err-put_piece-clause-room
returns-in_err-put_piece-clause-room c =
    omega (arith, c.in_err-put_piece.ensures.room, next c, length-append (parted c.args.separator.now (map text_of c.args.pieces.now)) c.args.end.now)
