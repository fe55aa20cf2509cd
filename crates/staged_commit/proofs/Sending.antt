-- Sending the outputs.
use Rattle.std.proofs.Common.{◌≡◌, ℕ, ◌+◌, ◌*◌, ◌%◌, ◌≤◌, ℤ, pos, ◌+ℤ◌, true, List, [], ◌∷◌, ◌++◌, length, Some, refl, sym, ap, ◌∙◌, subst, arith, append_assoc}
use Rattle.std.proofs.lemmas.List.{append-nil}
use Rattle.std.specs.List.{AllByRecursion}
use Rattle.std.specs.Prelude.{slice_get}
use Rattle.asm_tree.specs.declared.decl.Kind.{Kind}
use Rattle.asm_tree.specs.declared.decl.Kind.TheVariants as kinds
use Rattle.rv_isa.specs.declared.instr.Instr.{Instr}
use Rattle.rv_isa.specs.declared.instr.Instr.TheVariants.{Lui, Sw}
use Rattle.rv_machine.specs.Run.{offered}
use Rattle.rv_machine.specs.Tick.{Sent}
use Rattle.trap_model.specs.Map.{out_base, store_at}
use Rattle.trap_model.specs.declared.map.Stores.TheVariants.{OutPort}
use Rattle.trap_model.specs.declared.width.Width.TheVariants.{Word}
use Rattle.block_code.specs.Access.{by_store}
use Rattle.block_code.specs.Block.{IsBlock}
use Rattle.block_code.specs.Effect.{reg_at, sent}
use Rattle.block_code.specs.Footprint.{LinesTouchOnly, Permits}
use Rattle.block_code.specs.Leads.{IsEntered, Leads}
use Rattle.block_code.specs.Moment.{Moment}
use Rattle.block_code.specs.Place.{IsAtTop, IsMachine}
use Rattle.block_code.specs.Plan.{IsLine, IsSkip}
use Rattle.block_code.specs.Sequence.{load_fixed, scratch}
use Rattle.block_code.proofs.Footprint.{access-portless, access-store}
use Rattle.block_code.proofs.Lines.{does-send, out-place}
use Rattle.block_code.proofs.Machine.{displaced, does-lui}
use Rattle.block_code.proofs.Parts.{lines-append}
use Rattle.mask_guard.specs.Mask.{decode_value, word_of}
use Rattle.mask_guard.specs.MaskLaw.{IsMaskable}
use Rattle.mask_guard.proofs.Numbers.{every-word-has-an-index}
use Rattle.state_space.specs.Codomains.{codomain_of}
use Rattle.state_space.specs.Decoding.{index_of}
use Rattle.state_space.specs.Locations.{is_state}
use Rattle.state_space.specs.Sizes.{IsSized}
use Rattle.state_layout.specs.declared.cell.Cell.{Cell}
use Rattle.state_layout.specs.Map.{IsCell, Placement, access_at, entry_at, range_at, value_at, value_offset}
use Rattle.state_layout.proofs.Located.{locations-have-cells}
use Rattle.staged_commit.specs.Code.{is_output, output_cells, send_cells, send_outputs}
use Rattle.staged_commit.specs.Law.{IsCoded, need}
use Rattle.staged_commit.specs.Ports.{sending, sends}
use Rattle.staged_commit.specs.Spots.{Value}
use Rattle.staged_commit.proofs.Lines.{load-line}
use Rattle.staged_commit.proofs.Pieces.{all-from}
use Rattle.staged_commit.proofs.Ranged.{lo-fits, lo-word, value-word}
use Rattle.staged_commit.proofs.Spotted.{spot-below}
use Rattle.staged_commit.proofs.Spread.{is-offset}
use Rattle.staged_commit.proofs.Staging.{all-at}
use Rattle.staged_commit.proofs.Steps.{walk-decode, walk-fixed_load, walk-sets}
use Rattle.staged_commit.proofs.Touched.{IsWord, Sound, Walks, walked-leads, walked-touches}
use Rattle.staged_commit.proofs.Walk.{Walk, walk-end, walk-instr, walk-more}

decode-line : (size : ℕ) (lo : ℤ) → IsLine (decode_value 5 size lo)
decode-line size lo = (tt, (tt, (tt, (tt, (skips, (tt, (tt, (tt, (tt, tt)))))))))
  where
    skips : IsSkip (pos 8) 5
    skips = (omega arith, omega arith)

module _ (placement : Placement) (coded : IsCoded placement) where
  -- the values of these cells were sent, and nothing else was done but to registers
  pub record Sends (cells : List Cell) (port : ℕ) (s e : Moment) : Type 0 where
    pub log : e.log ≡ s.log ++ sends placement s.hart.ram port cells
    pub readings : e.readings ≡ s.readings
    pub ram : e.hart.ram ≡ s.hart.ram

  -- a range has a size that a mask can be for
  pub range-maskable : (cell : Cell) → IsCell is_state placement.signatures cell → IsMaskable (range_at placement cell.fun).size
  range-maskable cell is =
      let sized = all-at IsSized placement.signatures cell.fun is.signature coded.placed.sized is.here in
      let same : range_at placement cell.fun ≡ is.signature.codomain = ap codomain_of is.here in
      subst (λ r. IsMaskable r.size) (sym same) (record { some = sized.range.some; few = (let f = sized.range.few in omega arith) })

  module _ (rom : List ℕ) (size : ℕ) (machine : IsMachine rom size) (begin : ℕ) where
    abbrev Room : Type 0
    Room = Sound (need placement) size begin

    pub sends-cells : (cells : List Cell) → AllByRecursion (IsCell is_state placement.signatures) cells → (port : ℕ) → port + length cells ≤ 256
        → (address : ℕ) (s : Moment) → IsAtTop size address (send_cells placement port cells) s → IsWord address (send_cells placement port cells)
        → Walk rom Room sending address (send_cells placement port cells) s (Sends cells port s)
    sends-cells [] all port few address s top word =
        walk-end rom Room sending address s (Sends [] port s) (record { log = sym (append-nil s.log); readings = refl; ram = refl })
    sends-cells (cell ∷ cells) all port few address s top word =
        let rest = send_cells placement (port + 1) cells in
        let Post : Moment → Type 0 = Sends (cell ∷ cells) port s in
        let va = access_at placement cell.fun in let range = range_at placement cell.fun in
        let maskable = range-maskable cell all.0 in
        let last : List Instr = Lui scratch 0x20001 ∷ Sw scratch 5 (pos (4 * port)) ∷ rest in
        walk-fixed_load rom size machine Room sending va (decode_value 5 range.size range.lo ++ last) address 4 (value_offset placement cell) s Post top (omega arith)
        (is-offset placement coded.small (Value cell) all.0) (λ r. spot-below placement (Value cell) all.0 size r.room)
        (λ a top_a loaded.
        walk-decode rom size machine Room sending last (address + 4 + 4) 4 range.size range.lo a Post top_a (omega arith) (record { from = omega arith; to = omega arith }) maskable
        (lo-fits placement coded cell.fun) (lo-word placement coded cell.fun) (value-word placement coded cell.fun (index_of range.size (reg_at 5 a)) (every-word-has-an-index range.size (reg_at 5 a) maskable.some).0)
        (λ b top_b decoded.
        walk-sets rom size machine Room sending (Lui scratch 0x20001) (Sw scratch 5 (pos (4 * port)) ∷ rest) (address + 4 + 4 + 36) 20 0x2000_1000 b Post top_b
        (omega arith) (omega arith) (does-lui rom (offered b.readings) b.hart scratch 0x20001) (access-portless rom (Lui scratch 0x20001) b tt)
        (λ c top_c base.
        let room_c = top_c.room in let here_c = top_c.here in
        let there : displaced (reg_at scratch c) (pos (4 * port)) ≡ out_base + 4 * port = ap (λ x. displaced x (pos (4 * port))) base.here ∙ omega arith in
        let value : reg_at 5 c ≡ word_of (value_at s.hart.ram (entry_at placement cell)) =
        base.others 5 (omega arith) (omega arith) ∙ decoded.here ∙ ap (λ n. word_of (range.lo +ℤ pos (index_of range.size n))) loaded.here in
        let same : c.hart.ram ≡ s.hart.ram = base.ram ∙ decoded.ram ∙ loaded.ram in
        let d : Moment = sent (c.hart.pc + 4) port (reg_at 5 c) c in
        let top_d : IsAtTop size (address + 4 + 4 + 36 + 4 + 4) rest d = record { valid = record { hart = record { pc = omega arith; regs = top_c.valid.hart.regs; ram = top_c.valid.hart.ram } }; here = ap (λ n. n + 4) here_c; room = omega arith } in
        walk-instr rom Room sending (Sw scratch 5 (pos (4 * port))) rest (address + 4 + 4 + 36 + 4) c d Post here_c
        (does-send rom size scratch 5 (pos (4 * port)) port c machine top_c.valid there (omega arith) (omega arith))
        (subst (Permits sending) (sym (access-store rom Word scratch 5 (pos (4 * port)) c ∙ ap (by_store 4) (ap (λ x. store_at (length c.hart.ram) x 4) there ∙ goes-out c top_c.valid.hart.ram.count))) refl)
        (walk-more rom Room sending (address + 4 + 4 + 36 + 4 + 4) rest d (Sends cells (port + 1) d) Post
        (λ e more. record {
          log =
              more.log
              ∙ ap (λ l. l ++ sends placement c.hart.ram (port + 1) cells) (ap (λ l. l ++ Sent port (reg_at 5 c) ∷ []) (base.log ∙ decoded.log ∙ loaded.log))
              ∙ append_assoc s.log (Sent port (reg_at 5 c) ∷ []) (sends placement c.hart.ram (port + 1) cells)
              ∙ ap (λ x. s.log ++ Sent port x ∷ sends placement c.hart.ram (port + 1) cells) value
              ∙ ap (λ r. s.log ++ Sent port (word_of (value_at s.hart.ram (entry_at placement cell))) ∷ sends placement r (port + 1) cells) same;
          readings = more.readings ∙ base.readings ∙ decoded.readings ∙ loaded.readings;
          ram = more.ram ∙ same;
        })
        (sends-cells cells all.1 (port + 1) (omega arith) (address + 4 + 4 + 36 + 4 + 4) d top_d (word-there rest (omega arith)))))))
      where
        word-there : (is : List Instr) → (address + 4 + 4 + 36 + 4 + 4) % 4 ≡ 0 → IsWord (address + 4 + 4 + 36 + 4 + 4) is
        word-there [] e = tt
        word-there (i ∷ is) e = e

        goes-out : (c : Moment) → length c.hart.ram ≡ size → store_at (length c.hart.ram) (out_base + 4 * port) 4 ≡ OutPort port
        goes-out c count = let small = machine.ram_small in out-place rom (length c.hart.ram) port (omega arith) (omega arith)

  send-line : (port : ℕ) (cells : List Cell) → IsLine (send_cells placement port cells)
  send-line port [] = tt
  send-line port (cell ∷ cells) =
      lines-append (load_fixed (access_at placement cell.fun) 5 (value_offset placement cell))
      (decode_value 5 (range_at placement cell.fun).size (range_at placement cell.fun).lo ++ (Lui scratch 0x20001 ∷ Sw scratch 5 (pos (4 * port)) ∷ send_cells placement (port + 1) cells))
      (load-line (access_at placement cell.fun) 5 (value_offset placement cell)) (behind (send-line (port + 1) cells))
    where
      behind : IsLine (send_cells placement (port + 1) cells) → IsLine (decode_value 5 (range_at placement cell.fun).size (range_at placement cell.fun).lo ++ (Lui scratch 0x20001 ∷ Sw scratch 5 (pos (4 * port)) ∷ send_cells placement (port + 1) cells))
      behind rest =
          lines-append (decode_value 5 (range_at placement cell.fun).size (range_at placement cell.fun).lo) (Lui scratch 0x20001 ∷ Sw scratch 5 (pos (4 * port)) ∷ send_cells placement (port + 1) cells)
          (decode-line (range_at placement cell.fun).size (range_at placement cell.fun).lo) (tt, (tt, rest))

  -- ---- the block
  state-of : (kind : Kind) → is_output kind ≡ true → is_state kind ≡ true
  state-of kinds.Controlled e = refl
  state-of kinds.Output e = refl
  state-of kinds.Input e = absurd (cc)
  state-of kinds.Static e = absurd (cc)

  pub output-cell : (i : ℕ) (cell : Cell) → slice_get (output_cells placement.signatures) i ≡ Some cell → IsCell is_state placement.signatures cell
  output-cell i cell e =
      let is = (locations-have-cells is_output placement.signatures i cell e).0 in record { signature = is.signature; here = is.here; held = state-of is.signature.kind is.held; below = is.below }

  output-cells : AllByRecursion (IsCell is_state placement.signatures) (output_cells placement.signatures)
  output-cells = all-from (IsCell is_state placement.signatures) (output_cells placement.signatures) output-cell

  abbrev SendPost : ℕ → Moment → Moment → Type 0
  SendPost size s e = Sends (output_cells placement.signatures) 0 s e

  module _ (few : length (output_cells placement.signatures) ≤ 256) where
    send-walks : Walks (need placement) sending (send_cells placement 0 (output_cells placement.signatures)) SendPost
    send-walks rom size machine address s top word = sends-cells rom size machine address (output_cells placement.signatures) output-cells 0 (omega arith) address s top word

    pub send-block : IsBlock (send_outputs placement)
    send-block = send-line 0 (output_cells placement.signatures)

    pub send-touches : LinesTouchOnly sending (send_outputs placement)
    send-touches = walked-touches (need placement) sending SendPost (send_cells placement 0 (output_cells placement.signatures)) send-walks send-block

    -- each output location's value goes to its port, in order, and nothing is stored
    pub send-leads : (rom : List ℕ) (size address : ℕ) (s : Moment) → IsEntered rom size address (send_outputs placement) s → need placement ≤ size
        → Leads rom size address (send_outputs placement) (Sends (output_cells placement.signatures) 0 s) s
    send-leads rom size address s e room = walked-leads (need placement) sending SendPost (send_cells placement 0 (output_cells placement.signatures)) send-walks rom size address s e room
