-- Reading the inputs.
use Rattle.std.proofs.Common.{◌≡◌, ◌≢◌, ℕ, zero, suc, ◌+◌, ◌*◌, ◌^◌, ◌<◌, ◌≤◌, pos, List, [], ◌∷◌, ◌++◌, length, drop, Some, true, refl, sym, ap, ◌∙◌, subst, arith, append_assoc, map}
use Rattle.std.proofs.lemmas.List.{append-nil, drop-drop}
use Rattle.std.specs.List.{AllByRecursion}
use Rattle.std.specs.Prelude.{slice_get}
use Rattle.rv_isa.specs.declared.instr.Instr.TheVariants.{Lui, Lw}
use Rattle.rv_machine.specs.Run.{offered}
use Rattle.rv_machine.specs.Tick.{Took}
use Rattle.rv_machine.proofs.Run.{offered-below}
use Rattle.rv_machine.proofs.Valid.{AreRegs-with_reg}
use Rattle.trap_model.specs.Map.{in_base, load_at}
use Rattle.trap_model.specs.declared.map.Loads.{Loads}
use Rattle.trap_model.specs.declared.map.Loads.TheVariants.{InPort, Ram as FromRam, Rom as FromRom, Trap as NoLoad}
use Rattle.trap_model.specs.declared.width.Width.TheVariants.{Word}
use Rattle.block_code.specs.Access.{by_load}
use Rattle.block_code.specs.Block.{IsBlock}
use Rattle.block_code.specs.Effect.{reg_at, taken}
use Rattle.block_code.specs.Footprint.{Footprint, LinesTouchOnly, Permits}
use Rattle.block_code.specs.Leads.{IsEntered, Leads}
use Rattle.block_code.specs.Moment.{Moment}
use Rattle.block_code.specs.Place.{IsAtTop, IsMachine}
use Rattle.block_code.specs.Plan.{IsLine}
use Rattle.block_code.specs.Sequence.{store_fixed}
use Rattle.block_code.proofs.Counter.{reg-same}
use Rattle.block_code.proofs.Leads.{leads-more}
use Rattle.block_code.proofs.Lines.{does-take}
use Rattle.block_code.proofs.Machine.{displaced, does-lui}
use Rattle.block_code.proofs.Footprint.{access-portless}
use Rattle.block_code.proofs.Parts.{lines-append}
use Rattle.state_space.specs.Locations.{is_input}
use Rattle.state_layout.specs.declared.cell.Cell.{Cell}
use Rattle.state_layout.specs.Inputs.{HoldsInputs, input_at}
use Rattle.state_layout.specs.Map.{IsCell, Placement, entry_at, input_cells, kept_offset, value_of}
use Rattle.state_layout.proofs.Located.{locations-have-cells}
use Rattle.staged_commit.specs.Code.{read_cells, read_inputs}
use Rattle.staged_commit.specs.Law.{IsCoded, need}
use Rattle.staged_commit.specs.Ports.{reading, took, values_read}
use Rattle.staged_commit.specs.Spots.{IsSpot, Kept, Spot, seen}
use Rattle.staged_commit.proofs.Lines.{store-line}
use Rattle.staged_commit.proofs.Pieces.{all-from}
use Rattle.staged_commit.proofs.Spotted.{in-state, puts-here, puts-others, spot-below}
use Rattle.staged_commit.proofs.Spread.{is-offset, lies}
use Rattle.staged_commit.proofs.Steps.{access-load, walk-fixed_store, walk-sets}
use Rattle.staged_commit.proofs.Touched.{Sound, Walks, walked-leads, walked-touches}
use Rattle.staged_commit.proofs.Walk.{Walk, walk-end, walk-instr, walk-more}

-- no two cells of the list are the same
abbrev pub AreDistinct : List Cell → Type 0
AreDistinct [] = Unit {0}
AreDistinct (cell ∷ cells) = ((i : ℕ) (other : Cell) → slice_get cells i ≡ Some other → other ≢ cell) × AreDistinct cells

pub distinct-from : (cells : List Cell) → ((i j : ℕ) (c : Cell) → slice_get cells i ≡ Some c → slice_get cells j ≡ Some c → i ≡ j) → AreDistinct cells
distinct-from [] h = tt
distinct-from (cell ∷ cells) h = (
  λ i other at same. (let e = h 0 (suc i) cell refl (at ∙ ap Some same) in absurd (omega arith)),
  distinct-from cells (λ i j c a b. let e = h (suc i) (suc j) c a b in omega arith),
)

-- a load may take readings where the footprint does
permits-load : (f : Footprint) → f.takes ≡ true → (from : Loads) → Permits f (by_load from)
permits-load f takes (FromRom offset) = tt
permits-load f takes (FromRam offset) = tt
permits-load f takes (InPort port) = takes
permits-load f takes NoLoad = tt

-- the value of an input by its number
-- where the kept words are the readings, they decode to the values that these stand for
held-as : (placement : Placement) (ram : List ℕ) (cells : List Cell) (readings : List ℕ)
    → ((i : ℕ) (cell : Cell) → slice_get cells i ≡ Some cell → seen placement ram (Kept cell) ≡ offered (drop i readings)) → map (input_at placement ram) cells ≡ values_read placement cells readings
held-as placement ram [] readings kept = refl
held-as placement ram (cell ∷ cells) readings kept =
    let one = ap (value_of (entry_at placement cell)) (kept 0 cell refl) in
    let rest = held-as placement ram cells (drop 1 readings)
    (λ i other at. (let after : 1 + i ≡ suc i = omega arith in kept (suc i) other at ∙ ap offered (sym (drop-drop i 1 readings ∙ ap (λ n. drop n readings) after)))) in
    ap (λ v. v ∷ map (input_at placement ram) cells) one ∙ ap (λ vs. value_of (entry_at placement cell) (offered readings) ∷ vs) rest

module _ (placement : Placement) (small : need placement ≤ 2 ^ 20) where
  kept-in : (cell : Cell) → IsSpot placement (Kept cell) → (o : ℕ) → kept_offset placement cell ≤ o → o < kept_offset placement cell + 4 → (reading placement).region o ≡ true
  kept-in cell is o f b = in-state placement (Kept cell) o (lies placement (Kept cell) is) f b

  -- the next readings were taken at the next ports, and kept for these cells
  pub record Reads (size : ℕ) (cells : List Cell) (port : ℕ) (s e : Moment) : Type 0 where
    pub log : e.log ≡ s.log ++ took port (length cells)
    pub readings : e.readings ≡ drop (length cells) s.readings
    pub kept : need placement ≤ size → (i : ℕ) (cell : Cell) → slice_get cells i ≡ Some cell → seen placement e.hart.ram (Kept cell) ≡ offered (drop i s.readings)
    pub others : need placement ≤ size → (c : Spot) → IsSpot placement c → ((i : ℕ) (cell : Cell) → slice_get cells i ≡ Some cell → c ≢ Kept cell)
        → seen placement e.hart.ram c ≡ seen placement s.hart.ram c

  module _ (rom : List ℕ) (size : ℕ) (machine : IsMachine rom size) (begin : ℕ) where
    abbrev Room : Type 0
    Room = Sound (need placement) size begin

    pub reads-cells : (cells : List Cell) → AllByRecursion (IsCell is_input placement.signatures) cells → AreDistinct cells → (port : ℕ) → port + length cells ≤ 256
        → (address : ℕ) (s : Moment) → IsAtTop size address (read_cells placement port cells) s → Walk rom Room (reading placement) address (read_cells placement port cells) s (Reads size cells port s)
    reads-cells [] all distinct port few address s top =
        walk-end rom Room (reading placement) address s (Reads size [] port s)
        (record { log = sym (append-nil s.log); readings = refl; kept = λ room i cell e. absurd (none i cell e); others = λ room c is free. refl })
      where
        none : (i : ℕ) (cell : Cell) → slice_get [] i ≡ Some cell → ⊥
        none zero cell e = cc
        none (suc i) cell e = cc
    reads-cells (cell ∷ cells) all distinct port few address s top =
        let rest = read_cells placement (port + 1) cells in
        let Post : Moment → Type 0 = Reads size (cell ∷ cells) port s in
        walk-sets rom size machine Room (reading placement) (Lui 5 0x20000) (Lw 5 5 (pos (4 * port)) ∷ (store_fixed Word 5 (kept_offset placement cell) ++ rest)) address 4 0x2000_0000 s Post top
        (omega arith) (omega arith) (does-lui rom (offered s.readings) s.hart 5 0x20000) (access-portless rom (Lui 5 0x20000) s tt)
        (λ a top_a base.
        let room_a = top_a.room in let here_a = top_a.here in
        let there : displaced (reg_at 5 a) (pos (4 * port)) ≡ in_base + 4 * port = ap (λ x. displaced x (pos (4 * port))) base.here ∙ omega arith in
        let b : Moment = taken (a.hart.pc + 4) 5 port a in
        let top_b : IsAtTop size (address + 4 + 4) (store_fixed Word 5 (kept_offset placement cell) ++ rest) b =
        record {
          valid = record { hart = record { pc = omega arith; regs = AreRegs-with_reg 5 (offered a.readings) a.hart.regs (offered-below a.readings) top_a.valid.hart.regs; ram = top_a.valid.hart.ram } };
          here = ap (λ n. n + 4) here_a;
          room = omega arith;
        } in
        let read : reg_at 5 b ≡ offered s.readings = reg-same size (a.hart.pc + 4) 4 (offered a.readings) a top_a.valid (omega arith) ∙ ap offered base.readings in
        let left : b.readings ≡ drop 1 s.readings = ap (drop 1) base.readings in
        walk-instr rom Room (reading placement) (Lw 5 5 (pos (4 * port))) (store_fixed Word 5 (kept_offset placement cell) ++ rest) (address + 4) a b Post here_a
        (does-take rom size 5 5 (pos (4 * port)) port a machine top_a.valid there (omega arith) (omega arith))
        (subst (Permits (reading placement)) (sym (access-load rom Word 5 5 (pos (4 * port)) a)) (permits-load (reading placement) refl (load_at (4 * length rom) (length a.hart.ram) (displaced (reg_at 5 a) (pos (4 * port))) 4)))
        (walk-fixed_store rom size machine Room (reading placement) Word rest (address + 4 + 4) 5 (kept_offset placement cell) b Post top_b
        (omega arith) (is-offset placement small (Kept cell) all.0) (λ r. spot-below placement (Kept cell) all.0 size r.room) (kept-in cell all.0)
        (λ c top_c puts.
        walk-more rom Room (reading placement) (address + 4 + 4 + 4 + 4) rest c (Reads size cells (port + 1) c) Post
        (λ e more.
        let one : 1 + length cells ≡ suc (length cells) = omega arith in
        record {
          log = more.log ∙ ap (λ l. l ++ took (port + 1) (length cells)) (puts.log ∙ ap (λ l. l ++ Took port ∷ []) base.log) ∙ append_assoc s.log (Took port ∷ []) (took (port + 1) (length cells));
          readings = more.readings ∙ ap (drop (length cells)) (puts.readings ∙ left) ∙ drop-drop (length cells) 1 s.readings ∙ ap (λ n. drop n s.readings) one;
          kept = λ room. kept-by room e c b puts.readings left read (more.kept room) (more.others room) (puts-here placement size room b c top_b.valid (Kept cell) all.0 (reg_at 5 b) puts);
          others = λ room d is free.
              more.others room d is (λ i other at. free (suc i) other at)
              ∙ puts-others placement size room b c top_b.valid (Kept cell) all.0 (reg_at 5 b) puts d is (free 0 cell refl)
              ∙ ap (λ r. seen placement r d) base.ram;
        })
        (reads-cells cells all.1 distinct.1 (port + 1) (omega arith) (address + 4 + 4 + 4 + 4) c top_c))))
      where
        kept-by : need placement ≤ size → (e c b : Moment) → c.readings ≡ b.readings → b.readings ≡ drop 1 s.readings → reg_at 5 b ≡ offered s.readings
            → ((i : ℕ) (d : Cell) → slice_get cells i ≡ Some d → seen placement e.hart.ram (Kept d) ≡ offered (drop i c.readings))
            → ((d : Spot) → IsSpot placement d → ((i : ℕ) (other : Cell) → slice_get cells i ≡ Some other → d ≢ Kept other) → seen placement e.hart.ram d ≡ seen placement c.hart.ram d)
            → (reg_at 5 b < 256 ^ 4 → seen placement c.hart.ram (Kept cell) ≡ reg_at 5 b)
            → (i : ℕ) (d : Cell) → slice_get (cell ∷ cells) i ≡ Some d → seen placement e.hart.ram (Kept d) ≡ offered (drop i s.readings)
        kept-by room e c b same left read kept others here zero d at =
            let one : d ≡ cell = cc in
            let low : reg_at 5 b < 256 ^ 4 = (let o = offered-below s.readings in omega arith) in
            subst (λ x. seen placement e.hart.ram (Kept x) ≡ offered s.readings) (sym one)
            (others (Kept cell) all.0 (λ i other there f. distinct.0 i other there (cc)) ∙ here low ∙ read)
        kept-by room e c b same left read kept others here (suc i) d at =
            let one : 1 + i ≡ suc i = omega arith in
            kept i d at ∙ ap (λ r. offered (drop i r)) (same ∙ left) ∙ ap offered (drop-drop i 1 s.readings ∙ ap (λ n. drop n s.readings) one)

  read-line : (port : ℕ) (cells : List Cell) → IsLine (read_cells placement port cells)
  read-line port [] = tt
  read-line port (cell ∷ cells) = (tt, (tt, lines-append (store_fixed Word 5 (kept_offset placement cell)) (read_cells placement (port + 1) cells) (store-line Word 5 (kept_offset placement cell)) (read-line (port + 1) cells)))

module _ (placement : Placement) (coded : IsCoded placement) (few : length (input_cells placement) ≤ 256) where
  abbrev ReadPost : ℕ → Moment → Moment → Type 0
  ReadPost size s e = Reads placement coded.small size (input_cells placement) 0 s e

  input-cells : AllByRecursion (IsCell is_input placement.signatures) (input_cells placement)
  input-cells = all-from (IsCell is_input placement.signatures) (input_cells placement) (λ i c e. (locations-have-cells is_input placement.signatures i c e).0)

  input-distinct : AreDistinct (input_cells placement)
  input-distinct = distinct-from (input_cells placement) (λ i j c a b. (locations-have-cells is_input placement.signatures i c a).1 j b)

  read-walks : Walks (need placement) (reading placement) (read_cells placement 0 (input_cells placement)) ReadPost
  read-walks rom size machine address s top word = reads-cells placement coded.small rom size machine address (input_cells placement) input-cells input-distinct 0 (omega arith) address s top

  pub read-block : IsBlock (read_inputs placement)
  read-block = read-line placement coded.small 0 (input_cells placement)

  pub read-touches : LinesTouchOnly (reading placement) (read_inputs placement)
  read-touches = walked-touches (need placement) (reading placement) ReadPost (read_cells placement 0 (input_cells placement)) read-walks read-block

  -- the ports are read once each, in order, and the kept words hold what was read
  pub record ReadsInputs (s e : Moment) : Type 0 where
    pub log : e.log ≡ s.log ++ took 0 (length (input_cells placement))
    pub readings : e.readings ≡ drop (length (input_cells placement)) s.readings
    pub inputs : HoldsInputs placement e.hart.ram (values_read placement (input_cells placement) s.readings)

  pub read-leads : (rom : List ℕ) (size address : ℕ) (s : Moment) → IsEntered rom size address (read_inputs placement) s → need placement ≤ size
      → Leads rom size address (read_inputs placement) (ReadsInputs s) s
  read-leads rom size address s e room =
      leads-more rom size address (read_inputs placement) s (ReadPost size s) (ReadsInputs s)
      (walked-leads (need placement) (reading placement) ReadPost (read_cells placement 0 (input_cells placement)) read-walks rom size address s e room)
      (λ s' d post. record {
        log = post.log;
        readings = post.readings;
        inputs = held-as placement s'.hart.ram (input_cells placement) s.readings (λ i cell at. post.kept room i cell at);
      })
