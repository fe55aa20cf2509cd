-- What blocks touch on their way.
use Rattle.std.proofs.Common.{◌≡◌, ℕ, zero, suc, ◌+◌, ◌*◌, ◌%◌, ◌^◌, ◌<◌, ◌≤◌, ℤ, List, [], ◌∷◌, length, drop, get_or-drop, Option, Some, None, Bool, true, false, cond, refl, sym, ap, ◌∙◌, subst, inl, inr, ◌⊎◌, ⊎_elim, arith}
use Rattle.std.proofs.lemmas.Bool.{cases_lt}
use Rattle.std.specs.Prelude.{◌==◌}
use Rattle.rv_isa.specs.declared.instr.Instr.{Instr}
use Rattle.rv_isa.specs.declared.instr.Instr.TheVariants.{Lui, Beq, Bne, Blt, Bge, Bltu, Bgeu, Lb, Lh, Lw, Lbu, Lhu, Sb, Sh, Sw}
use Rattle.rv_machine.specs.Code.{Stands, step}
use Rattle.rv_machine.specs.Effect.{effect}
use Rattle.rv_machine.specs.Hart.{HartState}
use Rattle.rv_machine.specs.Run.{offered}
use Rattle.rv_machine.specs.Tick.{Event, Quiet, Ticks, Trapped, done, fetched, jump, load, perform, store, tick, trap}
use Rattle.rv_machine.specs.declared.effect.Effect.{Effect}
use Rattle.rv_machine.specs.declared.effect.Effect.TheVariants.{Pass, Write, Jump, JumpAndLink, Load, Store, Trap}
use Rattle.trap_model.specs.Map.{IsStoreInside, ram_base, store_at}
use Rattle.trap_model.specs.Width.{IsWidth, bytes_of}
use Rattle.trap_model.specs.declared.map.Loads.{Loads}
use Rattle.trap_model.specs.declared.map.Loads.TheVariants.{InPort, Ram as FromRam, Rom as FromRom, Trap as NoLoad}
use Rattle.trap_model.specs.declared.map.Stores.{Stores}
use Rattle.trap_model.specs.declared.map.Stores.TheVariants.{OutPort, Ram as IntoRam, Trap as NoStore}
use Rattle.trap_model.specs.declared.width.Width.{Width}
use Rattle.trap_model.specs.declared.width.Width.TheVariants.{Byte, Half, Word}
use Rattle.trap_model.proofs.Inside.{store_at-inside}
use Rattle.block_code.specs.Access.{Access, NoAccess, SendTo, StoreAt, TakeFrom, access, access_at, access_of, by_effect, by_load, by_store}
use Rattle.block_code.specs.Block.{IsBlock, IsSlot, Keeps}
use Rattle.block_code.specs.During.{Allows, During, IsQuiet, Spared}
use Rattle.block_code.specs.Effect.{LineDoes, LineStops, moment_done, moved, reg_at, stops, written}
use Rattle.block_code.specs.Ends.{Arrived, Ends, Onward, Stopped}
use Rattle.block_code.specs.Footprint.{Footprint, FootprintIsKept, FootprintIsSameOutside, FootprintKeepsSlots, HasSlot, LineTouchesOnly, LinesTouchAsDone, LinesTouchOnly, PartsTouchOnly, Permits, PortlessIsSilent, PortlessTouchNothing, SlotsIn, Touches, TouchesOnly}
use Rattle.block_code.specs.Leads.{IsEntered, IsOwnStep, IsSameOutside, IsStill}
use Rattle.block_code.specs.Moment.{IsValidMoment, Moment, is_trap, moment_by, next, traps}
use Rattle.block_code.specs.Place.{IsAtTop, IsMachine, word_in}
use Rattle.block_code.specs.Plan.{If, IsLine, IsStoreless, Line, Loop, Plan, Scan, Seq}
use Rattle.block_code.specs.Region.{DifferOnly}
use Rattle.block_code.specs.Sequence.{high_part, load_by, load_fixed, low_part, scratch, store_by, store_fixed}
use Rattle.block_code.specs.SequenceLaw.{IsOffset}
use Rattle.block_code.specs.Silent.{IsBelowPorts, IsPortless, IsPortlessPlan, IsSilent, Respects}
use Rattle.block_code.proofs.Frame.{during-keeps}
use Rattle.block_code.proofs.Ends.{ends-both, ends-keep, ends-map, ends-more}
use Rattle.block_code.proofs.Line.{on-step, stands-end}
use Rattle.block_code.proofs.Machine.{access-branch, access-fetched, access-lui, displaced, does-lui, store_at-past, store_at-ram, valid-next, word-is}
use Rattle.block_code.proofs.Parts.{lines-lead-one-way, shift}
use Rattle.block_code.proofs.Region.{byte-outside, same-bytes}
use Rattle.block_code.proofs.Sequences.{page, whole}
use Rattle.block_code.proofs.Silent.{NoInput, below-inputs, load-below, portless-below, respects-if, respects-loop, respects-scan, respects-seq, still-joined, still-same}
use Rattle.block_code.proofs.Steps.{next-at, traps-at}
use Rattle.block_code.proofs.Structure.{law-of-effect, law-of-frame}
use Rattle.rv_machine.proofs.Store.{length-stored}

-- ---- a tick that traps has no access
module _ (rom : List ℕ) (reading : ℕ) (m : HartState) where
  load-untrapped : (rd : ℕ) (width : Width) (signed : Bool) (from : Loads) → is_trap (load rom reading rd width signed m from).event ≡ true → by_load from ≡ NoAccess
  load-untrapped rd width signed (FromRom offset) t = refl
  load-untrapped rd width signed (FromRam offset) t = refl
  load-untrapped rd width signed (InPort port) t = absurd (let e : true ≡ false = sym t in cc)
  load-untrapped rd width signed NoLoad t = refl

  store-untrapped : (width x : ℕ) (to : Stores) → is_trap (store m width x to).event ≡ true → by_store width to ≡ NoAccess
  store-untrapped width x (IntoRam offset) t = absurd (let e : true ≡ false = sym t in cc)
  store-untrapped width x (OutPort port) t = absurd (let e : true ≡ false = sym t in cc)
  store-untrapped width x NoStore t = refl

  effect-untrapped : (e : Effect) → is_trap (done rom reading e m).event ≡ true → by_effect rom m e ≡ NoAccess
  unfolding done
  effect-untrapped (Load rd address width signed) t = load-untrapped rd width signed _ t
  effect-untrapped (Store address width x) t = store-untrapped (bytes_of width) x _ t
  effect-untrapped _ t = refl

module _ (rom : List ℕ) where
  fetch-untrapped : (s : Moment) (o : Option Instr) → is_trap (perform rom (offered s.readings) o s.hart).event ≡ true → access_at rom s o ≡ NoAccess
  fetch-untrapped s (Some i) t = effect-untrapped rom (offered s.readings) s.hart (effect i s.hart) t
  fetch-untrapped s None t = refl

  pub trapped-untouched : (s : Moment) → traps rom s ≡ true → access rom s ≡ NoAccess
  unfolding traps tick access
  trapped-untouched s t = fetch-untrapped s (fetched rom s.hart.pc) t

  -- ---- blocks
  module _ (size : ℕ) (machine : IsMachine rom size) (f : Footprint) where
    touches-none : (s : Moment) → access rom s ≡ NoAccess → Touches rom f s
    touches-none s e = subst (Permits f) (sym e) tt

    touches-quiet : IsQuiet rom (Touches rom f)
    touches-quiet = record { still = λ s e a. touches-none s a; stopped = λ s t. touches-none s (trapped-untouched s t) }

    touches-slot : (slot : ℕ) → HasSlot f slot → Allows rom size (Touches rom f) slot
    touches-slot slot within s x h valid e a = subst (Permits f) (sym a) within

    lines-touch : (tree : Plan) → IsBlock tree → LinesTouchOnly f tree → Spared rom size (Touches rom f) tree
    lines-touch (Line instrs) b p = λ address s stands valid at. ends-map rom (λ s i. i.1) (λ s' g. g) (λ s' c. c) (p rom size address s machine stands valid at)
    lines-touch (Seq first second) b p = (lines-touch first b.0 p.0, lines-touch second b.1 p.1)
    lines-touch (If test then_part else_part) b p = (lines-touch then_part b.0 p.0, lines-touch else_part b.1 p.1)
    lines-touch (Loop count slot body) b p = (touches-slot slot p.0, lines-touch body b.2 p.1)
    lines-touch (Scan count slot guard test found none) b p =
        (touches-slot slot p.0, lines-touch guard b.2 p.1, lines-touch found b.3 p.2, lines-touch none b.4 p.3)

pub footprint-kept : FootprintIsKept
footprint-kept f tree b p rom size address s machine stands valid at =
    law-of-frame tree b rom size address (Touches rom f) s machine (touches-quiet rom size machine f) (lines-touch rom size machine f tree b p) stands valid at

-- ---- lines
module _ (rom : List ℕ) (f : Footprint) (small : 4 * length rom ≤ 2 ^ 20) (low : ℕ) where
  abbrev TouchEnds : ℕ → List Instr → ℕ → Moment → Type 0
  TouchEnds address is n s = Ends rom (During (Touches rom f) low (address + 4 * length is)) (λ s'. s'.hart.pc ≡ address + 4 * length is) (λ s'. Unit {0}) n s

  -- from any of its instructions on, a line touches what its instructions touch
  line-touches : (is : List Instr) (address : ℕ) (s : Moment) → Stands rom address is → IsLine is → low ≤ s.hart.pc → address ≤ s.hart.pc
      → s.hart.pc ≤ address + 4 * length is → s.hart.pc % 4 ≡ 0 → LineTouchesOnly rom f address is s → TouchEnds address is (length is) s
  line-touches [] address s stands line near from to aligned p = Arrived (omega arith)
  line-touches (i ∷ is) address s stands line near from to aligned p =
      ⊎_elim
      (λ h. ends-more rom (suc (length is)) (omega arith) (further s (line-touches is (address + 4) s stands.1 line.1 near (omega (arith, place)) (omega arith) aligned (p.1 (omega arith)))))
      (λ h. let here : s.hart.pc ≡ address = omega arith in
      tried here (stops rom i s) refl (λ q.
      let on = on-step s.hart (suc (length is)) aligned (omega arith) (omega (arith, place)) rom (offered s.readings) i line.0 q in
      line-touches is (address + 4) (moment_done rom i s) stands.1 line.1 (omega (arith, on)) (omega (arith, on)) (omega (arith, on)) on.2 ((p.0 here).1 q)))
      (cases_lt address s.hart.pc)
    where
      place : (address % 4 ≡ 0) × (address + 4 * suc (length is) ≤ 4 * length rom)
      place = stands-end rom address i is stands

      further : (m : Moment) → TouchEnds (address + 4) is (length is) m → TouchEnds address (i ∷ is) (length is) m
      further m e = subst (λ end. Ends rom (During (Touches rom f) low end) (λ s'. s'.hart.pc ≡ end) (λ s'. Unit {0}) (length is) m) (shift address is) e

      tried : s.hart.pc ≡ address → (b : Bool) → stops rom i s ≡ b → (stops rom i s ≡ false → TouchEnds (address + 4) is (length is) (moment_done rom i s))
          → TouchEnds address (i ∷ is) (suc (length is)) s
      tried here true e rest =
          let g = ap (fetched rom) here ∙ stands.0 in
          Stopped (record { from = near; below = omega arith }, subst (Permits f) (sym (access-fetched rom s i g)) (p.0 here).0) (traps-at rom s i g ∙ e) tt
      tried here false e rest =
          let g = ap (fetched rom) here ∙ stands.0 in let on = next-at rom s i g in
          Onward (record { from = near; below = omega arith }, subst (Permits f) (sym (access-fetched rom s i g)) (p.0 here).0) (traps-at rom s i g ∙ e)
          (subst (λ m. TouchEnds address (i ∷ is) (length is) m) (sym on) (further (moment_done rom i s) (rest e)))

pub lines-touch-as-done : LinesTouchAsDone
lines-touch-as-done f [] line touches rom size address s machine stands valid at = Arrived (omega arith)
lines-touch-as-done f (i ∷ is) line touches rom size address s machine stands valid at =
    let place = stands-end rom address i is stands in let small = machine.rom_small in
    line-touches rom f small address (i ∷ is) address s stands line (omega arith) (omega arith) (omega arith) (omega (arith, place.0))
    (touches rom size address s machine (record { valid = valid; here = at; room = omega (arith, place.1) }))

-- so it is enough at the addresses of words
pub lines-touch-aligned : (f : Footprint) (i : Instr) (is : List Instr) → IsLine (i ∷ is)
    → ((rom : List ℕ) (size address : ℕ) (s : Moment) → IsMachine rom size → IsAtTop size address (i ∷ is) s → address % 4 ≡ 0 → LineTouchesOnly rom f address (i ∷ is) s)
    → TouchesOnly f (Line (i ∷ is))
lines-touch-aligned f i is line touches rom size address s machine stands valid at =
    let place = stands-end rom address i is stands in let small = machine.rom_small in
    line-touches rom f small address (i ∷ is) address s stands line (omega arith) (omega arith) (omega arith) (omega (arith, place.0))
    (touches rom size address s machine (record { valid = valid; here = at; room = omega (arith, place.1) }) place.0)

pub parts-touch-only : PartsTouchOnly
parts-touch-only rom f address [] second s p q = let e : address + 4 * 0 ≡ address = omega arith in subst (λ a. LineTouchesOnly rom f a second s) e (q s refl)
parts-touch-only rom f address (i ∷ is) second s p q = (
  λ here. ((p.0 here).0, λ t. parts-touch-only rom f (address + 4) is second (moment_done rom i s) ((p.0 here).1 t) (λ mid d. behind mid (q mid (inl (here, t, d))))),
  λ away. parts-touch-only rom f (address + 4) is second s (p.1 away) (λ mid d. behind mid (q mid (inr (away, d)))),
)
  where
    behind : (mid : Moment) → LineTouchesOnly rom f (address + 4 * suc (length is)) second mid → LineTouchesOnly rom f (address + 4 + 4 * length is) second mid
    behind mid = subst (λ a. LineTouchesOnly rom f a second mid) (sym (shift address is))

-- ---- the accesses of instructions
module _ (rom : List ℕ) where
  no-input : (from : Loads) → NoInput from → by_load from ≡ NoAccess
  no-input (FromRom offset) h = refl
  no-input (FromRam offset) h = refl
  no-input (InPort port) h = absurd h
  no-input NoLoad h = refl

  -- an instruction that stores nothing, and loads only below the ports
  pub access-below : (i : Instr) (s : Moment) → IsStoreless i → IsBelowPorts i s.hart → access_of rom i s ≡ NoAccess
  unfolding effect
  access-below (Beq rs1 rs2 imm) s p b = access-branch rom _ imm s
  access-below (Bne rs1 rs2 imm) s p b = access-branch rom _ imm s
  access-below (Blt rs1 rs2 imm) s p b = access-branch rom _ imm s
  access-below (Bge rs1 rs2 imm) s p b = access-branch rom _ imm s
  access-below (Bltu rs1 rs2 imm) s p b = access-branch rom _ imm s
  access-below (Bgeu rs1 rs2 imm) s p b = access-branch rom _ imm s
  access-below (Lb rd rs1 imm) s p b = no-input _ (below-inputs _ _ _ 1 b)
  access-below (Lh rd rs1 imm) s p b = no-input _ (below-inputs _ _ _ 2 b)
  access-below (Lw rd rs1 imm) s p b = no-input _ (below-inputs _ _ _ 4 b)
  access-below (Lbu rd rs1 imm) s p b = no-input _ (below-inputs _ _ _ 1 b)
  access-below (Lhu rd rs1 imm) s p b = no-input _ (below-inputs _ _ _ 2 b)
  access-below (Sb rs1 rs2 imm) s p b = absurd p
  access-below (Sh rs1 rs2 imm) s p b = absurd p
  access-below (Sw rs1 rs2 imm) s p b = absurd p
  access-below _ s p b = refl

  portless-storeless : (i : Instr) → IsPortless i → IsStoreless i
  portless-storeless (Sb rs1 rs2 imm) p = absurd p
  portless-storeless (Sh rs1 rs2 imm) p = absurd p
  portless-storeless (Sw rs1 rs2 imm) p = absurd p
  portless-storeless _ p = tt

  pub access-portless : (i : Instr) (s : Moment) → IsPortless i → access_of rom i s ≡ NoAccess
  access-portless i s p = access-below i s (portless-storeless i p) (portless-below i s.hart p)

  pub access-store : (width : Width) (rs1 rs2 : ℕ) (imm : ℤ) (s : Moment)
      → access_of rom (store_by width rs1 rs2 imm) s ≡ by_store (bytes_of width) (store_at (length s.hart.ram) (displaced (reg_at rs1 s) imm) (bytes_of width))
  unfolding effect
  access-store Byte rs1 rs2 imm s = refl
  access-store Half rs1 rs2 imm s = refl
  access-store Word rs1 rs2 imm s = refl

  module _ (f : Footprint) where
    -- no access lies in every footprint
    pub permits-none : (a : Access) → a ≡ NoAccess → Permits f a
    permits-none a e = subst (Permits f) (sym e) tt

    -- a store at an offset of the region, whether RAM goes so far or not
    pub permits-store : (size : ℕ) (width : Width) (rs1 rs2 : ℕ) (imm : ℤ) (offset : ℕ) (s : Moment) → length s.hart.ram ≡ size → IsOffset width offset
        → displaced (reg_at rs1 s) imm ≡ ram_base + offset → ((o : ℕ) → offset ≤ o → o < offset + bytes_of width → f.region o ≡ true) → Permits f (access_of rom (store_by width rs1 rs2 imm) s)
    permits-store size width rs1 rs2 imm offset s count place there within =
        subst (Permits f) (sym (access-store width rs1 rs2 imm s ∙ ap (by_store (bytes_of width)) moves)) (by_size (cases_lt offset size))
      where
        moves : store_at (length s.hart.ram) (displaced (reg_at rs1 s) imm) (bytes_of width) ≡ store_at size (ram_base + offset) (bytes_of width)
        moves = ap (λ n. store_at n (displaced (reg_at rs1 s) imm) (bytes_of width)) count ∙ ap (λ a. store_at size a (bytes_of width)) there

        by_size : (offset < size) ⊎ (size ≤ offset) → Permits f (by_store (bytes_of width) (store_at size (ram_base + offset) (bytes_of width)))
        by_size (inl h) = subst (λ x. Permits f (by_store (bytes_of width) x)) (sym (store_at-ram width size offset h place.aligned)) within
        by_size (inr h) = permits-none _ (ap (by_store (bytes_of width)) (store_at-past width size offset h place.low))

    -- one instruction, and then the rest
    pub touch-instr : (address : ℕ) (i : Instr) (is : List Instr) (s : Moment) → s.hart.pc ≡ address → Permits f (access_of rom i s) → LineTouchesOnly rom f (address + 4) is (moment_done rom i s)
        → LineTouchesOnly rom f address (i ∷ is) s
    touch-instr address i is s here p rest = (λ h. (p, λ t. rest), λ away. absurd (away here))

    -- the page of an address in a register, and then an access at the address
    touch-paged : (size address r x : ℕ) (i : Instr) (s : Moment) → IsValidMoment size s → s.hart.pc ≡ address → suc r < 32 → x < 2 ^ 32
        → ((m : Moment) → length m.hart.ram ≡ size → displaced (reg_at (suc r) m) (low_part x) ≡ x → Permits f (access_of rom i m)) → LineTouchesOnly rom f address (Lui (suc r) (high_part x) ∷ i ∷ []) s
    touch-paged size address r x i s valid here small low permits =
        touch-instr address (Lui (suc r) (high_part x)) (i ∷ []) s here (permits-none _ (access-lui rom (suc r) (high_part x) s))
        (subst (LineTouchesOnly rom f (address + 4) (i ∷ [])) (sym (ap (λ t. moment_by t s) (does-lui rom (offered s.readings) s.hart (suc r) (high_part x))))
        (λ h. (permits s1 valid.hart.ram.count (whole rom size s.hart.pc s r x valid small low), λ t. tt), λ away. tt))
      where
        s1 : Moment
        s1 = written ((s.hart.pc + 4) % 2 ^ 32) (suc r) (page x) s

    -- a load at a fixed offset of RAM touches nothing
    pub touch-load_fixed : (size address : ℕ) (width : Width) (register offset : ℕ) (s : Moment) → IsAtTop size address (load_fixed width register offset) s → 0 < register → register < 32 → offset < 2 ^ 20
        → LineTouchesOnly rom f address (load_fixed width register offset) s
    touch-load_fixed size address width zero offset s top some small low = absurd (omega arith)
    touch-load_fixed size address width (suc r) offset s top some small low =
        touch-paged size address r (ram_base + offset) (load_by width (suc r) (suc r) (low_part (ram_base + offset))) s top.valid top.here small (omega arith)
        (λ m count there. permits-none _ (access-below (load_by width (suc r) (suc r) (low_part (ram_base + offset))) m (load-storeless width)
        (load-below width (suc r) (suc r) (low_part (ram_base + offset)) m.hart (let e = there in omega arith))))
      where
        load-storeless : (width : Width) → IsStoreless (load_by width (suc r) (suc r) (low_part (ram_base + offset)))
        load-storeless Byte = tt
        load-storeless Half = tt
        load-storeless Word = tt

    -- a store at a fixed offset of the region touches it alone
    pub touch-store_fixed : (size address : ℕ) (width : Width) (register offset : ℕ) (s : Moment) → IsAtTop size address (store_fixed width register offset) s → IsOffset width offset
        → ((o : ℕ) → offset ≤ o → o < offset + bytes_of width → f.region o ≡ true) → LineTouchesOnly rom f address (store_fixed width register offset) s
    touch-store_fixed size address width register offset s top place within =
        let low = place.low in
        touch-paged size address 20 (ram_base + offset) (store_by width scratch register (low_part (ram_base + offset))) s top.valid top.here (omega arith) (omega arith)
        (λ m count there. permits-store size width scratch register (low_part (ram_base + offset)) offset m count place there within)

pub portless-touch-nothing : PortlessTouchNothing
portless-touch-nothing rom f address [] s p = tt
portless-touch-nothing rom f address (i ∷ is) s p = (
  λ here. (permits-none rom f _ (access-portless rom i s p.0), λ t. portless-touch-nothing rom f (address + 4) is (moment_done rom i s) p.1),
  λ away. portless-touch-nothing rom f (address + 4) is s p.1,
)

-- ---- what a tick does to RAM, the log and the readings, by its access
module _ (size : ℕ) (multiple : size % 4 ≡ 0) (rom : List ℕ) (reading : ℕ) (f : Footprint) (m : HartState) (count : length m.ram ≡ size) where
  abbrev Differs : Ticks → Type 0
  Differs t = DifferOnly (λ o. f.region o ≡ true) m.ram t.hart.ram × (length t.hart.ram ≡ length m.ram)

  jump-differs : (target : ℕ) (regs : List ℕ) → Differs (jump m target regs)
  jump-differs target regs = cases (target % 4 == 0)
    where
      cases : (b : Bool) → Differs (cond b (record { hart = record { pc = target; regs = regs; ram = m.ram }; event = Quiet }) (trap m))
      cases true = (λ o out. refl, refl)
      cases false = (λ o out. refl, refl)

  load-differs : (rd : ℕ) (width : Width) (signed : Bool) (from : Loads) → Differs (load rom reading rd width signed m from)
  load-differs rd width signed (FromRom offset) = (λ o out. refl, refl)
  load-differs rd width signed (FromRam offset) = (λ o out. refl, refl)
  load-differs rd width signed (InPort port) = (λ o out. refl, refl)
  load-differs rd width signed NoLoad = (λ o out. refl, refl)

  ends-inside : (width : Width) (offset : ℕ) → offset < size → offset % bytes_of width ≡ 0 → offset + bytes_of width ≤ size
  ends-inside Byte offset h k = omega arith
  ends-inside Half offset h k = omega arith
  ends-inside Word offset h k = omega arith

  store-differs : (width : Width) (x : ℕ) (to : Stores) → IsStoreInside size (bytes_of width) to → Permits f (by_store (bytes_of width) to) → Differs (store m (bytes_of width) x to)
  store-differs width x (IntoRam offset) i p =
      let inside : offset + bytes_of width ≤ length m.ram = subst (λ n. offset + bytes_of width ≤ n) (sym count) (ends-inside width offset i.0 i.1) in
      (λ o out. byte-outside (bytes_of width) offset x o m.ram inside (λ a b. out (p o a b)), length-stored (bytes_of width) offset x m.ram inside)
  store-differs width x (OutPort port) i p = (λ o out. refl, refl)
  store-differs width x NoStore i p = (λ o out. refl, refl)

  is-width : (width : Width) → IsWidth (bytes_of width)
  is-width Byte = inl refl
  is-width Half = inr (inl refl)
  is-width Word = inr (inr refl)

  effect-differs : (e : Effect) → Permits f (by_effect rom m e) → Differs (done rom reading e m)
  unfolding done
  effect-differs Pass p = (λ o out. refl, refl)
  effect-differs (Write rd x) p = (λ o out. refl, refl)
  effect-differs (Jump target) p = jump-differs target m.regs
  effect-differs (JumpAndLink rd target) p = jump-differs target _
  effect-differs (Load rd address width signed) p = load-differs rd width signed _
  effect-differs (Store address width x) p =
      store-differs width x (store_at (length m.ram) address (bytes_of width))
      (subst (λ n. IsStoreInside n (bytes_of width) (store_at (length m.ram) address (bytes_of width))) count (store_at-inside (length m.ram) (bytes_of width) address (is-width width))) p
  effect-differs Trap p = (λ o out. refl, refl)

  -- no port is used
  abbrev Unseen : Event → Type 0
  Unseen e = (s : Moment) (hart : HartState) → IsStill s (moment_by (record { hart = hart; event = e }) s)

  quiet-unseen : Unseen Quiet
  quiet-unseen s hart = record { log = refl; readings = refl }

  trap-unseen : Unseen Trapped
  trap-unseen s hart = record { log = refl; readings = refl }

  jump-unseen : (target : ℕ) (regs : List ℕ) → Unseen (jump m target regs).event
  jump-unseen target regs = cases (target % 4 == 0)
    where
      cases : (b : Bool) → Unseen (cond b (record { hart = record { pc = target; regs = regs; ram = m.ram }; event = Quiet }) (trap m)).event
      cases true = quiet-unseen
      cases false = trap-unseen

  module _ (no_takes : f.takes ≡ false) (no_sends : f.sends ≡ false) where
    load-unseen : (rd : ℕ) (width : Width) (signed : Bool) (from : Loads) → Permits f (by_load from) → Unseen (load rom reading rd width signed m from).event
    load-unseen rd width signed (FromRom offset) p = quiet-unseen
    load-unseen rd width signed (FromRam offset) p = quiet-unseen
    load-unseen rd width signed (InPort port) p = absurd (let e : true ≡ false = sym p ∙ no_takes in cc)
    load-unseen rd width signed NoLoad p = trap-unseen

    store-unseen : (width x : ℕ) (to : Stores) → Permits f (by_store width to) → Unseen (store m width x to).event
    store-unseen width x (IntoRam offset) p = quiet-unseen
    store-unseen width x (OutPort port) p = absurd (let e : true ≡ false = sym p ∙ no_sends in cc)
    store-unseen width x NoStore p = trap-unseen

    effect-unseen : (e : Effect) → Permits f (by_effect rom m e) → Unseen (done rom reading e m).event
    unfolding done
    effect-unseen Pass p = quiet-unseen
    effect-unseen (Write rd x) p = quiet-unseen
    effect-unseen (Jump target) p = jump-unseen target m.regs
    effect-unseen (JumpAndLink rd target) p = jump-unseen target _
    effect-unseen (Load rd address width signed) p = load-unseen rd width signed _ p
    effect-unseen (Store address width x) p = store-unseen (bytes_of width) x _ p
    effect-unseen Trap p = trap-unseen

module _ (rom : List ℕ) (size : ℕ) (multiple : size % 4 ≡ 0) (f : Footprint) where
  fetch-differs : (s : Moment) (o : Option Instr) → length s.hart.ram ≡ size → Permits f (access_at rom s o)
      → DifferOnly (λ o. f.region o ≡ true) s.hart.ram (perform rom (offered s.readings) o s.hart).hart.ram × (length (perform rom (offered s.readings) o s.hart).hart.ram ≡ length s.hart.ram)
  fetch-differs s (Some i) count p = effect-differs size multiple rom (offered s.readings) f s.hart count (effect i s.hart) p
  fetch-differs s None count p = (λ o out. refl, refl)

  -- a tick changes RAM only where it may store
  pub touched-same : (s : Moment) → length s.hart.ram ≡ size → Touches rom f s → IsSameOutside f.region s (next rom s)
  unfolding next tick access
  touched-same s count p = let d = fetch-differs s (fetched rom s.hart.pc) count p in record { bytes = d.0; count = d.1 }

  fetch-unseen : (no_takes : f.takes ≡ false) (no_sends : f.sends ≡ false) (s : Moment) (o : Option Instr) → length s.hart.ram ≡ size → Permits f (access_at rom s o)
      → IsStill s (moment_by (perform rom (offered s.readings) o s.hart) s)
  fetch-unseen no_takes no_sends s (Some i) count p =
      effect-unseen size multiple rom (offered s.readings) f s.hart count no_takes no_sends (effect i s.hart) p s (step rom (offered s.readings) i s.hart).hart
  fetch-unseen no_takes no_sends s None count p = record { log = refl; readings = refl }

  -- a tick that may use no port is still
  pub touched-still : f.takes ≡ false → f.sends ≡ false → (s : Moment) → length s.hart.ram ≡ size → Touches rom f s → IsStill s (next rom s)
  unfolding next tick access
  touched-still no_takes no_sends s count p = fetch-unseen no_takes no_sends s (fetched rom s.hart.pc) count p

-- ---- from footprints to words that are kept
pub footprint-keeps-slots : FootprintKeepsSlots
footprint-keeps-slots f slot tree is_slot outside touches rom size address s machine stands valid at =
    during-keeps rom slot
    (ends-map rom (λ x i. (i.1.0, λ t. keeps x (touched-same rom size machine.ram_aligned f x i.0.hart.ram.count i.1.1).bytes)) (λ x g. g.1) (λ x c. (let done : Unit {0} = tt in done))
    (ends-keep rom {P = IsValidMoment size} (λ x v i t. valid-next size machine.ram_aligned rom machine.words x v) valid (touches rom size address s machine stands valid at)))
  where
    keeps : (x : Moment) → DifferOnly (λ o. f.region o ≡ true) x.hart.ram (next rom x).hart.ram → word_in slot (next rom x).hart.ram ≡ word_in slot x.hart.ram
    keeps x same =
        sym (word-is slot (next rom x).hart.ram)
        ∙ same-bytes 0 4 (drop slot (next rom x).hart.ram) (drop slot x.hart.ram) (λ k f b.
        get_or-drop slot (next rom x).hart.ram k 0 ∙ same (slot + k) (λ r. let n = outside (slot + k) (omega arith) (omega arith) in absurd (cc)) ∙ sym (get_or-drop slot x.hart.ram k 0))
        ∙ word-is slot x.hart.ram

-- ---- from footprints to what a block does

-- a run comes to an end somewhere
ends-somewhere : (rom : List ℕ) {I G C : Moment → Type 0} {n : ℕ} {s : Moment} → Ends rom I G C n s → (x : Moment) × (G x ⊎ C x)
ends-somewhere rom {s = s} (Arrived g) = (s, inl g)
ends-somewhere rom {s = s} (Stopped i t c) = (s, inr c)
ends-somewhere rom (Onward i t e) = ends-somewhere rom e

-- a line stops at one place
lines-stop-one-way : (rom : List ℕ) (is : List Instr) (address : ℕ) (s a b : Moment) → LineStops rom address is s a → LineStops rom address is s b → a ≡ b
lines-stop-one-way rom [] address s a b t u = absurd t
lines-stop-one-way rom (i ∷ is) address s a b t u = cases (λ s. lines-stop-one-way rom is (address + 4) s a b) t u
  where
    cases : ((s : Moment) → LineStops rom (address + 4) is s a → LineStops rom (address + 4) is s b → a ≡ b) → LineStops rom address (i ∷ is) s a → LineStops rom address (i ∷ is) s b → a ≡ b
    cases rest (inl t) (inl u) = t.2 ∙ sym u.2
    cases rest (inl t) (inr (inl u)) = let e = t.1 in let d = u.1 in absurd (cc)
    cases rest (inl t) (inr (inr u)) = absurd (u.0 t.0)
    cases rest (inr (inl t)) (inl u) = let e = t.1 in let d = u.1 in absurd (cc)
    cases rest (inr (inl t)) (inr (inl u)) = rest (moment_done rom i s) t.2 u.2
    cases rest (inr (inl t)) (inr (inr u)) = absurd (u.0 t.0)
    cases rest (inr (inr t)) (inl u) = absurd (t.0 u.0)
    cases rest (inr (inr t)) (inr (inl u)) = absurd (t.0 u.0)
    cases rest (inr (inr t)) (inr (inr u)) = rest s t.1 u.1

module _ (Same : Moment → Moment → Type 0) (same : (s : Moment) → Same s s) (joined : (a b c : Moment) → Same a b → Same b c → Same a c) (f : Footprint)
    (ticks : (rom : List ℕ) (size : ℕ) (s : Moment) → size % 4 ≡ 0 → length s.hart.ram ≡ size → Touches rom f s → Same s (next rom s)) where
  -- what each tick in the footprint respects, a line in it respects
  touched-line : (instrs : List Instr) → TouchesOnly f (Line instrs) → Respects Same (Line instrs)
  touched-line instrs touches = record { does = λ rom size at s s' e d. does rom size at s s' e d; stops = λ rom size at s s' e t. never rom size at s s' e t }
    where
      comes : (rom : List ℕ) (size at : ℕ) (s : Moment) → IsEntered rom size at (Line instrs) s → (x : Moment) × ((Same s x × LineDoes rom at instrs s x) ⊎ (Same s x × LineStops rom at instrs s x))
      comes rom size at s e =
          let both = ends-both rom (λ x h w. let b = w.below in absurd (omega arith)) (law-of-effect (Line instrs) e.block rom size at s e.machine e.stands e.valid e.here)
          (touches rom size at s e.machine e.stands e.valid e.here) in
          let kept = ends-keep rom {P = λ x. IsValidMoment size x × Same s x}
          (λ x p i t. (valid-next size e.machine.ram_aligned rom e.machine.words x p.0, joined s x (next rom x) p.1 (ticks rom size x e.machine.ram_aligned p.0.hart.ram.count i.1.1)))
          (e.valid, same s) both in
          let found = ends-somewhere rom kept in (found.0, ⊎_elim (λ g. inl (g.0.1, g.1.2)) (λ c. inr (c.0.1, c.1 tt)) found.1)

      does : (rom : List ℕ) (size at : ℕ) (s s' : Moment) → IsEntered rom size at (Line instrs) s → LineDoes rom at instrs s s' → Same s s'
      does rom size at s s' e d = by_end (comes rom size at s e)
        where
          by_end : (x : Moment) × ((Same s x × LineDoes rom at instrs s x) ⊎ (Same s x × LineStops rom at instrs s x)) → Same s s'
          by_end (x, inl g) = subst (Same s) ((lines-lead-one-way rom at instrs s s' x d).0 g.1) g.0
          by_end (x, inr c) = absurd ((lines-lead-one-way rom at instrs s s' x d).1 c.1)

      never : (rom : List ℕ) (size at : ℕ) (s s' : Moment) → IsEntered rom size at (Line instrs) s → LineStops rom at instrs s s' → Same s s'
      never rom size at s s' e t = by_end (comes rom size at s e)
        where
          by_end : (x : Moment) × ((Same s x × LineDoes rom at instrs s x) ⊎ (Same s x × LineStops rom at instrs s x)) → Same s s'
          by_end (x, inl g) = absurd ((lines-lead-one-way rom at instrs s x s' g.1).1 t)
          by_end (x, inr c) = subst (Same s) (lines-stop-one-way rom instrs at s x s' c.1 t) c.0

  -- and so does a block, if its own code in the footprint does
  touched-block : ((slot : ℕ) → HasSlot f slot → (s s' : Moment) → IsOwnStep slot s s' → Same s s') → ((at : ℕ) (s : Moment) → Same s (moved at s))
      → (tree : Plan) → LinesTouchOnly f tree → Respects Same tree
  touched-block owns moves (Line instrs) p = touched-line instrs p
  touched-block owns moves (Seq first second) p = respects-seq Same same joined first second (touched-block owns moves first p.0) (touched-block owns moves second p.1)
  touched-block owns moves (If test then_part else_part) p =
      respects-if Same same joined moves test then_part else_part (touched-block owns moves then_part p.0) (touched-block owns moves else_part p.1)
  touched-block owns moves (Loop count slot body) p = respects-loop Same joined count slot (owns slot p.0) body (touched-block owns moves body p.1)
  touched-block owns moves (Scan count slot guard test found none) p =
      respects-scan Same joined count slot (owns slot p.0) guard test found none (touched-block owns moves guard p.1) (touched-block owns moves found p.2) (touched-block owns moves none p.3)

pub outside-same : (region : ℕ → Bool) (s : Moment) → IsSameOutside region s s
outside-same region s = record { bytes = λ o out. refl; count = refl }

pub outside-joined : (region : ℕ → Bool) (a b c : Moment) → IsSameOutside region a b → IsSameOutside region b c → IsSameOutside region a c
outside-joined region a b c h k = record { bytes = λ o out. k.bytes o out ∙ h.bytes o out; count = k.count ∙ h.count }

-- a block whose lines touch only a footprint without ports is silent
pub touches-silent : PortlessIsSilent
touches-silent f no_takes no_sends =
    touched-block IsStill still-same still-joined f (λ rom size s multiple count p. touched-still rom size multiple f no_takes no_sends s count p)
    (λ slot within s s' own. record { log = own.log; readings = own.readings }) (λ at s. record { log = refl; readings = refl })

-- and where it leaves or traps, RAM is what it was outside the region
pub touches-outside : FootprintIsSameOutside
touches-outside f =
    touched-block (IsSameOutside f.region) (outside-same f.region) (outside-joined f.region) f (λ rom size s multiple count p. touched-same rom size multiple f s count p)
    (λ slot within s s' own. record { bytes = λ o out. own.bytes o (λ w. out (within o w.0 w.1)); count = own.count }) (λ at s. record { bytes = λ o out. refl; count = refl })

-- a block keeps the word at a slot outside the footprint of its lines
pub lines-keep-slots : (f : Footprint) (slot : ℕ) (tree : Plan) → IsSlot slot → ((o : ℕ) → slot ≤ o → o < slot + 4 → f.region o ≡ false) → IsBlock tree → LinesTouchOnly f tree → Keeps slot tree
lines-keep-slots f slot tree is_slot outside b p = footprint-keeps-slots f slot tree is_slot outside (footprint-kept f tree b p)

-- a footprint in a wider one
pub touches-wider : (f g : Footprint) → ((a : Access) → Permits f a → Permits g a) → (tree : Plan) → TouchesOnly f tree → TouchesOnly g tree
touches-wider f g wider tree touches rom size address s machine stands valid at =
    ends-map rom (λ x i. (i.0, wider (access rom x) i.1)) (λ x e. e) (λ x c. c) (touches rom size address s machine stands valid at)

pub lines-touch-wider : (f g : Footprint) → ((a : Access) → Permits f a → Permits g a) → ((slot : ℕ) → HasSlot f slot → HasSlot g slot) → (tree : Plan) → LinesTouchOnly f tree → LinesTouchOnly g tree
lines-touch-wider f g wider slots (Line instrs) p = touches-wider f g wider (Line instrs) p
lines-touch-wider f g wider slots (Seq first second) p = (lines-touch-wider f g wider slots first p.0, lines-touch-wider f g wider slots second p.1)
lines-touch-wider f g wider slots (If test then_part else_part) p = (lines-touch-wider f g wider slots then_part p.0, lines-touch-wider f g wider slots else_part p.1)
lines-touch-wider f g wider slots (Loop count slot body) p = (slots slot p.0, lines-touch-wider f g wider slots body p.1)
lines-touch-wider f g wider slots (Scan count slot guard test found none) p =
    (slots slot p.0, lines-touch-wider f g wider slots guard p.1, lines-touch-wider f g wider slots found p.2, lines-touch-wider f g wider slots none p.3)

-- a region in a wider one, and no port fewer
permits-region : (f g : Footprint) → ((o : ℕ) → f.region o ≡ true → g.region o ≡ true) → (f.takes ≡ true → g.takes ≡ true) → (f.sends ≡ true → g.sends ≡ true) → (a : Access) → Permits f a → Permits g a
permits-region f g region takes sends NoAccess p = tt
permits-region f g region takes sends (StoreAt offset width) p = λ o a b. region o (p o a b)
permits-region f g region takes sends (TakeFrom port) p = takes p
permits-region f g region takes sends (SendTo port) p = sends p

-- what lies in a footprint lies in a greater one
pub lines-touch-more : (f g : Footprint) → ((o : ℕ) → f.region o ≡ true → g.region o ≡ true) → (f.takes ≡ true → g.takes ≡ true) → (f.sends ≡ true → g.sends ≡ true) → (tree : Plan)
    → LinesTouchOnly f tree → LinesTouchOnly g tree
lines-touch-more f g region takes sends = lines-touch-wider f g (permits-region f g region takes sends) (λ slot h o a b. region o (h o a b))

-- ---- plans whose lines have no load and no store
pub portless-plan : (f : Footprint) (tree : Plan) → IsBlock tree → IsPortlessPlan tree → SlotsIn f tree → LinesTouchOnly f tree
portless-plan f (Line instrs) b p slots = lines-touch-as-done f instrs b (λ rom size at s machine top. portless-touch-nothing rom f at instrs s p)
portless-plan f (Seq first second) b p slots = (portless-plan f first b.0 p.0 slots.0, portless-plan f second b.1 p.1 slots.1)
portless-plan f (If test then_part else_part) b p slots = (portless-plan f then_part b.0 p.0 slots.0, portless-plan f else_part b.1 p.1 slots.1)
portless-plan f (Loop count slot body) b p slots = (slots.0, portless-plan f body b.2 p slots.1)
portless-plan f (Scan count slot guard test found none) b p slots =
    (slots.0, portless-plan f guard b.2 p.0 slots.1, portless-plan f found b.3 p.1 slots.2, portless-plan f none b.4 p.2 slots.3)

-- all of RAM, and no port
abbrev all_ram : Footprint
all_ram = record { region = λ o. true; takes = false; sends = false }

slots-somewhere : (tree : Plan) → SlotsIn all_ram tree
slots-somewhere (Line instrs) = tt
slots-somewhere (Seq first second) = (slots-somewhere first, slots-somewhere second)
slots-somewhere (If test then_part else_part) = (slots-somewhere then_part, slots-somewhere else_part)
slots-somewhere (Loop count slot body) = (λ o f b. refl, slots-somewhere body)
slots-somewhere (Scan count slot guard test found none) = (λ o f b. refl, slots-somewhere guard, slots-somewhere found, slots-somewhere none)

-- they are silent
pub silent-plan : (tree : Plan) → IsBlock tree → IsPortlessPlan tree → IsSilent tree
silent-plan tree b p = touches-silent all_ram refl refl tree (portless-plan all_ram tree b p (slots-somewhere tree))
