-- Where a block that is entered at its top comes out: behind its last word, in a valid hart.
use Rattle.std.proofs.Common.{◌≡◌, ℕ, zero, suc, ◌+◌, ◌*◌, ◌%◌, ◌^◌, ◌<◌, ◌≤◌, List, [], ◌∷◌, length, refl, sym, ap, ◌∙◌, subst, inl, inr, arith}
use Rattle.rv_isa.specs.declared.instr.Instr.{Instr}
use Rattle.rv_machine.specs.Code.{Stands}
use Rattle.rv_machine.specs.Hart.{AreBytes}
use Rattle.rv_machine.specs.Memory.{stored}
use Rattle.rv_machine.specs.Run.{offered}
use Rattle.rv_machine.proofs.Valid.{AreBytes-stored}
use Rattle.block_code.specs.Block.{IsBlock, IsSlot}
use Rattle.block_code.specs.Effect.{Does, Holds, LineDoes, Own, Passes, Searches, moment_done, moved}
use Rattle.block_code.specs.Leads.{IsEntered}
use Rattle.block_code.specs.Moment.{IsValidMoment, Moment}
use Rattle.block_code.specs.Place.{IsMachine}
use Rattle.block_code.specs.Plan.{If, IsLine, Line, Loop, Plan, Scan, Seq, code, len}
use Rattle.block_code.proofs.Forms.{block-end}
use Rattle.block_code.proofs.Keeps.{own-valid}
use Rattle.block_code.proofs.Line.{on-step, stands-end}
use Rattle.block_code.proofs.Parts.{lines-keep-valid}
use Rattle.block_code.proofs.Place.{if-stands, loop-stands, scan-stands, stands-block}

-- a valid hart at another place
pub moved-valid : (size at : ℕ) (s : Moment) → at < 2 ^ 32 → IsValidMoment size s → IsValidMoment size (moved at s)
moved-valid size at s low v = record { hart = record { pc = low; regs = v.hart.regs; ram = v.hart.ram } }

-- the bytes of RAM with a word at a slot
pub slot-bytes : (size slot x : ℕ) (ram : List ℕ) → size % 4 ≡ 0 → IsSlot slot → slot < size → AreBytes size ram → AreBytes size (stored 4 slot x ram)
slot-bytes size slot x ram multiple is_slot inside bytes = let a = is_slot.aligned in AreBytes-stored size 4 slot x ram (omega arith) bytes

module _ (rom : List ℕ) (size : ℕ) (machine : IsMachine rom size) where
  -- where a block with words lies
  pub block-place : (tree : Plan) (address : ℕ) → Stands rom address (code tree) → 0 < len tree → (address % 4 ≡ 0) × (address + 4 * len tree ≤ 2 ^ 20)
  block-place tree address stands some =
      block-end rom size machine (λ s. Unit {0}) (record { still = λ s e a. tt; stopped = λ s e. tt }) tree address stands some

  line-ends-behind : (is : List Instr) (address : ℕ) (s s' : Moment) → Stands rom address is → IsLine is → address ≤ s.hart.pc → s.hart.pc ≤ address + 4 * length is
      → s.hart.pc % 4 ≡ 0 → LineDoes rom address is s s' → s'.hart.pc ≡ address + 4 * length is
  line-ends-behind [] address s s' stands line from to aligned d = ap (λ m. m.hart.pc) d ∙ omega arith
  line-ends-behind (i ∷ is) address s s' stands line from to aligned (inl d) =
      let place = stands-end rom address i is stands in let small = machine.rom_small in let here = d.0 in
      let on = on-step s.hart (suc (length is)) aligned (omega arith) (omega (arith, place)) rom (offered s.readings) i line.0 d.1 in
      line-ends-behind is (address + 4) (moment_done rom i s) s' stands.1 line.1 (omega (arith, on)) (omega (arith, on)) on.2 d.2 ∙ omega arith
  line-ends-behind (i ∷ is) address s s' stands line from to aligned (inr d) =
      let place = stands-end rom address i is stands in let away = d.0 in
      line-ends-behind is (address + 4) s s' stands.1 line.1 (omega (arith, place)) (omega arith) aligned d.1 ∙ omega arith

  abbrev Behind : ℕ → Plan → Type 0
  Behind address tree = (s s' : Moment) → IsValidMoment size s → s.hart.pc ≡ address → Does rom address tree s s' → IsValidMoment size s' × (s'.hart.pc ≡ address + 4 * len tree)

  -- what a block's own code comes to is valid
  pub own-kept : (address : ℕ) (s s' : Moment) → IsValidMoment size s → Own address s.hart.ram s s' → IsValidMoment size s'
  own-kept address s s' valid own = own-valid size address s.hart.ram s s' valid valid.hart.ram own

  pub own-stored : (address slot x : ℕ) (s s' : Moment) → IsSlot slot → slot < size → IsValidMoment size s → Own address (stored 4 slot x s.hart.ram) s s' → IsValidMoment size s'
  own-stored address slot x s s' is_slot inside valid own =
      own-valid size address (stored 4 slot x s.hart.ram) s s' valid (slot-bytes size slot x s.hart.ram machine.ram_aligned is_slot inside valid.hart.ram) own

  passes-behind : (body : Plan) (head at end slot : ℕ) → IsSlot slot → slot < size → Behind at body → (more c : ℕ) (s s' : Moment) → IsValidMoment size s
      → Passes (Does rom at body) head at end slot more c s s' → IsValidMoment size s' × (s'.hart.pc ≡ end)
  passes-behind body head at end slot is_slot inside behind zero c s s' valid own = (own-kept end s s' valid own, own.pc)
  passes-behind body head at end slot is_slot inside behind (suc more) c s s' valid (mid, pass, rest) =
      let begun = own-kept at s pass.begun valid pass.enters in
      let ended = behind pass.begun pass.ended begun pass.enters.pc pass.does in
      passes-behind body head at end slot is_slot inside behind more (c + 1) mid s' (own-stored head slot (c + 1) pass.ended mid is_slot inside ended.0 pass.raises) rest

  searches-behind : (guard found none : Plan) (head at found_at none_at slot test : ℕ) → IsSlot slot → slot < size → none_at + 4 * len none < 2 ^ 32 → found_at < 2 ^ 32
      → Behind at guard → Behind found_at found → Behind none_at none → (more c : ℕ) (s s' : Moment) → IsValidMoment size s
      → Searches (Does rom at guard) (Does rom found_at found) (Does rom none_at none) head at found_at none_at (none_at + 4 * len none) slot test more c s s'
      → IsValidMoment size s' × (s'.hart.pc ≡ none_at + 4 * len none)
  searches-behind guard found none head at found_at none_at slot test is_slot inside low low_found judges finds lacks zero c s s' valid (begun, own, does) =
      lacks begun s' (own-kept none_at s begun valid own) own.pc does
  searches-behind guard found none head at found_at none_at slot test is_slot inside low low_found judges finds lacks (suc more) c s s' valid
      (begun, judged, own, counter, does, inl (set, kept, (ended, goes, is))) =
      let b = own-kept at s begun valid own in
      let j = judges begun judged b own.pc does in
      let e = finds (moved found_at judged) ended (moved-valid size found_at judged low_found j.0) refl goes in
      (subst (IsValidMoment size) (sym is) (moved-valid size (none_at + 4 * len none) ended low e.0), ap (λ m. m.hart.pc) is)
  searches-behind guard found none head at found_at none_at slot test is_slot inside low low_found judges finds lacks (suc more) c s s' valid
      (begun, judged, own, counter, does, inr (clear, (mid, raised, rest))) =
      let b = own-kept at s begun valid own in
      let j = judges begun judged b own.pc does in
      searches-behind guard found none head at found_at none_at slot test is_slot inside low low_found judges finds lacks more (c + 1) mid s'
      (own-stored head slot (c + 1) judged mid is_slot inside j.0 raised) rest

  behind : (tree : Plan) → IsBlock tree → Holds size tree → (address : ℕ) → Stands rom address (code tree) → Behind address tree
  behind (Line []) line h address stands s s' valid here d = (subst (IsValidMoment size) (sym d) valid, ap (λ m. m.hart.pc) d ∙ here ∙ omega arith)
  behind (Line (i ∷ is)) line h address stands s s' valid here d =
      let place = stands-end rom address i is stands in (
        lines-keep-valid rom size address (i ∷ is) s s' machine stands valid d,
        line-ends-behind (i ∷ is) address s s' stands line (omega arith) (omega arith) (omega (arith, place)) d,
      )
  behind (Seq first second) b h address stands s s' valid here (mid, d, e) =
      let parts = stands-block rom address first (code second) stands in
      let f = behind first b.0 h.0 address parts.0 s mid valid here d in
      let g = behind second b.1 h.1 (address + 4 * len first) parts.1 mid s' f.0 f.1 e in (g.0, g.1 ∙ omega arith)
  behind (If test then_part else_part) b h address stands s s' valid here (inl (set, (ended, d, is))) =
      let placed = if-stands rom address test then_part else_part stands in
      let place = block-place (If test then_part else_part) address stands (omega arith) in
      let e = behind then_part b.0 h.0 (address + 8) placed.then_at (moved (address + 8) s) ended (moved-valid size (address + 8) s (omega (arith, place.1)) valid) refl d in
      let end = address + 12 + 4 * len then_part + 4 * len else_part in
      (subst (IsValidMoment size) (sym is) (moved-valid size end ended (omega (arith, place.1)) e.0), ap (λ m. m.hart.pc) is ∙ omega arith)
  behind (If test then_part else_part) b h address stands s s' valid here (inr (clear, d)) =
      let placed = if-stands rom address test then_part else_part stands in
      let place = block-place (If test then_part else_part) address stands (omega arith) in
      let else_at = address + 12 + 4 * len then_part in
      let e = behind else_part b.1 h.1 else_at placed.else_at (moved else_at s) s' (moved-valid size else_at s (omega (arith, place.1)) valid) refl d in (e.0, e.1 ∙ omega arith)
  behind (Loop count slot body) b h address stands s s' valid here (head, own, passes) =
      let placed = loop-stands rom address count slot body stands in
      let e = passes-behind body (address + 8) (address + 32) (address + 52 + 4 * len body) slot b.1 h.0 (behind body b.2 h.1 (address + 32) placed.body_at) count 0 head s'
      (own-stored (address + 8) slot 0 s head b.1 h.0 valid own) passes in (e.0, e.1 ∙ omega arith)
  behind (Scan count slot guard test found none) b h address stands s s' valid here (head, own, searches) =
      let placed = scan-stands rom address count slot guard test found none stands in
      let place = block-place (Scan count slot guard test found none) address stands (omega arith) in
      let found_at = address + 56 + 4 * len guard in
      let none_at = found_at + 4 * len found + 4 in
      let e = searches-behind guard found none (address + 8) (address + 32) found_at none_at slot test b.1 h.0 (omega (arith, place.1)) (omega (arith, place.1))
      (behind guard b.2 h.1 (address + 32) placed.guard_at) (behind found b.3 h.2 found_at placed.found_at) (behind none b.4 h.3 none_at placed.none_at) count 0 head s'
      (own-stored (address + 8) slot 0 s head b.1 h.0 valid own) searches in (e.0, e.1 ∙ omega arith)

-- a block that is entered comes out behind its last word, in a valid hart
pub comes-out : {rom : List ℕ} {size address : ℕ} {tree : Plan} {s s' : Moment} → IsEntered rom size address tree s → Does rom address tree s s'
    → IsValidMoment size s' × (s'.hart.pc ≡ address + 4 * len tree)
comes-out {rom = rom} {size = size} {address = address} {tree = tree} {s = s} {s' = s'} e d = behind rom size e.machine tree e.block e.holds address e.stands s s' e.valid e.here d
