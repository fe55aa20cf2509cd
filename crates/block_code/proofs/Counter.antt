-- The code that a loop and a scan have of their own.
use Rattle.std.proofs.Common.{◌≡◌, ◌≢◌, ℕ, zero, suc, ◌+◌, ◌-◌, ◌*◌, ◌%◌, ◌^◌, ◌<◌, ◌≤◌, ℤ, pos, negsuc, List, length, Some, Bool, true, false, cond, refl, sym, ap, ◌∙◌, subst, ⊎_elim, arith, get_or-set_other, get_or-set_same}
use Rattle.std.proofs.lemmas.Bool.{cases_lt}
use Rattle.std.proofs.lemmas.Bool.Decides.{nat_tests}
use Rattle.std.specs.Prelude.{nat_lt}
use Rattle.rv_isa.specs.declared.instr.Instr.{Instr}
use Rattle.rv_isa.specs.declared.instr.Instr.TheVariants.{Addi, Lui, Lw, Sw}
use Rattle.rv_machine.specs.Code.{Stands, step}
use Rattle.rv_machine.specs.Hart.{with_reg}
use Rattle.rv_machine.specs.Memory.{stored}
use Rattle.rv_machine.specs.Run.{offered}
use Rattle.rv_machine.specs.Tick.{Quiet, Ticks, fetched, load, store, trap}
use Rattle.trap_model.specs.Map.{load_at, ram_base, store_at}
use Rattle.trap_model.specs.declared.map.Loads.{Loads}
use Rattle.trap_model.specs.declared.map.Stores.{Stores}
use Rattle.block_code.specs.Access.{NoAccess, access_of, by_load, by_store}
use Rattle.block_code.specs.Block.{IsCount, IsSlot}
use Rattle.block_code.specs.During.{Allows, During, IsQuiet}
use Rattle.block_code.specs.Effect.{Own, moved, reg_at, saved, written}
use Rattle.block_code.specs.Ends.{Ends}
use Rattle.block_code.specs.Moment.{IsValidMoment, Moment, is_trap}
use Rattle.block_code.specs.Place.{IsMachine, Within, word_in}
use Rattle.block_code.specs.Plan.{backward, compared, forward, raised, reset, skip_below}
use Rattle.block_code.specs.Sequence.{high_part, low_part, other_scratch, scratch}
use Rattle.block_code.proofs.Ends.{ends-more}
use Rattle.block_code.proofs.Forms.{branches, jumps, plus-backward, plus-forward, step-still}
use Rattle.block_code.proofs.Machine.{computed, displaced, load_at-past, load_at-ram, store_at-past, store_at-ram}
use Rattle.block_code.proofs.Steps.{fetched-place, next-at, step-on, step-stop, traps-at}
use Rattle.trap_model.specs.declared.width.Width.TheVariants.{Word}
use Rattle.block_code.proofs.Machine.{access-addi, access-fetched, access-lui, access-lw, access-skip_below, access-sw, does-addi, does-skip_below, does-lui, does-lw, does-store, word-is, takes}

-- a word is the sum of its parts
pub split : (x : ℕ) → x < 2 ^ 32 → displaced (high_part x * 2 ^ 12 % 2 ^ 32) (low_part x) ≡ x
split x h = cases (nat_lt (x % 4096) 2048) refl
  where
    cases : (b : Bool) → nat_lt (x % 4096) 2048 ≡ b → displaced (high_part x * 2 ^ 12 % 2 ^ 32) (cond b (pos (x % 4096)) (negsuc (4095 - x % 4096))) ≡ x
    cases true e = let k : x % 4096 < 2048 = grind (arith, nat_tests) in omega arith
    cases false e = let k : 2048 ≤ x % 4096 = grind (arith, nat_tests) in omega arith

pub reg-same : (size past r x : ℕ) (s : Moment) → IsValidMoment size s → suc r < 32 → reg_at (suc r) (written past (suc r) x s) ≡ x
reg-same size past r x s v h =
    let count = v.hart.regs.count in
    let inside : suc r < length s.hart.regs = omega arith in rw get_or-set_same

pub reg-other : (past rd r x : ℕ) (s : Moment) → r ≢ rd → reg_at r (written past rd x s) ≡ reg_at r s
reg-other past zero r x s h = refl
reg-other past (suc rd) r x s h = get_or-set_other s.hart.regs (suc rd) r x 0 h

module _ (rom : List ℕ) (size : ℕ) (machine : IsMachine rom size) (Q : Moment → Type 0) (quiet : IsQuiet rom Q) where
  pub computes : {from to : ℕ} {G C : Moment → Type 0} {n : ℕ} (s : Moment) (i : Instr) (rd x past : ℕ) → fetched rom s.hart.pc ≡ Some i
      → step rom (offered s.readings) i s.hart ≡ computed s.hart rd x → access_of rom i s ≡ NoAccess → s.hart.pc + 4 ≡ past → past < 2 ^ 32 → Within from to s → IsValidMoment size s
      → (IsValidMoment size (written past rd x s) → Ends rom (During Q from to) G C n (written past rd x s)) → Ends rom (During Q from to) G C (suc n) s
  computes s i rd x past f e none to low inside valid rest =
      let next_pc : (s.hart.pc + 4) % 2 ^ 32 ≡ past = omega arith in
      step-still rom size machine Q quiet s i (record { hart = record { pc = past; regs = with_reg rd x s.hart.regs; ram = s.hart.ram }; event = Quiet }) f
      (e ∙ ap (λ p. record { hart = record { pc = p; regs = with_reg rd x s.hart.regs; ram = s.hart.ram }; event = Quiet }) next_pc) refl refl none inside valid rest

  module _ (slot : ℕ) (is_slot : IsSlot slot) (allowed : Allows rom size Q slot) where
    -- a load of the word at the slot, which traps where RAM doesn't hold it
    pub loads-word : {from to : ℕ} {G C : Moment → Type 0} {n : ℕ} (s : Moment) (rd rs1 : ℕ) (imm : ℤ) (past : ℕ) → fetched rom s.hart.pc ≡ Some (Lw rd rs1 imm)
        → displaced (reg_at rs1 s) imm ≡ ram_base + slot → s.hart.pc + 4 ≡ past → past < 2 ^ 32 → Within from to s → IsValidMoment size s
        → (slot < size → IsValidMoment size (written past rd (word_in slot s.hart.ram) s) → Ends rom (During Q from to) G C n (written past rd (word_in slot s.hart.ram) s))
        → (size ≤ slot → C s) → Ends rom (During Q from to) G C (suc n) s
    loads-word s rd rs1 imm past f e to low inside valid rest none =
        ⊎_elim
        (λ h. computes s (Lw rd rs1 imm) rd (word_in slot s.hart.ram) past f
        (does-lw rom (offered s.readings) s.hart rd rs1 imm ∙ ap by (from_address ∙ load_at-ram Word size slot (4 * length rom) machine.rom_small h is_slot.aligned) ∙ ap (computed s.hart rd) (word-is slot s.hart.ram))
        (access-lw rom rd rs1 imm s ∙ ap by_load (from_address ∙ load_at-ram Word size slot (4 * length rom) machine.rom_small h is_slot.aligned)) to low inside valid (rest h))
        (λ h.
        let stops = does-lw rom (offered s.readings) s.hart rd rs1 imm ∙ ap by (from_address ∙ load_at-past (4 * length rom) size slot machine.rom_small h is_slot.low) in
        step-stop rom size machine s (Lw rd rs1 imm) (trap s.hart) f stops refl
        (inside, quiet.stopped s (traps-at rom s (Lw rd rs1 imm) f ∙ ap (λ x. is_trap x.event) stops)) (none h))
        (cases_lt slot size)
      where
        by : Loads → Ticks
        by = λ l. load rom (offered s.readings) rd Word true s.hart l

        from_address : load_at (4 * length rom) (length s.hart.ram) (displaced (reg_at rs1 s) imm) 4 ≡ load_at (4 * length rom) size (ram_base + slot) 4
        from_address = ap (λ n. load_at (4 * length rom) n (displaced (reg_at rs1 s) imm) 4) valid.hart.ram.count ∙ ap (λ a. load_at (4 * length rom) size a 4) e

    pub stores-word : {from to : ℕ} {G C : Moment → Type 0} {n : ℕ} (s : Moment) (rs1 rs2 : ℕ) (imm : ℤ) (past : ℕ) → fetched rom s.hart.pc ≡ Some (Sw rs1 rs2 imm)
        → displaced (reg_at rs1 s) imm ≡ ram_base + slot → s.hart.pc + 4 ≡ past → past < 2 ^ 32 → Within from to s → IsValidMoment size s
        → (slot < size → IsValidMoment size (saved past 4 slot (reg_at rs2 s) s) → Ends rom (During Q from to) G C n (saved past 4 slot (reg_at rs2 s) s))
        → (size ≤ slot → C s) → Ends rom (During Q from to) G C (suc n) s
    stores-word s rs1 rs2 imm past f e to low inside valid rest none =
        ⊎_elim
        (λ h.
        let next_pc : (s.hart.pc + 4) % 2 ^ 32 ≡ past = omega arith in
        let t : Ticks = record { hart = record { pc = past; regs = s.hart.regs; ram = stored 4 slot (reg_at rs2 s) s.hart.ram }; event = Quiet } in
        let does : step rom (offered s.readings) (Sw rs1 rs2 imm) s.hart ≡ t =
        does-store rom (offered s.readings) s.hart Word rs1 rs2 imm ∙ ap by (from_address ∙ store_at-ram Word size slot h is_slot.aligned)
        ∙ ap (λ p. record { hart = record { pc = p; regs = s.hart.regs; ram = stored 4 slot (reg_at rs2 s) s.hart.ram }; event = Quiet }) next_pc in
        step-on rom size machine s (Sw rs1 rs2 imm) t f does refl (
          inside,
          allowed s (reg_at rs2 s) h valid (ap (λ x. x.hart.ram) (next-at rom s (Sw rs1 rs2 imm) f) ∙ ap (λ x. x.hart.ram) does)
              (access-fetched rom s (Sw rs1 rs2 imm) f ∙ access-sw rom rs1 rs2 imm s ∙ ap (by_store 4) (from_address ∙ store_at-ram Word size slot h is_slot.aligned)),
        ) valid (rest h))
        (λ h.
        let stops = does-store rom (offered s.readings) s.hart Word rs1 rs2 imm ∙ ap by (from_address ∙ store_at-past Word size slot h is_slot.low) in
        step-stop rom size machine s (Sw rs1 rs2 imm) (trap s.hart) f stops refl
        (inside, quiet.stopped s (traps-at rom s (Sw rs1 rs2 imm) f ∙ ap (λ x. is_trap x.event) stops)) (none h))
        (cases_lt slot size)
      where
        by : Stores → Ticks
        by = λ l. store s.hart 4 (reg_at rs2 s) l

        from_address : store_at (length s.hart.ram) (displaced (reg_at rs1 s) imm) 4 ≡ store_at size (ram_base + slot) 4
        from_address = ap (λ n. store_at n (displaced (reg_at rs1 s) imm) 4) valid.hart.ram.count ∙ ap (λ a. store_at size a 4) e

    low : ram_base + slot < 2 ^ 32
    low = let l = is_slot.low in omega arith

    whole : displaced (high_part (ram_base + slot) * 2 ^ 12 % 2 ^ 32) (low_part (ram_base + slot)) ≡ ram_base + slot
    whole = split (ram_base + slot) low

    -- from the top, the counter becomes 0
    pub reset-then : {G C : Moment → Type 0} {n : ℕ} (from to address : ℕ) (s : Moment) → Stands rom address (reset slot) → from ≤ address → address + 8 ≤ to
        → s.hart.pc ≡ address → IsValidMoment size s
        → (slot < size → (s' : Moment) → IsValidMoment size s' → Own (address + 8) (stored 4 slot 0 s.hart.ram) s s' → Ends rom (During Q from to) G C n s')
        → (size ≤ slot → (s' : Moment) → C s') → Ends rom (During Q from to) G C (2 + n) s
    reset-then {n = n} from to address s stands first last at valid rest none =
        let place = fetched-place rom (address + 4) _ stands.1.0 in
        let small = machine.rom_small in
        let v = high_part (ram_base + slot) * 2 ^ 12 % 2 ^ 32 in
        let s1 = written (address + 4) scratch v s in
        ends-more rom (2 + n) (omega arith)
        (computes {n = suc n} s (Lui scratch (high_part (ram_base + slot))) scratch v (address + 4) (subst (λ a. fetched rom a ≡ Some (Lui scratch (high_part (ram_base + slot)))) (sym at) stands.0)
        (does-lui rom (offered s.readings) s.hart scratch (high_part (ram_base + slot))) (access-lui rom scratch (high_part (ram_base + slot)) s) (omega arith) (omega (arith, place.1)) (record { from = omega arith; below = omega arith }) valid (λ v1.
        stores-word {n = n} s1 scratch _ (low_part (ram_base + slot)) (address + 8) stands.1.0
        (ap (λ x. displaced x (low_part (ram_base + slot))) (reg-same size (address + 4) 20 v s valid (omega arith)) ∙ whole)
        (omega arith) (omega (arith, place.1)) (record { from = omega arith; below = omega arith }) v1
        (λ h v2. rest h _ v2 (record {
          pc = refl;
          regs = λ r a b. reg-other (address + 4) scratch r v s a;
          ram = ap (λ x. stored 4 slot x s.hart.ram) v1.hart.regs.zero_reg;
          readings = refl;
          log = refl;
          low = v2.hart.pc;
          fit = v2.hart.regs;
        }))
        (λ h. none h s1)))

    -- from the head, on into the body where the counter is below the count, else out
    pub compare-then : {G C : Moment → Type 0} {n : ℕ} (from to head count words out : ℕ) (s : Moment) → IsCount count → Stands rom head (compared count slot)
        → fetched rom (head + 16) ≡ Some skip_below → fetched rom (head + 20) ≡ Some (forward words)
        → out ≡ head + 20 + 4 * words → out ≤ 2 ^ 20 → from ≤ head → head + 24 ≤ to → s.hart.pc ≡ head → IsValidMoment size s
        → (slot < size → word_in slot s.hart.ram < count → (s' : Moment) → IsValidMoment size s' → Own (head + 24) s.hart.ram s s' → Ends rom (During Q from to) G C n s')
        → (slot < size → count ≤ word_in slot s.hart.ram → (s' : Moment) → IsValidMoment size s' → Own out s.hart.ram s s' → Ends rom (During Q from to) G C n s')
        → (size ≤ slot → (s' : Moment) → C s') → Ends rom (During Q from to) G C (6 + n) s
    compare-then {n = n} from to head count words out s is_count stands test_at out_at out_is out_low first last at valid on off none =
        let place = fetched-place rom (head + 20) _ out_at in
        let small = machine.rom_small in
        let few = is_count.few in
        let v = high_part (ram_base + slot) * 2 ^ 12 % 2 ^ 32 in
        let c = word_in slot s.hart.ram in
        let k = high_part count * 2 ^ 12 % 2 ^ 32 in
        let s1 = written (head + 4) scratch v s in
        let s2 = written (head + 8) scratch c s1 in
        let s3 = written (head + 12) other_scratch k s2 in
        let x = displaced (reg_at other_scratch s3) (low_part count) in
        let s4 = written (head + 16) other_scratch x s3 in
        ends-more rom (6 + n) (omega arith)
        (computes {n = 5 + n} s (Lui scratch (high_part (ram_base + slot))) scratch v (head + 4) (subst (λ a. fetched rom a ≡ Some (Lui scratch (high_part (ram_base + slot)))) (sym at) stands.0)
        (does-lui rom (offered s.readings) s.hart scratch (high_part (ram_base + slot))) (access-lui rom scratch (high_part (ram_base + slot)) s) (omega arith) (omega (arith, place.1)) (record { from = omega arith; below = omega arith }) valid (λ v1.
        ends-more rom (5 + n) (omega arith)
        (loads-word {n = 4 + n} s1 scratch scratch (low_part (ram_base + slot)) (head + 8) stands.1.0
        (ap (λ y. displaced y (low_part (ram_base + slot))) (reg-same size (head + 4) 20 v s valid (omega arith)) ∙ whole)
        (omega arith) (omega (arith, place.1)) (record { from = omega arith; below = omega arith }) v1 (λ h v2.
        ends-more rom (4 + n) (omega arith)
        (computes {n = 3 + n} s2 (Lui other_scratch (high_part count)) other_scratch k (head + 12)
        (subst (λ a. fetched rom a ≡ Some (Lui other_scratch (high_part count))) (omega arith) stands.1.1.0)
        (does-lui rom (offered s2.readings) s2.hart other_scratch (high_part count)) (access-lui rom other_scratch (high_part count) s2) (omega arith) (omega (arith, place.1)) (record { from = omega arith; below = omega arith }) v2 (λ v3.
        ends-more rom (3 + n) (omega arith)
        (computes {n = 2 + n} s3 (Addi other_scratch other_scratch (low_part count)) other_scratch x (head + 16)
        (subst (λ a. fetched rom a ≡ Some (Addi other_scratch other_scratch (low_part count))) (omega arith) stands.1.1.1.0)
        (does-addi rom (offered s3.readings) s3.hart other_scratch other_scratch (low_part count)) (access-addi rom other_scratch other_scratch (low_part count) s3) (omega arith) (omega (arith, place.1)) (record { from = omega arith; below = omega arith }) v3 (λ v4.
        let counter : reg_at scratch s4 ≡ c =
        reg-other (head + 16) other_scratch scratch x s3 (omega arith) ∙ reg-other (head + 12) other_scratch scratch k s2 (omega arith) ∙ reg-same size (head + 8) 20 c s1 v1 (omega arith) in
        let limit : reg_at other_scratch s4 ≡ count =
        reg-same size (head + 16) 21 x s3 v3 (omega arith) ∙ ap (λ y. displaced y (low_part count)) (reg-same size (head + 12) 21 k s2 v2 (omega arith)) ∙ split count (omega arith) in
        let others : (r : ℕ) → r ≢ scratch → r ≢ other_scratch → reg_at r s4 ≡ reg_at r s =
        λ r a b. reg-other (head + 16) other_scratch r x s3 b ∙ reg-other (head + 12) other_scratch r k s2 b ∙ reg-other (head + 8) scratch r c s1 a ∙ reg-other (head + 4) scratch r v s a in
        ends-more rom (2 + n) (omega arith)
        (branches rom size machine Q quiet {n = 1 + n} s4 skip_below (takes skip_below s4.hart) 8 (head + 24) (head + 20) test_at
        (does-skip_below rom (offered s4.readings) s4.hart) (access-skip_below rom s4) (omega arith) (omega arith) (omega (arith, place)) (omega arith) (omega (arith, place)) (record { from = omega arith; below = omega arith }) v4
        (λ taken w.
        let less : reg_at scratch s4 < reg_at other_scratch s4 = grind (arith, nat_tests) in
        ends-more rom (1 + n) (omega arith)
        (on h (omega arith) (moved (head + 24) s4) w (record { pc = refl; regs = others; ram = refl; readings = refl; log = refl; low = w.hart.pc; fit = w.hart.regs })))
        (λ passed w.
        let more : reg_at other_scratch s4 ≤ reg_at scratch s4 = grind (arith, nat_tests) in
        ends-more rom (1 + n) (omega arith)
        (jumps rom size machine Q quiet {n = n} (moved (head + 20) s4) (pos (4 * words)) out out_at
        (plus-forward (head + 20) (4 * words) (omega arith) ∙ sym out_is) (omega (arith, place)) (record { from = omega arith; below = omega arith }) w
        (λ z. off h (omega arith) (moved out s4) z (record { pc = refl; regs = others; ram = refl; readings = refl; log = refl; low = z.hart.pc; fit = z.hart.regs }))))))))))
        (λ h. none h s1))))

    -- behind the body, the counter becomes one more, and back to the head
    pub raise-then : {G C : Moment → Type 0} {n : ℕ} (from to address head words : ℕ) (s : Moment) → Stands rom address (raised slot)
        → fetched rom (address + 16) ≡ Some (backward words) → address + 16 ≡ head + 4 * words → from ≤ address → address + 20 ≤ to → s.hart.pc ≡ address → IsValidMoment size s
        → (slot < size → (s' : Moment) → IsValidMoment size s' → Own head (stored 4 slot ((word_in slot s.hart.ram + 1) % 2 ^ 32) s.hart.ram) s s' → Ends rom (During Q from to) G C n s')
        → (size ≤ slot → (s' : Moment) → C s') → Ends rom (During Q from to) G C (5 + n) s
    raise-then {n = n} from to address head words s stands back_at back_is first last at valid rest none =
        let place = fetched-place rom (address + 16) _ back_at in
        let small = machine.rom_small in
        let v = high_part (ram_base + slot) * 2 ^ 12 % 2 ^ 32 in
        let c = word_in slot s.hart.ram in
        let s1 = written (address + 4) other_scratch v s in
        let s2 = written (address + 8) scratch c s1 in
        let x = displaced (reg_at scratch s2) (pos 1) in
        let s3 = written (address + 12) scratch x s2 in
        let s4 = saved (address + 16) 4 slot (reg_at scratch s3) s3 in
        ends-more rom (5 + n) (omega arith)
        (computes {n = 4 + n} s (Lui other_scratch (high_part (ram_base + slot))) other_scratch v (address + 4)
        (subst (λ a. fetched rom a ≡ Some (Lui other_scratch (high_part (ram_base + slot)))) (sym at) stands.0)
        (does-lui rom (offered s.readings) s.hart other_scratch (high_part (ram_base + slot))) (access-lui rom other_scratch (high_part (ram_base + slot)) s) (omega arith) (omega (arith, place.1)) (record { from = omega arith; below = omega arith }) valid (λ v1.
        ends-more rom (4 + n) (omega arith)
        (loads-word {n = 3 + n} s1 scratch other_scratch (low_part (ram_base + slot)) (address + 8) stands.1.0
        (ap (λ y. displaced y (low_part (ram_base + slot))) (reg-same size (address + 4) 21 v s valid (omega arith)) ∙ whole)
        (omega arith) (omega (arith, place.1)) (record { from = omega arith; below = omega arith }) v1 (λ h v2.
        ends-more rom (3 + n) (omega arith)
        (computes {n = 2 + n} s2 (Addi scratch scratch (pos 1)) scratch x (address + 12)
        (subst (λ a. fetched rom a ≡ Some (Addi scratch scratch (pos 1))) (omega arith) stands.1.1.0)
        (does-addi rom (offered s2.readings) s2.hart scratch scratch (pos 1)) (access-addi rom scratch scratch (pos 1) s2) (omega arith) (omega (arith, place.1)) (record { from = omega arith; below = omega arith }) v2 (λ v3.
        let base : reg_at other_scratch s3 ≡ v =
        reg-other (address + 12) scratch other_scratch x s2 (omega arith) ∙ reg-other (address + 8) scratch other_scratch c s1 (omega arith) ∙ reg-same size (address + 4) 21 v s valid (omega arith) in
        let sum : reg_at scratch s3 ≡ (c + 1) % 2 ^ 32 =
        reg-same size (address + 12) 20 x s2 v2 (omega arith) ∙ ap (λ y. displaced y (pos 1)) (reg-same size (address + 8) 20 c s1 v1 (omega arith)) in
        let others : (r : ℕ) → r ≢ scratch → r ≢ other_scratch → reg_at r s3 ≡ reg_at r s =
        λ r a b. reg-other (address + 12) scratch r x s2 a ∙ reg-other (address + 8) scratch r c s1 a ∙ reg-other (address + 4) other_scratch r v s b in
        ends-more rom (2 + n) (omega arith)
        (stores-word {n = 1 + n} s3 other_scratch scratch (low_part (ram_base + slot)) (address + 16)
        (subst (λ a. fetched rom a ≡ Some (Sw other_scratch scratch (low_part (ram_base + slot)))) (omega arith) stands.1.1.1.0)
        (ap (λ y. displaced y (low_part (ram_base + slot))) base ∙ whole)
        (omega arith) (omega (arith, place.1)) (record { from = omega arith; below = omega arith }) v3 (λ h' v4.
        ends-more rom (1 + n) (omega arith)
        (jumps rom size machine Q quiet {n = n} s4 _ head back_at
        (plus-backward (address + 16) (4 * words) (omega arith) (omega (arith, place.1)) ∙ omega arith) (omega (arith, place)) (record { from = omega arith; below = omega arith }) v4
        (λ z. rest h (moved head s4) z (record { pc = refl; regs = others; ram = ap (λ y. stored 4 slot y s.hart.ram) sum; readings = refl; log = refl; low = z.hart.pc; fit = z.hart.regs }))))
        (λ h'. none h' s3)))))
        (λ h. none h s1))))
