-- What the small sequences do.
use Rattle.std.proofs.Common.{◌≡◌, ℕ, zero, suc, ◌+◌, ◌*◌, ◌%◌, ◌^◌, ◌<◌, List, [], ◌∷◌, length, refl, sym, ap, ◌∙◌, subst, inl, arith, set-set}
use Rattle.rv_isa.specs.declared.instr.Instr.{Instr}
use Rattle.rv_isa.specs.declared.instr.Instr.TheVariants.{Addi, Lui}
use Rattle.rv_machine.specs.Code.{step}
use Rattle.rv_machine.specs.Hart.{with_reg}
use Rattle.rv_machine.specs.Memory.{number_at}
use Rattle.rv_machine.specs.Run.{offered}
use Rattle.rv_machine.specs.Tick.{Quiet, onward, store}
use Rattle.trap_model.specs.Map.{load_at, ram_base, store_at}
use Rattle.trap_model.specs.Width.{bytes_of}
use Rattle.block_code.specs.Effect.{LineDoes, reg_at, saved, written}
use Rattle.block_code.specs.Moment.{IsValidMoment, Moment, is_trap, moment_by}
use Rattle.block_code.specs.Sequence.{high_part, load_by, low_part, scratch, store_by}
use Rattle.block_code.specs.SequenceLaw.{FixedIsLoaded, FixedIsStored, ImmediateIsLoaded}
use Rattle.block_code.proofs.Counter.{reg-other, reg-same, split}
use Rattle.block_code.proofs.Machine.{displaced, does-addi, does-load, does-lui, does-store, load_at-ram, store_at-ram}

-- a register that is written twice holds what was written last
written-twice : (r x y : ℕ) (regs : List ℕ) → with_reg r y (with_reg r x regs) ≡ with_reg r y regs
written-twice zero x y regs = refl
written-twice (suc r) x y regs = set-set regs (suc r) x y

module _ (rom : List ℕ) where
  -- an instruction that goes on to the next word, and then the rest of the line
  leads : (i : Instr) (is : List Instr) (address past : ℕ) (regs ram : List ℕ) (s s' : Moment)
      → step rom (offered s.readings) i s.hart ≡ onward s.hart regs ram Quiet → s.hart.pc ≡ address → address + 4 ≡ past → past < 2 ^ 32
      → LineDoes rom past is (record { hart = record { pc = past; regs = regs; ram = ram }; readings = s.readings; log = s.log }) s'
      → LineDoes rom address (i ∷ is) s s'
  leads i is address past regs ram s s' e here to low rest =
      let pc : (s.hart.pc + 4) % 2 ^ 32 ≡ past = omega arith in
      let does : step rom (offered s.readings) i s.hart ≡ record { hart = record { pc = past; regs = regs; ram = ram }; event = Quiet } =
      e ∙ ap (λ p. record { hart = record { pc = p; regs = regs; ram = ram }; event = Quiet }) pc in
      let after : Moment = record { hart = record { pc = past; regs = regs; ram = ram }; readings = s.readings; log = s.log } in
      inl (
        here,
        ap (λ t. is_trap t.event) does,
        subst (λ m. LineDoes rom (address + 4) is m s') (ap (λ t. moment_by t s) (sym does)) (subst (λ a. LineDoes rom a is after s') (sym to) rest),
      )

  -- the page of an offset in a register, and then the rest of the line
  leads-lui : (r x address past : ℕ) (is : List Instr) (s s' : Moment) → s.hart.pc ≡ address → address + 4 ≡ past → past < 2 ^ 32
      → LineDoes rom past is (written past r (x * 2 ^ 12 % 2 ^ 32) s) s' → LineDoes rom address (Lui r x ∷ is) s s'
  leads-lui r x address past is s s' here to low rest =
      leads (Lui r x) is address past (with_reg r (x * 2 ^ 12 % 2 ^ 32) s.hart.regs) s.hart.ram s s' (does-lui rom (offered s.readings) s.hart r x) here to low rest

-- the high part of an address as `lui` leaves it
abbrev pub page : ℕ → ℕ
page x = high_part x * 2 ^ 12 % 2 ^ 32

module _ (rom : List ℕ) (size address : ℕ) (s : Moment) where
  -- what stands at the displacement from the page of a register is at the whole address
  pub whole : (r x : ℕ) → IsValidMoment size s → suc r < 32 → x < 2 ^ 32 → displaced (reg_at (suc r) (written (address + 4) (suc r) (page x) s)) (low_part x) ≡ x
  whole r x valid h k = ap (λ y. displaced y (low_part x)) (reg-same size (address + 4) r (page x) s valid h) ∙ split x k

pub immediate-loaded : ImmediateIsLoaded
immediate-loaded rom size address register value s top h v =
    let room = top.room in
    leads-lui rom register (high_part value) address (address + 4) (Addi register register (low_part value) ∷ []) s _ top.here refl (omega arith)
    (leads rom (Addi register register (low_part value)) [] (address + 4) (address + 8) _ s.hart.ram s1 _
    (does-addi rom (offered s.readings) s1.hart register register (low_part value)) refl (omega arith) (omega arith)
    (ap (λ l. record { hart = record { pc = address + 8; regs = l; ram = s.hart.ram }; readings = s.readings; log = s.log }) (regs register h)))
  where
    s1 : Moment
    s1 = written (address + 4) register (high_part value * 2 ^ 12 % 2 ^ 32) s

    regs : (register : ℕ) → register < 32
        → with_reg register value s.hart.regs
        ≡ with_reg register (displaced (reg_at register (written (address + 4) register (page value) s)) (low_part value)) (with_reg register (page value) s.hart.regs)
    regs zero h = refl
    regs (suc r) h =
        sym (written-twice (suc r) (page value) value s.hart.regs)
        ∙ ap (λ x. with_reg (suc r) x (with_reg (suc r) (page value) s.hart.regs)) (sym (whole rom size address s r value top.valid h v))

pub fixed-loaded : FixedIsLoaded
fixed-loaded rom size address width zero offset s machine top some h place inside = absurd (omega arith)
fixed-loaded rom size address width (suc r) offset s machine top some h place inside =
    let room = top.room in let low = place.low in
    let there : displaced (reg_at (suc r) s1) (low_part (ram_base + offset)) ≡ ram_base + offset = whole rom size address s r (ram_base + offset) top.valid h (omega arith) in
    leads-lui rom (suc r) (high_part (ram_base + offset)) address (address + 4) (load_by width (suc r) (suc r) (low_part (ram_base + offset)) ∷ []) s _ top.here refl (omega arith)
    (leads rom (load_by width (suc r) (suc r) (low_part (ram_base + offset))) [] (address + 4) (address + 8) _ s.hart.ram s1 _
    (does-load rom (offered s.readings) s1.hart width (suc r) (suc r) (low_part (ram_base + offset)) offset
    (ap (λ n. load_at (4 * length rom) n (displaced (reg_at (suc r) s1) (low_part (ram_base + offset))) (bytes_of width)) top.valid.hart.ram.count
    ∙ ap (λ a. load_at (4 * length rom) size a (bytes_of width)) there ∙ load_at-ram width size offset (4 * length rom) machine.rom_small inside place.aligned))
    refl (omega arith) (omega arith)
    (ap (λ l. record { hart = record { pc = address + 8; regs = l; ram = s.hart.ram }; readings = s.readings; log = s.log })
    (sym (written-twice (suc r) (page (ram_base + offset)) (number_at (bytes_of width) offset s.hart.ram) s.hart.regs))))
  where
    s1 : Moment
    s1 = written (address + 4) (suc r) (high_part (ram_base + offset) * 2 ^ 12 % 2 ^ 32) s

pub fixed-stored : FixedIsStored
fixed-stored rom size address width register offset s machine top apart place inside =
    let room = top.room in let low = place.low in
    let there : displaced (reg_at scratch s1) (low_part (ram_base + offset)) ≡ ram_base + offset = whole rom size address s 20 (ram_base + offset) top.valid (omega arith) (omega arith) in
    let is : high_part (ram_base + offset) * 2 ^ 12 ≡ page (ram_base + offset) = omega arith in
    leads-lui rom scratch (high_part (ram_base + offset)) address (address + 4) (store_by width scratch register (low_part (ram_base + offset)) ∷ []) s _ top.here refl (omega arith)
    (leads rom (store_by width scratch register (low_part (ram_base + offset))) [] (address + 4) (address + 8) s1.hart.regs _ s1 _
    (does-store rom (offered s.readings) s1.hart width scratch register (low_part (ram_base + offset))
    ∙ ap (store s1.hart (bytes_of width) (reg_at register s1))
    (ap (λ n. store_at n (displaced (reg_at scratch s1) (low_part (ram_base + offset))) (bytes_of width)) top.valid.hart.ram.count
    ∙ ap (λ a. store_at size a (bytes_of width)) there ∙ store_at-ram width size offset inside place.aligned))
    refl (omega arith) (omega arith)
    (ap (λ x. saved (address + 8) (bytes_of width) offset (reg_at register s) (written (address + 4) scratch x s)) is
    ∙ ap (λ x. saved (address + 8) (bytes_of width) offset x s1) (sym (reg-other (address + 4) scratch register (page (ram_base + offset)) s apart))))
  where
    s1 : Moment
    s1 = written (address + 4) scratch (high_part (ram_base + offset) * 2 ^ 12 % 2 ^ 32) s
