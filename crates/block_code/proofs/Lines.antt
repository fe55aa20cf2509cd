-- Single instructions of lines: that they do not trap, and the moment to which they lead.
use Rattle.std.proofs.Common.{◌≡◌, ℕ, suc, ◌+◌, ◌-◌, ◌*◌, ◌/◌, ◌%◌, ◌^◌, ◌<◌, ◌≤◌, ℤ, pos, List, [], ◌∷◌, ◌++◌, length, slice_index, true, false, refl, sym, ap, ◌∙◌, subst, inl, inr, ◌⊎◌, ⊎_elim, arith, get_or-drop}
use Rattle.std.proofs.lemmas.Bool.Decides.{nat_tests}
use Rattle.std.specs.Prelude.{◌==◌, ◌&&◌, nat_le, nat_lt, drop}
use Rattle.rv_isa.specs.declared.instr.Instr.{Instr}
use Rattle.rv_isa.specs.declared.instr.Instr.TheVariants.{Beq, Bge, Bgeu, Blt, Bltu, Bne, Lw, Sw}
use Rattle.rv_machine.specs.Code.{step}
use Rattle.rv_machine.specs.Effect.{effect}
use Rattle.rv_machine.specs.Hart.{HartState, with_reg}
use Rattle.rv_machine.specs.Memory.{number_at, rom_number, stored}
use Rattle.rv_machine.specs.Run.{offered}
use Rattle.rv_machine.specs.Tick.{Quiet, Sent, Ticks, Took, done, jump, load, onward, store}
use Rattle.rv_machine.specs.declared.effect.Effect.TheVariants.{Write}
use Rattle.trap_model.specs.Map.{in_base, lies_in, load_at, out_base, ram_base, store_at}
use Rattle.trap_model.specs.Width.{bytes_of}
use Rattle.trap_model.specs.declared.map.Loads.TheVariants.{InPort, Rom as FromRom}
use Rattle.trap_model.specs.declared.map.Stores.TheVariants.{OutPort}
use Rattle.trap_model.specs.declared.width.Width.{Width}
use Rattle.trap_model.specs.declared.width.Width.TheVariants.{Word}
use Rattle.block_code.specs.Effect.{LineDoes, moment_done, moved, reg_at, saved, sent, stops, taken, written}
use Rattle.block_code.specs.Leads.{IsOwnStep, Leads}
use Rattle.block_code.specs.Moment.{IsValidMoment, Moment, is_trap, moment_by}
use Rattle.block_code.specs.Place.{IsMachine, word_in}
use Rattle.block_code.specs.Plan.{Line}
use Rattle.block_code.specs.Region.{DifferOnly}
use Rattle.block_code.specs.Sequence.{load_by, store_by}
use Rattle.block_code.specs.SequenceLaw.{IsOffset}
use Rattle.block_code.proofs.Forms.{jump-to, plus-forward}
use Rattle.block_code.proofs.Leads.{leads-instr}
use Rattle.block_code.proofs.Machine.{branch_tick, displaced, does-load, does-lw, does-store, done-branch, load_at-ram, store_at-ram, takes, word-is}
use Rattle.block_code.proofs.Region.{same-bytes}

-- the instruction leads from s to s', without a trap
pub record InstrDoes (rom : List ℕ) (i : Instr) (s s' : Moment) : Type 0 where
  pub goes_on : stops rom i s ≡ false
  pub is : moment_done rom i s ≡ s'

module _ (rom : List ℕ) where
  -- ---- from an instruction to a line

  -- an instruction, and then the rest of the line
  pub line-instr : (address : ℕ) (i : Instr) (is : List Instr) (s mid s' : Moment) → s.hart.pc ≡ address → InstrDoes rom i s mid → LineDoes rom (address + 4) is mid s' → LineDoes rom address (i ∷ is) s s'
  line-instr address i is s mid s' here does rest = inl (here, does.goes_on, subst (λ m. LineDoes rom (address + 4) is m s') (sym does.is) rest)

  -- instructions that a skip went past
  pub line-past : (past is : List Instr) (address : ℕ) (s s' : Moment) → s.hart.pc ≡ address + 4 * length past → LineDoes rom (address + 4 * length past) is s s' → LineDoes rom address (past ++ is) s s'
  line-past [] is address s s' here rest = let e : address + 4 * 0 ≡ address = omega arith in subst (λ a. LineDoes rom a is s s') e rest
  line-past (i ∷ past) is address s s' here rest =
      let e : address + 4 * suc (length past) ≡ address + 4 + 4 * length past = omega arith in
      inr (λ at. absurd (omega arith), line-past past is (address + 4) s s' (here ∙ e) (subst (λ a. LineDoes rom a is s s') e rest))

  pub leads-does : (size address : ℕ) (i : Instr) (is : List Instr) (s mid : Moment) (Good : Moment → Type 0) → s.hart.pc ≡ address → InstrDoes rom i s mid
      → Leads rom size (address + 4) (Line is) Good mid → Leads rom size address (Line (i ∷ is)) Good s
  leads-does size address i is s mid Good here does rest = leads-instr rom size address i is s Good here does.goes_on (subst (Leads rom size (address + 4) (Line is) Good) (sym does.is) rest)

  -- ---- instructions that go on to the next word

  -- an instruction whose tick is known
  from-tick : (i : Instr) (s : Moment) (t : Ticks) → step rom (offered s.readings) i s.hart ≡ t → is_trap t.event ≡ false → InstrDoes rom i s (moment_by t s)
  from-tick i s t e quiet = record { goes_on = ap (λ t. is_trap t.event) e ∙ quiet; is = ap (λ t. moment_by t s) e }

  -- what goes on to the next word is there
  from-onward : (i : Instr) (s : Moment) (regs ram : List ℕ) → step rom (offered s.readings) i s.hart ≡ onward s.hart regs ram Quiet → s.hart.pc + 4 < 2 ^ 32
      → InstrDoes rom i s (record { hart = record { pc = s.hart.pc + 4; regs = regs; ram = ram }; readings = s.readings; log = s.log })
  from-onward i s regs ram e low =
      let to : (s.hart.pc + 4) % 2 ^ 32 ≡ s.hart.pc + 4 = omega arith in
      from-tick i s (record { hart = record { pc = s.hart.pc + 4; regs = regs; ram = ram }; event = Quiet })
      (e ∙ ap (λ p. record { hart = record { pc = p; regs = regs; ram = ram }; event = Quiet }) to) refl

  step-write : (i : Instr) (m : HartState) (reading rd x : ℕ) → effect i m ≡ Write rd x → step rom reading i m ≡ onward m (with_reg rd x m.regs) m.ram Quiet
  unfolding done
  step-write i m reading rd x e = ap (λ f. done rom reading f m) e

  -- an instruction whose effect is to write a register: all that compute
  pub does-write : (i : Instr) (s : Moment) (rd x : ℕ) → effect i s.hart ≡ Write rd x → s.hart.pc + 4 < 2 ^ 32 → InstrDoes rom i s (written (s.hart.pc + 4) rd x s)
  does-write i s rd x e low = from-onward i s (with_reg rd x s.hart.regs) s.hart.ram (step-write i s.hart (offered s.readings) rd x e) low

  -- a load from an offset of RAM, at the address in a register
  pub does-ram_load : (size : ℕ) (width : Width) (rd rs1 : ℕ) (imm : ℤ) (offset : ℕ) (s : Moment) → IsMachine rom size → IsValidMoment size s → displaced (reg_at rs1 s) imm ≡ ram_base + offset
      → IsOffset width offset → offset < size → s.hart.pc + 4 < 2 ^ 32
      → InstrDoes rom (load_by width rd rs1 imm) s (written (s.hart.pc + 4) rd (number_at (bytes_of width) offset s.hart.ram) s)
  does-ram_load size width rd rs1 imm offset s machine valid there place inside low =
      from-onward (load_by width rd rs1 imm) s (with_reg rd (number_at (bytes_of width) offset s.hart.ram) s.hart.regs) s.hart.ram
      (does-load rom (offered s.readings) s.hart width rd rs1 imm offset
      (ap (λ n. load_at (4 * length rom) n (displaced (reg_at rs1 s) imm) (bytes_of width)) valid.hart.ram.count ∙ ap (λ a. load_at (4 * length rom) size a (bytes_of width)) there
      ∙ load_at-ram width size offset (4 * length rom) machine.rom_small inside place.aligned)) low

  -- a store at an offset of RAM, at the address in a register
  pub does-ram_store : (size : ℕ) (width : Width) (rs1 rs2 : ℕ) (imm : ℤ) (offset : ℕ) (s : Moment) → IsValidMoment size s → displaced (reg_at rs1 s) imm ≡ ram_base + offset
      → IsOffset width offset → offset < size → s.hart.pc + 4 < 2 ^ 32
      → InstrDoes rom (store_by width rs1 rs2 imm) s (saved (s.hart.pc + 4) (bytes_of width) offset (reg_at rs2 s) s)
  does-ram_store size width rs1 rs2 imm offset s valid there place inside low =
      from-onward (store_by width rs1 rs2 imm) s s.hart.regs (stored (bytes_of width) offset (reg_at rs2 s) s.hart.ram)
      (does-store rom (offered s.readings) s.hart width rs1 rs2 imm
      ∙ ap (store s.hart (bytes_of width) (reg_at rs2 s))
      (ap (λ n. store_at n (displaced (reg_at rs1 s) imm) (bytes_of width)) valid.hart.ram.count ∙ ap (λ a. store_at size a (bytes_of width)) there ∙ store_at-ram width size offset inside place.aligned)) low

  -- a load of a word of ROM, at the address in a register
  rom-place : (ram at : ℕ) → at % 4 ≡ 0 → at < 4 * length rom → load_at (4 * length rom) ram at 4 ≡ FromRom at
  unfolding load_at lies_in
  rom-place ram at aligned inside =
      let test : (at % 4 == 0) ≡ true = grind (arith, nat_tests) in
      let within : (nat_le 0 at && nat_lt (at - 0) (4 * length rom)) ≡ true = grind (arith, nat_tests) in
      rw (test, within) refl

  pub does-rom_load : (rd rs1 : ℕ) (imm : ℤ) (word : ℕ) (s : Moment) → displaced (reg_at rs1 s) imm ≡ 4 * word → word < length rom → slice_index rom word < 2 ^ 32 → s.hart.pc + 4 < 2 ^ 32
      → InstrDoes rom (Lw rd rs1 imm) s (written (s.hart.pc + 4) rd (slice_index rom word) s)
  does-rom_load rd rs1 imm word s there inside small low =
      let place : 4 * word / 4 ≡ word = omega arith in
      let lowest : 8 * (4 * word % 4) ≡ 0 = omega arith in
      let x = slice_index rom word in
      let whole : x / 2 ^ 0 % 2 ^ 32 ≡ x = omega arith in
      let read : rom_number 4 (4 * word) rom ≡ x = ap (λ k. slice_index rom k / 2 ^ (8 * (4 * word % 4)) % 2 ^ 32) place ∙ ap (λ e. x / 2 ^ e % 2 ^ 32) lowest ∙ whole in
      from-onward (Lw rd rs1 imm) s (with_reg rd x s.hart.regs) s.hart.ram
      (does-lw rom (offered s.readings) s.hart rd rs1 imm
      ∙ ap (load rom (offered s.readings) rd Word true s.hart)
      (ap (λ a. load_at (4 * length rom) (length s.hart.ram) a 4) there ∙ rom-place (length s.hart.ram) (4 * word) (omega arith) (omega arith))
      ∙ ap (λ y. onward s.hart (with_reg rd y s.hart.regs) s.hart.ram Quiet) read) low

  -- ---- ports
  pub in-place : (ram port : ℕ) → 4 * length rom ≤ 2 ^ 20 → ram ≤ 2 ^ 20 → port < 256 → load_at (4 * length rom) ram (in_base + 4 * port) 4 ≡ InPort port
  unfolding load_at lies_in
  in-place ram port small fits few =
      let at = in_base + 4 * port in
      let test : ((in_base + 4 * port) % 4 == 0) ≡ true = grind (arith, nat_tests) in
      let no_rom : (nat_le 0 (in_base + 4 * port) && nat_lt (in_base + 4 * port - 0) (4 * length rom)) ≡ false = grind (arith, nat_tests) in
      let no_ram : (nat_le ram_base (in_base + 4 * port) && nat_lt (in_base + 4 * port - ram_base) ram) ≡ false = grind (arith, nat_tests) in
      let port_at : (nat_le in_base (in_base + 4 * port) && nat_lt (in_base + 4 * port - in_base) 1024) ≡ true = grind (arith, nat_tests) in
      let number : (in_base + 4 * port - in_base) / 4 ≡ port = omega arith in
      rw (test, no_rom, no_ram, port_at) (ap InPort number)

  -- a load from an input port takes the next reading
  pub does-take : (size : ℕ) (rd rs1 : ℕ) (imm : ℤ) (port : ℕ) (s : Moment) → IsMachine rom size → IsValidMoment size s → displaced (reg_at rs1 s) imm ≡ in_base + 4 * port → port < 256
      → s.hart.pc + 4 < 2 ^ 32 → InstrDoes rom (Lw rd rs1 imm) s (taken (s.hart.pc + 4) rd port s)
  does-take size rd rs1 imm port s machine valid there few low =
      let to : (s.hart.pc + 4) % 2 ^ 32 ≡ s.hart.pc + 4 = omega arith in
      let fits = machine.ram_small in let count = valid.hart.ram.count in
      from-tick (Lw rd rs1 imm) s (record { hart = record { pc = s.hart.pc + 4; regs = with_reg rd (offered s.readings) s.hart.regs; ram = s.hart.ram }; event = Took port })
      (does-lw rom (offered s.readings) s.hart rd rs1 imm
      ∙ ap (load rom (offered s.readings) rd Word true s.hart)
      (ap (λ a. load_at (4 * length rom) (length s.hart.ram) a 4) there ∙ in-place (length s.hart.ram) port machine.rom_small (omega arith) few)
      ∙ ap (λ p. record { hart = record { pc = p; regs = with_reg rd (offered s.readings) s.hart.regs; ram = s.hart.ram }; event = Took port }) to) refl

  pub out-place : (ram port : ℕ) → ram ≤ 2 ^ 20 → port < 256 → store_at ram (out_base + 4 * port) 4 ≡ OutPort port
  unfolding store_at lies_in
  out-place ram port fits few =
      let test : ((out_base + 4 * port) % 4 == 0) ≡ true = grind (arith, nat_tests) in
      let no_ram : (nat_le ram_base (out_base + 4 * port) && nat_lt (out_base + 4 * port - ram_base) ram) ≡ false = grind (arith, nat_tests) in
      let port_at : (nat_le out_base (out_base + 4 * port) && nat_lt (out_base + 4 * port - out_base) 1024) ≡ true = grind (arith, nat_tests) in
      let number : (out_base + 4 * port - out_base) / 4 ≡ port = omega arith in
      rw (test, no_ram, port_at) (ap OutPort number)

  -- a store to an output port sends a word
  pub does-send : (size : ℕ) (rs1 rs2 : ℕ) (imm : ℤ) (port : ℕ) (s : Moment) → IsMachine rom size → IsValidMoment size s → displaced (reg_at rs1 s) imm ≡ out_base + 4 * port → port < 256
      → s.hart.pc + 4 < 2 ^ 32 → InstrDoes rom (Sw rs1 rs2 imm) s (sent (s.hart.pc + 4) port (reg_at rs2 s) s)
  does-send size rs1 rs2 imm port s machine valid there few low =
      let to : (s.hart.pc + 4) % 2 ^ 32 ≡ s.hart.pc + 4 = omega arith in
      let fits = machine.ram_small in let count = valid.hart.ram.count in
      from-tick (Sw rs1 rs2 imm) s (record { hart = record { pc = s.hart.pc + 4; regs = s.hart.regs; ram = s.hart.ram }; event = Sent port (reg_at rs2 s) })
      (does-store rom (offered s.readings) s.hart Word rs1 rs2 imm
      ∙ ap (store s.hart 4 (reg_at rs2 s))
      (ap (λ a. store_at (length s.hart.ram) a 4) there ∙ out-place (length s.hart.ram) port (omega arith) few)
      ∙ ap (λ p. record { hart = record { pc = p; regs = s.hart.regs; ram = s.hart.ram }; event = Sent port (reg_at rs2 s) }) to) refl

  -- ---- skips
  module _ (i : Instr) (offset : ℕ) (s : Moment) (branch : step rom (offered s.readings) i s.hart ≡ branch_tick s.hart (takes i s.hart) (pos offset)) where
    -- a skip that is taken
    pub does-skip : takes i s.hart ≡ true → (s.hart.pc + offset) % 4 ≡ 0 → s.hart.pc + offset < 2 ^ 32 → InstrDoes rom i s (moved (s.hart.pc + offset) s)
    does-skip on aligned low =
        from-tick i s (record { hart = record { pc = s.hart.pc + offset; regs = s.hart.regs; ram = s.hart.ram }; event = Quiet })
        (branch ∙ ap (λ b. branch_tick s.hart b (pos offset)) on ∙ ap (λ t. jump s.hart t s.hart.regs) (plus-forward s.hart.pc offset low) ∙ jump-to s.hart (s.hart.pc + offset) aligned) refl

    -- a skip that is not taken
    pub does-pass : takes i s.hart ≡ false → s.hart.pc + 4 < 2 ^ 32 → InstrDoes rom i s (moved (s.hart.pc + 4) s)
    does-pass off low = from-onward i s s.hart.regs s.hart.ram (branch ∙ ap (λ b. branch_tick s.hart b (pos offset)) off) low

  -- the ticks of branches
  module _ (reading : ℕ) (m : HartState) (rs1 rs2 : ℕ) (imm : ℤ) where
    pub does-beq : step rom reading (Beq rs1 rs2 imm) m ≡ branch_tick m (takes (Beq rs1 rs2 imm) m) imm
    unfolding effect
    does-beq = done-branch rom reading m (takes (Beq rs1 rs2 imm) m) imm

    pub does-bne : step rom reading (Bne rs1 rs2 imm) m ≡ branch_tick m (takes (Bne rs1 rs2 imm) m) imm
    unfolding effect
    does-bne = done-branch rom reading m (takes (Bne rs1 rs2 imm) m) imm

    pub does-blt : step rom reading (Blt rs1 rs2 imm) m ≡ branch_tick m (takes (Blt rs1 rs2 imm) m) imm
    unfolding effect
    does-blt = done-branch rom reading m (takes (Blt rs1 rs2 imm) m) imm

    pub does-bge : step rom reading (Bge rs1 rs2 imm) m ≡ branch_tick m (takes (Bge rs1 rs2 imm) m) imm
    unfolding effect
    does-bge = done-branch rom reading m (takes (Bge rs1 rs2 imm) m) imm

    pub does-bltu : step rom reading (Bltu rs1 rs2 imm) m ≡ branch_tick m (takes (Bltu rs1 rs2 imm) m) imm
    unfolding effect
    does-bltu = done-branch rom reading m (takes (Bltu rs1 rs2 imm) m) imm

    pub does-bgeu : step rom reading (Bgeu rs1 rs2 imm) m ≡ branch_tick m (takes (Bgeu rs1 rs2 imm) m) imm
    unfolding effect
    does-bgeu = done-branch rom reading m (takes (Bgeu rs1 rs2 imm) m) imm

-- ---- numbers in RAM that are the same

-- a number outside the bytes that may differ
pub number-same : (Region : ℕ → Type 0) (width offset : ℕ) (before after : List ℕ) → DifferOnly Region before after → ((o : ℕ) → offset ≤ o → o < offset + width → Region o → ⊥)
    → number_at width offset after ≡ number_at width offset before
number-same Region width offset before after differ apart =
    same-bytes 0 width (drop offset after) (drop offset before) (λ k f b.
    get_or-drop offset after k 0 ∙ differ (offset + k) (apart (offset + k) (omega arith) (omega arith)) ∙ sym (get_or-drop offset before k 0))

-- so it is over the own code of a loop or a scan, apart from the slot
pub own-number : (slot width offset : ℕ) (s s' : Moment) → IsOwnStep slot s s' → (offset + width ≤ slot) ⊎ (slot + 4 ≤ offset) → number_at width offset s'.hart.ram ≡ number_at width offset s.hart.ram
own-number slot width offset s s' own apart =
    number-same (λ o. (slot ≤ o) × (o < slot + 4)) width offset s.hart.ram s'.hart.ram own.bytes (λ o a b r. let f = r.0 in let t = r.1 in ⊎_elim (λ h. absurd (omega arith)) (λ h. absurd (omega arith)) apart)

-- and the word of another slot
pub own-word_in : (slot other : ℕ) (s s' : Moment) → IsOwnStep slot s s' → (other + 4 ≤ slot) ⊎ (slot + 4 ≤ other) → word_in other s'.hart.ram ≡ word_in other s.hart.ram
own-word_in slot other s s' own apart = sym (word-is other s'.hart.ram) ∙ own-number slot 4 other s s' own apart ∙ word-is other s.hart.ram
