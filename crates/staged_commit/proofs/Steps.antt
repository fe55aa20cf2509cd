-- Single instructions and small sequences of a line that is walked.
use Rattle.std.proofs.Common.{◌≡◌, ◌≢◌, ℕ, suc, ◌+◌, ◌-◌, ◌*◌, ◌/◌, ◌%◌, ◌^◌, ◌<◌, ◌≤◌, ℤ, pos, ◌+ℤ◌, List, [], ◌∷◌, ◌++◌, length, drop, slice_index, Bool, true, false, cond, refl, ap, ◌∙◌, subst, ⊎_elim, arith}
use Rattle.std.proofs.Common.{get_or-drop}
use Rattle.std.proofs.lemmas.Bool.{cases_eq, cases_lt}
use Rattle.std.proofs.lemmas.Bool.Decides.{nat_tests}
use Rattle.std.proofs.lemmas.List.{get_or_past}
use Rattle.std.specs.Prelude.{◌==◌, ◌&&◌, nat_le, nat_lt, FitsSigned}
use Rattle.std.specs.Int.{w32}
use Rattle.byteorder.specs.Numbers.{little_from-lt}
use Rattle.rv_isa.specs.declared.instr.Instr.{Instr}
use Rattle.rv_isa.specs.declared.instr.Instr.TheVariants.{Add, Addi, Beq, Lui, Slli, Sub}
use Rattle.rv_machine.specs.Code.{step}
use Rattle.rv_machine.specs.Effect.{effect, reg}
use Rattle.rv_machine.specs.Hart.{HartState, with_reg}
use Rattle.rv_machine.specs.Memory.{number_at, stored}
use Rattle.rv_machine.specs.Run.{offered}
use Rattle.rv_machine.specs.Tick.{Quiet, Ticks, done, jump, load, store, trap}
use Rattle.rv_machine.specs.Word.{minus, plus}
use Rattle.rv_machine.proofs.Valid.{AreBytes-stored, AreRegs-with_reg}
use Rattle.trap_model.specs.Map.{in_base, lies_in, load_at, ram_base, store_at}
use Rattle.trap_model.specs.Width.{bytes_of}
use Rattle.trap_model.specs.declared.map.Loads.{Loads}
use Rattle.trap_model.specs.declared.map.Loads.TheVariants.{Trap as NoLoad}
use Rattle.trap_model.specs.declared.width.Width.{Width}
use Rattle.trap_model.specs.declared.width.Width.TheVariants.{Byte, Half, Word}
use Rattle.block_code.specs.Access.{NoAccess, access_of, by_load}
use Rattle.block_code.specs.Footprint.{Footprint, Permits}
use Rattle.block_code.proofs.Footprint.{access-portless, permits-none, permits-store}
use Rattle.block_code.specs.Effect.{moved, reg_at, saved, written}
use Rattle.block_code.specs.Moment.{IsValidMoment, Moment}
use Rattle.block_code.specs.Place.{IsAtTop, IsMachine}
use Rattle.block_code.specs.Sequence.{high_part, load_by, load_fixed, load_immediate, low_part, scratch, store_by, store_fixed}
use Rattle.block_code.specs.SequenceLaw.{IsOffset}
use Rattle.block_code.proofs.Counter.{reg-other, reg-same, split}
use Rattle.block_code.proofs.Forms.{jump-to, plus-forward}
use Rattle.block_code.proofs.Machine.{branch_tick, computed, displaced, does-addi, does-load, does-lui, does-store, done-branch, load_at-ram, store_at-past, store_at-ram}
use Rattle.block_code.proofs.Sequences.{page}
use Rattle.state_space.specs.Decoding.{index_of}
use Rattle.mask_guard.specs.Mask.{address_of, decode_value, mask_index, word_of}
use Rattle.mask_guard.specs.MaskLaw.{IsMaskable, IsTermRegister}
use Rattle.mask_guard.proofs.Masks.{index-is-masked, value-is-decoded}
use Rattle.mask_guard.proofs.Numbers.{every-word-has-an-index}
use Rattle.staged_commit.proofs.Walk.{Walk, walk-line, walk-on, walk-past, walk-stop}

-- ---- what an instruction or a small sequence made of a moment

-- a register has a new value; beside it only the scratch register may have changed
pub record Sets (rd x : ℕ) (s s' : Moment) : Type 0 where
  pub here : reg_at rd s' ≡ x
  pub others : (r : ℕ) → r ≢ rd → r ≢ scratch → reg_at r s' ≡ reg_at r s
  pub ram : s'.hart.ram ≡ s.hart.ram
  pub readings : s'.readings ≡ s.readings
  pub log : s'.log ≡ s.log

-- so many bytes of RAM are new; only the scratch register may have changed
pub record Puts (width offset x : ℕ) (s s' : Moment) : Type 0 where
  pub regs : (r : ℕ) → r ≢ scratch → reg_at r s' ≡ reg_at r s
  pub ram : s'.hart.ram ≡ stored width offset x s.hart.ram
  pub readings : s'.readings ≡ s.readings
  pub log : s'.log ≡ s.log

-- nothing but pc is new
pub record Goes (s s' : Moment) : Type 0 where
  pub regs : (r : ℕ) → reg_at r s' ≡ reg_at r s
  pub ram : s'.hart.ram ≡ s.hart.ram
  pub readings : s'.readings ≡ s.readings
  pub log : s'.log ≡ s.log

pub sets-then : (rd x y : ℕ) (s m e : Moment) → Sets rd x s m → Sets rd y m e → Sets rd y s e
sets-then rd x y s m e a b = record {
  here = b.here;
  others = λ r other free. b.others r other free ∙ a.others r other free;
  ram = b.ram ∙ a.ram;
  readings = b.readings ∙ a.readings;
  log = b.log ∙ a.log;
}

-- a value by way of the scratch register
pub scratch-then : (rd x y : ℕ) (s m e : Moment) → Sets scratch x s m → Sets rd y m e → Sets rd y s e
scratch-then rd x y s m e a b = record {
  here = b.here;
  others = λ r other free. b.others r other free ∙ a.others r free free;
  ram = b.ram ∙ a.ram;
  readings = b.readings ∙ a.readings;
  log = b.log ∙ a.log;
}

-- a store by way of the scratch register
pub scratch-puts : (width offset x y : ℕ) (s m e : Moment) → Sets scratch x s m → Puts width offset y m e → Puts width offset y s e
scratch-puts width offset x y s m e a b = record {
  regs = λ r free. b.regs r free ∙ a.others r free free;
  ram = b.ram ∙ ap (stored width offset y) a.ram;
  readings = b.readings ∙ a.readings;
  log = b.log ∙ a.log;
}

-- ---- instructions of which block_code has no equation
module _ (rom : List ℕ) (reading : ℕ) (m : HartState) where
  pub does-slli : (rd rs1 shift : ℕ) → step rom reading (Slli rd rs1 shift) m ≡ computed m rd (reg m rs1 * 2 ^ shift % 2 ^ 32)
  unfolding effect done
  does-slli rd rs1 shift = refl

  pub does-add : (rd rs1 rs2 : ℕ) → step rom reading (Add rd rs1 rs2) m ≡ computed m rd (plus (reg m rs1) (reg m rs2))
  unfolding effect done
  does-add rd rs1 rs2 = refl

  pub does-sub : (rd rs1 rs2 : ℕ) → step rom reading (Sub rd rs1 rs2) m ≡ computed m rd (minus (reg m rs1) (reg m rs2))
  unfolding effect done
  does-sub rd rs1 rs2 = refl

  pub does-beq : (rs1 rs2 offset : ℕ) → step rom reading (Beq rs1 rs2 (pos offset)) m ≡ branch_tick m (reg m rs1 == reg m rs2) (pos offset)
  unfolding effect
  does-beq rs1 rs2 offset = done-branch rom reading m (reg m rs1 == reg m rs2) (pos offset)

  pub load-traps : (width : Width) (rd rs1 : ℕ) (imm : ℤ)
      → load_at (4 * length rom) (length m.ram) (displaced (reg m rs1) imm) (bytes_of width) ≡ NoLoad → step rom reading (load_by width rd rs1 imm) m ≡ trap m
  unfolding effect done
  load-traps Byte rd rs1 imm e = ap (load rom reading rd Byte false m) e
  load-traps Half rd rs1 imm e = ap (load rom reading rd Half false m) e
  load-traps Word rd rs1 imm e = ap (load rom reading rd Word true m) e

-- the access of a load
pub access-load : (rom : List ℕ) (width : Width) (rd rs1 : ℕ) (imm : ℤ) (s : Moment)
    → access_of rom (load_by width rd rs1 imm) s ≡ by_load (load_at (4 * length rom) (length s.hart.ram) (displaced (reg_at rs1 s) imm) (bytes_of width))
unfolding effect
access-load rom Byte rd rs1 imm s = refl
access-load rom Half rd rs1 imm s = refl
access-load rom Word rd rs1 imm s = refl

-- an address past RAM and below the ports reads nothing, at every width
pub load_at-past_ram : (width : Width) (rom_size size offset : ℕ) → rom_size ≤ 2 ^ 20 → size ≤ offset → offset < 2 ^ 20 → load_at rom_size size (ram_base + offset) (bytes_of width) ≡ NoLoad
unfolding load_at lies_in
load_at-past_ram width rom_size size offset small past limit =
    let outside : (nat_le ram_base (ram_base + offset) && nat_lt (ram_base + offset - ram_base) size) ≡ false = grind (arith, nat_tests) in
    let no_rom : (nat_le 0 (ram_base + offset) && nat_lt (ram_base + offset - 0) rom_size) ≡ false = grind (arith, nat_tests) in
    let no_port : (nat_le in_base (ram_base + offset) && nat_lt (ram_base + offset - in_base) 1024) ≡ false = grind (arith, nat_tests) in
    rw (outside, no_rom, no_port) (none (bytes_of width == 4) ((ram_base + offset) % bytes_of width == 0))
  where
    none : (word aligned : Bool) → cond aligned (cond (word && false) (Loads.InPort ((ram_base + offset - in_base) / 4)) NoLoad) NoLoad ≡ NoLoad
    none true true = refl
    none false true = refl
    none word false = refl

-- a jump between words
jump-off : (m : HartState) (target : ℕ) → target % 4 ≢ 0 → jump m target m.regs ≡ trap m
jump-off m target h =
    let test : (target % 4 == 0) ≡ false = grind (arith, nat_tests) in
    ap (λ b. cond b (record { hart = record { pc = target; regs = m.regs; ram = m.ram }; event = Quiet }) (trap m)) test

-- ---- what is in range in a valid moment
module _ (size : ℕ) (s : Moment) (valid : IsValidMoment size s) where
  pub reg-below : (r : ℕ) → reg_at r s < 2 ^ 32
  reg-below r =
      ⊎_elim (λ h. valid.hart.regs.words r 0 h) (λ h. let e = get_or_past s.hart.regs r 0 h in omega arith) (cases_lt r (length s.hart.regs))

  pub byte-below : (k : ℕ) → slice_index s.hart.ram k < 256
  byte-below k =
      ⊎_elim (λ h. valid.hart.ram.bytes k 0 h) (λ h. let e = get_or_past s.hart.ram k 0 h in omega arith) (cases_lt k (length s.hart.ram))

  pub number-below : (width offset : ℕ) → number_at width offset s.hart.ram < 256 ^ width
  number-below width offset =
      little_from-lt 0 width (drop offset s.hart.ram) (λ k. let e = get_or-drop offset s.hart.ram k 0 in let h = byte-below (offset + k) in omega arith)

  pub word-below : (width : Width) (offset : ℕ) → number_at (bytes_of width) offset s.hart.ram < 2 ^ 32
  word-below Byte offset = let h = number-below 1 offset in omega arith
  word-below Half offset = let h = number-below 2 offset in omega arith
  word-below Word offset = let h = number-below 4 offset in omega arith

-- an access at its width that begins in RAM ends there
pub access-inside : (width : Width) (size offset : ℕ) → size % 4 ≡ 0 → offset % bytes_of width ≡ 0 → offset < size → offset + bytes_of width ≤ size
access-inside Byte size offset multiple aligned h = omega arith
access-inside Half size offset multiple aligned h = omega arith
access-inside Word size offset multiple aligned h = omega arith

module _ (rom : List ℕ) (size : ℕ) (machine : IsMachine rom size) (Room : Type 0) (f : Footprint) where
  -- ---- single instructions

  -- an instruction that writes a register
  pub walk-sets : (i : Instr) (is : List Instr) (address r x : ℕ) (s : Moment) (Post : Moment → Type 0) → IsAtTop size address (i ∷ is) s → suc r < 32 → x < 2 ^ 32
      → step rom (offered s.readings) i s.hart ≡ computed s.hart (suc r) x → access_of rom i s ≡ NoAccess
      → ((s' : Moment) → IsAtTop size (address + 4) is s' → Sets (suc r) x s s' → Walk rom Room f (address + 4) is s' Post)
      → Walk rom Room f address (i ∷ is) s Post
  walk-sets i is address r x s Post top low small does none rest =
      let here = top.here in let room = top.room in let valid = top.valid in
      let on : (s.hart.pc + 4) % 2 ^ 32 ≡ address + 4 = omega arith in
      let t : Ticks = record { hart = record { pc = address + 4; regs = with_reg (suc r) x s.hart.regs; ram = s.hart.ram }; event = Quiet } in
      let s1 : Moment = written (address + 4) (suc r) x s in
      walk-on rom Room f i is address s t Post here (does ∙ ap (λ p. record { hart = record { pc = p; regs = with_reg (suc r) x s.hart.regs; ram = s.hart.ram }; event = Quiet }) on) refl
      (permits-none rom f _ none)
      (rest s1
      (record {
        valid = record { hart = record { pc = omega arith; regs = AreRegs-with_reg (suc r) x s.hart.regs small valid.hart.regs; ram = valid.hart.ram } };
        here = refl;
        room = omega arith;
      })
      (record {
        here = reg-same size (address + 4) r x s valid low;
        others = λ other apart free. reg-other (address + 4) (suc r) other x s apart;
        ram = refl;
        readings = refl;
        log = refl;
      }))

  -- a load from RAM
  pub walk-loads : (width : Width) (is : List Instr) (address r rs1 : ℕ) (imm : ℤ) (offset : ℕ) (s : Moment) (Post : Moment → Type 0)
      → IsAtTop size address (load_by width (suc r) rs1 imm ∷ is) s → suc r < 32 → displaced (reg_at rs1 s) imm ≡ ram_base + offset → IsOffset width offset → (Room → offset < size)
      → ((s' : Moment) → IsAtTop size (address + 4) is s' → Sets (suc r) (number_at (bytes_of width) offset s.hart.ram) s s' → Walk rom Room f (address + 4) is s' Post)
      → Walk rom Room f address (load_by width (suc r) rs1 imm ∷ is) s Post
  walk-loads width is address r rs1 imm offset s Post top low there place inside rest =
      let small = machine.rom_small in
      ⊎_elim
      (λ h. walk-sets (load_by width (suc r) rs1 imm) is address r (number_at (bytes_of width) offset s.hart.ram) s Post top low (word-below size s top.valid width offset)
      (does-load rom (offered s.readings) s.hart width (suc r) rs1 imm offset (from_address ∙ load_at-ram width size offset (4 * length rom) machine.rom_small h place.aligned))
      (access-load rom width (suc r) rs1 imm s ∙ ap by_load (from_address ∙ load_at-ram width size offset (4 * length rom) machine.rom_small h place.aligned)) rest)
      (λ h. walk-stop rom Room f (load_by width (suc r) rs1 imm) is address s (trap s.hart) Post top.here
      (load-traps rom (offered s.readings) s.hart width (suc r) rs1 imm (from_address ∙ load_at-past_ram width (4 * length rom) size offset machine.rom_small h place.low)) refl
      (permits-none rom f _ (access-load rom width (suc r) rs1 imm s ∙ ap by_load (from_address ∙ load_at-past_ram width (4 * length rom) size offset machine.rom_small h place.low)))
      (λ r. let b = inside r in absurd (omega arith)))
      (cases_lt offset size)
    where
      from_address : load_at (4 * length rom) (length s.hart.ram) (displaced (reg_at rs1 s) imm) (bytes_of width) ≡ load_at (4 * length rom) size (ram_base + offset) (bytes_of width)
      from_address = ap (λ n. load_at (4 * length rom) n (displaced (reg_at rs1 s) imm) (bytes_of width)) top.valid.hart.ram.count ∙ ap (λ a. load_at (4 * length rom) size a (bytes_of width)) there

  -- a store into RAM
  pub walk-saves : (width : Width) (is : List Instr) (address rs1 rs2 : ℕ) (imm : ℤ) (offset : ℕ) (s : Moment) (Post : Moment → Type 0)
      → IsAtTop size address (store_by width rs1 rs2 imm ∷ is) s → displaced (reg_at rs1 s) imm ≡ ram_base + offset → IsOffset width offset → (Room → offset < size)
      → ((o : ℕ) → offset ≤ o → o < offset + bytes_of width → f.region o ≡ true)
      → ((s' : Moment) → IsAtTop size (address + 4) is s' → Puts (bytes_of width) offset (reg_at rs2 s) s s' → Walk rom Room f (address + 4) is s' Post)
      → Walk rom Room f address (store_by width rs1 rs2 imm ∷ is) s Post
  walk-saves width is address rs1 rs2 imm offset s Post top there place inside within rest =
      let here = top.here in let room = top.room in let valid = top.valid in let count = valid.hart.ram.count in
      let on : (s.hart.pc + 4) % 2 ^ 32 ≡ address + 4 = omega arith in
      ⊎_elim
      (λ h.
      let fits : offset + bytes_of width ≤ size = access-inside width size offset machine.ram_aligned place.aligned h in
      let t : Ticks = record { hart = record { pc = address + 4; regs = s.hart.regs; ram = stored (bytes_of width) offset (reg_at rs2 s) s.hart.ram }; event = Quiet } in
      let s1 : Moment = saved (address + 4) (bytes_of width) offset (reg_at rs2 s) s in
      walk-on rom Room f (store_by width rs1 rs2 imm) is address s t Post here
      (does ∙ ap (store s.hart (bytes_of width) (reg_at rs2 s)) (store_at-ram width size offset h place.aligned)
      ∙ ap (λ p. record { hart = record { pc = p; regs = s.hart.regs; ram = stored (bytes_of width) offset (reg_at rs2 s) s.hart.ram }; event = Quiet }) on) refl
      permits
      (rest s1
      (record {
        valid = record { hart = record { pc = omega arith; regs = valid.hart.regs; ram = AreBytes-stored size (bytes_of width) offset (reg_at rs2 s) s.hart.ram fits valid.hart.ram } };
        here = refl;
        room = omega arith;
      })
      (record { regs = λ r free. refl; ram = refl; readings = refl; log = refl })))
      (λ h. walk-stop rom Room f (store_by width rs1 rs2 imm) is address s (trap s.hart) Post here
      (does ∙ ap (store s.hart (bytes_of width) (reg_at rs2 s)) (store_at-past width size offset h place.low)) refl permits
      (λ r. let b = inside r in absurd (omega arith)))
      (cases_lt offset size)
    where
      permits : Permits f (access_of rom (store_by width rs1 rs2 imm) s)
      permits = permits-store rom f size width rs1 rs2 imm offset s top.valid.hart.ram.count place there within

      does : step rom (offered s.readings) (store_by width rs1 rs2 imm) s.hart ≡ store s.hart (bytes_of width) (reg_at rs2 s) (store_at size (ram_base + offset) (bytes_of width))
      does = does-store rom (offered s.readings) s.hart width rs1 rs2 imm
          ∙ ap (store s.hart (bytes_of width) (reg_at rs2 s))
          (ap (λ n. store_at n (displaced (reg_at rs1 s) imm) (bytes_of width)) top.valid.hart.ram.count ∙ ap (λ a. store_at size a (bytes_of width)) there)

  -- a skip to the end of the line where two registers are equal
  pub walk-skip : (is : List Instr) (address rs1 rs2 offset : ℕ) (s : Moment) (Post : Moment → Type 0) → IsAtTop size address (Beq rs1 rs2 (pos offset) ∷ is) s
      → offset ≡ 4 * suc (length is) → (Room → address % 4 ≡ 0)
      → (reg_at rs1 s ≡ reg_at rs2 s → (s' : Moment) → IsAtTop size (address + 4 * suc (length is)) [] s' → Goes s s' → Post s')
      → (reg_at rs1 s ≢ reg_at rs2 s → (s' : Moment) → IsAtTop size (address + 4) is s' → Goes s s' → Walk rom Room f (address + 4) is s' Post)
      → Walk rom Room f address (Beq rs1 rs2 (pos offset) ∷ is) s Post
  walk-skip is address rs1 rs2 offset s Post top long aligned equal apart = by (reg_at rs1 s == reg_at rs2 s) refl
    where
      still : (past : ℕ) → Goes s (moved past s)
      still past = record { regs = λ r. refl; ram = refl; readings = refl; log = refl }

      valid-at : (past : ℕ) → past < 2 ^ 32 → IsValidMoment size (moved past s)
      valid-at past low = record { hart = record { pc = low; regs = top.valid.hart.regs; ram = top.valid.hart.ram } }

      by : (b : Bool) → (reg_at rs1 s == reg_at rs2 s) ≡ b → Walk rom Room f address (Beq rs1 rs2 (pos offset) ∷ is) s Post
      by true e =
          let here = top.here in let room = top.room in
          let same : reg_at rs1 s ≡ reg_at rs2 s = grind (arith, nat_tests) in
          let end : ℕ = address + 4 * suc (length is) in
          let to : displaced s.hart.pc (pos offset) ≡ address + 4 * suc (length is) = plus-forward s.hart.pc offset (omega arith) ∙ omega arith in
          ⊎_elim
          (λ fine. walk-on rom Room f (Beq rs1 rs2 (pos offset)) is address s (record { hart = record { pc = end; regs = s.hart.regs; ram = s.hart.ram }; event = Quiet }) Post here
          (does-beq rom (offered s.readings) s.hart rs1 rs2 offset ∙ ap (λ b. branch_tick s.hart b (pos offset)) e ∙ ap (λ t. jump s.hart t s.hart.regs) to ∙ jump-to s.hart end (omega arith)) refl
          (permits-none rom f _ (access-portless rom (Beq rs1 rs2 (pos offset)) s tt))
          (walk-past rom Room f is (address + 4) (moved end s) Post (omega arith)
          (equal same (moved end s) (record { valid = valid-at end (omega arith); here = refl; room = omega arith }) (still end))))
          (λ off. walk-stop rom Room f (Beq rs1 rs2 (pos offset)) is address s (trap s.hart) Post here
          (does-beq rom (offered s.readings) s.hart rs1 rs2 offset ∙ ap (λ b. branch_tick s.hart b (pos offset)) e ∙ ap (λ t. jump s.hart t s.hart.regs) to ∙ jump-off s.hart end (omega arith)) refl
          (permits-none rom f _ (access-portless rom (Beq rs1 rs2 (pos offset)) s tt))
          (λ r. let a = aligned r in absurd (omega arith)))
          (cases_eq (address % 4) 0)
      by false e =
          let here = top.here in let room = top.room in
          let other : reg_at rs1 s ≢ reg_at rs2 s = grind (arith, nat_tests) in
          let past : ℕ = address + 4 in
          let on : (s.hart.pc + 4) % 2 ^ 32 ≡ address + 4 = omega arith in
          walk-on rom Room f (Beq rs1 rs2 (pos offset)) is address s (record { hart = record { pc = past; regs = s.hart.regs; ram = s.hart.ram }; event = Quiet }) Post here
          (does-beq rom (offered s.readings) s.hart rs1 rs2 offset ∙ ap (λ b. branch_tick s.hart b (pos offset)) e
          ∙ ap (λ p. record { hart = record { pc = p; regs = s.hart.regs; ram = s.hart.ram }; event = Quiet }) on) refl
          (permits-none rom f _ (access-portless rom (Beq rs1 rs2 (pos offset)) s tt))
          (apart other (moved past s) (record { valid = valid-at past (omega arith); here = refl; room = omega arith }) (still past))

  -- ---- small sequences

  -- a word becomes a register's value
  pub walk-immediate : (is : List Instr) (address r value : ℕ) (s : Moment) (Post : Moment → Type 0) → IsAtTop size address (load_immediate (suc r) value ++ is) s → suc r < 32 → value < 2 ^ 32
      → ((s' : Moment) → IsAtTop size (address + 4 + 4) is s' → Sets (suc r) value s s' → Walk rom Room f (address + 4 + 4) is s' Post)
      → Walk rom Room f address (load_immediate (suc r) value ++ is) s Post
  walk-immediate is address r value s Post top low small rest =
      walk-sets (Lui (suc r) (high_part value)) (Addi (suc r) (suc r) (low_part value) ∷ is) address r (page value) s Post top low (omega arith)
      (does-lui rom (offered s.readings) s.hart (suc r) (high_part value)) (access-portless rom (Lui (suc r) (high_part value)) s tt)
      (λ m at first.
      walk-sets (Addi (suc r) (suc r) (low_part value)) is (address + 4) r value m Post at low small
      (does-addi rom (offered m.readings) m.hart (suc r) (suc r) (low_part value) ∙ ap (computed m.hart (suc r)) (ap (λ x. displaced x (low_part value)) first.here ∙ split value small))
      (access-portless rom (Addi (suc r) (suc r) (low_part value)) m tt)
      (λ e end second. rest e end (sets-then (suc r) (page value) value s m e first second)))

  -- a number of RAM becomes a register's value
  pub walk-fixed_load : (width : Width) (is : List Instr) (address r offset : ℕ) (s : Moment) (Post : Moment → Type 0) → IsAtTop size address (load_fixed width (suc r) offset ++ is) s → suc r < 32
      → IsOffset width offset → (Room → offset < size)
      → ((s' : Moment) → IsAtTop size (address + 4 + 4) is s' → Sets (suc r) (number_at (bytes_of width) offset s.hart.ram) s s' → Walk rom Room f (address + 4 + 4) is s' Post)
      → Walk rom Room f address (load_fixed width (suc r) offset ++ is) s Post
  walk-fixed_load width is address r offset s Post top low place inside rest =
      let limit = place.low in
      walk-sets (Lui (suc r) (high_part (ram_base + offset))) (load_by width (suc r) (suc r) (low_part (ram_base + offset)) ∷ is) address r (page (ram_base + offset)) s Post top low (omega arith)
      (does-lui rom (offered s.readings) s.hart (suc r) (high_part (ram_base + offset))) (access-portless rom (Lui (suc r) (high_part (ram_base + offset))) s tt)
      (λ m at first.
      walk-loads width is (address + 4) r (suc r) (low_part (ram_base + offset)) offset m Post at low
      (ap (λ x. displaced x (low_part (ram_base + offset))) first.here ∙ split (ram_base + offset) (omega arith)) place inside
      (λ e end second. rest e end
      (subst (λ v. Sets (suc r) v s e) (ap (number_at (bytes_of width) offset) first.ram) (sets-then (suc r) (page (ram_base + offset)) (number_at (bytes_of width) offset m.hart.ram) s m e first second))))

  -- a register's low bytes go into RAM
  pub walk-fixed_store : (width : Width) (is : List Instr) (address register offset : ℕ) (s : Moment) (Post : Moment → Type 0) → IsAtTop size address (store_fixed width register offset ++ is) s
      → register ≢ scratch → IsOffset width offset → (Room → offset < size)
      → ((o : ℕ) → offset ≤ o → o < offset + bytes_of width → f.region o ≡ true)
      → ((s' : Moment) → IsAtTop size (address + 4 + 4) is s' → Puts (bytes_of width) offset (reg_at register s) s s' → Walk rom Room f (address + 4 + 4) is s' Post)
      → Walk rom Room f address (store_fixed width register offset ++ is) s Post
  walk-fixed_store width is address register offset s Post top apart place inside within rest =
      let limit = place.low in
      walk-sets (Lui scratch (high_part (ram_base + offset))) (store_by width scratch register (low_part (ram_base + offset)) ∷ is) address 20 (page (ram_base + offset)) s Post top (omega arith) (omega arith)
      (does-lui rom (offered s.readings) s.hart scratch (high_part (ram_base + offset))) (access-portless rom (Lui scratch (high_part (ram_base + offset))) s tt)
      (λ m at first.
      let same : reg_at register m ≡ reg_at register s = first.others register apart apart in
      walk-saves width is (address + 4) scratch register (low_part (ram_base + offset)) offset m Post at
      (ap (λ x. displaced x (low_part (ram_base + offset))) first.here ∙ split (ram_base + offset) (omega arith)) place inside
      within
      (λ e end second. rest e end
      (subst (λ v. Puts (bytes_of width) offset v s e) same (scratch-puts (bytes_of width) offset (page (ram_base + offset)) (reg_at register m) s m e first second))))

  -- a register is copied
  pub walk-move : (is : List Instr) (address r rs1 : ℕ) (s : Moment) (Post : Moment → Type 0) → IsAtTop size address (Addi (suc r) rs1 (pos 0) ∷ is) s → suc r < 32
      → ((s' : Moment) → IsAtTop size (address + 4) is s' → Sets (suc r) (reg_at rs1 s) s s' → Walk rom Room f (address + 4) is s' Post)
      → Walk rom Room f address (Addi (suc r) rs1 (pos 0) ∷ is) s Post
  walk-move is address r rs1 s Post top low rest =
      let small = reg-below size s top.valid rs1 in
      let same : displaced (reg_at rs1 s) (pos 0) ≡ reg_at rs1 s = omega arith in
      walk-sets (Addi (suc r) rs1 (pos 0)) is address r (reg_at rs1 s) s Post top low small
      (does-addi rom (offered s.readings) s.hart (suc r) rs1 (pos 0) ∙ ap (computed s.hart (suc r)) same) (access-portless rom (Addi (suc r) rs1 (pos 0)) s tt) rest

  -- an index becomes the address of its cell
  pub walk-address : (is : List Instr) (address r base shift : ℕ) (s : Moment) (Post : Moment → Type 0) → IsAtTop size address (address_of (suc r) base shift ++ is) s → suc r < 32 → suc r ≢ scratch → base < 2 ^ 32
      → ((s' : Moment) → IsAtTop size (address + 4 + 4 + 4 + 4) is s' → Sets (suc r) ((reg_at (suc r) s * 2 ^ shift % 2 ^ 32 + base) % 2 ^ 32) s s' → Walk rom Room f (address + 4 + 4 + 4 + 4) is s' Post)
      → Walk rom Room f address (address_of (suc r) base shift ++ is) s Post
  walk-address is address r base shift s Post top low free small rest =
      let x : ℕ = reg_at (suc r) s * 2 ^ shift % 2 ^ 32 in
      walk-sets (Slli (suc r) (suc r) shift) (load_immediate scratch base ++ (Add (suc r) (suc r) scratch ∷ is)) address r x s Post top low (omega arith)
      (does-slli rom (offered s.readings) s.hart (suc r) (suc r) shift) (access-portless rom (Slli (suc r) (suc r) shift) s tt)
      (λ m at shifted.
      walk-immediate (Add (suc r) (suc r) scratch ∷ is) (address + 4) 20 base m Post at (omega arith) small
      (λ n there loaded.
      let left : reg_at (suc r) n ≡ x = loaded.others (suc r) free free ∙ shifted.here in
      walk-sets (Add (suc r) (suc r) scratch) is (address + 4 + 4 + 4) r ((x + base) % 2 ^ 32) n Post there low (omega arith)
      (does-add rom (offered n.readings) n.hart (suc r) (suc r) scratch ∙ ap (λ y. computed n.hart (suc r) (plus y (reg_at scratch n))) left ∙ ap (λ y. computed n.hart (suc r) (plus x y)) loaded.here)
      (access-portless rom (Add (suc r) (suc r) scratch) n tt)
      (λ e end added. rest e end (sets-then (suc r) x ((x + base) % 2 ^ 32) s m e shifted (scratch-then (suc r) base ((x + base) % 2 ^ 32) m n e loaded added)))))

  -- a constant is taken off a register
  pub walk-less : (is : List Instr) (address r value : ℕ) (s : Moment) (Post : Moment → Type 0) → IsAtTop size address (load_immediate scratch value ++ (Sub (suc r) (suc r) scratch ∷ is)) s
      → suc r < 32 → suc r ≢ scratch → value < 2 ^ 32
      → ((s' : Moment) → IsAtTop size (address + 4 + 4 + 4) is s' → Sets (suc r) (minus (reg_at (suc r) s) value) s s' → Walk rom Room f (address + 4 + 4 + 4) is s' Post)
      → Walk rom Room f address (load_immediate scratch value ++ (Sub (suc r) (suc r) scratch ∷ is)) s Post
  walk-less is address r value s Post top low free small rest =
      walk-immediate (Sub (suc r) (suc r) scratch ∷ is) address 20 value s Post top (omega arith) small
      (λ n there loaded.
      let left : reg_at (suc r) n ≡ reg_at (suc r) s = loaded.others (suc r) free free in
      walk-sets (Sub (suc r) (suc r) scratch) is (address + 4 + 4) r (minus (reg_at (suc r) s) value) n Post there low (omega arith)
      (does-sub rom (offered n.readings) n.hart (suc r) (suc r) scratch ∙ ap (λ y. computed n.hart (suc r) (minus y (reg_at scratch n))) left
      ∙ ap (λ y. computed n.hart (suc r) (minus (reg_at (suc r) s) y)) loaded.here)
      (access-portless rom (Sub (suc r) (suc r) scratch) n tt)
      (λ e end taken. rest e end (scratch-then (suc r) value (minus (reg_at (suc r) s) value) s n e loaded taken)))

  -- ---- masks

  -- a word becomes its index
  pub walk-mask : (is : List Instr) (address r count : ℕ) (s : Moment) (Post : Moment → Type 0) → IsAtTop size address (mask_index (suc r) count ++ is) s → address % 4 ≡ 0
      → IsTermRegister (suc r) → IsMaskable count
      → ((s' : Moment) → IsAtTop size (address + 24) is s' → Sets (suc r) (index_of count (reg_at (suc r) s)) s s' → Walk rom Room f (address + 24) is s' Post)
      → Walk rom Room f address (mask_index (suc r) count ++ is) s Post
  walk-mask is address r count s Post top aligned term maskable rest =
      let room = top.room in let low = term.to in let from = term.from in let few = maskable.few in
      let index : ℕ = index_of count (reg_at (suc r) s) in
      let below : index < count = (every-word-has-an-index count (reg_at (suc r) s) maskable.some).0 in
      let m : Moment = written (address + 24) scratch count s in
      let e : Moment = written (address + 24) (suc r) index m in
      let valid_m : IsValidMoment size m =
      record { hart = record { pc = omega arith; regs = AreRegs-with_reg scratch count s.hart.regs (omega arith) top.valid.hart.regs; ram = top.valid.hart.ram } } in
      walk-line rom Room f (mask_index (suc r) count) is address s e Post (tt, (tt, (tt, (tt, (tt, (tt, tt))))))
      (index-is-masked rom size address (suc r) count s (record { valid = top.valid; here = top.here; room = omega arith }) aligned term maskable)
      (rest e
      (record {
        valid = record { hart = record { pc = omega arith; regs = AreRegs-with_reg (suc r) index m.hart.regs (omega arith) valid_m.hart.regs; ram = top.valid.hart.ram } };
        here = refl;
        room = omega arith;
      })
      (record {
        here = reg-same size (address + 24) r index m valid_m (omega arith);
        others = λ q apart free. reg-other (address + 24) (suc r) q index m apart ∙ reg-other (address + 24) scratch q count s free;
        ram = refl;
        readings = refl;
        log = refl;
      }))

  -- a word becomes the word of its value
  pub walk-decode : (is : List Instr) (address r count : ℕ) (lo : ℤ) (s : Moment) (Post : Moment → Type 0) → IsAtTop size address (decode_value (suc r) count lo ++ is) s → address % 4 ≡ 0
      → IsTermRegister (suc r) → IsMaskable count → FitsSigned w32 lo → word_of lo < 2 ^ 32 → word_of (lo +ℤ pos (index_of count (reg_at (suc r) s))) < 2 ^ 32
      → ((s' : Moment) → IsAtTop size (address + 36) is s' → Sets (suc r) (word_of (lo +ℤ pos (index_of count (reg_at (suc r) s)))) s s' → Walk rom Room f (address + 36) is s' Post)
      → Walk rom Room f address (decode_value (suc r) count lo ++ is) s Post
  walk-decode is address r count lo s Post top aligned term maskable fits lo_low value_low rest =
      let room = top.room in let low = term.to in let from = term.from in
      let x : ℕ = word_of (lo +ℤ pos (index_of count (reg_at (suc r) s))) in
      let m : Moment = written (address + 36) scratch (word_of lo) s in
      let e : Moment = written (address + 36) (suc r) x m in
      let valid_m : IsValidMoment size m =
      record { hart = record { pc = omega arith; regs = AreRegs-with_reg scratch (word_of lo) s.hart.regs lo_low top.valid.hart.regs; ram = top.valid.hart.ram } } in
      walk-line rom Room f (decode_value (suc r) count lo) is address s e Post (tt, (tt, (tt, (tt, (tt, (tt, (tt, (tt, (tt, tt)))))))))
      (value-is-decoded rom size address (suc r) count lo s (record { valid = top.valid; here = top.here; room = omega arith }) aligned term maskable fits)
      (rest e
      (record {
        valid = record { hart = record { pc = omega arith; regs = AreRegs-with_reg (suc r) x m.hart.regs value_low valid_m.hart.regs; ram = top.valid.hart.ram } };
        here = refl;
        room = omega arith;
      })
      (record {
        here = reg-same size (address + 36) r x m valid_m (omega arith);
        others = λ q apart free. reg-other (address + 36) (suc r) q x m apart ∙ reg-other (address + 36) scratch q (word_of lo) s free;
        ram = refl;
        readings = refl;
        log = refl;
      }))
