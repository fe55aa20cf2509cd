-- The ticks of single instructions, the places of RAM, and what a tick keeps.
use Rattle.std.proofs.Common.{◌≡◌, ℕ, ◌+◌, ◌-◌, ◌*◌, ◌/◌, ◌%◌, ◌^◌, ◌<◌, ◌≤◌, ℤ, pos, List, length, Some, Bool, true, false, cond, not, refl, sym, ap, ◌∙◌, arith}
use Rattle.std.proofs.lemmas.Bool.Decides.{nat_tests}
use Rattle.std.specs.Prelude.{◌==◌, ◌&&◌, nat_le, nat_lt}
use Rattle.rv_isa.specs.declared.instr.Instr.{Instr}
use Rattle.rv_isa.specs.declared.instr.Instr.TheVariants.{Addi, Beq, Bge, Bgeu, Blt, Bltu, Bne, Jal, Lui, Lw, Sw}
use Rattle.rv_machine.specs.Code.{step}
use Rattle.rv_machine.specs.Effect.{branch, effect, reg}
use Rattle.rv_machine.specs.Hart.{AreWords, HartState, with_reg}
use Rattle.rv_machine.specs.Memory.{number_at, stored}
use Rattle.rv_machine.specs.Run.{offered}
use Rattle.rv_machine.specs.Tick.{Quiet, Ticks, done, fetched, jump, load, onward, store}
use Rattle.rv_machine.specs.Word.{extended, is_less, plus}
use Rattle.rv_machine.proofs.Run.{offered-below}
use Rattle.rv_machine.proofs.Store.{number_at-stored, number_at-stored_before, number_at-stored_behind}
use Rattle.rv_machine.proofs.Valid.{valid-tick}
use Rattle.trap_model.specs.Map.{in_base, lies_in, load_at, out_base, ram_base, store_at}
use Rattle.trap_model.specs.declared.map.Loads.TheVariants.{Ram as FromRam, Trap as NoLoad}
use Rattle.trap_model.specs.declared.map.Stores.TheVariants.{OutPort, Ram as IntoRam, Trap as NoStore}
use Rattle.trap_model.specs.Width.{bytes_of}
use Rattle.trap_model.specs.declared.width.Width.{Width}
use Rattle.trap_model.specs.declared.width.Width.TheVariants.{Byte, Half, Word}
use Rattle.block_code.specs.Access.{NoAccess, access, access_at, access_of, by_effect, by_load, by_store}
use Rattle.block_code.specs.Moment.{IsValidMoment, Moment, next}
use Rattle.block_code.specs.Place.{word_in}
use Rattle.block_code.specs.Plan.{skip_below, skip_if_set}
use Rattle.block_code.specs.Sequence.{load_by, store_by}

-- the sum of a word and a signed immediate
abbrev pub displaced : ℕ → ℤ → ℕ
displaced x imm = plus x (extended imm)

-- x is written to rd
abbrev pub computed : HartState → ℕ → ℕ → Ticks
computed m rd x = onward m (with_reg rd x m.regs) m.ram Quiet

-- a jump where the branch is taken, else on to the next word
abbrev pub branch_tick : HartState → Bool → ℤ → Ticks
branch_tick m taken imm = cond taken (jump m (displaced m.pc imm) m.regs) (onward m m.regs m.ram Quiet)

-- the branch is taken
abbrev pub takes : Instr → HartState → Bool
takes (Beq rs1 rs2 imm) m = reg m rs1 == reg m rs2
takes (Bne rs1 rs2 imm) m = not (reg m rs1 == reg m rs2)
takes (Blt rs1 rs2 imm) m = is_less (reg m rs1) (reg m rs2)
takes (Bge rs1 rs2 imm) m = not (is_less (reg m rs1) (reg m rs2))
takes (Bltu rs1 rs2 imm) m = nat_lt (reg m rs1) (reg m rs2)
takes (Bgeu rs1 rs2 imm) m = not (nat_lt (reg m rs1) (reg m rs2))
takes _ m = false

-- ---- the instructions of a block's own
module _ (rom : List ℕ) (reading : ℕ) (m : HartState) where
  pub done-branch : (taken : Bool) (imm : ℤ) → done rom reading (branch taken m imm) m ≡ branch_tick m taken imm
  unfolding done
  done-branch true imm = refl
  done-branch false imm = refl

  pub does-lui : (rd imm : ℕ) → step rom reading (Lui rd imm) m ≡ computed m rd (imm * 2 ^ 12 % 2 ^ 32)
  unfolding effect done
  does-lui rd imm = refl

  pub does-addi : (rd rs1 : ℕ) (imm : ℤ) → step rom reading (Addi rd rs1 imm) m ≡ computed m rd (displaced (reg m rs1) imm)
  unfolding effect done
  does-addi rd rs1 imm = refl

  pub does-jal : (imm : ℤ) → step rom reading (Jal 0 imm) m ≡ jump m (displaced m.pc imm) m.regs
  unfolding effect done
  does-jal imm = refl

  pub does-lw : (rd rs1 : ℕ) (imm : ℤ) → step rom reading (Lw rd rs1 imm) m ≡ load rom reading rd Word true m (load_at (4 * length rom) (length m.ram) (displaced (reg m rs1) imm) 4)
  unfolding effect done
  does-lw rd rs1 imm = refl

  pub does-load : (width : Width) (rd rs1 : ℕ) (imm : ℤ) (offset : ℕ)
      → load_at (4 * length rom) (length m.ram) (displaced (reg m rs1) imm) (bytes_of width) ≡ FromRam offset
      → step rom reading (load_by width rd rs1 imm) m ≡ computed m rd (number_at (bytes_of width) offset m.ram)
  unfolding effect done
  does-load Byte rd rs1 imm offset e = ap (load rom reading rd Byte false m) e
  does-load Half rd rs1 imm offset e = ap (load rom reading rd Half false m) e
  does-load Word rd rs1 imm offset e = ap (load rom reading rd Word true m) e

  pub does-store : (width : Width) (rs1 rs2 : ℕ) (imm : ℤ)
      → step rom reading (store_by width rs1 rs2 imm) m ≡ store m (bytes_of width) (reg m rs2) (store_at (length m.ram) (displaced (reg m rs1) imm) (bytes_of width))
  unfolding effect done
  does-store Byte rs1 rs2 imm = refl
  does-store Half rs1 rs2 imm = refl
  does-store Word rs1 rs2 imm = refl

  pub does-skip_below : step rom reading skip_below m ≡ branch_tick m (takes skip_below m) (pos 8)
  unfolding effect
  does-skip_below = done-branch (takes skip_below m) (pos 8)

  pub does-skip_if_set : (test offset : ℕ) → step rom reading (skip_if_set test offset) m ≡ branch_tick m (takes (skip_if_set test offset) m) (pos offset)
  unfolding effect
  does-skip_if_set test offset = done-branch (takes (skip_if_set test offset) m) (pos offset)

-- ---- their accesses
module _ (rom : List ℕ) where
  pub access-fetched : (s : Moment) (i : Instr) → fetched rom s.hart.pc ≡ Some i → access rom s ≡ access_of rom i s
  unfolding access
  access-fetched s i f = ap (access_at rom s) f

  pub access-lui : (rd imm : ℕ) (s : Moment) → access_of rom (Lui rd imm) s ≡ NoAccess
  unfolding effect
  access-lui rd imm s = refl

  pub access-addi : (rd rs1 : ℕ) (imm : ℤ) (s : Moment) → access_of rom (Addi rd rs1 imm) s ≡ NoAccess
  unfolding effect
  access-addi rd rs1 imm s = refl

  pub access-jal : (rd : ℕ) (imm : ℤ) (s : Moment) → access_of rom (Jal rd imm) s ≡ NoAccess
  unfolding effect
  access-jal rd imm s = refl

  pub access-branch : (taken : Bool) (imm : ℤ) (s : Moment) → by_effect rom s.hart (branch taken s.hart imm) ≡ NoAccess
  access-branch true imm s = refl
  access-branch false imm s = refl

  pub access-skip_below : (s : Moment) → access_of rom skip_below s ≡ NoAccess
  unfolding effect
  access-skip_below s = access-branch (takes skip_below s.hart) (pos 8) s

  pub access-skip_if_set : (test offset : ℕ) (s : Moment) → access_of rom (skip_if_set test offset) s ≡ NoAccess
  unfolding effect
  access-skip_if_set test offset s = access-branch (takes (skip_if_set test offset) s.hart) (pos offset) s

  pub access-lw : (rd rs1 : ℕ) (imm : ℤ) (s : Moment) → access_of rom (Lw rd rs1 imm) s ≡ by_load (load_at (4 * length rom) (length s.hart.ram) (displaced (reg s.hart rs1) imm) 4)
  unfolding effect
  access-lw rd rs1 imm s = refl

  pub access-sw : (rs1 rs2 : ℕ) (imm : ℤ) (s : Moment) → access_of rom (Sw rs1 rs2 imm) s ≡ by_store 4 (store_at (length s.hart.ram) (displaced (reg s.hart rs1) imm) 4)
  unfolding effect
  access-sw rs1 rs2 imm s = refl

-- ---- where a place of RAM lies
fits : (width : Width) (offset : ℕ) → offset % bytes_of width ≡ 0 → ((ram_base + offset) % bytes_of width == 0) ≡ true
fits Byte offset h = grind (arith, nat_tests)
fits Half offset h = grind (arith, nat_tests)
fits Word offset h = grind (arith, nat_tests)

module _ (width : Width) (size offset : ℕ) where
  in-ram : offset < size → (nat_le ram_base (ram_base + offset) && nat_lt (ram_base + offset - ram_base) size) ≡ true
  in-ram below = grind (arith, nat_tests)

  past-ram : size ≤ offset → (nat_le ram_base (ram_base + offset) && nat_lt (ram_base + offset - ram_base) size) ≡ false
  past-ram past = grind (arith, nat_tests)

  back : ram_base + offset - ram_base ≡ offset
  back = omega arith

  pub store_at-ram : offset < size → offset % bytes_of width ≡ 0 → store_at size (ram_base + offset) (bytes_of width) ≡ IntoRam offset
  unfolding store_at lies_in
  store_at-ram below h =
      let test = fits width offset h in let within = in-ram below in rw (test, within, back) refl

  pub load_at-ram : (rom_size : ℕ) → rom_size ≤ 2 ^ 20 → offset < size → offset % bytes_of width ≡ 0 → load_at rom_size size (ram_base + offset) (bytes_of width) ≡ FromRam offset
  unfolding load_at lies_in
  load_at-ram rom_size small below h =
      let no_rom : (nat_le 0 (ram_base + offset) && nat_lt (ram_base + offset - 0) rom_size) ≡ false = grind (arith, nat_tests) in
      let test = fits width offset h in let within = in-ram below in rw (test, no_rom, within, back) refl

  -- an address past RAM and below the ports reads and takes nothing
  pub store_at-past : size ≤ offset → offset < 2 ^ 20 → store_at size (ram_base + offset) (bytes_of width) ≡ NoStore
  unfolding store_at lies_in
  store_at-past past limit =
      let outside = past-ram past in
      let no_port : (nat_le out_base (ram_base + offset) && nat_lt (ram_base + offset - out_base) 1024) ≡ false = grind (arith, nat_tests) in
      rw (outside, no_port) (none (bytes_of width == 4) ((ram_base + offset) % bytes_of width == 0))
    where
      none : (word aligned : Bool) → cond aligned (cond (word && false) (OutPort ((ram_base + offset - out_base) / 4)) NoStore) NoStore ≡ NoStore
      none true true = refl
      none false true = refl
      none word false = refl

pub load_at-past : (rom_size size offset : ℕ) → rom_size ≤ 2 ^ 20 → size ≤ offset → offset < 2 ^ 20 → load_at rom_size size (ram_base + offset) 4 ≡ NoLoad
unfolding load_at lies_in
load_at-past rom_size size offset small past limit =
    let outside = past-ram Word size offset past in
    let no_rom : (nat_le 0 (ram_base + offset) && nat_lt (ram_base + offset - 0) rom_size) ≡ false = grind (arith, nat_tests) in
    let no_port : (nat_le in_base (ram_base + offset) && nat_lt (ram_base + offset - in_base) 1024) ≡ false = grind (arith, nat_tests) in
    rw (outside, no_rom, no_port) (same ((ram_base + offset) % 4 == 0))
  where
    same : (b : Bool) → cond b NoLoad NoLoad ≡ NoLoad
    same true = refl
    same false = refl

-- ---- the words of RAM
pub word-is : (slot : ℕ) (ram : List ℕ) → number_at 4 slot ram ≡ word_in slot ram
unfolding word_in
word-is slot ram = refl

module _ (slot x : ℕ) (ram : List ℕ) (inside : slot + 4 ≤ length ram) where
  pub word_in-stored : x < 2 ^ 32 → word_in slot (stored 4 slot x ram) ≡ x
  word_in-stored h = sym (word-is slot (stored 4 slot x ram)) ∙ number_at-stored 4 slot x ram inside h

  pub word_in-before : (other : ℕ) → other + 4 ≤ slot → word_in other (stored 4 slot x ram) ≡ word_in other ram
  word_in-before other h = sym (word-is other (stored 4 slot x ram)) ∙ number_at-stored_before 4 slot x ram inside 4 other h ∙ word-is other ram

  pub word_in-behind : (other : ℕ) → slot + 4 ≤ other → word_in other (stored 4 slot x ram) ≡ word_in other ram
  word_in-behind other h = sym (word-is other (stored 4 slot x ram)) ∙ number_at-stored_behind 4 slot x ram inside 4 other h ∙ word-is other ram

-- ---- a tick keeps a moment valid
pub valid-next : (size : ℕ) → size % 4 ≡ 0 → (rom : List ℕ) → AreWords rom → (s : Moment) → IsValidMoment size s → IsValidMoment size (next rom s)
unfolding next
valid-next size multiple rom words s v = record {
  hart = valid-tick size s.hart v.hart rom (offered s.readings) words (offered-below s.readings) multiple;
}
