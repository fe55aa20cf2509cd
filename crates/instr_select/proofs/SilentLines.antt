-- Lines that take no reading and send nothing, instruction by instruction as they are done, from one moment on.
use Rattle.std.proofs.Common.{◌≡◌, ◌≢◌, ℕ, suc, ◌+◌, ◌*◌, ◌^◌, ◌<◌, ℤ, List, [], ◌∷◌, ◌++◌, length, Bool, true, false, cond, refl, sym, ap, subst, inl, inr, arith}
use Rattle.std.specs.Prelude.{◌==◌, ◌%◌}
use Rattle.rv_isa.specs.declared.instr.Instr.{Instr}
use Rattle.rv_isa.specs.declared.instr.Instr.TheVariants.{Lui, Jal, Jalr, Beq, Bne, Blt, Bge, Bltu, Bgeu, Lb, Lh, Lw, Lbu, Lhu, Sb, Sh, Sw}
use Rattle.rv_machine.specs.Code.{step}
use Rattle.rv_machine.specs.Effect.{branch, effect}
use Rattle.rv_machine.specs.Hart.{HartState}
use Rattle.rv_machine.specs.Run.{offered}
use Rattle.rv_machine.specs.Tick.{Event, Quiet, Sent, Ticks, Took, Trapped, done, jump, load, trap}
use Rattle.trap_model.specs.Map.{in_base, ram_base}
use Rattle.trap_model.specs.declared.map.Loads.{Loads}
use Rattle.trap_model.specs.declared.map.Loads.TheVariants.{InPort, Ram as FromRam, Rom as FromRom, Trap as NoLoad}
use Rattle.trap_model.specs.declared.width.Width.{Width}
use Rattle.trap_model.specs.declared.width.Width.TheVariants.{Byte, Half, Word}
use Rattle.block_code.specs.Effect.{LineDoes, LineStops, moment_done, reg_at, stops, written}
use Rattle.block_code.specs.Leads.{IsEntered, IsStill}
use Rattle.block_code.specs.Moment.{Moment, moment_by}
use Rattle.block_code.specs.Place.{IsAtTop}
use Rattle.block_code.specs.Plan.{IsStoreless, Line}
use Rattle.block_code.specs.Sequence.{high_part, load_by, load_fixed, low_part}
use Rattle.block_code.specs.Silent.{ArePortless, IsBelowPorts, IsPortless, IsSilent}
use Rattle.block_code.proofs.Machine.{displaced, does-lui}
use Rattle.block_code.proofs.Parts.{shift}
use Rattle.block_code.proofs.Sequences.{page, whole}
use Rattle.block_code.proofs.Silent.{NoInput, below-inputs, load-below, portless-below, still-joined, still-same}

-- from s on, the line at the address takes no reading and sends nothing, instruction by instruction as they are done
abbrev pub LineIsSilent : List ℕ → ℕ → List Instr → Moment → Type 0
LineIsSilent rom at [] s = Unit {0}
LineIsSilent rom at (i ∷ is) s =
    (s.hart.pc ≡ at → stops rom i s ≡ false → IsStill s (moment_done rom i s) × LineIsSilent rom (at + 4) is (moment_done rom i s))
    × (s.hart.pc ≢ at → LineIsSilent rom (at + 4) is s)

-- the event is at no port
abbrev is_mute : Event → Bool
is_mute Quiet = true
is_mute (Took port) = false
is_mute (Sent port value) = false
is_mute Trapped = true

mute-still : (t : Ticks) (s : Moment) → is_mute t.event ≡ true → IsStill s (moment_by t s)
mute-still t s h = by_event t.event h
  where
    by_event : (e : Event) → is_mute e ≡ true → IsStill s (moment_by (record { hart = t.hart; event = e }) s)
    by_event Quiet h = record { log = refl; readings = refl }
    by_event (Took port) h = absurd (cc)
    by_event (Sent port value) h = absurd (cc)
    by_event Trapped h = record { log = refl; readings = refl }

module _ (m : HartState) where
  jump-mute : (target : ℕ) (regs : List ℕ) → is_mute (jump m target regs).event ≡ true
  jump-mute target regs = cases (target % 4 == 0)
    where
      cases : (b : Bool) → is_mute (cond b (record { hart = record { pc = target; regs = regs; ram = m.ram }; event = Quiet }) (trap m)).event ≡ true
      cases true = refl
      cases false = refl

  branch-mute : (rom : List ℕ) (reading : ℕ) (taken : Bool) (imm : ℤ) → is_mute (done rom reading (branch taken m imm) m).event ≡ true
  unfolding done
  branch-mute rom reading true imm = jump-mute (displaced m.pc imm) m.regs
  branch-mute rom reading false imm = refl

  load-mute : (rom : List ℕ) (reading rd : ℕ) (width : Width) (signed : Bool) (from : Loads) → NoInput from → is_mute (load rom reading rd width signed m from).event ≡ true
  load-mute rom reading rd width signed (FromRom offset) h = refl
  load-mute rom reading rd width signed (FromRam offset) h = refl
  load-mute rom reading rd width signed (InPort port) h = absurd h
  load-mute rom reading rd width signed NoLoad h = refl

  effect-mute : (rom : List ℕ) (reading : ℕ) (i : Instr) → IsStoreless i → IsBelowPorts i m → is_mute (step rom reading i m).event ≡ true
  unfolding effect done
  effect-mute rom reading (Jal rd imm) w s = jump-mute _ _
  effect-mute rom reading (Jalr rd rs1 imm) w s = jump-mute _ _
  effect-mute rom reading (Beq rs1 rs2 imm) w s = branch-mute rom reading _ imm
  effect-mute rom reading (Bne rs1 rs2 imm) w s = branch-mute rom reading _ imm
  effect-mute rom reading (Blt rs1 rs2 imm) w s = branch-mute rom reading _ imm
  effect-mute rom reading (Bge rs1 rs2 imm) w s = branch-mute rom reading _ imm
  effect-mute rom reading (Bltu rs1 rs2 imm) w s = branch-mute rom reading _ imm
  effect-mute rom reading (Bgeu rs1 rs2 imm) w s = branch-mute rom reading _ imm
  effect-mute rom reading (Lb rd rs1 imm) w s = load-mute rom reading rd Byte true _ (below-inputs _ _ _ 1 s)
  effect-mute rom reading (Lh rd rs1 imm) w s = load-mute rom reading rd Half true _ (below-inputs _ _ _ 2 s)
  effect-mute rom reading (Lw rd rs1 imm) w s = load-mute rom reading rd Word true _ (below-inputs _ _ _ 4 s)
  effect-mute rom reading (Lbu rd rs1 imm) w s = load-mute rom reading rd Byte false _ (below-inputs _ _ _ 1 s)
  effect-mute rom reading (Lhu rd rs1 imm) w s = load-mute rom reading rd Half false _ (below-inputs _ _ _ 2 s)
  effect-mute rom reading (Sb rs1 rs2 imm) w s = absurd w
  effect-mute rom reading (Sh rs1 rs2 imm) w s = absurd w
  effect-mute rom reading (Sw rs1 rs2 imm) w s = absurd w
  effect-mute rom reading _ w s = refl

-- an instruction that loads only below the ports is silent
pub still-below : (rom : List ℕ) (i : Instr) (s : Moment) → IsStoreless i → IsBelowPorts i s.hart → IsStill s (moment_done rom i s)
still-below rom i s w h = mute-still (step rom (offered s.readings) i s.hart) s (effect-mute s.hart rom (offered s.readings) i w h)

portless-storeless : (i : Instr) → IsPortless i → IsStoreless i
portless-storeless (Sb rs1 rs2 imm) p = absurd p
portless-storeless (Sh rs1 rs2 imm) p = absurd p
portless-storeless (Sw rs1 rs2 imm) p = absurd p
portless-storeless _ p = tt

load-storeless : (width : Width) (rd rs1 : ℕ) (imm : ℤ) → IsStoreless (load_by width rd rs1 imm)
load-storeless Byte rd rs1 imm = tt
load-storeless Half rd rs1 imm = tt
load-storeless Word rd rs1 imm = tt

pub silent-done : (rom : List ℕ) (is : List Instr) (at : ℕ) (s s' : Moment) → LineIsSilent rom at is s → LineDoes rom at is s s' → IsStill s s'
silent-done rom [] at s s' h d = subst (IsStill s) (sym d) (still-same s)
silent-done rom (i ∷ is) at s s' h (inl d) = let g = h.0 d.0 d.1 in still-joined s (moment_done rom i s) s' g.0 (silent-done rom is (at + 4) (moment_done rom i s) s' g.1 d.2)
silent-done rom (i ∷ is) at s s' h (inr d) = silent-done rom is (at + 4) s s' (h.1 d.0) d.1

pub silent-stopped : (rom : List ℕ) (is : List Instr) (at : ℕ) (s s' : Moment) → LineIsSilent rom at is s → LineStops rom at is s s' → IsStill s s'
silent-stopped rom [] at s s' h t = absurd t
silent-stopped rom (i ∷ is) at s s' h (inl t) = subst (IsStill s) (sym t.2) (still-same s)
silent-stopped rom (i ∷ is) at s s' h (inr (inl t)) = let g = h.0 t.0 t.1 in still-joined s (moment_done rom i s) s' g.0 (silent-stopped rom is (at + 4) (moment_done rom i s) s' g.1 t.2)
silent-stopped rom (i ∷ is) at s s' h (inr (inr t)) = silent-stopped rom is (at + 4) s s' (h.1 t.0) t.1

-- a line is silent that is so from its top, instruction by instruction
pub silent-line : (instrs : List Instr) → ((rom : List ℕ) (size at : ℕ) (s : Moment) → IsEntered rom size at (Line instrs) s → LineIsSilent rom at instrs s) → IsSilent (Line instrs)
silent-line instrs h = record {
  does = λ rom size at s s' e d. silent-done rom instrs at s s' (h rom size at s e) d;
  stops = λ rom size at s s' e t. silent-stopped rom instrs at s s' (h rom size at s e) t;
}

-- a line in two parts
pub silent-append : (rom : List ℕ) (at : ℕ) (first second : List Instr) (s : Moment) → LineIsSilent rom at first s
    → ((mid : Moment) → LineDoes rom at first s mid → LineIsSilent rom (at + 4 * length first) second mid) → LineIsSilent rom at (first ++ second) s
silent-append rom at [] second s p q = let e : at + 4 * 0 ≡ at = omega arith in subst (λ a. LineIsSilent rom a second s) e (q s refl)
silent-append rom at (i ∷ is) second s p q = (
  λ here t. ((p.0 here t).0, silent-append rom (at + 4) is second (moment_done rom i s) (p.0 here t).1 (λ mid d. behind mid (q mid (inl (here, t, d))))),
  λ away. silent-append rom (at + 4) is second s (p.1 away) (λ mid d. behind mid (q mid (inr (away, d)))),
)
  where
    behind : (mid : Moment) → LineIsSilent rom (at + 4 * suc (length is)) second mid → LineIsSilent rom (at + 4 + 4 * length is) second mid
    behind mid = subst (λ a. LineIsSilent rom a second mid) (sym (shift at is))

-- a load below the ports, and then the rest
pub silent-load : (rom : List ℕ) (at : ℕ) (width : Width) (rd rs1 : ℕ) (imm : ℤ) (is : List Instr) (s : Moment) → s.hart.pc ≡ at → displaced (reg_at rs1 s) imm < in_base
    → LineIsSilent rom (at + 4) is (moment_done rom (load_by width rd rs1 imm) s) → LineIsSilent rom at (load_by width rd rs1 imm ∷ is) s
silent-load rom at width rd rs1 imm is s here below rest =
    (λ h t. (still-below rom (load_by width rd rs1 imm) s (load-storeless width rd rs1 imm) (load-below width rd rs1 imm s.hart below), rest), λ away. absurd (away here))

-- a line with no load and no store
pub silent-portless : (rom : List ℕ) (at : ℕ) (instrs : List Instr) (s : Moment) → ArePortless instrs → LineIsSilent rom at instrs s
silent-portless rom at [] s p = tt
silent-portless rom at (i ∷ is) s p = (
  λ here t. (still-below rom i s (portless-storeless i p.0) (portless-below i s.hart p.0), silent-portless rom (at + 4) is (moment_done rom i s) p.1),
  λ away. silent-portless rom (at + 4) is s p.1,
)

-- a load at a fixed offset of RAM
pub silent-fixed : (rom : List ℕ) (size at : ℕ) (r offset : ℕ) (s : Moment) → IsAtTop size at (load_fixed Word (suc r) offset) s → suc r < 32 → offset < 2 ^ 20
    → LineIsSilent rom at (load_fixed Word (suc r) offset) s
silent-fixed rom size at r offset s top small low = (
  λ here t. (
    still-below rom (Lui (suc r) (high_part x)) s tt tt,
    subst (LineIsSilent rom (at + 4) (load_by Word (suc r) (suc r) (low_part x) ∷ [])) (sym (ap (λ t. moment_by t s) (does-lui rom (offered s.readings) s.hart (suc r) (high_part x)))) (
      λ h t. (
        still-below rom (load_by Word (suc r) (suc r) (low_part x)) s1 tt (load-below Word (suc r) (suc r) (low_part x) s1.hart
            (subst (λ y. y < in_base) (sym (whole rom size s.hart.pc s r x top.valid small (omega arith))) (omega arith))),
        tt,
      ),
      λ away. tt,
    ),
  ),
  λ away. absurd (away top.here),
)
  where
    x : ℕ
    x = ram_base + offset

    s1 : Moment
    s1 = written ((s.hart.pc + 4) % 2 ^ 32) (suc r) (page x) s

-- a line with no load and no store is a silent block
pub portless-line : (instrs : List Instr) → ArePortless instrs → IsSilent (Line instrs)
portless-line instrs p = silent-line instrs (λ rom size at s e. silent-portless rom at instrs s p)
