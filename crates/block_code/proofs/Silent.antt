-- What blocks leave alone whatever the hart holds: ports, registers and RAM.
use Rattle.std.proofs.Common.{◌≡◌, ◌≢◌, ℕ, zero, suc, ◌+◌, ◌-◌, ◌*◌, ◌/◌, ◌%◌, ◌<◌, ◌≤◌, ℤ, List, [], ◌∷◌, ◌++◌, slice_index, Bool, true, false, cond, refl, sym, ◌∙◌, subst, inl, inr, arith, get_or-set_other}
use Rattle.std.proofs.lemmas.Bool.Decides.{nat_tests}
use Rattle.std.specs.Prelude.{◌==◌, ◌&&◌, nat_le, nat_lt}
use Rattle.rv_isa.specs.declared.instr.Instr.{Instr}
use Rattle.rv_isa.specs.declared.instr.Instr.TheVariants.{Lui, Auipc, Jal, Jalr, Beq, Bne, Blt, Bge, Bltu, Bgeu, Lb, Lh, Lw, Lbu, Lhu, Sb, Sh, Sw, Addi, Slti, Sltiu, Xori, Ori, Andi, Slli, Srli, Srai}
use Rattle.rv_isa.specs.declared.instr.Instr.TheVariants.{Add, Sub, Sll, Slt, Sltu, Xor, Srl, Sra, Or, And}
use Rattle.rv_machine.specs.Code.{step}
use Rattle.rv_machine.specs.Effect.{branch, effect}
use Rattle.rv_machine.specs.Hart.{HartState, with_reg}
use Rattle.rv_machine.specs.Memory.{stored}
use Rattle.rv_machine.specs.Run.{offered}
use Rattle.rv_machine.specs.Tick.{Quiet, done, jump, load, store, trap}
use Rattle.trap_model.specs.Map.{in_base, lies_in, load_at, ram_base}
use Rattle.trap_model.specs.declared.map.Loads.{Loads}
use Rattle.trap_model.specs.declared.map.Loads.TheVariants.{InPort, Ram as FromRam, Rom as FromRom, Trap as NoLoad}
use Rattle.trap_model.specs.declared.map.Stores.{Stores}
use Rattle.trap_model.specs.declared.map.Stores.TheVariants.{OutPort, Ram as IntoRam, Trap as NoStore}
use Rattle.trap_model.specs.declared.width.Width.{Width}
use Rattle.trap_model.specs.declared.width.Width.TheVariants.{Byte, Half, Word}
use Rattle.block_code.specs.Block.{IsSlot}
use Rattle.block_code.specs.Effect.{Does, LineDoes, LineStops, Own, Pass, Passes, PassesStop, SearchStops, Searches, Stops, moment_done, moved}
use Rattle.block_code.specs.Leads.{IsEntered, IsOwnStep, IsStill, KeepsRegs}
use Rattle.block_code.specs.Moment.{IsValidMoment, Moment}
use Rattle.block_code.specs.Plan.{AreStoreless, If, Line, Loop, Plan, Scan, Seq, len}
use Rattle.block_code.specs.Sequence.{load_by, scratch}
use Rattle.block_code.specs.Silent.{ArePortless, IsBelowPorts, IsOutside, IsPortless, IsSilent, IsStorelessPlan, Respects, WriteOutside, WritesNone, WritesOutside}
use Rattle.block_code.proofs.Behind.{comes-out, own-stored}
use Rattle.block_code.proofs.Entered.{enter-else, enter-first, enter-second, enter-then, entered-body, entered-found, entered-guard, entered-none, own-step, own-step-stored}
use Rattle.block_code.proofs.Machine.{displaced}
use Rattle.block_code.proofs.Parts.{shift}
use Rattle.block_code.proofs.Storeless.{effect-ram}

-- ---- relations that blocks respect, by their structure
module _ (Same : Moment → Moment → Type 0) (same : (s : Moment) → Same s s) (joined : (a b c : Moment) → Same a b → Same b c → Same a c) where
  -- a line respects what each of its instructions does
  pub respects-line : (Good : List Instr → Type 0) → ((i : Instr) (is : List Instr) → Good (i ∷ is) → (rom : List ℕ) (s : Moment) → Same s (moment_done rom i s))
      → ((i : Instr) (is : List Instr) → Good (i ∷ is) → Good is) → (instrs : List Instr) → Good instrs → Respects Same (Line instrs)
  respects-line Good first rest instrs good = record { does = λ rom size at s s' e d. does rom instrs good at s s' d; stops = λ rom size at s s' e t. never rom instrs good at s s' t }
    where
      does : (rom : List ℕ) (is : List Instr) → Good is → (at : ℕ) (s s' : Moment) → LineDoes rom at is s s' → Same s s'
      does rom [] g at s s' d = subst (Same s) (sym d) (same s)
      does rom (i ∷ is) g at s s' (inl d) = joined s (moment_done rom i s) s' (first i is g rom s) (does rom is (rest i is g) (at + 4) (moment_done rom i s) s' d.2)
      does rom (i ∷ is) g at s s' (inr d) = does rom is (rest i is g) (at + 4) s s' d.1

      never : (rom : List ℕ) (is : List Instr) → Good is → (at : ℕ) (s s' : Moment) → LineStops rom at is s s' → Same s s'
      never rom [] g at s s' t = absurd t
      never rom (i ∷ is) g at s s' (inl t) = subst (Same s) (sym t.2) (same s)
      never rom (i ∷ is) g at s s' (inr (inl t)) = joined s (moment_done rom i s) s' (first i is g rom s) (never rom is (rest i is g) (at + 4) (moment_done rom i s) s' t.2)
      never rom (i ∷ is) g at s s' (inr (inr t)) = never rom is (rest i is g) (at + 4) s s' t.1

  pub respects-seq : (first second : Plan) → Respects Same first → Respects Same second → Respects Same (Seq first second)
  respects-seq first second f g = record { does = λ rom size at s s' e d. does rom size at s s' e d; stops = λ rom size at s s' e t. never rom size at s s' e t }
    where
      does : (rom : List ℕ) (size at : ℕ) (s s' : Moment) → IsEntered rom size at (Seq first second) s → Does rom at (Seq first second) s s' → Same s s'
      does rom size at s s' e (mid, a, b) = joined s mid s' (f.does rom size at s mid (enter-first e) a) (g.does rom size (at + 4 * len first) mid s' (enter-second e a) b)

      never : (rom : List ℕ) (size at : ℕ) (s s' : Moment) → IsEntered rom size at (Seq first second) s → Stops rom at (Seq first second) s s' → Same s s'
      never rom size at s s' e (inl t) = f.stops rom size at s s' (enter-first e) t
      never rom size at s s' e (inr (mid, a, t)) = joined s mid s' (f.does rom size at s mid (enter-first e) a) (g.stops rom size (at + 4 * len first) mid s' (enter-second e a) t)

  pub respects-if : (moves : (at : ℕ) (s : Moment) → Same s (moved at s)) (test : ℕ) (then_part else_part : Plan) → Respects Same then_part → Respects Same else_part
      → Respects Same (If test then_part else_part)
  respects-if moves test then_part else_part f g = record { does = λ rom size at s s' e d. does rom size at s s' e d; stops = λ rom size at s s' e t. never rom size at s s' e t }
    where
      does : (rom : List ℕ) (size at : ℕ) (s s' : Moment) → IsEntered rom size at (If test then_part else_part) s → Does rom at (If test then_part else_part) s s' → Same s s'
      does rom size at s s' e (inl (set, (ended, d, is))) =
          let end = at + 12 + 4 * len then_part + 4 * len else_part in
          subst (Same s) (sym is)
          (joined s (moved (at + 8) s) (moved end ended) (moves (at + 8) s)
          (joined (moved (at + 8) s) ended (moved end ended) (f.does rom size (at + 8) (moved (at + 8) s) ended (enter-then e) d) (moves end ended)))
      does rom size at s s' e (inr (clear, d)) =
          let else_at = at + 12 + 4 * len then_part in
          joined s (moved else_at s) s' (moves else_at s) (g.does rom size else_at (moved else_at s) s' (enter-else e) d)

      never : (rom : List ℕ) (size at : ℕ) (s s' : Moment) → IsEntered rom size at (If test then_part else_part) s → Stops rom at (If test then_part else_part) s s' → Same s s'
      never rom size at s s' e (inl t) = joined s (moved (at + 8) s) s' (moves (at + 8) s) (f.stops rom size (at + 8) (moved (at + 8) s) s' (enter-then e) t.1)
      never rom size at s s' e (inr t) =
          let else_at = at + 12 + 4 * len then_part in
          joined s (moved else_at s) s' (moves else_at s) (g.stops rom size else_at (moved else_at s) s' (enter-else e) t.1)

-- over the own code of a loop or a scan
module _ (Same : Moment → Moment → Type 0) (size slot : ℕ) (is_slot : IsSlot slot) (inside : slot < size) (multiple : size % 4 ≡ 0) (owns : (s s' : Moment) → IsOwnStep slot s s' → Same s s') where
  own-kept-same : (to : ℕ) (s s' : Moment) → Own to s.hart.ram s s' → Same s s'
  own-kept-same to s s' own = owns s s' (own-step size slot is_slot inside to s s' own)

  own-set-same : (to x : ℕ) (s s' : Moment) → IsValidMoment size s → Own to (stored 4 slot x s.hart.ram) s s' → Same s s'
  own-set-same to x s s' valid own = owns s s' (own-step-stored size slot is_slot inside to x s s' multiple valid own)

module _ (Same : Moment → Moment → Type 0) (joined : (a b c : Moment) → Same a b → Same b c → Same a c) (count slot : ℕ) (owns : (s s' : Moment) → IsOwnStep slot s s' → Same s s')
    (body : Plan) (f : Respects Same body) (rom : List ℕ) (size at : ℕ) (x : Moment) (e : IsEntered rom size at (Loop count slot body) x) where
  pass-same : (c : ℕ) (s mid s' : Moment) → IsValidMoment size s → Pass (Does rom (at + 32) body) (at + 8) (at + 32) slot c s mid → (IsValidMoment size mid → Same mid s') → Same s s'
  pass-same c s mid s' valid pass rest =
      let entered = entered-body e s pass.begun valid pass.enters in
      let out = comes-out entered pass.does in
      joined s pass.begun s' (own-kept-same Same size slot e.block.1 e.holds.0 e.machine.ram_aligned owns (at + 32) s pass.begun pass.enters)
      (joined pass.begun pass.ended s' (f.does rom size (at + 32) pass.begun pass.ended entered pass.does)
      (joined pass.ended mid s' (own-set-same Same size slot e.block.1 e.holds.0 e.machine.ram_aligned owns (at + 8) (c + 1) pass.ended mid out.0 pass.raises)
      (rest (own-stored rom size e.machine (at + 8) slot (c + 1) pass.ended mid e.block.1 e.holds.0 out.0 pass.raises))))

  passes-same : (more c : ℕ) (s s' : Moment) → IsValidMoment size s → Passes (Does rom (at + 32) body) (at + 8) (at + 32) (at + 52 + 4 * len body) slot more c s s' → Same s s'
  passes-same zero c s s' valid own = own-kept-same Same size slot e.block.1 e.holds.0 e.machine.ram_aligned owns (at + 52 + 4 * len body) s s' own
  passes-same (suc more) c s s' valid (mid, pass, rest) = pass-same c s mid s' valid pass (λ v. passes-same more (c + 1) mid s' v rest)

  stops-same : (more c : ℕ) (s s' : Moment) → IsValidMoment size s → PassesStop (Does rom (at + 32) body) (Stops rom (at + 32) body) (at + 8) (at + 32) slot more c s s' → Same s s'
  stops-same zero c s s' valid t = absurd t
  stops-same (suc more) c s s' valid (inl pass) =
      joined s pass.begun s' (own-kept-same Same size slot e.block.1 e.holds.0 e.machine.ram_aligned owns (at + 32) s pass.begun pass.enters)
      (f.stops rom size (at + 32) pass.begun s' (entered-body e s pass.begun valid pass.enters) pass.stops)
  stops-same (suc more) c s s' valid (inr (mid, pass, rest)) = pass-same c s mid s' valid pass (λ v. stops-same more (c + 1) mid s' v rest)

  loop-begins : (head s' : Moment) → Own (at + 8) (stored 4 slot 0 x.hart.ram) x head → (IsValidMoment size head → Same head s') → Same x s'
  loop-begins head s' own rest =
      joined x head s' (own-set-same Same size slot e.block.1 e.holds.0 e.machine.ram_aligned owns (at + 8) 0 x head e.valid own)
      (rest (own-stored rom size e.machine (at + 8) slot 0 x head e.block.1 e.holds.0 e.valid own))

  loop-does : (s' : Moment) → Does rom at (Loop count slot body) x s' → Same x s'
  loop-does s' (head, own, passes) = loop-begins head s' own (λ v. passes-same count 0 head s' v passes)

  loop-stops : (s' : Moment) → Stops rom at (Loop count slot body) x s' → Same x s'
  loop-stops s' (head, own, stop) = loop-begins head s' own (λ v. stops-same count 0 head s' v stop)

pub respects-loop : (Same : Moment → Moment → Type 0) → ((a b c : Moment) → Same a b → Same b c → Same a c) → (count slot : ℕ) → ((s s' : Moment) → IsOwnStep slot s s' → Same s s') → (body : Plan)
    → Respects Same body → Respects Same (Loop count slot body)
respects-loop Same joined count slot owns body f = record {
  does = λ rom size at s s' e d. loop-does Same joined count slot owns body f rom size at s e s' d;
  stops = λ rom size at s s' e t. loop-stops Same joined count slot owns body f rom size at s e s' t;
}

module _ (Same : Moment → Moment → Type 0) (joined : (a b c : Moment) → Same a b → Same b c → Same a c) (count slot : ℕ) (owns : (s s' : Moment) → IsOwnStep slot s s' → Same s s')
    (guard : Plan) (test : ℕ) (found none : Plan) (f : Respects Same guard) (g : Respects Same found) (h : Respects Same none)
    (rom : List ℕ) (size at : ℕ) (x : Moment) (e : IsEntered rom size at (Scan count slot guard test found none) x) where
  abbrev found_at : ℕ
  found_at = at + 56 + 4 * len guard

  abbrev none_at : ℕ
  none_at = at + 56 + 4 * len guard + 4 * len found + 4

  stays : (to : ℕ) (s s' : Moment) → Own to s.hart.ram s s' → Same s s'
  stays to s s' own = own-kept-same Same size slot e.block.1 e.holds.0 e.machine.ram_aligned owns to s s' own

  shifts : (to : ℕ) (s : Moment) → Same s (moved to s)
  shifts to s = owns s (moved to s) (record { regs = λ r a b. refl; bytes = λ o out. refl; count = refl; readings = refl; log = refl })

  raise : (c : ℕ) (judged mid s' : Moment) → IsValidMoment size judged → Own (at + 8) (stored 4 slot (c + 1) judged.hart.ram) judged mid → (IsValidMoment size mid → Same mid s') → Same judged s'
  raise c judged mid s' valid own rest =
      joined judged mid s' (own-set-same Same size slot e.block.1 e.holds.0 e.machine.ram_aligned owns (at + 8) (c + 1) judged mid valid own)
      (rest (own-stored rom size e.machine (at + 8) slot (c + 1) judged mid e.block.1 e.holds.0 valid own))

  judge : (s begun judged s' : Moment) → IsValidMoment size s → Own (at + 32) s.hart.ram s begun → Does rom (at + 32) guard begun judged → (IsValidMoment size judged → Same judged s') → Same s s'
  judge s begun judged s' valid own does rest =
      let entered = entered-guard e s begun valid own in
      joined s begun s' (stays (at + 32) s begun own) (joined begun judged s' (f.does rom size (at + 32) begun judged entered does) (rest (comes-out entered does).0))

  searches-same : (more c : ℕ) (s s' : Moment) → IsValidMoment size s
      → Searches (Does rom (at + 32) guard) (Does rom found_at found) (Does rom none_at none) (at + 8) (at + 32) found_at none_at (none_at + 4 * len none) slot test more c s s' → Same s s'
  searches-same zero c s s' valid (begun, own, does) = joined s begun s' (stays none_at s begun own) (h.does rom size none_at begun s' (entered-none e s begun valid own) does)
  searches-same (suc more) c s s' valid (begun, judged, own, counter, does, inl (set, kept, (ended, goes, is))) =
      judge s begun judged s' valid own does (λ v.
      joined judged (moved found_at judged) s' (shifts found_at judged)
      (joined (moved found_at judged) ended s' (g.does rom size found_at (moved found_at judged) ended (entered-found e judged v) goes) (subst (Same ended) (sym is) (shifts (none_at + 4 * len none) ended))))
  searches-same (suc more) c s s' valid (begun, judged, own, counter, does, inr (clear, (mid, raised, rest))) =
      judge s begun judged s' valid own does (λ v. raise c judged mid s' v raised (λ w. searches-same more (c + 1) mid s' w rest))

  search-stops-same : (more c : ℕ) (s s' : Moment) → IsValidMoment size s
      → SearchStops (Does rom (at + 32) guard) (Stops rom (at + 32) guard) (Stops rom found_at found) (Stops rom none_at none) (at + 8) (at + 32) found_at none_at slot test more c s s' → Same s s'
  search-stops-same zero c s s' valid (begun, own, stop) = joined s begun s' (stays none_at s begun own) (h.stops rom size none_at begun s' (entered-none e s begun valid own) stop)
  search-stops-same (suc more) c s s' valid (begun, own, counter, inl stop) =
      joined s begun s' (stays (at + 32) s begun own) (f.stops rom size (at + 32) begun s' (entered-guard e s begun valid own) stop)
  search-stops-same (suc more) c s s' valid (begun, own, counter, inr (judged, does, inl (set, kept, stop))) =
      judge s begun judged s' valid own does (λ v.
      joined judged (moved found_at judged) s' (shifts found_at judged) (g.stops rom size found_at (moved found_at judged) s' (entered-found e judged v) stop))
  search-stops-same (suc more) c s s' valid (begun, own, counter, inr (judged, does, inr (clear, (mid, raised, rest)))) =
      judge s begun judged s' valid own does (λ v. raise c judged mid s' v raised (λ w. search-stops-same more (c + 1) mid s' w rest))

  scan-begins : (head s' : Moment) → Own (at + 8) (stored 4 slot 0 x.hart.ram) x head → (IsValidMoment size head → Same head s') → Same x s'
  scan-begins head s' own rest =
      joined x head s' (own-set-same Same size slot e.block.1 e.holds.0 e.machine.ram_aligned owns (at + 8) 0 x head e.valid own)
      (rest (own-stored rom size e.machine (at + 8) slot 0 x head e.block.1 e.holds.0 e.valid own))

  scan-does : (s' : Moment) → Does rom at (Scan count slot guard test found none) x s' → Same x s'
  scan-does s' (head, own, searches) = scan-begins head s' own (λ v. searches-same count 0 head s' v searches)

  scan-stops : (s' : Moment) → Stops rom at (Scan count slot guard test found none) x s' → Same x s'
  scan-stops s' (head, own, stop) = scan-begins head s' own (λ v. search-stops-same count 0 head s' v stop)

pub respects-scan : (Same : Moment → Moment → Type 0) → ((a b c : Moment) → Same a b → Same b c → Same a c) → (count slot : ℕ) → ((s s' : Moment) → IsOwnStep slot s s' → Same s s') → (guard : Plan) (test : ℕ)
    (found none : Plan) → Respects Same guard → Respects Same found → Respects Same none → Respects Same (Scan count slot guard test found none)
respects-scan Same joined count slot owns guard test found none f g h = record {
  does = λ rom size at s s' e d. scan-does Same joined count slot owns guard test found none f g h rom size at s e s' d;
  stops = λ rom size at s s' e t. scan-stops Same joined count slot owns guard test found none f g h rom size at s e s' t;
}

-- ---- ports

-- the place is no input port
abbrev pub NoInput : Loads → Type 0
NoInput (FromRom offset) = Unit {0}
NoInput (FromRam offset) = Unit {0}
NoInput (InPort port) = ⊥
NoInput NoLoad = Unit {0}

pub below-inputs : (rom ram address width : ℕ) → address < in_base → NoInput (load_at rom ram address width)
unfolding load_at lies_in
below-inputs rom ram address width h =
    let no_port : (nat_le in_base address && nat_lt (address - in_base) 1024) ≡ false = grind (arith, nat_tests) in
    rw no_port (cases (address % width == 0) (nat_le 0 address && nat_lt (address - 0) rom) (nat_le ram_base address && nat_lt (address - ram_base) ram) (width == 4))
  where
    cases : (aligned in_rom in_ram word : Bool)
        → NoInput (cond aligned (cond in_rom (FromRom address) (cond in_ram (FromRam (address - ram_base)) (cond (word && false) (InPort ((address - in_base) / 4)) NoLoad))) NoLoad)
    cases false in_rom in_ram word = tt
    cases true true in_ram word = tt
    cases true false true word = tt
    cases true false false true = tt
    cases true false false false = tt

-- an instruction that is no load and no store has nothing to do with ports
pub portless-below : (i : Instr) (m : HartState) → IsPortless i → IsBelowPorts i m
portless-below (Lb rd rs1 imm) m h = absurd h
portless-below (Lh rd rs1 imm) m h = absurd h
portless-below (Lw rd rs1 imm) m h = absurd h
portless-below (Lbu rd rs1 imm) m h = absurd h
portless-below (Lhu rd rs1 imm) m h = absurd h
portless-below (Sb rs1 rs2 imm) m h = absurd h
portless-below (Sh rs1 rs2 imm) m h = absurd h
portless-below (Sw rs1 rs2 imm) m h = absurd h
portless-below _ m h = tt

pub load-below : (width : Width) (rd rs1 : ℕ) (imm : ℤ) (m : HartState) → displaced (slice_index m.regs rs1) imm < in_base → IsBelowPorts (load_by width rd rs1 imm) m
load-below Byte rd rs1 imm m h = h
load-below Half rd rs1 imm m h = h
load-below Word rd rs1 imm m h = h

pub still-same : (s : Moment) → IsStill s s
still-same s = record { log = refl; readings = refl }

pub still-joined : (a b c : Moment) → IsStill a b → IsStill b c → IsStill a c
still-joined a b c h k = record { log = k.log ∙ h.log; readings = k.readings ∙ h.readings }

own-still : (slot : ℕ) (s s' : Moment) → IsOwnStep slot s s' → IsStill s s'
own-still slot s s' own = record { log = own.log; readings = own.readings }

-- ---- silent blocks
pub silent-seq : (first second : Plan) → IsSilent first → IsSilent second → IsSilent (Seq first second)
silent-seq = respects-seq IsStill still-same still-joined

pub silent-if : (test : ℕ) (then_part else_part : Plan) → IsSilent then_part → IsSilent else_part → IsSilent (If test then_part else_part)
silent-if = respects-if IsStill still-same still-joined (λ at s. record { log = refl; readings = refl })

pub silent-loop : (count slot : ℕ) (body : Plan) → IsSilent body → IsSilent (Loop count slot body)
silent-loop count slot = respects-loop IsStill still-joined count slot (own-still slot)

pub silent-scan : (count slot : ℕ) (guard : Plan) (test : ℕ) (found none : Plan) → IsSilent guard → IsSilent found → IsSilent none → IsSilent (Scan count slot guard test found none)
silent-scan count slot = respects-scan IsStill still-joined count slot (own-still slot)

-- ---- registers

-- a register that is not the one written
with-other : (rd x r : ℕ) (regs : List ℕ) → r ≢ rd → slice_index (with_reg rd x regs) r ≡ slice_index regs r
with-other zero x r regs h = refl
with-other (suc rd) x r regs h = get_or-set_other regs (suc rd) r x 0 h

module _ (low high r : ℕ) (from : low ≤ r) (below : r < high) (m : HartState) where
  written-outside : (rd x : ℕ) → IsOutside low high rd → slice_index (with_reg rd x m.regs) r ≡ slice_index m.regs r
  written-outside rd x (inl h) = with-other rd x r m.regs (λ e. absurd (omega arith))
  written-outside rd x (inr h) = with-other rd x r m.regs (λ e. absurd (omega arith))

  jump-regs : (target : ℕ) (regs : List ℕ) → slice_index regs r ≡ slice_index m.regs r → slice_index (jump m target regs).hart.regs r ≡ slice_index m.regs r
  jump-regs target regs h = cases (target % 4 == 0)
    where
      cases : (b : Bool) → slice_index (cond b (record { hart = record { pc = target; regs = regs; ram = m.ram }; event = Quiet }) (trap m)).hart.regs r ≡ slice_index m.regs r
      cases true = h
      cases false = refl

  branch-regs : (rom : List ℕ) (reading : ℕ) (taken : Bool) (imm : ℤ) → slice_index (done rom reading (branch taken m imm) m).hart.regs r ≡ slice_index m.regs r
  unfolding done
  branch-regs rom reading true imm = jump-regs (displaced m.pc imm) m.regs refl
  branch-regs rom reading false imm = refl

  load-regs : (rom : List ℕ) (reading rd : ℕ) (width : Width) (signed : Bool) (place : Loads) → IsOutside low high rd → slice_index (load rom reading rd width signed m place).hart.regs r ≡ slice_index m.regs r
  load-regs rom reading rd width signed (FromRom offset) h = written-outside rd _ h
  load-regs rom reading rd width signed (FromRam offset) h = written-outside rd _ h
  load-regs rom reading rd width signed (InPort port) h = written-outside rd _ h
  load-regs rom reading rd width signed NoLoad h = refl

  store-regs : (width x : ℕ) (to : Stores) → slice_index (store m width x to).hart.regs r ≡ slice_index m.regs r
  store-regs width x (IntoRam offset) = refl
  store-regs width x (OutPort port) = refl
  store-regs width x NoStore = refl

  effect-regs : (rom : List ℕ) (reading : ℕ) (i : Instr) → WritesOutside low high i → slice_index (step rom reading i m).hart.regs r ≡ slice_index m.regs r
  unfolding effect done
  effect-regs rom reading (Lui rd imm) h = written-outside rd _ h
  effect-regs rom reading (Auipc rd imm) h = written-outside rd _ h
  effect-regs rom reading (Jal rd imm) h = jump-regs _ _ (written-outside rd _ h)
  effect-regs rom reading (Jalr rd rs1 imm) h = jump-regs _ _ (written-outside rd _ h)
  effect-regs rom reading (Beq rs1 rs2 imm) h = branch-regs rom reading _ imm
  effect-regs rom reading (Bne rs1 rs2 imm) h = branch-regs rom reading _ imm
  effect-regs rom reading (Blt rs1 rs2 imm) h = branch-regs rom reading _ imm
  effect-regs rom reading (Bge rs1 rs2 imm) h = branch-regs rom reading _ imm
  effect-regs rom reading (Bltu rs1 rs2 imm) h = branch-regs rom reading _ imm
  effect-regs rom reading (Bgeu rs1 rs2 imm) h = branch-regs rom reading _ imm
  effect-regs rom reading (Lb rd rs1 imm) h = load-regs rom reading rd Byte true _ h
  effect-regs rom reading (Lh rd rs1 imm) h = load-regs rom reading rd Half true _ h
  effect-regs rom reading (Lw rd rs1 imm) h = load-regs rom reading rd Word true _ h
  effect-regs rom reading (Lbu rd rs1 imm) h = load-regs rom reading rd Byte false _ h
  effect-regs rom reading (Lhu rd rs1 imm) h = load-regs rom reading rd Half false _ h
  effect-regs rom reading (Sb rs1 rs2 imm) h = store-regs 1 _ _
  effect-regs rom reading (Sh rs1 rs2 imm) h = store-regs 2 _ _
  effect-regs rom reading (Sw rs1 rs2 imm) h = store-regs 4 _ _
  effect-regs rom reading (Addi rd rs1 imm) h = written-outside rd _ h
  effect-regs rom reading (Slti rd rs1 imm) h = written-outside rd _ h
  effect-regs rom reading (Sltiu rd rs1 imm) h = written-outside rd _ h
  effect-regs rom reading (Xori rd rs1 imm) h = written-outside rd _ h
  effect-regs rom reading (Ori rd rs1 imm) h = written-outside rd _ h
  effect-regs rom reading (Andi rd rs1 imm) h = written-outside rd _ h
  effect-regs rom reading (Slli rd rs1 shift) h = written-outside rd _ h
  effect-regs rom reading (Srli rd rs1 shift) h = written-outside rd _ h
  effect-regs rom reading (Srai rd rs1 shift) h = written-outside rd _ h
  effect-regs rom reading (Add rd rs1 rs2) h = written-outside rd _ h
  effect-regs rom reading (Sub rd rs1 rs2) h = written-outside rd _ h
  effect-regs rom reading (Sll rd rs1 rs2) h = written-outside rd _ h
  effect-regs rom reading (Slt rd rs1 rs2) h = written-outside rd _ h
  effect-regs rom reading (Sltu rd rs1 rs2) h = written-outside rd _ h
  effect-regs rom reading (Xor rd rs1 rs2) h = written-outside rd _ h
  effect-regs rom reading (Srl rd rs1 rs2) h = written-outside rd _ h
  effect-regs rom reading (Sra rd rs1 rs2) h = written-outside rd _ h
  effect-regs rom reading (Or rd rs1 rs2) h = written-outside rd _ h
  effect-regs rom reading (And rd rs1 rs2) h = written-outside rd _ h
  effect-regs rom reading _ h = refl

module _ (low high : ℕ) where
  keeps-same : (s : Moment) → KeepsRegs low high s s
  keeps-same s r a b = refl

  keeps-joined : (a b c : Moment) → KeepsRegs low high a b → KeepsRegs low high b c → KeepsRegs low high a c
  keeps-joined a b c h k r f l = k r f l ∙ h r f l

  own-keeps : (slot : ℕ) → high ≤ scratch → (s s' : Moment) → IsOwnStep slot s s' → KeepsRegs low high s s'
  own-keeps slot small s s' own r f l = own.regs r (λ e. absurd (omega arith)) (λ e. absurd (omega arith))

  -- a block whose lines write none of the registers keeps them, if they lie below the scratch registers
  pub keeps-regs : high ≤ scratch → (tree : Plan) → WritesNone low high tree → Respects (KeepsRegs low high) tree
  keeps-regs small (Line instrs) p =
      respects-line (KeepsRegs low high) keeps-same keeps-joined (WriteOutside low high)
      (λ i is g rom s r f l. effect-regs low high r f l s.hart rom (offered s.readings) i g.0) (λ i is g. g.1) instrs p
  keeps-regs small (Seq first second) p = respects-seq (KeepsRegs low high) keeps-same keeps-joined first second (keeps-regs small first p.0) (keeps-regs small second p.1)
  keeps-regs small (If test then_part else_part) p =
      respects-if (KeepsRegs low high) keeps-same keeps-joined (λ at s r f l. refl) test then_part else_part (keeps-regs small then_part p.0) (keeps-regs small else_part p.1)
  keeps-regs small (Loop count slot body) p = respects-loop (KeepsRegs low high) keeps-joined count slot (own-keeps slot small) body (keeps-regs small body p)
  keeps-regs small (Scan count slot guard test found none) p =
      respects-scan (KeepsRegs low high) keeps-joined count slot (own-keeps slot small) guard test found none (keeps-regs small guard p.0) (keeps-regs small found p.1) (keeps-regs small none p.2)

-- two lines, one behind the other, write what both write
pub write-append : (low high : ℕ) (first second : List Instr) → WriteOutside low high first → WriteOutside low high second → WriteOutside low high (first ++ second)
write-append low high [] second f s = s
write-append low high (i ∷ is) second f s = (f.0, write-append low high is second f.1 s)

-- fewer registers are kept
pub outside-fewer : (low high low' high' r : ℕ) → low ≤ low' → high' ≤ high → IsOutside low high r → IsOutside low' high' r
outside-fewer low high low' high' r f t (inl h) = inl (omega arith)
outside-fewer low high low' high' r f t (inr h) = inr (omega arith)

pub portless-append : (first second : List Instr) → ArePortless first → ArePortless second → ArePortless (first ++ second)
portless-append [] second f s = s
portless-append (i ∷ is) second f s = (f.0, portless-append is second f.1 s)

pub storeless-append : (first second : List Instr) → AreStoreless first → AreStoreless second → AreStoreless (first ++ second)
storeless-append [] second f s = s
storeless-append (i ∷ is) second f s = (f.0, storeless-append is second f.1 s)

-- ---- RAM

-- both moments have the same RAM
abbrev pub SameRam : Moment → Moment → Type 0
SameRam s s' = s'.hart.ram ≡ s.hart.ram

-- a plan without stores changes no byte of RAM
pub keeps-ram : (tree : Plan) → IsStorelessPlan tree → Respects SameRam tree
keeps-ram (Line instrs) p =
    respects-line SameRam (λ s. refl) (λ a b c h k. k ∙ h) AreStoreless (λ i is g rom s. effect-ram s.hart rom (offered s.readings) i g.0) (λ i is g. g.1) instrs p
keeps-ram (Seq first second) p = respects-seq SameRam (λ s. refl) (λ a b c h k. k ∙ h) first second (keeps-ram first p.0) (keeps-ram second p.1)
keeps-ram (If test then_part else_part) p = respects-if SameRam (λ s. refl) (λ a b c h k. k ∙ h) (λ at s. refl) test then_part else_part (keeps-ram then_part p.0) (keeps-ram else_part p.1)
keeps-ram (Loop count slot body) p = absurd p
keeps-ram (Scan count slot guard test found none) p = absurd p
