-- Blocks that keep a word.
use Rattle.std.proofs.Common.{◌≡◌, ◌≢◌, ℕ, zero, suc, ◌+◌, ◌≤◌, List, [], ◌∷◌, length, false, refl, ap, ◌∙◌, subst, inl, inr, ◌⊎◌, ⊎_elim, arith}
use Rattle.std.proofs.lemmas.Bool.{cases_lt}
use Rattle.std.specs.List.{AllByRecursion}
use Rattle.block_code.specs.Block.{FramedBy, IsBlock, IsSlot, Keeps, KeepsWord, Spares}
use Rattle.block_code.specs.Law.{FramesAreKept}
use Rattle.block_code.specs.During.{Allows, During, IsQuiet, Spared}
use Rattle.block_code.specs.Ends.{Arrived, Ends, Onward, Stopped}
use Rattle.block_code.specs.Moment.{Moment, next, traps}
use Rattle.block_code.specs.Place.{IsMachine, Within, word_in}
use Rattle.block_code.specs.Plan.{If, Line, Loop, Plan, Scan, Seq}
use Rattle.block_code.proofs.Keeps.{keeps-now, keeps-on, word_at}
use Rattle.block_code.proofs.Structure.{law-of-frame, law-of-top}
use Rattle.block_code.proofs.Machine.{word_in-before, word_in-behind}

-- a tick that does not trap leaves the word at the slot as it is
abbrev pub TickKeeps : List ℕ → ℕ → Moment → Type 0
TickKeeps rom slot s = traps rom s ≡ false → word_at slot (next rom s) ≡ word_at slot s

module _ (rom : List ℕ) (slot : ℕ) where
  tick-quiet : IsQuiet rom (TickKeeps rom slot)
  tick-quiet = record { still = λ s e a t. ap (word_in slot) e; stopped = λ s u t. absurd (cc) }

  -- from the ticks of a run to the run, and back
  pub during-keeps : {C : Moment → Type 0} {low high : ℕ} {n : ℕ} {s : Moment} → Ends rom (During (TickKeeps rom slot) low high) (λ s'. s'.hart.pc ≡ high) C n s
      → KeepsWord rom low high slot s
  during-keeps (Arrived g) t inside untrapped = let b = (inside 0 (omega arith)).below in absurd (omega arith)
  during-keeps (Stopped i u c) t inside untrapped = let v = untrapped 0 (omega arith) in absurd (cc)
  during-keeps (Onward i u e) zero inside untrapped = i.1 u
  during-keeps (Onward i u e) (suc t) inside untrapped = during-keeps e t (λ k h. inside (suc k) (omega arith)) (λ k h. untrapped (suc k) (omega arith))

  keeps-during : {G C : Moment → Type 0} {low high : ℕ} {n : ℕ} {s : Moment} → KeepsWord rom low high slot s → Ends rom (Within low high) G C n s
      → Ends rom (TickKeeps rom slot) G C n s
  keeps-during k (Arrived g) = Arrived g
  keeps-during k (Stopped i t c) = Stopped (λ u. absurd (cc)) t c
  keeps-during {low = low} {high = high} {s = s} k (Onward i t e) =
      Onward (λ u. keeps-now rom low high slot s k i u) t (keeps-during (keeps-on rom low high slot s k i t) e)

  -- a store at another slot
  other-slot : (size own : ℕ) → IsMachine rom size → IsSlot slot → IsSlot own → own ≢ slot → Allows rom size (TickKeeps rom slot) own
  other-slot size own machine is_slot is_own apart s x h valid e access t =
      let a = is_slot.aligned in let b = is_own.aligned in let m = machine.ram_aligned in let count = valid.hart.ram.count in
      let inside : own + 4 ≤ length s.hart.ram = omega arith in
      ap (word_in slot) e
      ∙ ⊎_elim (λ k. word_in-before own x s.hart.ram inside slot (omega arith)) (λ k. word_in-behind own x s.hart.ram inside slot (omega arith)) (cases_lt slot own)

  spares-spared : (size : ℕ) → IsMachine rom size → IsSlot slot → (tree : Plan) → IsBlock tree → Spares slot tree → Spared rom size (TickKeeps rom slot) tree
  spares-spared size machine is_slot (Line instrs) b p = λ address s stands valid at.
      keeps-during (p rom size address s machine stands valid at) (law-of-top (Line instrs) b rom size address s machine stands valid at)
  spares-spared size machine is_slot (Seq first second) b p = (spares-spared size machine is_slot first b.0 p.0, spares-spared size machine is_slot second b.1 p.1)
  spares-spared size machine is_slot (If test then_part else_part) b p =
      (spares-spared size machine is_slot then_part b.0 p.0, spares-spared size machine is_slot else_part b.1 p.1)
  spares-spared size machine is_slot (Loop count own body) b p = (other-slot size own machine is_slot p.1 p.0, spares-spared size machine is_slot body b.2 p.2)
  spares-spared size machine is_slot (Scan count own guard test found none) b p =
      (other-slot size own machine is_slot p.1 p.0, spares-spared size machine is_slot guard b.2 p.2, spares-spared size machine is_slot found b.3 p.3, spares-spared size machine is_slot none b.4 p.4)

-- a block keeps the word that its lines spare
pub keeps-spared : (slot : ℕ) → IsSlot slot → (tree : Plan) → IsBlock tree → Spares slot tree → Keeps slot tree
keeps-spared slot is_slot tree b p rom size address s machine stands valid at =
    during-keeps rom slot
    (law-of-frame tree b rom size address (TickKeeps rom slot) s machine (tick-quiet rom slot) (spares-spared rom slot size machine is_slot tree b p) stands valid at)

-- ---- slots that enclose a block

-- one of these slots
abbrev IsAmong : ℕ → List ℕ → Type 0
IsAmong slot [] = ⊥
IsAmong slot (other ∷ rest) = (other ≡ slot) ⊎ IsAmong slot rest

of-all : (P : ℕ → Type 0) (slot : ℕ) (outer : List ℕ) → IsAmong slot outer → AllByRecursion P outer → P slot
of-all P slot [] m all = absurd m
of-all P slot (x ∷ outer) (inl e) all = subst P e all.0
of-all P slot (x ∷ outer) (inr m) all = of-all P slot outer m all.1

to-all : (P : ℕ → Type 0) (outer : List ℕ) → ((slot : ℕ) → IsAmong slot outer → P slot) → AllByRecursion P outer
to-all P [] f = tt
to-all P (x ∷ outer) f = (f x (inl refl), to-all P outer (λ slot m. f slot (inr m)))

-- what frames a block is spared by its lines
framed-spares : (outer : List ℕ) (tree : Plan) → IsBlock tree → FramedBy outer tree → (slot : ℕ) → IsAmong slot outer → Spares slot tree
framed-spares outer (Line instrs) b p slot m = of-all (λ slot. Keeps slot (Line instrs)) slot outer m p
framed-spares outer (Seq first second) b p slot m = (framed-spares outer first b.0 p.0 slot m, framed-spares outer second b.1 p.1 slot m)
framed-spares outer (If test then_part else_part) b p slot m = (framed-spares outer then_part b.0 p.0 slot m, framed-spares outer else_part b.1 p.1 slot m)
framed-spares outer (Loop count own body) b p slot m =
    (of-all (λ slot. own ≢ slot) slot outer m p.0, b.1, framed-spares (own ∷ outer) body b.2 p.1 slot (inr m))
framed-spares outer (Scan count own guard test found none) b p slot m =
    (of-all (λ slot. own ≢ slot) slot outer m p.0, b.1, framed-spares (own ∷ outer) guard b.2 p.1 slot (inr m), framed-spares (own ∷ outer) found b.3 p.2 slot (inr m), framed-spares (own ∷ outer) none b.4 p.3 slot (inr m))

pub frames-kept : FramesAreKept
frames-kept outer tree slots b p = to-all (λ slot. Keeps slot tree) outer (λ slot m. keeps-spared slot (of-all IsSlot slot outer m slots) tree b (framed-spares outer tree b p slot m))
