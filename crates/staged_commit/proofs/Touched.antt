-- What follows from one walk over a line: what it touches, and where it leads.
use Rattle.std.proofs.Common.{◌≡◌, ℕ, ◌%◌, ◌≤◌, List, [], ◌∷◌, arith}
use Rattle.rv_isa.specs.declared.instr.Instr.{Instr}
use Rattle.block_code.specs.Effect.{LineStops}
use Rattle.block_code.specs.Footprint.{Footprint, TouchesOnly}
use Rattle.block_code.specs.Leads.{IsEntered, Leads}
use Rattle.block_code.specs.Moment.{Moment}
use Rattle.block_code.specs.Place.{IsAtTop, IsMachine}
use Rattle.block_code.specs.Plan.{IsLine, Line}
use Rattle.block_code.proofs.Footprint.{lines-touch-aligned, lines-touch-as-done}
use Rattle.block_code.proofs.Leads.{leads-entered}
use Rattle.block_code.proofs.Line.{stands-end}
use Rattle.staged_commit.proofs.Walk.{Walk, walk-does, walk-safe, walk-touches}

-- where a line may count on not trapping: RAM is large enough, and the line begins at a word
pub record Sound (need size address : ℕ) : Type 0 where
  pub room : need ≤ size
  pub aligned : address % 4 ≡ 0

-- the first of the instructions, if there is one, stands at a word
abbrev pub IsWord : ℕ → List Instr → Type 0
IsWord address [] = Unit {0}
IsWord address (i ∷ is) = address % 4 ≡ 0

-- a walk over the line from each valid hart at its top
abbrev pub Walks : (need : ℕ) (f : Footprint) (instrs : List Instr) (Post : ℕ → Moment → Moment → Type 0) → Type 0
Walks need f instrs Post =
    (rom : List ℕ) (size : ℕ) → IsMachine rom size → (address : ℕ) (s : Moment) → IsAtTop size address instrs s → IsWord address instrs
    → Walk rom (Sound need size address) f address instrs s (Post size s)

-- a line that stands in ROM is entered at its top
pub top-of : (is : List Instr) (rom : List ℕ) (size address : ℕ) (s : Moment) → IsEntered rom size address (Line is) s → IsAtTop size address is s
top-of [] rom size address s e = record { valid = e.valid; here = e.here; room = (let here = e.here in let low = e.valid.hart.pc in omega arith) }
top-of (i ∷ is) rom size address s e =
    let place = stands-end rom address i is e.stands in let small = e.machine.rom_small in record { valid = e.valid; here = e.here; room = omega (arith, place.1) }

-- a walk from the top of a line that is entered
module _ (need : ℕ) (f : Footprint) (rom : List ℕ) (size address : ℕ) (s : Moment) (room : need ≤ size) (Post : Moment → Type 0) where
  pub walk-leads : (is : List Instr) → IsEntered rom size address (Line is) s → Walk rom (Sound need size address) f address is s Post → Leads rom size address (Line is) Post s
  walk-leads is e walk =
      leads-entered rom size address (Line is) s Post e (λ s' d. walk-does rom (Sound need size address) f is address s s' Post walk d) (λ s' d. never is e walk s' d)
    where
      never : (is : List Instr) → IsEntered rom size address (Line is) s → Walk rom (Sound need size address) f address is s Post → (s' : Moment) → LineStops rom address is s s' → ⊥
      never [] e walk s' d = d
      never (i ∷ is) e walk s' d =
          walk-safe rom (Sound need size address) f (record { room = room; aligned = (stands-end rom address i is e.stands).0 }) (i ∷ is) address s s' Post walk d

pub word-of : (is : List Instr) (rom : List ℕ) (size address : ℕ) (s : Moment) → IsEntered rom size address (Line is) s → IsWord address is
word-of [] rom size address s e = tt
word-of (i ∷ is) rom size address s e = (stands-end rom address i is e.stands).0

module _ (need : ℕ) (f : Footprint) (Post : ℕ → Moment → Moment → Type 0) where
  -- the line touches only the footprint
  pub walked-touches : (instrs : List Instr) → Walks need f instrs Post → IsLine instrs → TouchesOnly f (Line instrs)
  walked-touches [] walks line =
      lines-touch-as-done f [] line (λ rom size address s machine top. tt)
  walked-touches (i ∷ is) walks line =
      lines-touch-aligned f i is line
      (λ rom size address s machine top word. walk-touches rom (Sound need size address) f (i ∷ is) address s (Post size s) (walks rom size machine address s top word))

  -- it leads to its end where RAM is large enough
  pub walked-leads : (instrs : List Instr) → Walks need f instrs Post → (rom : List ℕ) (size address : ℕ) (s : Moment) → IsEntered rom size address (Line instrs) s → need ≤ size
      → Leads rom size address (Line instrs) (Post size s) s
  walked-leads instrs walks rom size address s e room =
      walk-leads need f rom size address s room (Post size s) instrs e (walks rom size e.machine address s (top-of instrs rom size address s e) (word-of instrs rom size address s e))
