-- The laws of every block, by its structure.
use Rattle.std.proofs.Common.{◌≡◌, ℕ, ◌+◌, ◌*◌, List, [], ◌∷◌, length, refl, arith}
use Rattle.rv_isa.specs.declared.instr.Instr.{Instr}
use Rattle.rv_machine.specs.Code.{Stands}
use Rattle.block_code.specs.Block.{IsBlock}
use Rattle.block_code.specs.During.{IsQuiet, Spared}
use Rattle.block_code.specs.Effect.{LineDoes, LineStops}
use Rattle.block_code.specs.Ends.{Arrived, Ends}
use Rattle.block_code.specs.Law.{LawOfEffect, LawOfEntry, LawOfFrame, LawOfNoReturn, LawOfTop}
use Rattle.block_code.specs.Moment.{IsValidMoment, Moment}
use Rattle.block_code.specs.Place.{IsMachine, Within}
use Rattle.block_code.specs.Plan.{If, IsLine, Line, Loop, Plan, Scan, Seq}
use Rattle.block_code.proofs.Ends.{ends-map}
use Rattle.block_code.proofs.Forms.{EntryLaw, TopLaw}
use Rattle.block_code.proofs.Line.{line-ends}
use Rattle.block_code.proofs.Loop.{loop-entry, loop-top}
use Rattle.block_code.proofs.Plain.{if-entry, if-top, line-entry, line-top, seq-entry, seq-top}
use Rattle.block_code.proofs.Scan.{scan-entry, scan-top}
use Rattle.block_code.proofs.Steps.{fetched-place}

module _ (rom : List ℕ) (size : ℕ) (machine : IsMachine rom size) (Q : Moment → Type 0) (quiet : IsQuiet rom Q) where
  pub top-law : (tree : Plan) → IsBlock tree → Spared rom size Q tree → TopLaw rom size machine Q quiet tree
  top-law (Line instrs) b q address s stands = line-top rom size machine Q quiet instrs b q address s stands
  top-law (Seq first second) b q address s stands =
      seq-top rom size machine Q quiet first second (top-law first b.0 q.0) (top-law second b.1 q.1) address s stands
  top-law (If test then_part else_part) b q address s stands =
      if-top rom size machine Q quiet test then_part else_part address stands (top-law then_part b.0 q.0) (top-law else_part b.1 q.1) s
  top-law (Loop count slot body) b q address s stands =
      loop-top rom size machine Q quiet count slot b.0 b.1 q.0 body (top-law body b.2 q.1) address address (omega arith) (omega arith) stands (omega arith) b.3 s
  top-law (Scan count slot guard test found none) b q address s stands =
      scan-top rom size machine Q quiet count slot b.0 b.1 q.0 guard test found none (top-law guard b.2 q.1) (top-law found b.3 q.2) (top-law none b.4 q.3)
      address address (omega arith) (omega arith) stands (omega arith) b.5 s

  -- what holds of every moment is kept by every block
  spared-always : ((s : Moment) → Q s) → (tree : Plan) → IsBlock tree → Spared rom size Q tree
  spared-always always (Line instrs) b = λ address s stands valid at.
      ends-map rom (λ s i. always s) (λ s' g. g.1.0) (λ s' c. tt) (plain_top instrs b address s stands valid at)
    where
      plain_top : (instrs : List Instr) → IsLine instrs → (address : ℕ) (s : Moment) → Stands rom address instrs → IsValidMoment size s → s.hart.pc ≡ address
          → Ends rom (Within address (address + 4 * length instrs)) (λ s'. Unit {0} × ((s'.hart.pc ≡ address + 4 * length instrs) × LineDoes rom address instrs s s'))
          (λ s'. LineStops rom address instrs s s') (length instrs) s
      plain_top [] line address s stands valid at = Arrived (tt, (omega arith, refl))
      plain_top (i ∷ is) line address s stands valid at =
          let place = fetched-place rom address i stands.0 in
          ends-map rom (λ s i. i) (λ s' g. (tt, g)) (λ s' c. c)
          (line-ends rom machine.rom_small address (i ∷ is) address s stands line (omega arith) (omega arith) (omega arith) (omega (arith, place.0)))
  spared-always always (Seq first second) b = (spared-always always first b.0, spared-always always second b.1)
  spared-always always (If test then_part else_part) b = (spared-always always then_part b.0, spared-always always else_part b.1)
  spared-always always (Loop count slot body) b = (λ s x h v e a. always s, spared-always always body b.2)
  spared-always always (Scan count slot guard test found none) b =
      (λ s x h v e a. always s, spared-always always guard b.2, spared-always always found b.3, spared-always always none b.4)

  pub entry-law : ((s : Moment) → Q s) → (tree : Plan) → IsBlock tree → EntryLaw rom size machine Q quiet tree
  entry-law always (Line instrs) b low address s above near stands = line-entry rom size machine Q quiet instrs b always low address s above near stands
  entry-law always (Seq first second) b low address s above near stands =
      seq-entry rom size machine Q quiet first second (top second b.1) (entry-law always first b.0) (entry-law always second b.1) low address s above near stands
    where
      top : (tree : Plan) → IsBlock tree → TopLaw rom size machine Q quiet tree
      top tree b = top-law tree b (spared-always always tree b)
  entry-law always (If test then_part else_part) b low address s above near stands =
      if-entry rom size machine Q quiet test then_part else_part address stands (top then_part b.0) (top else_part b.1)
      (entry-law always then_part b.0) (entry-law always else_part b.1) low s above near
    where
      top : (tree : Plan) → IsBlock tree → TopLaw rom size machine Q quiet tree
      top tree b = top-law tree b (spared-always always tree b)
  entry-law always (Loop count slot body) b low address s above near stands =
      loop-entry rom size machine Q quiet count slot b.0 b.1 (λ s x h v e a. always s) body (top-law body b.2 (spared-always always body b.2)) low address above near stands
      always b.3 (entry-law always body b.2) s
  entry-law always (Scan count slot guard test found none) b low address s above near stands =
      scan-entry rom size machine Q quiet count slot b.0 b.1 (λ s x h v e a. always s) guard test found none (top guard b.2) (top found b.3) (top none b.4)
      low address above near stands always b.5 (entry-law always guard b.2) (entry-law always found b.3) (entry-law always none b.4) s
    where
      top : (tree : Plan) → IsBlock tree → TopLaw rom size machine Q quiet tree
      top tree b = top-law tree b (spared-always always tree b)

-- nothing is asked of a tick
abbrev anything : Moment → Type 0
anything s = Unit {0}

all-quiet : (rom : List ℕ) → IsQuiet rom anything
all-quiet rom = record { still = λ s e a. tt; stopped = λ s e. tt }

pub law-of-top : (tree : Plan) → IsBlock tree → LawOfTop tree
law-of-top tree b rom size address s machine stands valid at =
    ends-map rom (λ s i. i.0) (λ s' g. g.1.0) (λ s' c. tt) (top-law rom size machine anything (all-quiet rom) tree b (spared-always rom size machine anything (all-quiet rom) (λ s. tt) tree b) address s stands valid at)

pub law-of-entry : (tree : Plan) → IsBlock tree → LawOfEntry tree
law-of-entry tree b rom size address s machine stands valid within =
    ends-map rom (λ s i. i.0) (λ s' g. g.1) (λ s' c. tt) (entry-law rom size machine anything (all-quiet rom) (λ s. tt) tree b address address s (omega arith) (omega arith) stands valid within)

pub law-of-effect : (tree : Plan) → IsBlock tree → LawOfEffect tree
law-of-effect tree b rom size address s machine stands valid at =
    ends-map rom (λ s i. i.0) (λ s' g. (g.0, g.1.0, g.1.1)) (λ s' c. c) (top-law rom size machine anything (all-quiet rom) tree b (spared-always rom size machine anything (all-quiet rom) (λ s. tt) tree b) address s stands valid at)

pub law-of-no-return : (tree : Plan) → IsBlock tree → LawOfNoReturn tree
law-of-no-return tree b rom size address s machine stands valid within =
    ends-map rom (λ s i. i.0) (λ s' g. g.1) (λ s' c. tt) (entry-law rom size machine anything (all-quiet rom) (λ s. tt) tree b (address + 1) address s (omega arith) (omega arith) stands valid within)

pub law-of-frame : (tree : Plan) → IsBlock tree → LawOfFrame tree
law-of-frame tree b rom size address Q s machine quiet spared stands valid at =
    ends-map rom (λ s i. i) (λ s' g. g.1.0) (λ s' c. tt) (top-law rom size machine Q quiet tree b spared address s stands valid at)
