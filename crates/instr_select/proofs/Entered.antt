-- The parts of a block that is entered, and what a term's block leaves.
use Rattle.std.proofs.Common.{◌≡◌, ℕ, ◌+◌, ◌*◌, ◌^◌, ◌<◌, ◌≤◌, ℤ, List, length, refl, ◌∙◌, arith}
use Rattle.rv_isa.specs.declared.instr.Instr.{Instr}
use Rattle.block_code.specs.Effect.{moved, reg_at}
use Rattle.block_code.specs.Leads.{IsBehind, IsEntered, Leads}
use Rattle.block_code.specs.Moment.{Moment}
use Rattle.block_code.specs.Plan.{If, Line, Plan, Seq, code, len}
use Rattle.block_code.proofs.Behind.{block-place, moved-valid}
use Rattle.block_code.proofs.Leads.{leads-line, leads-more}
use Rattle.block_code.proofs.Place.{if-stands, stands-block}
use Rattle.block_code.proofs.Silent.{keeps-ram, keeps-regs}
use Rattle.mask_guard.specs.Mask.{word_of}
use Rattle.instr_select.specs.SelectLaw.{HasValue}
use Rattle.instr_select.proofs.Instructions.{IsAt, LineLeads}
use Rattle.instr_select.proofs.Operators.{Becomes}
use Rattle.instr_select.proofs.TermCode.{IsTermCode}

module _ (rom : List ℕ) (size : ℕ) where
  -- an entered line is at its first word
  pub entered-at : (address : ℕ) (instrs : List Instr) (s : Moment) → IsEntered rom size address (Line instrs) s → 0 < length instrs → IsAt size address (length instrs) s
  entered-at address instrs s e some =
      let place = block-place rom size e.machine (Line instrs) address e.stands some in
      record { valid = e.valid; here = e.here; aligned = place.0; room = omega (arith, place.1) }

  module _ (address : ℕ) (first second : Plan) (s : Moment) (e : IsEntered rom size address (Seq first second) s) where
    pub enter-first : IsEntered rom size address first s
    enter-first = record {
      machine = e.machine;
      block = e.block.0;
      holds = e.holds.0;
      stands = (stands-block rom address first (code second) e.stands).0;
      valid = e.valid;
      here = e.here;
    }

    pub enter-second : {Good : Moment → Type 0} (mid : Moment) → IsBehind size address first Good mid → IsEntered rom size (address + 4 * len first) second mid
    enter-second mid b = record {
      machine = e.machine;
      block = e.block.1;
      holds = e.holds.1;
      stands = (stands-block rom address first (code second) e.stands).1;
      valid = b.valid;
      here = b.here;
    }

  module _ (address test : ℕ) (first second : Plan) (s : Moment) (e : IsEntered rom size address (If test first second) s) where
    pub if-room : address + 4 * len (If test first second) < 2 ^ 32
    if-room = let place = block-place rom size e.machine (If test first second) address e.stands (omega arith) in omega (arith, place.1)

    pub enter-then : IsEntered rom size (address + 8) first (moved (address + 8) s)
    enter-then =
        let room = if-room in record {
          machine = e.machine;
          block = e.block.0;
          holds = e.holds.0;
          stands = (if-stands rom address test first second e.stands).then_at;
          valid = moved-valid size (address + 8) s (omega arith) e.valid;
          here = refl;
        }

    pub enter-else : IsEntered rom size (address + 12 + 4 * len first) second (moved (address + 12 + 4 * len first) s)
    enter-else =
        let room = if-room in record {
          machine = e.machine;
          block = e.block.1;
          holds = e.holds.1;
          stands = (if-stands rom address test first second e.stands).else_at;
          valid = moved-valid size (address + 12 + 4 * len first) s (omega arith) e.valid;
          here = refl;
        }

  -- a line that leads to a value
  pub lined : (address : ℕ) (instrs : List Instr) (s : Moment) (register x : ℕ) (value : ℤ)
      → LineLeads rom address instrs s (Becomes size (address + 4 * length instrs) register x) → x ≡ word_of value
      → Leads rom size address (Line instrs) (λ s'. reg_at register s' ≡ word_of value) s
  lined address instrs s register x value l e =
      leads-line rom size address instrs s l.end _ l.does (record { valid = l.post.valid; here = l.post.here; good = l.post.holds ∙ e })

  -- a line that leads to a number
  pub numbered : (address : ℕ) (instrs : List Instr) (s : Moment) (register x y : ℕ)
      → LineLeads rom address instrs s (Becomes size (address + 4 * length instrs) register x) → x ≡ y
      → Leads rom size address (Line instrs) (λ s'. reg_at register s' ≡ y) s
  numbered address instrs s register x y l e =
      leads-line rom size address instrs s l.end _ l.does (record { valid = l.post.valid; here = l.post.here; good = l.post.holds ∙ e })

  -- a block of a term's code that leads to its value leaves all else that counts
  pub leaves : (address : ℕ) (tree : Plan) (s : Moment) (register : ℕ) (value : ℤ) → register ≤ 21 → IsEntered rom size address tree s → IsTermCode register tree
      → Leads rom size address tree (λ s'. reg_at register s' ≡ word_of value) s → Leads rom size address tree (HasValue register value s) s
  leaves address tree s register value few e coded l =
      leads-more rom size address tree s _ _ l (λ s' d h. record {
        holds = h;
        kept = (keeps-regs 5 register few tree coded.writes).does rom size address s s' e d;
        ram = (keeps-ram tree coded.storeless).does rom size address s s' e d;
      })
