-- The two lines of a rule's own: that a case was found, and that a value is a binder's.
use Rattle.std.proofs.Common.{◌≡◌, ℕ, ◌+◌, ◌%◌, ◌^◌, ◌≤◌, pos, List, [], ap, ◌∙◌, arith}
use Rattle.rv_isa.specs.declared.instr.Instr.TheVariants.{Addi}
use Rattle.rv_machine.specs.Code.{step}
use Rattle.rv_machine.specs.Run.{offered}
use Rattle.trap_model.specs.declared.width.Width.TheVariants.{Word}
use Rattle.block_code.specs.Effect.{reg_at}
use Rattle.block_code.specs.Footprint.{Footprint, TouchesOnly, only_in, untouched}
use Rattle.block_code.specs.Leads.{IsEntered, Leads}
use Rattle.block_code.specs.Moment.{IsValidMoment, Moment}
use Rattle.block_code.specs.Plan.{IsLine, Line}
use Rattle.block_code.proofs.Footprint.{access-portless}
use Rattle.block_code.proofs.Machine.{computed, displaced, does-addi}
use Rattle.state_layout.specs.Map.{Placement, lies_between, slot}
use Rattle.staged_commit.proofs.{Lines.{store-line}, Spotted.{between}, Steps.{Puts, Sets, walk-fixed_store, walk-sets}, Touched.{Sound, Walks, walked-leads, walked-touches}, Walk.{walk-end}}
use Rattle.rule_code.specs.Code.{bind_line, found}

one-is : (size : ℕ) (rom : List ℕ) (s : Moment) → IsValidMoment size s → step rom (offered s.readings) (Addi 5 0 (pos 1)) s.hart ≡ computed s.hart 5 1
one-is size rom s valid =
    let x0 : reg_at 0 s ≡ 0 = valid.hart.regs.zero_reg in
    does-addi rom (offered s.readings) s.hart 5 0 (pos 1) ∙ ap (λ v. computed s.hart 5 (displaced v (pos 1))) x0

abbrev FoundPost : ℕ → Moment → Moment → Type 0
FoundPost size s e = Sets 5 1 s e

found-walks : Walks 0 untouched found FoundPost
found-walks rom size machine address s top word =
    walk-sets rom size machine (Sound 0 size address) untouched (Addi 5 0 (pos 1)) [] address 4 1 s (FoundPost size s) top (omega arith) (omega arith)
    (one-is size rom s top.valid) (access-portless rom (Addi 5 0 (pos 1)) s tt)
    (λ m at sets. walk-end rom (Sound 0 size address) untouched (address + 4) m (FoundPost size s) sets)

pub found-line : IsLine found
found-line = (tt, tt)

pub found-touches : TouchesOnly untouched (Line found)
found-touches = walked-touches 0 untouched FoundPost found found-walks found-line

pub found-leads : (rom : List ℕ) (size address : ℕ) (s : Moment) → IsEntered rom size address (Line found) s → Leads rom size address (Line found) (Sets 5 1 s) s
found-leads rom size address s e = walked-leads 0 untouched FoundPost found found-walks rom size address s e (omega arith)

module _ (placement : Placement) (binder : ℕ) (small : slot placement binder + 4 ≤ 2 ^ 20) where
  abbrev pub bound_footprint : Footprint
  bound_footprint = only_in (lies_between (slot placement binder) (slot placement binder + 4))

  abbrev pub BindPost : ℕ → Moment → Moment → Type 0
  BindPost size s e = Puts 4 (slot placement binder) (reg_at 5 s) s e

  whole : slot placement binder % 4 ≡ 0
  whole = omega arith

  bind-walks : Walks (slot placement binder + 4) bound_footprint (bind_line placement binder) BindPost
  bind-walks rom size machine address s top word =
      walk-fixed_store rom size machine (Sound (slot placement binder + 4) size address) bound_footprint Word [] address 5 (slot placement binder) s (BindPost size s) top
      (omega arith) (record { aligned = whole; low = omega arith }) (λ r. let room = r.room in omega arith)
      (λ o from below. between (slot placement binder) (slot placement binder + 4) o from below)
      (λ m at puts. walk-end rom (Sound (slot placement binder + 4) size address) bound_footprint (address + 4 + 4) m (BindPost size s) puts)

  pub bind-is_line : IsLine (bind_line placement binder)
  bind-is_line = store-line Word 5 (slot placement binder)

  pub bind-touches : TouchesOnly bound_footprint (Line (bind_line placement binder))
  bind-touches = walked-touches (slot placement binder + 4) bound_footprint BindPost (bind_line placement binder) bind-walks bind-is_line

  pub bind-leads : (rom : List ℕ) (size address : ℕ) (s : Moment) → IsEntered rom size address (Line (bind_line placement binder)) s → slot placement binder + 4 ≤ size
      → Leads rom size address (Line (bind_line placement binder)) (BindPost size s) s
  bind-leads rom size address s e room = walked-leads (slot placement binder + 4) bound_footprint BindPost (bind_line placement binder) bind-walks rom size address s e room
