-- What the instructions of a line lead to, one after another.
use Rattle.std.proofs.Common.{◌≡◌, ◌≢◌, ℕ, suc, ◌+◌, ◌*◌, ◌%◌, ◌^◌, ◌<◌, ℤ, pos, List, [], ◌∷◌, ◌++◌, length, Bool, true, false, refl, sym, ap, ◌∙◌, subst, inl, inr, arith, ⊎_elim, ◌≤◌}
use Rattle.std.proofs.lemmas.List.{get_or_past}
use Rattle.std.proofs.lemmas.Bool.{cases_lt}
use Rattle.std.specs.Prelude.{slice_index}
use Rattle.rv_isa.specs.declared.instr.Instr.{Instr}
use Rattle.rv_isa.specs.declared.instr.Instr.TheVariants.{Blt}
use Rattle.rv_machine.specs.Code.{step}
use Rattle.rv_machine.specs.Effect.{effect, reg}
use Rattle.rv_machine.specs.Hart.{AreWords, HartState, with_reg}
use Rattle.rv_machine.specs.Run.{offered}
use Rattle.rv_machine.specs.Tick.{Quiet, Ticks, done, jump, onward}
use Rattle.rv_machine.specs.Word.{is_less}
use Rattle.rv_machine.specs.declared.effect.Effect.TheVariants.{Write}
use Rattle.rv_machine.proofs.Valid.{AreRegs-with_reg}
use Rattle.block_code.specs.Effect.{LineDoes, moved, reg_at, written}
use Rattle.block_code.specs.Moment.{IsValidMoment, Moment, is_trap, moment_by}
use Rattle.block_code.proofs.Forms.{jump-to, plus-forward}
use Rattle.block_code.proofs.Machine.{branch_tick, done-branch}
use Rattle.block_code.proofs.Parts.{parts-are-done}

-- a valid hart at the first of so many words
pub record IsAt (size address words : ℕ) (s : Moment) : Type 0 where
  pub valid : IsValidMoment size s
  pub here : s.hart.pc ≡ address
  pub aligned : address % 4 ≡ 0
  pub room : address + 4 * words < 2 ^ 32

-- a line leads to a moment of which Post holds
pub record LineLeads (rom : List ℕ) (address : ℕ) (instrs : List Instr) (s : Moment) (Post : Moment → Type 0) : Type 0 where
  pub end : Moment
  pub does : LineDoes rom address instrs s end
  pub post : Post end

pub reg-below : (size r : ℕ) (s : Moment) → IsValidMoment size s → reg_at r s < 2 ^ 32
reg-below size r s valid = all s.hart.regs valid.hart.regs.words
  where
    all : (xs : List ℕ) → AreWords xs → slice_index xs r < 2 ^ 32
    all xs words =
        ⊎_elim (λ (l : r < length xs). words r 0 l)
        (λ (g : length xs ≤ r). let e = get_or_past xs r 0 g in omega arith)
        (cases_lt r (length xs))

pub valid-written : (size past r x : ℕ) (s : Moment) → IsValidMoment size s → past < 2 ^ 32 → x < 2 ^ 32 → IsValidMoment size (written past r x s)
valid-written size past r x s valid low small = record { hart = record { pc = low; regs = AreRegs-with_reg r x s.hart.regs small valid.hart.regs; ram = valid.hart.ram } }

done-write : (rom : List ℕ) (reading rd x : ℕ) (m : HartState) → done rom reading (Write rd x) m ≡ onward m (with_reg rd x m.regs) m.ram Quiet
unfolding done
done-write rom reading rd x m = refl

does-blt : (rom : List ℕ) (reading a b : ℕ) (imm : ℤ) (m : HartState) → step rom reading (Blt a b imm) m ≡ branch_tick m (is_less (reg m a) (reg m b)) imm
unfolding effect
does-blt rom reading a b imm m = done-branch rom reading m (is_less (reg m a) (reg m b)) imm

module _ (rom : List ℕ) (size address : ℕ) (s : Moment) (Post : Moment → Type 0) where
  -- the line of nothing
  pub line-ends : Post s → LineLeads rom address [] s Post
  line-ends p = record { end = s; does = refl; post = p }

  -- an instruction that writes a register, and then the rest of the line
  pub writes-then : (words q x : ℕ) (i : Instr) (is : List Instr) → IsAt size address (suc words) s → effect i s.hart ≡ Write (suc q) x → x < 2 ^ 32
      → (IsAt size (address + 4) words (written (address + 4) (suc q) x s) → LineLeads rom (address + 4) is (written (address + 4) (suc q) x s) Post)
      → LineLeads rom address (i ∷ is) s Post
  writes-then words q x i is at e small rest =
      let here = at.here in let room = at.room in let aligned = at.aligned in
      let s1 : Moment = written (address + 4) (suc q) x s in
      let on = rest (record { valid = valid-written size (address + 4) (suc q) x s at.valid (omega arith) small; here = refl; aligned = omega arith; room = omega arith }) in
      let pc : (s.hart.pc + 4) % 2 ^ 32 ≡ address + 4 = omega arith in
      let does : step rom (offered s.readings) i s.hart ≡ record { hart = record { pc = address + 4; regs = with_reg (suc q) x s.hart.regs; ram = s.hart.ram }; event = Quiet } =
      ap (λ f. done rom (offered s.readings) f s.hart) e ∙ done-write rom (offered s.readings) (suc q) x s.hart
      ∙ ap (λ p. record { hart = record { pc = p; regs = with_reg (suc q) x s.hart.regs; ram = s.hart.ram }; event = Quiet }) pc in
      record {
        end = on.end;
        does = inl (here, ap (λ t. is_trap t.event) does, subst (λ m. LineDoes rom (address + 4) is m on.end) (ap (λ t. moment_by t s) (sym does)) on.does);
        post = on.post;
      }

  -- a branch over one instruction, and then the rest of the line
  pub skips-then : (words a b : ℕ) (i : Instr) (is : List Instr) → IsAt size address (suc (suc words)) s
      → (is_less (reg_at a s) (reg_at b s) ≡ true → IsAt size (address + 8) words (moved (address + 8) s) → LineLeads rom (address + 8) is (moved (address + 8) s) Post)
      → (is_less (reg_at a s) (reg_at b s) ≡ false → IsAt size (address + 4) (suc words) (moved (address + 4) s) → LineLeads rom (address + 4) (i ∷ is) (moved (address + 4) s) Post)
      → LineLeads rom address (Blt a b (pos 8) ∷ i ∷ is) s Post
  skips-then words a b i is at taken passed = by_test (is_less (reg_at a s) (reg_at b s)) refl
    where
      to : ℕ → Ticks
      to p = record { hart = record { pc = p; regs = s.hart.regs; ram = s.hart.ram }; event = Quiet }

      moved-valid : (past : ℕ) → past < 2 ^ 32 → IsValidMoment size (moved past s)
      moved-valid past low = record { hart = record { pc = low; regs = at.valid.hart.regs; ram = at.valid.hart.ram } }

      by_test : (t : Bool) → is_less (reg_at a s) (reg_at b s) ≡ t → LineLeads rom address (Blt a b (pos 8) ∷ i ∷ is) s Post
      by_test true e =
          let here = at.here in let room = at.room in let aligned = at.aligned in
          let eight : address + 4 + 4 ≡ address + 8 = omega arith in
          let on = taken e (record { valid = moved-valid (address + 8) (omega arith); here = refl; aligned = omega arith; room = omega arith }) in
          let goes : s.hart.pc + 8 ≡ address + 8 = omega arith in
          let does : step rom (offered s.readings) (Blt a b (pos 8)) s.hart ≡ to (address + 8) =
          does-blt rom (offered s.readings) a b (pos 8) s.hart ∙ ap (λ t. branch_tick s.hart t (pos 8)) e
          ∙ ap (λ t. jump s.hart t s.hart.regs) (plus-forward s.hart.pc 8 (omega arith) ∙ goes) ∙ jump-to s.hart (address + 8) (omega arith) in
          let beyond : address + 8 ≢ address + 4 = omega arith in
          record {
            end = on.end;
            does = inl (
              here,
              ap (λ t. is_trap t.event) does,
              subst (λ m. LineDoes rom (address + 4) (i ∷ is) m on.end) (ap (λ t. moment_by t s) (sym does))
                  (inr (beyond, subst (λ n. LineDoes rom n is (moved (address + 8) s) on.end) (sym eight) on.does)),
            );
            post = on.post;
          }
      by_test false e =
          let here = at.here in let room = at.room in let aligned = at.aligned in
          let on = passed e (record { valid = moved-valid (address + 4) (omega arith); here = refl; aligned = omega arith; room = omega arith }) in
          let pc : (s.hart.pc + 4) % 2 ^ 32 ≡ address + 4 = omega arith in
          let does : step rom (offered s.readings) (Blt a b (pos 8)) s.hart ≡ to (address + 4) =
          does-blt rom (offered s.readings) a b (pos 8) s.hart ∙ ap (λ t. branch_tick s.hart t (pos 8)) e ∙ ap to pc in
          record {
            end = on.end;
            does = inl (here, ap (λ t. is_trap t.event) does, subst (λ m. LineDoes rom (address + 4) (i ∷ is) m on.end) (ap (λ t. moment_by t s) (sym does)) on.does);
            post = on.post;
          }

-- a line, and then another
pub line-then : (rom : List ℕ) (address : ℕ) (first second : List Instr) (s : Moment) (Mid Post : Moment → Type 0) → LineLeads rom address first s Mid
    → ((mid : Moment) → Mid mid → LineLeads rom (address + 4 * length first) second mid Post) → LineLeads rom address (first ++ second) s Post
line-then rom address first second s Mid Post a b =
    let on = b a.end a.post in
    record { end = on.end; does = (parts-are-done rom address first second s on.end).1 (a.end, a.does, on.does); post = on.post }
