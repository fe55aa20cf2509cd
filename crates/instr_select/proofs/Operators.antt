-- What the code of operators leads to.
use Rattle.std.proofs.Common.{◌≡◌, ◌≢◌, ℕ, suc, ◌+◌, ◌*◌, ◌/◌, ◌%◌, ◌^◌, ◌<◌, pos, List, [], ◌∷◌, length, cond, refl, sym, ap, ◌∙◌, subst, arith}
use Rattle.std.specs.Prelude.{nat_lt, bit_and, bit_or}
use Rattle.asm_tree.specs.declared.term.Op.{Op}
use Rattle.asm_tree.specs.declared.term.Op.TheVariants as ops
use Rattle.rv_isa.specs.declared.instr.Instr.{Instr}
use Rattle.rv_isa.specs.declared.instr.Instr.TheVariants.{Add, Addi, And, Blt, Or, Slli, Srli, Slt, Sltiu, Sub}
use Rattle.rv_machine.specs.Effect.{effect}
use Rattle.rv_machine.specs.Word.{flag, is_less, minus, plus}
use Rattle.rv_machine.specs.declared.effect.Effect.TheVariants.{Write}
use Rattle.block_code.specs.Effect.{moved, reg_at, written}
use Rattle.block_code.specs.Moment.{IsValidMoment, Moment}
use Rattle.block_code.proofs.Counter.{reg-other, reg-same}
use Rattle.instr_select.specs.Operators.{asserted, denied, denied_word, greater, greater_word, lesser, lesser_word, operated, operated_word}
use Rattle.instr_select.proofs.Arithmetic.{both-flags, either-flag, flag-below}
use Rattle.instr_select.proofs.Instructions.{IsAt, LineLeads, line-ends, reg-below, skips-then, writes-then}

-- a valid hart behind some code, with a word in a register
pub record Becomes (size address register word : ℕ) (s : Moment) : Type 0 where
  pub valid : IsValidMoment size s
  pub here : s.hart.pc ≡ address
  pub holds : reg_at register s ≡ word

module _ (s : Moment) (r x y : ℕ) where
  -- the instructions, at known words
  pub does-add : (b : ℕ) → reg_at r s ≡ x → reg_at b s ≡ y → effect (Add r r b) s.hart ≡ Write r (plus x y)
  unfolding effect
  does-add b e f = rw (e, f) refl

  pub does-sub : (b : ℕ) → reg_at r s ≡ x → reg_at b s ≡ y → effect (Sub r r b) s.hart ≡ Write r (minus x y)
  unfolding effect
  does-sub b e f = rw (e, f) refl

  pub does-slli : (shift : ℕ) → reg_at r s ≡ x → effect (Slli r r shift) s.hart ≡ Write r (x * 2 ^ shift % 2 ^ 32)
  unfolding effect
  does-slli shift e = rw e refl

  pub does-srli : (shift : ℕ) → reg_at r s ≡ x → effect (Srli r r shift) s.hart ≡ Write r (x / 2 ^ shift)
  unfolding effect
  does-srli shift e = rw e refl

  does-and : (b : ℕ) → reg_at r s ≡ x → reg_at b s ≡ y → effect (And r r b) s.hart ≡ Write r (bit_and x y)
  unfolding effect
  does-and b e f = rw (e, f) refl

  does-or : (b : ℕ) → reg_at r s ≡ x → reg_at b s ≡ y → effect (Or r r b) s.hart ≡ Write r (bit_or x y)
  unfolding effect
  does-or b e f = rw (e, f) refl

  does-slt : (a b : ℕ) → reg_at a s ≡ x → reg_at b s ≡ y → effect (Slt r a b) s.hart ≡ Write r (flag (is_less x y))
  unfolding effect
  does-slt a b e f = rw (e, f) refl

  does-denied : reg_at r s ≡ x → effect (Sltiu r r (pos 1)) s.hart ≡ Write r (denied_word x)
  unfolding effect
  does-denied e = rw e refl

  does-asserted : reg_at 0 s ≡ 0 → reg_at r s ≡ x → effect (asserted r) s.hart ≡ Write r (flag (nat_lt 0 x))
  unfolding effect
  does-asserted z e = rw (z, e) refl

  does-copied : (a : ℕ) → reg_at a s ≡ x → x < 2 ^ 32 → effect (Addi r a (pos 0)) s.hart ≡ Write r x
  unfolding effect
  does-copied a e small = rw e (ap (Write r) (let same : plus x 0 ≡ x = omega arith in same))

plus-below : (x y : ℕ) → plus x y < 2 ^ 32
plus-below x y = omega arith

minus-below : (x y : ℕ) → minus x y < 2 ^ 32
minus-below x y = omega arith

module _ (rom : List ℕ) (size : ℕ) where
  -- a line of one instruction that writes the register
  one : (address q x : ℕ) (i : Instr) (s : Moment) → IsAt size address 1 s → suc q < 32 → effect i s.hart ≡ Write (suc q) x → x < 2 ^ 32
      → LineLeads rom address (i ∷ []) s (Becomes size (address + 4) (suc q) x)
  one address q x i s at few e small =
      writes-then rom size address s _ 0 q x i [] at e small (λ next. line-ends rom size (address + 4) _ _
      (record { valid = next.valid; here = refl; holds = reg-same size (address + 4) q x s at.valid few }))

  -- a line of two, both of which do
  two : (address q x y : ℕ) (i j : Instr) (s : Moment) → IsAt size address 2 s → suc q < 32 → effect i s.hart ≡ Write (suc q) x → x < 2 ^ 32
      → ((s1 : Moment) → reg_at (suc q) s1 ≡ x → reg_at 0 s1 ≡ 0 → effect j s1.hart ≡ Write (suc q) y) → y < 2 ^ 32
      → LineLeads rom address (i ∷ j ∷ []) s (Becomes size (address + 8) (suc q) y)
  two address q x y i j s at few e small f below =
      writes-then rom size address s _ 1 q x i (j ∷ []) at e small (λ next.
      let s1 : Moment = written (address + 4) (suc q) x s in
      let eight : address + 4 + 4 ≡ address + 8 = omega arith in
      subst (λ n. LineLeads rom (address + 4) (j ∷ []) s1 (Becomes size n (suc q) y)) eight
      (one (address + 4) q y j s1 next few (f s1 (reg-same size (address + 4) q x s at.valid few) next.valid.hart.regs.zero_reg) below))

  -- the line of `not`
  pub denied-leads : (address q : ℕ) (s : Moment) → IsAt size address 1 s → suc q < 32
      → LineLeads rom address (denied (suc q)) s (Becomes size (address + 4 * length (denied (suc q))) (suc q) (denied_word (reg_at (suc q) s)))
  denied-leads address q s at few = one address q _ (Sltiu (suc q) (suc q) (pos 1)) s at few (does-denied s (suc q) _ 0 refl) (flag-below _)

  -- both truths, and then an instruction on them
  truths : (address q z : ℕ) (i : Instr) (s : Moment) → IsAt size address 3 s → suc (suc q) < 32
      → ((s2 : Moment) → reg_at (suc q) s2 ≡ flag (nat_lt 0 (reg_at (suc q) s)) → reg_at (suc (suc q)) s2 ≡ flag (nat_lt 0 (reg_at (suc (suc q)) s)) → effect i s2.hart ≡ Write (suc q) z)
      → z < 2 ^ 32 → LineLeads rom address (asserted (suc q) ∷ asserted (suc (suc q)) ∷ i ∷ []) s (Becomes size (address + 12) (suc q) z)
  truths address q z i s at few f below =
      writes-then rom size address s _ 2 q a (asserted (suc q)) _ at (does-asserted s (suc q) (reg_at (suc q) s) 0 at.valid.hart.regs.zero_reg refl) (flag-below _) (λ next.
      let s1 : Moment = written (address + 4) (suc q) a s in
      let apart : suc (suc q) ≢ suc q = omega arith in
      let back : suc q ≢ suc (suc q) = omega arith in
      let second : reg_at (suc (suc q)) s1 ≡ reg_at (suc (suc q)) s = reg-other (address + 4) (suc q) (suc (suc q)) a s apart in
      writes-then rom size (address + 4) s1 _ 1 (suc q) b (asserted (suc (suc q))) _ next (does-asserted s1 (suc (suc q)) (reg_at (suc (suc q)) s) 0 next.valid.hart.regs.zero_reg second) (flag-below _) (λ last.
      let s2 : Moment = written (address + 4 + 4) (suc (suc q)) b s1 in
      let twelve : address + 4 + 4 + 4 ≡ address + 12 = omega arith in
      subst (λ n. LineLeads rom (address + 4 + 4) (i ∷ []) s2 (Becomes size n (suc q) z)) twelve
      (one (address + 4 + 4) q z i s2 last (omega arith)
      (f s2 (reg-other (address + 4 + 4) (suc (suc q)) (suc q) b s1 back ∙ reg-same size (address + 4) q a s at.valid (omega arith))
      (reg-same size (address + 4 + 4) (suc q) b s1 next.valid few)) below)))
    where
      a : ℕ
      a = flag (nat_lt 0 (reg_at (suc q) s))

      b : ℕ
      b = flag (nat_lt 0 (reg_at (suc (suc q)) s))

  pub operated-leads : (op : Op) (address q : ℕ) (s : Moment) → IsAt size address (length (operated op (suc q))) s → suc (suc q) < 32
      → LineLeads rom address (operated op (suc q)) s
      (Becomes size (address + 4 * length (operated op (suc q))) (suc q) (operated_word op (reg_at (suc q) s) (reg_at (suc (suc q)) s)))
  operated-leads ops.Add address q s at few = one address q _ _ s at (omega arith) (does-add s (suc q) _ _ (suc (suc q)) refl refl) (plus-below _ _)
  operated-leads ops.Sub address q s at few = one address q _ _ s at (omega arith) (does-sub s (suc q) _ _ (suc (suc q)) refl refl) (minus-below _ _)
  operated-leads ops.Eq address q s at few =
      two address q _ _ _ _ s at (omega arith) (does-sub s (suc q) _ _ (suc (suc q)) refl refl) (minus-below _ _) (λ s1 e z. does-denied s1 (suc q) _ 0 e) (flag-below _)
  operated-leads ops.Ne address q s at few =
      two address q _ _ _ _ s at (omega arith) (does-sub s (suc q) _ _ (suc (suc q)) refl refl) (minus-below _ _) (λ s1 e z. does-asserted s1 (suc q) _ 0 z e) (flag-below _)
  operated-leads ops.Lt address q s at few = one address q _ _ s at (omega arith) (does-slt s (suc q) _ _ (suc q) (suc (suc q)) refl refl) (flag-below _)
  operated-leads ops.Le address q s at few =
      two address q _ _ _ _ s at (omega arith) (does-slt s (suc q) _ _ (suc (suc q)) (suc q) refl refl) (flag-below _) (λ s1 e z. does-denied s1 (suc q) _ 0 e) (flag-below _)
  operated-leads ops.Gt address q s at few = one address q _ _ s at (omega arith) (does-slt s (suc q) _ _ (suc (suc q)) (suc q) refl refl) (flag-below _)
  operated-leads ops.Ge address q s at few =
      two address q _ _ _ _ s at (omega arith) (does-slt s (suc q) _ _ (suc q) (suc (suc q)) refl refl) (flag-below _) (λ s1 e z. does-denied s1 (suc q) _ 0 e) (flag-below _)
  operated-leads ops.And address q s at few =
      truths address q _ _ s at few (λ s2 e f. does-and s2 (suc q) _ _ (suc (suc q)) e f) (subst (λ n. n < 2 ^ 32) (sym (both-flags _ _)) (flag-below _))
  operated-leads ops.Or address q s at few =
      truths address q _ _ s at few (λ s2 e f. does-or s2 (suc q) _ _ (suc (suc q)) e f) (subst (λ n. n < 2 ^ 32) (sym (either-flag _ _)) (flag-below _))

  -- the first of two values is kept where a test on them passes, else the second is taken
  kept : (a b address q : ℕ) (s : Moment) → IsAt size address 2 s → suc q < 32
      → LineLeads rom address (Blt a b (pos 8) ∷ Addi (suc q) (suc (suc q)) (pos 0) ∷ []) s
      (Becomes size (address + 8) (suc q) (cond (is_less (reg_at a s) (reg_at b s)) (reg_at (suc q) s) (reg_at (suc (suc q)) s)))
  kept a b address q s at few =
      skips-then rom size address s _ 0 a b _ [] at
      (λ e next. line-ends rom size (address + 8) _ _ (record { valid = next.valid; here = refl; holds = rw e refl }))
      (λ e next.
      let eight : address + 4 + 4 ≡ address + 8 = omega arith in
      rw e (subst (λ n. LineLeads rom (address + 4) (Addi (suc q) (suc (suc q)) (pos 0) ∷ []) (moved (address + 4) s) (Becomes size n (suc q) (reg_at (suc (suc q)) s))) eight (one (address + 4) q _ _ _ next few (does-copied (moved (address + 4) s) (suc q) _ 0 (suc (suc q)) refl (reg-below size (suc (suc q)) s at.valid)) (reg-below size (suc (suc q)) s at.valid))))

  pub lesser-leads : (address q : ℕ) (s : Moment) → IsAt size address 2 s → suc q < 32
      → LineLeads rom address (lesser (suc q)) s (Becomes size (address + 4 * length (lesser (suc q))) (suc q) (lesser_word (reg_at (suc q) s) (reg_at (suc (suc q)) s)))
  lesser-leads address q s at few = kept (suc q) (suc (suc q)) address q s at few

  pub greater-leads : (address q : ℕ) (s : Moment) → IsAt size address 2 s → suc q < 32
      → LineLeads rom address (greater (suc q)) s (Becomes size (address + 4 * length (greater (suc q))) (suc q) (greater_word (reg_at (suc q) s) (reg_at (suc (suc q)) s)))
  greater-leads address q s at few = kept (suc (suc q)) (suc q) address q s at few
