-- What the code of each form of a term is made of.
use Rattle.std.proofs.Common.{◌≡◌, ℕ, suc, ◌+◌, ◌≤◌, ◌<◌, ◌&&◌, ℤ, pos, negsuc, Bool, true, List, ◌∷◌, map, sym, ap, ◌∙◌, subst, arith}
use Rattle.std.{specs.{Prelude.{int_le, slice_get}, List.{list_all}, Int.{w32}, Int.RustNames.{FitsSigned}}, proofs.lemmas.{Bool.{and_parts, ltb-true}, Int.{ints}}}
use Rattle.asm_tree.specs.declared.term.Op.{Op}
use Rattle.asm_names.specs.declared.{program.Resolved.{Resolved}, resolved_term.ResolvedTerm.{ResolvedTerm, ResolvedTerm-F, roll-ResolvedTerm, map-ResolvedTerm}}
use Rattle.asm_names.specs.declared.resolved_term.ResolvedTerm.TheVariants as terms
use Rattle.state_space.specs.Codomains.{just}
use Rattle.asm_ranges.specs.Ranges.{inside, words}
use Rattle.block_code.specs.Plan.{If, Line, Plan, Seq}
use Rattle.block_code.specs.Sequence.{load_immediate}
use Rattle.state_layout.specs.Map.{Placement, slot}
use Rattle.mask_guard.specs.Mask.{word_of}
use Rattle.bound_count.specs.TermWeights.{arguments_registers, term_registers, term_registers_by}
use Rattle.instr_select.specs.{Binders.{binder_range}, FitLaw.{short_numbers, short_numbers_by}, Operators.{denied, greater, lesser, operated}, Terms.{binder_line, binders_below, binders_below_by, read_plan, term_plan, term_plan_by}, Writing.{AreWritable, IsWritable}}
use Rattle.instr_select.proofs.{Fits.{numbers_at}, Levels.{below_at, plan_at, registers_at}}

-- a number that is a word
word-number : (v : ℤ) → inside (just v) words ≡ true → FitsSigned w32 v
word-number v h = let e = and_parts (int_le (negsuc 2147483647) v) (int_le v (pos 2147483647)) h in let low = e.0 in let high = e.1 in grind (arith, ints)

module _ (program : Resolved) (term : ResolvedTerm) (q : ℕ) where
  -- one level of what is asked of a term
  record Opened (x : ResolvedTerm-F ResolvedTerm) : Type 0 where
    pub below : binders_below_by program.binders (map-ResolvedTerm ResolvedTerm Bool (binders_below program.binders) x) ≡ true
    pub short : short_numbers_by (map-ResolvedTerm ResolvedTerm Bool short_numbers x) ≡ true
    pub registers : q + term_registers_by (map-ResolvedTerm ResolvedTerm ℕ term_registers x) ≤ 21

  opened : (x : ResolvedTerm-F ResolvedTerm) → roll-ResolvedTerm x ≡ term → IsWritable program term q → Opened x
  opened x e w = record {
    below = sym (below_at x program.binders) ∙ ap (binders_below program.binders) e ∙ w.below;
    short = sym (numbers_at x) ∙ ap short_numbers e ∙ w.short;
    registers = subst (λ n. q + n ≤ 21) (sym (sym (registers_at x) ∙ ap term_registers e)) w.registers;
  }

  pub number-fits : (v : ℤ) → term ≡ terms.Number v → IsWritable program term q → FitsSigned w32 v
  number-fits v e w = word-number v (opened (ResolvedTerm-F.Number v) (terms.rolls-Number v ∙ sym e) w).short

  pub binder-known : (b : ℕ) → term ≡ terms.Var b → IsWritable program term q → b < program.binders
  binder-known b e w = ltb-true b program.binders (opened (ResolvedTerm-F.Var b) (terms.rolls-Var b ∙ sym e) w).below

  pub args-of : (f : ℕ) (args : List ResolvedTerm) → term ≡ terms.Read f args → IsWritable program term q → AreWritable program args 0 q
  args-of f args e w =
      let o = opened (ResolvedTerm-F.Read f args) (terms.rolls-Read f args ∙ sym e) w in record { below = o.below; short = o.short; registers = o.registers }

  abbrev Both : ResolvedTerm → ResolvedTerm → Type 0
  Both l r = IsWritable program l q × IsWritable program r (suc q)

  both : (l r : ResolvedTerm) → (binders_below program.binders l && binders_below program.binders r) ≡ true → (short_numbers l && short_numbers r) ≡ true
      → q + term_registers l ≤ 21 → suc q + term_registers r ≤ 21 → Both l r
  both l r b s g h =
      let x = and_parts (binders_below program.binders l) (binders_below program.binders r) b in let y = and_parts (short_numbers l) (short_numbers r) s in
      (record { below = x.0; short = y.0; registers = g }, record { below = x.1; short = y.1; registers = h })

  pub of-Binary : (op : Op) (l r : ResolvedTerm) → term ≡ terms.Binary op l r → IsWritable program term q → Both l r
  of-Binary op l r e w = let o = opened (ResolvedTerm-F.Binary op l r) (terms.rolls-Binary op l r ∙ sym e) w in let g = o.registers in both l r o.below o.short (omega arith) (omega arith)

  pub of-Min : (l r : ResolvedTerm) → term ≡ terms.Min l r → IsWritable program term q → Both l r
  of-Min l r e w = let o = opened (ResolvedTerm-F.Min l r) (terms.rolls-Min l r ∙ sym e) w in let g = o.registers in both l r o.below o.short (omega arith) (omega arith)

  pub of-Max : (l r : ResolvedTerm) → term ≡ terms.Max l r → IsWritable program term q → Both l r
  of-Max l r e w = let o = opened (ResolvedTerm-F.Max l r) (terms.rolls-Max l r ∙ sym e) w in let g = o.registers in both l r o.below o.short (omega arith) (omega arith)

  pub of-Not : (t : ResolvedTerm) → term ≡ terms.Not t → IsWritable program term q → IsWritable program t q
  of-Not t e w = let o = opened (ResolvedTerm-F.Not t) (terms.rolls-Not t ∙ sym e) w in record { below = o.below; short = o.short; registers = o.registers }

  pub of-Cond : (g l r : ResolvedTerm) → term ≡ terms.Cond g l r → IsWritable program term q → IsWritable program g q × IsWritable program l q × IsWritable program r q
  of-Cond g l r e w =
      let o = opened (ResolvedTerm-F.Cond g l r) (terms.rolls-Cond g l r ∙ sym e) w in
      let n = o.registers in
      let x = and_parts (binders_below program.binders g) (binders_below program.binders l && binders_below program.binders r) o.below in
      let y = and_parts (short_numbers g) (short_numbers l && short_numbers r) o.short in
      let b = and_parts (binders_below program.binders l) (binders_below program.binders r) x.1 in
      let s = and_parts (short_numbers l) (short_numbers r) y.1 in
      (record { below = x.0; short = y.0; registers = omega arith }, record { below = b.0; short = s.0; registers = omega arith }, record { below = b.1; short = s.1; registers = omega arith })

  -- the arguments behind the first
  pub later-args : (taken : ℕ) (args : List ResolvedTerm) (arg : ResolvedTerm) (others : List ResolvedTerm) → args ≡ arg ∷ others → AreWritable program args taken q → AreWritable program others 1 q
  later-args taken args arg others e w = by (subst (λ l. AreWritable program l taken q) e w)
    where
      by : AreWritable program (arg ∷ others) taken q → AreWritable program others 1 q
      by v =
          let b = and_parts (binders_below program.binders arg) (list_all (λ (x : Bool). x) (map (binders_below program.binders) others)) v.below in
          let s = and_parts (short_numbers arg) (list_all (λ (x : Bool). x) (map short_numbers others)) v.short in
          let g = v.registers in
          record { below = b.1; short = s.1; registers = omega arith }

module _ (program : Resolved) (placement : Placement) (tables : ℕ) (term : ResolvedTerm) (q : ℕ) where
  abbrev P : ResolvedTerm → ℕ → Plan
  P = term_plan program placement tables

  at : (x : ResolvedTerm-F ResolvedTerm) → roll-ResolvedTerm x ≡ term → term_plan_by program placement tables (map-ResolvedTerm ResolvedTerm (ℕ → Plan) P x) q ≡ P term q
  at x e = ap (λ (f : ℕ → Plan). f q) (sym (plan_at x program placement tables)) ∙ ap (λ t. P t q) e

  turn : (a b c x y z : Plan) → x ≡ a → y ≡ b → z ≡ c → Seq x (Seq y z) ≡ Seq a (Seq b c)
  turn a b c x y z h k l = ap (λ p. Seq p (Seq y z)) h ∙ ap (λ p. Seq a (Seq p z)) k ∙ ap (λ p. Seq a (Seq b p)) l

  pub plan-Number : (v : ℤ) → term ≡ terms.Number v → Line (load_immediate q (word_of v)) ≡ P term q
  plan-Number v e = at (ResolvedTerm-F.Number v) (terms.rolls-Number v ∙ sym e)

  pub plan-Var : (b : ℕ) → term ≡ terms.Var b → Line (binder_line (binder_range program b) (slot placement b) q) ≡ P term q
  plan-Var b e = at (ResolvedTerm-F.Var b) (terms.rolls-Var b ∙ sym e)

  pub plan-Read : (f : ℕ) (args : List ResolvedTerm) → term ≡ terms.Read f args → read_plan placement tables f (slice_get placement.signatures f) (map P args) q ≡ P term q
  plan-Read f args e = at (ResolvedTerm-F.Read f args) (terms.rolls-Read f args ∙ sym e)

  pub plan-Binary : (op : Op) (l r : ResolvedTerm) → term ≡ terms.Binary op l r → (x y z : Plan) → x ≡ P l q → y ≡ P r (suc q) → z ≡ Line (operated op q) → Seq x (Seq y z) ≡ P term q
  plan-Binary op l r e x y z h k n = turn (P l q) (P r (suc q)) (Line (operated op q)) x y z h k n ∙ at (ResolvedTerm-F.Binary op l r) (terms.rolls-Binary op l r ∙ sym e)

  pub plan-Min : (l r : ResolvedTerm) → term ≡ terms.Min l r → (x y z : Plan) → x ≡ P l q → y ≡ P r (suc q) → z ≡ Line (lesser q) → Seq x (Seq y z) ≡ P term q
  plan-Min l r e x y z h k n = turn (P l q) (P r (suc q)) (Line (lesser q)) x y z h k n ∙ at (ResolvedTerm-F.Min l r) (terms.rolls-Min l r ∙ sym e)

  pub plan-Max : (l r : ResolvedTerm) → term ≡ terms.Max l r → (x y z : Plan) → x ≡ P l q → y ≡ P r (suc q) → z ≡ Line (greater q) → Seq x (Seq y z) ≡ P term q
  plan-Max l r e x y z h k n = turn (P l q) (P r (suc q)) (Line (greater q)) x y z h k n ∙ at (ResolvedTerm-F.Max l r) (terms.rolls-Max l r ∙ sym e)

  pub plan-Not : (t : ResolvedTerm) → term ≡ terms.Not t → (x y : Plan) → x ≡ P t q → y ≡ Line (denied q) → Seq x y ≡ P term q
  plan-Not t e x y h k = ap (λ p. Seq p y) h ∙ ap (Seq (P t q)) k ∙ at (ResolvedTerm-F.Not t) (terms.rolls-Not t ∙ sym e)

  pub plan-Cond : (g l r : ResolvedTerm) → term ≡ terms.Cond g l r → (x y z w : Plan) → x ≡ P g q → y ≡ P l q → z ≡ P r q → w ≡ If q y z → Seq x w ≡ P term q
  plan-Cond g l r e x y z w h k n m =
      ap (λ p. Seq p w) h ∙ ap (Seq (P g q)) (m ∙ ap (λ p. If q p z) k ∙ ap (If q (P l q)) n) ∙ at (ResolvedTerm-F.Cond g l r) (terms.rolls-Cond g l r ∙ sym e)

module _ (program : Resolved) (q : ℕ) (args : List ResolvedTerm) (arg : ResolvedTerm) (others : List ResolvedTerm) (e : args ≡ arg ∷ others) where
  first-parts : (taken : ℕ) → AreWritable program args taken q → (binders_below program.binders arg ≡ true) × (short_numbers arg ≡ true) × (q + arguments_registers taken (map term_registers (arg ∷ others)) ≤ 21)
  first-parts taken w = by (subst (λ l. AreWritable program l taken q) e w)
    where
      by : AreWritable program (arg ∷ others) taken q → (binders_below program.binders arg ≡ true) × (short_numbers arg ≡ true) × (q + arguments_registers taken (map term_registers (arg ∷ others)) ≤ 21)
      by v = (
        (and_parts (binders_below program.binders arg) (list_all (λ (x : Bool). x) (map (binders_below program.binders) others)) v.below).0,
        (and_parts (short_numbers arg) (list_all (λ (x : Bool). x) (map short_numbers others)) v.short).0,
        v.registers,
      )

  -- the first argument, and one behind others
  pub first-arg : AreWritable program args 0 q → IsWritable program arg q
  first-arg w = let p = first-parts 0 w in let g = p.2 in record { below = p.0; short = p.1; registers = omega arith }

  pub next-arg : AreWritable program args 1 q → IsWritable program arg (suc q)
  next-arg w = let p = first-parts 1 w in let g = p.2 in record { below = p.0; short = p.1; registers = omega arith }
