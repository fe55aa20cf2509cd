-- What is found of a rule, from what is found of its parts.
use Rattle.std.proofs.Common.{◌≡◌, ℕ, ◌+◌, ◌*◌, ◌<◌, ◌≤◌, Bool, List, [], ◌∷◌, map, length, drop, get_or, max, sym, ap, ◌∙◌, arith}
use Rattle.std.proofs.lemmas.List.{drop_more}
use Rattle.asm_names.specs.declared.program.Domain.{Domain}
use Rattle.asm_names.specs.declared.resolved_term.ResolvedTerm.{ResolvedTerm}
use Rattle.asm_names.specs.declared.resolved_rule.ResolvedRule.{ResolvedRule, ResolvedRule-F}
use Rattle.asm_names.specs.declared.resolved_rule.ResolvedRule.TheVariants as rules
use Rattle.state_space.specs.declared.signature.Range.{Range}
use Rattle.state_space.specs.Locations.{range_of}
use Rattle.bound_count.specs.declared.shape.Shape.{Shape}
use Rattle.bound_count.specs.declared.shape.Shape.TheVariants as shapes
use Rattle.bound_count.specs.declared.terms.TermNeed.{TermNeed}
use Rattle.bound_count.specs.declared.rules.RuleNeed.{RuleNeed}
use Rattle.bound_count.specs.Amounts.{kept}
use Rattle.bound_count.specs.TermWeights.{arguments_weight, arguments_registers, term_weight, term_registers}
use Rattle.bound_count.specs.RuleWeights.{forall_words, forall_ticks, choose_words, choose_ticks, guard_weight, guard_registers, rule_words, rule_ticks}
use Rattle.bound_count.specs.RuleNeeds.{RuleNeeds, RulesNeed}
use Rattle.bound_count.proofs.KeptNumbers.{kept-factor}
use Rattle.bound_count.proofs.Levels.{words_at, ticks_at, rule_registers_at, nesting_at}

-- ---- what is left of a list
pub left-from : {A : Type 0} (i : ℕ) (xs : List A) (x : A) → i < length xs → x ≡ get_or xs i x → drop i xs ≡ x ∷ drop (i + 1) xs
left-from i xs x there is = drop_more xs i x there ∙ ap (λ y. y ∷ drop (i + 1) xs) (sym is)

-- ---- terms

-- a list of arguments needs a register
pub some_register : (taken : ℕ) (needs : List ℕ) → 1 ≤ arguments_registers taken needs
some_register taken [] = omega arith
some_register taken (n ∷ needs) = omega (arith, some_register 1 needs)

-- ---- loops

of-forall_words : (shape : Shape) (n g b : ℕ) → kept (forall_words shape n (kept g) (kept b)) ≡ kept (forall_words shape n g b)
of-forall_words shapes.Unrolled n g b = kept-factor n (8 + (kept g + kept b)) (8 + (g + b)) (omega arith)
of-forall_words shapes.Looped n g b = omega arith

of-forall_ticks : (shape : Shape) (n g b : ℕ) → kept (forall_ticks shape n (kept g) (kept b)) ≡ kept (forall_ticks shape n g b)
of-forall_ticks shapes.Unrolled n g b = kept-factor n (8 + (kept g + kept b)) (8 + (g + b)) (omega arith)
of-forall_ticks shapes.Looped n g b =
    let passes : kept ((n + 1) * (24 + (kept g + kept b))) ≡ kept ((n + 1) * (24 + (g + b))) = kept-factor (n + 1) _ _ (omega arith) in
    omega (arith, passes)

of-choose_words : (shape : Shape) (n g b o : ℕ) → kept (choose_words shape n (kept g) (kept b) (kept o)) ≡ kept (choose_words shape n g b o)
of-choose_words shapes.Unrolled n g b o =
    let each : kept (n * (8 + (kept g + kept b))) ≡ kept (n * (8 + (g + b))) = kept-factor n _ _ (omega arith) in
    omega (arith, each)
of-choose_words shapes.Looped n g b o = omega arith

of-choose_ticks : (shape : Shape) (n g b o : ℕ) → kept (choose_ticks shape n (kept g) (kept b) (kept o)) ≡ kept (choose_ticks shape n g b o)
of-choose_ticks shapes.Unrolled n g b o =
    let each : kept (n * (8 + (kept g + kept b))) ≡ kept (n * (8 + (g + b))) = kept-factor n _ _ (omega arith) in
    omega (arith, each)
of-choose_ticks shapes.Looped n g b o =
    let passes : kept ((n + 1) * (32 + kept g)) ≡ kept ((n + 1) * (32 + g)) = kept-factor (n + 1) _ _ (omega arith) in
    omega (arith, passes)

-- ---- rules

module _ (shape : Shape) (domains : List Domain) (rule : ResolvedRule) where
  pub of-Skip : rule ≡ rules.Skip → (n : RuleNeed) → n.words ≡ 0 → n.ticks ≡ 0 → n.registers ≡ 0 → n.nesting ≡ 0 → RuleNeeds shape domains rule n
  of-Skip e n w t r d =
      let s = rules.rolls-Skip ∙ sym e in
      record {
        words = omega (arith, w, words_at ResolvedRule-F.Skip rule s shape domains);
        ticks = omega (arith, t, ticks_at ResolvedRule-F.Skip rule s shape domains);
        registers = omega (arith, r, rule_registers_at ResolvedRule-F.Skip rule s);
        nesting = omega (arith, d, nesting_at ResolvedRule-F.Skip rule s);
      }

  pub of-Update : (f : ℕ) (args : List ResolvedTerm) (v : ResolvedTerm) → rule ≡ rules.Update f args v
      → (a : TermNeed) → a.weight ≡ kept (arguments_weight (map term_weight args)) → a.registers ≡ kept (arguments_registers 0 (map term_registers args))
      → (b : TermNeed) → b.weight ≡ kept (term_weight v) → b.registers ≡ kept (term_registers v)
      → (n : RuleNeed) → n.words ≡ kept (48 + (a.weight + b.weight)) → n.ticks ≡ kept (48 + (a.weight + b.weight)) → n.registers ≡ max a.registers (kept (1 + b.registers)) → n.nesting ≡ 0
      → RuleNeeds shape domains rule n
  of-Update f args v e a aw ar b bw br n w t r d =
      let x : ResolvedRule-F ResolvedRule = ResolvedRule-F.Update f args v in
      let s = rules.rolls-Update f args v ∙ sym e in
      record {
        words = omega (arith, w, aw, bw, words_at x rule s shape domains);
        ticks = omega (arith, t, aw, bw, ticks_at x rule s shape domains);
        registers = omega (arith, r, ar, br, rule_registers_at x rule s);
        nesting = omega (arith, d, nesting_at x rule s);
      }

  pub of-If : (g : ResolvedTerm) (p q : ResolvedRule) (h : Bool) → rule ≡ rules.If g p q h
      → (a : TermNeed) → a.weight ≡ kept (term_weight g) → a.registers ≡ kept (term_registers g)
      → (b c : RuleNeed) → RuleNeeds shape domains p b → RuleNeeds shape domains q c
      → (n : RuleNeed) → n.words ≡ kept (8 + (a.weight + (b.words + c.words))) → n.ticks ≡ kept (8 + (a.weight + (b.ticks + c.ticks)))
      → n.registers ≡ max a.registers (max b.registers c.registers) → n.nesting ≡ max b.nesting c.nesting → RuleNeeds shape domains rule n
  of-If g p q h e a aw ar b c bn cn n w t r d =
      let x : ResolvedRule-F ResolvedRule = ResolvedRule-F.If g p q h in
      let s = rules.rolls-If g p q h ∙ sym e in
      record {
        words = omega (arith, w, aw, bn.words, cn.words, words_at x rule s shape domains);
        ticks = omega (arith, t, aw, bn.ticks, cn.ticks, ticks_at x rule s shape domains);
        registers = omega (arith, r, ar, bn.registers, cn.registers, rule_registers_at x rule s);
        nesting = omega (arith, d, bn.nesting, cn.nesting, nesting_at x rule s);
      }

  pub of-Par : (parts : List ResolvedRule) → rule ≡ rules.Par parts → (n : RuleNeed) → RulesNeed shape domains parts n → RuleNeeds shape domains rule n
  of-Par parts e n h =
      let x : ResolvedRule-F ResolvedRule = ResolvedRule-F.Par parts in
      let s = rules.rolls-Par parts ∙ sym e in
      record {
        words = h.words ∙ sym (ap kept (words_at x rule s shape domains));
        ticks = h.ticks ∙ sym (ap kept (ticks_at x rule s shape domains));
        registers = h.registers ∙ sym (ap kept (rule_registers_at x rule s));
        nesting = h.nesting ∙ sym (ap kept (nesting_at x rule s));
      }

  pub of-Let : (k : ℕ) (v : ResolvedTerm) (body : ResolvedRule) → rule ≡ rules.Let k v body
      → (a : TermNeed) → a.weight ≡ kept (term_weight v) → a.registers ≡ kept (term_registers v) → (b : RuleNeed) → RuleNeeds shape domains body b
      → (n : RuleNeed) → n.words ≡ kept (8 + (a.weight + b.words)) → n.ticks ≡ kept (8 + (a.weight + b.ticks)) → n.registers ≡ max a.registers b.registers → n.nesting ≡ b.nesting
      → RuleNeeds shape domains rule n
  of-Let k v body e a aw ar b bn n w t r d =
      let x : ResolvedRule-F ResolvedRule = ResolvedRule-F.Let k v body in
      let s = rules.rolls-Let k v body ∙ sym e in
      record {
        words = omega (arith, w, aw, bn.words, words_at x rule s shape domains);
        ticks = omega (arith, t, aw, bn.ticks, ticks_at x rule s shape domains);
        registers = omega (arith, r, ar, bn.registers, rule_registers_at x rule s);
        nesting = omega (arith, d, bn.nesting, nesting_at x rule s);
      }

  pub of-Forall : (k m : ℕ) (g : ResolvedTerm) (gd : Bool) (body : ResolvedRule) → rule ≡ rules.Forall k m g gd body → (range : Range) → range ≡ range_of domains m
      → (a : TermNeed) → a.weight ≡ kept (guard_weight gd g) → a.registers ≡ kept (guard_registers gd g) → (b : RuleNeed) → RuleNeeds shape domains body b
      → (n : RuleNeed) → n.words ≡ kept (forall_words shape range.size a.weight b.words) → n.ticks ≡ kept (forall_ticks shape range.size a.weight b.ticks)
      → n.registers ≡ max a.registers b.registers → n.nesting ≡ kept (1 + b.nesting) → RuleNeeds shape domains rule n
  of-Forall k m g gd body e range is a aw ar b bn n w t r d =
      let x : ResolvedRule-F ResolvedRule = ResolvedRule-F.Forall k m g gd body in
      let s = rules.rolls-Forall k m g gd body ∙ sym e in
      record {
        words = rw (is, aw, bn.words) at w ∙ of-forall_words shape (range_of domains m).size (guard_weight gd g) (rule_words shape domains body)
            ∙ sym (ap kept (words_at x rule s shape domains));
        ticks = rw (is, aw, bn.ticks) at t ∙ of-forall_ticks shape (range_of domains m).size (guard_weight gd g) (rule_ticks shape domains body)
            ∙ sym (ap kept (ticks_at x rule s shape domains));
        registers = omega (arith, r, ar, bn.registers, rule_registers_at x rule s);
        nesting = omega (arith, d, bn.nesting, nesting_at x rule s);
      }

  pub of-Choose : (k m : ℕ) (g : ResolvedTerm) (body other : ResolvedRule) (h : Bool) → rule ≡ rules.Choose k m g body other h → (range : Range) → range ≡ range_of domains m
      → (a : TermNeed) → a.weight ≡ kept (term_weight g) → a.registers ≡ kept (term_registers g)
      → (b c : RuleNeed) → RuleNeeds shape domains body b → RuleNeeds shape domains other c
      → (n : RuleNeed) → n.words ≡ kept (choose_words shape range.size a.weight b.words c.words) → n.ticks ≡ kept (choose_ticks shape range.size a.weight b.ticks c.ticks)
      → n.registers ≡ max a.registers (max b.registers c.registers) → n.nesting ≡ kept (1 + max b.nesting c.nesting) → RuleNeeds shape domains rule n
  of-Choose k m g body other h e range is a aw ar b c bn cn n w t r d =
      let x : ResolvedRule-F ResolvedRule = ResolvedRule-F.Choose k m g body other h in
      let s = rules.rolls-Choose k m g body other h ∙ sym e in
      record {
        words = rw (is, aw, bn.words, cn.words) at w
            ∙ of-choose_words shape (range_of domains m).size (term_weight g) (rule_words shape domains body) (rule_words shape domains other)
            ∙ sym (ap kept (words_at x rule s shape domains));
        ticks = rw (is, aw, bn.ticks, cn.ticks) at t
            ∙ of-choose_ticks shape (range_of domains m).size (term_weight g) (rule_ticks shape domains body) (rule_ticks shape domains other)
            ∙ sym (ap kept (ticks_at x rule s shape domains));
        registers = omega (arith, r, ar, bn.registers, cn.registers, rule_registers_at x rule s);
        nesting = omega (arith, d, bn.nesting, cn.nesting, nesting_at x rule s);
      }
