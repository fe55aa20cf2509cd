-- The tests of `Program::new` decide whether parts are a program.
use Rattle.std.proofs.Common.{ℕ, Option, Some, None, refl, ◌&&◌, Decides}
use Rattle.std.proofs.lemmas.Bool.{and_parts, and_from}
use Rattle.asm_tree.specs.declared.term.Term.{Term}
use Rattle.asm_tree.specs.Forms.{guard_within, rule_within}
use Rattle.asm_tree.specs.Programs.{Parts, IsProgram, IsLegalWithin, decls_fit}
use Rattle.asm_tree.proofs.Within.{decided}
use Rattle.asm_tree.proofs.WithinRules.{rule_decided}

legal_decided : (n : ℕ) (legal : Option Term) → Decides (guard_within n legal) (IsLegalWithin n legal)
legal_decided n None = ((λ h. tt), (λ h. refl))
legal_decided n (Some t) = decided n t

pub program_decided : (p : Parts) → Decides (decls_fit p.decls && (guard_within 48 p.legal && rule_within 48 p.rule)) (IsProgram p)
program_decided p =
    let legal = legal_decided 48 p.legal in
    let rule = rule_decided 48 p.rule in (
      (λ h.
          let a = and_parts (decls_fit p.decls) (guard_within 48 p.legal && rule_within 48 p.rule) h in
          let b = and_parts (guard_within 48 p.legal) (rule_within 48 p.rule) a.1 in
          record { decls = a.0; legal = legal.0 b.0; rule = rule.0 b.1 }),
      (λ w. and_from (decls_fit p.decls) (guard_within 48 p.legal && rule_within 48 p.rule) w.decls (and_from (guard_within 48 p.legal) (rule_within 48 p.rule) (legal.1 w.legal) (rule.1 w.rule))),
    )
