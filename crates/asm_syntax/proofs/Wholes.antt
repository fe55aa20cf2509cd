-- Reading a whole program: what is found stands there, and what stands there is found.
use Rattle.std.proofs.Common.{◌≡◌, ℕ, Bool, true, false, cond, List, [], ◌∷◌, ◌++◌, length, Option, Some, None, Ok, Err, refl, sym, ap, subst, ◌∙◌, append_assoc}
use Rattle.std.proofs.lemmas.List.{append-nil}
use Rattle.asm_tree.specs.declared.key.Key.{Key}
use Rattle.asm_tree.specs.declared.key.Key.TheVariants as keys
use Rattle.asm_tree.specs.declared.term.Term.{Term}
use Rattle.asm_tree.specs.declared.rule.Rule.{Rule}
use Rattle.asm_tree.specs.declared.decl.Decl.{Decl}
use Rattle.asm_tree.specs.Programs.{Parts, IsProgram, IsLegalWithin, decls_fit}
use Rattle.asm_tokens.specs.declared.token.TokenKind.TheVariants as kinds
use Rattle.asm_tokens.specs.Tokens.{same_key}
use Rattle.asm_rules.specs.declared.cursor.Stop.{Stop}
use Rattle.asm_rules.specs.declared.cursor.Stop.TheVariants as stops
use Rattle.asm_syntax.specs.declared.parsing.ParseEnd.{ParseEnd}
use Rattle.asm_rules.specs.Grammar.{key as key_text, term_text, rule_text}
use Rattle.asm_rules.specs.Reading.{Input, and_then, ◌>>=◌, pure, at_end, lead, sees_sign, sees_key, after_key, key, name}
use Rattle.asm_rules.specs.ReadingTerms.{term}
use Rattle.asm_rules.specs.ReadingRules.{rule}
use Rattle.asm_syntax.specs.Whole.{Answers, RefusedAt, end_at}
use Rattle.asm_rules.proofs.Steps.{Takes, ◌▸◌, Takes-same, bind_ok, ok_is, key_takes, name_takes, sees_key_is}
use Rattle.asm_rules.proofs.FindingTerms.{term_finds}
use Rattle.asm_rules.proofs.FindingRules.{rule_finds}
use Rattle.asm_rules.proofs.Again.{NoParens, key_again, name_again, sees_key_again}
use Rattle.asm_rules.proofs.AgainTerms.{term_again}
use Rattle.asm_rules.proofs.AgainRules.{rule_again}
use Rattle.asm_syntax.specs.Grammar.{decls_text, legal_text, program_text}
use Rattle.asm_syntax.specs.Reading.{declarations, legal, program, begins_decl}
use Rattle.asm_syntax.proofs.Finding.{declarations_finds}
use Rattle.asm_syntax.proofs.Again.{declarations_again}

-- ---- what is found stands there

taken_key : (k : Key) (i : Input) → sees_key k i ≡ true → Takes i (key_text k) (after_key k i)
unfolding after_key
taken_key k i h = rw h (record { parts = sees_key_is k i h })

left_key : (k : Key) (i : Input) → sees_key k i ≡ false → i ≡ after_key k i
unfolding after_key
left_key k i h = rw h refl

LegalFound : Input → Input → Option Term → Type 0
LegalFound i j o = Takes i (legal_text o) j × IsLegalWithin 48 o

by_legal : (b : Bool) (i j : Input) (o : Option Term) → sees_key keys.Legal i ≡ b
    → (cond b (do t ← term 48; pure (Some t)) (pure None)) (after_key keys.Legal i) ≡ Ok (o, j) → LegalFound i j o
unfolding LegalFound
by_legal true i j o sees h =
    let a = bind_ok h in
    let g = ok_is a.3 in
    let t = term_finds 48 (after_key keys.Legal i) a.1 a.0 a.2 in
    subst (LegalFound i j) g.0 (taken_key keys.Legal i sees ▸ Takes-same t.0 g.1, t.1)
by_legal false i j o sees h =
    let g = ok_is h in
    subst (LegalFound i j) g.0 (record { parts = left_key keys.Legal i sees ∙ g.1 }, tt)

legal_finds : (i j : Input) (o : Option Term) → legal i ≡ Ok (o, j) → LegalFound i j o
unfolding legal and_then
legal_finds i j o h = by_legal (sees_key keys.Legal i) i j o refl h

end_takes : (i j : Input) (u : Unit {0}) → at_end i ≡ Ok (u, j) → i ≡ []
unfolding at_end
end_takes [] j u h = refl
end_takes (k ∷ i) j u h = absurd cc

pub program_found : (i j : Input) (p : Parts) → program i ≡ Ok (p, j) → IsProgram p × (i ≡ program_text p)
unfolding program LegalFound
program_found i j p h =
    let a = bind_ok h in
    let b = bind_ok a.3 in
    let c = bind_ok b.3 in
    let d = bind_ok c.3 in
    let e = bind_ok d.3 in
    let f = bind_ok e.3 in
    let k = bind_ok f.3 in
    let g = ok_is k.3 in
    let all = declarations_finds b.1 c.1 c.0 c.2 in
    let test = legal_finds c.1 d.1 d.0 d.2 in
    let body = rule_finds 48 e.1 f.1 f.0 f.2 in
    let declared = subst (λ ds. Takes b.1 (decls_text ds) c.1 × (decls_fit ds ≡ true)) (sym all.whole) (all.taken, all.good) in
    let found : Parts = record { name = b.0; decls = c.0; legal = d.0; rule = f.0 } in
    let text = key_takes a.2 ▸ name_takes a.1 b.1 b.0 b.2 ▸ declared.0 ▸ test.0 ▸ key_takes e.2 ▸ Takes-same body.0 (end_takes f.1 k.1 k.0 k.2) in
    subst (λ p. IsProgram p × (i ≡ program_text p)) g.0
    (record { decls = declared.1; legal = test.1; rule = body.1 }, text.parts ∙ append-nil (program_text found))

-- ---- what stands there is found

no_parens_rule : (i : Input) → NoParens (kinds.Key keys.Rule ∷ i)
unfolding sees_sign lead
no_parens_rule i = record { none = refl }

no_legal_rule : (i : Input) → sees_key keys.Legal (kinds.Key keys.Rule ∷ i) ≡ false
unfolding sees_key lead same_key
no_legal_rule i = refl

legal_again : (o : Option Term) (rest : Input) → IsLegalWithin 48 o → legal (legal_text o ++ (kinds.Key keys.Rule ∷ rest)) ≡ Ok (o, kinds.Key keys.Rule ∷ rest)
unfolding legal and_then after_key
legal_again None rest within = rw (no_legal_rule rest) refl
legal_again (Some t) rest within =
    let i = kinds.Key keys.Rule ∷ rest in
    rw (sees_key_again keys.Legal (term_text t ++ i), term_again 48 t within i (no_parens_rule rest)) refl

ended : (o : Option Term) (rest : Input) → begins_decl (lead (legal_text o ++ (kinds.Key keys.Rule ∷ rest))) ≡ false
unfolding lead
ended None rest = refl
ended (Some t) rest = refl

no_parens_end : NoParens []
unfolding sees_sign lead
no_parens_end = record { none = refl }

pub program_again : (i : Input) (p : Parts) → IsProgram p → i ≡ program_text p → program i ≡ Ok (p, [])
unfolding program and_then at_end
program_again i p is e =
    let i3 = rule_text p.rule ++ [] in
    let i2 = legal_text p.legal ++ (kinds.Key keys.Rule ∷ i3) in
    let i1 = decls_text p.decls ++ i2 in
    let whole : program_text p ++ [] ≡ kinds.Key keys.Machine ∷ kinds.Word p.name ∷ i1 = simp append_assoc in
    ap program (e ∙ sym (append-nil (program_text p)) ∙ whole)
    ∙ rw (
      key_again keys.Machine (kinds.Word p.name ∷ i1),
      name_again p.name i1,
      declarations_again p.decls is.decls i2 (ended p.legal i3),
      legal_again p.legal i3 is.legal,
      key_again keys.Rule i3,
      rule_again 48 p.rule is.rule [] no_parens_end,
    ) refl

pub ok_answers : (i j : Input) (found p : Parts) → program i ≡ Ok (found, j) → IsProgram p → i ≡ program_text p → found ≡ p
ok_answers i j found p h is e = (ok_is (sym h ∙ program_again i p is e)).0

pub err_answers : (i : Input) (total : ℕ) (stop : Stop) (end : ParseEnd) (p : Parts) → program i ≡ Err stop → end ≡ end_at total stop
    → IsProgram p → i ≡ program_text p → Answers {A = Parts} (Err end) p
err_answers i total stop end p h ends-is is e = absurd (let q = sym h ∙ program_again i p is e in cc)

-- the steps of reading a program, one after the other
pub program_reads : (i i1 i2 i3 i4 i5 i6 j : Input) (u v z : Unit {0}) (w : List ℕ) (ds : List Decl) (o : Option Term) (r : Rule)
    → key keys.Machine i ≡ Ok (u, i1) → name i1 ≡ Ok (w, i2) → declarations i2 ≡ Ok (ds, i3) → legal i3 ≡ Ok (o, i4) → key keys.Rule i4 ≡ Ok (v, i5) → rule 48 i5 ≡ Ok (r, i6) → at_end i6 ≡ Ok (z, j)
    → program i ≡ Ok (record { name = w; decls = ds; legal = o; rule = r }, j)
unfolding program and_then
program_reads i i1 i2 i3 i4 i5 i6 j u v z w ds o r a b c d e f g = rw (a, b, c, d, e, f, g) refl

pub err_refused : (i : Input) (total : ℕ) (stop : Stop) (end : ParseEnd) → total ≡ length i → program i ≡ Err stop → end ≡ end_at total stop → RefusedAt i end
err_refused i total (stops.Unexpected left) end n h e = rw (e, n) (stops.Unexpected left, h, refl)
err_refused i total (stops.TooDeep left) end n h e = rw (e, n) (stops.TooDeep left, h, refl)
