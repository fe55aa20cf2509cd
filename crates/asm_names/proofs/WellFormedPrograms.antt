-- A program without faults is well formed in numbers.
use Rattle.asm_names.proofs.Common.{◌≡◌, ℕ, true, [], MatchOption, Option, Some, None, refl, sym, ap, ◌∙◌, subst, arith, option_map, Parts, IsProgram, IsLegalWithin, Term, Resolved, Scope}
use Rattle.asm_names.proofs.Common.{resolved_term, names_of, legal_faults, program_faults, resolved_domains, resolved_funs, resolved_rule_binders, truth, is_truth, sort_of, rule_named, IsWellFormed}
use Rattle.asm_names.proofs.Common.{◌+◌, decls_tokens, legal_tokens, resolved_rule_tokens}
use Rattle.asm_names.specs.Places.{program_tokens}
use Rattle.asm_names.specs.ResolvedPlaces.{resolved_legal_tokens, resolved_program_tokens}
use Rattle.asm_names.specs.Resolving.{Resolves}
use Rattle.asm_names.proofs.Known.{three_clean, AllKnown}
use Rattle.asm_names.proofs.WellFormedTerms.{as_wanted, term_judged, tokens_kept}
use Rattle.asm_names.proofs.WellFormedRules.{rule_judged, rule_tokens_kept}
use Rattle.asm_names.proofs.WellFormedDeclarations.{declarations}
use Rattle.asm_names.specs.declared.sort.Need.TheVariants as needs
use Rattle.asm_names.specs.declared.sort.Sort.TheVariants as sorts

pub well_formed : (parts : Parts) (r : Resolved) → IsProgram parts → program_faults parts ≡ [] → Resolves parts r → IsWellFormed r
well_formed parts r program h is =
    let p = three_clean _ _ _ h in
    let names = names_of parts in
    let done = declarations (resolved_domains parts.decls) (resolved_funs [] parts.decls) parts.decls [] [] [] 3 tt refl refl refl refl program.decls p.0 in
    let known : AllKnown r.domains r.funs [] names = rw (is.domains, is.funs) done.all_known in
    let rule = rule_judged parts.rule names _ 0 p.2 in
    record {
      domains = rw is.domains done.domains_fit;
      funs = rw (is.domains, is.funs) done.funs_fit;
      legal = subst (λ o. MatchOption o (Unit {0}) (λ t. is_truth (sort_of r.funs [] t) ≡ true)) (sym is.legal) (by names known parts.legal _ program.legal p.1);
      binders = is.binders ∙ (sym rule.1 ∙ ap resolved_rule_binders (sym is.rule));
      intervals = r.one_interval_each;
      rule = ap (λ u. rule_named r u [] 0) is.rule ∙ rule.2 r [] known tt (omega (arith, is.binders)) program.rule.fits;
    }
  where
    by : (names : Scope) → AllKnown r.domains r.funs [] names → (legal : Option Term) (at : ℕ) → IsLegalWithin 48 legal → legal_faults names legal at ≡ []
        → MatchOption (option_map (resolved_term names) legal) (Unit {0}) (λ t. is_truth (sort_of r.funs [] t) ≡ true)
    by names known None at deep h = tt
    by names known (Some t) at deep h =
        ap is_truth (as_wanted names r.domains r.funs [] (term_judged names r.domains r.funs [] t (needs.Only sorts.Truth) _ h) truth refl known deep.fits).1

legal_tokens_kept : (names : Scope) (legal : Option Term) (at : ℕ) → legal_faults names legal at ≡ [] → resolved_legal_tokens (option_map (resolved_term names) legal) ≡ legal_tokens legal
legal_tokens_kept names None at h = refl
legal_tokens_kept names (Some t) at h = ap (λ n. 1 + n) (tokens_kept names t (needs.Only sorts.Truth) (at + 1) h)

pub program_tokens_kept : (parts : Parts) (r : Resolved) → program_faults parts ≡ [] → Resolves parts r → resolved_program_tokens r ≡ program_tokens parts
program_tokens_kept parts r h is =
    let p = three_clean _ _ _ h in
    let source = ap (λ (s : Parts). decls_tokens s.decls) is.source in
    let legal = ap resolved_legal_tokens is.legal ∙ legal_tokens_kept (names_of parts) parts.legal _ p.1 in
    let rule = ap resolved_rule_tokens is.rule ∙ rule_tokens_kept parts.rule (names_of parts) _ 0 p.2 in
    omega (arith, source, legal, rule)
