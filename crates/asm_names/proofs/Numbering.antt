-- Domains and functions are numbered in order, and binders are tokens.
use Rattle.asm_names.proofs.Common.{◌≡◌, ℕ, suc, ◌+◌, ◌≤◌, List, [], ◌∷◌, ◌++◌, map, length, Some, None, refl, ap, ◌∙◌, arith, append_assoc, sum, count_by, length-append, sum_by-cons, sum_by-append}
use Rattle.asm_names.proofs.Common.{Decl, Rule, Rule-F, Meaning, Domain, Enumerator, Scope, is_domain, is_function, domains_in, functions_in, decl_tokens, decls_tokens, rule_tokens, rule_binders, led}
use Rattle.asm_names.proofs.Common.{declared, items_from, decl_faults, decls_faults, names_after, resolved_domains, resolved_funs, scope, rule_layer_tokens, rule_layer_binders}
use Rattle.std.specs.Prelude.{cond, Bool, false}
use Rattle.asm_names.specs.declared.declarations.Declarations.{Declarations}
use Rattle.asm_names.specs.Declares.{IsNumbered, Declares}
use Rattle.asm_names.proofs.RuleLevels.{tokens_of, binders_of, by_tokens}
use Rattle.asm_tree.specs.declared.decl.Decl.TheVariants as decls
use Rattle.asm_names.specs.declared.sort.Sort.TheVariants as sorts

-- ---- one declaration before others

pub resolved_domains-cons : (d : Decl) (ds : List Decl) → resolved_domains (d ∷ ds) ≡ resolved_domains (d ∷ []) ++ resolved_domains ds
resolved_domains-cons (decls.Range name lo hi) ds = refl
resolved_domains-cons _ ds = refl

pub resolved_funs-cons : (names : Scope) (d : Decl) (ds : List Decl) → resolved_funs names (d ∷ ds) ≡ resolved_funs names (d ∷ []) ++ resolved_funs (names ++ declared names d) ds
resolved_funs-cons names (decls.Range name lo hi) ds = refl
resolved_funs-cons names _ ds = refl

-- ---- numbers

no_items : (test : Meaning → Bool) → ((domain index : ℕ) → test (Enumerator domain index) ≡ false) → (domain index : ℕ) (ws : List (List ℕ)) → count_by (λ e. test e.1) (items_from domain index ws) ≡ 0
no_items test none domain index [] = refl
no_items test none domain index (w ∷ ws) =
    sum_by-cons (λ e. cond (test e.1) 1 0) (w, Enumerator domain index) (items_from domain (index + 1) ws) ∙ rw (none domain index, no_items test none domain (index + 1) ws) refl

pub new_domains : (names : Scope) (d : Decl) → domains_in (declared names d) ≡ length (resolved_domains (d ∷ []))
new_domains names (decls.Names w ws) =
    sum_by-cons (λ e. cond (is_domain e.1) 1 0) (w, Domain (domains_in names) (length ws) (sorts.List (domains_in names))) (items_from (domains_in names) 0 ws) ∙ ap (λ n. 1 + n) (no_items is_domain (λ d i. refl) (domains_in names) 0 ws)
new_domains names _ = refl

pub new_functions : (names : Scope) (d : Decl) → functions_in (declared names d) ≡ length (resolved_funs names (d ∷ []))
new_functions names (decls.Names w ws) =
    sum_by-cons (λ e. cond (is_function e.1) 1 0) (w, Domain (domains_in names) (length ws) (sorts.List (domains_in names))) (items_from (domains_in names) 0 ws) ∙ ap (λ n. 0 + n) (no_items is_function (λ d i. refl) (domains_in names) 0 ws)
new_functions names _ = refl

few_domains : (d : Decl) → length (resolved_domains (d ∷ [])) ≤ 1
few_domains (decls.Range w lo hi) = omega arith
few_domains _ = omega arith

few_functions : (names : Scope) (d : Decl) → length (resolved_funs names (d ∷ [])) ≤ 1
few_functions names (decls.Range w lo hi) = omega arith
few_functions names _ = omega arith

some_decl : (d : Decl) → 1 ≤ decl_tokens d
some_decl (decls.Range w lo hi) = omega arith
some_decl _ = omega arith

-- what is read of declarations and what is left make up the whole
pub record AreRead (all left : List Decl) (found : Declarations) : Type 0 where
  pub rest : decls_faults [] all 3 ≡ decls_faults (scope found.table) left found.place
  pub names : names_after [] all ≡ names_after (scope found.table) left
  pub place : found.place + decls_tokens left ≡ 3 + decls_tokens all
  pub domains : resolved_domains all ≡ found.domains ++ resolved_domains left
  pub funs : resolved_funs [] all ≡ found.funs ++ resolved_funs (scope found.table) left
  pub numbered : IsNumbered found

-- one declaration more is read
pub read-next : (all left : List Decl) (d : Decl) (old new : Declarations) → AreRead all (d ∷ left) old → Declares d old new → decl_faults (scope old.table) d old.place ≡ [] → AreRead all left new
read-next all left d old new a h clean =
    let names = scope old.table in
    record {
      rest = a.rest ∙ rw (h.names, h.place, clean) refl;
      names = a.names ∙ rw h.names refl;
      place = omega (arith, a.place, h.place);
      domains = a.domains ∙ rw (resolved_domains-cons d left, h.domains, append_assoc old.domains (resolved_domains (d ∷ []))) refl;
      funs = a.funs ∙ rw (resolved_funs-cons names d left, h.funs, h.names, append_assoc old.funs (resolved_funs names (d ∷ []))) refl;
      numbered = record {
        domains = rw (h.names, h.domains) (omega (arith, a.numbered.domains, sum_by-append (λ e. cond (is_domain e.1) 1 0) names (declared names d), new_domains names d, length-append old.domains (resolved_domains (d ∷ []))));
        functions = rw (h.names, h.funs) (omega (arith, a.numbered.functions, sum_by-append (λ e. cond (is_function e.1) 1 0) names (declared names d), new_functions names d, length-append old.funs (resolved_funs names (d ∷ []))));
        domains_room = rw (h.place, h.domains) (omega (arith, a.numbered.domains_room, few_domains d, some_decl d, length-append old.domains (resolved_domains (d ∷ []))));
        functions_room = rw (h.place, h.funs) (omega (arith, a.numbered.functions_room, few_functions names d, some_decl d, length-append old.funs (resolved_funs names (d ∷ []))));
      };
    }

-- ---- binders are tokens

module _ (n : ℕ) (below : (r : Rule) → rule_tokens r ≤ n → rule_binders r ≤ rule_tokens r) where
  each : (rs : List Rule) → led (map rule_tokens rs) ≤ n → sum (map rule_binders rs) ≤ led (map rule_tokens rs)
  each [] small = omega arith
  each (r ∷ rs) small = omega (arith, sum_by-cons (λ k. k) (rule_binders r) (map rule_binders rs), below r (omega arith), each rs (omega arith))

  level : (x : Rule-F Rule) → rule_layer_tokens x ≤ suc n → rule_layer_binders x ≤ rule_layer_tokens x
  level Rule-F.Skip small = omega arith
  level (Rule-F.If g t None) small = omega (arith, below t (omega arith))
  level (Rule-F.If g t (Some o)) small = omega (arith, below t (omega arith), below o (omega arith))
  level (Rule-F.Par rs) small = omega (arith, each rs (omega arith))
  level (Rule-F.Forall v d g b) small = omega (arith, below b (omega arith))
  level (Rule-F.Choose v d g b None) small = omega (arith, below b (omega arith))
  level (Rule-F.Choose v d g b (Some o)) small = omega (arith, below b (omega arith), below o (omega arith))
  level (Rule-F.Let v t b) small = omega (arith, below b (omega arith))
  level _ small = omega arith

pub binders-tokens : (r : Rule) → rule_binders r ≤ rule_tokens r
binders-tokens = by_tokens (λ r. rule_binders r ≤ rule_tokens r) (λ n below x r e small. omega (arith, tokens_of x r e, binders_of x r e, level n below x small))
