-- The faults of a program are in order.
use Rattle.asm_names.proofs.Common.{◌≡◌, ℕ, ◌+◌, ◌*◌, ◌<◌, Bool, true, false, not, is_some, nat_eq, nat_lt, ◌||◌, inr, List, [], ◌∷◌, ◌++◌, map, length, Option, Some, None, refl, arith, append_assoc}
use Rattle.asm_names.proofs.Common.{Const, Decl, Kind, Parts, Term, NameFault, Need, same_as, refuses, Meaning, Domain, Enumerator, Scope, meaning_of, sort_of_domain, size_of_domain, domains_in}
use Rattle.asm_names.proofs.Common.{names_tokens, const_tokens, consts_tokens, table_tokens, decl_tokens, decls_tokens, legal_tokens, Fault, fault, code_of, Spans, Ascending, declared, times_sizes}
use Rattle.asm_names.proofs.Common.{table_faults, item_faults, consts_faults, constants_of, items_faults, domains_faults, range_size, is_far, decl_faults, decls_faults, declared_faults, names_of}
use Rattle.asm_names.proofs.Common.{legal_faults, program_faults}
use Rattle.std.specs.Prelude.{int_lt}
use Rattle.asm_names.proofs.Spans.{none, wider, single, double, seq, term_spans}
use Rattle.asm_names.proofs.RuleSpans.{rule_spans}
use Rattle.asm_tree.specs.declared.decl.Const.TheVariants as consts
use Rattle.asm_tree.specs.declared.decl.Decl.TheVariants as decls
use Rattle.asm_tree.specs.declared.decl.Kind.TheVariants as kinds
use Rattle.asm_names.specs.declared.fault.NameFault.TheVariants as causes
use Rattle.asm_names.specs.declared.sort.Sort.TheVariants as sorts
use Rattle.asm_names.specs.declared.sort.Need.TheVariants as needs

-- three faults at one token
triple : (at : ℕ) (c d e : NameFault) (x y z : Bool) → code_of c < code_of d → code_of d < code_of e → Spans at (at + 1) (fault c at x ++ (fault d at y ++ fault e at z))
triple at c d e false y z low high = double at d e y z high
triple at c d e true false z low high = double at c e true z (omega arith)
triple at c d e true true true low high = record {
  order = omega arith;
  inside = ((omega arith, omega arith), ((omega arith, omega arith), ((omega arith, omega arith), tt)));
  ascending = ((inr (refl, low), (inr (refl, omega arith), tt)), ((inr (refl, high), tt), (tt, tt)));
}
triple at c d e true true false low high = double at c d true true low

-- a table has one fault at most at its function's name
table_fault : (kind : Kind) (product : Option ℕ) (count at : ℕ) → (b : Bool) × (table_faults kind product count at ≡ fault causes.Count at b)
table_fault kinds.Static (Some product) count at = (not (nat_eq product count), refl)
table_fault _ product count at = (false, refl)

items : (names : Scope) (domain index : ℕ) (ws : List (List ℕ)) (at : ℕ) → Spans at (at + 2 * length ws) (items_faults names domain index ws at)
items names domain index [] at = none at (at + 2 * 0) (omega arith)
items names domain index (w ∷ ws) at =
    wider (seq (single at causes.Repeated (is_some (meaning_of names w))) (items (names ++ (w, Enumerator domain index) ∷ []) domain (index + 1) ws (at + 2)) (omega arith)) (omega arith) (omega arith)

domains : (names : Scope) (ws : List (List ℕ)) (at : ℕ) → Spans at (at + 2 * length ws) (domains_faults names ws at)
domains names [] at = none at (at + 2 * 0) (omega arith)
domains names (w ∷ ws) at = wider (seq (single at causes.Unknown (not (is_some (sort_of_domain (meaning_of names w))))) (domains names ws (at + 2)) (omega arith)) (omega arith) (omega arith)

arguments : (names : Scope) (ws : List (List ℕ)) (at place : ℕ) → place ≡ at + 1 → Spans at (at + names_tokens ws) (domains_faults names ws place)
arguments names [] at place e = none at (at + 0) (omega arith)
arguments names (w ∷ ws) at place e = wider (domains names (w ∷ ws) place) (omega arith) (omega arith)

item : (m : Option Meaning) (need : Need) (at : ℕ) → Spans at (at + 1) (item_faults m need at)
item (Some (Enumerator domain index)) need at = single at causes.Sort (refuses need (Some (sorts.List domain)))
item _ need at = single at causes.Unknown true

constants : (names : Scope) (need : Need) (cs : List Const) (at : ℕ) → Spans at (at + consts_tokens cs) (consts_faults names need cs at)
constants names need [] at = none at (at + 0) (omega arith)
constants names need (consts.Number v ∷ cs) at =
    wider (seq (single at causes.Sort (refuses need (Some sorts.Int))) (constants names need cs (at + const_tokens (consts.Number v) + 1)) (omega arith)) (omega arith) (omega arith)
constants names need (consts.Named w ∷ cs) at = wider (seq (item (meaning_of names w) need at) (constants names need cs (at + 1 + 1)) (omega arith)) (omega arith) (omega arith)

-- where a table's constants stand, if there are any
table_at : (names : Scope) (need : Need) (kind : Kind) (cs : List Const) (at place : ℕ) → place ≡ at + 2 → Spans at (at + table_tokens kind cs) (consts_faults names need (constants_of kind cs) place)
table_at names need kinds.Static cs at place e = wider (constants names need cs place) (omega arith) (omega arith)
table_at names need _ cs at place e = none at (at + 0) (omega arith)

grouped : (a b c d : List Fault) → a ++ (b ++ (c ++ d)) ≡ (a ++ (b ++ c)) ++ d
grouped a b c d = simp append_assoc

decl_spans : (names : Scope) (d : Decl) (at : ℕ) → Spans at (at + decl_tokens d) (decl_faults names d at)
decl_spans names (decls.Range w lo hi) at =
    wider (triple (at + 1) causes.Repeated causes.Empty causes.TooLarge (is_some (meaning_of names w)) (int_lt hi lo) (nat_lt 65536 (range_size lo hi) || (is_far lo || is_far hi)) (omega arith) (omega arith)) (omega arith) (omega arith)
decl_spans names (decls.Names w ws) at =
    let inner = names ++ (w, Domain (domains_in names) (length ws) (sorts.List (domains_in names))) ∷ [] in
    rw (← append_assoc)
    (wider (seq (double (at + 1) causes.Repeated causes.TooLarge (is_some (meaning_of names w)) (nat_lt 65536 (length ws)) (omega arith)) (items inner (domains_in names) 0 ws (at + 4)) (omega arith)) (omega arith) (omega arith))
decl_spans names (decls.Fun kind w args codomain cs) at =
    let product = times_sizes 1 (map (λ arg. size_of_domain (meaning_of names arg)) args) in
    let count = table_fault kind product (length cs) (at + 1) in
    let at_name = triple (at + 1) causes.Repeated causes.Count causes.TooManyArguments (is_some (meaning_of names w)) count.0 (nat_lt 3 (length args)) (omega arith) (omega arith) in
    let codomain_at = at + 2 + names_tokens args + 1 in
    let need = same_as (sort_of_domain (meaning_of names codomain)) in
    rw (count.1, grouped (declared_faults names w (at + 1)))
    (wider (seq at_name
    (seq (arguments names args (at + 2) (at + 2 + 1) (omega arith))
    (seq (single codomain_at causes.Unknown (not (is_some (sort_of_domain (meaning_of names codomain))))) (table_at names need kind cs (codomain_at + 1) (codomain_at + 3) (omega arith)) (omega arith)) (omega arith)) (omega arith)) (omega arith) (omega arith))

decls_spans : (names : Scope) (ds : List Decl) (at : ℕ) → Spans at (at + decls_tokens ds) (decls_faults names ds at)
decls_spans names [] at = none at (at + 0) (omega arith)
decls_spans names (d ∷ ds) at = wider (seq (decl_spans names d at) (decls_spans (names ++ declared names d) ds (at + decl_tokens d)) (omega arith)) (omega arith) (omega arith)

legal : (names : Scope) (t : Option Term) (at : ℕ) → Spans at (at + legal_tokens t) (legal_faults names t at)
legal names None at = none at (at + 0) (omega arith)
legal names (Some t) at = wider (term_spans names t (needs.Only sorts.Truth) (at + 1)) (omega arith) (omega arith)

-- the faults of a program are in order
pub program_ascending : (p : Parts) → Ascending (program_faults p)
program_ascending p =
    let legal_at = 3 + decls_tokens p.decls in
    let all = seq (decls_spans [] p.decls 3)
    (seq (legal (names_of p) p.legal legal_at) (rule_spans p.rule (names_of p) (legal_at + legal_tokens p.legal + 1) 0) (omega arith)) (omega arith) in
    all.ascending
