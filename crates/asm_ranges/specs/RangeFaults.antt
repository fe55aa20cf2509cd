-- The faults of ranges, in the order of the text. `at` is the number of the first token of a part.
use Rattle.std.specs.Prelude.{ℕ, ◌+◌, ℤ, Bool, true, false, not, List, [], ◌∷◌, ◌++◌, map, slice_get, Option, Some, None}
use Rattle.asm_tree.specs.declared.decl.{Const.{Const}, Decl.{Decl}}
use Rattle.asm_names.specs.declared.program.{Domain.{Domain}, Fun.{Fun}, Interval.{Interval}, Resolved.{Resolved}}
use Rattle.asm_names.specs.declared.resolved_term.ResolvedTerm.{ResolvedTerm, ResolvedTerm-F, para-ResolvedTerm, map-ResolvedTerm}
use Rattle.asm_names.specs.declared.resolved_rule.ResolvedRule.{ResolvedRule, ResolvedRule-F, para-ResolvedRule}
use Rattle.asm_names.specs.{DeclFaults.{constants_of}, Places.{in_parentheses, names_tokens, const_tokens, decl_tokens, decls_tokens}}
use Rattle.asm_names.specs.ResolvedPlaces.{resolved_term_tokens, resolved_rule_tokens, led_if}
use Rattle.state_space.specs.{declared.signature.{Range.{Range}, Signature.{Signature}}, Locations.{range_of, signatures_of}, Codomains.{whole, just, codomain_range}}
use Rattle.asm_ranges.specs.{declared.fault.RangeEnd.{RangeEnd}, Faults.{fault}, Ranges.{Scope, scoped, unscoped, range, inside, sum_fits, binary_range}, Facts.{Facts, Held, Failed, Bounded, Refining, refined, refined_by}}
use Rattle.asm_tree.specs.declared.decl.Decl.TheVariants as decls
use Rattle.asm_ranges.specs.declared.fault.RangeEnd.TheVariants as ends

-- ---- terms

-- a term with its faults, by the facts at its place, by the interval that its place needs, if it needs one, and by the number
-- of its first token
abbrev pub FaultyTerm : Type 0
FaultyTerm = ResolvedTerm × (Facts → Option Interval → ℕ → List RangeEnd)

-- the fault of a refined range in a place
abbrev pub outside_faults : Interval → Option Interval → ℕ → List RangeEnd
outside_faults found None at = []
outside_faults found (Some need) at = fault (ends.Outside at) (not (inside found need))

-- the domains of a function's arguments
abbrev pub domains_of : Option Signature → List Range
domains_of None = []
domains_of (Some signature) = signature.args

-- arguments in turn, each with the domain that its place needs
abbrev pub args_faults : List Range → List FaultyTerm → Facts → ℕ → List RangeEnd
args_faults domains [] facts at = []
args_faults [] (arg ∷ args) facts at = arg.1 facts None at ++ args_faults [] args facts (at + resolved_term_tokens arg.0 + 1)
args_faults (domain ∷ domains) (arg ∷ args) facts at = arg.1 facts (Some (whole domain)) at ++ args_faults domains args facts (at + resolved_term_tokens arg.0 + 1)

-- the fault of a sum or difference at its parenthesis, by plain ranges
abbrev pub wide_faults : List Signature → Scope → ResolvedTerm-F FaultyTerm → ℕ → List RangeEnd
wide_faults signatures scope (ResolvedTerm-F.Binary op left right) at =
    fault (ends.Wide at) (not (sum_fits op (binary_range op (range signatures scope left.0) (range signatures scope right.0))))
wide_faults signatures scope _ at = []

-- faults inside a term
abbrev pub inner_faults : List Signature → ResolvedTerm-F FaultyTerm → Facts → ℕ → List RangeEnd
inner_faults signatures (ResolvedTerm-F.Number value) facts at = []
inner_faults signatures (ResolvedTerm-F.Var binder) facts at = []
inner_faults signatures (ResolvedTerm-F.Read fun args) facts at = args_faults (domains_of (slice_get signatures fun)) args facts (at + 2)
inner_faults signatures (ResolvedTerm-F.Binary op left right) facts at = left.1 facts None (at + 1) ++ right.1 facts None (at + 1 + resolved_term_tokens left.0 + 1)
inner_faults signatures (ResolvedTerm-F.Not inner) facts at = inner.1 facts None (at + 1)
inner_faults signatures (ResolvedTerm-F.Min first second) facts at = first.1 facts None (at + 2) ++ second.1 facts None (at + 2 + resolved_term_tokens first.0 + 1)
inner_faults signatures (ResolvedTerm-F.Max first second) facts at = first.1 facts None (at + 2) ++ second.1 facts None (at + 2 + resolved_term_tokens first.0 + 1)
inner_faults signatures (ResolvedTerm-F.Cond guard first second) facts at =
    guard.1 facts None (at + 2)
    ++ (first.1 (Held guard.0 ∷ facts) None (at + 2 + resolved_term_tokens guard.0 + 1)
    ++ second.1 (Failed guard.0 ∷ facts) None (at + 2 + resolved_term_tokens guard.0 + 1 + resolved_term_tokens first.0 + 1))

-- One term, with the faults of each part in its place.
abbrev pub term_faults_by : List Signature → Scope → ResolvedTerm-F FaultyTerm → Facts → Option Interval → ℕ → List RangeEnd
term_faults_by signatures scope x facts need at =
    wide_faults signatures scope x at
    ++ (outside_faults (refined_by signatures scope (map-ResolvedTerm FaultyTerm Refining (λ part. (part.0, refined signatures scope part.0)) x) facts) need at
    ++ inner_faults signatures x facts at)

-- the faults of a term in a place that needs this interval, where its first token has this number
unfoldable pub term_faults : List Signature → Scope → ResolvedTerm → Facts → Option Interval → ℕ → List RangeEnd
term_faults signatures scope = para-ResolvedTerm (Facts → Option Interval → ℕ → List RangeEnd) (term_faults_by signatures scope)

-- a term with its faults
abbrev pub faulty_term : List Signature → Scope → ResolvedTerm → FaultyTerm
faulty_term signatures scope term = (term, term_faults signatures scope term)

-- ---- rules

-- the interval of a domain
abbrev pub interval_of : List Domain → ℕ → Interval
interval_of domains domain = whole (range_of domains domain)

-- a rule with its faults, by what is in scope and what is known at its place, and by the number of its first token
abbrev pub FaultyRule : Type 0
FaultyRule = ResolvedRule × (Scope → Facts → ℕ → List RangeEnd)

-- the faults of a guard, if the text has one
abbrev pub guard_faults : Bool → List Signature → Scope → Facts → ResolvedTerm → ℕ → List RangeEnd
guard_faults false signatures scope facts guard at = []
guard_faults true signatures scope facts guard at = term_faults signatures scope guard facts None at

-- what is known behind a guard, if the text has one
abbrev pub guarded_facts : Bool → ResolvedTerm → Facts → Facts
guarded_facts false guard facts = facts
guarded_facts true guard facts = Held guard ∷ facts

-- the faults of a rule behind `else`, which is the token at this number, if the text has one
abbrev pub else_faults : Bool → FaultyRule → Scope → Facts → ℕ → List RangeEnd
else_faults false other scope facts at = []
else_faults true other scope facts at = other.1 scope facts (at + 1)

-- rules in turn, the token before the first of which has this number
abbrev pub each_rule_faults : List FaultyRule → Scope → Facts → ℕ → List RangeEnd
each_rule_faults [] scope facts at = []
each_rule_faults (rule ∷ others) scope facts at = rule.1 scope facts (at + 1) ++ each_rule_faults others scope facts (at + 1 + resolved_rule_tokens rule.0)

-- One rule, with the faults of each part in its place.
abbrev pub rule_faults_by : List Domain → List Signature → ResolvedRule-F FaultyRule → Scope → Facts → ℕ → List RangeEnd
rule_faults_by domains signatures ResolvedRule-F.Skip scope facts at = []
rule_faults_by domains signatures (ResolvedRule-F.Update fun args value) scope facts at =
    args_faults (domains_of (slice_get signatures fun)) (map (faulty_term signatures scope) args) facts (at + 2)
    ++ term_faults signatures scope value facts (Some (codomain_range (slice_get signatures fun))) (at + 1 + in_parentheses (map resolved_term_tokens args) + 1)
rule_faults_by domains signatures (ResolvedRule-F.If guard then_rule else_rule has_else) scope facts at =
    let then_at = at + 1 + resolved_term_tokens guard + 1 in
    term_faults signatures scope guard facts None (at + 1)
    ++ (then_rule.1 scope (Held guard ∷ facts) then_at
    ++ else_faults has_else else_rule scope (Failed guard ∷ facts) (then_at + resolved_rule_tokens then_rule.0))
rule_faults_by domains signatures (ResolvedRule-F.Par rules) scope facts at = each_rule_faults rules scope facts at
rule_faults_by domains signatures (ResolvedRule-F.Forall binder domain guard guarded body) scope facts at =
    let inner = scoped scope binder (interval_of domains domain) in
    guard_faults guarded signatures inner facts guard (at + 5)
    ++ body.1 inner (guarded_facts guarded guard facts) (at + 4 + led_if guarded (resolved_term_tokens guard) + 1)
rule_faults_by domains signatures (ResolvedRule-F.Choose binder domain guard body else_rule has_else) scope facts at =
    let inner = scoped scope binder (interval_of domains domain) in
    let body_at = at + 5 + resolved_term_tokens guard + 1 in
    term_faults signatures inner guard facts None (at + 5)
    ++ (body.1 inner (Held guard ∷ facts) body_at
    ++ else_faults has_else else_rule scope facts (body_at + resolved_rule_tokens body.0))
rule_faults_by domains signatures (ResolvedRule-F.Let binder value body) scope facts at =
    term_faults signatures scope value facts None (at + 3)
    ++ body.1 (scoped scope binder (range signatures scope value)) (Bounded binder (refined signatures scope value facts) ∷ facts) (at + 3 + resolved_term_tokens value + 1)

-- the faults of a rule whose first token has this number
unfoldable pub rule_faults : List Domain → List Signature → ResolvedRule → Scope → Facts → ℕ → List RangeEnd
rule_faults domains signatures = para-ResolvedRule (Scope → Facts → ℕ → List RangeEnd) (rule_faults_by domains signatures)

-- ---- programs

-- the fault of a constant, if there is one
abbrev pub constant_faults : Interval → Option ℤ → ℕ → List RangeEnd
constant_faults domain None at = []
constant_faults domain (Some value) at = outside_faults (just value) (Some domain) at

-- the texts of constants in turn beside their values, the first token of which has this number
abbrev pub constants_faults : Interval → List ℤ → List Const → ℕ → List RangeEnd
constants_faults domain values [] at = []
constants_faults domain [] (const ∷ consts) at = []
constants_faults domain (value ∷ values) (const ∷ consts) at =
    constant_faults domain (Some value) at ++ constants_faults domain values consts (at + const_tokens const + 1)

-- a declaration's table beside the functions from its own on
abbrev pub table_faults : List Domain → Decl → List Fun → ℕ → List RangeEnd
table_faults domains (decls.Range name lo hi) funs at = []
table_faults domains (decls.Names name items) funs at = []
table_faults domains (decls.Fun kind name args codomain table) [] at = []
table_faults domains (decls.Fun kind name args codomain table) (fun ∷ funs) at =
    constants_faults (interval_of domains fun.codomain) fun.table (constants_of kind table) (at + 6 + names_tokens args)

-- the functions behind a declaration's own
abbrev pub funs_behind : Decl → List Fun → List Fun
funs_behind (decls.Range name lo hi) funs = funs
funs_behind (decls.Names name items) funs = funs
funs_behind (decls.Fun kind name args codomain table) [] = []
funs_behind (decls.Fun kind name args codomain table) (fun ∷ funs) = funs

-- declarations in turn beside the functions that they declare, the first token of which has this number
abbrev pub tables_faults : List Domain → List Decl → List Fun → ℕ → List RangeEnd
tables_faults domains [] funs at = []
tables_faults domains (decl ∷ others) funs at = table_faults domains decl funs at ++ tables_faults domains others (funs_behind decl funs) (at + decl_tokens decl)

-- the faults of the term behind `legal`, where `legal` has this number; no binder is in scope there
abbrev pub legal_faults : List Signature → Option ResolvedTerm → ℕ → List RangeEnd
legal_faults signatures None at = []
legal_faults signatures (Some legal) at = term_faults signatures unscoped legal [] None (at + 1)

-- how many tokens `legal` and its term have, if the text has them
abbrev pub legal_tokens : Option ResolvedTerm → ℕ
legal_tokens None = 0
legal_tokens (Some legal) = 1 + resolved_term_tokens legal

-- the number of the token `legal`, or of `rule` where there is none
abbrev pub legal_at : Resolved → ℕ
legal_at program = 3 + decls_tokens program.source.decls

-- The faults of a program in the order of the text. The first token of the first declaration is the third.
abbrev pub range_faults : Resolved → List RangeEnd
range_faults program =
    tables_faults program.domains program.source.decls program.funs 3
    ++ (legal_faults (signatures_of program) program.legal (legal_at program)
    ++ rule_faults program.domains (signatures_of program) program.rule unscoped [] (legal_at program + legal_tokens program.legal + 1))

-- how many tokens the text of a program has
abbrev pub text_tokens : Resolved → ℕ
text_tokens program = legal_at program + legal_tokens program.legal + resolved_rule_tokens program.rule
