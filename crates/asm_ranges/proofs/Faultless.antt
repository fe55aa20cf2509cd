-- What a program without a range fault makes sure of.
use Rattle.std.proofs.Common.{◌≡◌, ℕ, zero, suc, ◌+◌, ◌*◌, ℤ, true, List, [], ◌∷◌, map, length, Some, refl, sym, ap, ◌∙◌, subst, arith, ◌<◌, ◌^◌}
use Rattle.std.{proofs.{lemmas.List.{length-map}}, specs.{List.{AllByRecursion, AllZip}}}
use Rattle.asm_tree.specs.declared.decl.{Const.{Const}, Decl.{Decl}, Kind.{Kind}}
use Rattle.asm_names.specs.declared.{program.{Domain.{Domain}, Fun.{Fun}, Interval.{Interval}, Resolved.{Resolved}}}
use Rattle.asm_names.specs.{Meanings.{Scope as Names}, Places.{const_tokens}, Programs.{resolved_funs, resolved_const}}
use Rattle.asm_names.specs.WellFormed.{IsFun, IsWellFormed, size_of, product, table_length}
use Rattle.state_space.specs.{Locations.{signature_of, range_of, tuples}, Codomains.{In, just}}
use Rattle.state_space.proofs.Numbers.{length-tuples}
use Rattle.asm_ranges.specs.Ranges.{TableFits, IfStatic, TablesFit, inside}
use Rattle.asm_ranges.specs.RangeFaults.{constants_faults, outside_faults, tables_faults, interval_of, range_faults, text_tokens}
use Rattle.asm_ranges.specs.{FindingRules.{all_words}, Keeping.{Keeps, IsChecked}}
use Rattle.asm_ranges.proofs.{Intervals.{just-in, inside-in}, Definite.{nil-parts, no-fault}}
use Rattle.asm_tree.specs.declared.decl.Decl.TheVariants as decls
use Rattle.asm_tree.specs.declared.decl.Kind.TheVariants as kinds

abbrev AllInside : Interval → List ℤ → Type 0
AllInside d vs = AllByRecursion (λ v. inside (just v) d ≡ true) vs

consts_inside : (d : Interval) (vs : List ℤ) (cs : List Const) (at : ℕ) → length vs ≡ length cs → constants_faults d vs cs at ≡ [] → AllInside d vs
consts_inside d [] cs at long h = tt
consts_inside d (v ∷ vs) [] at long h = absurd (omega arith)
consts_inside d (v ∷ vs) (k ∷ cs) at long h =
    let p = nil-parts (outside_faults (just v) (Some d) at) _ h in
    (no-fault _ _ p.0, consts_inside d vs cs (at + const_tokens k + 1) (omega arith) p.1)

abbrev FunInside : List Domain → Fun → Type 0
FunInside ds f = IfStatic f.kind (AllInside (interval_of ds f.codomain) f.table)

tables_inside : (ds : List Domain) (xs : List Decl) (names : Names) (at : ℕ) → tables_faults ds xs (resolved_funs names xs) at ≡ [] → AllByRecursion (FunInside ds) (resolved_funs names xs)
tables_inside ds [] names at h = tt
tables_inside ds (decls.Fun kinds.Static name args codomain cs ∷ xs) names at h =
    let p = nil-parts (constants_faults _ (map (resolved_const names) cs) cs _) _ h in
    (consts_inside _ (map (resolved_const names) cs) cs _ (length-map cs (resolved_const names)) p.0, tables_inside ds xs _ _ p.1)
tables_inside ds (decls.Fun kind name args codomain cs ∷ xs) names at h = (tt, tables_inside ds xs _ _ h)
tables_inside ds (x ∷ xs) names at h = tables_inside ds xs _ _ h

size_same : (ds : List Domain) (n : ℕ) → (range_of ds n).size ≡ size_of ds n
size_same [] n = refl
size_same (d ∷ ds) zero = refl
size_same (d ∷ ds) (suc n) = size_same ds n

many : (ds : List Domain) (ns : List ℕ) → length (tuples (map (range_of ds) ns)) ≡ product (map (size_of ds) ns)
many ds [] = refl
many ds (n ∷ ns) = length-tuples (range_of ds n) (map (range_of ds) ns) ∙ (ap (λ s. s * length (tuples (map (range_of ds) ns))) (size_same ds n) ∙ ap (λ m. size_of ds n * m) (many ds ns))

zipped : {A : Type 0} (d : Interval) (ts : List A) (vs : List ℤ) → length ts ≡ length vs → AllInside d vs → AllZip (λ t v. In d v) ts vs
zipped d [] [] long all = tt
zipped d [] (v ∷ vs) long all = absurd (omega arith)
zipped d (t ∷ ts) [] long all = absurd (omega arith)
zipped d (t ∷ ts) (v ∷ vs) long all = (inside-in (just v) d v all.0 (just-in v), zipped d ts vs (omega arith) all.1)

fun_fits : (ds : List Domain) (f : Fun) (k : Kind) → length f.table ≡ table_length k ds f.args → IfStatic k (AllInside (interval_of ds f.codomain) f.table) → IfStatic k (TableFits (signature_of ds f) f.table)
fun_fits ds f kinds.Static long all = zipped (interval_of ds f.codomain) (tuples (map (range_of ds) f.args)) f.table (many ds f.args ∙ sym long) all
fun_fits ds f _ long all = tt

all_fit : (ds : List Domain) (fs : List Fun) → AllByRecursion (IsFun ds) fs → AllByRecursion (FunInside ds) fs → AllByRecursion (λ f. IfStatic f.kind (TableFits (signature_of ds f) f.table)) fs
all_fit ds [] each all = tt
all_fit ds (f ∷ fs) each all = (fun_fits ds f f.kind each.0.table all.0, all_fit ds fs each.1 all.1)

pub tables_fit : (p : Resolved) → IsWellFormed p → p.funs ≡ resolved_funs [] p.source.decls → range_faults p ≡ [] → TablesFit p
tables_fit p well is none =
    let tables = (nil-parts (tables_faults p.domains p.source.decls p.funs 3) _ none).0 in
    let all = tables_inside p.domains p.source.decls [] 3 (rw is at tables) in
    all_fit p.domains p.funs well.funs (subst (λ (fs : List Fun). AllByRecursion (FunInside p.domains) fs) (sym is) all)

-- a well-formed program without a range fault is checked once it has the intervals of its binders
pub kept : (p q : Resolved) → IsWellFormed p → IsWellFormed q → p.funs ≡ resolved_funs [] p.source.decls → range_faults p ≡ [] → Keeps p q → all_words q.intervals ≡ true → text_tokens p < 2 ^ 31 → IsChecked q
kept p q well other is none keeps words room = record {
  well_formed = other;
  tables = rw (keeps.domains, keeps.funs) (tables_fit p well is none);
  faultless = rw (keeps.domains, keeps.source, keeps.funs, keeps.legal, keeps.rule) none;
  intervals = rw (keeps.domains, keeps.funs, keeps.rule, keeps.binders) keeps.intervals;
  words = words;
  room = rw (keeps.source, keeps.legal, keeps.rule) room;
}
