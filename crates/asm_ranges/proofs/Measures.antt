-- The plain range of a term, by those of its parts.
use Rattle.std.proofs.Common.{◌≡◌, ℕ, zero, suc, ◌+◌, ◌<◌, ◌≤◌, ℤ, pos, negsuc, true, List, [], ◌∷◌, length, refl, sym, ap, ◌∙◌, subst, arith}
use Rattle.std.{proofs.lemmas.{Bool.{leb-true}, Int.{ints, clamps}}, specs.{Prelude.{slice_get}, Int.{int_min, int_max}, List.{AllByRecursion}}}
use Rattle.asm_tree.specs.declared.term.Op.{Op}
use Rattle.asm_names.specs.declared.{program.{Domain.{Domain}, Fun.{Fun}, Interval.{Interval}}, resolved_term.ResolvedTerm.{ResolvedTerm, ResolvedTerm-F, roll-ResolvedTerm, fold-roll-ResolvedTerm, map-ResolvedTerm}}
use Rattle.asm_names.specs.{ResolvedPlaces.{resolved_term_tokens, resolved_term_tokens_by}, WellFormed.{IsDomain, IsFun, is_number}}
use Rattle.asm_names.proofs.ResolvedLevels.{term_tokens_of}
use Rattle.state_space.specs.{declared.signature.Signature.{Signature}, Locations.{range_of}, Codomains.{just, codomain_range, whole}}
use Rattle.asm_ranges.specs.{Ranges.{Scope, range, range_by, truths, hull, binary_range, lesser_range, greater_range}, Contexts.{Begins, IsNear, IsReady, IsWord, Measures, scope_of, signatures_in, small_numbers, small_numbers_by}}
use Rattle.asm_ranges.specs.declared.context.Context.{Context}
use Rattle.asm_ranges.proofs.Levels.{range_at}
use Rattle.asm_tree.specs.declared.term.Op.TheVariants as ops
use Rattle.asm_names.specs.declared.resolved_term.ResolvedTerm.TheVariants as terms

-- ---- intervals

pub word-near : (i : Interval) (n : ℕ) → IsWord i → 1 ≤ n → IsNear i n
word-near i n w h = record { low = omega (arith, ints); some = w.some; high = omega (arith, ints) }

pub just-word : (v : ℤ) → is_number v ≡ true → IsWord (just v)
just-word (pos n) h = let low : n ≤ 2147483647 = leb-true n 2147483647 h in record { low = omega (arith, ints); some = omega (arith, ints); high = omega (arith, ints) }
just-word (negsuc n) h = absurd cc

zero-word : IsWord (just (pos 0))
zero-word = record { low = omega (arith, ints); some = omega (arith, ints); high = omega (arith, ints) }

pub truths-word : IsWord truths
truths-word = record { low = omega (arith, ints); some = omega (arith, ints); high = omega (arith, ints) }

pub interval-word : (domains : List Domain) (d : ℕ) → AllByRecursion IsDomain domains → d < length domains → IsWord (whole (range_of domains d))
interval-word [] d all within = absurd (omega arith)
interval-word (x ∷ domains) zero all within =
    let h = all.0 in
    record { low = omega (arith, ints, h.some, h.few, h.low, h.high); some = omega (arith, ints, h.some); high = omega (arith, ints, h.some, h.few, h.low, h.high) }
interval-word (x ∷ domains) (suc d) all within = interval-word domains d all.1 (omega arith)

pub codomain-word : (domains : List Domain) (funs : List Fun) (fun : ℕ) → AllByRecursion IsDomain domains → AllByRecursion (IsFun domains) funs
    → IsWord (codomain_range (slice_get (signatures_in domains funs) fun))
codomain-word domains [] fun all each = zero-word
codomain-word domains (f ∷ funs) zero all each = interval-word domains f.codomain all each.0.codomain
codomain-word domains (f ∷ funs) (suc fun) all each = codomain-word domains funs fun all each.1

pub near-below : (i : Interval) (n m : ℕ) → IsNear i n → n ≤ m → IsNear i m
near-below i n m h less = record { low = omega (arith, ints, h.low); some = h.some; high = omega (arith, ints, h.high) }

pub same_ends : (r s : Interval) → r.lo ≡ s.lo → r.hi ≡ s.hi → r ≡ s
same_ends r s e f = λ i. record { lo = e i; hi = f i }

pub min-near : (a b : Interval) (n m k : ℕ) → IsNear a n → IsNear b m → n + m ≤ k → IsNear (lesser_range a b) k
min-near a b n m k h j less = record { low = omega (arith, ints, clamps); some = omega (arith, ints, clamps); high = omega (arith, ints, clamps) }

pub max-near : (a b : Interval) (n m k : ℕ) → IsNear a n → IsNear b m → n + m ≤ k → IsNear (greater_range a b) k
max-near a b n m k h j less = record { low = omega (arith, ints, clamps); some = omega (arith, ints, clamps); high = omega (arith, ints, clamps) }

pub hull-near : (a b : Interval) (n m k : ℕ) → IsNear a n → IsNear b m → n + m ≤ k → IsNear (hull a b) k
hull-near a b n m k h j less = record { low = omega (arith, ints, clamps); some = omega (arith, ints, clamps); high = omega (arith, ints, clamps) }

pub binary-near : (op : Op) (a b : Interval) (n m k : ℕ) → IsNear a n → IsNear b m → n + m < k → IsNear (binary_range op a b) k
binary-near ops.Add a b n m k h j less = record { low = omega (arith, ints); some = omega (arith, ints); high = omega (arith, ints) }
binary-near ops.Sub a b n m k h j less = record { low = omega (arith, ints); some = omega (arith, ints); high = omega (arith, ints) }
binary-near _ a b n m k h j less = word-near truths k truths-word (omega arith)

-- ---- tokens and small numbers

module _ (x : ResolvedTerm-F ResolvedTerm) (t : ResolvedTerm) (e : roll-ResolvedTerm x ≡ t) where
  abbrev tokens : ℕ
  tokens = resolved_term_tokens_by (map-ResolvedTerm ResolvedTerm ℕ resolved_term_tokens x)

  pub small_of : small_numbers t ≡ small_numbers_by (map-ResolvedTerm ResolvedTerm _ small_numbers x)
  unfolding small_numbers
  small_of = ap small_numbers (sym e) ∙ fold-roll-ResolvedTerm _ small_numbers_by x

  measured : (signatures : List Signature) (scope : Scope) (found : Interval) → found ≡ range_by signatures scope (map-ResolvedTerm ResolvedTerm Interval (range signatures scope) x) → IsNear found tokens
      → Measures signatures scope t found
  measured signatures scope found is near = record { is = is ∙ sym (range_at x t e signatures scope); near = subst (λ n. IsNear found n) (sym (term_tokens_of x t e)) near }

-- ---- form by form

module _ (signatures : List Signature) (scope : Scope) where
  pub measures-Number : (v : ℤ) → small_numbers (terms.Number v) ≡ true → Measures signatures scope (terms.Number v) (just v)
  measures-Number v small =
      let e = terms.rolls-Number v in
      measured (ResolvedTerm-F.Number v) _ e signatures scope (just v) refl (word-near (just v) 1 (just-word v (sym (small_of (ResolvedTerm-F.Number v) _ e) ∙ small)) (omega arith))

  pub measures-Binary : (op : Op) (l r : ResolvedTerm) (a b found : Interval) → Measures signatures scope l a → Measures signatures scope r b → found ≡ binary_range op a b → Measures signatures scope (terms.Binary op l r) found
  measures-Binary op l r a b found p q is =
      measured (ResolvedTerm-F.Binary op l r) _ (terms.rolls-Binary op l r) signatures scope found (is ∙ rw (p.is, q.is) refl)
      (subst (λ (i : Interval). IsNear i (1 + resolved_term_tokens l + 1 + resolved_term_tokens r + 1)) (sym is) (binary-near op a b _ _ _ p.near q.near (omega arith)))

  pub measures-Min : (l r : ResolvedTerm) (a b found : Interval) → Measures signatures scope l a → Measures signatures scope r b → found.lo ≡ int_min a.lo b.lo → found.hi ≡ int_min a.hi b.hi
      → Measures signatures scope (terms.Min l r) found
  measures-Min l r a b found p q low high =
      let is = same_ends found (lesser_range a b) low high in
      measured (ResolvedTerm-F.Min l r) _ (terms.rolls-Min l r) signatures scope found (is ∙ rw (p.is, q.is) refl)
      (subst (λ (i : Interval). IsNear i (2 + resolved_term_tokens l + 1 + resolved_term_tokens r + 1)) (sym is) (min-near a b _ _ _ p.near q.near (omega arith)))

  pub measures-Max : (l r : ResolvedTerm) (a b found : Interval) → Measures signatures scope l a → Measures signatures scope r b → found.lo ≡ int_max a.lo b.lo → found.hi ≡ int_max a.hi b.hi
      → Measures signatures scope (terms.Max l r) found
  measures-Max l r a b found p q low high =
      let is = same_ends found (greater_range a b) low high in
      measured (ResolvedTerm-F.Max l r) _ (terms.rolls-Max l r) signatures scope found (is ∙ rw (p.is, q.is) refl)
      (subst (λ (i : Interval). IsNear i (2 + resolved_term_tokens l + 1 + resolved_term_tokens r + 1)) (sym is) (max-near a b _ _ _ p.near q.near (omega arith)))

  pub measures-Cond : (g l r : ResolvedTerm) (a b found : Interval) → Measures signatures scope l a → Measures signatures scope r b → found.lo ≡ int_min a.lo b.lo → found.hi ≡ int_max a.hi b.hi
      → Measures signatures scope (terms.Cond g l r) found
  measures-Cond g l r a b found p q low high =
      let is = same_ends found (hull a b) low high in
      measured (ResolvedTerm-F.Cond g l r) _ (terms.rolls-Cond g l r) signatures scope found (is ∙ rw (p.is, q.is) refl)
      (subst (λ (i : Interval). IsNear i (2 + resolved_term_tokens g + 1 + resolved_term_tokens l + 1 + resolved_term_tokens r + 1)) (sym is) (hull-near a b _ _ _ p.near q.near (omega arith)))

  pub measures-Not : (t : ResolvedTerm) → Measures signatures scope (terms.Not t) truths
  measures-Not t = measured (ResolvedTerm-F.Not t) _ (terms.rolls-Not t) signatures scope truths refl (word-near truths (1 + resolved_term_tokens t) truths-word (omega arith))

pub measures-Var : (signatures : List Signature) (context : Context) (b : ℕ) (plain refined : Interval) → Begins context b plain refined → Measures signatures (scope_of context) (terms.Var b) plain
measures-Var signatures context b plain refined h =
    measured (ResolvedTerm-F.Var b) _ (terms.rolls-Var b) signatures (scope_of context) plain h.is_plain (word-near plain 1 h.word (omega arith))

pub measures-Read : (domains : List Domain) (funs : List Fun) (scope : Scope) (fun : ℕ) (args : List ResolvedTerm) (found : Interval) → IsReady domains funs
    → found ≡ codomain_range (slice_get (signatures_in domains funs) fun) → Measures (signatures_in domains funs) scope (terms.Read fun args) found
measures-Read domains funs scope fun args found ready is =
    let word : IsWord found = subst (λ (i : Interval). IsWord i) (sym is) (codomain-word domains funs fun ready.all_domains ready.all_funs) in
    measured (ResolvedTerm-F.Read fun args) _ (terms.rolls-Read fun args) (signatures_in domains funs) scope found is (word-near found _ word (omega arith))
