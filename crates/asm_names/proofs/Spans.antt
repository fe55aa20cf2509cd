-- Faults of parts in order are in order.
use Rattle.asm_names.proofs.Common.{ℕ, zero, suc, ◌+◌, ◌<◌, ◌≤◌, Bool, true, false, not, nat_eq, inl, inr, List, [], ◌∷◌, ◌++◌, map, length, Option, Some, None, refl, arith, append_assoc}
use Rattle.asm_names.proofs.Common.{AllByRecursion, Term, Term-F, out-Term, roll-out-Term, map-Term, NameFault, Sort, Need, same_as, refuses, op_sort, left_need, right_need, Scope, meaning_of}
use Rattle.asm_names.proofs.Common.{arity_of, argument_sorts, term_tokens, parted, in_parentheses, Fault, fault, code_of, Before, Ascending, Spans, Part, count_faults, each_faults, term_sort}
use Rattle.asm_names.proofs.Common.{term_faults, term_faults_by, part, layer_tokens}
use Rattle.asm_names.specs.Meanings.{sort_of}
use Rattle.asm_names.proofs.Levels.{tokens_of, faults_at}
use Rattle.asm_names.proofs.Known.{all-append}
use Rattle.asm_names.specs.declared.fault.NameFault.TheVariants as causes
use Rattle.asm_names.specs.declared.sort.Sort.TheVariants as sorts
use Rattle.asm_names.specs.declared.sort.Need.TheVariants as needs

pub none : (from to : ℕ) → from ≤ to → Spans from to []
none from to order = record { order = order; inside = tt; ascending = tt }

inside-wider : (a b c d : ℕ) (f : List Fault) → a ≤ b → c ≤ d → AllByRecursion (λ x. (b ≤ x.0) × (x.0 < c)) f → AllByRecursion (λ x. (a ≤ x.0) × (x.0 < d)) f
inside-wider a b c d [] low high h = tt
inside-wider a b c d (x ∷ f) low high h = ((omega (arith, h.0.0), omega (arith, h.0.1)), inside-wider a b c d f low high h.1)

pub wider : {a b c d : ℕ} {f : List Fault} → Spans b c f → a ≤ b → c ≤ d → Spans a d f
wider {a} {b} {c} {d} {f} s low high = record { order = omega (arith, s.order); inside = inside-wider a b c d f low high s.inside; ascending = s.ascending }

all-before : (x : Fault) (m to : ℕ) (g : List Fault) → x.0 < m → AllByRecursion (λ y. (m ≤ y.0) × (y.0 < to)) g → AllByRecursion (Before x) g
all-before x m to [] low h = tt
all-before x m to (y ∷ g) low h = (inl (omega (arith, h.0.0)), all-before x m to g low h.1)

ascending-append : (from m to : ℕ) (f g : List Fault) → AllByRecursion (λ x. (from ≤ x.0) × (x.0 < m)) f → Ascending f
    → AllByRecursion (λ y. (m ≤ y.0) × (y.0 < to)) g → Ascending g → Ascending (f ++ g)
ascending-append from m to [] g h a k b = b
ascending-append from m to (x ∷ f) g h a k b =
    (all-append (Before x) f g a.0 (all-before x m to g h.0.1 k), ascending-append from m to f g h.1 a.1 k b)

-- one part after another, where tokens may lie between
pub seq : {a b c d : ℕ} {f g : List Fault} → Spans a b f → Spans c d g → b ≤ c → Spans a d (f ++ g)
seq {a} {b} {c} {d} {f} {g} s u between = record {
  order = omega (arith, s.order, u.order);
  inside = all-append (λ x. (a ≤ x.0) × (x.0 < d)) f g (inside-wider a a b d f (omega arith) (omega (arith, u.order)) s.inside) (inside-wider a c d d g (omega (arith, s.order)) (omega arith) u.inside);
  ascending = ascending-append a c d f g (inside-wider a a b c f (omega arith) between s.inside) s.ascending u.inside u.ascending;
}

pub single : (at : ℕ) (cause : NameFault) (b : Bool) → Spans at (at + 1) (fault cause at b)
single at cause true = record { order = omega arith; inside = ((omega arith, omega arith), tt); ascending = (tt, tt) }
single at cause false = none at (at + 1) (omega arith)

-- two faults at one token
pub double : (at : ℕ) (c d : NameFault) (b e : Bool) → code_of c < code_of d → Spans at (at + 1) (fault c at b ++ fault d at e)
double at c d true true less =
    record { order = omega arith; inside = ((omega arith, omega arith), ((omega arith, omega arith), tt)); ascending = ((inr (refl, less), tt), (tt, tt)) }
double at c d true false less = single at c true
double at c d false e less = single at d e

own : (arity : Option ℕ) (count at : ℕ) (b : Bool) → Spans at (at + 1) (count_faults arity count at ++ fault causes.Sort at b)
own None count at b = double at causes.Unknown causes.Sort true b (omega arith)
own (Some arity) count at b = double at causes.Count causes.Sort (not (nat_eq arity count)) b (omega arith)

-- ---- terms

module _ (names : Scope) (n : ℕ) (below : (t : Term) → term_tokens t ≤ n → (need : Need) (at : ℕ) → Spans at (at + term_tokens t) (term_faults names t need at)) where
  each : (ss : List (Option Sort)) (ts : List Term) (at : ℕ) → parted (map term_tokens ts) ≤ n → Spans at (at + parted (map term_tokens ts)) (each_faults ss (map (part names) ts) at)
  each ss [] at small = none at (at + 0) (omega arith)
  each [] (t ∷ ts) at small =
      wider (seq (below t (omega arith) needs.Anything at) (each [] ts (at + term_tokens t + 1) (omega arith)) (omega arith)) (omega arith) (omega arith)
  each (s ∷ ss) (t ∷ ts) at small =
      wider (seq (below t (omega arith) (same_as s) at) (each ss ts (at + term_tokens t + 1) (omega arith)) (omega arith)) (omega arith) (omega arith)

  pub arguments : (ss : List (Option Sort)) (ts : List Term) (at : ℕ) → in_parentheses (map term_tokens ts) ≤ n → Spans (at + 1) (at + (1 + in_parentheses (map term_tokens ts))) (each_faults ss (map (part names) ts) (at + 2))
  arguments ss [] at small = none (at + 1) (at + (1 + 0)) (omega arith)
  arguments ss (t ∷ ts) at small = wider (each ss (t ∷ ts) (at + 2) (omega arith)) (omega arith) (omega arith)

  pair : (a b : Term) (at : ℕ) (need : Need) → layer_tokens (Term-F.Min a b) ≤ suc n → Spans at (at + layer_tokens (Term-F.Min a b)) (term_faults_by names (map-Term Term Part (part names) (Term-F.Min a b)) need at)
  pair a b at need small =
      wider (seq (single at causes.Sort (refuses need (Some sorts.Int)))
      (seq (below a (omega arith) (needs.Only sorts.Int) (at + 2)) (below b (omega arith) (needs.Only sorts.Int) (at + 2 + term_tokens a + 1)) (omega arith)) (omega arith)) (omega arith) (omega arith)

  level : (x : Term-F Term) → layer_tokens x ≤ suc n → (need : Need) (at : ℕ) → Spans at (at + layer_tokens x) (term_faults_by names (map-Term Term Part (part names) x) need at)
  level (Term-F.Number v) small need at = seq (single at causes.Sort (refuses need (Some sorts.Int))) (none (at + 1) (at + 1) (omega arith)) (omega arith)
  level (Term-F.Apply w ts) small need at =
      let m = meaning_of names w in
      rw (← append_assoc) (wider (seq (own (arity_of m) (length (map (part names) ts)) at (refuses need (sort_of m))) (arguments (argument_sorts m) ts at (omega arith)) (omega arith)) (omega arith) (omega arith))
  level (Term-F.Binary o l r) small need at =
      wider (seq (single at causes.Sort (refuses need (Some (op_sort o))))
      (seq (below l (omega arith) (left_need o) (at + 1)) (below r (omega arith) (right_need o (term_sort names l)) (at + 1 + term_tokens l + 1)) (omega arith)) (omega arith)) (omega arith) (omega arith)
  level (Term-F.Not t) small need at =
      wider (seq (single at causes.Sort (refuses need (Some sorts.Truth))) (below t (omega arith) (needs.Only sorts.Truth) (at + 1)) (omega arith)) (omega arith) (omega arith)
  level (Term-F.Min a b) small need at = pair a b at need small
  level (Term-F.Max a b) small need at = pair a b at need small
  level (Term-F.Cond g a b) small need at =
      let first_at = at + 2 + term_tokens g + 1 in
      wider (seq (single at causes.Sort (refuses need (term_sort names a)))
      (seq (below g (omega arith) (needs.Only sorts.Truth) (at + 2))
      (seq (below a (omega arith) needs.NotTruth first_at) (below b (omega arith) (same_as (term_sort names a)) (first_at + term_tokens a + 1)) (omega arith)) (omega arith)) (omega arith)) (omega arith) (omega arith)

some_tokens : (x : Term-F Term) → 0 < layer_tokens x
some_tokens (Term-F.Number v) = omega arith
some_tokens _ = omega arith

at_depth : (names : Scope) (n : ℕ) (t : Term) → term_tokens t ≤ n → (need : Need) (at : ℕ) → Spans at (at + term_tokens t) (term_faults names t need at)
at_depth names zero t small need at = absurd (omega (arith, tokens_of (out-Term t) t (roll-out-Term t), some_tokens (out-Term t)))
at_depth names (suc n) t small need at =
    let x = out-Term t in
    let e = roll-out-Term t in
    rw (faults_at x t e names need at, tokens_of x t e) (level names n (at_depth names n) x (omega (arith, tokens_of x t e)) need at)

-- the faults of a term are in order, at its tokens
pub term_spans : (names : Scope) (t : Term) (need : Need) (at : ℕ) → Spans at (at + term_tokens t) (term_faults names t need at)
term_spans names t = at_depth names (term_tokens t) t (omega arith)
