-- Faults of parts in order are in order.
use Rattle.std.proofs.Common.{ℕ, zero, suc, ◌+◌, ◌<◌, ◌≤◌, Bool, true, false, not, inl, inr, List, [], ◌∷◌, ◌++◌, map, Option, Some, None, refl, arith, append_assoc}
use Rattle.std.specs.{Prelude.{slice_get}, List.{AllByRecursion}}
use Rattle.asm_names.specs.{declared.{program.Interval.{Interval}, resolved_term.ResolvedTerm.{ResolvedTerm, out-ResolvedTerm, roll-out-ResolvedTerm, ResolvedTerm-F, map-ResolvedTerm}}, Places.{parted, in_parentheses}, ResolvedPlaces.{resolved_term_tokens, resolved_term_tokens_by}}
use Rattle.asm_names.proofs.{Known.{all-append}, ResolvedLevels.{term_tokens_of}}
use Rattle.state_space.specs.{declared.signature.{Range.{Range}, Signature.{Signature}}, Codomains.{whole}}
use Rattle.asm_ranges.specs.{declared.fault.RangeEnd.{RangeEnd}, Faults.{fault, token_of, Before, Ascending, Spans}, Ranges.{Scope, range, inside, sum_fits, binary_range, truths}}
use Rattle.asm_ranges.specs.{RangeFaults.{FaultyTerm, args_faults, domains_of, outside_faults, term_faults, term_faults_by, faulty_term}, Facts.{Facts, Held, Failed}}
use Rattle.asm_ranges.proofs.Levels.{faults_at}
use Rattle.asm_ranges.specs.declared.fault.RangeEnd.TheVariants as ends

pub none : (from to : ℕ) → Spans from to []
none from to = record { inside = tt; ascending = tt }

inside-wider : (a b c d : ℕ) (f : List RangeEnd) → a ≤ b → c ≤ d → AllByRecursion (λ x. (b ≤ token_of x) × (token_of x < c)) f → AllByRecursion (λ x. (a ≤ token_of x) × (token_of x < d)) f
inside-wider a b c d [] low high h = tt
inside-wider a b c d (x ∷ f) low high h = ((omega (arith, h.0.0), omega (arith, h.0.1)), inside-wider a b c d f low high h.1)

pub wider : {a b c d : ℕ} {f : List RangeEnd} → Spans b c f → (a ≤ b) × (c ≤ d) → Spans a d f
wider {a} {b} {c} {d} {f} s h = record { inside = inside-wider a b c d f h.0 h.1 s.inside; ascending = s.ascending }

all-before : (x : RangeEnd) (m to : ℕ) (g : List RangeEnd) → token_of x < m → AllByRecursion (λ y. (m ≤ token_of y) × (token_of y < to)) g → AllByRecursion (Before x) g
all-before x m to [] low h = tt
all-before x m to (y ∷ g) low h = (inl (omega (arith, h.0.0)), all-before x m to g low h.1)

ascending-append : (from m m2 to : ℕ) (f g : List RangeEnd) → m ≤ m2 → AllByRecursion (λ x. (from ≤ token_of x) × (token_of x < m)) f → Ascending f
    → AllByRecursion (λ y. (m2 ≤ token_of y) × (token_of y < to)) g → Ascending g → Ascending (f ++ g)
ascending-append from m m2 to [] g low h a k b = b
ascending-append from m m2 to (x ∷ f) g low h a k b =
    (all-append (Before x) f g a.0 (all-before x m2 to g (omega (arith, h.0.1)) k), ascending-append from m m2 to f g low h.1 a.1 k b)

-- one part after another, where tokens may lie before, between and behind them
pub seq : {from to a b c d : ℕ} {f g : List RangeEnd} → Spans a b f → Spans c d g → (from ≤ a) × (from ≤ c) × (b ≤ c) × (c ≤ to) × (d ≤ to) → Spans from to (f ++ g)
seq {from} {to} {a} {b} {c} {d} {f} {g} s u h = record {
  inside = all-append (λ x. (from ≤ token_of x) × (token_of x < to)) f g (inside-wider from a b to f h.0 (omega arith) s.inside) (inside-wider from c d to g h.1 h.4 u.inside);
  ascending = ascending-append a b c d f g h.2 s.inside s.ascending u.inside u.ascending;
}

-- a sum that is too wide and a value outside its domain, at one token
two : (at : ℕ) (b c : Bool) → Spans at (at + 1) (fault (ends.Wide at) b ++ fault (ends.Outside at) c)
two at true true = record { inside = ((omega arith, omega arith), ((omega arith, omega arith), tt)); ascending = ((inr (refl, omega arith), tt), (tt, tt)) }
two at false false = none at (at + 1)
two at _ _ = record { inside = ((omega arith, omega arith), tt); ascending = (tt, tt) }

own : (b : Bool) (i : Interval) (need : Option Interval) (at : ℕ) → Spans at (at + 1) (fault (ends.Wide at) b ++ outside_faults i need at)
own b i None at = two at b false
own b i (Some d) at = two at b (not (inside i d))

pub outside-one : (i : Interval) (need : Option Interval) (at : ℕ) → Spans at (at + 1) (outside_faults i need at)
outside-one = own false

-- ---- terms

-- how many tokens a term has, by its parts
abbrev layer_tokens : ResolvedTerm-F ResolvedTerm → ℕ
layer_tokens x = resolved_term_tokens_by (map-ResolvedTerm ResolvedTerm ℕ resolved_term_tokens x)

module _ (signatures : List Signature) (scope : Scope) (n : ℕ)
    (below : (t : ResolvedTerm) → resolved_term_tokens t < n → (facts : Facts) (need : Option Interval) (at : ℕ) → Spans at (at + resolved_term_tokens t) (term_faults signatures scope t facts need at)) where
  each : (ds : List Range) (ts : List ResolvedTerm) (facts : Facts) (at : ℕ) → parted (map resolved_term_tokens ts) < suc n
      → Spans at (at + parted (map resolved_term_tokens ts)) (args_faults ds (map (faulty_term signatures scope) ts) facts at)
  each ds [] facts at small = none at (at + 0)
  each [] (t ∷ ts) facts at small = seq (below t (omega arith) facts None at) (each [] ts facts (at + resolved_term_tokens t + 1) (omega arith)) (omega arith)
  each (d ∷ ds) (t ∷ ts) facts at small = seq (below t (omega arith) facts (Some (whole d)) at) (each ds ts facts (at + resolved_term_tokens t + 1) (omega arith)) (omega arith)

  pub arguments : (ds : List Range) (ts : List ResolvedTerm) (facts : Facts) (at : ℕ) → in_parentheses (map resolved_term_tokens ts) < suc n
      → Spans (at + 1) (at + (1 + in_parentheses (map resolved_term_tokens ts))) (args_faults ds (map (faulty_term signatures scope) ts) facts (at + 2))
  arguments ds [] facts at small = none (at + 1) (at + (1 + 0))
  arguments ds (t ∷ ts) facts at small = wider (each ds (t ∷ ts) facts (at + 2) (omega arith)) (omega arith)

  pair : (a b : ResolvedTerm) (facts : Facts) (at : ℕ) → layer_tokens (ResolvedTerm-F.Min a b) < suc n
      → Spans (at + 1) (at + layer_tokens (ResolvedTerm-F.Min a b)) (term_faults signatures scope a facts None (at + 2) ++ term_faults signatures scope b facts None (at + 2 + resolved_term_tokens a + 1))
  pair a b facts at small = seq (below a (omega arith) facts None (at + 2)) (below b (omega arith) facts None (at + 2 + resolved_term_tokens a + 1)) (omega arith)

  level : (x : ResolvedTerm-F ResolvedTerm) → layer_tokens x < suc n → (facts : Facts) (need : Option Interval) (at : ℕ)
      → Spans at (at + layer_tokens x) (term_faults_by signatures scope (map-ResolvedTerm ResolvedTerm FaultyTerm (faulty_term signatures scope) x) facts need at)
  level (ResolvedTerm-F.Read fun ts) small facts need at = seq (outside-one _ need at) (arguments (domains_of (slice_get signatures fun)) ts facts at (omega arith)) (omega arith)
  level (ResolvedTerm-F.Binary o l r) small facts need at =
      rw (← append_assoc)
      (seq {c = at + 1} {d = at + layer_tokens (ResolvedTerm-F.Binary o l r)} (own (not (sum_fits o (binary_range o (range signatures scope l) (range signatures scope r)))) _ need at)
      (seq (below l (omega arith) facts None (at + 1)) (below r (omega arith) facts None (at + 1 + resolved_term_tokens l + 1)) (omega arith)) (omega arith))
  level (ResolvedTerm-F.Not t) small facts need at = seq (outside-one truths need at) (below t (omega arith) facts None (at + 1)) (omega arith)
  level (ResolvedTerm-F.Min a b) small facts need at = seq (outside-one _ need at) (pair a b facts at small) (omega arith)
  level (ResolvedTerm-F.Max a b) small facts need at = seq (outside-one _ need at) (pair a b facts at small) (omega arith)
  level (ResolvedTerm-F.Cond g a b) small facts need at =
      let end = at + layer_tokens (ResolvedTerm-F.Cond g a b) in
      let first_at = at + 2 + resolved_term_tokens g + 1 in
      seq {c = at + 1} {d = end} (outside-one _ need at) (seq {c = first_at} {d = end} (below g (omega arith) facts None (at + 2))
      (seq (below a (omega arith) (Held g ∷ facts) None first_at) (below b (omega arith) (Failed g ∷ facts) None (first_at + resolved_term_tokens a + 1)) (omega arith)) (omega arith)) (omega arith)
  level _ small facts need at = seq (outside-one _ need at) (none (at + 1) (at + 1)) (omega arith)

at_depth : (signatures : List Signature) (scope : Scope) (n : ℕ) (t : ResolvedTerm) → resolved_term_tokens t < n → (facts : Facts) (need : Option Interval) (at : ℕ)
    → Spans at (at + resolved_term_tokens t) (term_faults signatures scope t facts need at)
at_depth signatures scope zero t small facts need at = absurd (omega arith)
at_depth signatures scope (suc n) t small facts need at =
    let x = out-ResolvedTerm t in
    let e = roll-out-ResolvedTerm t in
    rw (faults_at x t e signatures scope facts need at, term_tokens_of x t e) (level signatures scope n (at_depth signatures scope n) x (omega (arith, term_tokens_of x t e)) facts need at)

-- the faults of a term are in order, at its tokens
pub term_spans : (signatures : List Signature) (scope : Scope) (t : ResolvedTerm) (facts : Facts) (need : Option Interval) (at : ℕ) → Spans at (at + resolved_term_tokens t) (term_faults signatures scope t facts need at)
term_spans signatures scope t = at_depth signatures scope (suc (resolved_term_tokens t)) t (omega arith)
