-- Cuts and refined ranges that are computed.
use Rattle.std.proofs.Common.{◌≡◌, ℕ, pos, List, [], ◌∷◌, refl}
use Rattle.asm_names.specs.declared.{program.Interval.{Interval}, resolved_term.ResolvedTerm.{ResolvedTerm}}
use Rattle.asm_tree.specs.declared.term.Op.{Op}
use Rattle.state_space.specs.declared.signature.{Range.{Range}, Signature.{Signature}}
use Rattle.asm_ranges.specs.{Ranges.{unscoped, scoped}, Facts.{Facts, Held, Failed, Bounded, refined}}
use Rattle.asm_ranges.proofs.Forms.{forms}
use Rattle.asm_tree.specs.declared.decl.Kind.TheVariants as kinds
use Rattle.asm_tree.specs.declared.term.Op.TheVariants as ops
use Rattle.asm_names.specs.declared.resolved_term.ResolvedTerm.TheVariants as terms

abbrev digits : Range
digits = record { size = 10; lo = pos 0 }

abbrev span : ℕ → ℕ → Interval
span lo hi = record { lo = pos lo; hi = pos hi }

-- x and y from 0 to 9, and f from digits to digits
abbrev some_signatures : List Signature
some_signatures = record { kind = kinds.Controlled; args = []; codomain = digits } ∷ record { kind = kinds.Controlled; args = []; codomain = digits } ∷ record { kind = kinds.Controlled; args = digits ∷ []; codomain = digits } ∷ []

abbrev x : ResolvedTerm
x = terms.Read 0 []

abbrev y : ResolvedTerm
y = terms.Read 1 []

abbrev f : ResolvedTerm → ResolvedTerm
f t = terms.Read 2 (t ∷ [])

abbrev n : ℕ → ResolvedTerm
n k = terms.Number (pos k)

abbrev is : Op → ResolvedTerm → ResolvedTerm → ResolvedTerm
is op l r = terms.Binary op l r

abbrev refines : Facts → ResolvedTerm → Interval → Type 0
refines facts t i = refined some_signatures unscoped t facts ≡ i

-- each sign, with the atom on its left and on its right
equal : refines (Held (is ops.Eq x (n 4)) ∷ []) x (span 4 4)
equal = simp forms refl

less : refines (Held (is ops.Lt x (n 9)) ∷ []) x (span 0 8)
less = simp forms refl

at_most : refines (Held (is ops.Le x (n 7)) ∷ []) x (span 0 7)
at_most = simp forms refl

greater : refines (Held (is ops.Gt x (n 3)) ∷ []) x (span 4 9)
greater = simp forms refl

at_least : refines (Held (is ops.Ge x (n 3)) ∷ []) x (span 3 9)
at_least = simp forms refl

unequal_high : refines (Held (is ops.Ne x (n 9)) ∷ []) x (span 0 8)
unequal_high = simp forms refl

unequal_low : refines (Held (is ops.Ne x (n 0)) ∷ []) x (span 1 9)
unequal_low = simp forms refl

unequal_inside : refines (Held (is ops.Ne x (n 5)) ∷ []) x (span 0 9)
unequal_inside = simp forms refl

mirrored_less : refines (Held (is ops.Lt (n 3) x) ∷ []) x (span 4 9)
mirrored_less = simp forms refl

-- a failing comparison is the opposite one
fails_less : refines (Failed (is ops.Lt x (n 9)) ∷ []) x (span 9 9)
fails_less = simp forms refl

fails_equal : refines (Failed (is ops.Eq x (n 9)) ∷ []) x (span 0 8)
fails_equal = simp forms refl

not_less : refines (Held (terms.Not (is ops.Lt x (n 9))) ∷ []) x (span 9 9)
not_less = simp forms refl

-- conjuncts one after another, and disjuncts that fail; other truths cut nothing
both : refines (Held (is ops.And (is ops.Gt x (n 2)) (is ops.Lt x (n 7))) ∷ []) x (span 3 6)
both = simp forms refl

neither : refines (Failed (is ops.Or (is ops.Lt x (n 2)) (is ops.Gt x (n 7))) ∷ []) x (span 2 7)
neither = simp forms refl

either_cuts_nothing : refines (Held (is ops.Or (is ops.Lt x (n 2)) (is ops.Gt x (n 7))) ∷ []) x (span 0 9)
either_cuts_nothing = simp forms refl

-- a cut that would leave no value isn't made: of one value that is both ends the greatest goes first, and would leave none
no_cut : refines (Held (is ops.Gt x (n 20)) ∷ []) x (span 0 9)
no_cut = simp forms refl

the_only_value : refines (Held (is ops.Ne x (n 4)) ∷ Held (is ops.Eq x (n 4)) ∷ []) x (span 4 4)
the_only_value = simp forms refl

-- facts in order, the outermost first: 9 goes, and then 8
in_order : refines (Held (is ops.Ne x (n 8)) ∷ Held (is ops.Ne x (n 9)) ∷ []) x (span 0 7)
in_order = simp forms refl

-- of another atom nothing is said, and its plain range counts
other_atom : refines (Held (is ops.Lt x y) ∷ []) x (span 0 8)
other_atom = simp forms refl

-- the same atom on both sides: the left side first, and then the right
itself : refines (Held (is ops.Lt x x) ∷ []) x (span 1 8)
itself = simp forms refl

-- a function with terms is an atom where the terms are the same
same_terms : refines (Held (is ops.Lt (f x) (n 3)) ∷ []) (f x) (span 0 2)
same_terms = simp forms refl

other_terms : refines (Held (is ops.Lt (f x) (n 3)) ∷ []) (f y) (span 0 9)
other_terms = simp forms refl

-- the parts of sums are refined, and the branches of `cond` under the guard
sum : refines (Held (is ops.Lt x (n 9)) ∷ []) (is ops.Add x (n 1)) (span 1 9)
sum = simp forms refl

branches : refines [] (terms.Cond (is ops.Eq x (n 9)) (n 0) (is ops.Add x (n 1))) (span 0 9)
branches = simp forms refl

-- a `let` binder begins as it was bound, not as its value's plain range
bound_binder : refined some_signatures (scoped unscoped 0 (span 0 9)) (terms.Var 0) (Held (is ops.Gt (terms.Var 0) (n 2)) ∷ Bounded 0 (span 0 8) ∷ []) ≡ span 3 8
bound_binder = simp forms refl
