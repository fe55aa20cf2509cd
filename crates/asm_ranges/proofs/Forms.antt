-- What ranges, cuts and equal terms are at each form of a term.
use Rattle.std.proofs.Common.{◌≡◌, ℕ, ℤ, Bool, false, not, ◌&&◌, ◌==◌, List, ◌∷◌, map, refl, ap, ◌∙◌}
use Rattle.std.specs.{Prelude.{slice_get}, Ordering.{int_eq}}
use Rattle.asm_tree.specs.declared.term.Op.{Op}
use Rattle.asm_names.specs.declared.{program.Interval.{Interval}, resolved_term.ResolvedTerm.{ResolvedTerm, ResolvedTerm-F}}
use Rattle.asm_names.proofs.ResolvedLevels.{term_out_of}
use Rattle.state_space.specs.{declared.signature.Signature.{Signature}, Codomains.{codomain_range, just}}
use Rattle.asm_ranges.specs.{Ranges.{Scope, range, binder_range, binary_range, hull}, Facts.{Facts, Held, Failed, same, each_same, cut, cut_binary, cut_by_facts, begun, refined}}
use Rattle.asm_ranges.proofs.Levels.{range_at, refined_at, cut_at, same_at, refined_terms}
use Rattle.asm_names.specs.declared.resolved_term.ResolvedTerm.TheVariants as terms

module _ (signatures : List Signature) (scope : Scope) where
  pub range-Number : (v : ℤ) → range signatures scope (terms.Number v) ≡ just v
  range-Number v = range_at (ResolvedTerm-F.Number v) _ (terms.rolls-Number v) signatures scope

  pub range-Var : (b : ℕ) → range signatures scope (terms.Var b) ≡ binder_range scope b
  range-Var b = range_at (ResolvedTerm-F.Var b) _ (terms.rolls-Var b) signatures scope

  pub range-Read : (fun : ℕ) (args : List ResolvedTerm) → range signatures scope (terms.Read fun args) ≡ codomain_range (slice_get signatures fun)
  range-Read fun args = range_at (ResolvedTerm-F.Read fun args) _ (terms.rolls-Read fun args) signatures scope

  pub range-Binary : (op : Op) (l r : ResolvedTerm) → range signatures scope (terms.Binary op l r) ≡ binary_range op (range signatures scope l) (range signatures scope r)
  range-Binary op l r = range_at (ResolvedTerm-F.Binary op l r) _ (terms.rolls-Binary op l r) signatures scope

  pub refined-Number : (v : ℤ) (facts : Facts) → refined signatures scope (terms.Number v) facts ≡ just v
  refined-Number v facts = refined_at (ResolvedTerm-F.Number v) _ (terms.rolls-Number v) signatures scope facts

  pub refined-Var : (b : ℕ) (facts : Facts) → refined signatures scope (terms.Var b) facts ≡ cut_by_facts signatures scope (terms.Var b) facts (begun scope b facts)
  refined-Var b facts = refined_at (ResolvedTerm-F.Var b) _ (terms.rolls-Var b) signatures scope facts

  pub refined-Read : (fun : ℕ) (args : List ResolvedTerm) (facts : Facts)
      → refined signatures scope (terms.Read fun args) facts ≡ cut_by_facts signatures scope (terms.Read fun args) facts (codomain_range (slice_get signatures fun))
  refined-Read fun args facts =
      refined_at (ResolvedTerm-F.Read fun args) _ (terms.rolls-Read fun args) signatures scope facts
      ∙ ap (λ ts. cut_by_facts signatures scope (terms.Read fun ts) facts (codomain_range (slice_get signatures fun))) (refined_terms signatures scope args)

  pub refined-Binary : (op : Op) (l r : ResolvedTerm) (facts : Facts) → refined signatures scope (terms.Binary op l r) facts ≡ binary_range op (refined signatures scope l facts) (refined signatures scope r facts)
  refined-Binary op l r facts = refined_at (ResolvedTerm-F.Binary op l r) _ (terms.rolls-Binary op l r) signatures scope facts

  pub refined-Cond : (g l r : ResolvedTerm) (facts : Facts)
      → refined signatures scope (terms.Cond g l r) facts ≡ hull (refined signatures scope l (Held g ∷ facts)) (refined signatures scope r (Failed g ∷ facts))
  refined-Cond g l r facts = refined_at (ResolvedTerm-F.Cond g l r) _ (terms.rolls-Cond g l r) signatures scope facts

  module _ (atom : ResolvedTerm) (truth : Bool) (found : Interval) where
    pub cut-Binary : (op : Op) (l r : ResolvedTerm)
        → cut signatures scope atom (terms.Binary op l r) truth found ≡ cut_binary signatures scope atom op (l, cut signatures scope atom l) (r, cut signatures scope atom r) truth found
    cut-Binary op l r = cut_at (ResolvedTerm-F.Binary op l r) _ (terms.rolls-Binary op l r) signatures scope atom truth found

    pub cut-Not : (t : ResolvedTerm) → cut signatures scope atom (terms.Not t) truth found ≡ cut signatures scope atom t (not truth) found
    cut-Not t = cut_at (ResolvedTerm-F.Not t) _ (terms.rolls-Not t) signatures scope atom truth found

pub same-Read : (fun other : ℕ) (args others : List ResolvedTerm) → same (terms.Read fun args) (terms.Read other others) ≡ ((fun == other) && each_same (map same args) others)
same-Read fun other args others =
    same_at (ResolvedTerm-F.Read fun args) _ (terms.rolls-Read fun args) (terms.Read other others) ∙ rw (term_out_of (ResolvedTerm-F.Read other others) _ (terms.rolls-Read other others)) refl

pub same-Var : (b c : ℕ) → same (terms.Var b) (terms.Var c) ≡ (b == c)
same-Var b c = same_at (ResolvedTerm-F.Var b) _ (terms.rolls-Var b) (terms.Var c) ∙ rw (term_out_of (ResolvedTerm-F.Var c) _ (terms.rolls-Var c)) refl

pub same-Number : (v w : ℤ) → same (terms.Number v) (terms.Number w) ≡ int_eq v w
same-Number v w = same_at (ResolvedTerm-F.Number v) _ (terms.rolls-Number v) (terms.Number w) ∙ rw (term_out_of (ResolvedTerm-F.Number w) _ (terms.rolls-Number w)) refl

pub same-Number-Read : (v : ℤ) (fun : ℕ) (args : List ResolvedTerm) → same (terms.Number v) (terms.Read fun args) ≡ false
same-Number-Read v fun args =
    same_at (ResolvedTerm-F.Number v) _ (terms.rolls-Number v) (terms.Read fun args) ∙ rw (term_out_of (ResolvedTerm-F.Read fun args) _ (terms.rolls-Read fun args)) refl

pub same-Number-Var : (v : ℤ) (b : ℕ) → same (terms.Number v) (terms.Var b) ≡ false
same-Number-Var v b = same_at (ResolvedTerm-F.Number v) _ (terms.rolls-Number v) (terms.Var b) ∙ rw (term_out_of (ResolvedTerm-F.Var b) _ (terms.rolls-Var b)) refl

pub same-Read-Number : (fun : ℕ) (args : List ResolvedTerm) (v : ℤ) → same (terms.Read fun args) (terms.Number v) ≡ false
same-Read-Number fun args v =
    same_at (ResolvedTerm-F.Read fun args) _ (terms.rolls-Read fun args) (terms.Number v) ∙ rw (term_out_of (ResolvedTerm-F.Number v) _ (terms.rolls-Number v)) refl

pub ruleset forms = (range-Number, range-Var, range-Read, range-Binary, refined-Number, refined-Var, refined-Read, refined-Binary, refined-Cond, cut-Binary, cut-Not, same-Read, same-Var, same-Number, same-Number-Read, same-Number-Var, same-Read-Number)
