-- A term without faults is well formed in numbers, and has as many tokens.
use Rattle.asm_names.proofs.Common.{◌≡◌, ℕ, ◌+◌, pos, Bool, true, false, List, [], ◌∷◌, map, length, Option, Some, refl, sym, ◌∙◌, subst, arith, IfSome, list_all, AllByRecursion, and_parts, le-leb}
use Rattle.asm_names.proofs.Common.{eq-eqb, eqb-true, not-false, length-map, term_fits_by, all_fit, Op, Term, Term-F, roll-Term, map-Term, ind-Term, fold-roll-Term, Values, Fun, Sort, Need}
use Rattle.asm_names.proofs.Common.{ResolvedTerm, ResolvedTerm-F, roll-ResolvedTerm, map-ResolvedTerm, same_as, refuses, op_sort, left_need, right_need, Meaning, Enumerator, Function, Binder, Scope}
use Rattle.asm_names.proofs.Common.{meaning_of, sort_of_name, arity_of, argument_sorts, term_tokens, in_parentheses, Part, count_faults, each_faults, term_sort, term_sort_by, term_faults}
use Rattle.asm_names.proofs.Common.{term_faults_by, resolved_term, resolved_term_by, resolved_name, part, layer_tokens, resolved_term_tokens, resolved_term_tokens_by, Form, truth, thing, Bound}
use Rattle.asm_names.proofs.Common.{is_thing, binary_sort, read_sort, sort_of, sort_by}
use Rattle.asm_tree.specs.Forms.{term_fits}
use Rattle.asm_names.proofs.Levels.{tokens_of, sort_at, resolved_at, faults_at}
use Rattle.asm_names.proofs.ResolvedLevels.{term_tokens_of, sort_at as form_at}
use Rattle.asm_names.proofs.Known.{parts_clean, three_clean, unmet, formed, wants, same-wants, met, IsThing, Known, AllKnown, known_at}
use Rattle.asm_tree.specs.declared.term.Op.TheVariants as ops
use Rattle.asm_names.specs.declared.fault.NameFault.TheVariants as causes
use Rattle.asm_names.specs.declared.sort.Sort.TheVariants as sorts
use Rattle.asm_names.specs.declared.sort.Need.TheVariants as needs
use Rattle.asm_names.specs.declared.resolved_term.ResolvedTerm.TheVariants as resolved_terms

-- ---- operators

-- what an operator stands between
abbrev side : Op → Form
side ops.And = truth
side ops.Or = truth
side _ = thing

left-wants : (o : Op) → wants (left_need o) ≡ Some (side o)
left-wants ops.And = refl
left-wants ops.Or = refl
left-wants _ = refl

right-wants : (o : Op) (s : Option Sort) → formed s ≡ Some (side o) → wants (right_need o s) ≡ Some (side o)
right-wants ops.Eq s h = same-wants s ∙ h
right-wants ops.Ne s h = same-wants s ∙ h
right-wants ops.And s h = refl
right-wants ops.Or s h = refl
right-wants _ s h = refl

joined : (o : Op) → (f : Form) × ((formed (Some (op_sort o)) ≡ Some f) × (binary_sort o (Some (side o)) (Some (side o)) ≡ Some f))
joined ops.Add = (thing, (refl, refl))
joined ops.Sub = (thing, (refl, refl))
joined _ = (truth, (refl, refl))

pub counted : (arity count at : ℕ) → count_faults (Some arity) count at ≡ [] → arity ≡ count
counted arity count at h = eqb-true arity count (not-false _ (unmet causes.Count at _ h))

pub read : (fun : Fun) (sorts : List (Option Form)) → list_all is_thing sorts ≡ true → length fun.args ≡ length sorts → read_sort (Some fun) sorts ≡ Some thing
read fun sorts all count = rw (all, eq-eqb _ _ count) refl

-- ---- terms

module _ (names : Scope) (domains : List Values) (funs : List Fun) (bound : Bound) where
  -- a term without faults, where its place needs this
  pub record Judged (need : Need) (resolved : ResolvedTerm) (sort : Option Sort) (tokens : ℕ) (fits : Bool) : Type 0 where
    pub tokens_kept : resolved_term_tokens resolved ≡ tokens
    pub wanted : refuses need sort ≡ false
    pub sorted : AllKnown domains funs bound names → fits ≡ true → (f : Form) × ((formed sort ≡ Some f) × (sort_of funs bound resolved ≡ Some f))

  abbrev pub Claim : Term → Type 0
  Claim t = (need : Need) (at : ℕ) → term_faults names t need at ≡ [] → Judged need (resolved_term names t) (term_sort names t) (term_tokens t) (term_fits t)

  abbrev LayerClaim : Term-F Term → Type 0
  LayerClaim x =
      (need : Need) (at : ℕ) → term_faults_by names (map-Term Term Part (part names) x) need at ≡ []
      → Judged need (resolved_term_by names (map-Term Term ResolvedTerm (resolved_term names) x)) (term_sort_by names (map-Term Term (Option Sort) (term_sort names) x)) (layer_tokens x)
      (term_fits_by (map-Term Term Bool term_fits x))

  abbrev Sound : Type 0
  Sound = (t : Term) × Claim t

  abbrev term : Sound → Term
  term s = s.0

  -- what the place asks for is what the term is
  pub as_wanted : {need : Need} {n : ResolvedTerm} {s : Option Sort} {k : ℕ} {b : Bool} → Judged need n s k b → (g : Form) → wants need ≡ Some g → AllKnown domains funs bound names → b ≡ true
      → (formed s ≡ Some g) × (sort_of funs bound n ≡ Some g)
  as_wanted {need} {n} {s} j g w known fits =
      let is = j.sorted known fits in
      let same = met need s is.0 g j.wanted is.1.0 w in
      (same, is.1.1 ∙ (sym is.1.0 ∙ same))

  -- ---- arguments

  pub record AllJudged (ss : List (Option Sort)) (ts : List Term) : Type 0 where
    pub tokens_kept : map resolved_term_tokens (map (resolved_term names) ts) ≡ map term_tokens ts
    pub sorted : AllKnown domains funs bound names → all_fit (map term_fits ts) ≡ true → AllByRecursion IsThing ss → length ss ≡ length ts
        → list_all is_thing (map (sort_of funs bound) (map (resolved_term names) ts)) ≡ true

  pub each : (ss : List (Option Sort)) (ts : List Term) (at : ℕ) → AllByRecursion Claim ts → each_faults ss (map (part names) ts) at ≡ [] → AllJudged ss ts
  each ss [] at claims h = record { tokens_kept = refl; sorted = λ known fits things count. refl }
  each [] (t ∷ ts) at claims h =
      let p = parts_clean _ _ h in
      let one = claims.0 needs.Anything at p.0 in
      let rest = each [] ts (at + term_tokens t + 1) claims.1 p.1 in
      record { tokens_kept = rw (one.tokens_kept, rest.tokens_kept) refl; sorted = λ known fits things count. absurd (omega (arith, count)) }
  each (s ∷ ss) (t ∷ ts) at claims h =
      let p = parts_clean _ _ h in
      let one = claims.0 (same_as s) at p.0 in
      let rest = each ss ts (at + term_tokens t + 1) claims.1 p.1 in
      record {
        tokens_kept = rw (one.tokens_kept, rest.tokens_kept) refl;
        sorted = λ known fits things count.
            let q = and_parts _ _ fits in
            rw ((as_wanted one thing (same-wants s ∙ things.0) known q.0).1) (rest.sorted known q.1 things.1 (omega (arith, count)));
      }

  claims : (ts : List Sound) → AllByRecursion Claim (map term ts)
  claims [] = tt
  claims (t ∷ ts) = (t.1, claims ts)

  -- ---- one level

  -- a name that stands alone
  alone : (ts : List Term) → 0 ≡ length ts → ts ≡ []
  alone [] h = refl
  alone (t ∷ ts) h = absurd (omega (arith, h))

  -- a term in numbers with known parts
  made : {need : Need} {s : Option Sort} {k : ℕ} {b : Bool} (x : ResolvedTerm-F ResolvedTerm) (n : ResolvedTerm) → roll-ResolvedTerm x ≡ n → resolved_term_tokens_by (map-ResolvedTerm ResolvedTerm ℕ resolved_term_tokens x) ≡ k
      → refuses need s ≡ false → (AllKnown domains funs bound names → b ≡ true → (f : Form) × ((formed s ≡ Some f) × (sort_by funs bound (map-ResolvedTerm ResolvedTerm (Option Form) (sort_of funs bound) x) ≡ Some f)))
      → Judged need n s k b
  made x n e tokens wanted sorted = record {
    tokens_kept = term_tokens_of x n e ∙ tokens;
    wanted = wanted;
    sorted = λ known fits. let j = sorted known fits in (j.0, (j.1.0, form_at x n e funs bound ∙ j.1.1));
  }

  applied : (m : Option Meaning) (ts : List Term) (need : Need) (at : ℕ) → (AllKnown domains funs bound names → IfSome m (Known domains funs bound)) → AllByRecursion Claim ts
      → count_faults (arity_of m) (length (map (part names) ts)) at ≡ [] → refuses need (sort_of_name m) ≡ false → each_faults (argument_sorts m) (map (part names) ts) (at + 2) ≡ []
      → Judged need (resolved_name m (map (resolved_term names) ts)) (sort_of_name m) (1 + in_parentheses (map term_tokens ts)) (all_fit (map term_fits ts))
  applied (Some (Enumerator d i)) ts need at known parts count wanted inner =
      made (ResolvedTerm-F.Number (pos i)) _ (resolved_terms.rolls-Number (pos i)) (rw (alone ts (counted 0 _ at count ∙ length-map ts (part names))) refl) wanted
      (λ all fits. (thing, (refl, rw (le-leb i 2147483647 (omega (arith, known all))) refl)))
  applied (Some (Function n kind args values)) ts need at known parts count wanted inner =
      let many : length args ≡ length ts = counted (length args) _ at count ∙ length-map ts (part names) in
      let all_judged = each args ts (at + 2) parts inner in
      made (ResolvedTerm-F.Read n (map (resolved_term names) ts)) _ (resolved_terms.rolls-Read _ _) (rw all_judged.tokens_kept refl) wanted
      (λ all fits.
      let f = known all in
      let forms = map (sort_of funs bound) (map (resolved_term names) ts) in
      let as_many : length forms ≡ length ts = length-map (map (resolved_term names) ts) (sort_of funs bound) ∙ length-map ts (resolved_term names) in
      (thing, (f.things, rw f.there (read f.entry forms (all_judged.sorted all fits f.arguments many) (f.count ∙ (many ∙ sym as_many))))))
  applied (Some (Binder n s)) ts need at known parts count wanted inner =
      made (ResolvedTerm-F.Var n) _ (resolved_terms.rolls-Var n) (rw (alone ts (counted 0 _ at count ∙ length-map ts (part names))) refl) wanted (λ all fits. (thing, ((known all).1, rw ((known all).0) refl)))
  applied _ ts need at known parts count wanted inner = cc

  layer-in : (x : Term-F Sound) → LayerClaim (map-Term Sound Term term x)
  layer-in (Term-F.Number v) need at h =
      made (ResolvedTerm-F.Number (pos v)) _ (resolved_terms.rolls-Number (pos v)) refl (unmet causes.Sort at _ (parts_clean _ _ h).0) (λ known fits. (thing, (refl, rw fits refl)))
  layer-in (Term-F.Apply w ts) need at h =
      let p = three_clean _ _ _ h in
      applied (meaning_of names w) (map term ts) need at (known_at domains funs bound names w) (claims ts) p.0 (unmet causes.Sort at _ p.1) p.2
  layer-in (Term-F.Binary o l r) need at h =
      let p = three_clean _ _ _ h in
      let a = l.1 (left_need o) (at + 1) p.1 in
      let b = r.1 (right_need o (term_sort names l.0)) (at + 1 + term_tokens l.0 + 1) p.2 in
      made (ResolvedTerm-F.Binary o (resolved_term names l.0) (resolved_term names r.0)) _ (resolved_terms.rolls-Binary _ _ _) (rw (a.tokens_kept, b.tokens_kept) refl) (unmet causes.Sort at _ p.0)
      (λ known fits.
      let u = and_parts _ _ fits in
      let left = as_wanted a (side o) (left-wants o) known u.0 in
      let right = as_wanted b (side o) (right-wants o _ left.0) known u.1 in
      let j = joined o in
      (j.0, (j.1.0, rw (left.1, right.1) j.1.1)))
  layer-in (Term-F.Not t) need at h =
      let p = parts_clean _ _ h in
      let a = t.1 (needs.Only sorts.Truth) (at + 1) p.1 in
      made (ResolvedTerm-F.Not (resolved_term names t.0)) _ (resolved_terms.rolls-Not _) (rw (a.tokens_kept) refl) (unmet causes.Sort at _ p.0)
      (λ known fits. (truth, (refl, rw ((as_wanted a truth refl known fits).1) refl)))
  layer-in (Term-F.Min l r) need at h =
      let p = three_clean _ _ _ h in
      let a = l.1 (needs.Only sorts.Int) (at + 2) p.1 in
      let b = r.1 (needs.Only sorts.Int) (at + 2 + term_tokens l.0 + 1) p.2 in
      made (ResolvedTerm-F.Min (resolved_term names l.0) (resolved_term names r.0)) _ (resolved_terms.rolls-Min _ _) (rw (a.tokens_kept, b.tokens_kept) refl) (unmet causes.Sort at _ p.0)
      (λ known fits. let u = and_parts _ _ fits in (thing, (refl, rw ((as_wanted a thing refl known u.0).1, (as_wanted b thing refl known u.1).1) refl)))
  layer-in (Term-F.Max l r) need at h =
      let p = three_clean _ _ _ h in
      let a = l.1 (needs.Only sorts.Int) (at + 2) p.1 in
      let b = r.1 (needs.Only sorts.Int) (at + 2 + term_tokens l.0 + 1) p.2 in
      made (ResolvedTerm-F.Max (resolved_term names l.0) (resolved_term names r.0)) _ (resolved_terms.rolls-Max _ _) (rw (a.tokens_kept, b.tokens_kept) refl) (unmet causes.Sort at _ p.0)
      (λ known fits. let u = and_parts _ _ fits in (thing, (refl, rw ((as_wanted a thing refl known u.0).1, (as_wanted b thing refl known u.1).1) refl)))
  layer-in (Term-F.Cond g l r) need at h =
      let p = three_clean _ _ _ h in
      let v = parts_clean _ _ p.2 in
      let a = g.1 (needs.Only sorts.Truth) (at + 2) p.1 in
      let b = l.1 needs.NotTruth (at + 2 + term_tokens g.0 + 1) v.0 in
      let c = r.1 (same_as (term_sort names l.0)) (at + 2 + term_tokens g.0 + 1 + term_tokens l.0 + 1) v.1 in
      made (ResolvedTerm-F.Cond (resolved_term names g.0) (resolved_term names l.0) (resolved_term names r.0)) _ (resolved_terms.rolls-Cond _ _ _) (rw (a.tokens_kept, b.tokens_kept, c.tokens_kept) refl) (unmet causes.Sort at _ p.0)
      (λ known fits.
      let u = and_parts _ _ fits in
      let w = and_parts _ _ u.1 in
      let first = as_wanted b thing refl known w.0 in
      let second = as_wanted c thing (same-wants _ ∙ first.0) known w.1 in
      (thing, (first.0, rw ((as_wanted a truth refl known u.0).1, first.1, second.1) refl)))

  rolled : (x : Term-F Term) → LayerClaim x → Claim (roll-Term x)
  unfolding term_fits
  rolled x layer need at h =
      rw (resolved_at x (roll-Term x) refl names, sort_at x (roll-Term x) refl names, tokens_of x (roll-Term x) refl, fold-roll-Term Bool term_fits_by x)
      (layer need at (sym (faults_at x (roll-Term x) refl names need at) ∙ h))

  pub term_judged : (t : Term) → Claim t
  term_judged = ind-Term Claim (λ x y is. subst (λ z. Claim (roll-Term z)) is (rolled (map-Term Sound Term term y) (layer-in y)))

-- a term without faults has as many tokens in numbers
pub tokens_kept : (names : Scope) (t : Term) (need : Need) (at : ℕ) → term_faults names t need at ≡ [] → resolved_term_tokens (resolved_term names t) ≡ term_tokens t
tokens_kept names t need at h = (term_judged names [] [] [] t need at h).tokens_kept
