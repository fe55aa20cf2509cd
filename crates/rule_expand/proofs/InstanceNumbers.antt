-- The numbers of an instance are short.
use Rattle.std.proofs.Common.{◌≡◌, ◌&&◌, ℕ, zero, suc, ℤ, pos, negsuc, ◌≤ℤ◌, Bool, true, List, [], ◌∷◌, map, Option, Some, None, refl, sym, ap, ◌∙◌, subst, arith}
use Rattle.std.specs.{Prelude.{slice_index_or, slice_set, replicate, IfSome}, List.{list_all, AllByRecursion}}
use Rattle.std.proofs.lemmas.{Bool.{and_parts, and_from}, Int.{ints}}
use Rattle.asm_names.specs.declared.{program.Interval.{Interval}, resolved_term.ResolvedTerm.{ResolvedTerm, ResolvedTerm-F, roll-ResolvedTerm, ind-ResolvedTerm, map-ResolvedTerm}}
use Rattle.asm_names.specs.declared.resolved_term.ResolvedTerm.TheVariants as terms
use Rattle.asm_names.specs.WellFormed.{is_number}
use Rattle.state_space.specs.Codomains.{In, just}
use Rattle.asm_ranges.specs.{Ranges.{inside, words}, Contexts.{IsWord, small_numbers, small_numbers_by}, Instances.{Numbers, instance, instance_by, number_or}}
use Rattle.asm_ranges.proofs.Measures.{small_of}
use Rattle.bound_count.specs.ShortNumbers.{short_numbers}
use Rattle.bound_count.proofs.Levels.{short_numbers_at}
use Rattle.rule_expand.proofs.{TermLevels.{instance_at}, InstanceSums.{true-of}}

-- ---- short numbers in the place of binders

abbrev pub IsShort : Option ℤ → Type 0
IsShort number = IfSome number (λ value. inside (just value) words ≡ true)

abbrev pub AreShort : Numbers → Type 0
AreShort numbers = AllByRecursion IsShort numbers

pub short-none : (n : ℕ) → AreShort (replicate n None)
short-none zero = tt
short-none (suc n) = (tt, short-none n)

pub short-set : (numbers : Numbers) (b : ℕ) (n : Option ℤ) → IsShort n → AreShort numbers → AreShort (slice_set numbers b n)
short-set [] b n h all = tt
short-set (m ∷ numbers) zero n h all = (h, all.1)
short-set (m ∷ numbers) (suc b) n h all = (all.0, short-set numbers b n h all.1)

short-at : (numbers : Numbers) (b : ℕ) → AreShort numbers → IsShort (slice_index_or numbers b None)
short-at [] b all = tt
short-at (m ∷ numbers) zero all = all.0
short-at (m ∷ numbers) (suc b) all = short-at numbers b all.1

-- a number of an interval of words
pub in-short : (i : Interval) (v : ℤ) → IsWord i → In i v → IsShort (Some v)
in-short i v word inside =
    let low : negsuc 2147483647 ≤ℤ v = omega (arith, ints, word.low, inside.low) in
    let high : v ≤ℤ pos 2147483647 = omega (arith, ints, word.high, inside.high) in
    and_from _ _ (true-of _ low.le) (true-of _ high.le)

small-short : (v : ℤ) → is_number v ≡ true → IsShort (Some v)
small-short (pos n) h = h
small-short (negsuc n) h = absurd cc

-- ---- instances

module _ (numbers : Numbers) (shorts : AreShort numbers) where
  -- an instance of the term
  abbrev after : ResolvedTerm → ResolvedTerm
  after = instance numbers

  abbrev Short : ResolvedTerm → Type 0
  Short t = small_numbers t ≡ true → short_numbers (after t) ≡ true

  abbrev Good : Type 0
  Good = (t : ResolvedTerm) × Short t

  abbrev term : Good → ResolvedTerm
  term g = g.0

  abbrev Layer : ResolvedTerm-F ResolvedTerm → Type 0
  Layer x = small_numbers_by (map-ResolvedTerm ResolvedTerm Bool small_numbers x) ≡ true → short_numbers (instance_by numbers (map-ResolvedTerm ResolvedTerm ResolvedTerm after x)) ≡ true

  var : (n : Option ℤ) (b : ℕ) → IsShort n → short_numbers (number_or n b) ≡ true
  var None b h = short_numbers_at (ResolvedTerm-F.Var b) _ (terms.rolls-Var b)
  var (Some v) b h = short_numbers_at (ResolvedTerm-F.Number v) _ (terms.rolls-Number v) ∙ h

  all-after : (ts : List Good) → list_all (λ (small : Bool). small) (map small_numbers (map term ts)) ≡ true → list_all (λ (short : Bool). short) (map short_numbers (map after (map term ts))) ≡ true
  all-after [] h = refl
  all-after (t ∷ ts) h = let p = and_parts _ _ h in and_from _ _ (t.1 p.0) (all-after ts p.1)

  both : (l r : Good) → (small_numbers l.0 && small_numbers r.0) ≡ true → (short_numbers (after l.0) && short_numbers (after r.0)) ≡ true
  both l r h = let p = and_parts _ _ h in and_from _ _ (l.1 p.0) (r.1 p.1)

  layer : (x : ResolvedTerm-F Good) → Layer (map-ResolvedTerm Good ResolvedTerm term x)
  layer (ResolvedTerm-F.Number v) h = short_numbers_at (ResolvedTerm-F.Number v) _ (terms.rolls-Number v) ∙ small-short v h
  layer (ResolvedTerm-F.Var b) h = var (slice_index_or numbers b None) b (short-at numbers b shorts)
  layer (ResolvedTerm-F.Read fun ts) h =
      short_numbers_at (ResolvedTerm-F.Read fun (map after (map term ts))) _ (terms.rolls-Read fun (map after (map term ts))) ∙ all-after ts h
  layer (ResolvedTerm-F.Binary op l r) h = short_numbers_at (ResolvedTerm-F.Binary op (after l.0) (after r.0)) _ (terms.rolls-Binary op (after l.0) (after r.0)) ∙ both l r h
  layer (ResolvedTerm-F.Not t) h = short_numbers_at (ResolvedTerm-F.Not (after t.0)) _ (terms.rolls-Not (after t.0)) ∙ t.1 h
  layer (ResolvedTerm-F.Min l r) h = short_numbers_at (ResolvedTerm-F.Min (after l.0) (after r.0)) _ (terms.rolls-Min (after l.0) (after r.0)) ∙ both l r h
  layer (ResolvedTerm-F.Max l r) h = short_numbers_at (ResolvedTerm-F.Max (after l.0) (after r.0)) _ (terms.rolls-Max (after l.0) (after r.0)) ∙ both l r h
  layer (ResolvedTerm-F.Cond g l r) h =
      let p = and_parts _ _ h in
      short_numbers_at (ResolvedTerm-F.Cond (after g.0) (after l.0) (after r.0)) _ (terms.rolls-Cond (after g.0) (after l.0) (after r.0)) ∙ and_from _ _ (g.1 p.0) (both l r p.1)

  rolled : (x : ResolvedTerm-F ResolvedTerm) → Layer x → Short (roll-ResolvedTerm x)
  rolled x one h = ap short_numbers (instance_at x (roll-ResolvedTerm x) refl numbers) ∙ one (sym (small_of x (roll-ResolvedTerm x) refl) ∙ h)

  -- so are those of an instance
  pub instance_short : (t : ResolvedTerm) → Short t
  instance_short = ind-ResolvedTerm Short (λ x y is. subst (λ z. Short (roll-ResolvedTerm z)) is (rolled (map-ResolvedTerm Good ResolvedTerm term y) (layer y)))
