-- What the contexts of the code stand for.
use Rattle.std.specs.Prelude.{◌≡◌, ℕ, ◌+◌, ◌*◌, ◌^◌, pos, negsuc, ◌-ℤ◌, ◌≤ℤ◌, Bool, true, ◌&&◌, List, [], ◌∷◌, map, length, nat_le, nat_lt, int_le, slice_get, Option, None}
use Rattle.std.specs.{List.{list_all, AllByRecursion}}
use Rattle.asm_names.specs.declared.{program.{Domain.{Domain}, Fun.{Fun}, Interval.{Interval}}, resolved_term.ResolvedTerm.{ResolvedTerm, ResolvedTerm-F, fold-ResolvedTerm}}
use Rattle.asm_names.specs.{ResolvedPlaces.{resolved_term_tokens}, WellFormed.{IsDomain, IsFun, is_number}}
use Rattle.asm_names.specs.declared.resolved_rule.ResolvedRule.{ResolvedRule, ResolvedRule-F, fold-ResolvedRule}
use Rattle.asm_ranges.specs.{declared.{fault.RangeEnd.{RangeEnd}, finding.{Found.{Found}, Parts.{Parts}}}, Faults.{first_fault}, RangeFaults.{term_faults}}
use Rattle.state_space.specs.{declared.signature.Signature.{Signature}, Locations.{signature_of}}
use Rattle.asm_ranges.specs.declared.context.Context.{Context, fold-Context}
use Rattle.asm_ranges.specs.declared.context.Context.TheOpen.{Context-F}
use Rattle.asm_ranges.specs.{Ranges.{Scope, scoped, range, binder_range, inside, words}, Facts.{Fact, Facts, Held, Failed, Bounded, begun, refined}}

-- ---- intervals

-- an interval with a number in it, all of whose numbers have 32 bits
pub record IsWord (interval : Interval) : Type 0 where
  pub low : negsuc 2147483647 ≤ℤ interval.lo
  pub some : interval.lo ≤ℤ interval.hi
  pub high : interval.hi ≤ℤ pos 2147483647

-- an interval with a number in it that lies in another
pub record IsPart (part whole : Interval) : Type 0 where
  pub low : whole.lo ≤ℤ part.lo
  pub some : part.lo ≤ℤ part.hi
  pub high : part.hi ≤ℤ whole.hi

-- the same, computed
abbrev pub is_part : Interval → Interval → Bool
is_part part whole = inside part whole && int_le part.lo part.hi

-- ---- terms

-- One term, with whether the numbers in each part are small.
abbrev pub small_numbers_by : ResolvedTerm-F Bool → Bool
small_numbers_by (ResolvedTerm-F.Number value) = is_number value
small_numbers_by (ResolvedTerm-F.Var binder) = true
small_numbers_by (ResolvedTerm-F.Read fun args) = list_all (λ small. small) args
small_numbers_by (ResolvedTerm-F.Binary op left right) = left && right
small_numbers_by (ResolvedTerm-F.Not inner) = inner
small_numbers_by (ResolvedTerm-F.Min first second) = first && second
small_numbers_by (ResolvedTerm-F.Max first second) = first && second
small_numbers_by (ResolvedTerm-F.Cond guard first second) = guard && (first && second)

-- whether each number in a term is from 0 to 2147483647
unfoldable pub small_numbers : ResolvedTerm → Bool
small_numbers = fold-ResolvedTerm Bool small_numbers_by

-- whether a guard has small numbers and no more tokens than a text
abbrev pub guard_fits : ResolvedTerm → Bool
guard_fits guard = small_numbers guard && nat_le (resolved_term_tokens guard) (2 ^ 31)

-- ---- contexts

abbrev pub scope_by : Context-F Scope → Scope
scope_by (Context-F.Outermost row) = λ binder. slice_get row.now binder
scope_by (Context-F.Held guard outer) = outer.now
scope_by (Context-F.Failed guard outer) = outer.now
scope_by (Context-F.Over binder interval outer) = scoped outer.now binder interval
scope_by (Context-F.Bounded binder plain refined outer) = scoped outer.now binder plain

-- the intervals of the binders in scope
abbrev pub scope_of : Context → Scope
scope_of = fold-Context Scope scope_by

-- whether all binders that are bound have lower numbers
abbrev pub is_below : ℕ → Fact → Bool
is_below binder (Held guard) = true
is_below binder (Failed guard) = true
is_below binder (Bounded other interval) = nat_lt other binder

abbrev pub below : ℕ → Facts → Bool
below binder facts = list_all (is_below binder) facts

-- what is known, and whether all intervals are of 32 bits, binders are numbered from the outermost on, and guards fit
abbrev pub judged_by : Context-F (Facts × Bool) → Facts × Bool
judged_by (Context-F.Outermost row) = ([], list_all (λ interval. is_part interval words) row.now)
judged_by (Context-F.Held guard outer) = (Held guard.now ∷ outer.now.0, guard_fits guard.now && outer.now.1)
judged_by (Context-F.Failed guard outer) = (Failed guard.now ∷ outer.now.0, guard_fits guard.now && outer.now.1)
judged_by (Context-F.Over binder interval outer) = (outer.now.0, (is_part interval words && below binder outer.now.0) && outer.now.1)
judged_by (Context-F.Bounded binder plain refined outer) = (Bounded binder refined ∷ outer.now.0, (is_part plain words && is_part refined plain) && (below binder outer.now.0 && outer.now.1))

abbrev pub judged_context : Context → Facts × Bool
judged_context = fold-Context (Facts × Bool) judged_by

abbrev pub facts_of : Context → Facts
facts_of context = (judged_context context).0

abbrev pub context_fits : Context → Bool
context_fits context = (judged_context context).1

abbrev pub depth_by : Context-F ℕ → ℕ
depth_by (Context-F.Outermost row) = 0
depth_by (Context-F.Held guard outer) = outer.now + 1
depth_by (Context-F.Failed guard outer) = outer.now + 1
depth_by (Context-F.Over binder interval outer) = outer.now + 1
depth_by (Context-F.Bounded binder plain refined outer) = outer.now + 1

-- how many binders and guards a context has
abbrev pub depth_of : Context → ℕ
depth_of = fold-Context ℕ depth_by

-- ---- what is found

-- An interval with a number in it, whose ends are at most 2147483648 times this count in magnitude: a term has an end from each
-- of its tokens at most once.
pub record IsNear (interval : Interval) (count : ℕ) : Type 0 where
  pub low : (pos 0 -ℤ pos (2147483648 * count)) ≤ℤ interval.lo
  pub some : interval.lo ≤ℤ interval.hi
  pub high : interval.hi ≤ℤ pos (2147483648 * count)

-- the domains and the functions that terms speak of
pub record IsReady (domains : List Domain) (funs : List Fun) : Type 0 where
  pub all_domains : AllByRecursion IsDomain domains
  pub all_funs : AllByRecursion (IsFun domains) funs

-- the functions of a program
abbrev pub signatures_in : List Domain → List Fun → List Signature
signatures_in domains funs = map (signature_of domains) funs

-- the plain range of a binder was found, and where its refined range begins
pub record Begins (context : Context) (binder : ℕ) (plain refined : Interval) : Type 0 where
  pub is_plain : plain ≡ binder_range (scope_of context) binder
  pub is_refined : refined ≡ begun (scope_of context) binder (facts_of context)
  pub part : IsPart refined plain
  pub word : IsWord plain

-- the plain range of a term was found
pub record Measures (signatures : List Signature) (scope : Scope) (term : ResolvedTerm) (found : Interval) : Type 0 where
  pub is : found ≡ range signatures scope term
  pub near : IsNear found (resolved_term_tokens term)

-- an interval was cut by a guard
pub record IsCut (cut found result : Interval) : Type 0 where
  pub is : result ≡ cut
  pub part : IsPart result found

-- What was found of a term at a place: its plain and its refined range, which lies in it, the place after its tokens, and the
-- first of its faults.
pub record Finds (plain refined : Interval) (tokens : ℕ) (faults : List RangeEnd) (at : ℕ) (found : Found) : Type 0 where
  pub is_plain : found.plain ≡ plain
  pub is_refined : found.refined ≡ refined
  pub after : found.after ≡ at + tokens
  pub first : found.fault ≡ first_fault faults
  pub near : IsNear found.plain tokens
  pub part : IsPart found.refined found.plain
  pub word : found.fault ≡ None → IsWord found.plain

-- arguments were read, with so many tokens: the place after them, and the first of their faults
pub record FindsParts (tokens : ℕ) (faults : List RangeEnd) (at : ℕ) (found : Parts) : Type 0 where
  pub after : found.after ≡ at + tokens
  pub first : found.fault ≡ first_fault faults

-- a term was read
abbrev pub FindsTerm : List Signature → Context → ResolvedTerm → Option Interval → ℕ → Found → Type 0
FindsTerm signatures context term need at =
    Finds (range signatures (scope_of context) term) (refined signatures (scope_of context) term (facts_of context)) (resolved_term_tokens term)
    (term_faults signatures (scope_of context) term (facts_of context) need at) at

-- One rule, with whether each part has small numbers and domains that are there, and binders from a number on, by that number.
abbrev pub legible_by : List Domain → ResolvedRule-F (ℕ → Bool) → ℕ → Bool
legible_by domains ResolvedRule-F.Skip from = true
legible_by domains (ResolvedRule-F.Update fun args value) from = list_all small_numbers args && small_numbers value
legible_by domains (ResolvedRule-F.If guard then_rule else_rule has_else) from = small_numbers guard && (then_rule from && else_rule from)
legible_by domains (ResolvedRule-F.Par rules) from = list_all (λ rule. rule from) rules
legible_by domains (ResolvedRule-F.Forall binder domain guard guarded body) from = (nat_lt domain (length domains) && nat_le from binder) && (small_numbers guard && body (binder + 1))
legible_by domains (ResolvedRule-F.Choose binder domain guard body else_rule has_else) from =
    (nat_lt domain (length domains) && nat_le from binder) && (small_numbers guard && (body (binder + 1) && else_rule from))
legible_by domains (ResolvedRule-F.Let binder value body) from = nat_le from binder && (small_numbers value && body (binder + 1))

unfoldable pub legible : List Domain → ResolvedRule → ℕ → Bool
legible domains = fold-ResolvedRule (ℕ → Bool) (legible_by domains)
