-- The updates that a rule yields.
use Rattle.std.specs.Prelude.{◌≡◌, ℕ, ℤ, List, [], ◌∷◌, ◌++◌, map, slice_set, Option, Some, None}
use Rattle.std.specs.Bool.{MatchBool}
use Rattle.std.specs.List.{filter, Contains}
use Rattle.asm_names.specs.declared.program.Resolved.{Resolved}
use Rattle.asm_names.specs.declared.resolved_term.ResolvedTerm.{ResolvedTerm}
use Rattle.asm_names.specs.declared.resolved_rule.ResolvedRule.{ResolvedRule}
use Rattle.asm_names.specs.declared.resolved_rule.ResolvedRule.TheOpen.{ResolvedRule-F}
use Rattle.asm_names.specs.declared.resolved_rule.ResolvedRule.TheFolds.{rec-ResolvedRule}
use Rattle.state_space.specs.declared.update.Update.{Update}
use Rattle.state_space.specs.Locations.{elements, range_of, place_among, state_locations, signatures_of}
use Rattle.asm_ranges.specs.Values.{State, Inputs, Env, value, holds}

-- a list of updates, which is read as a set
abbrev pub Updates : Type 0
Updates = List Update

-- one update where there is a location
abbrev pub update_at : Option ℕ → ℤ → Updates
update_at None value = []
update_at (Some place) value = record { place = place; value = value } ∷ []

-- the update of a function at these arguments, and none outside its domains: there the function has no location
abbrev pub written : Resolved → ℕ → List ℤ → ℤ → Updates
written program fun args value = update_at (place_among (state_locations (signatures_of program)) (record { fun = fun; args = args })) value

-- the elements of a domain at which a guard holds, the least first
abbrev pub passing : Resolved → State → Inputs → Env → ℕ → ℕ → ResolvedTerm → List ℤ
passing program state inputs env binder domain guard =
    filter (λ e. holds (value program state inputs (slice_set env binder e) guard)) (elements (range_of program.domains domain))

-- how an element is chosen among those that pass: what the body yields for it, and what is yielded where none passes
abbrev pub Choice : Type 1
Choice = List ℤ → (ℤ → Type 0) → Type 0 → Type 0

-- any element
abbrev pub any_of : Choice
any_of [] body otherwise = otherwise
any_of (x ∷ xs) body otherwise = (e : ℤ) × Contains (x ∷ xs) e × body e

-- the least element
abbrev pub least_of : Choice
least_of [] body otherwise = otherwise
least_of (x ∷ xs) body otherwise = body x

-- the joined lists of one list for each item
abbrev pub Joined : {A : Type 0} → (A → Updates → Type 0) → List A → Updates → Type 0
Joined {A} P [] us = us ≡ []
Joined {A} P (x ∷ xs) us = (first others : Updates) × P x first × Joined P xs others × (us ≡ first ++ others)

-- one rule, where `yields` says what a part yields
abbrev pub YieldsLayer : Choice → Resolved → State → Inputs → (X : Type 0) → (X → ResolvedRule) → (X → Env → Updates → Type 0) → ResolvedRule-F X → Env → Updates → Type 0
YieldsLayer choice program state inputs X rule yields ResolvedRule-F.Skip env us = us ≡ []
YieldsLayer choice program state inputs X rule yields (ResolvedRule-F.Update fun args new) env us =
    us ≡ written program fun (map (value program state inputs env) args) (value program state inputs env new)
YieldsLayer choice program state inputs X rule yields (ResolvedRule-F.If guard then_rule else_rule has_else) env us =
    MatchBool (holds (value program state inputs env guard)) (yields then_rule env us) (yields else_rule env us)
YieldsLayer choice program state inputs X rule yields (ResolvedRule-F.Par rules) env us = Joined (λ part. yields part env) rules us
YieldsLayer choice program state inputs X rule yields (ResolvedRule-F.Forall binder domain guard guarded body) env us =
    Joined (λ e. yields body (slice_set env binder e)) (passing program state inputs env binder domain guard) us
YieldsLayer choice program state inputs X rule yields (ResolvedRule-F.Choose binder domain guard body else_rule has_else) env us =
    choice (passing program state inputs env binder domain guard) (λ e. yields body (slice_set env binder e) us) (yields else_rule env us)
YieldsLayer choice program state inputs X rule yields (ResolvedRule-F.Let binder bound body) env us =
    yields body (slice_set env binder (value program state inputs env bound)) us

unfoldable pub YieldsWith : Choice → Resolved → State → Inputs → ResolvedRule → Env → Updates → Type 0
YieldsWith choice program state inputs = rec-ResolvedRule (Env → Updates → Type 0) (YieldsLayer choice program state inputs)

-- the rule may yield these updates
abbrev pub Yields : Resolved → State → Inputs → ResolvedRule → Env → Updates → Type 0
Yields = YieldsWith any_of

-- the rule yields these updates where each choice takes the least element
abbrev pub YieldsLeast : Resolved → State → Inputs → ResolvedRule → Env → Updates → Type 0
YieldsLeast = YieldsWith least_of
