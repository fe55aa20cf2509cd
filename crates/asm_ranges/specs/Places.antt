-- Where terms and rules stand in a program, and what their values are there.
use Rattle.std.specs.Prelude.{◌≡◌, ℕ, ◌<◌, ℤ, pos, Bool, true, false, List, [], ◌∷◌, length, slice_set, slice_index_or, Some}
use Rattle.std.specs.List.{list_all, Contains, AllByRecursion}
use Rattle.asm_names.specs.declared.{program.{Resolved.{Resolved}}, resolved_term.ResolvedTerm.{ResolvedTerm}, resolved_rule.ResolvedRule.{ResolvedRule}}
use Rattle.asm_tree.specs.declared.term.Op.{Op}
use Rattle.state_space.specs.Locations.{signatures_of}
use Rattle.asm_ranges.specs.{Ranges.{Scope, scoped, unscoped, range, In, domain_interval, EnvFits, sums_fit}, Facts.{Fact, Facts, Held, Failed, Bounded, refined}, RangeFaults.{guarded_facts}, Values.{value, defined, holds}}
use Rattle.asm_names.specs.declared.resolved_term.ResolvedTerm.TheVariants as terms
use Rattle.asm_names.specs.declared.resolved_rule.ResolvedRule.TheVariants as rules

-- ---- standing in a program

-- what is in scope at a place, and what the guards around it say
pub record Place : Type 0 where
  pub scope : Scope
  pub facts : Facts

-- where the program's rule and its legal term stand
abbrev pub outermost : Place
outermost = record { scope = unscoped; facts = [] }

-- where a guard holds
abbrev pub held : ResolvedTerm → Place → Place
held guard place = record { scope = place.scope; facts = Held guard ∷ place.facts }

-- where a guard fails
abbrev pub failed : ResolvedTerm → Place → Place
failed guard place = record { scope = place.scope; facts = Failed guard ∷ place.facts }

-- where a binder has the values of a domain
abbrev pub over : Resolved → ℕ → ℕ → Place → Place
over program binder domain place = record { scope = scoped place.scope binder (domain_interval program domain); facts = place.facts }

-- behind a guard, if the text has one
abbrev pub guarded_by : Bool → ResolvedTerm → Place → Place
guarded_by guarded guard place = record { scope = place.scope; facts = guarded_facts guarded guard place.facts }

-- where a binder has a term's value
abbrev pub bound_to : Resolved → ℕ → ResolvedTerm → Place → Place
bound_to program binder term place = record {
  scope = scoped place.scope binder (range (signatures_of program) place.scope term);
  facts = Bounded binder (refined (signatures_of program) place.scope term place.facts) ∷ place.facts;
}

-- A rule stands in the program at a place.
pub data StandsRule (program : Resolved) : ResolvedRule → Place → Type 0 where
  the_rule : StandsRule program program.rule outermost
  then_of : (guard : ResolvedTerm) (then_rule else_rule : ResolvedRule) (has_else : Bool) (place : Place)
      → StandsRule program (rules.If guard then_rule else_rule has_else) place → StandsRule program then_rule (held guard place)
  else_of : (guard : ResolvedTerm) (then_rule else_rule : ResolvedRule) (has_else : Bool) (place : Place)
      → StandsRule program (rules.If guard then_rule else_rule has_else) place → StandsRule program else_rule (failed guard place)
  part_of : (parts : List ResolvedRule) (part : ResolvedRule) (place : Place) → Contains parts part
      → StandsRule program (rules.Par parts) place → StandsRule program part place
  forall_of : (binder domain : ℕ) (guard : ResolvedTerm) (guarded : Bool) (body : ResolvedRule) (place : Place)
      → StandsRule program (rules.Forall binder domain guard guarded body) place → StandsRule program body (guarded_by guarded guard (over program binder domain place))
  choose_of : (binder domain : ℕ) (guard : ResolvedTerm) (body else_rule : ResolvedRule) (has_else : Bool) (place : Place)
      → StandsRule program (rules.Choose binder domain guard body else_rule has_else) place → StandsRule program body (held guard (over program binder domain place))
  none_of : (binder domain : ℕ) (guard : ResolvedTerm) (body else_rule : ResolvedRule) (has_else : Bool) (place : Place)
      → StandsRule program (rules.Choose binder domain guard body else_rule has_else) place → StandsRule program else_rule place
  let_of : (binder : ℕ) (term : ResolvedTerm) (body : ResolvedRule) (place : Place)
      → StandsRule program (rules.Let binder term body) place → StandsRule program body (bound_to program binder term place)

-- A term stands in the program at a place.
pub data StandsTerm (program : Resolved) : ResolvedTerm → Place → Type 0 where
  the_legal : (term : ResolvedTerm) → program.legal ≡ Some term → StandsTerm program term outermost
  arg_of_update : (fun : ℕ) (args : List ResolvedTerm) (new arg : ResolvedTerm) (place : Place) → Contains args arg
      → StandsRule program (rules.Update fun args new) place → StandsTerm program arg place
  new_of : (fun : ℕ) (args : List ResolvedTerm) (new : ResolvedTerm) (place : Place) → StandsRule program (rules.Update fun args new) place → StandsTerm program new place
  guard_of_if : (guard : ResolvedTerm) (then_rule else_rule : ResolvedRule) (has_else : Bool) (place : Place)
      → StandsRule program (rules.If guard then_rule else_rule has_else) place → StandsTerm program guard place
  guard_of_forall : (binder domain : ℕ) (guard : ResolvedTerm) (guarded : Bool) (body : ResolvedRule) (place : Place)
      → StandsRule program (rules.Forall binder domain guard guarded body) place → StandsTerm program guard (over program binder domain place)
  guard_of_choose : (binder domain : ℕ) (guard : ResolvedTerm) (body else_rule : ResolvedRule) (has_else : Bool) (place : Place)
      → StandsRule program (rules.Choose binder domain guard body else_rule has_else) place → StandsTerm program guard (over program binder domain place)
  value_of : (binder : ℕ) (term : ResolvedTerm) (body : ResolvedRule) (place : Place) → StandsRule program (rules.Let binder term body) place → StandsTerm program term place
  arg_of : (fun : ℕ) (args : List ResolvedTerm) (arg : ResolvedTerm) (place : Place) → Contains args arg → StandsTerm program (terms.Read fun args) place → StandsTerm program arg place
  left_of : (op : Op) (left right : ResolvedTerm) (place : Place) → StandsTerm program (terms.Binary op left right) place → StandsTerm program left place
  right_of : (op : Op) (left right : ResolvedTerm) (place : Place) → StandsTerm program (terms.Binary op left right) place → StandsTerm program right place
  inner_of : (inner : ResolvedTerm) (place : Place) → StandsTerm program (terms.Not inner) place → StandsTerm program inner place
  min_first_of : (first second : ResolvedTerm) (place : Place) → StandsTerm program (terms.Min first second) place → StandsTerm program first place
  min_second_of : (first second : ResolvedTerm) (place : Place) → StandsTerm program (terms.Min first second) place → StandsTerm program second place
  max_first_of : (first second : ResolvedTerm) (place : Place) → StandsTerm program (terms.Max first second) place → StandsTerm program first place
  max_second_of : (first second : ResolvedTerm) (place : Place) → StandsTerm program (terms.Max first second) place → StandsTerm program second place
  test_of : (guard first second : ResolvedTerm) (place : Place) → StandsTerm program (terms.Cond guard first second) place → StandsTerm program guard place
  first_of : (guard first second : ResolvedTerm) (place : Place) → StandsTerm program (terms.Cond guard first second) place → StandsTerm program first (held guard place)
  second_of : (guard first second : ResolvedTerm) (place : Place) → StandsTerm program (terms.Cond guard first second) place → StandsTerm program second (failed guard place)

-- a term stands somewhere in the program
abbrev pub Stands : Resolved → ResolvedTerm → Type 0
Stands program term = (place : Place) × StandsTerm program term place

-- ---- what is true at a place

-- a fact is true where the binders have these values
abbrev pub IsTrueFact : Resolved → List ℤ → List ℤ → List ℤ → Fact → Type 0
IsTrueFact program state inputs env (Held guard) = holds (value program state inputs env guard) ≡ true
IsTrueFact program state inputs env (Failed guard) = holds (value program state inputs env guard) ≡ false
IsTrueFact program state inputs env (Bounded binder interval) = In interval (slice_index_or env binder (pos 0))

-- all that is known at a place is true
abbrev pub AreTrue : Resolved → List ℤ → List ℤ → List ℤ → Facts → Type 0
AreTrue program state inputs env facts = AllByRecursion (IsTrueFact program state inputs env) facts

-- ---- terms and rules where binders have values

-- A term whose sums fit where the binders have these values, and which meets no function outside its domains: its value can be
-- computed in 32 signed bits.
pub record TermPlaced (program : Resolved) (state inputs : List ℤ) (term : ResolvedTerm) (env : List ℤ) : Type 0 where
  pub scope : Scope
  pub values : EnvFits scope env
  pub fitting : sums_fit (signatures_of program) scope term ≡ true
  pub definite : defined program state inputs env term ≡ true

-- the same of several terms
pub record TermsPlaced (program : Resolved) (state inputs : List ℤ) (terms : List ResolvedTerm) (env : List ℤ) : Type 0 where
  pub scope : Scope
  pub values : EnvFits scope env
  pub fitting : list_all (sums_fit (signatures_of program) scope) terms ≡ true
  pub definite : list_all (defined program state inputs env) terms ≡ true

-- A rule that stands in the program, where the binders in scope have these values, and all that is known there is true.
pub record RulePlaced (program : Resolved) (state inputs : List ℤ) (rule : ResolvedRule) (env : List ℤ) : Type 0 where
  pub place : Place
  pub stands : StandsRule program rule place
  pub long : length env ≡ program.binders
  pub values : EnvFits place.scope env
  pub known : AreTrue program state inputs env place.facts

-- the same of each of several rules
abbrev pub RulesPlaced : Resolved → List ℤ → List ℤ → List ResolvedRule → List ℤ → Type 0
RulesPlaced program state inputs rules env = AllByRecursion (λ rule. RulePlaced program state inputs rule env) rules

-- A guard for each element of a domain, and a body for each element at which the guard holds.
pub record ElementsPlaced (program : Resolved) (state inputs : List ℤ) (binder domain : ℕ) (guard : ResolvedTerm) (body : ResolvedRule) (env : List ℤ) : Type 0 where
  pub room : binder < length env
  pub guards : (e : ℤ) → In (domain_interval program domain) e → TermPlaced program state inputs guard (slice_set env binder e)
  pub bodies : (e : ℤ) → In (domain_interval program domain) e → holds (value program state inputs (slice_set env binder e) guard) ≡ true
      → RulePlaced program state inputs body (slice_set env binder e)
