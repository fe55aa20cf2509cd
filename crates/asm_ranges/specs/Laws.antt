-- What holds of the values of a checked program.
use Rattle.std.specs.Prelude.{◌≡◌, ℕ, ℤ, pos, true, List, map, slice_get, is_some, Some, ◌⊎◌}
use Rattle.asm_names.specs.declared.{program.{Interval.{Interval}, Resolved.{Resolved}}, resolved_term.ResolvedTerm.{ResolvedTerm}, resolved_rule.ResolvedRule.{ResolvedRule}}
use Rattle.asm_names.specs.WellFormed.{Bound, is_truth, sort_of}
use Rattle.asm_tree.specs.declared.term.Op.{Op}
use Rattle.state_space.specs.{Locations.{is_input, is_state, input_locations, place_among, signatures_of, state_locations, tuple_number}, Codomains.{In, codomain_range}, declared.signature.Signature.{Signature}}
use Rattle.asm_ranges.specs.{Ranges.{Scope, EnvFits, ReadsFit, sums_fit, range, words}, Facts.{refined}, Places.{Place, StandsRule, StandsTerm, AreTrue, RulePlaced}, Instances.{Numbers, NumbersFit, instance, numbered_env, without_numbers}, Values.{value, defined, binary}, Keeping.{IsChecked}, Faults.{Ascending}, RangeFaults.{range_faults}}
use Rattle.asm_names.specs.declared.resolved_term.ResolvedTerm.TheVariants as terms
use Rattle.asm_names.specs.declared.resolved_rule.ResolvedRule.TheVariants as rules

-- A term of a checked program, where what is known at its place is true, meets no function outside its domains, its sums
-- fit, and its value lies in its refined range.
abbrev pub TermsAreDefined : Type 0
TermsAreDefined =
    (program : Resolved) (state inputs env : List ℤ) (term : ResolvedTerm) (place : Place) → IsChecked program → ReadsFit program state inputs
    → StandsTerm program term place → EnvFits place.scope env → AreTrue program state inputs env place.facts
    → (sums_fit (signatures_of program) place.scope term ≡ true) × (defined program state inputs env term ≡ true)
    × In (refined (signatures_of program) place.scope term place.facts) (value program state inputs env term)

-- the sums of a term of a checked program fit wherever it stands
abbrev pub SumsFit : Type 0
SumsFit = (program : Resolved) (term : ResolvedTerm) (place : Place) → IsChecked program → StandsTerm program term place → sums_fit (signatures_of program) place.scope term ≡ true

-- the value of a term whose sums fit, and that meets no function outside its domains, lies in its plain range
abbrev pub ValuesLieInRanges : Type 0
ValuesLieInRanges =
    (program : Resolved) (state inputs env : List ℤ) (scope : Scope) (term : ResolvedTerm) → ReadsFit program state inputs → EnvFits scope env
    → sums_fit (signatures_of program) scope term ≡ true → defined program state inputs env term ≡ true → In (range (signatures_of program) scope term) (value program state inputs env term)

-- and no sum of it passes 32 signed bits
abbrev pub SumsAreWords : Type 0
SumsAreWords =
    (program : Resolved) (state inputs env : List ℤ) (scope : Scope) (op : Op) (left right : ResolvedTerm) → ReadsFit program state inputs → EnvFits scope env
    → sums_fit (signatures_of program) scope (terms.Binary op left right) ≡ true → defined program state inputs env (terms.Binary op left right) ≡ true
    → In words (binary op (value program state inputs env left) (value program state inputs env right))

-- the value of a truth-sorted term is 0 or 1
abbrev pub TruthsAreBits : Type 0
TruthsAreBits =
    (program : Resolved) (state inputs env : List ℤ) (bound : Bound) (term : ResolvedTerm) → is_truth (sort_of program.funs bound term) ≡ true
    → (value program state inputs env term ≡ pos 0) ⊎ (value program state inputs env term ≡ pos 1)

-- Where a term that reads a function is defined, the values of its arguments are those of a location: in the state, among
-- the inputs, or in the function's table.
abbrev pub ReadsHaveLocations : Type 0
ReadsHaveLocations =
    (program : Resolved) (state inputs env : List ℤ) (fun : ℕ) (args : List ResolvedTerm) (signature : Signature)
    → slice_get (signatures_of program) fun ≡ Some signature → defined program state inputs env (terms.Read fun args) ≡ true
    → let values = map (value program state inputs env) args in
    (is_state signature.kind ≡ true → is_some (place_among (state_locations (signatures_of program)) (record { fun = fun; args = values })) ≡ true)
    × (is_input signature.kind ≡ true → is_some (place_among (input_locations (signatures_of program)) (record { fun = fun; args = values })) ≡ true)
    × (is_some (tuple_number signature.args values) ≡ true)

-- An update that is met is at a location of the state, and its value lies in the codomain.
abbrev pub UpdatesHaveLocations : Type 0
UpdatesHaveLocations =
    (program : Resolved) (state inputs env : List ℤ) (fun : ℕ) (args : List ResolvedTerm) (new : ResolvedTerm) → IsChecked program → ReadsFit program state inputs
    → RulePlaced program state inputs (rules.Update fun args new) env
    → (is_some (place_among (state_locations (signatures_of program)) (record { fun = fun; args = map (value program state inputs env) args })) ≡ true)
    × In (codomain_range (slice_get (signatures_of program) fun)) (value program state inputs env new)

-- each binder in scope where a rule of a checked program stands has its interval there in the program's row
abbrev pub BindersKeepIntervals : Type 0
BindersKeepIntervals =
    (program : Resolved) (rule : ResolvedRule) (place : Place) (binder : ℕ) (interval : Interval) → IsChecked program → StandsRule program rule place
    → place.scope binder ≡ Some interval → slice_get program.intervals binder ≡ Some interval

-- A term with numbers in the place of binders has the value that the term has where the binders have these values, and is
-- defined where that is.
abbrev pub InstancesHaveValues : Type 0
InstancesHaveValues =
    (program : Resolved) (state inputs env : List ℤ) (numbers : Numbers) (term : ResolvedTerm)
    → (value program state inputs env (instance numbers term) ≡ value program state inputs (numbered_env numbers env) term)
    × (defined program state inputs env (instance numbers term) ≡ defined program state inputs (numbered_env numbers env) term)

-- An instance of a term that stands in a checked program, where what is known at the term's place is true of the numbers: it is
-- defined, and its value lies in the term's refined range.
abbrev pub InstancesAreDefined : Type 0
InstancesAreDefined =
    (program : Resolved) (state inputs env : List ℤ) (numbers : Numbers) (term : ResolvedTerm) (place : Place) → IsChecked program → ReadsFit program state inputs
    → StandsTerm program term place → EnvFits place.scope (numbered_env numbers env) → AreTrue program state inputs (numbered_env numbers env) place.facts
    → (defined program state inputs env (instance numbers term) ≡ true)
    × In (refined (signatures_of program) place.scope term place.facts) (value program state inputs env (instance numbers term))

-- the sums of an instance fit, without the binders that have numbers, where those of the term do and the numbers lie in the
-- intervals of their binders
abbrev pub InstancesFit : Type 0
InstancesFit =
    (program : Resolved) (scope : Scope) (numbers : Numbers) (term : ResolvedTerm) → NumbersFit scope numbers → sums_fit (signatures_of program) scope term ≡ true
    → sums_fit (signatures_of program) (without_numbers numbers scope) (instance numbers term) ≡ true

-- the faults of a program come by token, and at one token a sum too wide before a value outside its domain
abbrev pub FaultsAscend : Type 0
FaultsAscend = (program : Resolved) → Ascending (range_faults program)
