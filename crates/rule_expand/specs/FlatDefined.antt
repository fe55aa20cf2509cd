-- The rules without loops that meet no function outside its domains.
use Rattle.std.specs.Prelude.{◌≡◌, ℤ, Option, Some, None, Bool, true, false, ◌&&◌, List, [], ◌∷◌, map, length, slice_get, slice_set, if◌then◌else◌}
use Rattle.std.specs.List.{list_all}
use Rattle.asm_names.specs.declared.program.Resolved.{Resolved}
use Rattle.asm_names.specs.declared.resolved_term.ResolvedTerm.{ResolvedTerm}
use Rattle.state_space.specs.declared.signature.Signature.{Signature}
use Rattle.state_space.specs.Locations.{signatures_of}
use Rattle.asm_ranges.specs.Ranges.{ReadsFit}
use Rattle.asm_ranges.specs.Values.{State, Inputs, Env, value, holds, defined, lies_in, takes_args}
use Rattle.rule_expand.specs.declared.flat.Flat.{Flat, Flat-F}
use Rattle.rule_expand.specs.declared.flat.Flat.TheFolds.{fold-Flat}

-- whether a function is there and may have this value
abbrev pub takes_value : Option Signature → ℤ → Bool
takes_value None value = false
takes_value (Some signature) value = lies_in signature.codomain value

-- cases are met up to the first whose guard passes, and behind them the rule of this one, or else the other rule
abbrev pub cases_defined : (ResolvedTerm → Bool) → (ResolvedTerm → Bool) → List (ResolvedTerm × (Env → Bool)) → (Env → Bool) → Env → Bool
cases_defined definite passes [] otherwise env = otherwise env
cases_defined definite passes (case ∷ cases) otherwise env =
    definite case.0 && (if passes case.0 then case.1 env else cases_defined definite passes cases otherwise env)

-- one rule, with what is found of each part in its place
abbrev pub flat_defined_by : Resolved → State → Inputs → Flat-F (Env → Bool) → Env → Bool
flat_defined_by program state inputs Flat-F.Skip env = true
flat_defined_by program state inputs (Flat-F.Update fun args new) env =
    (list_all (defined program state inputs env) args && defined program state inputs env new)
    && (takes_args (slice_get (signatures_of program) fun) (map (value program state inputs env) args)
    && takes_value (slice_get (signatures_of program) fun) (value program state inputs env new))
flat_defined_by program state inputs (Flat-F.Par parts) env = list_all (λ part. part env) parts
flat_defined_by program state inputs (Flat-F.Cases list else_rule) env =
    cases_defined (defined program state inputs env) (λ guard. holds (value program state inputs env guard)) list else_rule env
flat_defined_by program state inputs (Flat-F.Let binder bound body) env =
    defined program state inputs env bound && body (slice_set env binder (value program state inputs env bound))

-- Whether each term that is met is defined, and each update that is met is one of a location, with a value of its codomain.
-- Met are the arguments and the value of an update, the guards of cases up to the first that holds, the value of a `let`,
-- and what is met in each part, in the decided rule, and in the body where its binder is bound.
unfoldable pub flat_defined : Resolved → State → Inputs → Flat → Env → Bool
flat_defined program state inputs = fold-Flat (Env → Bool) (flat_defined_by program state inputs)

-- so it is in every state and for all inputs that have values of their codomains
abbrev pub MeetsDefined : Resolved → Flat → Type 0
MeetsDefined program flat =
    (state : State) (inputs : Inputs) (env : Env) → ReadsFit program state inputs → length env ≡ program.binders
    → flat_defined program state inputs flat env ≡ true
