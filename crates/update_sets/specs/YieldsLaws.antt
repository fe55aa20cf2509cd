-- What the two ways of choosing have to do with one another.
use Rattle.std.specs.{Prelude.{◌≡◌, List}, List.{All}}
use Rattle.state_space.specs.declared.signature.Signature.{Signature}
use Rattle.asm_ranges.specs.Keeping.{IsChecked}
use Rattle.update_sets.specs.{Fitting.{Fitting, FitsLocation}, Steps.{Step, unbound}}
use Rattle.asm_names.specs.declared.program.Resolved.{Resolved}
use Rattle.asm_names.specs.declared.resolved_rule.ResolvedRule.{ResolvedRule}
use Rattle.asm_ranges.specs.Values.{State, Inputs, Env}
use Rattle.update_sets.specs.Yields.{Updates, Yields, YieldsLeast}

-- what the least choices yield may be yielded
abbrev pub LeastIsPermitted : Type 0
LeastIsPermitted =
    (program : Resolved) (state : State) (inputs : Inputs) (rule : ResolvedRule) (env : Env) (us : Updates)
    → YieldsLeast program state inputs rule env us → Yields program state inputs rule env us

-- they yield one list
abbrev pub LeastIsOne : Type 0
LeastIsOne =
    (program : Resolved) (state : State) (inputs : Inputs) (rule : ResolvedRule) (env : Env)
    → (us : Updates) × YieldsLeast program state inputs rule env us × ((vs : Updates) → YieldsLeast program state inputs rule env vs → vs ≡ us)

-- whatever the rule of a checked program may yield is at locations of the state, with values of their codomains
abbrev pub YieldedFits : Type 0
YieldedFits =
    (program : Resolved) (space : List Signature) (state : State) (inputs : Inputs) (us : Updates) → IsChecked program → Fitting program space state inputs
    → Yields program state inputs program.rule (unbound program) us → All (FitsLocation program) us

-- each step of a checked program from a state that fits ends in one that does
abbrev pub StepsFit : Type 0
StepsFit =
    (program : Resolved) (space : List Signature) (state : State) (inputs : Inputs) (next : State) → IsChecked program → Fitting program space state inputs
    → Step program state inputs next → Fitting program space next inputs
