-- What holds of the code of rules and of rounds.
use Rattle.std.specs.Prelude.{◌≡◌, ℕ, ◌≤◌, ℤ, true, List, ◌++◌}
use Rattle.asm_names.specs.declared.program.Resolved.{Resolved}
use Rattle.asm_ranges.specs.Ranges.{ReadsFit, Scope}
use Rattle.state_space.specs.declared.update.Update.{Update}
use Rattle.block_code.specs.{Leads.{IsEntered, Leads}, Moment.{Moment}}
use Rattle.state_layout.specs.Map.{Placement}
use Rattle.rule_expand.specs.declared.flat.Flat.{Flat}
use Rattle.rule_expand.specs.{FlatDefined.{flat_defined}, FlatUpdates.{flat_updates}, FlatWeights.{flat_registers}}
use Rattle.rule_code.specs.{Body.{IsWritable, MakesRound}, Code.{body_plan, rule_plan}, Short.{flat_short}, Within.{IsBound, IsSetting, IsWithin}}

-- the code of a rule stages the rule's updates behind those that were staged, and leaves all else that RAM holds for a round
abbrev pub RulesStage : Type 0
RulesStage =
    (rom : List ℕ) (size : ℕ) (program : Resolved) (placement : Placement) (tables : ℕ) → IsSetting rom size program placement tables
    → (state inputs : List ℤ) → ReadsFit program state inputs → (flat : Flat) (scope : Scope) (env : List ℤ) (updates : List Update) → IsBound program scope env
    → flat_short program flat scope ≡ true → flat_defined program state inputs flat env ≡ true → flat_registers flat ≤ 16
    → (address : ℕ) (s : Moment) → IsEntered rom size address (rule_plan program placement tables flat) s → IsWithin program placement state inputs env scope updates s.hart.ram
    → Leads rom size address (rule_plan program placement tables flat)
    (λ e. IsWithin program placement state inputs env scope (updates ++ flat_updates program state inputs flat env) e.hart.ram) s

-- from every valid hart the code of a round makes a round
abbrev pub BodiesMakeRounds : Type 0
BodiesMakeRounds =
    (rom : List ℕ) (size : ℕ) (program : Resolved) (placement : Placement) (tables : ℕ) (flat : Flat) → IsWritable program placement flat → IsSetting rom size program placement tables
    → (address : ℕ) (s : Moment) → IsEntered rom size address (body_plan program placement tables flat) s
    → Leads rom size address (body_plan program placement tables flat) (MakesRound program placement flat s) s
