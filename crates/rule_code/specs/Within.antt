-- What RAM holds while the rule of a round runs.
use Rattle.std.specs.Prelude.{Bool, ◌≡◌, ◌<◌, ◌≤◌, ℕ, ◌^◌, ℤ, true, List, length, is_some}
use Rattle.asm_names.specs.declared.program.Resolved.{Resolved}
use Rattle.asm_ranges.specs.Ranges.{EnvFits, Scope}
use Rattle.state_space.specs.declared.update.Update.{Update}
use Rattle.block_code.specs.{Leads.{IsSameOutside, IsStill}, Moment.{Moment}}
use Rattle.state_layout.specs.Map.{Placement, decoded, lies_between, map_end}
use Rattle.state_layout.specs.Inputs.{HoldsInputs}
use Rattle.instr_select.specs.{Held.{HoldsBinders, HoldsTables}, SelectLaw.{IsMapped}}
use Rattle.staged_commit.specs.{Law.{IsCoded}, Staged.{Staged}}

-- a program whose map of RAM is this one, and whose tables stand in ROM at this address: code can be written for it
pub record IsSetting (rom : List ℕ) (size : ℕ) (program : Resolved) (placement : Placement) (tables : ℕ) : Type 0 where
  pub mapped : IsMapped program placement
  pub coded : IsCoded placement
  pub words : HoldsTables rom program placement tables
  pub inside : map_end placement program.binders ≤ size
  pub small : map_end placement program.binders ≤ 2 ^ 20

-- the binders of a scope are the program's, and have values in their intervals
pub record IsBound (program : Resolved) (scope : Scope) (env : List ℤ) : Type 0 where
  pub long : length env ≡ program.binders
  pub values : EnvFits scope env
  pub few : (binder : ℕ) → is_some (scope binder) ≡ true → binder < program.binders

-- RAM holds the state, the inputs of the round and the values of the binders in scope, and these updates are staged
pub record IsWithin (program : Resolved) (placement : Placement) (state inputs env : List ℤ) (scope : Scope) (updates : List Update) (ram : List ℕ) : Type 0 where
  pub decodes : decoded placement ram ≡ state
  pub keeps : HoldsInputs placement ram inputs
  pub binds : HoldsBinders program placement ram scope env
  pub stages : Staged placement ram updates

-- the bytes of the map
abbrev pub in_map : Placement → (binders : ℕ) → ℕ → Bool
in_map placement binders = lies_between 0 (map_end placement binders)

-- no port is used, and RAM outside the region is as it was
pub record IsTame (region : ℕ → Bool) (s s' : Moment) : Type 0 where
  pub still : IsStill s s'
  pub outside : IsSameOutside region s s'
