-- The programs, and the parts of rules, that code is written for.
use Rattle.std.specs.Prelude.{◌≡◌, ℕ, ◌+◌, ◌*◌, ◌<◌, ◌≤◌, true, List, length, map, is_some}
use Rattle.asm_names.specs.declared.{program.Resolved.{Resolved}, resolved_term.ResolvedTerm.{ResolvedTerm}}
use Rattle.asm_ranges.specs.Ranges.{Scope}
use Rattle.state_space.specs.{Locations.{is_state}, Sizes.{padded_sum}}
use Rattle.state_layout.specs.Map.{Placement, input_cells}
use Rattle.bound_count.specs.TermWeights.{arguments_weight, term_weight}
use Rattle.instr_select.specs.Writing.{AreWritable, IsReady, IsWritable}
use Rattle.staged_commit.specs.{Code.{first, output_cells, second}, Law.{IsCoded}}
use Rattle.rule_expand.specs.declared.flat.Flat.{Flat}
use Rattle.rule_expand.specs.{Expanding.{Case}, FlatWeights.{flat_registers, flat_weight}}
use Rattle.rule_code.specs.Short.{flat_short}

-- a program and its map, for whose terms and pieces code can be written
pub record IsPrepared (program : Resolved) (placement : Placement) : Type 0 where
  pub ready : IsReady program placement
  pub coded : IsCoded placement

-- A rule whose code fits a block, and for whose terms there are registers. Its terms are short where some of the program's binders are
-- bound.
pub record IsCodable (program : Resolved) (flat : Flat) : Type 0 where
  pub scope : Scope
  pub few : (binder : ℕ) → is_some (scope binder) ≡ true → binder < program.binders
  pub short : flat_short program flat scope ≡ true
  pub registers : flat_registers flat ≤ 16
  pub light : flat_weight flat ≤ 262144

-- such an update
pub record IsUpdateCodable (program : Resolved) (args : List ResolvedTerm) (value : ResolvedTerm) : Type 0 where
  pub index : AreWritable program args 0 first
  pub written : IsWritable program value second
  pub light : 48 + (arguments_weight (map term_weight args) + term_weight value) ≤ 262144

-- a term whose value can be left in the first register
pub record IsTermCodable (program : Resolved) (term : ResolvedTerm) : Type 0 where
  pub writable : IsWritable program term first
  pub light : term_weight term ≤ 262144

-- such a guard with its rule
pub record IsCaseCodable (program : Resolved) (case : Case) : Type 0 where
  pub guard : IsTermCodable program case.0
  pub rule : IsCodable program case.1

-- how many words the code of a round may take, and how many ticks, where no part of it is a loop
abbrev pub body_weight : Placement → Flat → ℕ
body_weight placement flat =
    62 + 24 * padded_sum is_state placement.signatures + (flat_weight flat + (16 * length (input_cells placement) + 20 * length (output_cells placement.signatures)))
