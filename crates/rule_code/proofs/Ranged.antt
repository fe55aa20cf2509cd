-- The code of a round is a block in range.
use Rattle.std.proofs.Common.{◌≡◌, ℕ, ◌+◌, ◌*◌, ◌^◌, ◌≤◌, arith}
use Rattle.asm_names.specs.declared.program.Resolved.{Resolved}
use Rattle.block_code.specs.{Block.{IsBlock, IsInRange}, Plan.{Plan, entry, full, nest}}
use Rattle.block_code.proofs.Nest.{law-of-nest}
use Rattle.state_layout.specs.Map.{Placement}
use Rattle.staged_commit.specs.Law.{IsCoded}
use Rattle.staged_commit.proofs.{Pieces.{clear-block, commit-block}, Reading.{read-block}, Sending.{send-block}}
use Rattle.rule_expand.specs.declared.flat.Flat.{Flat}
use Rattle.rule_code.specs.{Body.{IsWritable}, Codable.{body_weight}, Code.{body_plan}}
use Rattle.rule_code.proofs.{Bodies.{body-full, body-len, body-nest}, Codes.{rules-are-coded}}

module _ (program : Resolved) (placement : Placement) (tables : ℕ) (flat : Flat) (coded : IsCoded placement) (writable : IsWritable program placement flat) where
  abbrev tree : Plan
  tree = body_plan program placement tables flat

  block : IsBlock tree
  block =
      (read-block placement coded writable.inputs, (clear-block placement coded, ((rules-are-coded program placement tables flat).block, (commit-block placement coded, send-block placement coded writable.outputs))))

  pub body-in-range : body_weight placement flat ≤ 262144 → IsInRange tree
  body-in-range light =
      let words = body-len program placement tables flat writable.inputs in
      let ticks = body-full program placement tables flat writable.inputs in
      let flatly = body-nest program placement tables flat writable.inputs in
      let step = law-of-nest tree block in
      record { block = block; short = omega arith; full = omega arith; entry = quick (entry tree) (nest tree) (full tree) flatly step (omega arith) }
    where
      quick : (e n f : ℕ) → n ≡ 0 → e ≤ (n + 1) * f → f ≤ 2 ^ 62 → e ≤ 2 ^ 62
      quick e n f none most few = let same : (n + 1) * f ≡ f = rw none (omega arith) in omega arith
