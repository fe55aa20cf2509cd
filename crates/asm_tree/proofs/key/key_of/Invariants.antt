use Rattle.std.proofs.Common.{◌≢◌, ℕ, ◌<◌, get_or}
use Rattle.asm_tree.specs.declared.key.Key.TheVariants.{Machine}
use Rattle.asm_tree.specs.Names.{key_bytes}
use Rattle.asm_tree.proofs.key.key_of.Given as goal

abbrev pub invariant-loop-key : goal.invariant-loop-key
invariant-loop-key l = (i : ℕ) → i < l.key-index → key_bytes (get_or l.key-items i Machine) ≢ l.word
