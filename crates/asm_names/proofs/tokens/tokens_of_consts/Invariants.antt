use Rattle.asm_names.proofs.Common.{◌≡◌, ◌+◌, drop, consts_tokens}
use Rattle.asm_names.proofs.tokens.tokens_of_consts.Given as goal

abbrev pub invariant-loop-constant : goal.invariant-loop-constant
invariant-loop-constant l = l.count + consts_tokens (drop l.constant-index l.consts) ≡ consts_tokens l.consts
