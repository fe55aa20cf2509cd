use Rattle.asm_names.proofs.Common.{◌≡◌, ◌+◌, ◌*◌, ◌≤◌, map, take, drop, Some, scope, term_tokens, parted, each_faults, resolved_term, part}
use Rattle.asm_names.proofs.term.+term.Given as goal

abbrev pub decreases-term : goal.decreases-term
decreases-term l = 4 * term_tokens l.term.now

abbrev pub decreases-boxed : goal.decreases-boxed
decreases-boxed l = 4 * term_tokens l.part.now + 1

abbrev pub decreases-binary : goal.decreases-binary
decreases-binary l = 4 * (term_tokens l.left.now + term_tokens l.right.now) + 2

abbrev pub decreases-negation : goal.decreases-negation
decreases-negation l = 4 * term_tokens l.inner.now + 2

abbrev pub decreases-pair : goal.decreases-pair
decreases-pair l = 4 * (term_tokens l.first.now + term_tokens l.second.now) + 2

abbrev pub decreases-conditional : goal.decreases-conditional
decreases-conditional l = 4 * (term_tokens l.guard.now + term_tokens l.first.now + term_tokens l.second.now) + 2

abbrev pub decreases-separated : goal.decreases-separated
decreases-separated l = 4 * parted (map term_tokens l.args.now) + 1

abbrev pub decreases-in_parentheses : goal.decreases-in_parentheses
decreases-in_parentheses l = 4 * parted (map term_tokens l.args.now) + 2

abbrev pub decreases-apply : goal.decreases-apply
decreases-apply l = 4 * parted (map term_tokens l.args.now) + 3

abbrev pub invariant-separated-loop-i : goal.invariant-separated-loop-i
invariant-separated-loop-i l = record {
  rest : each_faults (map Some l.sorts) (map (part (scope l.table)) l.args) l.initial.place
      ≡ each_faults (map Some (drop l.i l.sorts)) (map (part (scope l.table)) (drop l.i l.args)) l.place;
  done : l.resolved ≡ map (resolved_term (scope l.table)) (take l.i l.args);
  place : l.place + parted (map term_tokens (drop l.i l.args)) ≡ l.initial.place + parted (map term_tokens l.args);
  further : l.initial.place ≤ l.place;
}
