use Rattle.std.proofs.Common.{◌≡◌, ◌+◌, ◌*◌, map, drop}
use Rattle.asm_names.specs.{Places.{parted}, ResolvedPlaces.{resolved_term_tokens}}
use Rattle.state_space.specs.Locations.{range_of}
use Rattle.asm_ranges.specs.{Faults.{first_fault, either}, RangeFaults.{args_faults, faulty_term}, Contexts.{facts_of, scope_of, signatures_in}}
use Rattle.asm_ranges.proofs.plain.RangeChecker.+term.Given as goal

abbrev pub decreases-term : goal.decreases-term
decreases-term l = 4 * resolved_term_tokens l.term.now

abbrev pub decreases-pair : goal.decreases-pair
decreases-pair l = 4 * (resolved_term_tokens l.first.now + resolved_term_tokens l.second.now) + 1

abbrev pub decreases-args : goal.decreases-args
decreases-args l = 4 * parted (map resolved_term_tokens l.args.now) + 1

abbrev pub decreases-arguments : goal.decreases-arguments
decreases-arguments l = 4 * parted (map resolved_term_tokens l.args.now) + 2

abbrev pub invariant-args-loop-index : goal.invariant-args-loop-index
invariant-args-loop-index l = record {
  after : l.found.after + parted (map resolved_term_tokens (drop l.index l.args)) ≡ l.at + parted (map resolved_term_tokens l.args);
  first : first_fault (args_faults (map (range_of l.self.domains.now) l.domains) (map (faulty_term (signatures_in l.self.domains.now l.self.funs.now) (scope_of l.context)) l.args) (facts_of l.context) l.at)
      ≡ either l.found.fault (first_fault (args_faults (map (range_of l.self.domains.now) (drop l.index l.domains)) (map (faulty_term (signatures_in l.self.domains.now l.self.funs.now) (scope_of l.context)) (drop l.index l.args)) (facts_of l.context) l.found.after));
}
