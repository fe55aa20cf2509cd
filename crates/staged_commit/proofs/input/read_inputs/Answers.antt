use Rattle.std.proofs.Common.{◌≤◌, ◌*◌, length, sym, ap, ◌∙◌, subst}
use Rattle.block_code.specs.Tree.{plan_of}
use Rattle.block_code.specs.Block.{IsInRange}
use Rattle.block_code.specs.Footprint.{LinesTouchOnly}
use Rattle.block_code.specs.Plan.{Line, Plan, full, len}
use Rattle.state_space.specs.Locations.{input_locations}
use Rattle.staged_commit.specs.Law.{ReadsInputs}
use Rattle.staged_commit.specs.Ports.{reading}
use Rattle.staged_commit.proofs.Emitted.{read-full_by, read-in_range, read-leads_by, read-len_by, read-touches_by}
use Rattle.staged_commit.proofs.input.read_inputs.Goals as goal

pub of-requires : goal.of-requires
of-requires c = subst (λ l. IsInRange (Line l)) (sym c.in_ok-line.ensures) (read-in_range c.args.map.now c.requires.coded c.requires.few)

pub returns-clause-plan : goal.returns-clause-plan
returns-clause-plan c = ap plan_of c.of.ensures ∙ ap Line c.in_ok-line.ensures

pub returns-clause-reads : goal.returns-clause-reads
returns-clause-reads c =
    subst (ReadsInputs c.args.map.now) (sym (returns-clause-plan c)) (read-leads_by c.args.map.now c.requires.coded c.requires.few)

pub returns-clause-touches : goal.returns-clause-touches
returns-clause-touches c =
    subst (LinesTouchOnly (reading c.args.map.now)) (sym (returns-clause-plan c)) (read-touches_by c.args.map.now c.requires.coded c.requires.few)

pub returns-clause-len : goal.returns-clause-len
returns-clause-len c =
    subst (λ (t : Plan). len t ≤ 16 * length (input_locations c.args.map.now.signatures)) (sym (returns-clause-plan c)) (read-len_by c.args.map.now)

pub returns-clause-full : goal.returns-clause-full
returns-clause-full c =
    subst (λ (t : Plan). full t ≤ 16 * length (input_locations c.args.map.now.signatures)) (sym (returns-clause-plan c)) (read-full_by c.args.map.now)
