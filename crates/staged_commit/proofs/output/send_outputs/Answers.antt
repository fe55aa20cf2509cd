use Rattle.std.proofs.Common.{◌≤◌, ◌*◌, length, sym, ap, ◌∙◌, subst}
use Rattle.block_code.specs.Tree.{plan_of}
use Rattle.block_code.specs.Block.{IsInRange}
use Rattle.block_code.specs.Footprint.{LinesTouchOnly}
use Rattle.block_code.specs.Plan.{Line, Plan, full, len}
use Rattle.state_space.specs.Locations.{output_locations}
use Rattle.staged_commit.specs.Law.{SendsOutputs}
use Rattle.staged_commit.specs.Ports.{sending}
use Rattle.staged_commit.proofs.Emitted.{send-full_by, send-in_range, send-leads_by, send-len_by, send-touches_by}
use Rattle.staged_commit.proofs.output.send_outputs.Goals as goal

pub of-requires : goal.of-requires
of-requires c = subst (λ l. IsInRange (Line l)) (sym c.in_ok-line.ensures) (send-in_range c.args.map.now c.requires.coded c.requires.few)

pub returns-clause-plan : goal.returns-clause-plan
returns-clause-plan c = ap plan_of c.of.ensures ∙ ap Line c.in_ok-line.ensures

pub returns-clause-sends : goal.returns-clause-sends
returns-clause-sends c =
    subst (SendsOutputs c.args.map.now) (sym (returns-clause-plan c)) (send-leads_by c.args.map.now c.requires.coded c.requires.few)

pub returns-clause-touches : goal.returns-clause-touches
returns-clause-touches c =
    subst (LinesTouchOnly sending) (sym (returns-clause-plan c)) (send-touches_by c.args.map.now c.requires.coded c.requires.few)

pub returns-clause-len : goal.returns-clause-len
returns-clause-len c =
    subst (λ (t : Plan). len t ≤ 20 * length (output_locations c.args.map.now.signatures)) (sym (returns-clause-plan c)) (send-len_by c.args.map.now)

pub returns-clause-full : goal.returns-clause-full
returns-clause-full c =
    subst (λ (t : Plan). full t ≤ 20 * length (output_locations c.args.map.now.signatures)) (sym (returns-clause-plan c)) (send-full_by c.args.map.now)
