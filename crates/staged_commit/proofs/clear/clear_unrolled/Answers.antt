use Rattle.std.proofs.Common.{◌≤◌, sym, ap, ◌∙◌, subst}
use Rattle.block_code.specs.Tree.{plan_of}
use Rattle.block_code.specs.Block.{IsInRange}
use Rattle.block_code.specs.Footprint.{LinesTouchOnly, only_in}
use Rattle.block_code.specs.Plan.{Line, Plan, full, len}
use Rattle.staged_commit.specs.Law.{Clears}
use Rattle.staged_commit.specs.Regions.{in_clear}
use Rattle.staged_commit.specs.Weight.{unrolled_half}
use Rattle.staged_commit.proofs.Emitted.{clear-in_range}
use Rattle.staged_commit.proofs.Pieces.{clear-leads, clear-touches}
use Rattle.staged_commit.proofs.Weights.{clear-full, clear-len}
use Rattle.staged_commit.proofs.clear.clear_unrolled.Goals as goal

pub of-requires : goal.of-requires
of-requires c = subst (λ l. IsInRange (Line l)) (sym c.in_ok-line.ensures) (clear-in_range c.args.map.now c.requires.coded c.requires.weight)

pub returns-clause-plan : goal.returns-clause-plan
returns-clause-plan c = ap plan_of c.of.ensures ∙ ap Line c.in_ok-line.ensures

pub returns-clause-clears : goal.returns-clause-clears
returns-clause-clears c =
    subst (Clears c.args.map.now) (sym (returns-clause-plan c)) (clear-leads c.args.map.now c.requires.coded)

pub returns-clause-touches : goal.returns-clause-touches
returns-clause-touches c =
    subst (LinesTouchOnly (only_in (in_clear c.args.map.now))) (sym (returns-clause-plan c)) (clear-touches c.args.map.now c.requires.coded)

pub returns-clause-len : goal.returns-clause-len
returns-clause-len c =
    subst (λ (t : Plan). len t ≤ unrolled_half c.args.map.now.signatures) (sym (returns-clause-plan c)) (clear-len c.args.map.now)

pub returns-clause-full : goal.returns-clause-full
returns-clause-full c =
    subst (λ (t : Plan). full t ≤ unrolled_half c.args.map.now.signatures) (sym (returns-clause-plan c)) (clear-full c.args.map.now)
