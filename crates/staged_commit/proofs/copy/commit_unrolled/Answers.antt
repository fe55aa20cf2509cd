use Rattle.std.proofs.Common.{◌≤◌, sym, ap, ◌∙◌, subst}
use Rattle.block_code.specs.Tree.{plan_of}
use Rattle.block_code.specs.Block.{IsInRange}
use Rattle.block_code.specs.Footprint.{LinesTouchOnly, only_in}
use Rattle.block_code.specs.Plan.{Plan, full, len}
use Rattle.staged_commit.specs.Law.{Commits, GoesThrough}
use Rattle.staged_commit.specs.Regions.{in_commit}
use Rattle.staged_commit.specs.Weight.{unrolled_half}
use Rattle.staged_commit.proofs.Emitted.{commit-in_range}
use Rattle.staged_commit.proofs.Pieces.{commit-leads, commit-through, commit-touches}
use Rattle.staged_commit.proofs.Weights.{commit-full, commit-len}
use Rattle.staged_commit.proofs.copy.commit_unrolled.Goals as goal

pub of-requires : goal.of-requires
of-requires c = subst IsInRange (sym c.in_ok-tree.ensures) (commit-in_range c.args.map.now c.requires.coded c.requires.weight)

pub returns-clause-plan : goal.returns-clause-plan
returns-clause-plan c = ap plan_of c.of.ensures ∙ c.in_ok-tree.ensures

pub returns-clause-commits : goal.returns-clause-commits
returns-clause-commits c = subst (Commits c.args.map.now) (sym (returns-clause-plan c)) (commit-leads c.args.map.now c.requires.coded)

pub returns-clause-through : goal.returns-clause-through
returns-clause-through c = subst (GoesThrough c.args.map.now) (sym (returns-clause-plan c)) (commit-through c.args.map.now c.requires.coded)

pub returns-clause-touches : goal.returns-clause-touches
returns-clause-touches c =
    subst (LinesTouchOnly (only_in (in_commit c.args.map.now))) (sym (returns-clause-plan c)) (commit-touches c.args.map.now c.requires.coded)

pub returns-clause-len : goal.returns-clause-len
returns-clause-len c = subst (λ (t : Plan). len t ≤ unrolled_half c.args.map.now.signatures) (sym (returns-clause-plan c)) (commit-len c.args.map.now)

pub returns-clause-full : goal.returns-clause-full
returns-clause-full c = subst (λ (t : Plan). full t ≤ unrolled_half c.args.map.now.signatures) (sym (returns-clause-plan c)) (commit-full c.args.map.now)
