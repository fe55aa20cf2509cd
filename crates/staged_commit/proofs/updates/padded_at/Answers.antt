use Rattle.std.proofs.Common.{sym, ap, ◌∙◌, subst}
use Rattle.std.specs.Prelude.{slice_get}
use Rattle.state_space.specs.Arrays.{array_of}
use Rattle.mask_guard.specs.MaskLaw.{IsMaskable}
use Rattle.staged_commit.proofs.Update.{array-padded, padded-maskable}
use Rattle.staged_commit.proofs.updates.padded_at.Goals as goal

pub returns-clause-size : goal.returns-clause-size
returns-clause-size c =
    let state = c.requires.state in
    array-padded c.args.map.now c.requires.coded c.args.fun state c.array.result
    (c.array.ensures state.signature (ap (λ l. slice_get l c.args.fun) c.space.ensures ∙ state.here) ∙ ap (λ l. array_of l c.args.fun state.signature) c.space.ensures)

pub returns-clause-maskable : goal.returns-clause-maskable
returns-clause-maskable c = subst IsMaskable (sym (returns-clause-size c)) (padded-maskable c.args.map.now c.requires.coded c.args.fun c.requires.state)
