-- Blocks in runs of a hart, counted in ticks.
use Rattle.std.proofs.Common.{◌≡◌, ℕ, ◌<◌, [], List, true, refl, subst, inl, inr, ◌⊎◌}
use Rattle.rv_machine.specs.Run.{after, left_after, offered}
use Rattle.rv_machine.specs.Tick.{Event, Quiet, Took, Sent, Trapped, tick}
use Rattle.block_code.specs.Block.{IsBlock}
use Rattle.block_code.specs.Ends.{EndsAt}
use Rattle.block_code.specs.Moment.{Moment, is_trap, moment_after, ticked, traps}
use Rattle.block_code.specs.Place.{Within}
use Rattle.block_code.specs.Plan.{Plan}
use Rattle.block_code.specs.Ticks.{LawOfTicks, LeavesIn}
use Rattle.block_code.proofs.After.{ends-at, moments-are-runs}
use Rattle.block_code.proofs.Structure.{law-of-entry}

trapped : (e : Event) → is_trap e ≡ true → e ≡ Trapped
trapped Trapped h = refl
trapped Quiet h = absurd (cc)
trapped (Took port) h = absurd (cc)
trapped (Sent port value) h = absurd (cc)

traps-event : (rom : List ℕ) (s : Moment) → traps rom s ≡ true → (ticked rom s).event ≡ Trapped
unfolding traps
traps-event rom s h = trapped (ticked rom s).event h

-- a run of moments that is left or traps, as a run of its hart
leaves-in : (rom : List ℕ) (low high n : ℕ) (s : Moment) → EndsAt rom (Within low high) (λ s'. s'.hart.pc ≡ high) (λ s'. Unit {0}) n s
    → LeavesIn rom s.readings s.hart low high n
leaves-in rom low high n s e = record {
  ticks = e.ticks;
  soon = e.soon;
  above = λ u h. (subst (λ x. Within low high x) (moments-are-runs rom u s) (e.inside u h)).from;
  below = λ u h. (subst (λ x. Within low high x) (moments-are-runs rom u s) (e.inside u h)).below;
  leaves = by_end e.ends;
}
  where
    End : Moment → Type 0
    End x = (x.hart.pc ≡ high) ⊎ ((e.ticks < n) × ((ticked rom x).event ≡ Trapped))

    by_end : ((moment_after rom e.ticks s).hart.pc ≡ high) ⊎ (Within low high (moment_after rom e.ticks s) × (e.ticks < n) × (traps rom (moment_after rom e.ticks s) ≡ true) × Unit {0})
        → ((after rom e.ticks s.readings s.hart).pc ≡ high)
        ⊎ ((e.ticks < n) × ((tick rom (offered (left_after rom e.ticks s.readings s.hart)) (after rom e.ticks s.readings s.hart)).event ≡ Trapped))
    by_end (inl g) = subst End (moments-are-runs rom e.ticks s) (inl g)
    by_end (inr c) = subst End (moments-are-runs rom e.ticks s) (inr (c.1, traps-event rom (moment_after rom e.ticks s) c.2))

pub law-of-ticks : (tree : Plan) → IsBlock tree → LawOfTicks tree
law-of-ticks tree b rom size address readings m machine stands valid from below =
    leaves-in rom address _ _ (record { hart = m; readings = readings; log = [] })
    (ends-at rom (law-of-entry tree b rom size address (record { hart = m; readings = readings; log = [] }) machine stands
    (record { hart = valid }) (record { from = from; below = below })))
