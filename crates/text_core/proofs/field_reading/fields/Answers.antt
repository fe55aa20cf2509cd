use Rattle.std.proofs.Common.{◌≡◌, ℕ, ◌+◌, ◌∷◌, [], ◌++◌, arith, rules}
use Rattle.std.proofs.lemmas.Grind.{common_steps}
use Rattle.text_core.proofs.InOrder.{order_push, last_end_push}
use Rattle.text_core.proofs.field_reading.fields.Goals as goal

pub loop-start-preserved : goal.loop-start-preserved
loop-start-preserved c =
    let at = c.loop-start.at in
    let places = c.loop-start.places.items in
    let next : ℕ × ℕ = (at + c.in-Some.start, at + c.in-Some.end) in
    let pushed : c.push.new.self.items ≡ places ++ next ∷ [] = search rules in
    record {
      inside = search rules;
      fields = grind (arith, common_steps);
      within = search rules;
      order = rw pushed (order_push 0 places next c.loop-start.invariant.order (omega (arith, c.loop-start.invariant.last)));
      last = rw pushed (last_end_push 0 places next);
    }
