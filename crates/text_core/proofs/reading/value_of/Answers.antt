use Rattle.std.proofs.Common.{refl, sym, ap, ◌∙◌, arith, add-one, drop-cons}
use Rattle.text_core.specs.Numbers.{value_from}
use Rattle.text_core.proofs.Decimal.{Decimal-from, value_of-front, value_of-take, digit_at}
use Rattle.text_core.proofs.reading.value_of.Goals as goal

pub overflow_mul-value : goal.overflow_mul-value
overflow_mul-value c =
    let d = Decimal-from c.args.text.now c.requires in
    let front = value_of-front c.args.text.now c.loop-byte.byte-index d c.loop-byte-test.true in
    omega (arith, front, c.loop-byte.invariant.front)

pub overflow_sub-byte : goal.overflow_sub-byte
overflow_sub-byte c =
    let d = Decimal-from c.args.text.now c.requires in
    digit_at c.loop-byte.byte-index c.args.text.now d.digits c.loop-byte-test.true

pub overflow_add-value : goal.overflow_add-value
overflow_add-value c =
    let d = Decimal-from c.args.text.now c.requires in
    let front = value_of-front c.args.text.now c.loop-byte.byte-index d c.loop-byte-test.true in
    omega (arith, front, c.loop-byte.invariant.front)

pub loop-byte-preserved : goal.loop-byte-preserved
loop-byte-preserved c =
    let text = c.args.text.now in
    let i = c.loop-byte.byte-index in
    let next = ap (value_from c.loop-byte.value) (drop-cons text i 0 c.loop-byte-test.true) in
    record {
      rest = rw (c.from.ensures, add-one) (sym next ∙ c.loop-byte.invariant.rest);
      front = rw (c.from.ensures, add-one, value_of-take i text c.loop-byte-test.true, c.loop-byte.invariant.front) refl;
    }
