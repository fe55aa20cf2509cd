use Rattle.std.proofs.Common.{◌≡◌, ℕ, ◌+◌, ◌<◌, ◌++◌, [], List, length, get_or, ap, sym, ◌∙◌, arith}
use Rattle.state_space.specs.Locations.{Location, tuples}
use Rattle.text_core.specs.WrittenLines.{ended}
use Rattle.text_core.proofs.Begun.{begun_more}
use Rattle.image_text.specs.Report.{located_line, location_name, side_line}
use Rattle.image_text.proofs.Inside.{listed, named}
use Rattle.image_text.proofs.Listing.{tuple-more}
use Rattle.image_text.proofs.locations.put_function.Goals as goal

pub count-tuple-end-requires : goal.count-tuple-end-requires
count-tuple-end-requires c = rw c.as_slice-ranges.ensures (listed c.args.side c.args.map.now c.args.fun c.args.signature.now c.is_placed.ensures c.requires.here c.requires.held).many

pub put_function_location-requires-clause-few : goal.put_function_location-requires-clause-few
put_function_location-requires-clause-few c = rw c.as_slice-ranges.ensures (listed c.args.side c.args.map.now c.args.fun c.args.signature.now c.is_placed.ensures c.requires.here c.requires.held).few

pub put_function_location-requires-clause-domains : goal.put_function_location-requires-clause-domains
put_function_location-requires-clause-domains c = rw c.as_slice-ranges.ensures (listed c.args.side c.args.map.now c.args.fun c.args.signature.now c.is_placed.ensures c.requires.here c.requires.held).domains

pub put_located-requires-clause-exists : goal.put_located-requires-clause-exists
put_located-requires-clause-exists c = (listed c.args.side c.args.map.now c.args.fun c.args.signature.now c.is_placed.ensures c.requires.here c.requires.held).below

pub put_located-requires-clause-within : goal.put_located-requires-clause-within
put_located-requires-clause-within c =
    let inside : c.loop-tuple.tuple < length (tuples c.args.signature.now.args) = rw (sym c.as_slice-ranges.ensures) (omega (arith, c.loop-tuple-test.true, c.count-tuple-end.ensures)) in
    omega (arith, (listed c.args.side c.args.map.now c.args.fun c.args.signature.now c.is_placed.ensures c.requires.here c.requires.held).within, inside, c.loop-tuple.invariant.1, c.requires.first)

pub put_located-requires-clause-function : goal.put_located-requires-clause-function
put_located-requires-clause-function c =
    let inside : c.loop-tuple.tuple < length (tuples c.args.signature.now.args) = rw (sym c.as_slice-ranges.ensures) (omega (arith, c.loop-tuple-test.true, c.count-tuple-end.ensures)) in
    sym (ap (λ (l : Location). l.fun) ((listed c.args.side c.args.map.now c.args.fun c.args.signature.now c.is_placed.ensures c.requires.here c.requires.held).each c.loop-tuple.number c.loop-tuple.tuple (c.loop-tuple.invariant.1 ∙ ap (λ n. n + c.loop-tuple.tuple) c.requires.first) inside))

pub overflow_add-number : goal.overflow_add-number
overflow_add-number c =
    let known = listed c.args.side c.args.map.now c.args.fun c.args.signature.now c.is_placed.ensures c.requires.here c.requires.held in
    let inside : c.loop-tuple.tuple < length (tuples c.args.signature.now.args) = rw (sym c.as_slice-ranges.ensures) (omega (arith, c.loop-tuple-test.true, c.count-tuple-end.ensures)) in
    omega (arith, known.within, known.small, inside, c.loop-tuple.invariant.1, c.requires.first)

pub loop-tuple-preserved : goal.loop-tuple-preserved
loop-tuple-preserved c =
    let known = listed c.args.side c.args.map.now c.args.fun c.args.signature.now c.is_placed.ensures c.requires.here c.requires.held in
    let side = c.args.side in
    let program = c.args.program.now in
    let map = c.args.map.now in
    let ts = tuples c.args.signature.now.args in
    let tuple : ℕ = c.loop-tuple.tuple in
    let number : ℕ = c.loop-tuple.number in
    let inside : tuple < length ts = rw (sym c.as_slice-ranges.ensures) (omega (arith, c.loop-tuple-test.true, c.count-tuple-end.ensures)) in
    let location : Location = record { fun = c.args.fun; args = get_or ts tuple [] } in
    let here = known.each number tuple (c.loop-tuple.invariant.1 ∙ ap (λ n. n + tuple) c.requires.first) inside in
    let name : c.deref.result.now ≡ location_name program location =
    c.deref.ensures.value ∙ c.in_ok-put_function_location.ensures.ok ∙ rw (c.clear.ensures.items, c.as_slice-ranges.ensures)
    (named program map c.args.fun c.index-as_slice-fun.result c.as_slice-in-loop-tuple.result.now c.as_slice.result.now (get_or ts tuple []) c.requires.same known.below c.as_slice-in-loop-tuple.ensures c.as_slice.ensures c.index-as_slice-fun.is) in
    let wrote : c.put_located.new.out.items ≡ c.loop-tuple.out.items ++ ended (side_line side program map number location) =
    c.in_ok-put_located.ensures.ok ∙ ap (λ (l : Location). c.loop-tuple.out.items ++ ended (located_line side map number l c.deref.result.now)) here
    ∙ ap (λ (n : List ℕ). c.loop-tuple.out.items ++ ended (located_line side map number location n)) name in (
      tuple-more (side_line side program map) c.loop-tuple.out.items c.put_located.new.out.items _ c.args.fun number tuple ts inside wrote c.loop-tuple.invariant.0,
      omega (arith, c.loop-tuple.invariant.1),
      rw c.in_ok-put_located.ensures.ok (begun_more _ _ _ c.loop-tuple.invariant.2),
    )
