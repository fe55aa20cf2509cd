use Rattle.std.proofs.Common.{◌≡◌, ◌*◌, ◌≤◌, List, ℕ, map, length, ap, ◌∙◌, arith}
use Rattle.std.proofs.lemmas.List.{length-map}
use Rattle.state_space.specs.declared.signature.Range.{Range}
use Rattle.state_space.specs.Locations.{range_of, tuples}
use Rattle.state_space.proofs.Numbers.{count-parted}
use Rattle.bound_count.proofs.Counting.{tuples-within}
use Rattle.bound_count.proofs.counts.+tuple_count.Goals as goal

pub overflow_mul-result : goal.overflow_mul-result
overflow_mul-result t c =
    let ranges : List ℕ → List Range = map (range_of c.args.domains.now) in
    let e = count-parted (ranges c.args.numbers.now) (range_of c.args.domains.now c.in-Some.number.now) (ranges c.in-Some.rest.now) (ap ranges c.in-Some.ensures.cases.0) in
    let first = c.from.ensures ∙ ap (λ (r : Range). r.size) c.range_of.ensures in
    let few : length (ranges c.args.numbers.now) ≤ 3 = omega (arith, c.requires.few, length-map c.args.numbers.now (range_of c.args.domains.now)) in
    let p : c.from.result * c.tuple_count.result ≡ length (tuples (ranges c.args.numbers.now)) = cc in
    omega (arith, p, tuples-within (ranges c.args.numbers.now) few c.requires.domains)

pub returns : goal.returns
returns t c =
    let ranges : List ℕ → List Range = map (range_of c.args.domains.now) in
    let e = count-parted (ranges c.args.numbers.now) (range_of c.args.domains.now c.in-Some.number.now) (ranges c.in-Some.rest.now) (ap ranges c.in-Some.ensures.cases.0) in
    let first = c.from.ensures ∙ ap (λ (r : Range). r.size) c.range_of.ensures in
    cc
