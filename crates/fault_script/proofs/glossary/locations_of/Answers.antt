use Rattle.std.proofs.Common.{◌≡◌, ◌+◌, ◌-◌, ◌<◌, ℕ, length, map, arith}
use Rattle.state_space.specs.Locations.{signatures_of, state_locations}
use Rattle.fault_script.specs.StateText.{location_name}
use Rattle.fault_script.proofs.Tables.{is-named, one-listed, written}
use Rattle.fault_script.proofs.glossary.locations_of.Goals as goal

pub listing-preserved : goal.listing-preserved
listing-preserved c =
    let program = c.args.resolved.now in
    let space = c.args.space.now in
    let l = c.listing in
    let i : ℕ = l.left - 1 in
    let next : l.left ≡ i + 1 = omega (arith, c.listing-test.true) in
    let below : i < length (state_locations space) = omega (arith, l.invariant.0, c.listing-test.true) in
    let is = written program space i c.requires below c.new-name.result.items c.put_location.new.out.items c.new-name.ensures.items c.in_ok-put_location.ensures.ok in (
      omega (arith, l.invariant.0),
      one-listed l.table c.put.new.self (map (location_name program) (state_locations (signatures_of program))) l.left i c.put_location.new.out.items next
          (is-named program space i c.requires below) is c.in_ok-put.ensures l.invariant.1,
    )
