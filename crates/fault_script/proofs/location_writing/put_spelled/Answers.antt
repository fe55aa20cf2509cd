use Rattle.std.proofs.Common.{◌++◌, List, ℕ, get_or, []}
use Rattle.state_space.specs.Locations.{tuples}
use Rattle.fault_script.specs.Putting.{IsBegun}
use Rattle.fault_script.specs.StateText.{argument_texts, closing, parted}
use Rattle.fault_script.proofs.Places.{location-parts}
use Rattle.fault_script.proofs.Putting.{begun, begun-then, put-last}
use Rattle.fault_script.proofs.location_writing.put_spelled.Goals as goal

pub returns : goal.returns
returns c =
    let domains = c.args.domains.now in
    let fun = c.args.function.now in
    let args = get_or (tuples c.args.ranges.now) c.args.tuple [] in
    let name : List ℕ = c.bytes.result.now in
    let mid : List ℕ = parted 40 (argument_texts domains c.as_slice.result.now args) in
    let e = location-parts domains fun c.as_slice.result.now name args c.bytes.ensures.text c.as_slice.ensures in
    let b : IsBegun name c.args.out.now c.put_bytes.new.out = record { grown = c.in_ok-put_bytes.ensures.ok; room = c.in_ok-put_bytes.ensures.room } in
    put-last c.put_closing.result _ (name ++ mid) (closing fun.args) c.args.out.now c.put_arguments.new.out c.put_closing.new.out e
    (begun-then name mid c.args.out.now c.put_bytes.new.out c.put_arguments.new.out b (begun _ mid c.put_bytes.new.out c.put_arguments.new.out c.in_ok-put_arguments.ensures)) c.put_closing.ensures
