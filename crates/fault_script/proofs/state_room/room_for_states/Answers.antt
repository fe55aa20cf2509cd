use Rattle.std.proofs.Common.{◌≡◌, ◌++◌, ◌*◌, length, ap, ◌∙◌, arith}
use Rattle.state_space.specs.Locations.{signatures_of, state_locations}
use Rattle.fault_script.specs.StateText.{state_text}
use Rattle.fault_script.specs.Widths.{widest}
use Rattle.fault_script.proofs.Widths.{states-room}
use Rattle.fault_script.proofs.state_room.room_for_states.Goals as goal

pub returns-clause-room : goal.returns-clause-room
returns-clause-room c = λ other fits.
    let program = c.args.resolved.now in
    let room = states-room program c.resolved_functions_are_sized.ensures c.args.state.now other c.requires.fits fits in
    let wide = c.widest_value.ensures.widest ∙ ap (widest 8) c.as_slice.ensures in
    let count = c.count.ensures ∙ ap (λ space. length (state_locations space)) c.requires.spaces in
    let product = ap (λ n. n * c.widest_value.result) count ∙ ap (λ w. length (state_locations (signatures_of program)) * w) wide in
    let written : length c.state_line.new.out.items ≡ length (state_text program c.args.state.now) =
    ap length (c.in_ok-state_line.ensures.ok ∙ ap (λ items. items ++ state_text program c.args.state.now) c.new-line.ensures.items) in
    let reserved = c.in_ok-reserve.ensures.ok in
    let long = c.in_ok-reserve.ensures.len in
    let kept = c.clear.ensures.capacity in
    let same = c.state_line.new.out.ok in
    omega arith
