use Rattle.std.proofs.Common.{◌≡◌, ◌++◌, List, ℕ, sym, ap, ◌∙◌}
use Rattle.asm_names.specs.declared.program.Fun.{Fun}
use Rattle.asm_ranges.specs.Values.{fun_of}
use Rattle.state_space.specs.Locations.{location_at}
use Rattle.fault_script.specs.Putting.{IsBegun}
use Rattle.fault_script.specs.StateText.{argument_texts, closing, location_name, location_text, parted}
use Rattle.fault_script.proofs.Places.{location-parts}
use Rattle.fault_script.proofs.Putting.{begun, begun-then, put-last}
use Rattle.fault_script.proofs.location_writing.put_place.Goals as goal

pub returns : goal.returns
returns c =
    let program = c.args.resolved.now in
    let place = location_at c.args.space.now c.args.place in
    let fun = c.function_at-function.result.now in
    let domains = c.as_slice-domains.result.now in
    let name : List ℕ = c.bytes.result.now in
    let mid : List ℕ = parted 40 (argument_texts domains c.as_slice.result.now place.args) in
    let e : location_name program place ≡ (name ++ mid) ++ closing fun.args =
    ap (λ ds. location_text ds (fun_of program place.fun) place.args) (sym c.as_slice-domains.ensures)
    ∙ ap (λ (f : Fun). location_text domains f place.args) (sym c.function_at-function.ensures.function)
    ∙ location-parts domains fun c.as_slice.result.now name place.args c.bytes.ensures.text c.as_slice.ensures in
    let b : IsBegun name c.args.out.now c.put_bytes.new.out = record { grown = c.in_ok-put_bytes.ensures.ok; room = c.in_ok-put_bytes.ensures.room } in
    put-last c.put_closing.result _ (name ++ mid) (closing fun.args) c.args.out.now c.put_arguments_at.new.out c.put_closing.new.out e
    (begun-then name mid c.args.out.now c.put_bytes.new.out c.put_arguments_at.new.out b (begun _ mid c.put_bytes.new.out c.put_arguments_at.new.out c.in_ok-put_arguments_at.ensures)) c.put_closing.ensures
