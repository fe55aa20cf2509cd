use Rattle.std.proofs.Common.{◌≡◌, ◌++◌, ◌∷◌, List, ℕ, ℤ, sym, ap, ◌∙◌, append_assoc, [], rules, w64, to_z, of_z, refl}
use Rattle.asm_names.specs.declared.program.Fun.{Fun}
use Rattle.asm_ranges.specs.Values.{fun_of}
use Rattle.state_space.specs.Locations.{location_at}
use Rattle.fault_script.specs.Putting.{IsBegun}
use Rattle.fault_script.specs.StateText.{domain_of, entry_text, location_name, value_text}
use Rattle.fault_script.proofs.Passed.{passed}
use Rattle.fault_script.proofs.Putting.{begun, begun-then, put-last}
use Rattle.fault_script.proofs.state_writing.put_entry.Goals as goal

regroup : (l v : List ℕ) → 32 ∷ (l ++ 61 ∷ v) ≡ (((32 ∷ []) ++ l) ++ (61 ∷ [])) ++ v
regroup l v = ap (λ t. 32 ∷ t) (sym (append_assoc l (61 ∷ []) v))

pub returns : goal.returns
returns c =
    let program = c.args.resolved.now in
    let place = location_at c.args.space.now c.args.place in
    let fun = c.function_at-function.result.now in
    let domains = c.as_slice.result.now in
    let l : List ℕ = location_name program place in
    let x : ℤ = to_z w64 (of_z w64 c.args.value) in
    let v : List ℕ = value_text (domain_of domains fun.codomain) x in
    let e : 32 ∷ entry_text program.domains (fun_of program place.fun) place.args c.args.value ≡ (((32 ∷ []) ++ l) ++ (61 ∷ [])) ++ v =
    ap (λ y. 32 ∷ entry_text program.domains (fun_of program place.fun) place.args y) (sym (passed c.args.value c.args.value (search rules) refl))
    ∙ ap (λ ds. 32 ∷ (l ++ 61 ∷ value_text (domain_of ds (fun_of program place.fun).codomain) x)) (sym c.as_slice.ensures)
    ∙ ap (λ (f : Fun). 32 ∷ (l ++ 61 ∷ value_text (domain_of domains f.codomain) x)) (sym c.function_at-function.ensures.function) ∙ regroup l v in
    let b : IsBegun (32 ∷ []) c.args.out.now c.put_bytes.new.out = record { grown = c.in_ok-put_bytes.ensures.ok; room = c.in_ok-put_bytes.ensures.room } in
    let d : IsBegun (61 ∷ []) c.put_place.new.out c.put_bytes-2.new.out = record { grown = c.in_ok-put_bytes-2.ensures.ok; room = c.in_ok-put_bytes-2.ensures.room } in
    let m : IsBegun l c.put_bytes.new.out c.put_place.new.out = begun _ l c.put_bytes.new.out c.put_place.new.out c.in_ok-put_place.ensures in
    put-last c.put_value.result _ (((32 ∷ []) ++ l) ++ (61 ∷ [])) v c.args.out.now c.put_bytes-2.new.out c.put_value.new.out e
    (begun-then ((32 ∷ []) ++ l) (61 ∷ []) c.args.out.now c.put_place.new.out c.put_bytes-2.new.out (begun-then (32 ∷ []) l c.args.out.now c.put_bytes.new.out c.put_place.new.out b m) d) c.put_value.ensures
