use Rattle.std.proofs.Common.{◌∷◌, [], ◌+◌, ◌++◌, drop, refl, sym, ap, ◌∙◌, ℤ, rules, w64, to_z, of_z, List, ℕ, append_assoc}
use Rattle.state_space.specs.Locations.{location_at}
use Rattle.std.specs.Result.{is_err}
use Rattle.fault_script.specs.Putting.{IsBegun}
use Rattle.fault_script.specs.StateText.{argument_texts, domain_of, parted, value_text}
use Rattle.fault_script.proofs.Passed.{passed}
use Rattle.fault_script.proofs.Places.{arguments-at, no-argument-at}
use Rattle.fault_script.proofs.Putting.{begun, begun-then, put-last, put-next-refused, put-refused, put-whole}
use Rattle.fault_script.proofs.location_writing.+put_arguments_at.Goals as goal

pub returns-in_default-argument_at : goal.returns-in_default-argument_at
returns-in_default-argument_at t c =
    let put = c.put_bytes-in_default-argument_at in
    let e = no-argument-at c.args.domains.now c.args.opening c.args.numbers.now (location_at c.args.space.now c.args.place).args c.args.index (sym c.in_default-argument_at.is ∙ c.argument_at.ensures) in
    rw e (put-whole put.result [] c.args.out.now put.new.out put.ensures.ok put.ensures.err put.ensures.fits put.ensures.room)

pub returns-in_err-put_bytes : goal.returns-in_err-put_bytes
returns-in_err-put_bytes t c =
    let args = (location_at c.args.space.now c.args.place).args in
    let v : ℤ = c.in-Some-argument_at.value in
    let e = arguments-at c.args.domains.now c.args.opening c.in-Some.first.now c.args.numbers.now c.in-Some.others.now args c.args.index v v c.in-Some.ensures.cases.0 (sym c.in-Some-argument_at.is ∙ c.argument_at.ensures) refl in
    put-refused c.put_bytes-2.result c.from_residual.result _ (c.args.opening ∷ []) _ c.args.out.now c.put_bytes-2.new.out e c.from_residual.ensures.0 (ap is_err c.in_err-put_bytes.was)
    (put-whole c.put_bytes-2.result (c.args.opening ∷ []) c.args.out.now c.put_bytes-2.new.out c.put_bytes-2.ensures.ok c.put_bytes-2.ensures.err c.put_bytes-2.ensures.fits c.put_bytes-2.ensures.room)

pub returns-in_err-put_value : goal.returns-in_err-put_value
returns-in_err-put_value t c =
    let args = (location_at c.args.space.now c.args.place).args in
    let v : ℤ = c.in-Some-argument_at.value in
    let x : ℤ = to_z w64 (of_z w64 v) in
    let e = arguments-at c.args.domains.now c.args.opening c.in-Some.first.now c.args.numbers.now c.in-Some.others.now args c.args.index v x c.in-Some.ensures.cases.0 (sym c.in-Some-argument_at.is ∙ c.argument_at.ensures) (passed v v (search rules) refl) in
    let b : IsBegun (c.args.opening ∷ []) c.args.out.now c.put_bytes-2.new.out = record { grown = c.in_ok-put_bytes.ensures.ok; room = c.in_ok-put_bytes.ensures.room } in
    put-next-refused c.put_value.result c.from_residual-in_err-put_value.result _ (c.args.opening ∷ []) (value_text (domain_of c.args.domains.now c.in-Some.first.now) x) _ c.args.out.now c.put_bytes-2.new.out c.put_value.new.out e
    c.from_residual-in_err-put_value.ensures.0 (ap is_err c.in_err-put_value.was) b c.put_value.ensures

pub returns : goal.returns
returns t c =
    let args = (location_at c.args.space.now c.args.place).args in
    let domains = c.args.domains.now in
    let v : ℤ = c.in-Some-argument_at.value in
    let x : ℤ = to_z w64 (of_z w64 v) in
    let first : List ℕ = c.args.opening ∷ [] in
    let next : List ℕ = value_text (domain_of domains c.in-Some.first.now) x in
    let last : List ℕ = parted 44 (argument_texts domains c.in-Some.others.now (drop (c.args.index + 1) args)) in
    let e = arguments-at domains c.args.opening c.in-Some.first.now c.args.numbers.now c.in-Some.others.now args c.args.index v x c.in-Some.ensures.cases.0 (sym c.in-Some-argument_at.is ∙ c.argument_at.ensures) (passed v v (search rules) refl)
    ∙ sym (append_assoc first next last) in
    let b : IsBegun first c.args.out.now c.put_bytes-2.new.out = record { grown = c.in_ok-put_bytes.ensures.ok; room = c.in_ok-put_bytes.ensures.room } in
    put-last c.put_arguments_at.result _ (first ++ next) last c.args.out.now c.put_value.new.out c.put_arguments_at.new.out e
    (begun-then first next c.args.out.now c.put_bytes-2.new.out c.put_value.new.out b (begun _ next c.put_bytes-2.new.out c.put_value.new.out c.in_ok-put_value.ensures))
    c.put_arguments_at.ensures
