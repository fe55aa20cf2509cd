use Rattle.std.proofs.Common.{◌∷◌, [], ◌++◌, ◌%◌, length, refl, sym, ap, ◌∙◌, ℤ, rules, arith, w64, to_z, of_z, get_or, List, ℕ, append_assoc}
use Rattle.state_space.specs.Locations.{tuples}
use Rattle.state_space.proofs.Widening.{digits}
use Rattle.std.specs.Result.{is_err}
use Rattle.fault_script.specs.Putting.{IsBegun}
use Rattle.fault_script.specs.StateText.{argument_texts, domain_of, parted, value_text}
use Rattle.fault_script.proofs.Passed.{passed}
use Rattle.fault_script.proofs.Places.{arguments-of}
use Rattle.fault_script.proofs.Putting.{begun, begun-then, put-last, put-next-refused, put-refused, put-whole}
use Rattle.fault_script.proofs.location_writing.+put_arguments.Goals as goal

pub count-each-requires : goal.count-each-requires
count-each-requires t c = (digits _ _ _ _ c.in-Some-split_first.ensures.cases.0 c.requires.few c.requires.domains c.requires.within).total

pub returns-in_err-put_bytes : goal.returns-in_err-put_bytes
returns-in_err-put_bytes t c =
    let d = digits _ _ _ _ c.in-Some-split_first.ensures.cases.0 c.requires.few c.requires.domains c.requires.within in
    let e = arguments-of c.args.domains.now c.args.opening c.in-Some.first.now c.args.numbers.now c.in-Some.others.now _ d c.in-Some.ensures.cases.0 refl in
    put-refused c.put_bytes-2.result c.from_residual.result _ (c.args.opening ∷ []) _ c.args.out.now c.put_bytes-2.new.out e c.from_residual.ensures.0 (ap is_err c.in_err-put_bytes.was)
    (put-whole c.put_bytes-2.result (c.args.opening ∷ []) c.args.out.now c.put_bytes-2.new.out c.put_bytes-2.ensures.ok c.put_bytes-2.ensures.err c.put_bytes-2.ensures.fits c.put_bytes-2.ensures.room)

pub nonzero_div-tuple : goal.nonzero_div-tuple
nonzero_div-tuple t c =
    omega (arith, (digits _ _ _ _ c.in-Some-split_first.ensures.cases.0 c.requires.few c.requires.domains c.requires.within).some, c.count-each.ensures)

pub overflow_cast-tuple : goal.overflow_cast-tuple
overflow_cast-tuple t c =
    let d = digits _ _ _ _ c.in-Some-split_first.ensures.cases.0 c.requires.few c.requires.domains c.requires.within in
    rw c.count-each.ensures (omega (arith, d.outer, d.narrow))

pub returns-in_err-put_value : goal.returns-in_err-put_value
returns-in_err-put_value t c =
    let d = digits _ _ _ _ c.in-Some-split_first.ensures.cases.0 c.requires.few c.requires.domains c.requires.within in
    let x : ℤ = to_z w64 (of_z w64 c.value.result) in
    let e = arguments-of c.args.domains.now c.args.opening c.in-Some.first.now c.args.numbers.now c.in-Some.others.now x d c.in-Some.ensures.cases.0 (passed c.value.result _ (search rules) (rw c.count-each.ensures at c.value.ensures)) in
    let b : IsBegun (c.args.opening ∷ []) c.args.out.now c.put_bytes-2.new.out = record { grown = c.in_ok-put_bytes.ensures.ok; room = c.in_ok-put_bytes.ensures.room } in
    put-next-refused c.put_value.result c.from_residual-in_err-put_value.result _ (c.args.opening ∷ []) (value_text (domain_of c.args.domains.now c.in-Some.first.now) x) _ c.args.out.now c.put_bytes-2.new.out c.put_value.new.out e c.from_residual-in_err-put_value.ensures.0 (ap is_err c.in_err-put_value.was)
    b c.put_value.ensures

pub nonzero_rem-tuple : goal.nonzero_rem-tuple
nonzero_rem-tuple t c =
    omega (arith, (digits _ _ _ _ c.in-Some-split_first.ensures.cases.0 c.requires.few c.requires.domains c.requires.within).some, c.count-each.ensures)

pub put_arguments-requires : goal.put_arguments-requires
put_arguments-requires t c =
    let d = digits _ _ _ _ c.in-Some-split_first.ensures.cases.0 c.requires.few c.requires.domains c.requires.within in
    let long = ap length c.in-Some.ensures.cases.0 in
    (omega (arith, long), (d.few, (d.domains, rw c.count-each.ensures d.inner)))

pub returns : goal.returns
returns t c =
    let d = digits _ _ _ _ c.in-Some-split_first.ensures.cases.0 c.requires.few c.requires.domains c.requires.within in
    let domains = c.args.domains.now in
    let x : ℤ = to_z w64 (of_z w64 c.value.result) in
    let first : List ℕ = c.args.opening ∷ [] in
    let next : List ℕ = value_text (domain_of domains c.in-Some.first.now) x in
    let last : List ℕ = parted 44 (argument_texts domains c.in-Some.others.now (get_or (tuples c.in-Some-split_first.rest.now) (c.args.tuple % c.count-each.result) [])) in
    let e = arguments-of domains c.args.opening c.in-Some.first.now c.args.numbers.now c.in-Some.others.now x d c.in-Some.ensures.cases.0 (passed c.value.result _ (search rules) (rw c.count-each.ensures at c.value.ensures))
    ∙ ap (λ n. first ++ (next ++ parted 44 (argument_texts domains c.in-Some.others.now (get_or (tuples c.in-Some-split_first.rest.now) (c.args.tuple % n) [])))) (sym c.count-each.ensures) ∙ sym (append_assoc first next last) in
    let b : IsBegun first c.args.out.now c.put_bytes-2.new.out = record { grown = c.in_ok-put_bytes.ensures.ok; room = c.in_ok-put_bytes.ensures.room } in
    put-last c.put_arguments.result _ (first ++ next) last c.args.out.now c.put_value.new.out c.put_arguments.new.out e
    (begun-then first next c.args.out.now c.put_bytes-2.new.out c.put_value.new.out b (begun _ next c.put_bytes-2.new.out c.put_value.new.out c.in_ok-put_value.ensures))
    c.put_arguments.ensures
