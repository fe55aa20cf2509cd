use Rattle.std.proofs.Common.{◌+◌, ◌++◌, [], ◌∷◌, refl, sym, ◌∙◌, append_assoc}
use Rattle.block_code.specs.Tree.{plan_of}
use Rattle.block_code.specs.Plan as plan
use Rattle.block_code.proofs.Growth.{emitted-last, grown-then, refused-next}
use Rattle.block_code.proofs.emission.+emit_behind.Goals as goal

pub returns-in-Line : goal.returns-in-Line
returns-in-Line t c =
    emitted-last c.append-in-Line.result (c.args.before.now ++ plan.code (plan_of c.args.tree.now)) c.args.before.now c.list.result.now c.args.out.now c.append.new.out c.append-in-Line.new.out
    (rw (c.in-Line.is, c.list.ensures) refl) c.in_ok-append.ensures.0 c.append-in-Line.ensures

pub returns-in_err-emit_behind-in-If : goal.returns-in_err-emit_behind-in-If
returns-in_err-emit_behind-in-If t c =
    refused-next c.from_residual-in_err-emit_behind-in-If.result (c.args.before.now ++ plan.code (plan_of c.args.tree.now)) c.args.before.now
    (c.choice.result ++ plan.code (plan_of c.deref-in-If-2.result.now)) (plan.forward (plan.len (plan_of c.in-If.else_part.value) + 1) ∷ plan.code (plan_of c.in-If.else_part.value))
    c.args.out.now c.append.new.out c.emit_behind-in-If.new.out
    (rw (c.in-If.is, c.choice.ensures, c.tree_len.ensures, c.deref-in-If.ensures, c.deref-in-If-2.ensures) refl)
    c.from_residual-in_err-emit_behind-in-If.ensures.0 c.in_ok-append.ensures.0 c.in_err-emit_behind-in-If.ensures.1

pub returns-in_err-emit_behind-in-Seq : goal.returns-in_err-emit_behind-in-Seq
returns-in_err-emit_behind-in-Seq t c =
    refused-next c.from_residual-in_err-emit_behind-in-Seq.result (c.args.before.now ++ plan.code (plan_of c.args.tree.now)) c.args.before.now
    (plan.code (plan_of c.deref.result.now)) (plan.code (plan_of c.in-Seq.second.value))
    c.args.out.now c.append.new.out c.emit_behind.new.out
    (rw (c.in-Seq.is, c.deref.ensures) refl)
    c.from_residual-in_err-emit_behind-in-Seq.ensures.0 c.in_ok-append.ensures.0 c.in_err-emit_behind-in-Seq.ensures.1

pub returns-in_ok-emit_behind-in-Seq : goal.returns-in_ok-emit_behind-in-Seq
returns-in_ok-emit_behind-in-Seq t c =
    emitted-last c.emit_behind-in-Seq.result (c.args.before.now ++ plan.code (plan_of c.args.tree.now)) (c.args.before.now ++ plan.code (plan_of c.deref.result.now)) (plan.code (plan_of c.deref-in-Seq.result.now))
    c.args.out.now c.emit_behind.new.out c.emit_behind-in-Seq.new.out
    (rw (c.in-Seq.is, c.deref.ensures, c.deref-in-Seq.ensures) (sym (append_assoc c.args.before.now _ _)))
    (grown-then c.args.before.now (plan.code (plan_of c.deref.result.now)) c.args.out.now c.append.new.out c.emit_behind.new.out c.in_ok-append.ensures.0 c.in_ok-emit_behind-in-Seq.ensures.0) c.emit_behind-in-Seq.ensures

pub returns-in_ok-emit_behind-in-If : goal.returns-in_ok-emit_behind-in-If
returns-in_ok-emit_behind-in-If t c =
    emitted-last c.emit_behind-in-If-2.result (c.args.before.now ++ plan.code (plan_of c.args.tree.now)) (c.args.before.now ++ (c.choice.result ++ plan.code (plan_of c.deref-in-If-2.result.now))) ((c.forward.result ∷ []) ++ plan.code (plan_of c.deref-in-If-4.result.now))
    c.args.out.now c.emit_behind-in-If.new.out c.emit_behind-in-If-2.new.out
    (rw (c.in-If.is, c.choice.ensures, c.tree_len.ensures, c.deref-in-If.ensures, c.deref-in-If-2.ensures, c.forward.ensures, c.tree_len-in-If.ensures, c.deref-in-If-3.ensures, c.deref-in-If-4.ensures) (sym (append_assoc c.args.before.now _ _)))
    (grown-then c.args.before.now (c.choice.result ++ plan.code (plan_of c.deref-in-If-2.result.now)) c.args.out.now c.append.new.out c.emit_behind-in-If.new.out c.in_ok-append.ensures.0 c.in_ok-emit_behind-in-If.ensures.0) c.emit_behind-in-If-2.ensures

pub returns-in_err-emit_behind-in-Loop : goal.returns-in_err-emit_behind-in-Loop
returns-in_err-emit_behind-in-Loop t c =
    refused-next c.from_residual-in_err-emit_behind-in-Loop.result (c.args.before.now ++ plan.code (plan_of c.args.tree.now)) c.args.before.now
    (c.head.result ++ plan.code (plan_of c.deref-in-Loop-2.result.now)) (plan.raised c.in-Loop.slot ++ plan.backward (plan.len (plan_of c.in-Loop.body.value) + 10) ∷ [])
    c.args.out.now c.append.new.out c.emit_behind-in-Loop.new.out
    (rw (c.in-Loop.is, c.head.ensures, c.tree_len-in-Loop.ensures, c.deref-in-Loop.ensures, c.deref-in-Loop-2.ensures) refl)
    c.from_residual-in_err-emit_behind-in-Loop.ensures.0 c.in_ok-append.ensures.0 c.in_err-emit_behind-in-Loop.ensures.1

pub returns-in_ok-emit_behind-in-Loop : goal.returns-in_ok-emit_behind-in-Loop
returns-in_ok-emit_behind-in-Loop t c =
    emitted-last c.append-in-Loop.result (c.args.before.now ++ plan.code (plan_of c.args.tree.now)) (c.args.before.now ++ (c.head.result ++ plan.code (plan_of c.deref-in-Loop-2.result.now))) c.tail.result
    c.args.out.now c.emit_behind-in-Loop.new.out c.append-in-Loop.new.out
    (rw (c.in-Loop.is, c.head.ensures, c.tree_len-in-Loop.ensures, c.deref-in-Loop.ensures, c.deref-in-Loop-2.ensures, c.tail.ensures, c.tree_len-in-Loop-2.ensures, c.deref-in-Loop-3.ensures) (sym (append_assoc c.args.before.now _ _)))
    (grown-then c.args.before.now (c.head.result ++ plan.code (plan_of c.deref-in-Loop-2.result.now)) c.args.out.now c.append.new.out c.emit_behind-in-Loop.new.out c.in_ok-append.ensures.0 c.in_ok-emit_behind-in-Loop.ensures.0) c.append-in-Loop.ensures

pub returns-in_err-emit_behind-in-Scan : goal.returns-in_err-emit_behind-in-Scan
returns-in_err-emit_behind-in-Scan t c =
    refused-next c.from_residual-in_err-emit_behind-in-Scan.result (c.args.before.now ++ plan.code (plan_of c.args.tree.now)) c.args.before.now
    (c.head-in-Scan.result ++ plan.code (plan_of c.deref-in-Scan-3.result.now)) ((plan.skip_if_set c.in-Scan.test 24 ∷ (plan.raised c.in-Scan.slot ++ plan.backward (plan.len (plan_of c.in-Scan.guard.value) + 11) ∷ [])) ++ (plan.code (plan_of c.in-Scan.found.value) ++ plan.forward (plan.len (plan_of c.in-Scan.none.value) + 1) ∷ plan.code (plan_of c.in-Scan.none.value)))
    c.args.out.now c.append.new.out c.emit_behind-in-Scan.new.out
    (rw (c.in-Scan.is, c.head-in-Scan.ensures, c.tree_len-in-Scan.ensures, c.deref-in-Scan.ensures, c.tree_len-in-Scan-2.ensures, c.deref-in-Scan-2.ensures, c.deref-in-Scan-3.ensures) refl)
    c.from_residual-in_err-emit_behind-in-Scan.ensures.0 c.in_ok-append.ensures.0 c.in_err-emit_behind-in-Scan.ensures.1

pub returns-in_err-emit_behind-in-Scan-2 : goal.returns-in_err-emit_behind-in-Scan-2
returns-in_err-emit_behind-in-Scan-2 t c =
    refused-next c.from_residual-in_err-emit_behind-in-Scan-2.result (c.args.before.now ++ plan.code (plan_of c.args.tree.now)) (c.args.before.now ++ (c.head-in-Scan.result ++ plan.code (plan_of c.deref-in-Scan-3.result.now)))
    (c.judged_tail.result ++ plan.code (plan_of c.deref-in-Scan-5.result.now)) (plan.forward (plan.len (plan_of c.in-Scan.none.value) + 1) ∷ plan.code (plan_of c.in-Scan.none.value))
    c.args.out.now c.emit_behind-in-Scan.new.out c.emit_behind-in-Scan-2.new.out
    (rw (c.in-Scan.is, c.head-in-Scan.ensures, c.tree_len-in-Scan.ensures, c.deref-in-Scan.ensures, c.tree_len-in-Scan-2.ensures, c.deref-in-Scan-2.ensures, c.deref-in-Scan-3.ensures, c.judged_tail.ensures, c.tree_len-in-Scan-3.ensures, c.deref-in-Scan-4.ensures, c.deref-in-Scan-5.ensures) (sym (append_assoc c.args.before.now _ _)))
    c.from_residual-in_err-emit_behind-in-Scan-2.ensures.0 (grown-then c.args.before.now (c.head-in-Scan.result ++ plan.code (plan_of c.deref-in-Scan-3.result.now)) c.args.out.now c.append.new.out c.emit_behind-in-Scan.new.out c.in_ok-append.ensures.0 c.in_ok-emit_behind-in-Scan.ensures.0) c.in_err-emit_behind-in-Scan-2.ensures.1

pub returns-in_ok-emit_behind-in-Scan-2 : goal.returns-in_ok-emit_behind-in-Scan-2
returns-in_ok-emit_behind-in-Scan-2 t c =
    emitted-last c.emit_behind-in-Scan-3.result (c.args.before.now ++ plan.code (plan_of c.args.tree.now)) ((c.args.before.now ++ (c.head-in-Scan.result ++ plan.code (plan_of c.deref-in-Scan-3.result.now))) ++ (c.judged_tail.result ++ plan.code (plan_of c.deref-in-Scan-5.result.now))) ((c.forward-in-Scan.result ∷ []) ++ plan.code (plan_of c.deref-in-Scan-7.result.now))
    c.args.out.now c.emit_behind-in-Scan-2.new.out c.emit_behind-in-Scan-3.new.out
    (rw (c.in-Scan.is, c.head-in-Scan.ensures, c.tree_len-in-Scan.ensures, c.deref-in-Scan.ensures, c.tree_len-in-Scan-2.ensures, c.deref-in-Scan-2.ensures, c.deref-in-Scan-3.ensures, c.judged_tail.ensures, c.tree_len-in-Scan-3.ensures, c.deref-in-Scan-4.ensures, c.deref-in-Scan-5.ensures, c.forward-in-Scan.ensures, c.tree_len-in-Scan-4.ensures, c.deref-in-Scan-6.ensures, c.deref-in-Scan-7.ensures) (sym (append_assoc (c.args.before.now ++ _) _ _ ∙ append_assoc c.args.before.now _ _)))
    (grown-then (c.args.before.now ++ (c.head-in-Scan.result ++ plan.code (plan_of c.deref-in-Scan-3.result.now))) (c.judged_tail.result ++ plan.code (plan_of c.deref-in-Scan-5.result.now)) c.args.out.now c.emit_behind-in-Scan.new.out c.emit_behind-in-Scan-2.new.out (grown-then c.args.before.now (c.head-in-Scan.result ++ plan.code (plan_of c.deref-in-Scan-3.result.now)) c.args.out.now c.append.new.out c.emit_behind-in-Scan.new.out c.in_ok-append.ensures.0 c.in_ok-emit_behind-in-Scan.ensures.0) c.in_ok-emit_behind-in-Scan-2.ensures.0) c.emit_behind-in-Scan-3.ensures
