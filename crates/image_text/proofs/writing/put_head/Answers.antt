use Rattle.std.specs.Io.{StartsWith}
use Rattle.std.proofs.Transfers.{starts_with_of_append, starts_with_trans}
use Rattle.update_sets.proofs.Restored.{on_ok}
use Rattle.text_core.proofs.Begun.{begun_more}
use Rattle.fault_script.proofs.Putting.{on_err}
use Rattle.image_text.proofs.Written.{head-written}
use Rattle.image_text.proofs.writing.put_head.Goals as goal

pub returns-clause-ok : goal.returns-clause-ok
returns-clause-ok c =
    on_ok c.put_needs.result
    (head-written c.args.name.now c.args.shape c.args.layout c.args.revision c.args.needs c.args.out.now.items c.put_field.new.out.items c.put_making.new.out.items c.put_needs.new.out.items
    (rw c.bytes.ensures.text at c.in_ok-put_field.ensures.ok) c.in_ok-put_making.ensures.ok) c.put_needs.ensures.ok

pub returns-clause-err : goal.returns-clause-err
returns-clause-err c =
    let program = starts_with_of_append c.put_field.new.out.items c.args.out.now.items _ c.in_ok-put_field.ensures.ok in
    let begun : StartsWith c.put_making.new.out.items c.args.out.now.items = rw c.in_ok-put_making.ensures.ok (begun_more c.put_field.new.out.items _ _ program) in
    on_err c.put_needs.result (λ e. starts_with_trans _ _ _ e begun) c.put_needs.ensures.err
