use Rattle.update_sets.proofs.Restored.{on_ok}
use Rattle.image_text.proofs.Written.{making-written}
use Rattle.image_text.proofs.writing.put_making.Goals as goal

pub returns-clause-ok : goal.returns-clause-ok
returns-clause-ok c =
    on_ok c.put_field-2.result
    (λ e. making-written c.args.shape c.args.layout c.args.revision c.args.out.now.items c.put_number.new.out.items c.put_field.new.out.items c.put_field-2.new.out.items (rw c.from.ensures at c.in_ok-put_number.ensures.ok)
    (rw c.shape_word.ensures at c.in_ok-put_field.ensures.ok) (rw c.layout_word.ensures at e)) c.put_field-2.ensures.ok
