use Rattle.update_sets.proofs.Restored.{on_ok}
use Rattle.image_text.proofs.Written.{needs-written}
use Rattle.image_text.proofs.writing.put_needs.Goals as goal

pub returns-clause-ok : goal.returns-clause-ok
returns-clause-ok c =
    on_ok c.put_number-5.result
    (needs-written c.args.needs c.args.out.now.items c.put_number.new.out.items c.put_number-2.new.out.items c.put_number-3.new.out.items c.put_number-4.new.out.items c.put_number-5.new.out.items
    c.in_ok-put_number.ensures.ok c.in_ok-put_number-2.ensures.ok c.in_ok-put_number-3.ensures.ok c.in_ok-put_number-4.ensures.ok) c.put_number-5.ensures.ok
