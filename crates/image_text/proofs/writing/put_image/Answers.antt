use Rattle.update_sets.proofs.Restored.{on_ok}
use Rattle.image_text.proofs.Written.{words-written}
use Rattle.image_text.proofs.writing.put_image.Goals as goal

pub returns-clause-ok : goal.returns-clause-ok
returns-clause-ok c =
    on_ok c.put_bytes.result
    (words-written c.args.words.now c.args.out.now.items c.put_number.new.out.items c.put_words.new.out.items c.put_bytes.new.out.items c.in_ok-put_number.ensures.ok c.in_ok-put_words.ensures.ok) c.put_bytes.ensures.ok
