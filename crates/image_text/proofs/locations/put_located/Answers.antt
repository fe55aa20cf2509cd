use Rattle.std.proofs.Common.{◌++◌, ap, ◌∙◌}
use Rattle.text_core.specs.WrittenLines.{ended}
use Rattle.update_sets.proofs.Restored.{on_ok}
use Rattle.state_layout.specs.declared.entry.Entry.{Entry}
use Rattle.image_text.specs.Report.{place_line}
use Rattle.image_text.proofs.Bounds.{entry-low}
use Rattle.image_text.proofs.Inside.{entry-is}
use Rattle.image_text.proofs.locations.put_located.Goals as goal

pub put_place-requires : goal.put_place-requires
put_place-requires c = entry-low c.args.map.now c.args.number c.entry.result c.is_placed.ensures c.entry.ensures

pub returns-in-State-clause-ok : goal.returns-in-State-clause-ok
returns-in-State-clause-ok c =
    let same = entry-is c.args.map.now c.args.number c.entry.result c.entry.ensures (rw c.in-State.is at c.requires.within) in
    on_ok c.put_place.result (λ e. rw c.in-State.is (e ∙ ap (λ (x : Entry). c.args.out.now.items ++ ended (place_line c.args.name.now x)) same)) c.put_place.ensures.ok
