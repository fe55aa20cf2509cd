use Rattle.std.proofs.Common.{◌/◌, ◌++◌}
use Rattle.text_core.proofs.Begun.{begun_more}
use Rattle.exec_run.specs.ExecText.{ram_lines}
use Rattle.text_core.specs.WrittenLines.{lines_text}
use Rattle.exec_run.proofs.Changes.{written-changed, written-same}
use Rattle.exec_run.proofs.writing.put_ram.Goals.{then-word+in_ok-put_ram_word, else-word}
use Rattle.exec_run.proofs.writing.put_ram.Goals as goal

pub loop-number-preserved : goal.loop-number-preserved
loop-number-preserved g c =
    let start = c.args.start.now.ram in
    let end = c.args.end.now.ram in
    let out = c.loop-number.out.items in
    let count = g.row.RAM / 4 in
    let number = c.loop-number.number in
    let whole = c.args.out.now.items ++ lines_text (ram_lines count 0 start end) in
    elim c.if-word.branch [
      | then-word+in_ok-put_ram_word w ↦ (
        rw (w.out-is, w.in_ok-put_ram_word.ensures.ok, c.word-word.ensures)
            (written-changed count number start end out whole c.loop-number-test.true c.loop-number.invariant.0 (λ same. w.if-word.true cc)),
        rw (w.out-is, w.in_ok-put_ram_word.ensures.ok) (begun_more out _ _ c.loop-number.invariant.1),
      )
      | else-word w ↦ (
        rw w.out-is
            (written-same count number start end out whole c.loop-number-test.true c.loop-number.invariant.0 cc),
        rw w.out-is c.loop-number.invariant.1,
      )
    ]
