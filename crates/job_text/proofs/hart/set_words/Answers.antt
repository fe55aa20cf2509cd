use Rattle.std.proofs.Common.{◌+◌, ◌*◌, ◌≤◌, ◌∙◌, length, arith}
use Rattle.std.proofs.lemmas.List.{drop_more}
use Rattle.rv_machine.proofs.Store.{length-stored}
use Rattle.job_text.proofs.Harts.{words_next}
use Rattle.job_text.proofs.hart.set_words.Goals as goal

pub loop-index-preserved : goal.loop-index-preserved
loop-index-preserved g c =
    let index = c.loop-index.index in
    let ram = c.loop-index.hart.ram in
    let words = c.args.words.now in
    let so_far = c.loop-index.invariant in
    let inside : 4 * index + 4 ≤ length ram = omega (arith, so_far.size, c.loop-index-test.true, c.requires.size) in
    rw c.set_word.ensures (record {
      pc = so_far.pc;
      regs = so_far.regs;
      size = length-stored 4 (4 * index) _ ram inside ∙ so_far.size;
      front = words_next index _ ram words inside so_far.front (drop_more words index 0 c.loop-index-test.true);
    })
