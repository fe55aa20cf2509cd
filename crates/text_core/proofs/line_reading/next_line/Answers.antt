use Rattle.std.proofs.Common.{◌≡◌, ◌<◌, ℕ, List, [], ◌∷◌, length, suc, sym, ◌∙◌, add-one, arith}
use Rattle.std.proofs.lemmas.Bool.Decides.{nat_tests}
use Rattle.std.proofs.lemmas.List.{take_rest}
use Rattle.std.proofs.Math.ListN.{drop_of_length-le}
use Rattle.text_core.specs.Lines.{lines}
use Rattle.text_core.proofs.FirstLine.{behind_feed, last_line, fed_line, unfed}
use Rattle.text_core.proofs.line_reading.next_line.Goals as goal

alone : (text : List ℕ) → 0 < length text → unfed text ≡ length text → lines text ≡ text ∷ []
alone [] some e = absurd (omega arith)
alone (c ∷ cs) some e = last_line c cs e

pub returns-then-end-text-clause-line : goal.returns-then-end-text-clause-line
returns-then-end-text-clause-line c =
    alone c.args.text.now (grind (arith, nat_tests)) (sym c.feed_at-end.ensures.value ∙ c.if-end-text.true)

pub returns-clause-line : goal.returns-clause-line
returns-clause-line c =
    rw (c.without_return.ensures, add-one, take_rest)
    (fed_line c.feed_at-end.result c.args.text.now (sym c.feed_at-end.ensures.value) (omega arith))

pub returns-then-end-text-clause-rest : goal.returns-then-end-text-clause-rest
returns-then-end-text-clause-rest c =
    let text = c.args.text.now in
    sym (behind_feed (length text) text (sym c.feed_at-end.ensures.value ∙ c.if-end-text.true) ∙ drop_of_length-le text {i = suc (length text)} (omega arith))

pub returns-clause-rest : goal.returns-clause-rest
returns-clause-rest c = rw (take_rest, add-one) (sym (behind_feed c.feed_at-end.result c.args.text.now (sym c.feed_at-end.ensures.value)))
