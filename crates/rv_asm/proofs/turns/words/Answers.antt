use Rattle.std.proofs.Common.{◌≡◌, ◌+◌, ◌∷◌, ◌++◌, [], Ok, None, Some, rules}
use Rattle.text_core.specs.Lines.{lines}
use Rattle.rv_line.specs.Lines.{item}
use Rattle.rv_asm.specs.Assembly.{items_from}
use Rattle.rv_asm.proofs.Steps.{silent_line, word_line}
use Rattle.rv_asm.proofs.turns.words.Goals as goal

pub words-preserved-in-Ok-None : goal.words-preserved-in-Ok-None
words-preserved-in-Ok-None c =
    let labels = c.args.labels.now in
    let words = c.words.words in
    let count = c.words.count in
    let whole = items_from labels 0 c.args.first_line (lines c.args.text.now) in
    let line = c.in-Some.line.now in
    let rest = lines c.next.new.self.left in
    let here : lines c.words.cursor.left ≡ line ∷ rest = search rules in
    let counted : c.next.new.self.number ≡ c.words.cursor.number + 1 = search rules in
    let said : item labels (Some count) line ≡ Ok None = search rules in
    record {
      front = rw counted (silent_line labels words count c.words.cursor.number line rest whole said (rw here at c.words.invariant.front));
      room = search rules;
    }

pub words-preserved : goal.words-preserved
words-preserved c =
    let labels = c.args.labels.now in
    let words = c.words.words in
    let count = c.words.count in
    let whole = items_from labels 0 c.args.first_line (lines c.args.text.now) in
    let line = c.in-Some.line.now in
    let rest = lines c.next.new.self.left in
    let here : lines c.words.cursor.left ≡ line ∷ rest = search rules in
    let counted : c.next.new.self.number ≡ c.words.cursor.number + 1 = search rules in
    let said : item labels (Some count) line ≡ Ok (Some c.in-Ok-Some.said) = search rules in
    let pushed : c.push.new.self ≡ words ++ c.word_of.result ∷ [] = c.in_ok-push-in-Ok-Some.ensures.ok in
    record {
      front = rw (counted, pushed) (word_line labels words count c.words.cursor.number line rest whole c.word_of.result c.in-Ok-Some.said said c.word_of.ensures (rw here at c.words.invariant.front));
      room = search rules;
    }
