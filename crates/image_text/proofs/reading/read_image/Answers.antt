use Rattle.std.proofs.Common.{◌≡◌, ℕ, ◌+◌, ◌<◌, ◌^◌, ◌∷◌, [], ◌++◌, false, Some, length-append, sym, ap, ◌∙◌, arith, rules}
use Rattle.std.proofs.lemmas.List.Elements.{All-push}
use Rattle.text_core.specs.Lines.{lines}
use Rattle.text_core.specs.Fields.{is_passed}
use Rattle.image_text.specs.ImageLines.{image_of, led_by, word_of_line}
use Rattle.image_text.proofs.MoreWords.{one_more_word}
use Rattle.image_text.proofs.reading.read_image.Goals as goal

pub loop-number-preserved : goal.loop-number-preserved
loop-number-preserved c =
    let words = c.loop-number.words in
    let room = c.loop-number.room in
    let cursor = c.loop-number.cursor in
    let left = c.next.new.self in
    let line = c.in-Some.line.now in
    let word = c.in-Some-2.word in
    let here : lines cursor.left ≡ line ∷ lines left.left = search rules in
    let counted : left.number ≡ cursor.number + 1 = search rules in
    let taken : is_passed line ≡ false = search rules in
    let spelled : word_of_line line ≡ Some word = search rules in
    let small : word < 2 ^ 32 = search rules in
    let pushed : c.push.new.self ≡ words ++ word ∷ [] = search rules in
    let next = one_more_word words word room cursor.number line (lines left.left) taken spelled c.if-room-eq0.false in
    rw (pushed, counted) record {
      image = sym next ∙ ap (λ all. led_by words (image_of room cursor.number all)) (sym here) ∙ c.loop-number.invariant.image;
      words = All-push (λ x. x < 2 ^ 32) words word c.loop-number.invariant.words small;
      count = omega (arith, length-append {A = ℕ});
    }
