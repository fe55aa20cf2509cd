-- One line more of each turn.
use Rattle.std.proofs.Common.{◌≡◌, ℕ, ◌+◌, ◌++◌, List, [], ◌∷◌, Result, Ok, Err, Some, None, refl, sym, ap, ◌∙◌, append_assoc, arith}
use Rattle.rv_line.specs.Lines.{IsWordOf, item}
use Rattle.rv_line.specs.declared.item.Item.{Item}
use Rattle.rv_asm.specs.Assembly.{AreWordsOf, items_from, led_by}
use Rattle.rv_asm.specs.declared.fault.AsmEnd.{AsmEnd}

-- items put before those that come
abbrev pub ahead : List Item → Result (List Item) AsmEnd → Result (List Item) AsmEnd
ahead items (Ok more) = Ok (items ++ more)
ahead items (Err end) = Err end

ahead_twice : (items : List Item) (said : Item) (rest : Result (List Item) AsmEnd) (number : ℕ) → ahead items (led_by number (Ok (Some said)) rest) ≡ ahead (items ++ said ∷ []) rest
ahead_twice items said (Ok more) number = ap Ok (sym (append_assoc items (said ∷ []) more))
ahead_twice items said (Err end) number = refl

pushed : (words : List ℕ) (items : List Item) (w : ℕ) (said : Item) → AreWordsOf words items → IsWordOf w said → AreWordsOf (words ++ w ∷ []) (items ++ said ∷ [])
pushed [] [] w said are is = (is, tt)
pushed [] (i ∷ is) w said are one = absurd are
pushed (x ∷ xs) [] w said are one = absurd are
pushed (x ∷ xs) (i ∷ is) w said are one = (are.0, pushed xs is w said are.1 one)

-- what is done so far, and all of it
pub record IsFront (words : List ℕ) (rest whole : Result (List Item) AsmEnd) : Type 0 where
  pub items : List Item
  pub words_are : AreWordsOf words items
  pub all : ahead items rest ≡ whole

module _ (labels : List (List ℕ × ℕ)) (words : List ℕ) (at number : ℕ) (line : List ℕ) (lines : List (List ℕ)) (whole : Result (List Item) AsmEnd) where
  -- a line that says nothing
  pub silent_line : item labels (Some at) line ≡ Ok None → IsFront words (items_from labels at number (line ∷ lines)) whole → IsFront words (items_from labels at (number + 1) lines) whole
  silent_line said front = let none : at + 0 ≡ at = omega arith in record { items = front.items; words_are = front.words_are; all = rw (said, none) at front.all }

  -- a line that takes a word
  pub word_line : (w : ℕ) (it : Item) → item labels (Some at) line ≡ Ok (Some it) → IsWordOf w it → IsFront words (items_from labels at number (line ∷ lines)) whole
      → IsFront (words ++ w ∷ []) (items_from labels (at + 1) (number + 1) lines) whole
  word_line w it said is front = record {
    items = front.items ++ it ∷ [];
    words_are = pushed words front.items w it front.words_are is;
    all = sym (ahead_twice front.items it (items_from labels (at + 1) (number + 1) lines) number) ∙ (rw said at front.all);
  }
