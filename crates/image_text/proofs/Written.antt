-- Lines that are written one behind the other.
use Rattle.std.proofs.Common.{◌≡◌, ℕ, List, [], ◌∷◌, ◌++◌, map, length, codes, sym, ap, ◌∙◌, append_assoc, append-nil}
use Rattle.std.specs.Fmt.{decimal}
use Rattle.std.proofs.lemmas.List.Concat.{flat_map-append}
use Rattle.text_core.specs.Hexadecimal.{hex8}
use Rattle.text_core.specs.WrittenLines.{◌␣◌, ended, lines_text}
use Rattle.state_layout.specs.declared.layout.Layout.{Layout}
use Rattle.bound_count.specs.declared.numbers.Numbers.{Numbers}
use Rattle.bound_count.specs.declared.shape.Shape.{Shape}
use Rattle.asm_names.specs.declared.program.Resolved.{Resolved}
use Rattle.state_space.specs.declared.signature.Side.TheVariants as sides
use Rattle.state_layout.specs.Map.{Placement}
use Rattle.round_spec.specs.Round.{Compiled}
use Rattle.image_text.specs.Report.{head_lines, layout_word, making_lines, needs_lines, report_text, shape_word, side_lines, word_lines}

-- a text with more behind it
abbrev pub Appended : List ℕ → List ℕ → List ℕ → Type 0
Appended out more out' = out' ≡ out ++ more

abbrev pub AppendedLines : List ℕ → List (List ℕ) → List ℕ → Type 0
AppendedLines out lines out' = out' ≡ out ++ lines_text lines

pub behind : (out a b p q : List ℕ) → Appended out a p → Appended p b q → Appended out (a ++ b) q
behind out a b p q f g = g ∙ ap (λ t. t ++ b) f ∙ append_assoc out a b

pub one-line : (out l p : List ℕ) → Appended out (ended l) p → AppendedLines out (l ∷ []) p
one-line out l p f = f ∙ ap (λ t. out ++ t) (sym (append-nil (ended l)))

pub one-more : (out l p : List ℕ) (ls : List (List ℕ)) (q : List ℕ) → Appended out (ended l) p → AppendedLines p ls q → AppendedLines out (l ∷ ls) q
one-more out l p ls q = behind out (ended l) (lines_text ls) p q

pub both : (out : List ℕ) (ls : List (List ℕ)) (p : List ℕ) (ms : List (List ℕ)) (q : List ℕ) → AppendedLines out ls p → AppendedLines p ms q → AppendedLines out (ls ++ ms) q
both out ls p ms q f g = behind out (lines_text ls) (lines_text ms) p q f g ∙ ap (λ t. out ++ t) (sym (flat_map-append ended ls ms))

three-lines : (k l m out p q r : List ℕ) → Appended out (ended k) p → Appended p (ended l) q → Appended q (ended m) r → AppendedLines out (k ∷ l ∷ m ∷ []) r
three-lines k l m out p q r f g h = one-more out k p (l ∷ m ∷ []) r f (one-more p l q (m ∷ []) r g (one-line q m r h))

five-lines : (k l m i j out p q r s t : List ℕ) → Appended out (ended k) p → Appended p (ended l) q → Appended q (ended m) r → Appended r (ended i) s → Appended s (ended j) t
    → AppendedLines out (k ∷ l ∷ m ∷ i ∷ j ∷ []) t
five-lines k l m i j out p q r s t f g h a b = one-more out k p (l ∷ m ∷ i ∷ j ∷ []) t f (one-more p l q (m ∷ i ∷ j ∷ []) t g (three-lines m i j q r s t h a b))

pub making-written : (shape : Shape) (layout : Layout) (revision : ℕ) (out p q r : List ℕ) → Appended out (ended (codes "revision" ␣ decimal revision)) p
    → Appended p (ended (codes "shape" ␣ shape_word shape)) q → Appended q (ended (codes "layout" ␣ layout_word layout)) r → AppendedLines out (making_lines shape layout revision) r
unfolding making_lines
making-written shape layout revision = three-lines (codes "revision" ␣ decimal revision) (codes "shape" ␣ shape_word shape) (codes "layout" ␣ layout_word layout)

pub needs-written : (needs : Numbers) (out p q r s t : List ℕ) → Appended out (ended (codes "ram" ␣ decimal needs.ram)) p → Appended p (ended (codes "rom" ␣ decimal needs.rom)) q
    → Appended q (ended (codes "anchor" ␣ decimal needs.anchor)) r → Appended r (ended (codes "round" ␣ decimal needs.round)) s
    → Appended s (ended (codes "registers" ␣ decimal needs.regs)) t → AppendedLines out (needs_lines needs) t
unfolding needs_lines
needs-written needs =
    five-lines (codes "ram" ␣ decimal needs.ram) (codes "rom" ␣ decimal needs.rom) (codes "anchor" ␣ decimal needs.anchor) (codes "round" ␣ decimal needs.round) (codes "registers" ␣ decimal needs.regs)

pub head-written : (name : List ℕ) (shape : Shape) (layout : Layout) (revision : ℕ) (needs : Numbers) (out p q r : List ℕ) → Appended out (ended (codes "program" ␣ name)) p
    → AppendedLines p (making_lines shape layout revision) q → AppendedLines q (needs_lines needs) r → AppendedLines out (head_lines name shape layout revision needs) r
unfolding head_lines
head-written name shape layout revision needs out p q r f g h =
    let behind_name : List (List ℕ) = making_lines shape layout revision ++ needs_lines needs in
    one-more out (codes "program" ␣ name) p behind_name r f (both p (making_lines shape layout revision) q (needs_lines needs) r g h)

pub words-written : (words : List ℕ) (out p q r : List ℕ) → Appended out (ended (codes "words" ␣ decimal (length words))) p → AppendedLines p (map hex8 words) q
    → Appended q (codes "end\n") r → AppendedLines out (word_lines words) r
unfolding word_lines
words-written words out p q r f g h =
    one-more out (codes "words" ␣ decimal (length words)) p (map hex8 words ++ codes "end" ∷ []) r f (both p (map hex8 words) q (codes "end" ∷ []) r g (one-line q (codes "end") r h))

module _ (shape : Shape) (layout : Layout) (revision : ℕ) where
  abbrev lines_of : Resolved → Placement → Numbers → List ℕ → List (List ℕ)
  lines_of program map needs words =
      head_lines program.name shape layout revision needs
      ++ (side_lines sides.State program map ++ (side_lines sides.Input program map ++ (side_lines sides.Output program map ++ word_lines words)))

  all-lines : (program : Resolved) (map : Placement) (needs : Numbers) (words out p q r s t : List ℕ) → AppendedLines out (head_lines program.name shape layout revision needs) p
      → AppendedLines p (side_lines sides.State program map) q → AppendedLines q (side_lines sides.Input program map) r → AppendedLines r (side_lines sides.Output program map) s
      → AppendedLines s (word_lines words) t → AppendedLines out (lines_of program map needs words) t
  all-lines program map needs words out p q r s t f g h i j =
      let outputs : List (List ℕ) = side_lines sides.Output program map ++ word_lines words in
      let inputs : List (List ℕ) = side_lines sides.Input program map ++ outputs in
      both out (head_lines program.name shape layout revision needs) p (side_lines sides.State program map ++ inputs) t f
      (both p (side_lines sides.State program map) q inputs t g
      (both q (side_lines sides.Input program map) r outputs t h (both r (side_lines sides.Output program map) s (word_lines words) t i j)))

  -- the parts of a report, of the parts of an image
  pub report-written : (program : Resolved) (built : Compiled) (found : Resolved) (map : Placement) (needs : Numbers) (words : List ℕ) → found ≡ program → map ≡ built.map → needs ≡ built.needs
      → words ≡ built.written → (out p q r s t : List ℕ) → out ≡ [] → AppendedLines out (head_lines found.name shape layout revision needs) p
      → AppendedLines p (side_lines sides.State found map) q → AppendedLines q (side_lines sides.Input found map) r → AppendedLines r (side_lines sides.Output found map) s
      → AppendedLines s (word_lines words) t → t ≡ report_text program built shape layout revision
  unfolding report_text
  report-written program built found map needs words a b c d out p q r s t e f g h i j =
      all-lines found map needs words out p q r s t f g h i j ∙ ap (λ o. o ++ lines_text (lines_of found map needs words)) e
      ∙ ap (λ (x : Resolved). lines_text (lines_of x map needs words)) a ∙ ap (λ (x : Placement). lines_text (lines_of program x needs words)) b
      ∙ ap (λ (x : Numbers). lines_text (lines_of program built.map x words)) c ∙ ap (λ x. lines_text (lines_of program built.map built.needs x)) d
