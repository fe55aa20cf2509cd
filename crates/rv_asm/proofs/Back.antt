-- A listing assembles back to its words.
use Rattle.std.proofs.Common.{◌≡◌, ℕ, suc, ◌+◌, ◌-◌, ◌*◌, ◌<◌, ◌≤◌, ◌^◌, List, [], ◌∷◌, ◌++◌, length, All, Result, Ok, Err, Option, Some, None, refl, ap, ◌∙◌, arith, append_assoc}
use Rattle.std.specs.List.{AllByRecursion}
use Rattle.std.proofs.lemmas.List.Elements.{All-head, All-tail}
use Rattle.std.proofs.lemmas.Bool.{ne_eqb}
use Rattle.text_core.specs.Lines.{lines}
use Rattle.text_core.specs.WrittenLines.{lines_text}
use Rattle.rv_line.specs.Laws.{ListingIsLine, ListingReads}
use Rattle.rv_line.specs.Lines.{IsWordOf, item, label}
use Rattle.rv_line.specs.Texts.{line_text, listing_lines}
use Rattle.rv_line.specs.declared.item.Item.{Item}
use Rattle.rv_asm.specs.Assembly.{Comes, assembled, first_misspelt, first_too_many, items_from, labels_from, led_by}
use Rattle.rv_asm.specs.Laws.{ListingAssembles}
use Rattle.rv_asm.specs.Listing.{listing_text}
use Rattle.rv_asm.specs.declared.fault.AsmEnd.{AsmEnd}

-- ---- a text of lines without line feeds has these lines

abbrev IsOneLine : List ℕ → Type 0
IsOneLine line = AllByRecursion (λ c. 13 < c) line

first_line : (line rest : List ℕ) → IsOneLine line → lines (line ++ 10 ∷ rest) ≡ line ∷ lines rest
first_line [] rest one = refl
first_line (c ∷ cs) rest one =
    let high = one.0 in
    rw (ne_eqb c 10 (λ e. omega (arith, e, high)), ne_eqb c 13 (λ e. omega (arith, e, high)), first_line cs rest one.1) refl

lines_back : (ls : List (List ℕ)) → AllByRecursion IsOneLine ls → lines (lines_text ls) ≡ ls
lines_back [] all = refl
lines_back (l ∷ ls) all = ap lines (append_assoc l (10 ∷ []) (lines_text ls)) ∙ first_line l (lines_text ls) all.0 ∙ ap (λ rest. l ∷ rest) (lines_back ls all.1)

all_lines : ListingIsLine → (at : ℕ) (words : List ℕ) → AllByRecursion IsOneLine (listing_lines at words)
all_lines one at [] = tt
all_lines one at (w ∷ ws) = (one (4 * at) w, all_lines one (suc at) ws)

-- ---- the three turns over a listing

abbrev AreSmall : List ℕ → Type 0
AreSmall words = All (λ w. w < 2 ^ 32) words

module _ (reads : ListingReads) where
  -- what the first line of a listing says, as a line alone and as a line of the text
  said : (labels : List (List ℕ × ℕ)) (here : Option ℕ) (address w : ℕ) (ws : List ℕ) → AreSmall (w ∷ ws)
      → (label (line_text address w) ≡ None) × ((it : Item) × (item labels here (line_text address w) ≡ Ok (Some it)) × IsWordOf w it)
  said labels here address w ws small = reads labels here address w (All-head (λ x. x < 2 ^ 32) w ws small)

  spelt : (before : List (List ℕ × ℕ)) (words number at : ℕ) (ws : List ℕ) → AreSmall ws → first_misspelt before words number (listing_lines at ws) ≡ None
  spelt before words number at [] small = refl
  spelt before words number at (w ∷ ws) small =
      let s = said [] None (4 * at) w ws small in
      rw (s.0, s.1.1) (spelt (before ++ []) (words + 1) (number + 1) (suc at) ws (All-tail (λ x. x < 2 ^ 32) w ws small))

  enough : (room number at : ℕ) (ws : List ℕ) → AreSmall ws → length ws ≤ room → first_too_many room number (listing_lines at ws) ≡ None
  enough room number at [] small fits = refl
  enough room number at (w ∷ ws) small fits =
      let s = said [] None (4 * at) w ws small in
      rw (s.1.1, ne_eqb room 0 (λ none. omega (arith, none, fits))) (enough (room - 1) (number + 1) (suc at) ws (All-tail (λ x. x < 2 ^ 32) w ws small) (omega (arith, fits)))

  comes_more : (number w : ℕ) (ws : List ℕ) (it : Item) (rest : Result (List Item) AsmEnd) → IsWordOf w it → Comes rest ws → Comes (led_by number (Ok (Some it)) rest) (w ∷ ws)
  comes_more number w ws it (Ok items) is are = (is, are)
  comes_more number w ws it (Err end) is are = are

  come : (labels : List (List ℕ × ℕ)) (words number at : ℕ) (ws : List ℕ) → AreSmall ws → Comes (items_from labels words number (listing_lines at ws)) ws
  come labels words number at [] small = tt
  come labels words number at (w ∷ ws) small =
      let s = said labels (Some words) (4 * at) w ws small in
      rw s.1.1 (comes_more number w ws s.1.0 _ s.1.2 (come labels (words + 1) (number + 1) (suc at) ws (All-tail (λ x. x < 2 ^ 32) w ws small)))

pub assembles_back : ListingIsLine → ListingReads → ListingAssembles
unfolding assembled listing_text
assembles_back one reads limit first words small fits =
    rw (lines_back (listing_lines 0 words) (all_lines one 0 words), spelt reads [] 0 first 0 words small, enough reads limit first 0 words small fits)
    (come reads (labels_from 0 (listing_lines 0 words)) 0 first 0 words small)
