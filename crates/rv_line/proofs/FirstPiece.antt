-- The first piece of a text.
use Rattle.std.proofs.Common.{◌≡◌, ◌≢◌, ◌≤◌, ◌<◌, ◌-◌, subst, ℕ, suc, length, get_or, arith, Bool, true, false, cond, List, [], ◌∷◌, take, drop, refl, sym, ap, ◌∙◌, ◌==◌, Ok, Err}
use Rattle.std.proofs.lemmas.List.{take_rest}
use Rattle.std.proofs.lemmas.Bool.{eq-eqb, ne_eqb}
use Rattle.text_core.specs.Fields.{is_blank}
use Rattle.rv_line.specs.declared.fault.LineFault.TheVariants.{Form}
use Rattle.rv_line.specs.Forms.{sign, word}
use Rattle.rv_line.specs.Pieces.{Piece, Word, Sign, ends_word, is_empty, is_sign, pieces, unblanked, word_len}

-- blanks at the front are no pieces
pub blank_front : (text : List ℕ) → pieces (unblanked text) ≡ pieces text
blank_front [] = refl
blank_front (c ∷ cs) = by (is_blank c) refl (blank_front cs)
  where
    by : (b : Bool) → is_blank c ≡ b → pieces (unblanked cs) ≡ pieces cs → pieces (cond b (unblanked cs) (c ∷ cs)) ≡ pieces (c ∷ cs)
    by true e rest = rw e rest
    by false e rest = refl

-- behind the blanks stands none
pub no_blank_front : (text : List ℕ) (c : ℕ) (cs : List ℕ) → unblanked text ≡ c ∷ cs → is_blank c ≡ false
no_blank_front [] c cs e = cc
no_blank_front (d ∷ ds) c cs e = by (is_blank d) refl e (no_blank_front ds c cs)
  where
    by : (b : Bool) → is_blank d ≡ b → cond b (unblanked ds) (d ∷ ds) ≡ c ∷ cs → (unblanked ds ≡ c ∷ cs → is_blank c ≡ false) → is_blank c ≡ false
    by true h e rest = rest e
    by false h e rest = let same : c ≡ d = cc in rw same h

-- a word has no bytes where none goes on, and some where one does
no_word : (cs : List ℕ) → ends_word cs ≡ true → word_len cs ≡ 0
no_word [] h = refl
no_word (c ∷ cs) h = rw h refl

some_word : (cs : List ℕ) → ends_word cs ≡ false → word_len cs ≢ 0
some_word [] h = cc
some_word (c ∷ cs) h = rw h (by (c == 58))
  where
    by : (b : Bool) → cond b 1 (suc (word_len cs)) ≢ 0
    by true e = cc
    by false e = cc

-- a word at the front is the first piece
abbrev FirstWord : List ℕ → Type 0
FirstWord text = pieces text ≡ Word (take (word_len text) text) ∷ pieces (drop (word_len text) text)

pub first_word : (text : List ℕ) → word_len text ≢ 0 → FirstWord text
first_word [] some = absurd (some refl)
first_word (c ∷ cs) some = by (is_blank c) (is_sign c) (c == 58) (ends_word cs) refl refl refl refl (first_word cs)
  where
    by : (b s e w : Bool) → is_blank c ≡ b → is_sign c ≡ s → (c == 58) ≡ e → ends_word cs ≡ w → (word_len cs ≢ 0 → FirstWord cs) → FirstWord (c ∷ cs)
    by true s e w hb hs he hw rest = absurd (some (rw hb refl))
    by false true e w hb hs he hw rest = absurd (some (rw (hb, hs) refl))
    by false false true w hb hs he hw rest = rw (hb, hs, he) refl
    by false false false true hb hs he hw rest = rw (hb, hs, he, hw, no_word cs hw) refl
    by false false false false hb hs he hw rest = rw (hb, hs, he, hw, rest (some_word cs hw)) refl

-- ---- what the functions that scan find

module _ (text : List ℕ) where
  module _ (c : ℕ) (cs : List ℕ) (e : unblanked text ≡ c ∷ cs) where
    first_sign : is_sign c ≡ true → pieces text ≡ Sign c ∷ pieces cs
    first_sign s = sym (blank_front text) ∙ ap pieces e ∙ rw (no_blank_front text c cs e, s) refl

    first_no_sign : is_sign c ≡ false → (w : List ℕ) × (ps : List Piece) × (pieces text ≡ Word w ∷ ps)
    first_no_sign s = (_, _, sym (blank_front text) ∙ ap pieces e ∙ first_word (c ∷ cs) (rw (no_blank_front text c cs e, s) (by (c == 58))))
      where
        by : (b : Bool) → cond b 1 (suc (word_len cs)) ≢ 0
        by true h = cc
        by false h = cc

    pub sign_found : is_sign c ≡ true → sign c (pieces text) ≡ Ok (pieces cs)
    sign_found s = ap (sign c) (first_sign s) ∙ rw (eq-eqb c c refl) refl

    pub no_sign_found : (wanted : ℕ) → c ≢ wanted → sign wanted (pieces text) ≡ Err Form
    no_sign_found wanted n = by (is_sign c) refl
      where
        by : (b : Bool) → is_sign c ≡ b → sign wanted (pieces text) ≡ Err Form
        by true s = ap (sign wanted) (first_sign s) ∙ rw (ne_eqb c wanted n) refl
        by false s = ap (sign wanted) (first_no_sign s).2

    pub not_empty_found : is_empty (pieces text) ≡ false
    not_empty_found = by (is_sign c) refl
      where
        by : (b : Bool) → is_sign c ≡ b → is_empty (pieces text) ≡ false
        by true s = ap is_empty (first_sign s)
        by false s = ap is_empty (first_no_sign s).2

  pub empty_found : unblanked text ≡ [] → pieces text ≡ []
  empty_found e = sym (blank_front text) ∙ ap pieces e

  pub word_found : word_len (unblanked text) ≢ 0 → word (pieces text) ≡ Ok (take (word_len (unblanked text)) (unblanked text), pieces (drop (word_len (unblanked text)) (unblanked text)))
  word_found some = ap word (sym (blank_front text) ∙ first_word (unblanked text) some)

  pub no_word_found : word_len (unblanked text) ≡ 0 → word (pieces text) ≡ Err Form
  no_word_found none = by (unblanked text) refl none
    where
      by_sign : (c : ℕ) (cs : List ℕ) (e : unblanked text ≡ c ∷ cs) → word_len (c ∷ cs) ≡ 0 → (b : Bool) → is_sign c ≡ b → word (pieces text) ≡ Err Form
      by_sign c cs e h true s = ap word (first_sign c cs e s)
      by_sign c cs e h false s = absurd (some (c == 58) (rw (no_blank_front text c cs e, s) at h))
        where
          some : (b : Bool) → cond b 1 (suc (word_len cs)) ≢ 0
          some true h = cc
          some false h = cc

      by : (u : List ℕ) → unblanked text ≡ u → word_len u ≡ 0 → word (pieces text) ≡ Err Form
      by [] e h = ap word (empty_found e)
      by (c ∷ cs) e h = by_sign c cs e h (is_sign c) refl

  -- the same of what the code has in hand: u is the text behind its blanks
  module _ (u : List ℕ) (same : u ≡ unblanked text) where
    pub sign_at : (wanted : ℕ) → 1 ≤ length u → get_or u 0 0 ≡ wanted → is_sign wanted ≡ true → sign wanted (pieces text) ≡ Ok (pieces (take (length u - 1) (drop 1 u)))
    sign_at wanted some first s = by u same some first
      where
        by : (v : List ℕ) → v ≡ unblanked text → 1 ≤ length v → get_or v 0 0 ≡ wanted → sign wanted (pieces text) ≡ Ok (pieces (take (length v - 1) (drop 1 v)))
        by [] e some first = absurd (omega arith)
        by (c ∷ cs) e some first =
            subst (λ w. sign w (pieces text) ≡ Ok (pieces cs)) first (sign_found c cs (sym e) (subst (λ w. is_sign w ≡ true) (sym first) s))
            ∙ ap (λ r. Ok (pieces r)) (sym (take_rest (c ∷ cs) 1))

    pub no_sign_at : (wanted : ℕ) → 1 ≤ length u → get_or u 0 0 ≢ wanted → sign wanted (pieces text) ≡ Err Form
    no_sign_at wanted some first = by u same some first
      where
        by : (v : List ℕ) → v ≡ unblanked text → 1 ≤ length v → get_or v 0 0 ≢ wanted → sign wanted (pieces text) ≡ Err Form
        by [] e some first = absurd (omega arith)
        by (c ∷ cs) e some first = no_sign_found c cs (sym e) wanted first

    pub empty_at : is_empty (pieces text) ≡ (length u == 0)
    empty_at = by u same
      where
        by : (v : List ℕ) → v ≡ unblanked text → is_empty (pieces text) ≡ (length v == 0)
        by [] e = ap is_empty (empty_found (sym e))
        by (c ∷ cs) e = not_empty_found c cs (sym e) ∙ sym (ne_eqb (length (c ∷ cs)) 0 (λ z. omega (arith, z)))

    pub word_at : (n : ℕ) → n ≡ word_len u → n ≢ 0 → word (pieces text) ≡ Ok (take n u, pieces (drop n u))
    word_at n len some = rw (len, same) (word_found (λ none. some (len ∙ ap word_len same ∙ none)))

    pub no_word_at : (n : ℕ) → n ≡ word_len u → n ≡ 0 → word (pieces text) ≡ Err Form
    no_word_at n len none = no_word_found (sym (ap word_len same) ∙ sym len ∙ none)

    pub no_sign_in_empty : (wanted : ℕ) → length u < 1 → sign wanted (pieces text) ≡ Err Form
    no_sign_in_empty wanted none = by u same none
      where
        by : (v : List ℕ) → v ≡ unblanked text → length v < 1 → sign wanted (pieces text) ≡ Err Form
        by [] e h = ap (sign wanted) (empty_found (sym e))
        by (c ∷ cs) e h = absurd (omega arith)
