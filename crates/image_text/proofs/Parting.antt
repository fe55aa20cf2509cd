-- A text parts in one way at a separator that is below all bytes before it, and so does a text of lines.
use Rattle.std.proofs.Common.{◌≡◌, ℕ, Bool, true, ◌&&◌, ltb, List, [], ◌∷◌, ◌++◌, refl, sym, ◌∙◌, append_assoc, arith}
use Rattle.std.proofs.lemmas.Bool.{and_parts, ltb-true}
use Rattle.text_core.specs.WrittenLines.{lines_text}

-- each byte is greater than the separator
abbrev pub above : ℕ → List ℕ → Bool
above c [] = true
above c (x ∷ xs) = ltb c x && above c xs

-- no line holds a line feed, nor any byte below it
abbrev pub AreLines : List (List ℕ) → Type 0
AreLines [] = Unit {0}
AreLines (l ∷ ls) = (above 10 l ≡ true) × AreLines ls

pub AreLines-append : (ls ms : List (List ℕ)) → AreLines ls → AreLines ms → AreLines (ls ++ ms)
AreLines-append [] ms f g = g
AreLines-append (l ∷ ls) ms f g = (f.0, AreLines-append ls ms f.1 g)

pub heads : {A : Type 0} (x y : A) (xs ys : List A) → x ∷ xs ≡ y ∷ ys → (x ≡ y) × (xs ≡ ys)
heads x y xs ys e = (cc, cc)

-- a byte above the separator is not it
other : (c x : ℕ) (xs : List ℕ) → above c (x ∷ xs) ≡ true → x ≡ c → ⊥
other c x xs f e =
    let more = ltb-true c x (and_parts (ltb c x) (above c xs) f).0 in
    omega arith

pub apart : (c : ℕ) (xs ys us vs : List ℕ) → above c xs ≡ true → above c ys ≡ true → xs ++ c ∷ us ≡ ys ++ c ∷ vs → (xs ≡ ys) × (us ≡ vs)
apart c [] [] us vs f g e = (refl, (heads c c us vs e).1)
apart c [] (y ∷ ys) us vs f g e = absurd (other c y ys g (sym (heads c y us (ys ++ c ∷ vs) e).0))
apart c (x ∷ xs) [] us vs f g e = absurd (other c x xs f (heads x c (xs ++ c ∷ us) vs e).0)
apart c (x ∷ xs) (y ∷ ys) us vs f g e =
    let h = heads x y (xs ++ c ∷ us) (ys ++ c ∷ vs) e in
    let rest = apart c xs ys us vs (and_parts (ltb c x) (above c xs) f).1 (and_parts (ltb c y) (above c ys) g).1 h.1 in
    (cc, rest.1)

some : (c : ℕ) (xs us : List ℕ) → [] ≡ xs ++ c ∷ us → ⊥
some c [] us e = cc
some c (x ∷ xs) us e = cc

pub same_lines : (ls ms : List (List ℕ)) → AreLines ls → AreLines ms → lines_text ls ≡ lines_text ms → ls ≡ ms
same_lines [] [] f g e = refl
same_lines [] (m ∷ ms) f g e = absurd (some 10 m (lines_text ms) (e ∙ append_assoc m (10 ∷ []) (lines_text ms)))
same_lines (l ∷ ls) [] f g e = absurd (some 10 l (lines_text ls) (sym e ∙ append_assoc l (10 ∷ []) (lines_text ls)))
same_lines (l ∷ ls) (m ∷ ms) f g e =
    let h = apart 10 l m (lines_text ls) (lines_text ms) f.0 g.0
    (sym (append_assoc l (10 ∷ []) (lines_text ls)) ∙ e ∙ append_assoc m (10 ∷ []) (lines_text ms)) in
    let rest = same_lines ls ms f.1 g.1 h.1 in
    cc (h.0, rest)
