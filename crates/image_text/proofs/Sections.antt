-- Lines that stand together are told by their first byte.
use Rattle.std.proofs.Common.{◌≡◌, ℕ, ◌+◌, true, false, List, [], ◌∷◌, ◌++◌, map, refl, sym, subst}
use Rattle.std.specs.List.{AllByRecursion}
use Rattle.std.proofs.lemmas.Bool.{both_ways}
use Rattle.text_core.specs.Fields.{begins}
use Rattle.state_space.specs.Locations.{Location}
use Rattle.image_text.specs.Report.{numbered}
use Rattle.image_text.proofs.Parting.{AreLines, heads}
use Rattle.image_text.proofs.Fields.{IsLine}

-- each line begins with the byte
abbrev pub AllBegin : ℕ → List (List ℕ) → Type 0
AllBegin b lines = AllByRecursion (λ line. begins b line ≡ true) lines

-- the first line, if there is one, begins with another
abbrev pub Elsewhere : ℕ → List (List ℕ) → Type 0
Elsewhere b [] = Unit {0}
Elsewhere b (line ∷ lines) = begins b line ≡ false

not-here : (b : ℕ) (lines : List (List ℕ)) (line : List ℕ) (more : List (List ℕ)) → Elsewhere b lines → begins b line ≡ true → lines ≡ line ∷ more → ⊥
not-here b lines line more other here e =
    let no : begins b line ≡ false = subst (Elsewhere b) e other in both_ways _ no here

pub same-front : (b : ℕ) (xs ys rest rest' : List (List ℕ)) → AllBegin b xs → AllBegin b ys → Elsewhere b rest → Elsewhere b rest' → xs ++ rest ≡ ys ++ rest' → (xs ≡ ys) × (rest ≡ rest')
same-front b [] [] rest rest' f g o p e = (refl, e)
same-front b [] (y ∷ ys) rest rest' f g o p e = absurd (not-here b rest y (ys ++ rest') o g.0 e)
same-front b (x ∷ xs) [] rest rest' f g o p e = absurd (not-here b rest' x (xs ++ rest) p f.0 (sym e))
same-front b (x ∷ xs) (y ∷ ys) rest rest' f g o p e =
    let parts = heads x y (xs ++ rest) (ys ++ rest') e in
    let more = same-front b xs ys rest rest' f.1 g.1 o p parts.1 in
    (cc, more.1)

module _ (line : ℕ → Location → List ℕ) where
  pub all-begin : (b n : ℕ) (locations : List Location) → ((m : ℕ) (l : Location) → begins b (line m l) ≡ true) → AllBegin b (numbered line n locations)
  all-begin b n [] h = tt
  all-begin b n (l ∷ ls) h = (h n l, all-begin b (n + 1) ls h)

  pub elsewhere : (b n : ℕ) (locations : List Location) (rest : List (List ℕ)) → ((m : ℕ) (l : Location) → begins b (line m l) ≡ false) → Elsewhere b rest → Elsewhere b (numbered line n locations ++ rest)
  elsewhere b n [] rest h o = o
  elsewhere b n (l ∷ ls) rest h o = h n l

  pub all-lines : (n : ℕ) (locations : List Location) → ((m : ℕ) (l : Location) → IsLine (line m l)) → AreLines (numbered line n locations)
  all-lines n [] h = tt
  all-lines n (l ∷ ls) h = (h n l, all-lines (n + 1) ls h)

-- the same lines tell the same of their locations
pub same-told : {A : Type 0} (line line' : ℕ → Location → List ℕ) (told told' : Location → A) (Good Good' : Location → Type 0)
    → ((n : ℕ) (l m : Location) → Good l → Good' m → line n l ≡ line' n m → told l ≡ told' m)
    → (n : ℕ) (ls ms : List Location) → AllByRecursion Good ls → AllByRecursion Good' ms → numbered line n ls ≡ numbered line' n ms → map told ls ≡ map told' ms
same-told line line' told told' Good Good' h n [] [] f g e = refl
same-told line line' told told' Good Good' h n [] (m ∷ ms) f g e = absurd cc
same-told line line' told told' Good Good' h n (l ∷ ls) [] f g e = absurd cc
same-told line line' told told' Good Good' h n (l ∷ ls) (m ∷ ms) f g e =
    let parts = heads (line n l) (line' n m) (numbered line (n + 1) ls) (numbered line' (n + 1) ms) e in
    let first = h n l m f.0 g.0 parts.0 in
    let rest = same-told line line' told told' Good Good' h (n + 1) ls ms f.1 g.1 parts.1 in
    cc
