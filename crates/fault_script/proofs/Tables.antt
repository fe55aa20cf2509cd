-- Texts are found at their first places in a list.
use Rattle.std.proofs.Common.{◌≡◌, ℕ, zero, suc, ◌+◌, ◌<◌, ◌≤◌, Bool, true, false, cond, List, [], ◌∷◌, ◌++◌, map, length, drop, get_or, take, Option, None, Some, bytes_eq, inl, inr, refl, sym, ap, subst, ◌∙◌, arith}
use Rattle.std.specs.Prelude.{if◌then◌else◌, slice_get}
use Rattle.std.specs.List.{AllByRecursion, position_from}
use Rattle.std.specs.Map.{lookup}
use Rattle.std.specs.declared.vec.Vec.{Vec}
use Rattle.std.proofs.lemmas.Bool.{true≢false}
use Rattle.std.proofs.lemmas.List.{drop_more, get_or-map, length-map}
use Rattle.std.proofs.lemmas.Option.{slice_get_read}
use Rattle.std.proofs.lemmas.Slice.Eq.{bytes_eq-Decides}
use Rattle.indexmap.specs.IndexMap.{insert_entry}
use Rattle.asm_names.specs.WellFormed.{IsDomain}
use Rattle.asm_names.specs.declared.program.Domain.{Domain}
use Rattle.asm_names.specs.declared.program.Resolved.{Resolved}
use Rattle.state_space.specs.Locations.{location_at, no_location, signatures_of, state_locations}
use Rattle.state_space.specs.declared.signature.Signature.{Signature}
use Rattle.fault_script.specs.Glossaries.{AreEnumerators}
use Rattle.fault_script.specs.Listing.{Lists, ListsFrom, position_in}
use Rattle.fault_script.specs.StateText.{location_name}
use Rattle.fault_script.specs.declared.positions.Positions.{Positions}

-- ---- a map

either-way : (b : Bool) (x y z : Option ℕ) → cond b x z ≡ cond b x (cond b y z)
either-way true x y z = refl
either-way false x y z = refl

in-turn : (text other key : List ℕ) (a b : Bool) (x y z : Option ℕ) → bytes_eq text other ≡ a → bytes_eq text key ≡ b → bytes_eq key other ≡ false → cond a x (cond b y z) ≡ cond b y (cond a x z)
in-turn text other key true true x y z p q r =
    let is : key ≡ other = sym ((bytes_eq-Decides text key).0 q) ∙ (bytes_eq-Decides text other).0 p in
    absurd (true≢false (sym ((bytes_eq-Decides key other).1 is) ∙ r))
in-turn text other key true false x y z p q r = refl
in-turn text other key false true x y z p q r = refl
in-turn text other key false false x y z p q r = refl

module _ {A : Type 0} where
  abbrev same : Vec ℕ A → Vec ℕ A → Bool
  same x y = bytes_eq x.items y.items

  -- a text is found as the entry that was put last
  pub put-found : (text : List ℕ) (es : List (Vec ℕ A × ℕ)) (k : Vec ℕ A) (n : ℕ)
      → lookup (λ key. bytes_eq text key.items) (insert_entry same es k n) ≡ (if bytes_eq text k.items then Some n else lookup (λ key. bytes_eq text key.items) es)
  put-found text [] k n = refl
  put-found text (e ∷ es) k n = by (bytes_eq k.items e.0.items) refl (put-found text es k n)
    where
      rest : Option ℕ
      rest = lookup (λ key. bytes_eq text key.items) es

      by : (b : Bool) → bytes_eq k.items e.0.items ≡ b
          → lookup (λ key. bytes_eq text key.items) (insert_entry same es k n) ≡ (if bytes_eq text k.items then Some n else rest)
          → lookup (λ key. bytes_eq text key.items) (if b then (e.0, n) ∷ es else e ∷ insert_entry same es k n)
          ≡ (if bytes_eq text k.items then Some n else cond (bytes_eq text e.0.items) (Some e.1) rest)
      by true p later =
          let is : k.items ≡ e.0.items = (bytes_eq-Decides k.items e.0.items).0 p in
          either-way (bytes_eq text e.0.items) (Some n) (Some e.1) rest
          ∙ ap (λ other. cond (bytes_eq text other) (Some n) (cond (bytes_eq text e.0.items) (Some e.1) rest)) (sym is)
      by false p later =
          ap (cond (bytes_eq text e.0.items) (Some e.1)) later
          ∙ in-turn text e.0.items k.items (bytes_eq text e.0.items) (bytes_eq text k.items) (Some e.1) (Some n) rest refl refl p

-- ---- a list, the last text first

none-left : (texts : List (List ℕ)) → drop (length texts) texts ≡ []
none-left [] = refl
none-left (text ∷ texts) = none-left texts

-- no text is listed yet
pub none-listed : (table : Positions) (texts : List (List ℕ)) (n : ℕ) → n ≡ length texts → ((text : List ℕ) → position_in table text ≡ None) → ListsFrom table n (drop n texts)
none-listed table texts n is none = λ text. none text ∙ sym (ap (λ i. position_from (bytes_eq text) n (drop i texts)) is ∙ ap (position_from (bytes_eq text) n) (none-left texts))

-- one text more is listed
pub one-listed : (old new : Positions) (texts : List (List ℕ)) (left i : ℕ) (name : List ℕ) → left ≡ i + 1 → i < length texts → name ≡ get_or texts i []
    → ((text : List ℕ) → position_in new text ≡ (if bytes_eq text name then Some i else position_in old text)) → ListsFrom old left (drop left texts) → ListsFrom new i (drop i texts)
one-listed old new texts left i name next below is put listed = λ text.
    put text
    ∙ ap (λ word. if bytes_eq text word then Some i else position_in old text) is
    ∙ ap (λ found. if bytes_eq text (get_or texts i []) then Some i else found) (listed text ∙ ap (λ n. position_from (bytes_eq text) n (drop n texts)) next)
    ∙ ap (position_from (bytes_eq text) i) (sym (drop_more texts i [] below))

-- what is found stands in the list
pub position-below : {A : Type 0} (test : A → Bool) (i : ℕ) (xs : List A) (k : ℕ) → position_from test i xs ≡ Some k → k < i + length xs
position-below test i [] k e = absurd cc
position-below test i (x ∷ xs) k e = by (test x) (position-below test (i + 1) xs k) e
  where
    by : (b : Bool) → (position_from test (i + 1) xs ≡ Some k → k < (i + 1) + length xs) → cond b (Some i) (position_from test (i + 1) xs) ≡ Some k → k < i + length (x ∷ xs)
    by true later e = let is : i ≡ k = cc in omega arith
    by false later e = let h = later e in omega arith

-- ---- locations

module _ (program : Resolved) (space : List Signature) (place : ℕ) (spaces : space ≡ signatures_of program) (inside : place < length (state_locations space)) where
  abbrev names : List (List ℕ)
  names = map (location_name program) (state_locations (signatures_of program))

  pub is-named : place < length names
  is-named = omega (arith, length-map (state_locations (signatures_of program)) (location_name program), ap (λ s. length (state_locations s)) spaces)

  -- what was written is the name of the location at this place
  pub written : (empty new : List ℕ) → empty ≡ [] → new ≡ empty ++ location_name program (location_at space place) → new ≡ get_or names place []
  written empty new e w =
      w ∙ ap (λ front. front ++ location_name program (location_at space place)) e ∙ ap (λ s. location_name program (location_at s place)) spaces
      ∙ sym (get_or-map (location_name program) (state_locations (signatures_of program)) place no_location [] (omega (arith, ap (λ s. length (state_locations s)) spaces)))

-- what is found is a location
pub place-within : (program : Resolved) (space : List Signature) (table : Positions) (text : List ℕ) (place : ℕ) → space ≡ signatures_of program
    → Lists table (map (location_name program) (state_locations (signatures_of program))) → position_in table text ≡ Some place → place < length (state_locations space)
place-within program space table text place spaces lists found =
    let names = map (location_name program) (state_locations (signatures_of program)) in
    omega (
      arith,
      position-below (bytes_eq text) 0 names place (sym (lists text) ∙ found),
      length-map (state_locations (signatures_of program)) (location_name program),
      ap (λ s. length (state_locations s)) spaces,
    )

-- ---- domains

-- a domain has few enumerators
pub few-names : (domain : Domain) → IsDomain domain → length domain.items ≤ 65536
few-names domain is =
    elim is.names [
      | inl none ↦ (let e = ap length none in omega arith)
      | inr some ↦ (let e = some.0 in let f = is.few in omega arith)
    ]

pub domain-at : (domains : List Domain) (n : ℕ) (d : Domain) → AllByRecursion IsDomain domains → slice_get domains n ≡ Some d → IsDomain d
domain-at [] n d all e = absurd cc
domain-at (x ∷ xs) zero d all e = let is : x ≡ d = cc in subst IsDomain is all.0
domain-at (x ∷ xs) (suc n) d all e = domain-at xs n d all.1 e

-- one domain's enumerators more
one-table : (tables : List Positions) (domains : List Domain) (n : ℕ) (table : Positions) (d : Domain) → AreEnumerators tables (take n domains) → slice_get domains n ≡ Some d → Lists table d.items
    → AreEnumerators (tables ++ table ∷ []) (take (suc n) domains)
one-table tables [] n table d are e lists = absurd cc
one-table [] (x ∷ xs) zero table d are e lists = let is : d ≡ x = cc in (subst (λ (y : Domain). Lists table y.items) is lists, tt)
one-table [] (x ∷ xs) (suc n) table d are e lists = absurd are
one-table (t ∷ ts) (x ∷ xs) zero table d are e lists = absurd are
one-table (t ∷ ts) (x ∷ xs) (suc n) table d are e lists = (are.0, one-table ts xs n table d are.1 e lists)

pub one-table-more : (tables : List Positions) (domains : List Domain) (n : ℕ) (table : Positions) (d : Domain) → AreEnumerators tables (take n domains) → slice_get domains n ≡ Some d → Lists table d.items
    → AreEnumerators (tables ++ table ∷ []) (take (n + 1) domains)
one-table-more tables domains n table d are e lists =
    let next : suc n ≡ n + 1 = omega arith in
    subst (λ k. AreEnumerators (tables ++ table ∷ []) (take k domains)) next (one-table tables domains n table d are e lists)

pub tables-long : (tables : List Positions) (domains : List Domain) → AreEnumerators tables domains → length tables ≡ length domains
tables-long [] [] are = refl
tables-long [] (x ∷ xs) are = absurd are
tables-long (t ∷ ts) [] are = absurd are
tables-long (t ∷ ts) (x ∷ xs) are = ap suc (tables-long ts xs are.1)

-- the table with a domain's number has its enumerators
pub table-at : (tables : List Positions) (domains : List Domain) (n : ℕ) (t : Positions) (d : Domain) → AreEnumerators tables domains → slice_get tables n ≡ Some t → slice_get domains n ≡ Some d → Lists t d.items
table-at [] domains n t d are e f = absurd cc
table-at (x ∷ xs) [] n t d are e f = absurd cc
table-at (x ∷ xs) (y ∷ ys) zero t d are e f =
    let is : x ≡ t = cc in
    let of : y ≡ d = cc in
    subst (λ (z : Domain). Lists t z.items) of (subst (λ z. Lists z y.items) is are.0)
table-at (x ∷ xs) (y ∷ ys) (suc n) t d are e f = table-at xs ys n t d are.1 e f

-- an item that is read by its number
pub item-read : {A : Type 0} (items read : List A) (n : ℕ) (x : A) → read ≡ items → n < length items → x ≡ get_or read n x → slice_get items n ≡ Some x
item-read items read n x same below is = slice_get_read items (length items) n x refl below (is ∙ ap (λ xs. get_or xs n x) same)
