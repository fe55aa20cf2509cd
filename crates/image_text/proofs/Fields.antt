-- The fields of a line hold no space, and its lines no line feed.
use Rattle.std.proofs.Common.{◌≡◌, ℕ, zero, suc, ◌/◌, ◌%◌, Bool, true, false, ltb, ℤ, pos, negsuc, List, [], ◌∷◌, ◌++◌, refl, arith, ◌==◌}
use Rattle.std.specs.Prelude.{if◌then◌else◌, slice_get, slice_index_or, unwrap_or}
use Rattle.std.specs.Fmt.{decimal, digit_glyph, digits, digits_onto, signed_decimal}
use Rattle.std.specs.List.{AllByRecursion}
use Rattle.std.proofs.lemmas.Bool.{and_parts, and_from, ltb-true, lt-ltb}
use Rattle.std.proofs.lemmas.Bool.Decides.{nat_tests}
use Rattle.text_core.specs.Hexadecimal.{glyph, hex8}
use Rattle.text_core.specs.WrittenLines.{◌␣◌}
use Rattle.asm_tree.specs.Names.{IsName, is_word, all_word}
use Rattle.asm_names.specs.declared.program.Domain.{Domain}
use Rattle.asm_names.specs.declared.program.Fun.{Fun}
use Rattle.asm_names.specs.declared.program.Resolved.{Resolved}
use Rattle.state_space.specs.Locations.{Location}
use Rattle.asm_ranges.specs.Values.{fun_of, no_fun}
use Rattle.fault_script.specs.StateText.{argument_texts, closing, domain_of, parted, value_text}
use Rattle.image_text.specs.Report.{AreNamed, location_name}
use Rattle.image_text.proofs.Parting.{above}

-- a field
abbrev pub IsField : List ℕ → Type 0
IsField xs = above 32 xs ≡ true

-- a line
abbrev pub IsLine : List ℕ → Type 0
IsLine xs = above 10 xs ≡ true

pub one_field : (xs : List ℕ) → IsField xs → IsLine xs
one_field [] f = refl
one_field (x ∷ xs) f =
    let parts = and_parts (ltb 32 x) (above 32 xs) f in
    let more = ltb-true 32 x parts.0 in
    and_from (ltb 10 x) (above 10 xs) (lt-ltb 10 x (omega arith)) (one_field xs parts.1)

pub one_more_field : (xs ys : List ℕ) → IsField xs → IsLine ys → IsLine (xs ␣ ys)
one_more_field [] ys f g = g
one_more_field (x ∷ xs) ys f g =
    let parts = and_parts (ltb 32 x) (above 32 xs) f in
    let more = ltb-true 32 x parts.0 in
    and_from (ltb 10 x) (above 10 (xs ␣ ys)) (lt-ltb 10 x (omega arith)) (one_more_field xs ys parts.1 g)

both_fields : (xs ys : List ℕ) → IsField xs → IsField ys → IsField (xs ++ ys)
both_fields [] ys f g = g
both_fields (x ∷ xs) ys f g =
    let parts = and_parts (ltb 32 x) (above 32 xs) f in
    and_from (ltb 32 x) (above 32 (xs ++ ys)) parts.0 (both_fields xs ys parts.1 g)

-- ---- numbers
digit_above : (d : ℕ) → ltb 32 (digit_glyph false d) ≡ true
digit_above d = grind (arith, nat_tests)

digits_above : (k n : ℕ) (behind : List ℕ) → IsField behind → IsField (digits_onto k 10 false n behind)
digits_above zero n behind f = f
digits_above (suc k) n behind f =
    let one : IsField (digit_glyph false (n % 10) ∷ behind) = and_from (ltb 32 (digit_glyph false (n % 10))) (above 32 behind) (digit_above (n % 10)) f in
    by (n / 10 == 0) (digit_glyph false (n % 10) ∷ behind) (digits_onto k 10 false (n / 10) (digit_glyph false (n % 10) ∷ behind)) one (digits_above k (n / 10) (digit_glyph false (n % 10) ∷ behind) one)
  where
    by : (b : Bool) (xs ys : List ℕ) → IsField xs → IsField ys → IsField (if b then xs else ys)
    by true xs ys f g = f
    by false xs ys f g = g

pub decimal_field : (n : ℕ) → IsField (decimal n)
unfolding digits
decimal_field n = digits_above 64 n [] refl

pub signed_field : (z : ℤ) → IsField (signed_decimal z)
signed_field (pos n) = decimal_field n
signed_field (negsuc n) = decimal_field (suc n)

glyph_above : (d : ℕ) → ltb 32 (glyph d) ≡ true
glyph_above d = grind (arith, nat_tests)

pub hex8_field : (n : ℕ) → IsField (hex8 n)
unfolding hex8
hex8_field n = simp glyph_above

-- ---- names
word_above : (b : ℕ) → is_word b ≡ true → ltb 32 b ≡ true
word_above b e = grind (arith, nat_tests)

word_field : (bs : List ℕ) → all_word bs ≡ true → IsField bs
word_field [] e = refl
word_field (b ∷ bs) e =
    let parts = and_parts (is_word b) (all_word bs) e in
    and_from (ltb 32 b) (above 32 bs) (word_above b parts.0) (word_field bs parts.1)

pub name_field : (w : List ℕ) → IsName w → IsField w
name_field w name = word_field w name.bytes

-- ---- locations
item_field : (names : List (List ℕ)) (k : ℕ) (d : List ℕ) → AllByRecursion IsName names → IsField d → IsField (unwrap_or (slice_get names k) d)
item_field [] k d all f = f
item_field (w ∷ names) zero d all f = name_field w all.0
item_field (w ∷ names) (suc k) d all f = item_field names k d all.1 f

value_field : (domain : Domain) (value : ℤ) → AllByRecursion IsName domain.items → IsField (value_text domain value)
value_field domain (pos k) all = item_field domain.items k (signed_decimal (pos k)) all (signed_field (pos k))
value_field domain (negsuc k) all = signed_field (negsuc k)

items_named : (domains : List Domain) (n : ℕ) → AllByRecursion (λ domain. AllByRecursion IsName domain.items) domains → AllByRecursion IsName (domain_of domains n).items
items_named [] n all = tt
items_named (d ∷ domains) zero all = all.0
items_named (d ∷ domains) (suc n) all = items_named domains n all.1

arguments_field : (domains : List Domain) (opening : ℕ) (numbers : List ℕ) (values : List ℤ) → AllByRecursion (λ domain. AllByRecursion IsName domain.items) domains
    → ltb 32 opening ≡ true → IsField (parted opening (argument_texts domains numbers values))
arguments_field domains opening [] values all f = refl
arguments_field domains opening (n ∷ numbers) [] all f = refl
arguments_field domains opening (n ∷ numbers) (v ∷ values) all f =
    let text : List ℕ = value_text (domain_of domains n) v in
    both_fields (opening ∷ text) (parted 44 (argument_texts domains numbers values)) (and_from (ltb 32 opening) (above 32 text) f (value_field (domain_of domains n) v (items_named domains n all)))
    (arguments_field domains 44 numbers values all refl)

closing_field : (numbers : List ℕ) → IsField (closing numbers)
closing_field [] = refl
closing_field (n ∷ numbers) = refl

function_field : (funs : List Fun) (n : ℕ) → AllByRecursion (λ fun. IsName fun.name) funs → IsField (slice_index_or funs n no_fun).name
function_field [] n all = refl
function_field (f ∷ funs) zero all = name_field f.name all.0
function_field (f ∷ funs) (suc n) all = function_field funs n all.1

pub location_field : (program : Resolved) (location : Location) → AreNamed program → IsField (location_name program location)
location_field program location named =
    let fun : Fun = fun_of program location.fun in
    let arguments : List ℕ = parted 40 (argument_texts program.domains fun.args location.args) in
    both_fields fun.name (arguments ++ closing fun.args) (function_field program.funs location.fun named.functions)
    (both_fields arguments (closing fun.args) (arguments_field program.domains 40 fun.args location.args named.enumerators refl) (closing_field fun.args))
