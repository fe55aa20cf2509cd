-- What the spellings of tokens begin with, and that no two tokens share one.
use Rattle.std.proofs.Common.{◌≡◌, ◌≢◌, ℕ, ◌<◌, ◌≤◌, Bool, true, false, cond, eqb, leb, List, [], ◌∷◌, ◌++◌, length, get_or, Option, Some, None, refl, sym, ap, subst, ◌∙◌, arith, ◌&&◌, ◌||◌, if◌then◌else◌, inl, inr}
use Rattle.std.specs.Prelude.{codes}
use Rattle.std.specs.Char.{is_ascii_alphabetic, is_ascii_digit}
use Rattle.std.specs.Fmt.{decimal}
use Rattle.std.specs.Str.{bytes_eq, all_ascii_digits}
use Rattle.std.proofs.lemmas.Bool.{and_parts, and_from, or_cases, leb-true, false≢true}
use Rattle.std.proofs.lemmas.Fmt.{digits_decimal, decimal_nonempty, decimal_injective}
use Rattle.std.proofs.lemmas.Str.Parse.{IsNumeralModel, numerals_by_value, tells_all_ascii_digits}
use Rattle.std.specs.Str.Parse.{digits_value}
use Rattle.asm_tree.specs.declared.key.Key.{Key}
use Rattle.asm_tree.specs.declared.key.Key.TheVariants as keys
use Rattle.asm_tokens.specs.declared.token.Sign.{Sign}
use Rattle.asm_tokens.specs.declared.token.Sign.TheVariants as signs
use Rattle.asm_tokens.specs.declared.token.TokenKind.{TokenKind}
use Rattle.asm_tokens.specs.declared.token.TokenKind.TheVariants as kinds
use Rattle.asm_tokens.specs.Lexing.{is_word, all_word, begins_word, begins_letter, begins_equals, key_bytes, sign_bytes, spelling, IsName, IsToken, sign_goes_on, goes_on, sign_at, IsBadByte, IsBadWord}
use Rattle.std.proofs.lemmas.List.{length-append}
use Rattle.asm_tokens.specs.LexingEnds.{IsWordKind}
use Rattle.asm_tokens.proofs.Words.{same_run}

abbrev pub begins_digit : List ℕ → Bool
begins_digit [] = false
begins_digit (b ∷ z) = is_ascii_digit b

-- ---- keywords

key_word : (k : Key) → all_word (key_bytes k) ≡ true
key_word keys.Machine = refl
key_word keys.Domain = refl
key_word keys.To = refl
key_word keys.Controlled = refl
key_word keys.Input = refl
key_word keys.Output = refl
key_word keys.Static = refl
key_word keys.Legal = refl
key_word keys.Rule = refl
key_word keys.Skip = refl
key_word keys.If = refl
key_word keys.Then = refl
key_word keys.Else = refl
key_word keys.End = refl
key_word keys.Par = refl
key_word keys.Forall = refl
key_word keys.In = refl
key_word keys.With = refl
key_word keys.Do = refl
key_word keys.Choose = refl
key_word keys.Let = refl
key_word keys.Not = refl
key_word keys.Min = refl
key_word keys.Max = refl
key_word keys.Cond = refl
key_word keys.And = refl
key_word keys.Or = refl

key_letter : (k : Key) → begins_letter (key_bytes k) ≡ true
key_letter keys.Machine = refl
key_letter keys.Domain = refl
key_letter keys.To = refl
key_letter keys.Controlled = refl
key_letter keys.Input = refl
key_letter keys.Output = refl
key_letter keys.Static = refl
key_letter keys.Legal = refl
key_letter keys.Rule = refl
key_letter keys.Skip = refl
key_letter keys.If = refl
key_letter keys.Then = refl
key_letter keys.Else = refl
key_letter keys.End = refl
key_letter keys.Par = refl
key_letter keys.Forall = refl
key_letter keys.In = refl
key_letter keys.With = refl
key_letter keys.Do = refl
key_letter keys.Choose = refl
key_letter keys.Let = refl
key_letter keys.Not = refl
key_letter keys.Min = refl
key_letter keys.Max = refl
key_letter keys.Cond = refl
key_letter keys.And = refl
key_letter keys.Or = refl

key_from : List ℕ → Key
key_from w =
    if bytes_eq w (codes "machine") then keys.Machine
    else (if bytes_eq w (codes "domain") then keys.Domain
    else (if bytes_eq w (codes "to") then keys.To
    else (if bytes_eq w (codes "controlled") then keys.Controlled
    else (if bytes_eq w (codes "input") then keys.Input
    else (if bytes_eq w (codes "output") then keys.Output
    else (if bytes_eq w (codes "static") then keys.Static
    else (if bytes_eq w (codes "legal") then keys.Legal
    else (if bytes_eq w (codes "rule") then keys.Rule
    else (if bytes_eq w (codes "skip") then keys.Skip
    else (if bytes_eq w (codes "if") then keys.If
    else (if bytes_eq w (codes "then") then keys.Then
    else (if bytes_eq w (codes "else") then keys.Else
    else (if bytes_eq w (codes "end") then keys.End
    else (if bytes_eq w (codes "par") then keys.Par
    else (if bytes_eq w (codes "forall") then keys.Forall
    else (if bytes_eq w (codes "in") then keys.In
    else (if bytes_eq w (codes "with") then keys.With
    else (if bytes_eq w (codes "do") then keys.Do
    else (if bytes_eq w (codes "choose") then keys.Choose
    else (if bytes_eq w (codes "let") then keys.Let
    else (if bytes_eq w (codes "not") then keys.Not
    else (if bytes_eq w (codes "min") then keys.Min
    else (if bytes_eq w (codes "max") then keys.Max
    else (if bytes_eq w (codes "cond") then keys.Cond
    else (if bytes_eq w (codes "and") then keys.And
    else keys.Or)))))))))))))))))))))))))

key_from_bytes : (k : Key) → key_from (key_bytes k) ≡ k
unfolding key_from
key_from_bytes keys.Machine = refl
key_from_bytes keys.Domain = refl
key_from_bytes keys.To = refl
key_from_bytes keys.Controlled = refl
key_from_bytes keys.Input = refl
key_from_bytes keys.Output = refl
key_from_bytes keys.Static = refl
key_from_bytes keys.Legal = refl
key_from_bytes keys.Rule = refl
key_from_bytes keys.Skip = refl
key_from_bytes keys.If = refl
key_from_bytes keys.Then = refl
key_from_bytes keys.Else = refl
key_from_bytes keys.End = refl
key_from_bytes keys.Par = refl
key_from_bytes keys.Forall = refl
key_from_bytes keys.In = refl
key_from_bytes keys.With = refl
key_from_bytes keys.Do = refl
key_from_bytes keys.Choose = refl
key_from_bytes keys.Let = refl
key_from_bytes keys.Not = refl
key_from_bytes keys.Min = refl
key_from_bytes keys.Max = refl
key_from_bytes keys.Cond = refl
key_from_bytes keys.And = refl
key_from_bytes keys.Or = refl

same_key : (k l : Key) → key_bytes k ≡ key_bytes l → k ≡ l
same_key k l e = sym (key_from_bytes k) ∙ ap key_from e ∙ key_from_bytes l

-- ---- signs

pub sign_no_word : (s : Sign) (rest : List ℕ) → begins_word (sign_bytes s ++ rest) ≡ false
sign_no_word signs.Assign rest = refl
sign_no_word signs.Ne rest = refl
sign_no_word signs.Le rest = refl
sign_no_word signs.Ge rest = refl
sign_no_word signs.LeftParen rest = refl
sign_no_word signs.RightParen rest = refl
sign_no_word signs.LeftBrace rest = refl
sign_no_word signs.RightBrace rest = refl
sign_no_word signs.LeftBracket rest = refl
sign_no_word signs.RightBracket rest = refl
sign_no_word signs.Comma rest = refl
sign_no_word signs.Semicolon rest = refl
sign_no_word signs.Colon rest = refl
sign_no_word signs.Eq rest = refl
sign_no_word signs.Lt rest = refl
sign_no_word signs.Gt rest = refl
sign_no_word signs.Plus rest = refl
sign_no_word signs.Minus rest = refl

pub sign_bytes-positive : (s : Sign) → 0 < length (sign_bytes s)
sign_bytes-positive signs.Assign = omega arith
sign_bytes-positive signs.Ne = omega arith
sign_bytes-positive signs.Le = omega arith
sign_bytes-positive signs.Ge = omega arith
sign_bytes-positive signs.LeftParen = omega arith
sign_bytes-positive signs.RightParen = omega arith
sign_bytes-positive signs.LeftBrace = omega arith
sign_bytes-positive signs.RightBrace = omega arith
sign_bytes-positive signs.LeftBracket = omega arith
sign_bytes-positive signs.RightBracket = omega arith
sign_bytes-positive signs.Comma = omega arith
sign_bytes-positive signs.Semicolon = omega arith
sign_bytes-positive signs.Colon = omega arith
sign_bytes-positive signs.Eq = omega arith
sign_bytes-positive signs.Lt = omega arith
sign_bytes-positive signs.Gt = omega arith
sign_bytes-positive signs.Plus = omega arith
sign_bytes-positive signs.Minus = omega arith

no_equals : (y : List ℕ) → begins_equals y ≡ false → eqb (get_or y 0 0) 61 ≡ false
no_equals [] h = refl
no_equals (b ∷ y) h = h

second : List ℕ → ℕ
second z = get_or z 1 0

-- the sign whose bytes stand in front, where it doesn't go on
sign_at_is : (s : Sign) (y : List ℕ) → sign_goes_on s y ≡ false → sign_at (get_or (sign_bytes s ++ y) 0 0) (get_or (sign_bytes s ++ y) 1 0) ≡ Some s
sign_at_is signs.Assign y h = refl
sign_at_is signs.Ne y h = refl
sign_at_is signs.Le y h = refl
sign_at_is signs.Ge y h = refl
sign_at_is signs.LeftParen y h = refl
sign_at_is signs.RightParen y h = refl
sign_at_is signs.LeftBrace y h = refl
sign_at_is signs.RightBrace y h = refl
sign_at_is signs.LeftBracket y h = refl
sign_at_is signs.RightBracket y h = refl
sign_at_is signs.Comma y h = refl
sign_at_is signs.Semicolon y h = refl
sign_at_is signs.Colon y h = rw (no_equals y h) refl
sign_at_is signs.Eq y h = refl
sign_at_is signs.Lt y h = rw (no_equals y h) refl
sign_at_is signs.Gt y h = rw (no_equals y h) refl
sign_at_is signs.Plus y h = refl
sign_at_is signs.Minus y h = refl

either : (b : Bool) (s t : Sign) → cond b (Some s) (Some t) ≢ None
either true s t h = absurd cc
either false s t h = absurd cc

-- some sign stands where a sign's bytes do
sign_at_some : (s : Sign) (y : List ℕ) → sign_at (get_or (sign_bytes s ++ y) 0 0) (get_or (sign_bytes s ++ y) 1 0) ≢ None
sign_at_some signs.Assign y h = absurd cc
sign_at_some signs.Ne y h = absurd cc
sign_at_some signs.Le y h = absurd cc
sign_at_some signs.Ge y h = absurd cc
sign_at_some signs.LeftParen y h = absurd cc
sign_at_some signs.RightParen y h = absurd cc
sign_at_some signs.LeftBrace y h = absurd cc
sign_at_some signs.RightBrace y h = absurd cc
sign_at_some signs.LeftBracket y h = absurd cc
sign_at_some signs.RightBracket y h = absurd cc
sign_at_some signs.Comma y h = absurd cc
sign_at_some signs.Semicolon y h = absurd cc
sign_at_some signs.Colon y h = either (eqb (get_or y 0 0) 61) signs.Assign signs.Colon h
sign_at_some signs.Eq y h = absurd cc
sign_at_some signs.Lt y h = either (eqb (get_or y 0 0) 61) signs.Le signs.Lt h
sign_at_some signs.Gt y h = either (eqb (get_or y 0 0) 61) signs.Ge signs.Gt h
sign_at_some signs.Plus y h = absurd cc
sign_at_some signs.Minus y h = absurd cc

-- ---- numbers

own : IsNumeralModel (λ ds. all_ascii_digits ds ≡ true) (digits_value 10)
own = numerals_by_value _ tells_all_ascii_digits

word_by_digit : (a d u : Bool) → d ≡ true → ((a || d) || u) ≡ true
word_by_digit true d u h = refl
word_by_digit false d u h = rw h refl

digits_word : (ds : List ℕ) → all_ascii_digits ds ≡ true → all_word ds ≡ true
digits_word [] h = refl
digits_word (c ∷ cs) h =
    let p = and_parts (is_ascii_digit c) (all_ascii_digits cs) h in
    and_from (is_word c) (all_word cs) (word_by_digit (is_ascii_alphabetic c) (is_ascii_digit c) (eqb c 95) p.0) (digits_word cs p.1)

digits_begin : (ds : List ℕ) → all_ascii_digits ds ≡ true → 0 < length ds → begins_digit ds ≡ true
digits_begin [] h some = absurd (omega arith)
digits_begin (c ∷ cs) h some = (and_parts (is_ascii_digit c) (all_ascii_digits cs) h).0

decimal_digits : (n : ℕ) → n ≤ 2147483647 → all_ascii_digits (decimal n) ≡ true
decimal_digits n h = digits_decimal own n (omega arith)

decimal_begins : (n : ℕ) → n ≤ 2147483647 → begins_digit (decimal n) ≡ true
decimal_begins n h = digits_begin (decimal n) (decimal_digits n h) (decimal_nonempty n (omega arith))

letter_byte : (b : ℕ) → is_ascii_alphabetic b ≡ true → is_ascii_digit b ≡ true → ⊥
letter_byte b h d =
    let low = and_parts (leb 48 b) (leb b 57) d in
    let below = leb-true b 57 low.1 in
    elim (or_cases (leb 65 b && leb b 90) (leb 97 b && leb b 122) h) [
      | inl u ↦ let p = leb-true 65 b (and_parts (leb 65 b) (leb b 90) u).0 in omega (arith, p, below)
      | inr u ↦ let p = leb-true 97 b (and_parts (leb 97 b) (leb b 122) u).0 in omega (arith, p, below)
    ]

-- a letter is no digit
letter_no_digit : (w : List ℕ) → begins_letter w ≡ true → begins_digit w ≡ true → ⊥
letter_no_digit [] h d = false≢true h
letter_no_digit (b ∷ w) h d = letter_byte b h d

-- ---- tokens

pub spelling-positive : (k : TokenKind) → IsToken k → 0 < length (spelling k)
spelling-positive (kinds.Word []) t = absurd (false≢true t.begins)
spelling-positive (kinds.Word (b ∷ w)) t = omega arith
spelling-positive (kinds.Key k) t = some (key_bytes k) (key_letter k)
  where
    some : (w : List ℕ) → begins_letter w ≡ true → 0 < length w
    some [] h = absurd (false≢true h)
    some (b ∷ w) h = omega arith
spelling-positive (kinds.Number n) t = decimal_nonempty n (omega arith)
spelling-positive (kinds.Sign s) t = sign_bytes-positive s

pub token_word : (k : TokenKind) → IsToken k → IsWordKind k → all_word (spelling k) ≡ true
token_word (kinds.Word w) t h = t.bytes
token_word (kinds.Key k) t h = key_word k
token_word (kinds.Number n) t h = digits_word (decimal n) (decimal_digits n t)
token_word (kinds.Sign s) t h = absurd h

pub front_word : (w rest : List ℕ) → all_word w ≡ true → 0 < length w → begins_word (w ++ rest) ≡ true
front_word [] rest h some = absurd (omega arith)
front_word (b ∷ w) rest h some = (and_parts (is_word b) (all_word w) h).0

no_sign : (word : List ℕ) → all_word word ≡ true → (s : Sign) → sign_bytes s ≢ word
no_sign word w s e =
    let some = sign_bytes-positive s in
    false≢true (sym (sign_no_word s []) ∙ front_word (sign_bytes s) [] (ap all_word e ∙ w) some)

-- a word that begins with a digit is a token only if it is a number
pub no_number : (word : List ℕ) → begins_digit word ≡ true → ((n : ℕ) → n ≤ 2147483647 → decimal n ≢ word) → all_word word ≡ true → (k : TokenKind) → IsToken k → spelling k ≢ word
no_number word d none w (kinds.Word name) t e = letter_no_digit word (ap begins_letter (sym e) ∙ t.begins) d
no_number word d none w (kinds.Key k) t e = letter_no_digit word (ap begins_letter (sym e) ∙ key_letter k) d
no_number word d none w (kinds.Number n) t e = none n t e
no_number word d none w (kinds.Sign s) t e = no_sign word w s e

-- a word that begins with no digit is a token only if it is a keyword or a name
pub no_name : (word : List ℕ) → (begins_digit word ≡ true → ⊥) → ((k : Key) → key_bytes k ≢ word) → (IsName word → ⊥) → all_word word ≡ true → (k : TokenKind) → IsToken k → spelling k ≢ word
no_name word d none bad w (kinds.Word name) t e = bad (subst IsName e t)
no_name word d none bad w (kinds.Key k) t e = none k e
no_name word d none bad w (kinds.Number n) t e = d (ap begins_digit (sym e) ∙ decimal_begins n t)
no_name word d none bad w (kinds.Sign s) t e = no_sign word w s e

same_word : (j k : TokenKind) → IsToken j → IsToken k → IsWordKind j → IsWordKind k → spelling j ≡ spelling k → j ≡ k
same_word (kinds.Word v) (kinds.Word w) s t hj hk e = ap (λ x. kinds.Word x) e
same_word (kinds.Word v) (kinds.Key k) s t hj hk e = absurd (s.free k (sym e))
same_word (kinds.Word v) (kinds.Number n) s t hj hk e = absurd (letter_no_digit v s.begins (ap begins_digit e ∙ decimal_begins n t))
same_word (kinds.Key k) (kinds.Word w) s t hj hk e = absurd (t.free k e)
same_word (kinds.Key k) (kinds.Key l) s t hj hk e = ap (λ x. kinds.Key x) (same_key k l e)
same_word (kinds.Key k) (kinds.Number n) s t hj hk e = absurd (letter_no_digit (key_bytes k) (key_letter k) (ap begins_digit e ∙ decimal_begins n t))
same_word (kinds.Number n) (kinds.Word w) s t hj hk e = absurd (letter_no_digit w t.begins (ap begins_digit (sym e) ∙ decimal_begins n s))
same_word (kinds.Number n) (kinds.Key k) s t hj hk e = absurd (letter_no_digit (key_bytes k) (key_letter k) (ap begins_digit (sym e) ∙ decimal_begins n s))
same_word (kinds.Number n) (kinds.Number m) s t hj hk e = ap (λ x. kinds.Number x) (decimal_injective n m (omega arith) (omega arith) e)
same_word (kinds.Sign a) k s t hj hk e = absurd hj
same_word (kinds.Word v) (kinds.Sign b) s t hj hk e = absurd hk
same_word (kinds.Key v) (kinds.Sign b) s t hj hk e = absurd hk
same_word (kinds.Number v) (kinds.Sign b) s t hj hk e = absurd hk

pub word_front : (k : TokenKind) (rest : List ℕ) → IsToken k → IsWordKind k → begins_word (spelling k ++ rest) ≡ true
word_front k rest t h = front_word (spelling k) rest (token_word k t h) (spelling-positive k t)

words_same : (j k : TokenKind) (y z : List ℕ) → IsToken j → IsToken k → IsWordKind j → IsWordKind k → begins_word y ≡ false → begins_word z ≡ false → spelling j ++ y ≡ spelling k ++ z → (j ≡ k) × (y ≡ z)
words_same j k y z s t hj hk gj gk e =
    let r = same_run (spelling j) (spelling k) y z (token_word j s hj) (token_word k t hk) gj gk e in
    (same_word j k s t hj hk r.0, r.1)

tail_same : (x y z : List ℕ) → x ++ y ≡ x ++ z → y ≡ z
tail_same [] y z e = e
tail_same (a ∷ x) y z e = let f : x ++ y ≡ x ++ z = cc in tail_same x y z f

some_same : (s t : Sign) → ◌≡◌ {A = Option Sign} (Some s) (Some t) → s ≡ t
some_same s t e = cc

signs_same : (a b : Sign) (y z : List ℕ) → sign_goes_on a y ≡ false → sign_goes_on b z ≡ false → sign_bytes a ++ y ≡ sign_bytes b ++ z → (a ≡ b) × (y ≡ z)
signs_same a b y z ga gb e =
    let same : a ≡ b = some_same a b (sym (sign_at_is a y ga) ∙ ap (λ x. sign_at (get_or x 0 0) (get_or x 1 0)) e ∙ sign_at_is b z gb) in
    (same, tail_same (sign_bytes a) y z (e ∙ ap (λ x. sign_bytes x ++ z) (sym same)))

sign_or_word : (s : Sign) (k : TokenKind) (y z : List ℕ) → IsToken k → IsWordKind k → sign_bytes s ++ y ≡ spelling k ++ z → ⊥
sign_or_word s k y z t h e = false≢true (sym (sign_no_word s y) ∙ ap begins_word e ∙ word_front k z t h)

-- one token stands at a place
pub same_token : (j k : TokenKind) (y z : List ℕ) → IsToken j → IsToken k → goes_on j y ≡ false → goes_on k z ≡ false → spelling j ++ y ≡ spelling k ++ z → (j ≡ k) × (y ≡ z)
same_token (kinds.Sign a) (kinds.Sign b) y z s t gj gk e = let r = signs_same a b y z gj gk e in (ap (λ x. kinds.Sign x) r.0, r.1)
same_token (kinds.Sign a) (kinds.Word w) y z s t gj gk e = absurd (sign_or_word a (kinds.Word w) y z t tt e)
same_token (kinds.Sign a) (kinds.Key w) y z s t gj gk e = absurd (sign_or_word a (kinds.Key w) y z t tt e)
same_token (kinds.Sign a) (kinds.Number w) y z s t gj gk e = absurd (sign_or_word a (kinds.Number w) y z t tt e)
same_token (kinds.Word w) (kinds.Sign a) y z s t gj gk e = absurd (sign_or_word a (kinds.Word w) z y s tt (sym e))
same_token (kinds.Key w) (kinds.Sign a) y z s t gj gk e = absurd (sign_or_word a (kinds.Key w) z y s tt (sym e))
same_token (kinds.Number w) (kinds.Sign a) y z s t gj gk e = absurd (sign_or_word a (kinds.Number w) z y s tt (sym e))
same_token (kinds.Word v) (kinds.Word w) y z s t gj gk e = words_same (kinds.Word v) (kinds.Word w) y z s t tt tt gj gk e
same_token (kinds.Word v) (kinds.Key w) y z s t gj gk e = words_same (kinds.Word v) (kinds.Key w) y z s t tt tt gj gk e
same_token (kinds.Word v) (kinds.Number w) y z s t gj gk e = words_same (kinds.Word v) (kinds.Number w) y z s t tt tt gj gk e
same_token (kinds.Key v) (kinds.Word w) y z s t gj gk e = words_same (kinds.Key v) (kinds.Word w) y z s t tt tt gj gk e
same_token (kinds.Key v) (kinds.Key w) y z s t gj gk e = words_same (kinds.Key v) (kinds.Key w) y z s t tt tt gj gk e
same_token (kinds.Key v) (kinds.Number w) y z s t gj gk e = words_same (kinds.Key v) (kinds.Number w) y z s t tt tt gj gk e
same_token (kinds.Number v) (kinds.Word w) y z s t gj gk e = words_same (kinds.Number v) (kinds.Word w) y z s t tt tt gj gk e
same_token (kinds.Number v) (kinds.Key w) y z s t gj gk e = words_same (kinds.Number v) (kinds.Key w) y z s t tt tt gj gk e
same_token (kinds.Number v) (kinds.Number w) y z s t gj gk e = words_same (kinds.Number v) (kinds.Number w) y z s t tt tt gj gk e

-- ---- places where no token stands

pub bad_byte : (text : List ℕ) → 0 < length text → begins_word text ≡ false → sign_at (get_or text 0 0) (get_or text 1 0) ≡ None → IsBadByte text
bad_byte text some no_word no_sign = record { some = some; no_word = no_word; none = λ k rest t e. stands k rest t e }
  where
    stands : (k : TokenKind) (rest : List ℕ) → IsToken k → text ≢ spelling k ++ rest
    stands (kinds.Sign s) rest t e = sign_at_some s rest (ap (λ x. sign_at (get_or x 0 0) (get_or x 1 0)) (sym e) ∙ no_sign)
    stands (kinds.Word w) rest t e = false≢true (sym no_word ∙ ap begins_word e ∙ word_front (kinds.Word w) rest t tt)
    stands (kinds.Key w) rest t e = false≢true (sym no_word ∙ ap begins_word e ∙ word_front (kinds.Key w) rest t tt)
    stands (kinds.Number w) rest t e = false≢true (sym no_word ∙ ap begins_word e ∙ word_front (kinds.Number w) rest t tt)

abbrev pub NoToken : List ℕ → Type 0
NoToken left = (k : TokenKind) (rest : List ℕ) → IsToken k → goes_on k rest ≡ false → left ≢ spelling k ++ rest

pub none_at_end : NoToken []
none_at_end k rest t g e = let some = spelling-positive k t in omega (arith, ap length e, length-append (spelling k) rest)

pub none_at_byte : (left : List ℕ) → IsBadByte left → NoToken left
none_at_byte left bad k rest t g e = bad.none k rest t e

pub none_at_word : (left : List ℕ) → IsBadWord left → NoToken left
none_at_word left bad (kinds.Sign s) rest t g e =
    false≢true (sym (sign_no_word s rest) ∙ ap begins_word (sym e ∙ bad.parts) ∙ front_word bad.word bad.rest bad.bytes bad.some)
none_at_word left bad (kinds.Word w) rest t g e = bad.none (kinds.Word w) t (sym (same_run bad.word w bad.rest rest bad.bytes (token_word (kinds.Word w) t tt) bad.whole g (sym bad.parts ∙ e)).0)
none_at_word left bad (kinds.Key w) rest t g e = bad.none (kinds.Key w) t (sym (same_run bad.word (key_bytes w) bad.rest rest bad.bytes (token_word (kinds.Key w) t tt) bad.whole g (sym bad.parts ∙ e)).0)
none_at_word left bad (kinds.Number w) rest t g e = bad.none (kinds.Number w) t (sym (same_run bad.word (decimal w) bad.rest rest bad.bytes (token_word (kinds.Number w) t tt) bad.whole g (sym bad.parts ∙ e)).0)

pub first_no_word : (z : List ℕ) → is_word (get_or z 0 0) ≡ false → begins_word z ≡ false
first_no_word [] h = refl
first_no_word (b ∷ z) h = h

pub not_digit : (z : List ℕ) → is_ascii_digit (get_or z 0 0) ≡ false → begins_digit z ≡ true → ⊥
not_digit [] h d = false≢true d
not_digit (b ∷ z) h d = false≢true (sym h ∙ d)

pub no_letter : (z : List ℕ) → is_ascii_alphabetic (get_or z 0 0) ≡ false → begins_letter z ≡ true → ⊥
no_letter [] h d = false≢true d
no_letter (b ∷ z) h d = false≢true (sym h ∙ d)
