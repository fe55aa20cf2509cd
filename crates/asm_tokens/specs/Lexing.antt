-- The tokens of a text.
use Rattle.std.specs.Prelude.{◌≡◌, ◌≢◌, ℕ, ◌+◌, ◌≤◌, ◌<◌, Bool, true, false, ◌||◌, ◌&&◌, ◌==◌, if◌then◌else◌, List, [], ◌∷◌, ◌++◌, length, Option, Some, None}
use Rattle.std.specs.Fmt.{decimal}
use Rattle.asm_tokens.specs.declared.token.Sign.{Sign}
use Rattle.asm_tokens.specs.declared.token.Sign.TheVariants as signs
use Rattle.asm_tokens.specs.declared.token.Token.{Token}
use Rattle.asm_tokens.specs.declared.token.TokenKind.{TokenKind}
use Rattle.asm_tokens.specs.declared.token.TokenKind.TheVariants as kinds
pub use Rattle.asm_tree.specs.Names.{is_word, all_word, begins_letter, key_bytes, IsName}

-- ---- bytes

-- whether a byte is a space, a tab or a carriage return
abbrev pub is_blank : ℕ → Bool
is_blank b = b == 32 || b == 9 || b == 13

-- whether the first byte is one of a word
abbrev pub begins_word : List ℕ → Bool
begins_word [] = false
begins_word (b ∷ z) = is_word b

-- whether the first byte is `/`
abbrev pub begins_slash : List ℕ → Bool
begins_slash [] = false
begins_slash (b ∷ z) = b == 47

-- whether the first byte is `=`
abbrev pub begins_equals : List ℕ → Bool
begins_equals [] = false
begins_equals (b ∷ z) = b == 61

-- ---- spellings

-- the spelling of a sign
abbrev pub sign_bytes : Sign → List ℕ
sign_bytes signs.Assign = 58 ∷ 61 ∷ []
sign_bytes signs.Ne = 33 ∷ 61 ∷ []
sign_bytes signs.Le = 60 ∷ 61 ∷ []
sign_bytes signs.Ge = 62 ∷ 61 ∷ []
sign_bytes signs.LeftParen = 40 ∷ []
sign_bytes signs.RightParen = 41 ∷ []
sign_bytes signs.LeftBrace = 123 ∷ []
sign_bytes signs.RightBrace = 125 ∷ []
sign_bytes signs.LeftBracket = 91 ∷ []
sign_bytes signs.RightBracket = 93 ∷ []
sign_bytes signs.Comma = 44 ∷ []
sign_bytes signs.Semicolon = 59 ∷ []
sign_bytes signs.Colon = 58 ∷ []
sign_bytes signs.Eq = 61 ∷ []
sign_bytes signs.Lt = 60 ∷ []
sign_bytes signs.Gt = 62 ∷ []
sign_bytes signs.Plus = 43 ∷ []
sign_bytes signs.Minus = 45 ∷ []

-- the spelling of a token
abbrev pub spelling : TokenKind → List ℕ
spelling (kinds.Word name) = name
spelling (kinds.Key key) = key_bytes key
spelling (kinds.Number value) = decimal value
spelling (kinds.Sign sign) = sign_bytes sign

-- what some text gives: a word is a name, and a number is at most 2147483647
abbrev pub IsToken : TokenKind → Type 0
IsToken (kinds.Word name) = IsName name
IsToken (kinds.Key key) = Unit {0}
IsToken (kinds.Number value) = value ≤ 2147483647
IsToken (kinds.Sign sign) = Unit {0}

-- whether a sign and what follows it make a longer one
abbrev pub sign_goes_on : Sign → List ℕ → Bool
sign_goes_on signs.Colon rest = begins_equals rest
sign_goes_on signs.Lt rest = begins_equals rest
sign_goes_on signs.Gt rest = begins_equals rest
sign_goes_on _ rest = false

-- whether a token would be longer
abbrev pub goes_on : TokenKind → List ℕ → Bool
goes_on (kinds.Sign sign) rest = sign_goes_on sign rest
goes_on _ rest = begins_word rest

-- ---- gaps

-- The line and the text after blanks and comments. The test says whether a comment is open.
abbrev pub skip : Bool → ℕ → List ℕ → ℕ × List ℕ
skip inside line [] = (line, [])
skip inside line (b ∷ z) =
    if b == 10 then skip false (line + 1) z
    else (if inside then skip true line z
    else (if b == 47 && begins_slash z then skip true line z
    else (if is_blank b then skip false line z
    else (line, b ∷ z))))

-- ---- texts

-- From this line on the text is these tokens, a gap, and what is left from that line on.
abbrev pub LexesTo : ℕ → List ℕ → List Token → ℕ → List ℕ → Type 0
LexesTo line text [] last left = skip false line text ≡ (last, left)
LexesTo line text (t ∷ ts) last left =
    (rest : List ℕ) × (skip false line text ≡ (t.line, spelling t.kind ++ rest)) × IsToken t.kind × (goes_on t.kind rest ≡ false) × LexesTo t.line rest ts last left

-- the text from this line on is these tokens, and gaps between them and at both ends
abbrev pub Lexes : ℕ → List ℕ → List Token → Type 0
Lexes line text ts = (last : ℕ) × LexesTo line text ts last []

-- no token stands here, and no word
pub record IsBadByte (left : List ℕ) : Type 0 where
  pub some : 0 < length left
  pub none : (k : TokenKind) (rest : List ℕ) → IsToken k → left ≢ spelling k ++ rest
  pub no_word : begins_word left ≡ false

-- a word stands here that is no token
pub record IsBadWord (left : List ℕ) : Type 0 where
  pub word : List ℕ
  pub rest : List ℕ
  pub parts : left ≡ word ++ rest
  pub some : 0 < length word
  pub bytes : all_word word ≡ true
  pub whole : begins_word rest ≡ false
  pub none : (k : TokenKind) → IsToken k → spelling k ≢ word

-- the first place at which no token stands, after `token - 1` tokens
pub record StopsAt (Bad : List ℕ → Type 0) (line : ℕ) (text : List ℕ) (last token : ℕ) : Type 0 where
  pub tokens : List Token
  pub left : List ℕ
  pub reached : LexesTo line text tokens last left
  pub number : token ≡ length tokens + 1
  pub bad : Bad left

-- the sign at the front of two bytes, the second of which is 0 if there is none
abbrev pub sign_at : ℕ → ℕ → Option Sign
sign_at a b =
    if a == 58 && b == 61 then Some signs.Assign
    else (if a == 33 && b == 61 then Some signs.Ne
    else (if a == 60 && b == 61 then Some signs.Le
    else (if a == 62 && b == 61 then Some signs.Ge
    else (if a == 40 then Some signs.LeftParen
    else (if a == 41 then Some signs.RightParen
    else (if a == 123 then Some signs.LeftBrace
    else (if a == 125 then Some signs.RightBrace
    else (if a == 91 then Some signs.LeftBracket
    else (if a == 93 then Some signs.RightBracket
    else (if a == 44 then Some signs.Comma
    else (if a == 59 then Some signs.Semicolon
    else (if a == 58 then Some signs.Colon
    else (if a == 61 then Some signs.Eq
    else (if a == 60 then Some signs.Lt
    else (if a == 62 then Some signs.Gt
    else (if a == 43 then Some signs.Plus
    else (if a == 45 then Some signs.Minus
    else None)))))))))))))))))
