-- What the parts of the lexer answer.
use Rattle.std.specs.Prelude.{◌≡◌, ◌≢◌, ℕ, List, ◌++◌, false, Result, Ok, Err}
use Rattle.asm_tokens.specs.declared.token.Token.{Token}
use Rattle.asm_tokens.specs.declared.token.TokenKind.{TokenKind}
use Rattle.asm_tokens.specs.declared.token.TokenKind.TheVariants as kinds
use Rattle.asm_tokens.specs.declared.lexer.Bad.{Bad}
use Rattle.asm_tokens.specs.declared.lexer.Bad.TheVariants as bads
use Rattle.asm_tokens.specs.declared.lexer.TokenEnd.{TokenEnd}
use Rattle.asm_tokens.specs.declared.lexer.TokenEnd.TheVariants as ends
use Rattle.asm_tokens.specs.Lexing.{spelling, IsToken, goes_on, IsBadByte, IsBadWord, StopsAt}

-- a kind of token that is a word: no sign
abbrev pub IsWordKind : TokenKind → Type 0
IsWordKind (kinds.Sign sign) = ⊥
IsWordKind _ = Unit {0}

-- the place is bad in this way
abbrev pub BadAt : Bad → List ℕ → Type 0
BadAt bads.Byte left = IsBadByte left
BadAt bads.Word left = IsBadWord left
BadAt bads.NoMemory left = Unit {0}

-- the refusal stands at the first bad place of the text
abbrev pub EndsAt : ℕ → List ℕ → TokenEnd → Type 0
EndsAt line text (ends.BadByte last token) = StopsAt IsBadByte line text last token
EndsAt line text (ends.BadWord last token) = StopsAt IsBadWord line text last token
EndsAt line text ends.NoMemory = Unit {0}

-- no token is this whole word
abbrev pub IsNoToken : Bad → List ℕ → Type 0
IsNoToken bads.Byte word = ⊥
IsNoToken bads.Word word = (k : TokenKind) → IsToken k → spelling k ≢ word
IsNoToken bads.NoMemory word = Unit {0}

-- this token stands at the front, and this follows it
pub record FrontIs (text : List ℕ) (k : TokenKind) (rest : List ℕ) : Type 0 where
  pub parts : text ≡ spelling k ++ rest
  pub token : IsToken k
  pub ends : goes_on k rest ≡ false

-- the refusal at a place that is bad in this way
abbrev pub end_of : Bad → ℕ → ℕ → TokenEnd
end_of bads.Byte line token = ends.BadByte line token
end_of bads.Word line token = ends.BadWord line token
end_of bads.NoMemory line token = ends.NoMemory

-- the answer is this list, unless memory ran out
abbrev pub AnswersTokens : Result (List Token) TokenEnd → List Token → Type 0
AnswersTokens (Ok list) ts = list ≡ ts
AnswersTokens (Err ends.NoMemory) ts = Unit {0}
AnswersTokens (Err _) ts = ⊥

-- the answer is this refusal, unless memory ran out
abbrev pub EndsWith : Result (List Token) TokenEnd → TokenEnd → Type 0
EndsWith (Ok list) end = ⊥
EndsWith (Err ends.NoMemory) end = Unit {0}
EndsWith (Err other) end = other ≡ end
