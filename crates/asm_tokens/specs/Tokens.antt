-- Tokens, and which of them are the same.
use Rattle.std.specs.Prelude.{Bool, List, map}
use denote.Enum.Bare.{sameb}
use Rattle.asm_tree.specs.declared.key.Key.{Key}
use Rattle.asm_tokens.specs.declared.token.Sign.{Sign}
use Rattle.asm_tokens.specs.declared.token.Token.{Token}
use Rattle.asm_tokens.specs.declared.token.TokenKind.{TokenKind}
use Rattle.asm_tree.specs.contracts.key.Key as key
use Rattle.asm_tokens.specs.contracts.token.Sign as sign

-- `==` on signs
unfoldable pub same_sign : Sign → Sign → Bool
same_sign = sameb sign.the_type

-- `==` on keywords
unfoldable pub same_key : Key → Key → Bool
same_key = sameb key.the_type

-- tokens without their lines
abbrev pub kinds : List Token → List TokenKind
kinds = map (λ t. t.kind)
