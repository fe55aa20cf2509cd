-- Keywords and names.
use Rattle.std.specs.Prelude.{◌≡◌, ◌≢◌, ℕ, ◌≤◌, Bool, true, false, ◌||◌, ◌&&◌, ◌==◌, List, [], ◌∷◌, length, codes, bytes_eq, nat_le, not}
use Rattle.std.specs.List.{list_any}
use Rattle.std.specs.Char.{is_ascii_alphabetic, is_ascii_digit}
use Rattle.asm_tree.specs.declared.key.Key.{Key}
use Rattle.asm_tree.specs.declared.key.Key.TheVariants as keys

-- whether a byte is an ASCII letter, an ASCII digit or `_`
abbrev pub is_word : ℕ → Bool
is_word b = is_ascii_alphabetic b || is_ascii_digit b || b == 95

-- whether each byte is a letter, a digit or `_`
abbrev pub all_word : List ℕ → Bool
all_word [] = true
all_word (b ∷ z) = is_word b && all_word z

-- whether the first byte is an ASCII letter
abbrev pub begins_letter : List ℕ → Bool
begins_letter [] = false
begins_letter (b ∷ z) = is_ascii_alphabetic b

-- the spelling of a keyword
abbrev pub key_bytes : Key → List ℕ
key_bytes keys.Machine = codes "machine"
key_bytes keys.Domain = codes "domain"
key_bytes keys.To = codes "to"
key_bytes keys.Controlled = codes "controlled"
key_bytes keys.Input = codes "input"
key_bytes keys.Output = codes "output"
key_bytes keys.Static = codes "static"
key_bytes keys.Legal = codes "legal"
key_bytes keys.Rule = codes "rule"
key_bytes keys.Skip = codes "skip"
key_bytes keys.If = codes "if"
key_bytes keys.Then = codes "then"
key_bytes keys.Else = codes "else"
key_bytes keys.End = codes "end"
key_bytes keys.Par = codes "par"
key_bytes keys.Forall = codes "forall"
key_bytes keys.In = codes "in"
key_bytes keys.With = codes "with"
key_bytes keys.Do = codes "do"
key_bytes keys.Choose = codes "choose"
key_bytes keys.Let = codes "let"
key_bytes keys.Not = codes "not"
key_bytes keys.Min = codes "min"
key_bytes keys.Max = codes "max"
key_bytes keys.Cond = codes "cond"
key_bytes keys.And = codes "and"
key_bytes keys.Or = codes "or"

-- each keyword once
abbrev pub all_keys : List Key
all_keys =
    keys.Machine ∷ keys.Domain ∷ keys.To ∷ keys.Controlled ∷ keys.Input ∷ keys.Output ∷ keys.Static ∷ keys.Legal ∷ keys.Rule
    ∷ keys.Skip ∷ keys.If ∷ keys.Then ∷ keys.Else ∷ keys.End ∷ keys.Par ∷ keys.Forall ∷ keys.In ∷ keys.With
    ∷ keys.Do ∷ keys.Choose ∷ keys.Let ∷ keys.Not ∷ keys.Min ∷ keys.Max ∷ keys.Cond ∷ keys.And ∷ keys.Or ∷ []

-- whether a text is the spelling of a keyword
unfoldable pub is_key : List ℕ → Bool
is_key w = list_any (λ k. bytes_eq (key_bytes k) w) all_keys

-- whether a text is a name, as `IsName` says it
abbrev pub is_name : List ℕ → Bool
is_name w = begins_letter w && nat_le (length w) 32 && all_word w && not (is_key w)

-- a letter, then letters, digits and `_`, at most 32 bytes in all, and no keyword
pub record IsName (w : List ℕ) : Type 0 where
  pub begins : begins_letter w ≡ true
  pub bytes : all_word w ≡ true
  pub short : length w ≤ 32
  pub free : (k : Key) → key_bytes k ≢ w
