-- A text has one list of tokens, and one first bad place.
use Rattle.std.proofs.Common.{◌≡◌, ℕ, ◌+◌, false, List, [], ◌∷◌, ◌++◌, length, refl, sym, ap, subst, ◌∙◌}
use Rattle.std.proofs.Common.{◌<◌, arith, Result, Ok, Err}
use Rattle.std.specs.Prelude.{IfOk, IfErr}
use Rattle.std.proofs.lemmas.Bool.{false≢true}
use Rattle.std.proofs.lemmas.List.{length-append}
use Rattle.asm_tokens.specs.declared.lexer.TokenEnd.{TokenEnd}
use Rattle.asm_tokens.specs.declared.lexer.TokenEnd.TheVariants as ends
use Rattle.asm_tokens.specs.LexingEnds.{EndsAt, AnswersTokens, EndsWith}
use Rattle.asm_tokens.specs.declared.token.Token.{Token}
use Rattle.asm_tokens.specs.declared.token.TokenKind.{TokenKind}
use Rattle.asm_tokens.specs.Lexing.{spelling, IsToken, goes_on, skip, begins_word, Lexes, LexesTo, IsBadByte, IsBadWord, StopsAt}
use Rattle.asm_tokens.proofs.Spellings.{same_token, front_word, NoToken, none_at_end, none_at_byte, none_at_word}

abbrev pair : ℕ → List ℕ → ℕ × List ℕ
pair l z = (l, z)

firsts : (l m : ℕ) (y z : List ℕ) → pair l y ≡ pair m z → l ≡ m
firsts l m y z e = ap (λ (p : ℕ × List ℕ). p.0) e

seconds : (l m : ℕ) (y z : List ℕ) → pair l y ≡ pair m z → y ≡ z
seconds l m y z e = ap (λ (p : ℕ × List ℕ). p.1) e

abbrev token_of : ℕ → TokenKind → Token
token_of l k = record { line = l; kind = k }

-- one token more
pub LexesTo-more : (line : ℕ) (text : List ℕ) (ts : List Token) (l m : ℕ) (left rest more : List ℕ) (k : TokenKind) → LexesTo line text ts l left → left ≡ spelling k ++ rest → IsToken k → goes_on k rest ≡ false
    → skip false l rest ≡ pair m more → LexesTo line text (ts ++ token_of l k ∷ []) m more
LexesTo-more line text [] l m left rest more k h e t g s = (rest, h ∙ ap (pair l) e, t, g, s)
LexesTo-more line text (u ∷ us) l m left rest more k h e t g s = (h.0, h.1, h.2, h.3, LexesTo-more u.line h.0 us l m left rest more k h.4 e t g s)

pub only : (line : ℕ) (text : List ℕ) (ts us : List Token) (l m : ℕ) (left more : List ℕ) → LexesTo line text ts l left → LexesTo line text us m more → NoToken left → NoToken more → (ts ≡ us) × (l ≡ m) × (left ≡ more)
only line text [] [] l m left more h i no_left no_more =
    let e = sym h ∙ i in (refl, firsts l m left more e, seconds l m left more e)
only line text [] (u ∷ us) l m left more h i no_left no_more =
    absurd (no_left u.kind i.0 i.2 i.3 (seconds l u.line left (spelling u.kind ++ i.0) (sym h ∙ i.1)))
only line text (t ∷ ts) [] l m left more h i no_left no_more =
    absurd (no_more t.kind h.0 h.2 h.3 (seconds m t.line more (spelling t.kind ++ h.0) (sym i ∙ h.1)))
only line text (t ∷ ts) (u ∷ us) l m left more h i no_left no_more =
    let e = sym h.1 ∙ i.1 in
    let lines = firsts t.line u.line (spelling t.kind ++ h.0) (spelling u.kind ++ i.0) e in
    let same = same_token t.kind u.kind h.0 i.0 h.2 i.2 h.3 i.3 (seconds t.line u.line (spelling t.kind ++ h.0) (spelling u.kind ++ i.0) e) in
    let i' : LexesTo t.line h.0 us m more = subst (λ (p : ℕ × List ℕ). LexesTo p.0 p.1 us m more) (ap (λ x. pair x i.0) (sym lines) ∙ ap (pair t.line) (sym same.1)) i.4 in
    let others = only t.line h.0 ts us l m left more h.4 i' no_left no_more in
    let first : token_of t.line t.kind ≡ token_of u.line u.kind = ap (λ x. token_of x t.kind) lines ∙ ap (token_of u.line) same.0 in
    (ap (λ x. x ∷ ts) first ∙ ap (λ x. u ∷ x) others.0, others.1, others.2)

-- ---- what the lexer answers

list_ends : (line : ℕ) (text : List ℕ) (ts us : List Token) → Lexes line text ts → Lexes line text us → ts ≡ us
list_ends line text ts us h i = (only line text ts us h.0 i.0 [] [] h.1 i.1 none_at_end none_at_end).0

-- a text that has tokens has no bad place
no_stop : (Bad : List ℕ → Type 0) (none : (left : List ℕ) → Bad left → NoToken left) (empty : Bad [] → ⊥) (line : ℕ) (text : List ℕ) (l token : ℕ) (ts : List Token) → StopsAt Bad line text l token → Lexes line text ts → ⊥
no_stop Bad none empty line text l token ts s h =
    let e = (only line text s.tokens ts l h.0 s.left [] s.reached h.1 (none s.left s.bad) none_at_end).2 in
    empty (subst Bad e s.bad)

-- a bad place is the first
same_stop : (Bad Worse : List ℕ → Type 0) (none : (left : List ℕ) → Bad left → NoToken left) (nor : (left : List ℕ) → Worse left → NoToken left) (line : ℕ) (text : List ℕ) (l m j k : ℕ)
    → (a : StopsAt Bad line text l j) → (b : StopsAt Worse line text m k) → (l ≡ m) × (j ≡ k) × (a.left ≡ b.left)
same_stop Bad Worse none nor line text l m j k a b =
    let e = only line text a.tokens b.tokens l m a.left b.left a.reached b.reached (none a.left a.bad) (nor b.left b.bad) in
    (e.1, a.number ∙ ap (λ (ts : List Token). length ts + 1) e.0 ∙ sym b.number, e.2)

no_byte : IsBadByte [] → ⊥
no_byte bad = let some : 0 < length {A = ℕ} [] = bad.some in omega arith

no_word : IsBadWord [] → ⊥
no_word bad = let some = bad.some in omega (arith, ap length bad.parts, length-append bad.word bad.rest)

byte_or_word : (left : List ℕ) → IsBadByte left → IsBadWord left → ⊥
byte_or_word left byte word = false≢true (sym byte.no_word ∙ ap begins_word word.parts ∙ front_word word.word word.rest word.bytes word.some)

pub tokens_only : (line : ℕ) (text : List ℕ) (r : Result (List Token) TokenEnd) → IfOk r (λ list. Lexes line text list) → IfErr r (λ end. EndsAt line text end) → (ts : List Token) → Lexes line text ts → AnswersTokens r ts
tokens_only line text (Ok list) ok err ts h = list_ends line text list ts ok h
tokens_only line text (Err ends.NoMemory) ok err ts h = tt
tokens_only line text (Err (ends.BadByte l token)) ok err ts h = no_stop IsBadByte none_at_byte no_byte line text l token ts err h
tokens_only line text (Err (ends.BadWord l token)) ok err ts h = no_stop IsBadWord none_at_word no_word line text l token ts err h

pub byte_only : (line : ℕ) (text : List ℕ) (r : Result (List Token) TokenEnd) → IfOk r (λ list. Lexes line text list) → IfErr r (λ end. EndsAt line text end) → (l token : ℕ) → StopsAt IsBadByte line text l token → EndsWith r (ends.BadByte l token)
byte_only line text (Ok list) ok err l token s = no_stop IsBadByte none_at_byte no_byte line text l token list s ok
byte_only line text (Err ends.NoMemory) ok err l token s = tt
byte_only line text (Err (ends.BadByte m other)) ok err l token s =
    let e = same_stop IsBadByte IsBadByte none_at_byte none_at_byte line text m l other token err s in
    ap (λ x. ends.BadByte x other) e.0 ∙ ap (ends.BadByte l) e.1
byte_only line text (Err (ends.BadWord m other)) ok err l token s =
    let e = same_stop IsBadWord IsBadByte none_at_word none_at_byte line text m l other token err s in
    absurd (byte_or_word s.left s.bad (subst IsBadWord e.2 err.bad))

pub word_only : (line : ℕ) (text : List ℕ) (r : Result (List Token) TokenEnd) → IfOk r (λ list. Lexes line text list) → IfErr r (λ end. EndsAt line text end) → (l token : ℕ) → StopsAt IsBadWord line text l token → EndsWith r (ends.BadWord l token)
word_only line text (Ok list) ok err l token s = no_stop IsBadWord none_at_word no_word line text l token list s ok
word_only line text (Err ends.NoMemory) ok err l token s = tt
word_only line text (Err (ends.BadWord m other)) ok err l token s =
    let e = same_stop IsBadWord IsBadWord none_at_word none_at_word line text m l other token err s in
    ap (λ x. ends.BadWord x other) e.0 ∙ ap (ends.BadWord l) e.1
word_only line text (Err (ends.BadByte m other)) ok err l token s =
    let e = same_stop IsBadByte IsBadWord none_at_byte none_at_word line text m l other token err s in
    absurd (byte_or_word s.left (subst IsBadByte e.2 err.bad) s.bad)
