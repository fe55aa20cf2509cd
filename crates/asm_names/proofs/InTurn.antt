-- Lists, one element after another.
use Rattle.asm_names.proofs.Common.{◌≡◌, ℕ, ◌+◌, ◌<◌, ◌≤◌, List, [], ◌∷◌, ◌++◌, drop, get_or, length, Option, Some, None, refl, ap, sym, ◌∙◌, arith, option_map, drop_more, Const, Term, Rule}
use Rattle.asm_names.proofs.Common.{Rule-F, NameEnd, term_tokens, rule_tokens, else_tokens, consts_tokens, Fault, first_end, rule_layer_tokens}
use Rattle.asm_names.proofs.Firsts.{stopped}

pub layer-If : (g : Term) (t : Rule) (o : Option Rule) → rule_layer_tokens (Rule-F.If g t o) ≡ 1 + term_tokens g + 1 + rule_tokens t + else_tokens (option_map rule_tokens o) + 1
layer-If g t None = refl
layer-If g t (Some o) = refl

pub layer-Choose : (v d : List ℕ) (g : Term) (b : Rule) (o : Option Rule)
    → rule_layer_tokens (Rule-F.Choose v d g b o) ≡ 5 + term_tokens g + 1 + rule_tokens b + else_tokens (option_map rule_tokens o) + 1
layer-Choose v d g b None = refl
layer-Choose v d g b (Some o) = refl

-- what is left of a list begins with its next element
pub drop-next : {A : Type 0} (i : ℕ) (xs : List A) (x : A) → i < length xs → x ≡ get_or xs i x → drop i xs ≡ x ∷ drop (i + 1) xs
drop-next i xs x there is = drop_more xs i x there ∙ ap (λ y. y ∷ drop (i + 1) xs) (sym is)

-- a function that stops at the next element stops so in all
pub stopped_at : {A : Type 0} {P : Type 0} (left : List A → List Fault) (i : ℕ) (xs : List A) (x : A) → i < length xs → x ≡ get_or xs i x → (all f g : List Fault) (e : NameEnd)
    → all ≡ left (drop i xs) → left (x ∷ drop (i + 1) xs) ≡ f ++ g → (P → first_end f ≡ Some e) → P → first_end all ≡ Some e
stopped_at left i xs x there is all f g e rest parts = stopped all f g e (rest ∙ (ap left (drop-next i xs x there is) ∙ parts))

-- each constant has a token
pub consts_tokens-long : (cs : List Const) → length cs ≤ consts_tokens cs
consts_tokens-long [] = omega arith
consts_tokens-long (c ∷ cs) = omega (arith, consts_tokens-long cs)
