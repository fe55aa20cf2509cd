-- The arguments of locations.
use Rattle.std.proofs.Common.{◌≡◌, ℕ, zero, suc, ◌+◌, ◌/◌, ◌%◌, ◌<◌, ℤ, pos, ◌+ℤ◌, List, [], ◌∷◌, ◌++◌, length, drop, get_or, None, Some, refl, sym, ap, ◌∙◌, append_assoc, arith}
use Rattle.std.specs.Prelude.{slice_get}
use Rattle.std.proofs.lemmas.List.{drop_more}
use Rattle.std.proofs.lemmas.Option.{get_or_from_slice_get}
use Rattle.asm_names.specs.declared.program.Domain.{Domain}
use Rattle.asm_names.specs.declared.program.Fun.{Fun}
use Rattle.state_space.specs.declared.signature.Range.{Range}
use Rattle.state_space.specs.Locations.{tuples}
use Rattle.state_space.proofs.Widening.{Digits}
use Rattle.fault_script.specs.StateText.{argument_texts, closing, domain_of, location_text, parted, value_text}

-- ---- arguments
no-argument : (domains : List Domain) (numbers : List ℕ) (opening tuple : ℕ) → parted opening (argument_texts domains numbers (get_or ([] ∷ []) tuple [])) ≡ []
no-argument domains [] opening tuple = refl
no-argument domains (number ∷ numbers) opening zero = refl
no-argument domains (number ∷ numbers) opening (suc tuple) = refl

-- without domains there are no arguments
pub no-domains : (domains : List Domain) (numbers : List ℕ) (ranges : List Range) (opening tuple : ℕ) → length ranges ≡ 0
    → parted opening (argument_texts domains numbers (get_or (tuples ranges) tuple [])) ≡ []
no-domains domains numbers [] opening tuple e = no-argument domains numbers opening tuple
no-domains domains numbers (range ∷ ranges) opening tuple e = absurd (omega arith)

-- without numbers of domains neither
pub no-arguments : (domains : List Domain) (opening : ℕ) (numbers : List ℕ) (args : List ℤ) → length numbers ≡ 0 → parted opening (argument_texts domains numbers args) ≡ []
no-arguments domains opening [] args h = refl
no-arguments domains opening (n ∷ ns) args h = absurd (omega arith)

-- the texts of the arguments, the first of which has this value
pub arguments-of : (domains : List Domain) (opening first : ℕ) (numbers others : List ℕ) (x : ℤ) {all : List Range} {range : Range} {rest : List Range} {tuple : ℕ}
    → Digits all range rest tuple → numbers ≡ first ∷ others → x ≡ range.lo +ℤ pos (tuple / length (tuples rest))
    → parted opening (argument_texts domains numbers (get_or (tuples all) tuple []))
    ≡ (opening ∷ []) ++ (value_text (domain_of domains first) x ++ parted 44 (argument_texts domains others (get_or (tuples rest) (tuple % length (tuples rest)) [])))
arguments-of domains opening first numbers others x {all} {range} {rest} {tuple} d e is =
    ap (λ ns. parted opening (argument_texts domains ns (get_or (tuples all) tuple []))) e
    ∙ ap (λ args. parted opening (argument_texts domains (first ∷ others) args)) d.tuple
    ∙ ap (λ v. (opening ∷ value_text (domain_of domains first) v) ++ parted 44 (argument_texts domains others (get_or (tuples rest) (tuple % length (tuples rest)) []))) (sym is)

inside : (args : List ℤ) (index : ℕ) (v : ℤ) → slice_get args index ≡ Some v → index < length args
inside [] index v is = absurd cc
inside (x ∷ args) zero v is = omega arith
inside (x ∷ args) (suc index) v is = let h = inside args index v is in omega arith

dropped : (args : List ℤ) (index : ℕ) (v : ℤ) → slice_get args index ≡ Some v → drop index args ≡ v ∷ drop (index + 1) args
dropped args index v is = drop_more args index v (inside args index v is) ∙ ap (λ x. x ∷ drop (index + 1) args) (get_or_from_slice_get args index v v is)

none-left : (args : List ℤ) (index : ℕ) → slice_get args index ≡ None → drop index args ≡ []
none-left [] zero none = refl
none-left [] (suc index) none = refl
none-left (x ∷ args) zero none = absurd cc
none-left (x ∷ args) (suc index) none = none-left args index none

without : (domains : List Domain) (opening : ℕ) (numbers : List ℕ) → parted opening (argument_texts domains numbers []) ≡ []
without domains opening [] = refl
without domains opening (number ∷ numbers) = refl

-- the texts of a location's arguments from one on, which has this value
pub arguments-at : (domains : List Domain) (opening first : ℕ) (numbers others : List ℕ) (args : List ℤ) (index : ℕ) (v x : ℤ) → numbers ≡ first ∷ others → Some v ≡ slice_get args index → x ≡ v
    → parted opening (argument_texts domains numbers (drop index args))
    ≡ (opening ∷ []) ++ (value_text (domain_of domains first) x ++ parted 44 (argument_texts domains others (drop (index + 1) args)))
arguments-at domains opening first numbers others args index v x e found is =
    ap (λ ns. parted opening (argument_texts domains ns (drop index args))) e
    ∙ ap (λ vs. parted opening (argument_texts domains (first ∷ others) vs)) (dropped args index v (sym found))
    ∙ ap (λ y. (opening ∷ value_text (domain_of domains first) y) ++ parted 44 (argument_texts domains others (drop (index + 1) args))) (sym is)

-- no argument is left
pub no-argument-at : (domains : List Domain) (opening : ℕ) (numbers : List ℕ) (args : List ℤ) (index : ℕ) → None ≡ slice_get args index
    → parted opening (argument_texts domains numbers (drop index args)) ≡ []
no-argument-at domains opening numbers args index none = ap (λ vs. parted opening (argument_texts domains numbers vs)) (none-left args index (sym none)) ∙ without domains opening numbers

-- the parts in which a location is written
pub location-parts : (domains : List Domain) (fun : Fun) (numbers name : List ℕ) (args : List ℤ) → name ≡ fun.name → numbers ≡ fun.args
    → location_text domains fun args ≡ (name ++ parted 40 (argument_texts domains numbers args)) ++ closing fun.args
location-parts domains fun numbers name args named of =
    ap (λ n. n ++ (parted 40 (argument_texts domains fun.args args) ++ closing fun.args)) (sym named)
    ∙ ap (λ ns. name ++ (parted 40 (argument_texts domains ns args) ++ closing fun.args)) (sym of)
    ∙ sym (append_assoc name (parted 40 (argument_texts domains numbers args)) (closing fun.args))
