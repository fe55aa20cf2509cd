-- Names whose meanings are declared: what their numbers name is there, and is of their sort.
use Rattle.asm_names.proofs.Common.{◌≡◌, ℕ, ◌<◌, Bool, true, false, cond, List, [], ◌∷◌, ◌++◌, length, Option, Some, None, is_some, bytes_eq, refl, ap, sym, ◌∙◌, slice_get, IfSome, AllByRecursion}
use Rattle.asm_names.proofs.Common.{lookup, not-false, slice_get_within, Kind, NameFault, Values, Fun, Sort, Need, Fault, fault, same_as, refuses, Meaning, Domain, Enumerator, Function, Binder, Scope}
use Rattle.asm_names.proofs.Common.{meaning_of, number_of, sort_of_domain, size_of_domain, domain_faults, Form, truth, thing, Bound, in_scope, size_in, size_of}
use Rattle.asm_names.specs.declared.fault.NameFault.TheVariants as causes
use Rattle.asm_names.specs.declared.sort.Sort.TheVariants as sorts
use Rattle.asm_names.specs.declared.sort.Need.TheVariants as needs

pub all-append : {A : Type 0} (P : A → Type 0) (xs ys : List A) → AllByRecursion P xs → AllByRecursion P ys → AllByRecursion P (xs ++ ys)
all-append P [] ys h k = k
all-append P (x ∷ xs) ys h k = (h.0, all-append P xs ys h.1 k)

-- ---- faults

-- what has no fault has none in its parts
pub parts_clean : (f g : List Fault) → f ++ g ≡ [] → (f ≡ []) × (g ≡ [])
parts_clean [] g h = (refl, h)
parts_clean (x ∷ f) g h = cc

pub three_clean : (f g k : List Fault) → f ++ (g ++ k) ≡ [] → (f ≡ []) × (g ≡ []) × (k ≡ [])
three_clean f g k h = let p = parts_clean f (g ++ k) h in let q = parts_clean g k p.1 in (p.0, q.0, q.1)

pub unmet : (cause : NameFault) (at : ℕ) (b : Bool) → fault cause at b ≡ [] → b ≡ false
unmet cause at true h = cc
unmet cause at false h = refl

-- ---- sorts

-- whether the values of a sort are truth values or things
abbrev pub formed : Option Sort → Option Form
formed None = None
formed (Some sorts.Int) = Some thing
formed (Some sorts.Truth) = Some truth
formed (Some (sorts.List domain)) = Some thing

-- what a place asks for
abbrev pub wants : Need → Option Form
wants needs.Anything = None
wants needs.NotTruth = Some thing
wants (needs.Only sort) = formed (Some sort)

pub same-wants : (o : Option Sort) → wants (same_as o) ≡ formed o
same-wants None = refl
same-wants (Some s) = refl

-- a sort that isn't refused is what the place asks for
pub met : (need : Need) (o : Option Sort) (f g : Form) → refuses need o ≡ false → formed o ≡ Some f → wants need ≡ Some g → formed o ≡ Some g
met need None f g h is w = cc
met needs.Anything (Some s) f g h is w = cc
met needs.NotTruth (Some sorts.Truth) f g h is w = cc
met (needs.Only sorts.Truth) (Some sorts.Truth) f g h is w = w
met (needs.Only sorts.Truth) (Some _) f g h is w = cc
met (needs.Only _) (Some sorts.Truth) f g h is w = cc
met _ (Some _) f g h is w = w

-- ---- names

abbrev pub IsThing : Option Sort → Type 0
IsThing sort = formed sort ≡ Some thing

module _ (domains : List Values) (funs : List Fun) where
  pub record DomainKnown (number size : ℕ) (sort : Sort) : Type 0 where
    pub entry : Values
    pub there : slice_get domains number ≡ Some entry
    pub count : entry.size ≡ size
    pub things : IsThing (Some sort)

  pub record FunctionKnown (number : ℕ) (kind : Kind) (args : List (Option Sort)) (values : Option Sort) : Type 0 where
    pub entry : Fun
    pub there : slice_get funs number ≡ Some entry
    pub same_kind : entry.kind ≡ kind
    pub count : length entry.args ≡ length args
    pub arguments : AllByRecursion IsThing args
    pub things : IsThing values

  -- what a name stands for is there
  abbrev pub Known : Bound → Meaning → Type 0
  Known bound (Domain number size sort) = DomainKnown number size sort
  Known bound (Enumerator domain index) = index < 65536
  Known bound (Function number kind args values) = FunctionKnown number kind args values
  Known bound (Binder number sort) = (in_scope bound number ≡ true) × IsThing sort

  -- what each name stands for is there
  abbrev pub AllKnown : Bound → Scope → Type 0
  AllKnown bound names = AllByRecursion (λ entry. Known bound entry.1) names

  found : (bound : Bound) (test : List ℕ → Bool) (names : Scope) → AllKnown bound names → IfSome (lookup test names) (Known bound)
  found bound test [] h = tt
  found bound test (e ∷ names) h = by (test e.0) (found bound test names h.1)
    where
      by : (b : Bool) → IfSome (lookup test names) (Known bound) → IfSome (cond b (Some e.1) (lookup test names)) (Known bound)
      by true rest = h.0
      by false rest = rest

  pub known_at : (bound : Bound) (names : Scope) (w : List ℕ) → AllKnown bound names → IfSome (meaning_of names w) (Known bound)
  known_at bound names w h = found bound (bytes_eq w) names h

  -- a name of a domain is one of a domain that is there
  pub record NamesDomain (m : Option Meaning) : Type 0 where
    pub inside : number_of m < length domains
    pub things : IsThing (sort_of_domain m)
    pub size : size_of_domain m ≡ Some (size_of domains (number_of m))

  named : (bound : Bound) (m : Option Meaning) → IfSome m (Known bound) → is_some (sort_of_domain m) ≡ true → NamesDomain m
  named bound (Some (Domain n size s)) k h = record {
    inside = slice_get_within domains n k.entry k.there;
    things = k.things;
    size = ap Some (sym k.count ∙ ap size_in (sym k.there));
  }
  named bound _ k h = cc

  pub names_domain : (bound : Bound) (names : Scope) (w : List ℕ) (at : ℕ) → AllKnown bound names → domain_faults names w at ≡ [] → NamesDomain (meaning_of names w)
  names_domain bound names w at known h = named bound (meaning_of names w) (known_at bound names w known) (not-false _ (unmet causes.Unknown at _ h))
