-- Items of lists, one after another.
use Rattle.std.proofs.Common.{◌≡◌, ℕ, zero, suc, ◌+◌, ◌<◌, Bool, true, List, [], ◌∷◌, drop, get_or, length, ap, sym, ◌∙◌, arith, ◌≤◌, false, ltb, ◌++◌, map, refl, add-one, ℤ}
use Rattle.std.{proofs.lemmas.{Bool.{and_parts, ltb-true, ltb-false}, List.{drop_more}, Option.{slice_get-map, slice_get_read, slice_get_past}}, specs.{List.{list_all}, Prelude.{slice_get, slice_set, replicate, ◌==◌}, Option.{option_map}}}
use Rattle.asm_names.specs.{declared.{program.{Domain.{Domain}, Fun.{Fun}, Interval.{Interval}}, resolved_term.ResolvedTerm.{ResolvedTerm}}, Places.{parted, in_parentheses, const_tokens}, ResolvedPlaces.{resolved_term_tokens}}
use Rattle.state_space.specs.{Locations.{range_of, signature_of}, declared.signature.Signature.{Signature}}
use Rattle.asm_ranges.specs.{RangeFaults.{FaultyTerm, args_faults, faulty_term, term_faults, interval_of, domains_of, constant_faults, constants_faults}, Contexts.{signatures_in}, Ranges.{Scope}, Facts.{Facts}}
use Rattle.asm_tree.specs.declared.decl.Const.{Const}

-- a list is filled from its start
pub filled_more : {A : Type 0} (n : ℕ) (v : A) (xs : List A) → n < length xs → slice_set (replicate n v ++ drop n xs) n v ≡ replicate (suc n) v ++ drop (suc n) xs
filled_more n v [] h = absurd (omega arith)
filled_more zero v (x ∷ xs) h = refl
filled_more (suc n) v (x ∷ xs) h = ap (λ r. v ∷ r) (filled_more n v xs (omega arith))

pub left-from : {A : Type 0} (i : ℕ) (xs : List A) (x : A) → i < length xs → x ≡ get_or xs i x → drop i xs ≡ x ∷ drop (i + 1) xs
left-from i xs x there is = drop_more xs i x there ∙ ap (λ y. y ∷ drop (i + 1) xs) (sym is)

pub all-at : {A : Type 0} (p : A → Bool) (xs : List A) (i : ℕ) (x : A) → list_all p xs ≡ true → i < length xs → x ≡ get_or xs i x → p x ≡ true
all-at p [] i x h within is = absurd (omega arith)
all-at p (y ∷ xs) zero x h within is = ap p is ∙ (and_parts _ _ h).0
all-at p (y ∷ xs) (suc i) x h within is = all-at p xs i x (and_parts _ _ h).1 (omega arith) is

-- what is left of a list takes no more tokens
pub parted-drop : (i : ℕ) (ts : List ResolvedTerm) → parted (map resolved_term_tokens (drop i ts)) ≤ parted (map resolved_term_tokens ts)
parted-drop zero ts = omega arith
parted-drop (suc i) [] = omega arith
parted-drop (suc i) (t ∷ ts) = omega (arith, parted-drop i ts)

module _ (i : ℕ) (ts : List ResolvedTerm) (t : ResolvedTerm) (there : i < length ts) (is : t ≡ get_or ts i t) where
  next : drop i ts ≡ t ∷ drop (i + 1) ts
  next = left-from i ts t there is

  first_of : (domains : List Domain) (ds : List ℕ) (k : ℕ) (x : FaultyTerm) (xs : List FaultyTerm) (facts : Facts) (at : ℕ)
      → args_faults (map (range_of domains) (drop k ds)) (x ∷ xs) facts at
      ≡ x.1 facts (option_map (interval_of domains) (slice_get ds k)) at ++ args_faults (map (range_of domains) (drop (suc k) ds)) xs facts (at + resolved_term_tokens x.0 + 1)
  first_of domains [] zero x xs facts at = refl
  first_of domains [] (suc k) x xs facts at = refl
  first_of domains (d ∷ ds) zero x xs facts at = refl
  first_of domains (d ∷ ds) (suc k) x xs facts at = first_of domains ds k x xs facts at

  pub args-next : (signatures : List Signature) (scope : Scope) (facts : Facts) (domains : List Domain) (ds : List ℕ) (at : ℕ)
      → args_faults (map (range_of domains) (drop i ds)) (map (faulty_term signatures scope) (drop i ts)) facts at
      ≡ term_faults signatures scope t facts (option_map (interval_of domains) (slice_get ds i)) at
      ++ args_faults (map (range_of domains) (drop (i + 1) ds)) (map (faulty_term signatures scope) (drop (i + 1) ts)) facts (at + resolved_term_tokens t + 1)
  args-next signatures scope facts domains ds at =
      rw next (first_of domains ds i (faulty_term signatures scope t) (map (faulty_term signatures scope) (drop (i + 1) ts)) facts at ∙ rw add-one refl)

pub filled : {A : Type 0} (f : A → ℕ) (xs : List A) → false ≡ (length xs == 0) → in_parentheses (map f xs) ≡ 1 + parted (map f xs)
filled f [] h = absurd cc
filled f (x ∷ xs) h = refl

-- the domains of a function that is there, and of one that isn't
pub domains-some : (domains : List Domain) (funs : List Fun) (n : ℕ) (fun : Fun) → true ≡ ltb n (length funs) → fun ≡ get_or funs n fun
    → domains_of (slice_get (signatures_in domains funs) n) ≡ map (range_of domains) fun.args
domains-some domains funs n fun there is =
    ap domains_of (slice_get-map (signature_of domains) funs n ∙ ap (option_map (signature_of domains)) (slice_get_read funs (length funs) n fun refl (omega (arith, ltb-true n (length funs) (sym there))) is))

pub domains-none : (domains : List Domain) (funs : List Fun) (n : ℕ) → false ≡ ltb n (length funs) → domains_of (slice_get (signatures_in domains funs) n) ≡ []
domains-none domains funs n past =
    ap domains_of (slice_get-map (signature_of domains) funs n ∙ ap (option_map (signature_of domains)) (slice_get_past funs n (omega (arith, ltb-false n (length funs) (sym past)))))

module _ (i : ℕ) (ks : List Const) (k : Const) (there : i < length ks) (is : k ≡ get_or ks i k) where
  next_const : drop i ks ≡ k ∷ drop (i + 1) ks
  next_const = left-from i ks k there is

  first_value : (domain : Interval) (values : List ℤ) (n : ℕ) (others : List Const) (at : ℕ)
      → constants_faults domain (drop n values) (k ∷ others) at
      ≡ constant_faults domain (slice_get values n) at ++ constants_faults domain (drop (suc n) values) others (at + const_tokens k + 1)
  first_value domain [] zero [] at = refl
  first_value domain [] (suc n) [] at = refl
  first_value domain [] _ _ at = refl
  first_value domain (v ∷ values) zero others at = refl
  first_value domain (v ∷ values) (suc n) others at = first_value domain values n others at

  pub constants-next : (domain : Interval) (values : List ℤ) (at : ℕ)
      → constants_faults domain (drop i values) (drop i ks) at
      ≡ constant_faults domain (slice_get values i) at ++ constants_faults domain (drop (i + 1) values) (drop (i + 1) ks) (at + const_tokens k + 1)
  constants-next domain values at = rw next_const (first_value domain values i (drop (i + 1) ks) at ∙ rw add-one refl)
