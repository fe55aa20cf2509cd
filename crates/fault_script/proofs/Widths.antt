-- The texts of two states of a program differ in length by no more than the values.
use Rattle.std.proofs.Common.{◌≡◌, ℕ, zero, suc, ◌+◌, ◌*◌, ◌^◌, ◌<◌, ◌≤◌, ℤ, pos, negsuc, ◌+ℤ◌, ◌-ℤ◌, List, [], ◌∷◌, ◌++◌, map, length, max, refl, arith, length-append}
use Rattle.std.specs.Prelude.{◌≤ℤ◌, slice_get, unwrap_or}
use Rattle.std.specs.List.{AllByRecursion, zip}
use Rattle.std.specs.Fmt.{signed_decimal}
use Rattle.std.specs.Int.Signed.{mag}
use Rattle.std.proofs.Math.Nat.{le-max_left, le-max_right}
use Rattle.std.proofs.lemmas.Fmt.{length_signed_le}
use Rattle.std.proofs.lemmas.Int.{ints}
use Rattle.asm_names.specs.declared.program.Domain.{Domain}
use Rattle.asm_names.specs.declared.program.Resolved.{Resolved}
use Rattle.asm_ranges.specs.Values.{State, fun_of}
use Rattle.state_space.specs.declared.signature.Signature.{Signature}
use Rattle.state_space.specs.Codomains.{In, LocationsFit, codomain_range}
use Rattle.state_space.specs.Locations.{Location, signatures_of, state_locations}
use Rattle.state_space.specs.Sizes.{IsSized}
use Rattle.fault_script.specs.StateText.{domain_of, entry_text, location_text, spaced, state_text, value_text}
use Rattle.fault_script.specs.Widths.{longest, widest}

-- no name is longer
abbrev AreShort : ℕ → List (List ℕ) → Type 0
AreShort width names = AllByRecursion (λ name. length name ≤ width) names

longest-least : (least : ℕ) (names : List (List ℕ)) → least ≤ longest least names
longest-least least [] = omega arith
longest-least least (name ∷ names) =
    let a = le-max_left least (length name) in let b = longest-least (max least (length name)) names in omega arith

wider : (width more : ℕ) (names : List (List ℕ)) → width ≤ more → AreShort width names → AreShort more names
wider width more [] h short = tt
wider width more (name ∷ names) h short = (let s = short.0 in omega arith, wider width more names h short.1)

longest-each : (least : ℕ) (names : List (List ℕ)) → AreShort (longest least names) names
longest-each least [] = tt
longest-each least (name ∷ names) =
    let a = le-max_right least (length name) in let b = longest-least (max least (length name)) names in
    (omega arith, longest-each (max least (length name)) names)

widest-least : (least : ℕ) (domains : List Domain) → least ≤ widest least domains
widest-least least [] = omega arith
widest-least least (domain ∷ domains) =
    let a = longest-least least domain.items in let b = widest-least (longest least domain.items) domains in omega arith

widest-each : (least : ℕ) (domains : List Domain) (n : ℕ) → AreShort (widest least domains) (domain_of domains n).items
widest-each least [] n = tt
widest-each least (domain ∷ domains) zero = wider _ _ domain.items (widest-least (longest least domain.items) domains) (longest-each least domain.items)
widest-each least (domain ∷ domains) (suc n) = widest-each (longest least domain.items) domains n

-- ---- values
named : (width : ℕ) (names : List (List ℕ)) (k : ℕ) (text : List ℕ) → AreShort width names → length text ≤ width → length (unwrap_or (slice_get names k) text) ≤ width
named width [] k text short h = h
named width (name ∷ names) zero text short h = short.0
named width (name ∷ names) (suc k) text short h = named width names k text short.1 h

-- a value is its enumerator, or a number of seven digits
value-short : (width : ℕ) (domain : Domain) (value : ℤ) → AreShort width domain.items → 8 ≤ width → mag value + 1 < 10 ^ 7 → length (value_text domain value) ≤ width
value-short width domain (pos k) short h m =
    let d = length_signed_le 7 (pos k) m (omega arith) in named width domain.items k (signed_decimal (pos k)) short (omega arith)
value-short width domain (negsuc k) short h m = let d = length_signed_le 7 (negsuc k) m (omega arith) in omega arith

number-small : (value lo : ℤ) (size : ℕ) → lo ≤ℤ value → value ≤ℤ (lo +ℤ pos size -ℤ pos 1) → negsuc 1048575 ≤ℤ lo → (lo +ℤ pos size) ≤ℤ pos 1048577 → mag value + 1 < 10 ^ 7
number-small (pos k) lo size a b c d = let e : mag (pos k) ≡ k = refl in omega (arith, ints)
number-small (negsuc k) lo size a b c d = let e : mag (negsuc k) ≡ k = refl in omega (arith, ints)

zero-small : (value : ℤ) → pos 0 ≤ℤ value → value ≤ℤ pos 0 → mag value + 1 < 10 ^ 7
zero-small (pos k) a b = let e : mag (pos k) ≡ k = refl in omega (arith, ints)
zero-small (negsuc k) a b = let e : mag (negsuc k) ≡ k = refl in omega (arith, ints)

-- a value of a codomain is small
value-small : (signatures : List Signature) (fun : ℕ) (value : ℤ) → AllByRecursion IsSized signatures → In (codomain_range (slice_get signatures fun)) value → mag value + 1 < 10 ^ 7
value-small [] fun value sized in_range = zero-small value in_range.low in_range.high
value-small (s ∷ ss) zero value sized in_range = number-small value s.codomain.lo s.codomain.size in_range.low in_range.high sized.0.range.low sized.0.range.high
value-small (s ∷ ss) (suc fun) value sized in_range = value-small ss fun value sized.1 in_range

-- ---- states
module _ (program : Resolved) (sized : AllByRecursion IsSized (signatures_of program)) where
  abbrev width : ℕ
  width = widest 8 program.domains

  abbrev text_at : Location × ℤ → List ℕ
  text_at pair = entry_text program.domains (fun_of program pair.0.fun) pair.0.args pair.1

  entry-length : (location : Location) (value : ℤ) (rest : List ℕ)
      → length ((32 ∷ text_at (location, value)) ++ rest)
      ≡ 2 + (length (location_text program.domains (fun_of program location.fun) location.args) + (length (value_text (domain_of program.domains (fun_of program location.fun).codomain) value) + length rest))
  entry-length location value rest =
      let l = location_text program.domains (fun_of program location.fun) location.args in
      let v = value_text (domain_of program.domains (fun_of program location.fun).codomain) value in
      let a = length-append (32 ∷ text_at (location, value)) rest in
      let b = length-append l (61 ∷ v) in
      omega arith

  entries-room : (locations : List Location) (a b : List ℤ) → LocationsFit (signatures_of program) locations a → LocationsFit (signatures_of program) locations b
      → length (spaced (map text_at (zip locations b))) ≤ length (spaced (map text_at (zip locations a))) + length locations * width
  entries-room [] [] [] fa fb = omega arith
  entries-room [] [] (y ∷ b) fa fb = absurd fb
  entries-room [] (x ∷ a) b fa fb = absurd fa
  entries-room (l ∷ ls) [] b fa fb = absurd fa
  entries-room (l ∷ ls) (x ∷ a) [] fa fb = absurd fb
  entries-room (l ∷ ls) (x ∷ a) (y ∷ b) fa fb =
      let rest = entries-room ls a b fa.1 fb.1 in
      let la = entry-length l x (spaced (map text_at (zip ls a))) in
      let lb = entry-length l y (spaced (map text_at (zip ls b))) in
      let domain = domain_of program.domains (fun_of program l.fun).codomain in
      let s = value-short width domain y (widest-each 8 program.domains (fun_of program l.fun).codomain) (widest-least 8 program.domains) (value-small (signatures_of program) l.fun y sized fb.0) in
      omega arith

  -- the text of a state is no longer than that of another with the values' widths in addition
  pub states-room : (a b : State) → LocationsFit (signatures_of program) (state_locations (signatures_of program)) a → LocationsFit (signatures_of program) (state_locations (signatures_of program)) b
      → length (state_text program b) ≤ length (state_text program a) + length (state_locations (signatures_of program)) * width
  unfolding state_text
  states-room a b fa fb = entries-room (state_locations (signatures_of program)) a b fa fb
