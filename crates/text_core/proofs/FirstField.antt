-- The first field of a line.
use Rattle.std.proofs.Common.{◌≡◌, ℕ, zero, suc, ◌+◌, ◌<◌, ◌≤◌, Bool, true, false, List, [], ◌∷◌, length, take, drop, not, refl, sym, ap, ◌∙◌, arith, inl, inr}
use Rattle.std.specs.List.{prefix_len}
use Rattle.std.proofs.lemmas.Bool.{cases_Bool, false≢true}
use Rattle.std.proofs.lemmas.List.{drop-drop, length-drop}
use Rattle.std.proofs.lemmas.List.Sums.{prefix_len-le-length}
use Rattle.std.proofs.Math.Nat.{add-sub_cancel_left}
use Rattle.std.proofs.Math.Seq.{drop-length}
use Rattle.text_core.specs.Lines.{joined}
use Rattle.text_core.specs.Fields.{begins_blank, fields, is_blank, piece}

abbrev is_other : ℕ → Bool
is_other byte = not (is_blank byte)

behind_blank : (c : ℕ) (cs : List ℕ) (n : ℕ) → prefix_len is_blank (c ∷ cs) ≡ suc n → (is_blank c ≡ true) × (prefix_len is_blank cs ≡ n)
behind_blank c cs n e = elim (cases_Bool (is_blank c)) [
  | inl blank ↦ (blank, omega (arith, rw blank at e))
  | inr other ↦ absurd (omega (arith, rw other at e))
]

behind_other : (c : ℕ) (cs : List ℕ) (n : ℕ) → prefix_len is_other (c ∷ cs) ≡ suc n → (is_blank c ≡ false) × (prefix_len is_other cs ≡ n)
behind_other c cs n e = elim (cases_Bool (is_blank c)) [
  | inl blank ↦ absurd (omega (arith, rw blank at e))
  | inr other ↦ (other, omega (arith, rw other at e))
]

at_blank : (c : ℕ) (cs : List ℕ) → prefix_len is_other (c ∷ cs) ≡ 0 → is_blank c ≡ true
at_blank c cs e = elim (cases_Bool (is_blank c)) [
  | inl blank ↦ blank
  | inr other ↦ absurd (omega (arith, rw other at e))
]

skip : (n : ℕ) (line : List ℕ) → prefix_len is_blank line ≡ n → fields line ≡ fields (drop n line)
skip zero line e = refl
skip (suc n) [] e = refl
skip (suc n) (c ∷ cs) e = let h = behind_blank c cs n e in rw h.0 (skip n cs h.1)

no_blank : (n : ℕ) (line : List ℕ) → prefix_len is_blank line ≡ n → n < length line → begins_blank (drop n line) ≡ false
no_blank n [] e short = absurd (omega arith)
no_blank zero (c ∷ cs) e short = elim (cases_Bool (is_blank c)) [
  | inl blank ↦ absurd (omega (arith, rw blank at e))
  | inr other ↦ other
]
no_blank (suc n) (c ∷ cs) e short = no_blank n cs (behind_blank c cs n e).1 (omega arith)

pub no_field : (line : List ℕ) → prefix_len is_blank line ≡ length line → fields line ≡ []
no_field line e = skip (length line) line e ∙ ap fields (drop-length line)

-- a byte with no blank behind it begins the field that follows it
begins_field : (c : ℕ) (cs : List ℕ) → is_blank c ≡ false → begins_blank cs ≡ false → fields (c ∷ cs) ≡ joined c (fields cs)
begins_field c cs other plain = rw (other, plain) refl

field_first : (n : ℕ) (line : List ℕ) → begins_blank line ≡ false → prefix_len is_other line ≡ n → (0 < n) × (fields line ≡ take n line ∷ fields (drop n line))
field_first n [] plain e = absurd (false≢true (sym plain))
field_first zero (c ∷ cs) plain e = absurd (false≢true (sym plain ∙ at_blank c cs e))
field_first (suc zero) (c ∷ []) plain e = (omega arith, rw plain refl)
field_first (suc zero) (c ∷ d ∷ ds) plain e =
    let first = behind_other c (d ∷ ds) 0 e in
    (omega arith, rw (plain, at_blank d ds first.1) refl)
field_first (suc (suc n)) (c ∷ []) plain e = absurd (omega (arith, (behind_other c [] (suc n) e).1))
field_first (suc (suc n)) (c ∷ d ∷ ds) plain e =
    let first = behind_other c (d ∷ ds) (suc n) e in
    let second = behind_other d ds n first.1 in
    (omega arith, begins_field c (d ∷ ds) plain second.0 ∙ ap (joined c) (field_first (suc n) (d ∷ ds) second.0 first.1).1)

-- what the first field's start and end say
pub record IsFirst (line : List ℕ) (place : ℕ × ℕ) : Type 0 where
  pub some : place.0 < place.1
  pub inside : place.1 ≤ length line
  pub field : fields line ≡ piece line place ∷ fields (drop place.1 line)

pub first_place : (line : List ℕ) (start len : ℕ) → start ≡ prefix_len is_blank line → start < length line → len ≡ prefix_len (λ byte. not (is_blank byte)) (drop start line) → IsFirst line (start, start + len)
first_place line start len e short f =
    let first = field_first len (drop start line) (no_blank start line (sym e) short) (sym f) in
    record {
      some = omega (arith, first.0);
      inside = omega (arith, prefix_len-le-length {X = ℕ}, length-drop {A = ℕ});
      field = rw (add-sub_cancel_left start len, ← drop-drop len start line) (skip start line (sym e) ∙ first.1);
    }
