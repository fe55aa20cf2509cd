-- A value that a text spells is one of its codomain.
use Rattle.std.proofs.Common.{◌≡◌, ◌+◌, ◌<◌, ℕ, ℤ, pos, ◌+ℤ◌, Bool, true, false, ◌&&◌, ◌==◌, not, List, length, Option, None, Some, Result, Ok, Err, bytes_eq, inl, inr, refl, ap, arith}
use Rattle.std.specs.Prelude.{IfOk, if◌then◌else◌, int_lt}
use Rattle.std.specs.List.{position_from}
use Rattle.std.proofs.lemmas.Bool.{and_parts}
use Rattle.std.proofs.lemmas.Int.{ints}
use Rattle.asm_names.specs.WellFormed.{IsDomain}
use Rattle.asm_names.specs.declared.program.Domain.{Domain}
use Rattle.asm_tree.specs.Names.{is_name}
use Rattle.state_space.specs.Codomains.{In, whole}
use Rattle.state_space.specs.declared.signature.Range.{Range}
use Rattle.fault_script.specs.StartValues.{index_or, is_number, named, number_spelled, numbered, value_given}
use Rattle.fault_script.specs.declared.script_end.ScriptFault.{ScriptFault}
use Rattle.fault_script.specs.declared.script_end.ScriptFault.TheVariants as script_faults
use Rattle.fault_script.proofs.Tables.{position-below}

is-false : (b : Bool) → not b ≡ true → b ≡ false
is-false true e = absurd cc
is-false false e = refl

module _ (domain : Domain) (is : IsDomain domain) where
  abbrev range : Range
  range = record { size = domain.size; lo = domain.lo }

  abbrev Fits : Result ℤ ScriptFault → Type 0
  Fits r = IfOk r (λ value. In (whole range) value)

  -- an enumerator's number
  named-fits : (text : List ℕ) (o : Option ℕ) → position_from (bytes_eq text) 0 domain.items ≡ o → Fits (index_or o)
  named-fits text None e = tt
  named-fits text (Some k) e =
      let below : k < 0 + length domain.items = position-below (bytes_eq text) 0 domain.items k e in
      elim is.names [
        | inl none ↦ absurd (let long = ap length none in omega arith)
        | inr some ↦ (
            let long = some.0 in
            let low = some.1 in
            record { low = omega (arith, ints); high = omega (arith, ints) })
      ]

  number-fits : (value : ℤ) (b : Bool) → is_number domain value ≡ b → Fits (if b then Ok value else Err script_faults.Range)
  number-fits value true e =
      let parts = and_parts (length domain.items == 0) (not (int_lt value domain.lo) && int_lt value (domain.lo +ℤ pos domain.size)) e in
      let ends = and_parts (not (int_lt value domain.lo)) (int_lt value (domain.lo +ℤ pos domain.size)) parts.1 in
      let low : int_lt value domain.lo ≡ false = is-false (int_lt value domain.lo) ends.0 in
      let high = ends.1 in
      record { low = omega (arith, ints); high = omega (arith, ints) }
  number-fits value false e = tt

  numbered-fits : (o : Option ℤ) → Fits (numbered domain o)
  numbered-fits None = tt
  numbered-fits (Some value) = number-fits value (is_number domain value) refl

  spelled-if : (text : List ℕ) (b : Bool) → Fits (if b then named domain.items text else numbered domain (number_spelled text))
  spelled-if text true = named-fits text (position_from (bytes_eq text) 0 domain.items) refl
  spelled-if text false = numbered-fits (number_spelled text)

  pub spelled-fits : (text : List ℕ) → Fits (value_given domain text)
  spelled-fits text = spelled-if text (is_name text)
