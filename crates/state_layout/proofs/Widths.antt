-- The widths of values and flags, and offsets that are raised to a multiple of a width.
use Rattle.std.proofs.Common.{◌≡◌, ℕ, ◌+◌, ◌*◌, ◌%◌, ◌^◌, ◌<◌, ◌≤◌, refl, inl, inr, arith}
use Rattle.std.specs.Prelude.{nat_le}
use Rattle.std.proofs.lemmas.Bool.{cases_Bool, leb-true}
use Rattle.trap_model.specs.Width.{bytes_of}
use Rattle.trap_model.specs.declared.width.Width.{Width}
use Rattle.trap_model.specs.declared.width.Width.TheVariants.{Byte, Half, Word}
use Rattle.state_space.specs.declared.signature.Range.{Range}
use Rattle.state_space.specs.Decoding.{exponent}
use Rattle.state_space.specs.Sizes.{IsRange}
use Rattle.state_space.proofs.Exponents.{exponent_least}
use Rattle.state_layout.specs.declared.layout.Layout.{Layout}
use Rattle.state_layout.specs.declared.layout.Layout.TheVariants.{Packed, Words}
use Rattle.state_layout.specs.Map.{raised, value_width}

-- a raised offset is a multiple of the width, and is the offset or a little more
pub record Raises (width offset : ℕ) : Type 0 where
  pub multiple : raised width offset % width ≡ 0
  pub up : offset ≤ raised width offset
  pub little : raised width offset ≤ offset + 3

pub raises : (access : Width) (offset : ℕ) → Raises (bytes_of access) offset
raises Byte offset = record { multiple = omega arith; up = omega arith; little = omega arith }
raises Half offset = record { multiple = omega arith; up = omega arith; little = omega arith }
raises Word offset = record { multiple = omega arith; up = omega arith; little = omega arith }

-- the cells of an array of this width, whose start is a multiple of it
pub record Strides (width start index : ℕ) : Type 0 where
  pub aligned : (start + width * index) % width ≡ 0
  pub within : (count : ℕ) → index < count → (start + width * index) + width ≤ start + width * count
  pub next : (later : ℕ) → index < later → (start + width * index) + width ≤ start + width * later

pub strides : (access : Width) (start index : ℕ) → start % bytes_of access ≡ 0 → Strides (bytes_of access) start index
strides Byte start index h = record { aligned = omega arith; within = λ count k. omega arith; next = λ later k. omega arith }
strides Half start index h = record { aligned = omega arith; within = λ count k. omega arith; next = λ later k. omega arith }
strides Word start index h = record { aligned = omega arith; within = λ count k. omega arith; next = λ later k. omega arith }

pub width-some : (access : Width) → (1 ≤ bytes_of access) × (bytes_of access ≤ 4)
width-some Byte = (omega arith, omega arith)
width-some Half = (omega arith, omega arith)
width-some Word = (omega arith, omega arith)

-- what is a multiple of 4 is one of each width
pub divides : (access : Width) (offset : ℕ) → offset % 4 ≡ 0 → offset % bytes_of access ≡ 0
divides Byte offset h = omega arith
divides Half offset h = omega arith
divides Word offset h = omega arith

-- so many bytes hold each index
pub sizes-fit : (layout : Layout) (range : Range) → IsRange range → range.size ≤ 2 ^ (8 * value_width layout range)
sizes-fit Words range r = let few = r.few in omega arith
sizes-fit Packed range r = elim (cases_Bool (nat_le range.size 256)) [
  | inl e ↦ rw e (leb-true _ _ e)
  | inr e ↦ rw e r.few
]

pub exponents-fit : (layout : Layout) (range : Range) → IsRange range → exponent range.size ≤ 8 * value_width layout range
exponents-fit layout range r = exponent_least range.size (8 * value_width layout range) (sizes-fit layout range r)

-- 2 ^ (8 * width) is as many numbers as so many bytes hold
pub bytes-hold : (access : Width) → 2 ^ (8 * bytes_of access) ≡ 256 ^ bytes_of access
bytes-hold Byte = refl
bytes-hold Half = refl
bytes-hold Word = refl
