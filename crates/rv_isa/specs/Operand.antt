-- The ranges of the operands of RV32I instructions, as the fields of a word can hold them.
use Rattle.std.specs.Prelude.{◌≡◌, ℕ, ◌<◌, ◌^◌, ℤ, pos, negsuc, ◌≤ℤ◌, int_rem}

-- the number of a register, from 0 to 31
abbrev pub IsReg : ℕ → Type 0
IsReg n = n < 32

-- a multiple of 2, negative or not
abbrev pub IsEven : ℤ → Type 0
IsEven z = int_rem z (pos 2) ≡ pos 0

-- from -2048 to 2047, a signed number of 12 bits
abbrev pub IsImm12 : ℤ → Type 0
IsImm12 z = (negsuc 2047 ≤ℤ z) × (z ≤ℤ pos 2047)

-- an even number from -4096 to 4094, a displacement of a branch
abbrev pub IsImmB : ℤ → Type 0
IsImmB z = (negsuc 4095 ≤ℤ z) × (z ≤ℤ pos 4094) × IsEven z

-- an even number from -1048576 to 1048574, a displacement of a jump
abbrev pub IsImmJ : ℤ → Type 0
IsImmJ z = (negsuc 1048575 ≤ℤ z) × (z ≤ℤ pos 1048574) × IsEven z

-- from 0 to 1048575, a number of 20 bits
abbrev pub IsImmU : ℕ → Type 0
IsImmU n = n < 2 ^ 20

-- a number of bits to shift by, from 0 to 31
abbrev pub IsShift : ℕ → Type 0
IsShift n = n < 32
