-- Lists of words that grow by code.
use Rattle.std.specs.Prelude.{◌≡◌, ℕ, List, ◌++◌, Result, OnErr, OnOk}
use Rattle.rv_encode.specs.Table.{AreRows}
use Rattle.rv_isa.specs.declared.instr.Instr.{Instr}

-- the new list is the old one and then the words of this code
pub record HasGrown (code : List Instr) (old new : List ℕ) : Type 0 where
  pub more : List ℕ
  pub grown : new ≡ old ++ more
  pub rows : AreRows more code

-- the new list is the old one and then the words of a first part of this code
pub record HasBegun (code : List Instr) (old new : List ℕ) : Type 0 where
  pub first : List Instr
  pub rest : List Instr
  pub parts : code ≡ first ++ rest
  pub begun : HasGrown first old new

-- all of the code was appended, or, where this is a refusal, a first part of it
abbrev pub IsEmitted : {A E : Type 0} → Result A E → List Instr → (old new : List ℕ) → Type 0
IsEmitted result code old new = OnOk result (HasGrown code old new) × OnErr result (HasBegun code old new)
