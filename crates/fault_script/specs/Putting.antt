-- A text that is appended to a list of bytes.
use Rattle.std.specs.Prelude.{◌≡◌, ℕ, ◌+◌, ◌≤◌, List, ◌++◌, take, length, Vec, vec_items, Result, OnOk, IsOk}
use Rattle.text_core.specs.Room.{room_of}

-- The text was appended, or, where memory ran out, a beginning of it. Where there is room for it, it was. The room falls by at
-- most its length.
pub record IsPut {A E Z : Type 0} (result : Result A E) (text : List ℕ) (old new : Vec ℕ Z) : Type 0 where
  pub ok : OnOk result (vec_items new ≡ vec_items old ++ text)
  pub kept : take (length (vec_items old)) (vec_items new) ≡ vec_items old
  pub fits : length text ≤ room_of old → IsOk result
  pub room : room_of old ≤ room_of new + length text

-- the text was appended
pub record IsBegun {Z : Type 0} (text : List ℕ) (old new : Vec ℕ Z) : Type 0 where
  pub grown : vec_items new ≡ vec_items old ++ text
  pub room : room_of old ≤ room_of new + length text
