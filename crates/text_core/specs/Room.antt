-- The room of a list of bytes.
use Rattle.std.specs.Prelude.{ℕ, ◌-◌, Vec, vec_len, vec_capacity}

-- how many bytes can be appended without taking memory
abbrev pub room_of : {Z : Type 0} → Vec ℕ Z → ℕ
room_of v = vec_capacity v - vec_len v
