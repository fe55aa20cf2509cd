-- How long the pieces may be, in words and in ticks.
use Rattle.std.specs.Prelude.{ℕ, ◌+◌, ◌*◌, List, if◌then◌else◌}
use Rattle.std.specs.List.{sum_by}
use Rattle.state_space.specs.Locations.{is_state}
use Rattle.state_space.specs.Sizes.{padded_sum}
use Rattle.state_space.specs.declared.signature.Signature.{Signature}

-- 1 for a function with its values in the state
abbrev pub one_if_state : Signature → ℕ
one_if_state signature = if is_state signature.kind then 1 else 0

-- how many functions have their values in the state
abbrev pub state_funs : List Signature → ℕ
state_funs signatures = sum_by one_if_state signatures

-- half of the frame of a program without loops, less 1
abbrev pub unrolled_half : List Signature → ℕ
unrolled_half signatures = 31 + 12 * padded_sum is_state signatures

-- and of one with loops, in words and in ticks
abbrev pub looped_half_words : List Signature → ℕ
looped_half_words signatures = 31 + 48 * state_funs signatures

abbrev pub looped_half_ticks : List Signature → ℕ
looped_half_ticks signatures = 31 + 48 * (padded_sum is_state signatures + state_funs signatures)
