-- The start of a bare hart: a base, and what a job sets on it.
use Rattle.std.specs.Prelude.{ℕ, zero, suc, ◌+◌, ◌*◌, ◌/◌, ◌%◌, ◌^◌, List, [], ◌∷◌, Option, Some, None, flat_map, replicate, slice_set, if◌then◌else◌}
use Rattle.std.specs.Option.{unwrap_or}
use Rattle.byteorder.specs.Endian.{little_bytes}
use Rattle.rv_machine.specs.Hart.{HartState, with_reg}
use Rattle.job_text.specs.Keys.{runs_hart}
use Rattle.job_text.specs.Told.{ToldState, ram_size}
use Rattle.job_text.specs.declared.mode.Mode.{Mode}
use Rattle.job_text.specs.declared.told.Base.{Base}
use Rattle.job_text.specs.declared.told.Base.TheVariants.{Fill, Seed}
use Rattle.job_text.specs.declared.told.Edit.{Edit}
use Rattle.job_text.specs.declared.told.Edit.TheVariants.{Register, Memory}

-- ---- the generator

-- the value after a value
unfoldable pub successor : ℕ → ℕ
successor value = (1664525 * value + 1013904223) % 2 ^ 32

-- so many values behind a value
abbrev pub generated : ℕ → ℕ → List ℕ
generated zero value = []
generated (suc count) value = successor value ∷ generated count (successor value)

-- the last of so many values behind a value, or that value itself
abbrev pub after : ℕ → ℕ → ℕ
after zero value = value
after (suc count) value = after count (successor value)

-- ---- the hart

-- the program counter, the registers x0 to x31, and the words of RAM in address order
pub record BareState : Type 0 where
  pub pc : ℕ
  pub regs : List ℕ
  pub ram : List ℕ

-- each word of RAM is this one, and all else is 0
abbrev pub filled : ℕ → ℕ → BareState
filled words word = record { pc = 0; regs = replicate 32 0; ram = replicate words word }

-- the generator's values from a seed: the words of RAM, then x1 to x31, then the program counter
abbrev pub seeded : ℕ → ℕ → BareState
seeded words seed = record {
  pc = successor (after 31 (after words seed));
  regs = 0 ∷ generated 31 (after words seed);
  ram = generated words seed;
}

-- what `fill` or `seed` makes; where neither is said, all is 0
abbrev pub base_of : ℕ → Option Base → BareState
base_of words None = filled words 0
base_of words (Some (Fill word)) = filled words word
base_of words (Some (Seed seed)) = seeded words seed

-- a register or a word of RAM that is set
abbrev pub with_edit : BareState → Edit → BareState
with_edit bare (Register number word) = record bare { regs = with_reg number word bare.regs }
with_edit bare (Memory index word) = record bare { ram = slice_set bare.ram index word }

-- what is set, in order
abbrev pub with_edits : BareState → List Edit → BareState
with_edits bare [] = bare
with_edits bare (edit ∷ edits) = with_edits (with_edit bare edit) edits

-- the number of words of RAM
abbrev pub ram_words : ToldState → ℕ
ram_words told = ram_size told.revision / 4

-- ---- the start

-- a hart as it starts, with the readings of its input ports
pub record StartState : Type 0 where
  pub pc : ℕ
  pub regs : List ℕ
  pub ram : List ℕ
  pub readings : List ℕ

-- the start from what is set on the base, with the program counter that is said, if one is
abbrev pub started : ToldState → BareState → StartState
started told bare = record { pc = unwrap_or told.pc bare.pc; regs = bare.regs; ram = bare.ram; readings = told.readings }

-- a mode that runs no hart has none
abbrev pub no_hart : BareState
no_hart = record { pc = 0; regs = []; ram = [] }

-- the hart that a job of this mode tells, its program counter that of the base
abbrev pub bare_of : Mode → ToldState → BareState
bare_of which told = if runs_hart which then with_edits (base_of (ram_words told) told.base) told.edits else no_hart

-- the start that a job tells
unfoldable pub start_of : Mode → ToldState → StartState
start_of which told = started told (bare_of which told)

-- ---- the hart of a start

-- words of RAM as bytes, the lowest byte of each first
abbrev pub bytes_of : List ℕ → List ℕ
bytes_of words = flat_map (λ word. little_bytes 4 word) words

-- the hart that starts so
abbrev pub hart_of : StartState → HartState
hart_of start = record { pc = start.pc; regs = start.regs; ram = bytes_of start.ram }
