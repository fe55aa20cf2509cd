-- What the masks do: each leads from its top to this moment. Where it leads, it leads nowhere else, and does not trap.
use Rattle.std.specs.Prelude.{◌≡◌, ℕ, ◌+◌, ◌-◌, ◌*◌, ◌%◌, ◌^◌, ◌<◌, ◌≤◌, ℤ, pos, ◌+ℤ◌, ◌-ℤ◌, List, FitsSigned}
use Rattle.std.specs.Int.{w32}
use Rattle.rv_machine.specs.Memory.{number_at}
use Rattle.rv_machine.specs.Word.{minus, plus, shifted_left, shifted_right}
use Rattle.trap_model.specs.Map.{ram_base}
use Rattle.trap_model.specs.Width.{bytes_of}
use Rattle.trap_model.specs.declared.width.Width.{Width}
use Rattle.state_space.specs.declared.signature.Range.{Range}
use Rattle.state_space.specs.Decoding.{index_of}
use Rattle.state_space.specs.Sizes.{IsRange}
use Rattle.block_code.specs.Effect.{LineDoes, reg_at, saved, written}
use Rattle.block_code.specs.Moment.{Moment}
use Rattle.block_code.specs.Place.{IsAtTop, IsMachine}
use Rattle.block_code.specs.Plan.{AreStoreless, IsLine}
use Rattle.block_code.specs.Sequence.{scratch}
use Rattle.block_code.specs.SequenceLaw.{IsOffset}
use Rattle.mask_guard.specs.Mask.{address_of, decode_value, load_cell, mask_index, shift_of, store_cell, word_of}

-- one of the registers in which terms are worked out
pub record IsTermRegister (register : ℕ) : Type 0 where
  pub from : 5 ≤ register
  pub to : register ≤ 20

-- a number of values that a mask can be for
pub record IsMaskable (size : ℕ) : Type 0 where
  pub some : 1 ≤ size
  pub few : size ≤ 2 ^ 19

-- ---- the numbers

-- shifted left and right again, a word keeps so many low bits
abbrev pub ShiftsKeepLowBits : Type 0
ShiftsKeepLowBits = (word bits : ℕ) → bits ≤ 32 → shifted_right (shifted_left word (32 - bits)) (32 - bits) ≡ word % 2 ^ bits

-- the word of a sum is the sum of the words, and so is that of a difference
abbrev pub WordsAdd : Type 0
WordsAdd = (left right : ℤ) → FitsSigned w32 left → FitsSigned w32 right → plus (word_of left) (word_of right) ≡ word_of (left +ℤ right)

abbrev pub WordsSubtract : Type 0
WordsSubtract = (left right : ℤ) → FitsSigned w32 left → FitsSigned w32 right → minus (word_of left) (word_of right) ≡ word_of (left -ℤ right)

-- a mask can be for each domain, and its values are numbers of 32 bits
abbrev pub RangesAreMaskable : Type 0
RangesAreMaskable =
    (range : Range) → IsRange range
    → IsMaskable range.size × ((index : ℕ) → index < range.size → FitsSigned w32 (range.lo +ℤ pos index)) × FitsSigned w32 range.lo

-- ---- the code

-- the register holds the index of the word that it held
abbrev pub IndexIsMasked : Type 0
IndexIsMasked =
    (rom : List ℕ) (size address register count : ℕ) (s : Moment) → IsAtTop size address (mask_index register count) s → address % 4 ≡ 0 → IsTermRegister register → IsMaskable count
    → LineDoes rom address (mask_index register count) s
    (written (address + 24) register (index_of count (reg_at register s)) (written (address + 24) scratch count s))

-- the register holds the word of the value that it stood for
abbrev pub ValueIsDecoded : Type 0
ValueIsDecoded =
    (rom : List ℕ) (size address register count : ℕ) (lo : ℤ) (s : Moment) → IsAtTop size address (decode_value register count lo) s → address % 4 ≡ 0 → IsTermRegister register → IsMaskable count → FitsSigned w32 lo
    → LineDoes rom address (decode_value register count lo) s
    (written (address + 36) register (word_of (lo +ℤ pos (index_of count (reg_at register s)))) (written (address + 36) scratch (word_of lo) s))

-- the register holds the address of the cell with the number that it held
abbrev pub AddressIsMade : Type 0
AddressIsMade =
    (rom : List ℕ) (size address register base shift : ℕ) (s : Moment) → IsAtTop size address (address_of register base shift) s → IsTermRegister register → base < 2 ^ 32
    → LineDoes rom address (address_of register base shift) s
    (written (address + 16) register ((base + 2 ^ shift * reg_at register s) % 2 ^ 32) (written (address + 16) scratch base s))

-- 2 ^ shift bytes are a width
abbrev pub ShiftsAreWidths : Type 0
ShiftsAreWidths = (width : Width) → 2 ^ shift_of width ≡ bytes_of width

-- the register holds the number at the offset whose address it held
abbrev pub CellIsLoaded : Type 0
CellIsLoaded =
    (rom : List ℕ) (size address : ℕ) (width : Width) (register offset : ℕ) (s : Moment) → IsMachine rom size → IsAtTop size address (load_cell width register) s
    → reg_at register s ≡ ram_base + offset → IsOffset width offset → offset < size
    → LineDoes rom address (load_cell width register) s (written (address + 4) register (number_at (bytes_of width) offset s.hart.ram) s)

-- RAM holds the low bytes of the second register at the offset whose address the first holds
abbrev pub CellIsStored : Type 0
CellIsStored =
    (rom : List ℕ) (size address : ℕ) (width : Width) (base register offset : ℕ) (s : Moment) → IsMachine rom size → IsAtTop size address (store_cell width base register) s
    → reg_at base s ≡ ram_base + offset → IsOffset width offset → offset < size
    → LineDoes rom address (store_cell width base register) s (saved (address + 4) (bytes_of width) offset (reg_at register s) s)

-- the masks are lines, and store nothing
abbrev pub MasksAreLines : Type 0
MasksAreLines =
    (register size base shift : ℕ) (lo : ℤ)
    → (IsLine (mask_index register size) × AreStoreless (mask_index register size))
    × (IsLine (decode_value register size lo) × AreStoreless (decode_value register size lo))
    × (IsLine (address_of register base shift) × AreStoreless (address_of register base shift))
