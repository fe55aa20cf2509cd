-- Lines of assembly text: what each says.
use Rattle.std.specs.Prelude.{◌≡◌, ℕ, ◌-◌, ◌==◌, ◌&&◌, ◌||◌, Bool, true, false, List, [], ◌∷◌, length, take, drop, slice_index, if◌then◌else◌, bytes_eq, codes, is_some, Option, None, Some, Result, Ok, Err}
use Rattle.std.specs.Char.{is_ascii_alphabetic}
use Rattle.asm_tree.specs.Names.{is_word}
use Rattle.rv_isa.specs.declared.instr.Instr.TheVariants.{Lui, Auipc, Jal, Jalr, Beq, Bne, Blt, Bge, Bltu, Bgeu, Lb, Lh, Lw, Lbu, Lhu, Sb, Sh, Sw, Addi, Slti, Sltiu, Xori, Ori, Andi, Slli, Srli, Srai}
use Rattle.rv_isa.specs.declared.instr.Instr.TheVariants.{Add, Sub, Sll, Slt, Sltu, Xor, Srl, Sra, Or, And, Fence, Ecall, Ebreak}
use Rattle.rv_encode.specs.Table.{Row}
use Rattle.rv_line.specs.Forms.{branch, end, fence, immediate, jump, load, raw, registers, shift_by, store, upper}
use Rattle.rv_line.specs.Pieces.{Piece, Word, Sign, pieces, without_comment}
use Rattle.rv_line.specs.Words.{◌>>=◌, is_label}
use Rattle.rv_line.specs.declared.fault.LineFault.{LineFault}
use Rattle.rv_line.specs.declared.fault.LineFault.TheVariants.{Form, Mnemonic, Range, Undefined}
use Rattle.rv_line.specs.declared.item.Item.{Item}
use Rattle.rv_line.specs.declared.item.Item.TheVariants.{Coded, Raw}

-- the word is that of what a line says: of an instruction by the table of instructions, or the number that is written
abbrev pub IsWordOf : ℕ → Item → Type 0
IsWordOf w (Coded instr) = Row w instr
IsWordOf w (Raw n) = w ≡ n

-- arithmetic with registers: what a mnemonic and the pieces behind it say, one line for each mnemonic
unfoldable pub register_rows : List ℕ → List Piece → Result Item LineFault
register_rows mnemonic ps =
    if bytes_eq mnemonic (codes "add") then (registers ps >>= λ o. Ok (Coded (Add o.0 o.1 o.2))) else (
    if bytes_eq mnemonic (codes "sub") then (registers ps >>= λ o. Ok (Coded (Sub o.0 o.1 o.2))) else (
    if bytes_eq mnemonic (codes "sll") then (registers ps >>= λ o. Ok (Coded (Sll o.0 o.1 o.2))) else (
    if bytes_eq mnemonic (codes "slt") then (registers ps >>= λ o. Ok (Coded (Slt o.0 o.1 o.2))) else (
    if bytes_eq mnemonic (codes "sltu") then (registers ps >>= λ o. Ok (Coded (Sltu o.0 o.1 o.2))) else (
    if bytes_eq mnemonic (codes "xor") then (registers ps >>= λ o. Ok (Coded (Xor o.0 o.1 o.2))) else (
    if bytes_eq mnemonic (codes "srl") then (registers ps >>= λ o. Ok (Coded (Srl o.0 o.1 o.2))) else (
    if bytes_eq mnemonic (codes "sra") then (registers ps >>= λ o. Ok (Coded (Sra o.0 o.1 o.2))) else (
    if bytes_eq mnemonic (codes "or") then (registers ps >>= λ o. Ok (Coded (Or o.0 o.1 o.2))) else (
    if bytes_eq mnemonic (codes "and") then (registers ps >>= λ o. Ok (Coded (And o.0 o.1 o.2))) else (
    Err Mnemonic
    ))))))))))

-- arithmetic with an immediate: what a mnemonic and the pieces behind it say, one line for each mnemonic
unfoldable pub immediate_rows : List ℕ → List Piece → Result Item LineFault
immediate_rows mnemonic ps =
    if bytes_eq mnemonic (codes "addi") then (immediate ps >>= λ o. Ok (Coded (Addi o.0 o.1 o.2))) else (
    if bytes_eq mnemonic (codes "slti") then (immediate ps >>= λ o. Ok (Coded (Slti o.0 o.1 o.2))) else (
    if bytes_eq mnemonic (codes "sltiu") then (immediate ps >>= λ o. Ok (Coded (Sltiu o.0 o.1 o.2))) else (
    if bytes_eq mnemonic (codes "xori") then (immediate ps >>= λ o. Ok (Coded (Xori o.0 o.1 o.2))) else (
    if bytes_eq mnemonic (codes "ori") then (immediate ps >>= λ o. Ok (Coded (Ori o.0 o.1 o.2))) else (
    if bytes_eq mnemonic (codes "andi") then (immediate ps >>= λ o. Ok (Coded (Andi o.0 o.1 o.2))) else (
    if bytes_eq mnemonic (codes "slli") then (shift_by ps >>= λ o. Ok (Coded (Slli o.0 o.1 o.2))) else (
    if bytes_eq mnemonic (codes "srli") then (shift_by ps >>= λ o. Ok (Coded (Srli o.0 o.1 o.2))) else (
    if bytes_eq mnemonic (codes "srai") then (shift_by ps >>= λ o. Ok (Coded (Srai o.0 o.1 o.2))) else (
    Err Mnemonic
    )))))))))

-- loads, stores and `jalr`: what a mnemonic and the pieces behind it say, one line for each mnemonic
unfoldable pub memory_rows : List ℕ → List Piece → Result Item LineFault
memory_rows mnemonic ps =
    if bytes_eq mnemonic (codes "jalr") then (load ps >>= λ o. Ok (Coded (Jalr o.0 o.1 o.2))) else (
    if bytes_eq mnemonic (codes "lb") then (load ps >>= λ o. Ok (Coded (Lb o.0 o.1 o.2))) else (
    if bytes_eq mnemonic (codes "lh") then (load ps >>= λ o. Ok (Coded (Lh o.0 o.1 o.2))) else (
    if bytes_eq mnemonic (codes "lw") then (load ps >>= λ o. Ok (Coded (Lw o.0 o.1 o.2))) else (
    if bytes_eq mnemonic (codes "lbu") then (load ps >>= λ o. Ok (Coded (Lbu o.0 o.1 o.2))) else (
    if bytes_eq mnemonic (codes "lhu") then (load ps >>= λ o. Ok (Coded (Lhu o.0 o.1 o.2))) else (
    if bytes_eq mnemonic (codes "sb") then (store ps >>= λ o. Ok (Coded (Sb o.0 o.1 o.2))) else (
    if bytes_eq mnemonic (codes "sh") then (store ps >>= λ o. Ok (Coded (Sh o.0 o.1 o.2))) else (
    if bytes_eq mnemonic (codes "sw") then (store ps >>= λ o. Ok (Coded (Sw o.0 o.1 o.2))) else (
    Err Mnemonic
    )))))))))

-- branches, the other instructions and `.word`: what a mnemonic and the pieces behind it say, one line for each mnemonic
unfoldable pub other_rows : List (List ℕ × ℕ) → Option ℕ → List ℕ → List Piece → Result Item LineFault
other_rows labels here mnemonic ps =
    if bytes_eq mnemonic (codes "lui") then (upper ps >>= λ o. Ok (Coded (Lui o.0 o.1))) else (
    if bytes_eq mnemonic (codes "auipc") then (upper ps >>= λ o. Ok (Coded (Auipc o.0 o.1))) else (
    if bytes_eq mnemonic (codes "jal") then (jump labels here ps >>= λ o. Ok (Coded (Jal o.0 o.1))) else (
    if bytes_eq mnemonic (codes "beq") then (branch labels here ps >>= λ o. Ok (Coded (Beq o.0 o.1 o.2))) else (
    if bytes_eq mnemonic (codes "bne") then (branch labels here ps >>= λ o. Ok (Coded (Bne o.0 o.1 o.2))) else (
    if bytes_eq mnemonic (codes "blt") then (branch labels here ps >>= λ o. Ok (Coded (Blt o.0 o.1 o.2))) else (
    if bytes_eq mnemonic (codes "bge") then (branch labels here ps >>= λ o. Ok (Coded (Bge o.0 o.1 o.2))) else (
    if bytes_eq mnemonic (codes "bltu") then (branch labels here ps >>= λ o. Ok (Coded (Bltu o.0 o.1 o.2))) else (
    if bytes_eq mnemonic (codes "bgeu") then (branch labels here ps >>= λ o. Ok (Coded (Bgeu o.0 o.1 o.2))) else (
    if bytes_eq mnemonic (codes "fence") then (fence ps >>= λ o. Ok (Coded (Fence o.0 o.1 o.2))) else (
    if bytes_eq mnemonic (codes "ecall") then (end ps >>= λ o. Ok (Coded Ecall)) else (
    if bytes_eq mnemonic (codes "ebreak") then (end ps >>= λ o. Ok (Coded Ebreak)) else (
    if bytes_eq mnemonic (codes ".word") then (raw ps >>= λ o. Ok (Raw o)) else (
    Err Mnemonic
    )))))))))))))

-- the mnemonic is none of those that were looked at
abbrev pub is_unknown : Result Item LineFault → Bool
is_unknown (Ok item) = false
is_unknown (Err Form) = false
is_unknown (Err Mnemonic) = true
is_unknown (Err Range) = false
is_unknown (Err Undefined) = false

-- what is said, or what the next rows say where the mnemonic is none of these
abbrev pub or_next : Result Item LineFault → Result Item LineFault → Result Item LineFault
or_next said next = if is_unknown said then next else said

-- what a mnemonic and the pieces behind it say
unfoldable pub said_by : List (List ℕ × ℕ) → Option ℕ → List ℕ → List Piece → Result Item LineFault
said_by labels here mnemonic ps =
    or_next (register_rows mnemonic ps) (or_next (immediate_rows mnemonic ps) (or_next (memory_rows mnemonic ps) (other_rows labels here mnemonic ps)))

-- the longest front of letters, digits, `_` and `.`
abbrev pub mnemonic_front : List ℕ → List ℕ
mnemonic_front [] = []
mnemonic_front (c ∷ cs) = if is_word c || c == 46 then c ∷ mnemonic_front cs else []

-- the text begins with a letter or a point
abbrev pub begins_mnemonic : List ℕ → Bool
begins_mnemonic [] = false
begins_mnemonic (c ∷ cs) = is_ascii_alphabetic c || c == 46

-- A mnemonic whose word ends with it, or goes on: with a colon the word is a label out of place; with another byte the mnemonic must be one of the table, and then the line has no form, as no operands begin with a sign.
abbrev pub judged : List (List ℕ × ℕ) → Option ℕ → List ℕ → List ℕ → List Piece → Result Item LineFault
judged labels here mnemonic [] ps = said_by labels here mnemonic ps
judged labels here mnemonic (c ∷ cs) ps = if c == 58 then Err Form else said_by labels here mnemonic (Sign 44 ∷ [])

-- an instruction that begins with this word
unfoldable pub instruction : List (List ℕ × ℕ) → Option ℕ → List ℕ → List Piece → Result Item LineFault
instruction labels here w ps =
    if begins_mnemonic w then judged labels here (mnemonic_front w) (drop (length (mnemonic_front w)) w) ps else Err Form

-- what stands on a line behind its label: nothing, or an instruction
abbrev pub statement : List (List ℕ × ℕ) → Option ℕ → List Piece → Result (Option Item) LineFault
statement labels here [] = Ok None
statement labels here (Word w ∷ ps) = instruction labels here w ps >>= λ item. Ok (Some item)
statement labels here (Sign s ∷ ps) = Err Form

-- the label that a word is by the colon at its end
unfoldable pub label_word : List ℕ → Option (List ℕ)
label_word w =
    let label = take (length w - 1) w in
    if (slice_index w (length w - 1) == 58) && is_label label then Some label else None

-- the label that stands first, where one does
abbrev pub first_label : List Piece → Option (List ℕ)
first_label [] = None
first_label (Word w ∷ ps) = label_word w
first_label (Sign s ∷ ps) = None

-- the pieces behind the label that stands first, where one does
abbrev pub behind_label : List Piece → List Piece
behind_label ps = if is_some (first_label ps) then drop 1 ps else ps

-- the label of a line
unfoldable pub label : List ℕ → Option (List ℕ)
label line = first_label (pieces (without_comment line))

-- What a line says: nothing, or an instruction that is the word with the number `here`. Where no number is given, each label stands for the displacement 0.
unfoldable pub item : List (List ℕ × ℕ) → Option ℕ → List ℕ → Result (Option Item) LineFault
item labels here line = statement labels here (behind_label (pieces (without_comment line)))
