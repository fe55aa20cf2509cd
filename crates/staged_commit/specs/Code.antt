-- The code of clearing, staging, committing, and of the ports.
use Rattle.std.specs.Prelude.{ℕ, ◌+◌, ◌*◌, pos, List, [], ◌∷◌, ◌++◌, slice_get, if◌then◌else◌}
use Rattle.rv_isa.specs.declared.instr.Instr.{Instr}
use Rattle.rv_isa.specs.declared.instr.Instr.TheVariants.{Addi, Beq, Lui, Lw, Sub, Sw}
use Rattle.trap_model.specs.Map.{ram_base}
use Rattle.trap_model.specs.declared.width.Width.TheVariants.{Word}
use Rattle.block_code.specs.Plan.{If, Line, Loop, Plan, Seq}
use Rattle.block_code.specs.Sequence.{load_by, load_fixed, load_immediate, scratch, store_by, store_fixed}
use Rattle.state_space.specs.declared.signature.Signature.{Signature}
use Rattle.state_space.specs.Locations.{is_state}
use Rattle.state_space.specs.Sizes.{padded_count}
use Rattle.mask_guard.specs.Mask.{address_of, decode_value, mask_index, shift_of, word_of}
use Rattle.state_layout.specs.declared.cell.Cell.{Cell}
use Rattle.state_layout.specs.Map.{Placement, access_at, args_of, array_start, cells, clash, counter, flag_access, flag_offset, flags_start, input_cells, kept_offset, range_at, staged_offset, staged_start, state_cells, value_offset}
pub use Rattle.state_space.specs.Locations.{is_output}

-- the register of a value, and of the padded index of an update
abbrev pub first : ℕ
first = 5

-- the register of an update's value
abbrev pub second : ℕ
second = 6

-- ---- clearing

-- the flag of each of these locations becomes 0
abbrev pub clear_cells : Placement → List Cell → List Instr
clear_cells placement [] = []
clear_cells placement (cell ∷ others) =
    store_fixed (flag_access placement.layout) 0 (flag_offset placement cell) ++ clear_cells placement others

-- the clash mark becomes 0
abbrev pub clear_mark : Placement → List Instr
clear_mark placement = store_fixed Word 0 (clash placement)

-- the clash mark and all flags become 0, without a loop
abbrev pub clear_unrolled : Placement → Plan
clear_unrolled placement = Line (clear_mark placement ++ clear_cells placement (state_cells placement))

-- ---- staging

-- the value in a register becomes its index, counted from the least value of the function
abbrev pub index_value : Placement → ℕ → List Instr
index_value placement fun = load_immediate scratch (word_of (range_at placement fun).lo) ++ (Sub second second scratch ∷ [])

-- the addresses of the flag and of the staged value at a padded index, of which one goes to register 7 and the other in its place
abbrev pub stage_addresses : Placement → ℕ → List Instr
stage_addresses placement fun =
    Addi 7 first (pos 0) ∷ (address_of 7 (ram_base + flags_start placement fun) (shift_of (flag_access placement.layout))
    ++ address_of first (ram_base + staged_start placement fun) (shift_of (access_at placement fun)))

-- the flag and the staged value as they were; the staged value is new, and the flag is 1
abbrev pub stage_stores : Placement → ℕ → List Instr
stage_stores placement fun =
    load_by (flag_access placement.layout) 8 7 (pos 0) ∷ load_by (access_at placement fun) 9 first (pos 0) ∷ store_by (access_at placement fun) first second (pos 0)
    ∷ Addi 10 0 (pos 1) ∷ store_by (flag_access placement.layout) 7 10 (pos 0) ∷ []

-- the mark is set, unless nothing was staged or the value is the same
abbrev pub stage_mark : Placement → List Instr
stage_mark placement = Beq 8 0 (pos 16) ∷ Beq 9 second (pos 12) ∷ store_fixed Word 10 (clash placement)

-- the value in one register is staged for the location whose padded index is in the other
abbrev pub stage_value : Placement → ℕ → List Instr
stage_value placement fun = index_value placement fun ++ (stage_addresses placement fun ++ (stage_stores placement fun ++ stage_mark placement))

-- so it is for the index that the register stands for, whatever it holds, where the function has an array of this size
abbrev pub stage_line : Placement → (fun count : ℕ) → List Instr
stage_line placement fun count = mask_index first count ++ stage_value placement fun

-- how many places the arrays of a function have
abbrev pub padded_at : Placement → ℕ → ℕ
padded_at placement fun = padded_count (args_of (slice_get placement.signatures fun))

-- the address, then the value, then they are staged
abbrev pub stage_update : Placement → (fun count : ℕ) → (address value : Plan) → Plan
stage_update placement fun count address value = Seq address (Seq value (Line (stage_line placement fun count)))

-- ---- committing

-- the staged value of a location becomes its value where its flag is not 0
abbrev pub commit_cell : Placement → Cell → List Instr
commit_cell placement cell =
    load_fixed (flag_access placement.layout) first (flag_offset placement cell)
    ++ (Beq first 0 (pos 20) ∷ (load_fixed (access_at placement cell.fun) first (staged_offset placement cell)
    ++ store_fixed (access_at placement cell.fun) first (value_offset placement cell)))

abbrev pub commit_cells : Placement → List Cell → List Instr
commit_cells placement [] = []
commit_cells placement (cell ∷ others) = commit_cell placement cell ++ commit_cells placement others

-- what is staged is copied by this code, unless the mark is set
abbrev pub unless_marked : Placement → Plan → Plan
unless_marked placement copy = Seq (Line (load_fixed Word first (clash placement))) (If first (Line []) copy)

-- the state takes what is staged, unless the mark is set, without a loop
abbrev pub commit_unrolled : Placement → Plan
commit_unrolled placement = unless_marked placement (Line (commit_cells placement (state_cells placement)))

-- ---- loops over the padded arrays

-- the counter becomes an index of a padded array of this size
abbrev pub counted_index : Placement → ℕ → List Instr
counted_index placement size = load_fixed Word first (counter placement) ++ mask_index first size

-- the flag at the counter becomes 0
abbrev pub clear_body : Placement → (fun size : ℕ) → List Instr
clear_body placement fun size =
    counted_index placement size ++ (address_of first (ram_base + flags_start placement fun) (shift_of (flag_access placement.layout))
    ++ (store_by (flag_access placement.layout) first 0 (pos 0) ∷ []))

-- the staged value at the counter becomes the value where the flag is not 0
abbrev pub commit_body : Placement → (fun size : ℕ) → List Instr
commit_body placement fun size =
    counted_index placement size ++ (Addi second first (pos 0) ∷ (address_of second (ram_base + flags_start placement fun) (shift_of (flag_access placement.layout))
    ++ (load_by (flag_access placement.layout) second second (pos 0) ∷ Beq second 0 (pos 48) ∷ Addi second first (pos 0)
    ∷ (address_of second (ram_base + staged_start placement fun) (shift_of (access_at placement fun))
    ++ (load_by (access_at placement fun) second second (pos 0)
    ∷ (address_of first (ram_base + array_start placement fun) (shift_of (access_at placement fun)) ++ (store_by (access_at placement fun) first second (pos 0) ∷ [])))))))

-- a loop over the padded array of each function with its values in the state, where the first function has the number n
abbrev pub over_arrays : Placement → (body : Placement → (fun size : ℕ) → List Instr) → ℕ → List Signature → Plan
over_arrays placement body n [] = Line []
over_arrays placement body n (signature ∷ signatures) =
    if is_state signature.kind
    then Seq (Loop (padded_count signature.args) (counter placement) (Line (body placement n (padded_count signature.args)))) (over_arrays placement body (n + 1) signatures)
    else over_arrays placement body (n + 1) signatures

abbrev pub clear_looped : Placement → Plan
clear_looped placement = Seq (Line (clear_mark placement)) (over_arrays placement clear_body 0 placement.signatures)

abbrev pub commit_looped : Placement → Plan
commit_looped placement = unless_marked placement (over_arrays placement commit_body 0 placement.signatures)

-- ---- the ports

-- the word of a location is read at a port, and kept
abbrev pub read_cell : Placement → (port : ℕ) → Cell → List Instr
read_cell placement port cell = Lui first 0x20000 ∷ Lw first first (pos (4 * port)) ∷ store_fixed Word first (kept_offset placement cell)

-- the word of each of these locations is read at its port, the first at this one, and kept
abbrev pub read_cells : Placement → (port : ℕ) → List Cell → List Instr
read_cells placement port [] = []
read_cells placement port (cell ∷ others) = read_cell placement port cell ++ read_cells placement (port + 1) others

abbrev pub read_inputs : Placement → Plan
read_inputs placement = Line (read_cells placement 0 (input_cells placement))

-- the locations whose values are sent, in order
abbrev pub output_cells : List Signature → List Cell
output_cells signatures = cells is_output signatures

-- the word in the register goes to a port
abbrev pub send_word : (port : ℕ) → List Instr
send_word port = Lui scratch 0x20001 ∷ Sw scratch first (pos (4 * port)) ∷ []

-- the value of a location is sent to a port
abbrev pub send_cell : Placement → (port : ℕ) → Cell → List Instr
send_cell placement port cell =
    load_fixed (access_at placement cell.fun) first (value_offset placement cell)
    ++ (decode_value first (range_at placement cell.fun).size (range_at placement cell.fun).lo ++ send_word port)

-- the value of each of these locations is sent to its port, the first to this one
abbrev pub send_cells : Placement → (port : ℕ) → List Cell → List Instr
send_cells placement port [] = []
send_cells placement port (cell ∷ others) = send_cell placement port cell ++ send_cells placement (port + 1) others

abbrev pub send_outputs : Placement → Plan
send_outputs placement = Line (send_cells placement 0 (output_cells placement.signatures))
