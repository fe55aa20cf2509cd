-- The code of terms: blocks that leave a term's value in a register, and use none of those below it.
use Rattle.std.specs.Prelude.{ℕ, suc, ◌+◌, ◌*◌, ◌%◌, ◌^◌, Bool, true, ◌&&◌, nat_lt, List, [], ◌∷◌, ◌++◌, map, take, slice_get, Option, Some, None}
use Rattle.std.specs.List.{list_all}
use Rattle.asm_tree.specs.declared.decl.Kind.{Kind}
use Rattle.asm_tree.specs.declared.decl.Kind.TheVariants as kinds
use Rattle.asm_names.specs.declared.{program.Resolved.{Resolved}, resolved_term.ResolvedTerm.{ResolvedTerm, ResolvedTerm-F, fold-ResolvedTerm}}
use Rattle.state_space.specs.{declared.signature.{Range.{Range}, Signature.{Signature}}, Decoding.{exponent}, Sizes.{padded_sum}}
use Rattle.rv_isa.specs.declared.instr.Instr.{Instr}
use Rattle.rv_isa.specs.declared.instr.Instr.TheVariants.{Add, Slli, Srli, Sub}
use Rattle.trap_model.specs.Map.{ram_base}
use Rattle.trap_model.specs.declared.width.Width.TheVariants.{Word}
use Rattle.block_code.specs.Plan.{If, Line, Plan, Seq}
use Rattle.block_code.specs.Sequence.{load_fixed, load_immediate, scratch}
use Rattle.state_layout.specs.Map.{Placement, access_at, array_start, kept_start, slot}
use Rattle.mask_guard.specs.Mask.{address_of, decode_value, load_cell, mask_index, shift_of, word_of}
use Rattle.instr_select.specs.{Binders.{binder_range}, Operators.{denied, greater, lesser, operated}}
pub use Rattle.state_space.specs.Locations.{is_static}

-- the value of a binder whose word stands at the offset: a loop's counter is decoded in the loop's domain
abbrev pub binder_line : Option Range → (offset register : ℕ) → List Instr
binder_line None offset register = load_fixed Word register offset
binder_line (Some range) offset register = load_fixed Word register offset ++ decode_value register range.size range.lo

-- ---- the index of arguments

-- an argument's value becomes its index in its domain, whatever the value is
abbrev pub argument_line : Range → ℕ → List Instr
argument_line range register = load_immediate scratch (word_of range.lo) ++ (Sub register register scratch ∷ mask_index register range.size)

-- the index of one argument more, in the next register, goes behind that of the arguments before
abbrev pub joined_line : Range → ℕ → List Instr
joined_line range register =
    argument_line range (suc register) ++ (Slli register register (exponent range.size) ∷ Add register register (suc register) ∷ [])

-- the arguments behind the first, one after another
abbrev pub further_plan : List Range → List (ℕ → Plan) → ℕ → Plan
further_plan [] args register = Line []
further_plan (range ∷ ranges) [] register = Line []
further_plan (range ∷ ranges) (arg ∷ args) register =
    Seq (arg (suc register)) (Seq (Line (joined_line range register)) (further_plan ranges args register))

-- the padded index of an argument tuple: that of a location, whatever the arguments' values are
abbrev pub index_plan : List Range → List (ℕ → Plan) → ℕ → Plan
index_plan [] args register = Line (load_immediate register 0)
index_plan (range ∷ ranges) [] register = Line (load_immediate register 0)
index_plan (range ∷ ranges) (arg ∷ args) register =
    Seq (arg register) (Seq (Line (argument_line range register)) (further_plan ranges args register))

-- ---- what is read at an index

-- where the table of a static function begins, behind those before it
abbrev pub table_start : Placement → (tables fun : ℕ) → ℕ
table_start placement tables fun = (tables + 4 * padded_sum is_static (take fun placement.signatures)) % 2 ^ 32

-- an index becomes what is read there: the number in the function's array, the word that an input's port read, or the index in a word of a table.
-- The address of a table's word is cut to 20 bits, so that no port is read wherever the tables are said to stand.
abbrev pub cell_line : Placement → (tables fun : ℕ) → Kind → ℕ → List Instr
cell_line placement tables fun kinds.Controlled register =
    address_of register (ram_base + array_start placement fun) (shift_of (access_at placement fun)) ++ load_cell (access_at placement fun) register
cell_line placement tables fun kinds.Output register =
    address_of register (ram_base + array_start placement fun) (shift_of (access_at placement fun)) ++ load_cell (access_at placement fun) register
cell_line placement tables fun kinds.Input register = address_of register (ram_base + kept_start placement fun) 2 ++ load_cell Word register
cell_line placement tables fun kinds.Static register =
    address_of register (table_start placement tables fun) 2
    ++ (Slli register register 12 ∷ Srli register register 12 ∷ (load_cell Word register ++ (Srli register register 12 ∷ [])))

-- the value of a function at an index, decoded in its codomain
abbrev pub read_line : Placement → (tables fun : ℕ) → Signature → ℕ → List Instr
read_line placement tables fun signature register =
    cell_line placement tables fun signature.kind register ++ decode_value register signature.codomain.size signature.codomain.lo

abbrev pub read_plan : Placement → (tables fun : ℕ) → Option Signature → List (ℕ → Plan) → ℕ → Plan
read_plan placement tables fun None args register = Line []
read_plan placement tables fun (Some signature) args register =
    Seq (index_plan signature.args args register) (Line (read_line placement tables fun signature register))

-- ---- terms

-- one term, with the code of each part in its place, by the register that it leaves its value in
abbrev pub term_plan_by : Resolved → Placement → ℕ → ResolvedTerm-F (ℕ → Plan) → ℕ → Plan
term_plan_by program placement tables (ResolvedTerm-F.Number value) register = Line (load_immediate register (word_of value))
term_plan_by program placement tables (ResolvedTerm-F.Var binder) register = Line (binder_line (binder_range program binder) (slot placement binder) register)
term_plan_by program placement tables (ResolvedTerm-F.Read fun args) register = read_plan placement tables fun (slice_get placement.signatures fun) args register
term_plan_by program placement tables (ResolvedTerm-F.Binary op left right) register = Seq (left register) (Seq (right (suc register)) (Line (operated op register)))
term_plan_by program placement tables (ResolvedTerm-F.Not inner) register = Seq (inner register) (Line (denied register))
term_plan_by program placement tables (ResolvedTerm-F.Min first second) register = Seq (first register) (Seq (second (suc register)) (Line (lesser register)))
term_plan_by program placement tables (ResolvedTerm-F.Max first second) register = Seq (first register) (Seq (second (suc register)) (Line (greater register)))
term_plan_by program placement tables (ResolvedTerm-F.Cond guard first second) register = Seq (guard register) (If register (first register) (second register))

-- the code that leaves a term's value in a register, where the tables of static functions stand at this address
unfoldable pub term_plan : Resolved → Placement → ℕ → ResolvedTerm → ℕ → Plan
term_plan program placement tables = fold-ResolvedTerm (ℕ → Plan) (term_plan_by program placement tables)

-- the code that leaves the index of arguments from these domains in a register
abbrev pub arguments_plan : Resolved → Placement → ℕ → List Range → List ResolvedTerm → ℕ → Plan
arguments_plan program placement tables ranges args register = index_plan ranges (map (term_plan program placement tables) args) register

-- one term, with whether the binders of each part are among the first so many
abbrev pub binders_below_by : ℕ → ResolvedTerm-F Bool → Bool
binders_below_by binders (ResolvedTerm-F.Number value) = true
binders_below_by binders (ResolvedTerm-F.Var binder) = nat_lt binder binders
binders_below_by binders (ResolvedTerm-F.Read fun args) = list_all (λ below. below) args
binders_below_by binders (ResolvedTerm-F.Binary op left right) = left && right
binders_below_by binders (ResolvedTerm-F.Not inner) = inner
binders_below_by binders (ResolvedTerm-F.Min first second) = first && second
binders_below_by binders (ResolvedTerm-F.Max first second) = first && second
binders_below_by binders (ResolvedTerm-F.Cond guard first second) = guard && (first && second)

-- whether a term has no binder but the first so many
unfoldable pub binders_below : ℕ → ResolvedTerm → Bool
binders_below binders = fold-ResolvedTerm Bool (binders_below_by binders)
