-- The numbers that say what the code of a program needs.
use Rattle.std.specs.Prelude.{ℕ, ◌+◌, ◌*◌, List, max}
use Rattle.asm_names.specs.declared.program.Resolved.{Resolved}
use Rattle.asm_names.specs.declared.resolved_rule.ResolvedRule.{ResolvedRule}
use Rattle.state_space.specs.declared.signature.Signature.{Signature as Function}
use Rattle.state_space.specs.Locations.{is_state, is_input, signatures_of}
use Rattle.state_space.specs.Sizes.{padded_sum}
use Rattle.bound_count.specs.declared.shape.Shape.{Shape}
use Rattle.bound_count.specs.declared.shape.Shape.TheVariants as shapes
use Rattle.state_layout.specs.declared.layout.Layout.{Layout}
use Rattle.state_layout.specs.declared.layout.Layout.TheVariants as layouts
use Rattle.state_layout.specs.Map.{arrays_end, raised}
use Rattle.bound_count.specs.declared.numbers.Numbers.{Numbers}
use Rattle.bound_count.specs.Amounts.{kept}
use Rattle.bound_count.specs.Counts.{is_output, is_static, function_count, location_count}
use Rattle.bound_count.specs.RuleWeights.{rule_words, rule_ticks, rule_registers, rule_nesting}

-- the words of a round beside its rule and its ports: flags are cleared before the rule, and what is staged is committed after it
abbrev pub frame_words : Shape → List Function → ℕ
frame_words shapes.Unrolled functions = 64 + 24 * padded_sum is_state functions
frame_words shapes.Looped functions = 64 + 96 * function_count is_state functions

-- its ticks
abbrev pub frame_ticks : Shape → List Function → ℕ
frame_ticks shapes.Unrolled functions = 64 + 24 * padded_sum is_state functions
frame_ticks shapes.Looped functions = 64 + 96 * (padded_sum is_state functions + function_count is_state functions)

-- the words of reading each input and sending each output, and as many ticks
abbrev pub ports_weight : List Function → ℕ
ports_weight functions = 16 * location_count is_input functions + 20 * location_count is_output functions

-- how many loops enclose one another at most
abbrev pub loop_depth : Shape → ResolvedRule → ℕ
loop_depth shapes.Unrolled rule = 0
loop_depth shapes.Looped rule = max 1 (rule_nesting rule)

-- how many ticks a round takes at most
abbrev pub round_number : Shape → Resolved → ℕ
round_number shape program =
    frame_ticks shape (signatures_of program) + rule_ticks shape program.domains program.rule + ports_weight (signatures_of program)

-- how many ticks pass at most before a round begins, wherever the hart stands
abbrev pub anchor_number : Shape → Resolved → ℕ
anchor_number shape program =
    (loop_depth shape program.rule + 2) * round_number shape program + (padded_sum is_static (signatures_of program) + 2)

-- how many words of ROM the code and the tables of static functions take
abbrev pub rom_number : Shape → Resolved → ℕ
rom_number shape program =
    frame_words shape (signatures_of program) + rule_words shape program.domains program.rule + ports_weight (signatures_of program)
    + padded_sum is_static (signatures_of program)

-- a word for each input location, for each binder, and four more
abbrev pub private_bytes : Resolved → ℕ
private_bytes program = 4 * (padded_sum is_input (signatures_of program) + program.binders + 4)

-- how many bytes of RAM: the state, as much again for staged values, flags, and the private words
abbrev pub ram_number : Layout → Resolved → ℕ
ram_number layouts.Words program = 12 * padded_sum is_state (signatures_of program) + private_bytes program
ram_number layouts.Packed program =
    2 * raised 4 (arrays_end layouts.Packed (signatures_of program)) + raised 4 (padded_sum is_state (signatures_of program)) + private_bytes program

-- how many registers terms need
abbrev pub register_number : Resolved → ℕ
register_number program = max 1 (rule_registers program.rule)

-- these numbers, each as far as it is told apart
abbrev pub numbers_of : Shape → Layout → Resolved → Numbers
numbers_of shape layout program = record {
  ram = kept (ram_number layout program);
  rom = kept (rom_number shape program);
  anchor = kept (anchor_number shape program);
  round = kept (round_number shape program);
  regs = kept (register_number program);
}
