-- What reading a whole list of tokens answers.
use Rattle.std.specs.Prelude.{◌≡◌, ℕ, ◌+◌, ◌-◌, length, Result, Ok, Err}
use Rattle.asm_rules.specs.declared.cursor.Stop.{Stop}
use Rattle.asm_rules.specs.declared.cursor.Stop.TheVariants as stops
use Rattle.asm_rules.specs.Reading.{Input}
use Rattle.asm_syntax.specs.Reading.{program}
use Rattle.asm_syntax.specs.declared.parsing.ParseEnd.{ParseEnd}
use Rattle.asm_syntax.specs.declared.parsing.ParseEnd.TheVariants as ends

-- the answer is this one, unless memory ran out
abbrev pub Answers : {A : Type 0} → Result A ParseEnd → A → Type 0
Answers (Ok found) x = found ≡ x
Answers (Err ends.NoMemory) x = Unit {0}
Answers (Err (ends.Unexpected token)) x = ⊥
Answers (Err (ends.TooDeep token)) x = ⊥

-- the end of reading at a stop: of so many tokens in all, the one at which so many are left is counted from 1
abbrev pub end_at : ℕ → Stop → ParseEnd
end_at total (stops.Unexpected left) = ends.Unexpected ((total - left) + 1)
end_at total (stops.TooDeep left) = ends.TooDeep ((total - left) + 1)

-- reading a program from these tokens stops here, unless memory ran out
abbrev pub RefusedAt : Input → ParseEnd → Type 0
RefusedAt tokens ends.NoMemory = Unit {0}
RefusedAt tokens end = (stop : Stop) × (program tokens ≡ Err stop) × (end ≡ end_at (length tokens) stop)
