use Rattle.std.proofs.Common.{ap, ◌∙◌}
use Rattle.std.specs.Prelude.{is_some}
use Rattle.asm_ranges.specs.Rows.{Row, known}
use Rattle.asm_ranges.proofs.Written.{rule-extends}
use Rattle.asm_ranges.proofs.laws.binders_keep_intervals.Goals as goal

pub returns : goal.returns
returns c program rule place binder interval checked stands is =
    ap (λ (row : Row). known row binder) checked.intervals ∙ rule-extends program checked rule place stands binder (ap is_some is) ∙ is
