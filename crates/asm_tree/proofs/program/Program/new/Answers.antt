use Rattle.std.proofs.Common.{sym, ◌∙◌}
use Rattle.std.proofs.lemmas.Bool.{false≢true}
use Rattle.asm_tree.proofs.Whole.{program_decided}
use Rattle.asm_tree.proofs.program.Program.new.Goals as goal

pub returns-then-not-parts_fit : goal.returns-then-not-parts_fit
returns-then-not-parts_fit c = λ w. false≢true (sym c.if-not-parts_fit.true ∙ (c.parts_fit.ensures ∙ (program_decided (record { name = c.args.name; decls = c.args.decls; legal = c.args.legal; rule = c.args.rule })).1 w))

pub invariant_of-result : goal.invariant_of-result
invariant_of-result c = (program_decided (record { name = c.args.name; decls = c.args.decls; legal = c.args.legal; rule = c.args.rule })).0 (sym c.parts_fit.ensures ∙ c.if-not-parts_fit.false)
