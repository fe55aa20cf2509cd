use Rattle.asm_names.proofs.Common.{drop}
use Rattle.asm_names.proofs.Numbering.{AreRead}
use Rattle.asm_names.proofs.resolution.declare_all.Given as goal

abbrev pub invariant-loop-decl : goal.invariant-loop-decl
invariant-loop-decl l = AreRead l.decls (drop l.decl-index l.decls) l.found
