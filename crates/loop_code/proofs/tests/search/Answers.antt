use Rattle.std.proofs.Common.{◌≡◌, [], ◌∷◌, ◌++◌, ap, ◌∙◌, subst, sym}
use Rattle.rv_isa.specs.declared.instr.Instr.TheVariants.{Lui, Lw, Sltiu, Xor}
use Rattle.block_code.specs.Tree.{plan_of}
use Rattle.block_code.specs.declared.tree.Tree.{Line}
use Rattle.block_code.specs.Block.{Keeps}
use Rattle.loop_code.proofs.tests.search.Goals as goal

pub scan-requires-clause-kept : goal.scan-requires-clause-kept
scan-requires-clause-kept c =
    let instrs = Lui c.x.result c.unwrap.result ∷ Lw c.x-2.result c.x-3.result c.imm.result ∷ Xor c.x-4.result c.x-5.result c.x-6.result ∷ Sltiu c.x-7.result c.x-8.result c.imm-2.result ∷ [] in
    let list : c.append.new.self ≡ instrs = c.in_ok-append.ensures.ok ∙ ap (λ l. l ++ instrs) c.new-instrs.ensures in
    let line : c.of-guard.result ≡ Line instrs = c.of-guard.ensures ∙ ap Line list in
    subst (λ t. Keeps 4 (plan_of t)) (sym line) (c.storeless_lines_keep.ensures 4 instrs (tt, (tt, (tt, (tt, tt)))))
