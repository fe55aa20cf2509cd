use Rattle.std.proofs.Common.{rules, ap, ◌∙◌, append_assoc}
use Rattle.asm_names.specs.Binders.{kinds_in}
use Rattle.asm_names.proofs.BinderRows.{kinds-Skip, kinds-Update, kinds-If, kinds-Par, kinds-Forall, kinds-Choose, kinds-Let}
use Rattle.asm_names.proofs.binders.+list_binders.Goals as goal

pub list_binders-returns-in-Skip : goal.list_binders-returns-in-Skip
list_binders-returns-in-Skip t c = let step = ap kinds_in c.in-Skip.is ∙ kinds-Skip in search (rules, step)

pub list_binders-returns-in-Update : goal.list_binders-returns-in-Update
list_binders-returns-in-Update t c = let step = ap kinds_in c.in-Update.is ∙ kinds-Update c.in-Update.fun c.in-Update.args c.in-Update.value in search (rules, step)

pub list_binders-returns-in_ok-list_binders-in-If-2 : goal.list_binders-returns-in_ok-list_binders-in-If-2
list_binders-returns-in_ok-list_binders-in-If-2 t c =
    let step = ap kinds_in c.in-If.is ∙ kinds-If c.in-If.guard c.in-If.then_rule c.in-If.else_rule c.in-If.has_else in
    search (rules, step, append_assoc)

pub list_binders-returns-in_ok-list_binders-in-Forall : goal.list_binders-returns-in_ok-list_binders-in-Forall
list_binders-returns-in_ok-list_binders-in-Forall t c =
    let step = ap kinds_in c.in-Forall.is ∙ kinds-Forall c.in-Forall.binder c.in-Forall.domain c.in-Forall.guard c.in-Forall.guarded c.in-Forall.body in
    search (rules, step, append_assoc)

pub list_binders-returns-in_ok-list_binders-in-Choose-2 : goal.list_binders-returns-in_ok-list_binders-in-Choose-2
list_binders-returns-in_ok-list_binders-in-Choose-2 t c =
    let step = ap kinds_in c.in-Choose.is ∙ kinds-Choose c.in-Choose.binder c.in-Choose.domain c.in-Choose.guard c.in-Choose.body c.in-Choose.else_rule c.in-Choose.has_else in
    search (rules, step, append_assoc)

pub list_binders-returns-in_ok-list_binders-in-Let : goal.list_binders-returns-in_ok-list_binders-in-Let
list_binders-returns-in_ok-list_binders-in-Let t c =
    let step = ap kinds_in c.in-Let.is ∙ kinds-Let c.in-Let.binder c.in-Let.value c.in-Let.body in
    search (rules, step, append_assoc)

pub list_binders-returns-in_ok-list_each-in-Par : goal.list_binders-returns-in_ok-list_each-in-Par
list_binders-returns-in_ok-list_each-in-Par t c = let step = ap kinds_in c.in-Par.is ∙ kinds-Par c.in-Par.rules in search (rules, step)
