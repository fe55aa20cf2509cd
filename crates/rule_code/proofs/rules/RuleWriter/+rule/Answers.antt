use Rattle.std.proofs.Common.{◌≡◌, ◌+◌, ◌<◌, IfOk, map, slice_get, sym, ap, ◌∙◌, subst, arith}
use Rattle.std.specs.List.{All}
use Rattle.std.proofs.lemmas.List.Elements.{All-from_recursion}
use Rattle.block_code.specs.Tree.{plan_of}
use Rattle.instr_select.specs.Terms.{term_plan}
use Rattle.staged_commit.specs.Code.{first}
use Rattle.rule_expand.specs.declared.flat.Flat.{Flat-F}
use Rattle.rule_expand.specs.declared.flat.Flat.TheVariants as forms
use Rattle.rule_code.specs.{Code.{all_plan, case_code, rule_plan, update_plan}, Codable.{IsCaseCodable, IsCodable, IsTermCodable, IsUpdateCodable}}
use Rattle.rule_code.proofs.{FlatSizes.{case-less, case_sizes, part-less, size, size_of, sizes}, RuleParts.{of-Cases, of-Let, of-Par, of-Update, plan-Cases, plan-Let, plan-Par, plan-Skip, plan-Update}}
use Rattle.rule_code.proofs.rules.RuleWriter.+rule.Goals as goal

pub cases-case-requires : goal.cases-case-requires
cases-case-requires t c =
    let case = c.loop-guard-item.result in
    let below = c.loop-guard-test.true in
    let less : 1 + size case.1 < case_sizes c.args.list.now =
    subst (λ x. 1 + size x.1 < case_sizes c.args.list.now) (sym c.loop-guard-item.is) (case-less c.args.list.now c.loop-guard.guard-index case below) in
    let codable : IsCaseCodable c.args.self.checked.now case = subst (IsCaseCodable c.args.self.checked.now) (sym c.loop-guard-item.is) (c.requires.codable c.loop-guard.guard-index case below) in
    (omega arith, (c.requires.prepared, (codable.guard, codable.rule)))

pub parts-rule-requires : goal.parts-rule-requires
parts-rule-requires t c =
    let part = c.part-item.result in
    let below = c.loop-part-test.true in
    let less : size part < sizes c.args.parts.now = subst (λ x. size x < sizes c.args.parts.now) (sym c.part-item.is) (part-less c.args.parts.now c.loop-part.part-index part below) in
    (omega arith, (c.requires.prepared, subst (IsCodable c.args.self.checked.now) (sym c.part-item.is) (c.requires.codable c.loop-part.part-index part below)))

pub rule-update-requires-clause-codable : goal.rule-update-requires-clause-codable
rule-update-requires-clause-codable t c =
    subst (λ ts. IsUpdateCodable c.args.self.checked.now ts c.get.result.now) (sym c.as_slice.ensures) (subst (IsUpdateCodable c.args.self.checked.now c.in-Update.args) (sym c.get.ensures)
    (of-Update c.args.self.checked.now c.args.flat.now c.in-Update.fun c.in-Update.args c.in-Update.value c.in-Update.is c.requires.codable))

pub rule-parts-requires : goal.rule-parts-requires
rule-parts-requires t c = (
  omega (arith, size_of _ _ (Flat-F.Par c.in-Par.parts) c.in-Par.is (forms.rolls-Par c.in-Par.parts), ap sizes c.as_slice-in-Par.ensures),
  (
    c.requires.prepared,
    subst (All (IsCodable c.args.self.checked.now)) (sym c.as_slice-in-Par.ensures) (All-from_recursion (IsCodable c.args.self.checked.now) c.in-Par.parts
        (of-Par c.args.self.checked.now c.args.flat.now c.in-Par.parts c.in-Par.is c.requires.codable)),
  ),
)

pub rule-cases-requires : goal.rule-cases-requires
rule-cases-requires t c = (
  omega (arith, size_of _ _ (Flat-F.Cases c.in-Cases.list c.in-Cases.else_rule) c.in-Cases.is (forms.rolls-Cases c.in-Cases.list c.in-Cases.else_rule), ap case_sizes c.as_slice-in-Cases.ensures),
  (
    c.requires.prepared,
    subst (All (IsCaseCodable c.args.self.checked.now)) (sym c.as_slice-in-Cases.ensures) (All-from_recursion (IsCaseCodable c.args.self.checked.now) c.in-Cases.list
        (of-Cases c.args.self.checked.now c.args.flat.now c.in-Cases.list c.in-Cases.else_rule c.in-Cases.is c.requires.codable).0),
  ),
)

pub rule-rule-requires : goal.rule-rule-requires
rule-rule-requires t c = (
  omega (arith, size_of _ _ (Flat-F.Cases c.in-Cases.list c.in-Cases.else_rule) c.in-Cases.is (forms.rolls-Cases c.in-Cases.list c.in-Cases.else_rule), ap size c.get-in-Cases.ensures),
  (
    c.requires.prepared,
    subst (IsCodable c.args.self.checked.now) (sym c.get-in-Cases.ensures)
        (of-Cases c.args.self.checked.now c.args.flat.now c.in-Cases.list c.in-Cases.else_rule c.in-Cases.is c.requires.codable).1,
  ),
)

pub rule-term-requires-clause-codable : goal.rule-term-requires-clause-codable
rule-term-requires-clause-codable t c =
    subst (IsTermCodable c.args.self.checked.now) (sym c.get-in-Let.ensures)
    (of-Let c.args.self.checked.now c.args.flat.now c.in-Let.binder c.in-Let.value c.in-Let.body c.in-Let.is c.requires.codable).term

pub rule-rule-requires-in-Let : goal.rule-rule-requires-in-Let
rule-rule-requires-in-Let t c = (
  omega (arith, size_of _ _ (Flat-F.Let c.in-Let.binder c.in-Let.value c.in-Let.body) c.in-Let.is (forms.rolls-Let c.in-Let.binder c.in-Let.value c.in-Let.body), ap size c.get-in-Let-2.ensures),
  (
    c.requires.prepared,
    subst (IsCodable c.args.self.checked.now) (sym c.get-in-Let-2.ensures)
        (of-Let c.args.self.checked.now c.args.flat.now c.in-Let.binder c.in-Let.value c.in-Let.body c.in-Let.is c.requires.codable).rule,
  ),
)

pub rule-bound-requires-clause-known : goal.rule-bound-requires-clause-known
rule-bound-requires-clause-known t c = (of-Let c.args.self.checked.now c.args.flat.now c.in-Let.binder c.in-Let.value c.in-Let.body c.in-Let.is c.requires.codable).known

pub rule-returns-in-Skip : goal.rule-returns-in-Skip
rule-returns-in-Skip t c = c.nothing.ensures ∙ plan-Skip c.args.self.checked.now c.args.self.map.now c.args.self.tables c.args.flat.now c.in-Skip.is

pub rule-returns-in-Update : goal.rule-returns-in-Update
rule-returns-in-Update t c =
    let placement = c.args.self.map.now in
    let term = term_plan c.args.self.checked.now placement c.args.self.tables in
    let own = update_plan placement c.in-Update.fun (slice_get placement.signatures c.in-Update.fun) in
    subst (λ x. IfOk c.update.result (λ tree. plan_of tree ≡ x))
    (ap (λ ts. own (map term ts) (term c.get.result.now)) c.as_slice.ensures ∙ ap (λ v. own (map term c.in-Update.args) (term v)) c.get.ensures
    ∙ plan-Update c.args.self.checked.now placement c.args.self.tables c.args.flat.now c.in-Update.fun c.in-Update.args c.in-Update.value c.in-Update.is) c.update.ensures

pub rule-returns-in_ok-trees-in-Par : goal.rule-returns-in_ok-trees-in-Par
rule-returns-in_ok-trees-in-Par t c =
    subst (λ x. IfOk c.all.result (λ tree. plan_of tree ≡ x))
    (ap all_plan (c.in_ok-trees-in-Par.ensures ∙ ap (map (rule_plan c.args.self.checked.now c.args.self.map.now c.args.self.tables)) c.as_slice-in-Par.ensures)
    ∙ plan-Par c.args.self.checked.now c.args.self.map.now c.args.self.tables c.args.flat.now c.in-Par.parts c.in-Par.is) c.all.ensures

pub rule-returns-in_ok-other-in-Cases : goal.rule-returns-in_ok-other-in-Cases
rule-returns-in_ok-other-in-Cases t c =
    subst (λ x. IfOk c.unless_any.result (λ tree. plan_of tree ≡ x))
    (plan-Cases c.args.self.checked.now c.args.self.map.now c.args.self.tables c.args.flat.now c.in-Cases.list c.in-Cases.else_rule c.in-Cases.is
    (map plan_of c.in_ok-trees-in-Cases.trees.items) (plan_of c.in_ok-other-in-Cases.other)
    (c.in_ok-trees-in-Cases.ensures ∙ ap (map (case_code c.args.self.checked.now c.args.self.map.now c.args.self.tables)) c.as_slice-in-Cases.ensures)
    (c.in_ok-other-in-Cases.ensures ∙ ap (rule_plan c.args.self.checked.now c.args.self.map.now c.args.self.tables) c.get-in-Cases.ensures)) c.unless_any.ensures

pub rule-returns-in_ok-body-in-Let : goal.rule-returns-in_ok-body-in-Let
rule-returns-in_ok-body-in-Let t c =
    subst (λ x. IfOk c.bound.result (λ tree. plan_of tree ≡ x))
    (plan-Let c.args.self.checked.now c.args.self.map.now c.args.self.tables c.args.flat.now c.in-Let.binder c.in-Let.value c.in-Let.body c.in-Let.is
    (plan_of c.in_ok-value-in-Let.value) (plan_of c.in_ok-body-in-Let.body)
    (c.in_ok-value-in-Let.ensures ∙ ap (λ v. term_plan c.args.self.checked.now c.args.self.map.now c.args.self.tables v first) c.get-in-Let.ensures)
    (c.in_ok-body-in-Let.ensures ∙ ap (rule_plan c.args.self.checked.now c.args.self.map.now c.args.self.tables) c.get-in-Let-2.ensures)) c.bound.ensures
