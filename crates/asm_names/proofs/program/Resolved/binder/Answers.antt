use Rattle.asm_names.proofs.Common.{◌≡◌, length, slice_get, sym, ap, ◌∙◌, subst, arith, slice_get-get_or}
use Rattle.asm_names.proofs.BinderRows.{IsThere, kinds-count, binder-place, binder-there}
use Rattle.asm_names.specs.Binders.{kinds_in}
use Rattle.asm_names.specs.declared.binders.Binder.TheVariants.{Element}
use Rattle.asm_names.proofs.program.Resolved.binder.Goals as goal

pub bounds-as_slice-number : goal.bounds-as_slice-number
bounds-as_slice-number c =
    omega (arith, c.requires, kinds-count c.args.self.now c.comes_from_faultless.ensures.well_formed, ap length c.as_slice.ensures, ap length c.args.self.now.all_listed)

pub returns-clause-bound : goal.returns-clause-bound
returns-clause-bound c =
    let program = c.args.self.now in
    let formed = c.comes_from_faultless.ensures.well_formed in
    let listed : c.as_slice.result.now ≡ kinds_in program.rule = c.as_slice.ensures ∙ program.all_listed in
    binder-place program formed c.args.number c.requires
    ∙ (ap (λ ks. slice_get ks c.args.number) (sym listed) ∙ slice_get-get_or c.as_slice.result.now c.args.number (Element 0) (omega (arith, c.requires, kinds-count program formed, ap length listed)))

pub returns-clause-inside : goal.returns-clause-inside
returns-clause-inside c = λ domain is. subst (IsThere c.args.self.now) is (binder-there c.args.self.now c.comes_from_faultless.ensures.well_formed c.args.number _ (returns-clause-bound c))
