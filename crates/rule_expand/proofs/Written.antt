-- What holds of a program's rule that is written out.
use Rattle.std.proofs.Common.{◌≡◌, ◌≤◌, true, [], None, Result, Ok, Err, sym, ap, ◌∙◌, subst}
use Rattle.std.specs.Prelude.{replicate, IfOk}
use Rattle.std.proofs.lemmas.List.{length-replicate}
use Rattle.asm_names.specs.declared.program.Resolved.{Resolved}
use Rattle.asm_ranges.specs.Ranges.{unscoped}
use Rattle.asm_ranges.specs.Keeping.{IsChecked}
use Rattle.asm_ranges.specs.Places.{RulePlaced, outermost, the_rule}
use Rattle.asm_ranges.specs.Instances.{Numbers}
use Rattle.asm_ranges.proofs.PlacedRules.{placed-program}
use Rattle.bound_count.specs.declared.shape.Shape.TheVariants as shapes
use Rattle.bound_count.specs.RuleWeights.{rule_words, rule_registers}
use Rattle.update_sets.specs.Yields.{Yields}
use Rattle.update_sets.specs.Least.{least}
use Rattle.update_sets.proofs.Choices.{least_is_any, least_is_yielded}
use Rattle.rule_expand.specs.declared.flat.Flat.{Flat}
use Rattle.rule_expand.specs.Expanding.{expanded}
use Rattle.rule_expand.specs.FlatUpdates.{HasLeastUpdates, HasPermittedUpdates}
use Rattle.rule_expand.specs.FlatSums.{flat_sums_fit}
use Rattle.rule_expand.specs.FlatNew.{flat_new}
use Rattle.rule_expand.specs.FlatDefined.{MeetsDefined}
use Rattle.rule_expand.specs.FlatWeights.{flat_weight, flat_registers}
use Rattle.rule_expand.proofs.Binding.{unnumbered}
use Rattle.rule_expand.proofs.BinderKinds.{rule-follows}
use Rattle.rule_expand.proofs.Guards.{named_stand, rule_stands}
use Rattle.rule_expand.proofs.InstanceNumbers.{short-none}
use Rattle.rule_expand.proofs.RuleUpdates.{same_updates}
use Rattle.rule_expand.proofs.RuleSums.{written_sums}
use Rattle.rule_expand.proofs.RuleNew.{written_new}
use Rattle.rule_expand.proofs.RuleDefined.{written_defined}
use Rattle.rule_expand.proofs.RuleWeights.{written_small}

-- what is shown of the rule of a program
pub record IsFlat (program : Resolved) (flat : Flat) : Type 0 where
  pub updates : HasLeastUpdates program flat
  pub permitted : HasPermittedUpdates program flat
  pub sums : flat_sums_fit program flat unscoped ≡ true
  pub new : flat_new program flat unscoped ≡ true
  pub met : MeetsDefined program flat
  pub weight : flat_weight flat ≤ rule_words shapes.Unrolled program.domains program.rule
  pub registers : flat_registers flat ≤ rule_registers program.rule

module _ (program : Resolved) (checked : IsChecked program) where
  abbrev none : Numbers
  none = replicate program.binders None

  abbrev flat : Flat
  flat = expanded program.domains program.rule none

  stands : rule_stands program.binders program.rule ≡ true
  stands = named_stand program program.rule [] 0 checked.well_formed.rule

  least_updates : HasLeastUpdates program flat
  least_updates state inputs env long =
      same_updates program state inputs program.rule none env (length-replicate program.binders None ∙ sym long) long stands
      ∙ ap (least program state inputs program.rule) (unnumbered program.binders env long)

  shown : IsFlat program flat
  shown =
      let small = written_small program.domains program.rule none in
      record {
        updates = least_updates;
        permitted = λ state inputs env long.
            subst (Yields program state inputs program.rule env) (sym (least_updates state inputs env long))
            (least_is_any program state inputs program.rule env _ (least_is_yielded program state inputs program.rule env));
        sums = written_sums program checked program.rule none unscoped outermost (length-replicate program.binders None) (λ b. tt) the_rule stands;
        new = written_new program checked.well_formed.domains program.rule none unscoped [] 0 (short-none program.binders) (λ b h. absurd cc) checked.well_formed.rule (rule-follows program checked.well_formed);
        met = λ state inputs env reads long.
            written_defined program state inputs checked reads program.rule none env (length-replicate program.binders None ∙ sym long)
            (subst (λ es. RulePlaced program state inputs program.rule es) (sym (unnumbered program.binders env long)) (placed-program program state inputs checked reads env long)) stands;
        weight = small.weight;
        registers = small.few;
      }

  -- so it is of what was written out, where there was memory for it
  pub of_result : {E : Type 0} (P : Flat → Type 0) → ((f : Flat) → IsFlat program f → P f) → (r : Result Flat E) → IfOk r (λ f. f ≡ flat) → IfOk r P
  of_result P h (Ok f) is = h f (subst (IsFlat program) (sym is) shown)
  of_result P h (Err e) is = tt
