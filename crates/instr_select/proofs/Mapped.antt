-- The functions of a program whose map is known are small.
use Rattle.std.proofs.Common.{◌≡◌, ℕ, zero, suc, ◌<◌, ◌≤◌, false, List, [], ◌∷◌, length, map, Some, refl, sym, ap, ◌∙◌, subst, arith}
use Rattle.std.{specs.{Prelude.{nat_le, slice_get, slice_index_or}, List.{AllByRecursion}}, proofs.lemmas.Bool.{and_parts, leb-true}}
use Rattle.asm_tree.specs.declared.decl.Kind.{Kind}
use Rattle.asm_tree.specs.declared.decl.Kind.TheVariants as kinds
use Rattle.asm_names.specs.{WellFormed.{IsDomain, IsFun}, declared.program.{Domain.{Domain}, Resolved.{Resolved}}}
use Rattle.state_space.specs.{declared.signature.{Signature.{Signature}}, Locations.{is_input, is_state, no_domain, range_of, signature_of, signatures_of}, Sizes.{most, padded_count, padded_sum}}
use Rattle.state_space.proofs.Widening.{few_from}
use Rattle.asm_ranges.specs.Values.{no_fun}
use Rattle.asm_ranges.proofs.Readings.{all_get, get_map}
use Rattle.state_layout.specs.Map.{Placement}
use Rattle.instr_select.specs.{SelectLaw.{IsMapped}, Terms.{is_static}}
use Rattle.instr_select.proofs.Index.{AreNarrow, IsNarrow}

domain-at : (domains : List Domain) (n : ℕ) → AllByRecursion IsDomain domains → n < length domains → IsDomain (slice_index_or domains n no_domain)
domain-at [] n all h = absurd (omega arith)
domain-at (d ∷ ds) zero all h = all.0
domain-at (d ∷ ds) (suc n) all h = domain-at ds n all.1 (omega arith)

pub narrow-domain : (domains : List Domain) (n : ℕ) → AllByRecursion IsDomain domains → n < length domains → IsNarrow (range_of domains n)
narrow-domain domains n all h = let d = domain-at domains n all h in record { some = d.some; few = d.few; low = d.low; high = d.high }

narrow-domains : (domains : List Domain) (ns : List ℕ) → AllByRecursion IsDomain domains → AllByRecursion (λ n. n < length domains) ns → AreNarrow (map (range_of domains) ns)
narrow-domains domains [] all h = tt
narrow-domains domains (n ∷ ns) all h = (narrow-domain domains n all h.0, narrow-domains domains ns all h.1)

module _ (program : Resolved) (placement : Placement) (mapped : IsMapped program placement) where
  pub signature-narrow : (fun : ℕ) (signature : Signature) → slice_get placement.signatures fun ≡ Some signature → AreNarrow signature.args × IsNarrow signature.codomain
  signature-narrow fun signature here =
      let at : slice_get (signatures_of program) fun ≡ Some signature = ap (λ signatures. slice_get signatures fun) (sym mapped.signatures) ∙ here in
      let f = all_get (IsFun program.domains) (signature_of program.domains) program.funs fun signature no_fun at mapped.funs in
      let is = get_map (signature_of program.domains) program.funs fun signature no_fun at in
      subst (λ (s : Signature). AreNarrow s.args × IsNarrow s.codomain) (sym is) (narrow-domains program.domains _ mapped.domains f.args, narrow-domain program.domains _ mapped.domains f.codomain)

  -- the state and the inputs take no more room than they may
  pub few-held : (fun : ℕ) (signature : Signature) → slice_get placement.signatures fun ≡ Some signature → is_static signature.kind ≡ false → padded_count signature.args ≤ 524288
  few-held fun signature here held = by_kind signature.kind refl held
    where
      states : padded_sum is_state placement.signatures ≤ most
      states = leb-true _ _ (and_parts (nat_le (padded_sum is_state placement.signatures) most) (nat_le (padded_sum is_input placement.signatures) most) mapped.room).0

      inputs : padded_sum is_input placement.signatures ≤ most
      inputs = leb-true _ _ (and_parts (nat_le (padded_sum is_state placement.signatures) most) (nat_le (padded_sum is_input placement.signatures) most) mapped.room).1

      by_kind : (kind : Kind) → signature.kind ≡ kind → is_static kind ≡ false → padded_count signature.args ≤ 524288
      by_kind kinds.Controlled k h = few_from is_state placement.signatures fun signature states here (ap is_state k)
      by_kind kinds.Output k h = few_from is_state placement.signatures fun signature states here (ap is_state k)
      by_kind kinds.Input k h = few_from is_input placement.signatures fun signature inputs here (ap is_input k)
      by_kind kinds.Static k h = absurd cc
