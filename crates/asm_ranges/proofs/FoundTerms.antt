-- What is found of a term follows from what is found of its parts.
use Rattle.std.proofs.Common.{◌≡◌, ℕ, ◌+◌, List, Option, None, ap, sym, ◌∙◌, subst}
use Rattle.asm_names.specs.declared.{program.Interval.{Interval}, resolved_term.ResolvedTerm.{ResolvedTerm, ResolvedTerm-F, roll-ResolvedTerm, map-ResolvedTerm}}
use Rattle.asm_names.specs.ResolvedPlaces.{resolved_term_tokens, resolved_term_tokens_by}
use Rattle.asm_names.proofs.ResolvedLevels.{term_tokens_of}
use Rattle.state_space.specs.declared.signature.Signature.{Signature}
use Rattle.asm_ranges.specs.{declared.{fault.RangeEnd.{RangeEnd}, finding.Found.{Found}}, Faults.{first_fault, either}, Ranges.{range, range_by}, Facts.{Refining, refined_by}, RangeFaults.{FaultyTerm, faulty_term, inner_faults, outside_faults, wide_faults}, Contexts.{FindsTerm, IsNear, IsPart, IsWord, facts_of, scope_of}}
use Rattle.asm_ranges.specs.declared.context.Context.{Context}
use Rattle.asm_ranges.proofs.{Firsts.{first-append}, Levels.{range_at, refined_at, faults_at, refining}, Definite.{own_refined}}

-- a term was read, if its parts were: its ranges are those of its form, and its first fault is its own, that of its place, or the first inside
pub found : (signatures : List Signature) (context : Context) (x : ResolvedTerm-F ResolvedTerm) (t : ResolvedTerm) → roll-ResolvedTerm x ≡ t → (need : Option Interval) (at : ℕ) (found : Found) (o p : Option RangeEnd)
    → found.plain ≡ range_by signatures (scope_of context) (map-ResolvedTerm ResolvedTerm Interval (range signatures (scope_of context)) x)
    → found.refined ≡ refined_by signatures (scope_of context) (map-ResolvedTerm ResolvedTerm Refining (refining signatures (scope_of context)) x) (facts_of context)
    → found.after ≡ at + resolved_term_tokens_by (map-ResolvedTerm ResolvedTerm ℕ resolved_term_tokens x)
    → found.fault ≡ either o (either (first_fault (outside_faults found.refined need at)) p)
    → o ≡ first_fault (wide_faults signatures (scope_of context) (map-ResolvedTerm ResolvedTerm FaultyTerm (faulty_term signatures (scope_of context)) x) at)
    → p ≡ first_fault (inner_faults signatures (map-ResolvedTerm ResolvedTerm FaultyTerm (faulty_term signatures (scope_of context)) x) (facts_of context) at)
    → IsNear found.plain (resolved_term_tokens_by (map-ResolvedTerm ResolvedTerm ℕ resolved_term_tokens x)) → IsPart found.refined found.plain → (found.fault ≡ None → IsWord found.plain)
    → FindsTerm signatures context t need at found
found signatures context x t e need at f o p plain refined_is after fault own inner near part word =
    let tokens = term_tokens_of x t e in
    let same = own_refined signatures (scope_of context) x (facts_of context) in
    record {
      is_plain = plain ∙ sym (range_at x t e signatures (scope_of context));
      is_refined = refined_is ∙ sym (refined_at x t e signatures (scope_of context) (facts_of context));
      after = after ∙ ap (λ n. at + n) (sym tokens);
      first =
          fault
          ∙ (ap (λ a. either a (either (first_fault (outside_faults f.refined need at)) p)) own
          ∙ (ap (λ b. either (first_fault (wide_faults signatures (scope_of context) (map-ResolvedTerm ResolvedTerm FaultyTerm (faulty_term signatures (scope_of context)) x) at)) (either (first_fault (outside_faults f.refined need at)) b)) inner
          ∙ (ap (λ i. either (first_fault (wide_faults signatures (scope_of context) (map-ResolvedTerm ResolvedTerm FaultyTerm (faulty_term signatures (scope_of context)) x) at))
          (either (first_fault (outside_faults i need at)) (first_fault (inner_faults signatures (map-ResolvedTerm ResolvedTerm FaultyTerm (faulty_term signatures (scope_of context)) x) (facts_of context) at)))) (refined_is ∙ sym same)
          ∙ (ap (either (first_fault (wide_faults signatures (scope_of context) (map-ResolvedTerm ResolvedTerm FaultyTerm (faulty_term signatures (scope_of context)) x) at))) (sym (first-append (outside_faults _ need at) _))
          ∙ (sym (first-append (wide_faults signatures (scope_of context) (map-ResolvedTerm ResolvedTerm FaultyTerm (faulty_term signatures (scope_of context)) x) at) _)
          ∙ ap first_fault (sym (faults_at x t e signatures (scope_of context) (facts_of context) need at)))))));
      near = subst (λ n. IsNear f.plain n) (sym tokens) near;
      part = part;
      word = word;
    }
