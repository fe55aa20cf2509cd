-- Where a source converges, head lines with no fault between them become legal.
use Rattle.std.proofs.Common.{◌≡◌, ℕ, zero, suc, ◌+◌, List, [], ◌∷◌, ◌++◌, drop, map, refl, sym, subst, arith}
use Rattle.std.specs.List.{AllByRecursion}
use Rattle.asm_names.specs.declared.program.Resolved.{Resolved}
use Rattle.asm_ranges.specs.Values.{Inputs, State}
use Rattle.state_layout.specs.declared.layout.Layout.{Layout}
use Rattle.round_spec.specs.Ports.{input_count, inputs_taken, words_taken}
use Rattle.round_spec.specs.Round.{Compiled, state_of}
use Rattle.round_spec.specs.Stabilizes.{placed}
use Rattle.rv_machine.specs.Memory.{number_at}
use Rattle.state_layout.specs.Map.{Placement, cell_of, decoded, entry_at, value_at}
use Rattle.state_space.specs.Codomains.{LocationsFit}
use Rattle.state_space.specs.Locations.{Location, input_locations, signatures_of, state_locations}
use Rattle.state_space.specs.Sizes.{IsSized}
use Rattle.update_sets.specs.Steps.{Step}
use Rattle.update_sets.proofs.Readings.{values_fit}
use Rattle.trace_decode.specs.Convergence.{AreInputs, AreSteps, Converges, IsHead, IsHeadCause, IsMarkedLegal, IsState}
use Rattle.trace_decode.specs.Play.{AtEnd, AtHead, Cause, Faulted, Mark, Standing}
use Rattle.trace_decode.specs.Stretches.{FollowsBy, IsNextHead, Linked, LinkedFrom}

-- ---- RAM holds a state, and readings stand for inputs
fits-each : (placement : Placement) (ram : List ℕ) (locations : List Location) → AllByRecursion IsSized placement.signatures
    → LocationsFit placement.signatures locations (map (value_at ram) (map (entry_at placement) (map (cell_of placement.signatures) locations)))
fits-each placement ram [] sized = tt
fits-each placement ram (location ∷ locations) sized =
    let e = entry_at placement (cell_of placement.signatures location) in
    ((values_fit placement.signatures (number_at e.width e.offset ram ∷ []) 0 (location ∷ []) sized).0, fits-each placement ram locations sized)

pub decoded-fits : (placement : Placement) (ram : List ℕ) → AllByRecursion IsSized placement.signatures
    → LocationsFit placement.signatures (state_locations placement.signatures) (decoded placement ram)
decoded-fits placement ram sized = fits-each placement ram (state_locations placement.signatures) sized

inputs-fit : (program : Resolved) (readings : List ℕ) → AllByRecursion IsSized (signatures_of program) → AreInputs program (inputs_taken program readings)
inputs-fit program readings sized = values_fit (signatures_of program) (words_taken (input_count program) readings) 0 (input_locations (signatures_of program)) sized

-- one more step behind the others
steps-more : (program : Resolved) (k : ℕ) (state middle next : State) (inputs : Inputs) → AreSteps program k state middle → AreInputs program inputs
    → Step program middle inputs next → AreSteps program (suc k) state next
steps-more program zero state middle next inputs same fit step =
    (next, inputs, fit, subst (λ s. Step program s inputs next) (sym same) step, refl)
steps-more program (suc k) state middle next inputs steps fit step =
    (steps.0, steps.1, steps.2, steps.3, steps-more program k steps.0 middle next inputs steps.4 fit step)

module _ (layout : Layout) (program : Resolved) (built : Compiled) (map_is : built.map ≡ placed layout program) (sized : AllByRecursion IsSized (signatures_of program)) where
  is-state : (at : Standing) → IsState program (state_of built at.hart)
  is-state at =
      subst (λ (p : Placement). LocationsFit (signatures_of program) (state_locations (signatures_of program)) (decoded p at.hart.ram)) (sym map_is)
      (decoded-fits (placed layout program) at.hart.ram sized)

  next-of : (s next : Standing) (cause cause' : Cause) → IsHeadCause cause → IsHeadCause cause' → FollowsBy program built s next cause cause' → IsNextHead program built s next
  next-of s next AtHead AtHead h h' f = f
  next-of s next AtHead (Faulted fault) h h' f = absurd h'
  next-of s next AtHead AtEnd h h' f = absurd h'
  next-of s next (Faulted fault) cause h h' f = absurd h
  next-of s next AtEnd cause h h' f = absurd h

  -- each line behind a legal one is legal
  legal-from : (k : ℕ) → Converges program k → (mark : Mark) (later : List Mark) → LinkedFrom program built mark later → AllByRecursion IsHead (mark ∷ later)
      → IsMarkedLegal program built mark → AllByRecursion (IsMarkedLegal program built) (mark ∷ later)
  legal-from k c mark [] links heads legal = (legal, tt)
  legal-from k c mark (next ∷ later) links heads legal =
      let n = next-of mark.at next.at mark.cause next.cause heads.0 heads.1.0 links.0 in (
        legal,
        legal-from k c next later links.1 heads.1
            (c.kept (state_of built mark.at.hart) (state_of built next.at.hart) (inputs_taken program mark.at.feed.left) (is-state mark.at) legal (inputs-fit program mark.at.feed.left sized) n.round.step),
      )

  -- a line that is j steps behind a state, and becomes legal after k more
  legal-behind : (j k : ℕ) → Converges program (j + k) → (state : State) → IsState program state → (mark : Mark) (later : List Mark)
      → AreSteps program j state (state_of built mark.at.hart) → LinkedFrom program built mark later → AllByRecursion IsHead (mark ∷ later)
      → AllByRecursion (IsMarkedLegal program built) (drop k (mark ∷ later))
  legal-behind j zero c state fits mark later steps links heads =
      let e : j + 0 ≡ j = omega arith in
      let c' = subst (Converges program) e c in
      legal-from j c' mark later links heads (c'.reached state (state_of built mark.at.hart) fits steps)
  legal-behind j (suc k) c state fits mark [] steps links heads = all-none k
    where
      all-none : (n : ℕ) → AllByRecursion (IsMarkedLegal program built) (drop n [])
      all-none zero = tt
      all-none (suc n) = tt
  legal-behind j (suc k) c state fits mark (next ∷ later) steps links heads =
      let n = next-of mark.at next.at mark.cause next.cause heads.0 heads.1.0 links.0 in
      let e : j + suc k ≡ suc j + k = omega arith in
      legal-behind (suc j) k (subst (Converges program) e c) state fits next later
      (steps-more program j state (state_of built mark.at.hart) (state_of built next.at.hart) (inputs_taken program mark.at.feed.left) steps (inputs-fit program mark.at.feed.left sized) n.round.step)
      links.1 heads.1

  -- a part of linked lines is linked
  linked-front : (mark : Mark) (xs ys : List Mark) → LinkedFrom program built mark (xs ++ ys) → LinkedFrom program built mark xs
  linked-front mark [] ys links = tt
  linked-front mark (x ∷ xs) ys links = (links.0, linked-front x xs ys links.1)

  linked-inner : (mark : Mark) (before stretch later : List Mark) → LinkedFrom program built mark (before ++ (stretch ++ later)) → Linked program built stretch
  linked-inner mark [] [] later links = tt
  linked-inner mark [] (x ∷ stretch) later links = linked-front x stretch later links.1
  linked-inner mark (x ∷ before) stretch later links = linked-inner x before stretch later links.1

  linked-part : (before stretch later : List Mark) → Linked program built (before ++ (stretch ++ later)) → Linked program built stretch
  linked-part [] [] later links = tt
  linked-part [] (x ∷ stretch) later links = linked-front x stretch later links
  linked-part (x ∷ before) stretch later links = linked-inner x before stretch later links

  pub becomes-legal : (k : ℕ) → Converges program k → (before stretch later : List Mark) → Linked program built (before ++ (stretch ++ later)) → AllByRecursion IsHead stretch
      → AllByRecursion (IsMarkedLegal program built) (drop k stretch)
  becomes-legal k c before [] later links heads = none k
    where
      none : (n : ℕ) → AllByRecursion (IsMarkedLegal program built) (drop n [])
      none zero = tt
      none (suc n) = tt
  becomes-legal k c before (mark ∷ stretch) later links heads =
      let e : k ≡ 0 + k = omega arith in
      legal-behind 0 k (subst (Converges program) e c) (state_of built mark.at.hart) (is-state mark.at) mark stretch refl (linked-part before (mark ∷ stretch) later links) heads
