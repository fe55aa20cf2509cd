-- What clearing, staging and committing make of the updates that are staged.
use Rattle.std.proofs.Common.{◌≡◌, ◌≢◌, ℕ, zero, suc, ℤ, pos, ◌+ℤ◌, Bool, true, ◌&&◌, List, [], ◌∷◌, ◌++◌, set, Option, Some, None, refl, sym, ap, ◌∙◌, subst, ⊎_elim, arith}
use Rattle.std.proofs.lemmas.Bool.{and_parts, cases_eq}
use Rattle.std.proofs.lemmas.Bool.Decides.{Decides-int_eq}
use Rattle.std.proofs.lemmas.Int.{ints}
use Rattle.std.specs.List.{AllByRecursion}
use Rattle.std.specs.Ordering.{int_eq}
use Rattle.std.specs.Prelude.{◌↔◌, slice_get}
use Rattle.state_space.specs.declared.update.Update.{Update}
use Rattle.state_space.specs.Firing.{all_agree}
use Rattle.state_space.specs.Locations.{is_state}
use Rattle.state_space.specs.Pending.{admits, first_value}
use Rattle.state_space.proofs.Waiting.{all-admits, first_value-other, first_value-same, int_eq-refl, or_else}
use Rattle.state_layout.specs.declared.cell.Cell.{Cell}
use Rattle.state_layout.specs.Map.{IsCell, Placement, range_at, state_cells}
use Rattle.staged_commit.specs.Spots.{Flag, Mark, Picture, Waiting}
use Rattle.staged_commit.specs.Staged.{IsHeld, IsIndexOf, IsStaged, IsUpdateOf}
use Rattle.staged_commit.proofs.Clearing.{Cleared}
use Rattle.state_layout.proofs.Located.{locations-have-cells}
use Rattle.staged_commit.proofs.Stage.{StagesOne}

-- what holds of each element holds of that with a number
pub all-at : {A : Type 0} (P : A → Type 0) (xs : List A) (k : ℕ) (x : A) → AllByRecursion P xs → slice_get xs k ≡ Some x → P x
all-at P [] zero x all e = absurd (cc)
all-at P [] (suc k) x all e = absurd (cc)
all-at P (y ∷ ys) zero x all e = subst P (cc) all.0
all-at P (y ∷ ys) (suc k) x all e = all-at P ys k x all.1 e

injective : (lo : ℤ) (m n : ℕ) → lo +ℤ pos m ≡ lo +ℤ pos n → m ≡ n
injective lo m n e = omega (arith, ints)

module _ (placement : Placement) where
  -- the cell of a location
  pub is-cell : (place : ℕ) (cell : Cell) → slice_get (state_cells placement) place ≡ Some cell → IsCell is_state placement.signatures cell
  is-cell place cell e = (locations-have-cells is_state placement.signatures place cell e).0

  -- after clearing nothing is staged
  pub cleared-staged : (before after : Picture) → Cleared placement (state_cells placement) before after → IsStaged placement after []
  cleared-staged before after c = record {
    mark = (λ e. refl, λ e. c.mark);
    cells = λ zero place cell here. all-at (λ x. after (Flag x) ≡ 0) (state_cells placement) place cell c.flags here;
  }

  -- ---- one update more
  module _ (before after : Picture) (updates : List Update) (u : Update) (cell : Cell) (x : ℕ) (is : IsUpdateOf placement cell x u) (staged : IsStaged placement before updates)
      (one : StagesOne placement cell x before after) where
    abbrev pub more : List Update
    more = updates ++ u ∷ []

    held : before Mark ≡ 0 → IsHeld (range_at placement cell.fun) (before (Flag cell)) (before (Waiting cell)) (first_value u.place updates)
    held clean = staged.cells clean u.place cell is.here

    same-index : (v : ℤ) → IsIndexOf (range_at placement cell.fun) (before (Waiting cell)) v → before (Waiting cell) ≡ x → u.value ≡ v
    same-index v index e =
        is.value.counts ∙ ap (λ n. (range_at placement cell.fun).lo +ℤ pos n) (sym e) ∙ sym index.counts

    other-index : (v : ℤ) → IsIndexOf (range_at placement cell.fun) (before (Waiting cell)) v → before (Waiting cell) ≢ x → u.value ≢ v
    other-index v index n e = n (injective (range_at placement cell.fun).lo (before (Waiting cell)) x (sym index.counts ∙ sym e ∙ is.value.counts))

    -- the mark afterwards, by what was staged for the location
    record Judged (o : Option ℤ) : Type 0 where
      clear : (after Mark ≡ 0) ↔ (admits o u.value ≡ true)
      value : after Mark ≡ 0 → or_else o (Some u.value) ≡ Some u.value

    judged : (o : Option ℤ) → before Mark ≡ 0 → IsHeld (range_at placement cell.fun) (before (Flag cell)) (before (Waiting cell)) o → Judged o
    judged None clean free = record { clear = (λ e. refl, λ e. one.fresh free ∙ clean); value = λ e. refl }
    judged (Some v) clean (set, index) =
        ⊎_elim
        (λ e.
        let same : u.value ≡ v = same-index v index e in
        record {
          clear = (λ z. ap (int_eq u.value) (sym same) ∙ int_eq-refl u.value, λ z. one.same e ∙ clean);
          value = λ z. ap Some (sym same);
        })
        (λ n.
        let set_now : after Mark ≡ 1 = one.clashes set n in
        record {
          clear = (λ z. absurd (omega arith), λ t. absurd (other-index v index n ((Decides-int_eq u.value v).0 t)));
          value = λ z. absurd (omega arith);
        })
        (cases_eq (before (Waiting cell)) x)

    stays-marked : before Mark ≢ 0 → after Mark ≢ 0
    stays-marked dirty e =
        ⊎_elim
        (λ free. dirty (sym (one.fresh free) ∙ e))
        (λ set. ⊎_elim (λ same. dirty (sym (one.same same) ∙ e)) (λ n. let now : after Mark ≡ 1 = one.clashes set n in absurd (omega arith)) (cases_eq (before (Waiting cell)) x))
        (cases_eq (before (Flag cell)) 0)

    was-clean : after Mark ≡ 0 → before Mark ≡ 0
    was-clean e = ⊎_elim (λ z. z) (λ dirty. absurd (stays-marked dirty e)) (cases_eq (before Mark) 0)

    judged-now : before Mark ≡ 0 → Judged (first_value u.place updates)
    judged-now clean = judged (first_value u.place updates) clean (held clean)

    held-now : after Mark ≡ 0 → (place : ℕ) (c : Cell) → slice_get (state_cells placement) place ≡ Some c → IsHeld (range_at placement c.fun) (after (Flag c)) (after (Waiting c)) (first_value place more)
    held-now e place c here =
        ⊎_elim
        (λ same.
        let cells : c ≡ cell = same-cell same in
        let now : first_value place more ≡ Some u.value = ap (λ p. first_value p more) (sym same) ∙ first_value-same updates u ∙ (judged-now (was-clean e)).value e in
        subst (IsHeld (range_at placement c.fun) (after (Flag c)) (after (Waiting c))) (sym now)
        (subst (λ d. (after (Flag d) ≢ 0) × IsIndexOf (range_at placement d.fun) (after (Waiting d)) u.value) (sym cells)
        ((λ z. let set : after (Flag cell) ≡ 1 = one.flag in omega arith), subst (λ n. IsIndexOf (range_at placement cell.fun) n u.value) (sym one.value) is.value)))
        (λ other.
        let apart : c ≢ cell = λ f. other (same-place f) in
        let at = is-cell place c here in
        let flag : after (Flag c) ≡ before (Flag c) = one.others (Flag c) at (λ f. absurd (cc)) (λ f. apart (cc)) (λ f. absurd (cc)) in
        let waiting : after (Waiting c) ≡ before (Waiting c) = one.others (Waiting c) at (λ f. apart (cc)) (λ f. absurd (cc)) (λ f. absurd (cc)) in
        rw (flag, waiting, first_value-other place updates u other) (staged.cells (was-clean e) place c here))
        (cases_eq u.place place)
      where
        same-cell : u.place ≡ place → c ≡ cell
        same-cell same = let one_cell : Some c ≡ Some cell = sym here ∙ ap (slice_get (state_cells placement)) (sym same) ∙ is.here in cc

        same-place : c ≡ cell → u.place ≡ place
        same-place f = sym ((locations-have-cells is_state placement.signatures place c here).1 u.place (is.here ∙ ap Some (sym f)))

    -- a staged update is one more
    pub more-staged : IsStaged placement after more
    more-staged = record {
      mark = (
        λ e. all-admits updates u ∙ both (staged.mark.0 (was-clean e)) ((judged-now (was-clean e)).clear.0 e),
        λ all.
            let parts = and_parts (all_agree updates) (admits (first_value u.place updates) u.value) (sym (all-admits updates u) ∙ all) in
            (judged-now (staged.mark.1 parts.0)).clear.1 parts.1,
      );
      cells = held-now;
    }
      where
        both : {a b : Bool} → a ≡ true → b ≡ true → (a && b) ≡ true
        both e f = cc
