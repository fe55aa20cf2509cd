-- Committing fires the updates that are staged.
use Rattle.std.proofs.Common.{◌≡◌, ◌≢◌, ℕ, ◌<◌, ℤ, Bool, true, false, List, [], ◌∷◌, length, get_or, set, Option, Some, None, refl, sym, ap, ◌∙◌, subst, ⊎_elim, arith, eq-eqb, get_or-set_same, get_or-set_other, length-set}
use Rattle.std.proofs.lemmas.Bool.{and_parts, cases_eq, ne_eqb}
use Rattle.std.proofs.lemmas.Bool.Decides.{Decides-int_eq}
use Rattle.std.proofs.lemmas.List.{length-map, same_lists}
use Rattle.std.proofs.lemmas.Option.{get_or_from_slice_get, slice_get-get_or, slice_get-map}
use Rattle.std.specs.List.{AllByRecursion, list_all}
use Rattle.std.specs.Prelude.{if◌then◌else◌, option_map, slice_get}
use Rattle.state_space.specs.declared.update.Update.{Update}
use Rattle.state_space.specs.Firing.{agree, all_agree, fired, overwritten}
use Rattle.state_space.specs.Locations.{is_state}
use Rattle.state_space.specs.Pending.{admits, first_value}
use Rattle.state_space.proofs.Waiting.{admits-first, all-first, length-overwritten}
use Rattle.state_layout.specs.declared.cell.Cell.{Cell}
use Rattle.state_layout.specs.Map.{IsCell, Placement, decoded, entries, entry_at, range_at, state_cells, value_at, value_of}
use Rattle.staged_commit.specs.Spots.{Flag, Mark, Value, Waiting, seen}
use Rattle.staged_commit.specs.Staged.{IsHeld, Staged}
use Rattle.staged_commit.proofs.Committing.{Copies, IsCopied}
use Rattle.state_layout.proofs.HeldState.{indices-stand}
use Rattle.staged_commit.proofs.Staging.{all-at, is-cell}

-- the value of a location after updates of which none contradicts another
abbrev pub value_or : ℤ → Option ℤ → ℤ
value_or old None = old
value_or old (Some value) = value

pub value-overwritten : (us : List Update) (state : List ℤ) (place : ℕ) (d : ℤ) → all_agree us ≡ true → place < length state
    → get_or (overwritten state us) place d ≡ value_or (get_or state place d) (first_value place us)
value-overwritten [] state place d agreed inside = refl
value-overwritten (u ∷ us) state place d agreed inside =
    let parts = and_parts (list_all (agree u) us) (all_agree us) (sym (all-first u us) ∙ agreed) in
    let rest = value-overwritten us (set state u.place u.value) place d parts.1 (let e = length-set state u.place u.value in omega arith) in
    ⊎_elim
    (λ e.
    rest ∙ ap (λ s. value_or s (first_value place us)) (subst (λ p. get_or (set state u.place u.value) p d ≡ u.value) e (get_or-set_same state u.place u.value d (let f = e in omega arith)))
    ∙ first (first_value place us) (subst (λ p. admits (first_value p us) u.value ≡ true) e (admits-first u us parts.0))
    ∙ ap (λ b. value_or (get_or state place d) (if b then Some u.value else first_value place us)) (sym (eq-eqb u.place place e)))
    (λ n.
    rest ∙ ap (λ s. value_or s (first_value place us)) (get_or-set_other state u.place place u.value d (λ e. n (sym e)))
    ∙ ap (λ b. value_or (get_or state place d) (if b then Some u.value else first_value place us)) (sym (ne_eqb u.place place n)))
    (cases_eq u.place place)
  where
    first : (o : Option ℤ) → admits o u.value ≡ true → value_or u.value o ≡ u.value
    first None a = refl
    first (Some v) a = sym ((Decides-int_eq u.value v).0 a)

module _ (placement : Placement) where
  no_cell : Cell
  no_cell = record { fun = 0; index = 0 }

  pub length-decoded : (ram : List ℕ) → length (decoded placement ram) ≡ length (state_cells placement)
  length-decoded ram = length-map (entries placement) (value_at ram) ∙ length-map (state_cells placement) (entry_at placement)

  -- the value of a location in the state that RAM holds
  pub decoded-at : (ram : List ℕ) (place : ℕ) (d : ℤ) (cell : Cell) → slice_get (state_cells placement) place ≡ Some cell
      → get_or (decoded placement ram) place d ≡ value_of (entry_at placement cell) (seen placement ram (Value cell))
  decoded-at ram place d cell here =
      get_or_from_slice_get (decoded placement ram) place (value_at ram (entry_at placement cell)) d
      (slice_get-map (value_at ram) (entries placement) place
      ∙ ap (option_map (value_at ram)) (slice_get-map (entry_at placement) (state_cells placement) place)
      ∙ ap (λ o. option_map (value_at ram) (option_map (entry_at placement) o)) here)

  module _ (ram after : List ℕ) (updates : List Update) (staged : Staged placement ram updates) where
    -- where the mark is 0 and each location is done
    pub commits-fire : seen placement ram Mark ≡ 0 → Copies placement (seen placement ram) (seen placement after)
        → AllByRecursion (IsCopied (seen placement ram) (seen placement after)) (state_cells placement)
        → decoded placement after ≡ fired (decoded placement ram) updates
    commits-fire clean copies copied =
        same_lists (decoded placement after) (overwritten (decoded placement ram) updates)
        (length-decoded after ∙ sym (length-decoded ram) ∙ sym (length-overwritten updates (decoded placement ram)))
        (λ place d inside.
        let within : place < length (state_cells placement) = (let e = length-decoded after in omega arith) in
        let long : place < length (decoded placement ram) = (let e = length-decoded ram in omega arith) in
        let cell = get_or (state_cells placement) place no_cell in
        let here : slice_get (state_cells placement) place ≡ Some cell = slice_get-get_or (state_cells placement) place no_cell within in
        decoded-at after place d cell here
        ∙ by cell (is-cell placement place cell here) (all-at (IsCopied (seen placement ram) (seen placement after)) (state_cells placement) place cell copied here)
        (first_value place updates) (staged.cells clean place cell here)
        ∙ ap (λ v. value_or v (first_value place updates)) (sym (decoded-at ram place d cell here))
        ∙ sym (value-overwritten updates (decoded placement ram) place d agreed long))
        ∙ ap (λ b. if b then overwritten (decoded placement ram) updates else decoded placement ram) (sym agreed)
      where
        agreed : all_agree updates ≡ true
        agreed = staged.mark.0 clean

        by : (cell : Cell) → IsCell is_state placement.signatures cell → IsCopied (seen placement ram) (seen placement after) cell
            → (o : Option ℤ) → IsHeld (range_at placement cell.fun) (seen placement ram (Flag cell)) (seen placement ram (Waiting cell)) o
            → value_of (entry_at placement cell) (seen placement after (Value cell)) ≡ value_or (value_of (entry_at placement cell) (seen placement ram (Value cell))) o
        by cell is done None free =
            ⊎_elim (λ e. ap (value_of (entry_at placement cell)) e) (λ c. absurd (c.0 free)) (copies.at (Value cell) is (λ e. absurd (cc)))
        by cell is done (Some v) (set, index) =
            ap (value_of (entry_at placement cell)) (done set) ∙ indices-stand placement cell (seen placement ram (Waiting cell)) index.below ∙ sym index.counts

    -- where the mark is set and the state is as it was
    pub marked-fire : seen placement ram Mark ≢ 0 → decoded placement after ≡ decoded placement ram → decoded placement after ≡ fired (decoded placement ram) updates
    marked-fire dirty same =
        same ∙ ap (λ b. if b then overwritten (decoded placement ram) updates else decoded placement ram) (sym (clash (all_agree updates) refl))
      where
        clash : (b : Bool) → all_agree updates ≡ b → all_agree updates ≡ false
        clash true e = absurd (dirty (staged.mark.1 e))
        clash false e = e
