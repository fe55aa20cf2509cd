-- What stores for an update and for a binder leave of RAM.
use Rattle.std.proofs.Common.{◌≡◌, ◌≢◌, ℕ, ◌+◌, ◌*◌, ◌<◌, ◌≤◌, ℤ, pos, true, List, [], ◌∷◌, length, map, Some, refl, sym, ap, ◌∙◌, subst, inl, inr, ◌⊎◌, ⊎_elim, arith}
use Rattle.std.specs.Prelude.{is_some, nat_le, nat_lt, slice_get, slice_index, slice_index_or}
use Rattle.std.specs.List.{AllByRecursion}
use Rattle.std.proofs.lemmas.Bool.{and_parts, cases_lt, leb-true, ltb-true, or_cases}
use Rattle.asm_names.specs.declared.program.Resolved.{Resolved}
use Rattle.asm_ranges.specs.Ranges.{Scope}
use Rattle.rv_machine.specs.Memory.{number_at, stored}
use Rattle.rv_machine.proofs.Store.{number_at-stored_before, number_at-stored_behind}
use Rattle.trap_model.specs.Width.{bytes_of}
use Rattle.block_code.specs.Leads.{IsSameOutside}
use Rattle.block_code.specs.Moment.{Moment}
use Rattle.state_space.specs.{Locations.{is_input, is_state}, Sizes.{padded_count}}
use Rattle.state_space.specs.declared.{signature.Signature.{Signature}, update.Update.{Update}}
use Rattle.state_layout.specs.declared.cell.Cell.{Cell}
use Rattle.state_layout.specs.Map.{IsCell, Placement, access_at, decoded, flag_access, flags_end, flags_start, in_clash, input_cells, kept_end, lies_between, range_at, slot, staged_end, staged_start, state_end}
use Rattle.state_layout.proofs.{Cells.{flags-are-arrays, staged-are-arrays}, HeldState.{number_at-same, state-is-in-its-region, stores-behind-leave-state}, Located.{locations-have-cells}}
use Rattle.state_space.specs.Decoding.{value_of_word}
use Rattle.state_layout.specs.Inputs.{HoldsInputs, input_at}
use Rattle.instr_select.specs.Held.{HoldsBinders, IsHeld}
use Rattle.instr_select.specs.Binders.{binder_range}
use Rattle.staged_commit.specs.{Regions.{in_stage}, Spots.{Flag, IsSpot, Kept, Mark, Spot, Waiting, offset, seen}, Staged.{IsHeld as IsHeldSpot, Staged}}
use Rattle.staged_commit.proofs.{Pieces.{all-from}, Spread.{inside, lies, width}, Staging.{is-cell}}
use Rattle.state_space.specs.Pending.{first_value}

pub between-parts : (low high o : ℕ) → lies_between low high o ≡ true → (low ≤ o) × (o < high)
between-parts low high o h = let p = and_parts (nat_le low o) (nat_lt o high) h in (leb-true low o p.0, ltb-true o high p.1)

module _ (placement : Placement) where
  -- where an update of a function may store
  pub where-staged : (fun : ℕ) (signature : Signature) → slice_get placement.signatures fun ≡ Some signature → is_state signature.kind ≡ true → (o : ℕ) → in_stage placement fun (padded_count signature.args) o ≡ true
      → ((state_end placement ≤ o) × (o < flags_end placement)) ⊎ ((kept_end placement ≤ o) × (o < kept_end placement + 4))
  where-staged fun signature here held o h =
      ⊎_elim
      (λ e. let b = between-parts (staged_start placement fun) (staged_start placement fun + bytes_of (access_at placement fun) * padded_count signature.args) o e in let b0 = b.0 in let b1 = b.1 in
      inl (omega (arith, from, below, flag_from, flag_below), omega (arith, from, below, flag_from, flag_below)))
      (λ e. ⊎_elim
      (λ f. let b = between-parts (flags_start placement fun) (flags_start placement fun + bytes_of (flag_access placement.layout) * padded_count signature.args) o f in let b0 = b.0 in let b1 = b.1 in
      inl (omega (arith, from, below, flag_from, flag_below), omega (arith, from, below, flag_from, flag_below)))
      (λ f. inr (between-parts (kept_end placement) (kept_end placement + 4) o f))
      (or_cases _ (in_clash placement o) e))
      (or_cases _ _ h)
    where
      from : state_end placement ≤ staged_start placement fun
      from = (staged-are-arrays placement).from fun

      below : staged_start placement fun + bytes_of (access_at placement fun) * padded_count signature.args ≤ staged_end placement
      below = (staged-are-arrays placement).below fun signature here held

      flag_from : staged_end placement ≤ flags_start placement fun
      flag_from = (flags-are-arrays placement).from fun

      flag_below : flags_start placement fun + bytes_of (flag_access placement.layout) * padded_count signature.args ≤ flags_end placement
      flag_below = (flags-are-arrays placement).below fun signature here held

  -- ---- the inputs rest on their kept words
  all-inputs : AllByRecursion (IsCell is_input placement.signatures) (input_cells placement)
  all-inputs = all-from (IsCell is_input placement.signatures) (input_cells placement) (λ k cell e. (locations-have-cells is_input placement.signatures k cell e).0)

  pub same-inputs : (before after : List ℕ) (inputs : List ℤ) → ((cell : Cell) → IsCell is_input placement.signatures cell → seen placement after (Kept cell) ≡ seen placement before (Kept cell))
      → HoldsInputs placement before inputs → HoldsInputs placement after inputs
  same-inputs before after inputs same h = each (input_cells placement) all-inputs ∙ h
    where
      each : (cells : List Cell) → AllByRecursion (IsCell is_input placement.signatures) cells → map (input_at placement after) cells ≡ map (input_at placement before) cells
      each [] all = refl
      each (cell ∷ cells) all =
          ap (λ n. value_of_word (range_at placement cell.fun) n ∷ map (input_at placement after) cells) (same cell all.0) ∙ ap (λ vs. input_at placement before cell ∷ vs) (each cells all.1)

  -- ---- what is staged rests on its spots
  pub same-staged : (before after : List ℕ) (updates : List Update) → ((spot : Spot) → IsSpot placement spot → seen placement after spot ≡ seen placement before spot)
      → Staged placement before updates → Staged placement after updates
  same-staged before after updates same h =
      let m : seen placement after Mark ≡ seen placement before Mark = same Mark tt in
      record {
        mark = (λ zero. h.mark.0 (sym m ∙ zero), λ agree. m ∙ h.mark.1 agree);
        cells = λ zero place cell here.
            let is = is-cell placement place cell here in
            subst (λ f. IsHeldSpot (range_at placement cell.fun) f (seen placement after (Waiting cell)) (first_value place updates)) (sym (same (Flag cell) is))
            (subst (λ w. IsHeldSpot (range_at placement cell.fun) (seen placement before (Flag cell)) w (first_value place updates)) (sym (same (Waiting cell) is))
            (h.cells (sym m ∙ zero) place cell here));
      }

  -- ---- the slots
  pub same-binders : (program : Resolved) (before after : List ℕ) (scope : Scope) (env : List ℤ)
      → ((b : ℕ) → is_some (scope b) ≡ true → number_at 4 (slot placement b) after ≡ number_at 4 (slot placement b) before)
      → HoldsBinders program placement before scope env → HoldsBinders program placement after scope env
  same-binders program before after scope env same h b some =
      subst (λ w. IsHeld (binder_range program b) w (slice_index_or env b (pos 0))) (sym (same b some)) (h b some)

  -- ---- an update
  module _ (fun : ℕ) (signature : Signature) (here : slice_get placement.signatures fun ≡ Some signature) (held : is_state signature.kind ≡ true) (s e : Moment)
      (same : IsSameOutside (in_stage placement fun (padded_count signature.args)) s e) where
    bytes-same : (width offset : ℕ) → ((offset + width ≤ state_end placement) ⊎ ((flags_end placement ≤ offset) × ((offset + width ≤ kept_end placement) ⊎ (kept_end placement + 4 ≤ offset))))
        → (o : ℕ) → offset ≤ o → o < offset + width → slice_index e.hart.ram o ≡ slice_index s.hart.ram o
    bytes-same width offset apart o low high =
        same.bytes o (λ h.
        ⊎_elim
        (λ (w : (state_end placement ≤ o) × (o < flags_end placement)). let w0 = w.0 in let w1 = w.1 in ⊎_elim (λ a. absurd (omega arith)) (λ a. let a0 = a.0 in absurd (omega arith)) apart)
        (λ (w : (kept_end placement ≤ o) × (o < kept_end placement + 4)). let w0 = w.0 in let w1 = w.1 in
        ⊎_elim (λ a. absurd (omega arith)) (λ a. ⊎_elim (λ b. absurd (omega arith)) (λ b. absurd (omega arith)) a.1) apart)
        (where-staged fun signature here held o h))

    pub stage-state : decoded placement e.hart.ram ≡ decoded placement s.hart.ram
    stage-state =
        state-is-in-its-region placement s.hart.ram e.hart.ram
        (λ o h. let b = between-parts 0 (state_end placement) o h in let b1 = b.1 in bytes-same 1 o (inl (omega arith)) o (omega arith) (omega arith))

    pub stage-inputs : (inputs : List ℤ) → HoldsInputs placement s.hart.ram inputs → HoldsInputs placement e.hart.ram inputs
    stage-inputs inputs =
        same-inputs s.hart.ram e.hart.ram inputs
        (λ cell is.
        let l = lies placement (Kept cell) is in let from = l.from in let below = l.below in
        number_at-same (width placement (Kept cell)) (offset placement (Kept cell)) e.hart.ram s.hart.ram (bytes-same (width placement (Kept cell)) (offset placement (Kept cell)) (inr (from, inl below))))

    pub stage-binders : (program : Resolved) (scope : Scope) (env : List ℤ) → HoldsBinders program placement s.hart.ram scope env → HoldsBinders program placement e.hart.ram scope env
    stage-binders program scope env =
        same-binders program s.hart.ram e.hart.ram scope env
        (λ b some. number_at-same 4 (slot placement b) e.hart.ram s.hart.ram (bytes-same 4 (slot placement b) (inr (omega arith, inr (omega arith)))))

  -- ---- a binder's slot
  module _ (binder x : ℕ) (ram : List ℕ) (room : slot placement binder + 4 ≤ length ram) where
    abbrev pub bound : List ℕ
    bound = stored 4 (slot placement binder) x ram

    pub bind-state : decoded placement bound ≡ decoded placement ram
    bind-state = stores-behind-leave-state placement ram 4 (slot placement binder) x (omega arith) room

    pub bind-seen : (spot : Spot) → IsSpot placement spot → seen placement bound spot ≡ seen placement ram spot
    bind-seen spot is = let h = inside placement spot is in number_at-stored_before 4 (slot placement binder) x ram room (width placement spot) (offset placement spot) (omega arith)

    pub bind-others : (other : ℕ) → other ≢ binder → number_at 4 (slot placement other) bound ≡ number_at 4 (slot placement other) ram
    bind-others other differs =
        ⊎_elim
        (λ less. number_at-stored_before 4 (slot placement binder) x ram room 4 (slot placement other) (omega arith))
        (λ (more : binder ≤ other). number_at-stored_behind 4 (slot placement binder) x ram room 4 (slot placement other) (omega arith))
        (cases_lt other binder)
