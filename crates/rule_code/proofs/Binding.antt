-- A binder gets its value, and what holds of RAM within its scope and behind it.
use Rattle.std.proofs.Common.{◌≡◌, ◌≢◌, ℕ, ◌+◌, ◌^◌, ◌<◌, ◌≤◌, ℤ, pos, true, false, not, List, length, length-set, Option, Some, None, refl, sym, ap, ◌∙◌, subst, ⊎_elim, arith, eq-eqb, get_or-set_same, get_or-set_other}
use Rattle.std.specs.Prelude.{is_some, slice_index_or, slice_set, if◌then◌else◌, ◌==◌}
use Rattle.std.specs.Option.{option_map}
use Rattle.std.proofs.lemmas.Bool.{both_ways, cases_Bool, eqb-true}
use Rattle.asm_names.specs.declared.program.{Interval.{Interval}, Resolved.{Resolved}}
use Rattle.asm_ranges.specs.Ranges.{In, Scope, scoped}
use Rattle.asm_ranges.proofs.PlacedRules.{EnvFits-set}
use Rattle.state_space.specs.Locations.{range_of}
use Rattle.rv_machine.specs.Memory.{number_at}
use Rattle.rv_machine.proofs.Store.{number_at-stored}
use Rattle.state_space.specs.declared.update.Update.{Update}
use Rattle.mask_guard.specs.Mask.{word_of}
use Rattle.state_layout.specs.Map.{Placement, slot}
use Rattle.instr_select.specs.{Binders.{binder_domain, binder_range}, Held.{IsHeld}}
use Rattle.staged_commit.specs.Spots.{Kept}
use Rattle.rule_code.specs.Within.{IsBound, IsWithin}
use Rattle.rule_code.proofs.Frame.{bind-others, bind-seen, bind-state, bound, same-inputs, same-staged}

no-some : {A : Type 0} (o : Option A) → not (is_some o) ≡ true → o ≡ None
no-some None h = refl
no-some (Some x) h = absurd cc

-- a binder in scope is not the new one
differs : (scope : Scope) (b other : ℕ) → scope b ≡ None → is_some (scope other) ≡ true → (other == b) ≡ false
differs scope b other none some =
    ⊎_elim (λ e. let same = eqb-true other b e in absurd (let h : is_some (scope b) ≡ true = subst (λ n. is_some (scope n) ≡ true) same some in let k = ap is_some none in cc)) (λ e. e) (cases_Bool (other == b))

apart : (b other : ℕ) → (other == b) ≡ false → other ≢ b
apart b other e same = both_ways _ e (eq-eqb other b same)

module _ (program : Resolved) (placement : Placement) (state inputs env : List ℤ) (scope : Scope) (b : ℕ) (interval : Interval) (v : ℤ)
    (fresh : not (is_some (scope b)) ≡ true) (own : not (is_some (binder_domain program.rule b)) ≡ true) (scoped_in : IsBound program scope env) (below : b < program.binders) where
  abbrev more : Scope
  more = scoped scope b interval

  abbrev values : List ℤ
  values = slice_set env b v

  room : b < length env
  room = let long = scoped_in.long in omega arith

  -- what is in scope is the new binder, or was before
  either : (P : ℕ → Type 0) → P b → ((other : ℕ) → is_some (scope other) ≡ true → (other == b) ≡ false → P other) → (other : ℕ) → is_some (more other) ≡ true → P other
  either P new old other some =
      ⊎_elim
      (λ e. subst P (sym (eqb-true other b e)) new)
      (λ e. old other (subst (λ t. is_some (if t then Some interval else scope other) ≡ true) e some) e)
      (cases_Bool (other == b))

  pub more-bound : In interval v → IsBound program more values
  more-bound fits = record {
    long = length-set env b v ∙ scoped_in.long;
    values = EnvFits-set scope env b interval v room scoped_in.values fits;
    few = either (λ other. other < program.binders) below (λ other some e. scoped_in.few other some);
  }

  other-value : (other : ℕ) → (other == b) ≡ false → slice_index_or values other (pos 0) ≡ slice_index_or env other (pos 0)
  other-value other e = get_or-set_other env b other v (pos 0) (apart b other e)

  module _ (updates : List Update) (ram : List ℕ) (long : slot placement b + 4 ≤ length ram) (small : word_of v < 256 ^ 4) (within : IsWithin program placement state inputs env scope updates ram) where
    abbrev after : List ℕ
    after = bound placement b (word_of v) ram long

    no-domain : (o : Option ℕ) → o ≡ None → option_map (range_of program.domains) o ≡ None
    no-domain o e = ap (option_map (range_of program.domains)) e

    new-held : IsHeld (binder_range program b) (number_at 4 (slot placement b) after) (slice_index_or values b (pos 0))
    new-held =
        subst (λ o. IsHeld o (number_at 4 (slot placement b) after) (slice_index_or values b (pos 0))) (sym (no-domain (binder_domain program.rule b) (no-some _ own)))
        (number_at-stored 4 (slot placement b) (word_of v) ram long small ∙ ap word_of (sym (get_or-set_same env b v (pos 0) room)))

    old-held : (other : ℕ) → is_some (scope other) ≡ true → (other == b) ≡ false → IsHeld (binder_range program other) (number_at 4 (slot placement other) after) (slice_index_or values other (pos 0))
    old-held other some e =
        subst (λ w. IsHeld (binder_range program other) w (slice_index_or values other (pos 0))) (sym (bind-others placement b (word_of v) ram long other (apart b other e)))
        (subst (λ x. IsHeld (binder_range program other) (number_at 4 (slot placement other) ram) x) (sym (other-value other e)) (within.binds other some))

    -- the word of the value goes into the binder's slot
    pub within-more : IsWithin program placement state inputs values more updates after
    within-more = record {
      decodes = bind-state placement b (word_of v) ram long ∙ within.decodes;
      keeps = same-inputs placement ram after inputs (λ cell is. bind-seen placement b (word_of v) ram long (Kept cell) is) within.keeps;
      binds = either (λ other. IsHeld (binder_range program other) (number_at 4 (slot placement other) after) (slice_index_or values other (pos 0))) new-held old-held;
      stages = same-staged placement ram after updates (bind-seen placement b (word_of v) ram long) within.stages;
    }

  -- behind the scope of the binder
  pub within-less : (updates : List Update) (ram : List ℕ) → IsWithin program placement state inputs values more updates ram → IsWithin program placement state inputs env scope updates ram
  within-less updates ram within = record {
    decodes = within.decodes;
    keeps = within.keeps;
    binds = λ other some.
        let e = differs scope b other (no-some _ fresh) some in
        subst (λ x. IsHeld (binder_range program other) (number_at 4 (slot placement other) ram) x) (other-value other e)
        (within.binds other (subst (λ t. is_some (if t then Some interval else scope other) ≡ true) (sym e) some));
    stages = within.stages;
  }
