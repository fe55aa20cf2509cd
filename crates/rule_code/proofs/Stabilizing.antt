-- The unrolled image of a program stabilizes.
use Rattle.std.proofs.Common.{◌≡◌, ℕ, ◌+◌, ◌*◌, ◌≤◌, List, refl, ap, ◌∙◌, subst, arith}
use Rattle.std.proofs.lemmas.List.{length-map}
use Rattle.asm_names.specs.declared.{program.{Domain.{Domain}, Resolved.{Resolved}}, resolved_rule.ResolvedRule.{ResolvedRule}}
use Rattle.state_space.specs.{Locations.{is_input, is_state, located, signatures_of}, Sizes.{padded_sum}, Locations.{is_output, is_static}}
use Rattle.block_code.specs.Plan.{Plan, full}
use Rattle.block_code.proofs.Home.{comes-home-soon}
use Rattle.state_layout.specs.Map.{cell_of, map_end}
use Rattle.state_layout.specs.declared.layout.Layout.{Layout}
use Rattle.bound_count.specs.{Counts.{location_count}, Numbers.{round_number}, RuleWeights.{rule_ticks, rule_words}}
use Rattle.bound_count.specs.declared.shape.Shape.TheVariants as forms
use Rattle.bound_count.proofs.MapEnds.{maps-end-inside}
use Rattle.rule_expand.specs.declared.flat.Flat.{Flat}
use Rattle.rule_expand.specs.FlatUpdates.{HasLeastUpdates}
use Rattle.rv_machine.specs.Run.{after}
use Rattle.round_spec.specs.{Round.{Compiled, IsLeastRound}, Stabilizes.{ChoosesLeast, Stabilizes}}
use Rattle.round_spec.proofs.Running.{round-once}
use Rattle.rule_code.specs.{Code.{body_plan}, Unrolled.{IsUnrolled, UnrolledStabilizes}}
use Rattle.rule_code.proofs.{Bodies.{body-block, body-full, body-nest}, Rounds.{body-goes, least-is, round-is}}

-- unrolled, a rule takes as many ticks at most as words
pub same-weights : (domains : List Domain) (rule : ResolvedRule) → rule_ticks forms.Unrolled domains rule ≡ rule_words forms.Unrolled domains rule
unfolding rule_ticks rule_words
same-weights domains rule = refl

module _ (rom_size ram_size : ℕ) (layout : Layout) (program : Resolved) (flat : Flat) (built : Compiled) (at : ℕ) (u : IsUnrolled rom_size ram_size layout program flat built at) where
  abbrev body : Plan
  body = body_plan program built.map (4 * at) flat

  -- the body and the jump behind it are within the ticks of a round
  body-soon : full body + 1 ≤ round_number forms.Unrolled program
  body-soon =
      let most = body-full program built.map (4 * at) flat u.writable.inputs in
      let signatures = u.setting.mapped.signatures in
      let states = ap (padded_sum is_state) signatures in
      let ins = length-map (located is_input 0 built.map.signatures) (cell_of built.map.signatures) ∙ ap (location_count is_input) signatures in
      let outs = length-map (located is_output 0 built.map.signatures) (cell_of built.map.signatures) ∙ ap (location_count is_output) signatures in
      let ticks = same-weights program.domains program.rule in
      let light = u.light in
      omega arith

  map-inside : map_end built.map program.binders ≤ built.needs.ram
  map-inside =
      let end = maps-end-inside layout program in let is = u.within.is_ram in let same = ap (λ p. map_end p program.binders) u.map in omega arith

  pub stabilizes : Stabilizes rom_size ram_size forms.Unrolled layout program built
  stabilizes = record {
    size = u.size;
    image = u.image;
    short = u.short;
    map = u.map;
    needs = u.needs;
    within = u.within;
    anchored = λ m readings valid.
        let nest = body-nest program built.map (4 * at) flat u.writable.inputs in
        let come = comes-home-soon body (body-block program built.map (4 * at) flat u.writable built.rom ram_size u.setting) built.rom ram_size at (padded_sum is_static (signatures_of program)) 0
        (round_number forms.Unrolled program) readings m u.closed valid (omega arith) body-soon in
        let few = come.1 in let is = u.within.is_anchor in
        (come.0, omega arith, come.2);
    rounds = λ m readings valid head.
        let goes = body-goes program built (4 * at) flat ram_size at (padded_sum is_static (signatures_of program)) u.writable u.setting u.closed map-inside readings m valid head in
        let soon = goes.0.soon in let is = u.within.is_round in let few = body-soon in (
          goes.0.ticks,
          omega arith,
          round-is program built (4 * at) flat ram_size at (padded_sum is_static (signatures_of program)) u.writable u.setting u.closed map-inside readings m valid head goes.0 goes.1 u.permitted,
        );
  }

  -- and the step of each round is that of the least choices
  pub chooses-least : HasLeastUpdates program flat → ChoosesLeast ram_size program built
  chooses-least least readings m m' t valid made =
      let tables : ℕ = 4 * at in
      let count : ℕ = padded_sum is_static (signatures_of program) in
      let goes = body-goes program built tables flat ram_size at count u.writable u.setting u.closed map-inside readings m valid made.starts in
      let own = round-is program built tables flat ram_size at count u.writable u.setting u.closed map-inside readings m valid made.starts goes.0 goes.1 u.permitted in
      let chosen = least-is program built tables flat ram_size at count u.writable u.setting u.closed map-inside readings m valid made.starts goes.0 goes.1 least in
      subst (IsLeastRound program built readings m)
      (round-once program built readings m (after built.rom goes.0.ticks readings m) m' goes.0.ticks t own made) chosen

pub unrolled-stabilizes : UnrolledStabilizes
unrolled-stabilizes rom_size ram_size layout program flat built at u = stabilizes rom_size ram_size layout program flat built at u
