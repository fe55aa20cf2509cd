-- The code of a round makes a round.
use Rattle.std.proofs.Common.{◌≡◌, ℕ, ◌+◌, ◌*◌, ◌<◌, ◌≤◌, ℤ, pos, Bool, true, List, [], ◌++◌, append_assoc, drop, length, refl, sym, ap, ◌∙◌, subst, inl, inr, ◌⊎◌, ⊎_elim, arith}
use Rattle.std.proofs.{lemmas.Bool.{or_cases}, Math.ListN.{length-replicate}}
use Rattle.asm_names.specs.declared.program.Resolved.{Resolved}
use Rattle.asm_ranges.specs.Ranges.{ReadsFit, unscoped}
use Rattle.state_space.specs.{Firing.{fired}, Locations.{is_state}, Sizes.{padded_sum}}
use Rattle.block_code.specs.Block.{IsBlock}
use Rattle.block_code.specs.Effect.{Holds}
use Rattle.block_code.specs.Footprint.{only_in}
use Rattle.block_code.specs.Leads.{IsEntered, IsSameOutside, Leads}
use Rattle.block_code.specs.Moment.{Moment}
use Rattle.block_code.specs.Plan.{Plan, Seq, full, len, nest}
use Rattle.block_code.proofs.{Footprint.{outside-joined, touches-outside}, Leads.{leads-more, leads-seq}}
use Rattle.state_layout.specs.Map.{Placement, clash, counter, decoded, flags_end, in_clash, in_flags, in_kept, in_state, input_cells, kept_end, map_end, staged_end, state_end}
use Rattle.state_layout.specs.Inputs.{HoldsInputs}
use Rattle.state_layout.proofs.HeldState.{number_at-same, state-is-in-its-region}
use Rattle.instr_select.proofs.{Entered.{enter-first, enter-second}, HeldValues.{held-values-fit}}
use Rattle.staged_commit.specs.{Code.{clear_unrolled, commit_unrolled, output_cells, read_inputs, send_outputs}, Law.{need}, Ports.{reading, sends, took, values_read}, Regions.{in_clear, in_commit}, Spots.{Kept, offset}, Staged.{Staged}}
use Rattle.staged_commit.proofs.{Pieces.{clear-block, clear-leads, clear-touches, commit-block, commit-leads, commit-touches}, Reading.{ReadsInputs, read-block, read-leads, read-touches}, Sending.{send-block, send-leads}, Spotted.{between}, Spread.{lies, width}, Weights.{clear-full, clear-len, commit-full, commit-len, read-full, read-len, send-full, send-len}}
use Rattle.update_sets.specs.Steps.{unbound}
use Rattle.rule_expand.specs.declared.flat.Flat.{Flat}
use Rattle.rule_expand.specs.{FlatUpdates.{flat_updates}, FlatWeights.{flat_weight}}
use Rattle.rule_code.specs.{Body.{IsWritable, MakesRound}, Code.{body_plan, rule_plan}, Within.{IsBound, IsSetting, IsTame, IsWithin, in_map}}
use Rattle.rule_code.proofs.{Codes.{rules-are-coded}, Frame.{between-parts, same-inputs}, Quiet.{outside-more, rules-are-tame, tame-touched}, Rule.{rules-stage}}

module _ (program : Resolved) (placement : Placement) (tables : ℕ) (flat : Flat) where
  abbrev rule : Plan
  rule = rule_plan program placement tables flat

  -- ---- where the pieces store
  clear-where : (o : ℕ) → in_clear placement o ≡ true → ((staged_end placement ≤ o) × (o < flags_end placement)) ⊎ ((kept_end placement ≤ o) × (o < kept_end placement + 8))
  clear-where o h =
      ⊎_elim (λ e. inl (between-parts (staged_end placement) (flags_end placement) o e))
      (λ e. ⊎_elim
      (λ f. let b = between-parts (clash placement) (clash placement + 4) o f in let b0 = b.0 in let b1 = b.1 in inr (omega arith, omega arith))
      (λ f. let b = between-parts (counter placement) (counter placement + 4) o f in let b0 = b.0 in let b1 = b.1 in inr (omega arith, omega arith))
      (or_cases (in_clash placement o) _ e))
      (or_cases (in_flags placement o) _ h)

  commit-below : (o : ℕ) → in_commit placement o ≡ true → o < kept_end placement + 8
  commit-below o h =
      ⊎_elim (λ e. let b = (between-parts 0 (state_end placement) o e).1 in omega arith) (λ e. let b = (between-parts (counter placement) (counter placement + 4) o e).1 in omega arith)
      (or_cases (in_state placement o) _ h)

  in-map : (o : ℕ) → o < kept_end placement + 8 → in_map placement program.binders o ≡ true
  in-map o h = between 0 (map_end placement program.binders) o (omega arith) (omega arith)

  -- what stores behind the state leaves it
  state-same : (region : ℕ → Bool) → ((o : ℕ) → region o ≡ true → state_end placement ≤ o) → (s e : Moment) → IsSameOutside region s e → decoded placement e.hart.ram ≡ decoded placement s.hart.ram
  state-same region behind s e same =
      state-is-in-its-region placement s.hart.ram e.hart.ram (λ o h. same.bytes o (λ k. let low = behind o k in let high = (between-parts 0 (state_end placement) o h).1 in absurd (omega arith)))

  clear-inputs : (s e : Moment) (inputs : List ℤ) → IsSameOutside (in_clear placement) s e → HoldsInputs placement s.hart.ram inputs → HoldsInputs placement e.hart.ram inputs
  clear-inputs s e inputs same =
      same-inputs placement s.hart.ram e.hart.ram inputs
      (λ cell is.
      let l = lies placement (Kept cell) is in let from = l.from in let below = l.below in
      number_at-same (width placement (Kept cell)) (offset placement (Kept cell)) e.hart.ram s.hart.ram
      (λ o low high. same.bytes o (λ k. ⊎_elim (λ w. let w1 = w.1 in absurd (omega arith)) (λ w. let w0 = w.0 in absurd (omega arith)) (clear-where o k))))

  -- ---- what it is made of
  module _ (coded_in : length (input_cells placement) ≤ 256) where
    pub body-len : len (body_plan program placement tables flat)
        ≤ 62 + 24 * padded_sum is_state placement.signatures + (flat_weight flat + (16 * length (input_cells placement) + 20 * length (output_cells placement.signatures)))
    body-len =
        let r = read-len placement in let c = clear-len placement in let f = (rules-are-coded program placement tables flat).few in let m = commit-len placement in let o = send-len placement in omega arith

    pub body-full : full (body_plan program placement tables flat)
        ≤ 62 + 24 * padded_sum is_state placement.signatures + (flat_weight flat + (16 * length (input_cells placement) + 20 * length (output_cells placement.signatures)))
    body-full =
        let r = read-full placement in let c = clear-full placement in let f = (rules-are-coded program placement tables flat).quick in let m = commit-full placement in let o = send-full placement in omega arith

    pub body-nest : nest (body_plan program placement tables flat) ≡ 0
    body-nest = let f = (rules-are-coded program placement tables flat).flat in omega arith

    pub body-holds : (size : ℕ) → Holds size (body_plan program placement tables flat)
    body-holds size = (tt, (tt, ((rules-are-coded program placement tables flat).holds size, ((tt, (tt, tt)), tt))))

  module _ (writable : IsWritable program placement flat) (rom : List ℕ) (size : ℕ) (set : IsSetting rom size program placement tables) where
    pub body-block : IsBlock (body_plan program placement tables flat)
    body-block =
        (read-block placement set.coded writable.inputs, (clear-block placement set.coded, ((rules-are-coded program placement tables flat).block, (commit-block placement set.coded, send-block placement set.coded writable.outputs))))

    room : need placement ≤ size
    room = let inside = set.inside in omega arith

    abbrev region : ℕ → Bool
    region = in_map placement program.binders

    -- the inputs are read
    record AfterRead (s m : Moment) : Type 0 where
      reads : ReadsInputs placement set.coded writable.inputs s m
      outside : IsSameOutside (in_kept placement) s m

    read-part : (address : ℕ) (s : Moment) → IsEntered rom size address (read_inputs placement) s → Leads rom size address (read_inputs placement) (AfterRead s) s
    read-part address s e =
        leads-more rom size address (read_inputs placement) s _ _ (read-leads placement set.coded writable.inputs rom size address s e room)
        (λ m d h. record {
          reads = h;
          outside = (touches-outside (reading placement) (read_inputs placement) (read-touches placement set.coded writable.inputs)).does rom size address s m e d;
        })

    -- nothing is staged
    record AfterClear (s m : Moment) : Type 0 where
      nothing : Staged placement m.hart.ram []
      tame : IsTame region s m
      outside : IsSameOutside (in_clear placement) s m

    clear-part : (address : ℕ) (s : Moment) → IsEntered rom size address (clear_unrolled placement) s → Leads rom size address (clear_unrolled placement) (AfterClear s) s
    clear-part address s e =
        leads-more rom size address (clear_unrolled placement) s _ _ (clear-leads placement set.coded rom size address s e room)
        (λ m d h. record {
          nothing = h;
          tame = (tame-touched program placement tables set.mapped set.coded set.small (only_in (in_clear placement)) refl refl
              (λ o k. ⊎_elim (λ w. let w1 = w.1 in in-map o (omega arith)) (λ w. in-map o w.1) (clear-where o k)) (clear_unrolled placement) (clear-touches placement set.coded)).does rom size address s m e d;
          outside = (touches-outside (only_in (in_clear placement)) (clear_unrolled placement) (clear-touches placement set.coded)).does rom size address s m e d;
        })

    -- the rule's updates are staged
    record AfterRule (state inputs : List ℤ) (s m : Moment) : Type 0 where
      within : IsWithin program placement state inputs (unbound program) unscoped (flat_updates program state inputs flat (unbound program)) m.hart.ram
      tame : IsTame region s m

    no-binders : IsBound program unscoped (unbound program)
    no-binders = record { long = length-replicate program.binders (pos 0); values = λ b. tt; few = λ b some. absurd cc }

    rule-part : (state inputs : List ℤ) (address : ℕ) (s : Moment) → IsEntered rom size address rule s → decoded placement s.hart.ram ≡ state → HoldsInputs placement s.hart.ram inputs
        → Staged placement s.hart.ram [] → Leads rom size address rule (AfterRule state inputs s) s
    rule-part state inputs address s e is kept nothing =
        let reads : ReadsFit program state inputs = subst (λ st. ReadsFit program st inputs) is (held-values-fit program placement s.hart.ram inputs set.mapped writable.tables kept) in
        leads-more rom size address rule s _ _
        (rules-stage rom size program placement tables set state inputs reads flat unscoped (unbound program) [] no-binders writable.short
        (writable.met state inputs (unbound program) reads (length-replicate program.binders (pos 0))) writable.registers address s e
        (record { decodes = is; keeps = kept; binds = λ b some. absurd cc; stages = nothing }))
        (λ m d h. record {
          within = h;
          tame = (rules-are-tame program placement tables set.mapped set.coded set.small flat unscoped (λ b some. absurd cc) writable.short writable.registers).does rom size address s m e d;
        })

    -- they are fired
    record AfterCommit (state : List ℤ) (s m : Moment) : Type 0 where
      fires : decoded placement m.hart.ram ≡ state
      tame : IsTame region s m

    commit-part : (state inputs : List ℤ) (address : ℕ) (s : Moment) → IsEntered rom size address (commit_unrolled placement) s
        → IsWithin program placement state inputs (unbound program) unscoped (flat_updates program state inputs flat (unbound program)) s.hart.ram
        → Leads rom size address (commit_unrolled placement) (AfterCommit (fired state (flat_updates program state inputs flat (unbound program))) s) s
    commit-part state inputs address s e within =
        leads-more rom size address (commit_unrolled placement) s _ _ (commit-leads placement set.coded rom size address s (flat_updates program state inputs flat (unbound program)) e room within.stages)
        (λ m d h. record {
          fires = h ∙ ap (λ st. fired st (flat_updates program state inputs flat (unbound program))) within.decodes;
          tame = (tame-touched program placement tables set.mapped set.coded set.small (only_in (in_commit placement)) refl refl (λ o k. in-map o (commit-below o k))
              (commit_unrolled placement) (commit-touches placement set.coded)).does rom size address s m e d;
        })

    -- the whole round
    pub body-leads : (address : ℕ) (s : Moment) → IsEntered rom size address (body_plan program placement tables flat) s
        → Leads rom size address (body_plan program placement tables flat) (MakesRound program placement flat s) s
    body-leads address s e =
        let send : Plan = send_outputs placement in
        let commit : Plan = Seq (commit_unrolled placement) send in
        let ruled : Plan = Seq rule commit in
        let cleared : Plan = Seq (clear_unrolled placement) ruled in
        let state : List ℤ = decoded placement s.hart.ram in
        let inputs : List ℤ = values_read placement (input_cells placement) s.readings in
        leads-seq rom size address (read_inputs placement) cleared s (AfterRead s) _ (read-part address s (enter-first rom size address (read_inputs placement) cleared s e))
        (λ a ba.
        let ea = enter-second rom size address (read_inputs placement) cleared s e a ba in
        let at_a : ℕ = address + 4 * len (read_inputs placement) in
        leads-seq rom size at_a (clear_unrolled placement) ruled a (AfterClear a) _ (clear-part at_a a (enter-first rom size at_a (clear_unrolled placement) ruled a ea))
        (λ b bb.
        let eb = enter-second rom size at_a (clear_unrolled placement) ruled a ea b bb in
        let at_b : ℕ = at_a + 4 * len (clear_unrolled placement) in
        leads-seq rom size at_b rule commit b (AfterRule state inputs b) _
        (rule-part state inputs at_b b (enter-first rom size at_b rule commit b eb)
        (state-same (in_clear placement) (λ o k. ⊎_elim (λ w. let w0 = w.0 in omega arith) (λ w. let w0 = w.0 in omega arith) (clear-where o k)) a b bb.good.outside
        ∙ state-same (in_kept placement) (λ o k. let w0 = (between-parts (flags_end placement) (kept_end placement) o k).0 in omega arith) s a ba.good.outside)
        (clear-inputs a b inputs bb.good.outside ba.good.reads.inputs) bb.good.nothing)
        (λ c bc.
        let ec = enter-second rom size at_b rule commit b eb c bc in
        let at_c : ℕ = at_b + 4 * len rule in
        leads-seq rom size at_c (commit_unrolled placement) send c _ _ (commit-part state inputs at_c c (enter-first rom size at_c (commit_unrolled placement) send c ec) bc.good.within)
        (λ d bd.
        let ed = enter-second rom size at_c (commit_unrolled placement) send c ec d bd in
        let at_d : ℕ = at_c + 4 * len (commit_unrolled placement) in
        leads-more rom size at_d send d _ _ (send-leads placement set.coded writable.outputs rom size at_d d ed room)
        (λ z dz sent.
        let taken : List _ = took 0 (length (input_cells placement)) in
        let log_d : d.log ≡ s.log ++ taken = bd.good.tame.still.log ∙ bc.good.tame.still.log ∙ bb.good.tame.still.log ∙ ba.good.reads.log in
        let readings_d : d.readings ≡ drop (length (input_cells placement)) s.readings = bd.good.tame.still.readings ∙ bc.good.tame.still.readings ∙ bb.good.tame.still.readings ∙ ba.good.reads.readings in
        record {
          fires = ap (decoded placement) sent.ram ∙ bd.good.fires;
          log = sent.log ∙ ap (λ r. d.log ++ sends placement r 0 (output_cells placement.signatures)) (sym sent.ram)
              ∙ ap (λ l. l ++ sends placement z.hart.ram 0 (output_cells placement.signatures)) log_d ∙ append_assoc s.log taken (sends placement z.hart.ram 0 (output_cells placement.signatures));
          readings = sent.readings ∙ readings_d;
          outside = subst (λ r. IsSameOutside region s (record { hart = record { pc = z.hart.pc; regs = z.hart.regs; ram = r }; readings = z.readings; log = z.log })) (sym sent.ram)
              (with_ram s d z (outside-joined region s a d
              (outside-more (in_kept placement) region (λ o k. let w1 = (between-parts (flags_end placement) (kept_end placement) o k).1 in in-map o (omega arith)) s a ba.good.outside)
              (outside-joined region a b d bb.good.tame.outside (outside-joined region b c d bc.good.tame.outside bd.good.tame.outside))));
        })))))
      where
        with_ram : (s d z : Moment) → IsSameOutside region s d → IsSameOutside region s (record { hart = record { pc = z.hart.pc; regs = z.hart.regs; ram = d.hart.ram }; readings = z.readings; log = z.log })
        with_ram s d z h = record { bytes = h.bytes; count = h.count }
