-- A hart whose ROM holds the code of a round, and behind it jumps to 0, goes round by round of the program.
use Rattle.std.proofs.Common.{◌≡◌, ℕ, zero, suc, ◌≤◌, pos, List, [], ◌∷◌, ◌++◌, append-nil, drop, length, slice_index, refl, sym, ap, ◌∙◌, subst, arith}
use Rattle.std.specs.List.{range_with_len}
use Rattle.std.proofs.{lemmas.List.{length-map}, Math.ListN.{length-replicate}}
use Rattle.asm_names.specs.declared.program.Resolved.{Resolved}
use Rattle.rv_machine.specs.{Hart.{HartState, IsValid}, Run.{after, ports_taken, words_sent}, Tick.{Event, Quiet, Sent, Took, Trapped}}
use Rattle.state_space.specs.{Firing.{fired}, Locations.{input_locations, signatures_of}}
use Rattle.block_code.specs.{Home.{GoneRound, IsClosed, started}, Leads.{IsEntered}, Moment.{Moment}, Plan.{Plan}}
use Rattle.block_code.specs.Block.{IsBlock}
use Rattle.block_code.proofs.Leads.{leads-round}
use Rattle.state_layout.specs.Map.{Placement, cell_of, decoded, input_cells, map_end}
use Rattle.staged_commit.specs.{Code.{output_cells}, Ports.{sends, took}}
use Rattle.update_sets.specs.{Steps.{Step, StepLeast, unbound}, Yields.{Updates, YieldsLeast}}
use Rattle.update_sets.proofs.Choices.{least_is_yielded}
use Rattle.rule_expand.specs.declared.flat.Flat.{Flat}
use Rattle.rule_expand.specs.FlatUpdates.{HasLeastUpdates, HasPermittedUpdates, flat_updates}
use Rattle.round_spec.specs.{Ports.{input_count, inputs_taken, words_for}, Round.{Compiled, IsLeastRound, Round}}
use Rattle.rule_code.proofs.{Inputs.{ports-are-read, readings-are-inputs}, Outputs.{outputs-are-sent}}
use Rattle.rule_code.specs.{Body.{IsWritable, MakesRound}, Code.{body_plan}, Within.{IsSetting}}
use Rattle.rule_code.proofs.{Bodies.{body-block, body-holds, body-leads}, Frame.{between-parts}}

ports-joined : (xs ys : List Event) → ports_taken (xs ++ ys) ≡ ports_taken xs ++ ports_taken ys
ports-joined [] ys = refl
ports-joined (Quiet ∷ xs) ys = ports-joined xs ys
ports-joined (Took port ∷ xs) ys = ap (λ ps. port ∷ ps) (ports-joined xs ys)
ports-joined (Sent port value ∷ xs) ys = ports-joined xs ys
ports-joined (Trapped ∷ xs) ys = ports-joined xs ys

words-joined : (xs ys : List Event) → words_sent (xs ++ ys) ≡ words_sent xs ++ words_sent ys
words-joined [] ys = refl
words-joined (Quiet ∷ xs) ys = words-joined xs ys
words-joined (Took port ∷ xs) ys = words-joined xs ys
words-joined (Sent port value ∷ xs) ys = ap (λ ws. (port, value) ∷ ws) (words-joined xs ys)
words-joined (Trapped ∷ xs) ys = words-joined xs ys

-- lists of one length that are the same from a place on
same-behind : (n : ℕ) (xs ys : List ℕ) → length xs ≡ length ys → ((o : ℕ) → n ≤ o → slice_index xs o ≡ slice_index ys o) → drop n xs ≡ drop n ys
same-behind zero [] [] long h = refl
same-behind zero [] (y ∷ ys) long h = absurd cc
same-behind zero (x ∷ xs) [] long h = absurd cc
same-behind zero (x ∷ xs) (y ∷ ys) long h =
    let first : x ≡ y = h 0 (omega arith) in let rest = same-behind zero xs ys (omega arith) (λ o low. h (suc o) (omega arith)) in cc
same-behind (suc n) [] [] long h = refl
same-behind (suc n) [] (y ∷ ys) long h = absurd cc
same-behind (suc n) (x ∷ xs) [] long h = absurd cc
same-behind (suc n) (x ∷ xs) (y ∷ ys) long h = same-behind n xs ys (omega arith) (λ o low. h (suc o) (omega arith))

-- ---- what was made from the head is the work of a round
module _ (program : Resolved) (placement : Placement) (flat : Flat) (same : placement.signatures ≡ signatures_of program) (readings : List ℕ) (m : HartState) (e : Moment)
    (made : MakesRound program placement flat (started readings m) e) where
  abbrev updates : Updates
  updates = flat_updates program (decoded placement m.ram) (inputs_taken program readings) flat (unbound program)

  abbrev outgoing : List Event
  outgoing = sends placement e.hart.ram 0 (output_cells placement.signatures)

  fires : decoded placement e.hart.ram ≡ fired (decoded placement m.ram) updates
  fires = made.fires ∙ ap (λ vs. fired (decoded placement m.ram) (flat_updates program (decoded placement m.ram) vs flat (unbound program))) (readings-are-inputs program placement same readings)

  long : length (unbound program) ≡ program.binders
  long = length-replicate program.binders (pos 0)

  count-is : length (input_cells placement) ≡ input_count program
  count-is = length-map (input_locations placement.signatures) (cell_of placement.signatures) ∙ ap (λ signatures. length (input_locations signatures)) same

  pub taken-is : ports_taken e.log ≡ range_with_len 0 (input_count program)
  taken-is =
      ap ports_taken made.log ∙ ports-joined (took 0 (length (input_cells placement))) outgoing
      ∙ ap (λ ps. ports_taken (took 0 (length (input_cells placement))) ++ ps) (outputs-are-sent program placement same e.hart.ram).1
      ∙ append-nil (ports_taken (took 0 (length (input_cells placement)))) ∙ (ports-are-read 0 (length (input_cells placement))).0 ∙ ap (range_with_len 0) count-is

  pub sent-is : words_sent e.log ≡ words_for program (decoded placement e.hart.ram)
  sent-is =
      ap words_sent made.log ∙ words-joined (took 0 (length (input_cells placement))) outgoing
      ∙ ap (λ ws. ws ++ words_sent outgoing) (ports-are-read 0 (length (input_cells placement))).1
      ∙ (outputs-are-sent program placement same e.hart.ram).0

  pub kept-is : (n : ℕ) → map_end placement program.binders ≤ n → drop n e.hart.ram ≡ drop n m.ram
  kept-is n inside =
      same-behind n e.hart.ram m.ram made.outside.count
      (λ o low. made.outside.bytes o (λ k. let high = (between-parts 0 (map_end placement program.binders) o k).1 in absurd (omega arith)))

  pub step-is : HasPermittedUpdates program flat → Step program (decoded placement m.ram) (inputs_taken program readings) (decoded placement e.hart.ram)
  step-is permitted = record { updates = updates; yielded = permitted (decoded placement m.ram) (inputs_taken program readings) (unbound program) long; made = fires }

  pub least-step_is : HasLeastUpdates program flat → StepLeast program (decoded placement m.ram) (inputs_taken program readings) (decoded placement e.hart.ram)
  least-step_is least = record {
    updates = updates;
    yielded = subst (YieldsLeast program (decoded placement m.ram) (inputs_taken program readings) program.rule (unbound program))
        (sym (least (decoded placement m.ram) (inputs_taken program readings) (unbound program) long))
        (least_is_yielded program (decoded placement m.ram) (inputs_taken program readings) program.rule (unbound program));
    made = fires;
  }

module _ (program : Resolved) (built : Compiled) (tables : ℕ) (flat : Flat) (size at count : ℕ) (writable : IsWritable program built.map flat) (set : IsSetting built.rom size program built.map tables)
    (closed : IsClosed built.rom size (body_plan program built.map tables flat) at count) (ends_before : map_end built.map program.binders ≤ built.needs.ram)
    (readings : List ℕ) (m : HartState) (valid : IsValid size m) (head : m.pc ≡ 0) where
  abbrev body : Plan
  body = body_plan program built.map tables flat

  -- from the head the body is done once, and makes a round
  pub body-goes : (gone : GoneRound built.rom readings m body) × MakesRound program built.map flat (started readings m) gone.ended
  body-goes =
      leads-round built.rom size at count body (MakesRound program built.map flat (started readings m)) readings m block closed valid head (body-holds program built.map tables flat writable.inputs size)
      (body-leads program built.map tables flat writable built.rom size set 0 (started readings m) entered)
    where
      block : IsBlock body
      block = body-block program built.map tables flat writable built.rom size set

      entered : IsEntered built.rom size 0 body (started readings m)
      entered = record { machine = closed.machine; block = block; holds = body-holds program built.map tables flat writable.inputs size; stands = closed.stands; valid = record { hart = valid }; here = head }

  module _ (gone : GoneRound built.rom readings m body) (made : MakesRound program built.map flat (started readings m) gone.ended) where
    abbrev last : HartState
    last = after built.rom gone.ticks readings m

    abbrev same : built.map.signatures ≡ signatures_of program
    same = set.mapped.signatures

    ram-is : gone.ended.hart.ram ≡ last.ram
    ram-is = sym (ap (λ (h : HartState). h.ram) gone.hart)

    -- it is a round of the program
    pub round-is : HasPermittedUpdates program flat → Round program built readings m gone.ticks last
    round-is permitted = record {
      starts = head;
      lasts = gone.some;
      arrives = refl;
      ends = ap (λ (h : HartState). h.pc) gone.hart;
      away = gone.away;
      untrapped = gone.untrapped;
      taken = gone.taken ∙ taken-is program built.map flat same readings m gone.ended made;
      step = subst (λ ram. Step program (decoded built.map m.ram) (inputs_taken program readings) (decoded built.map ram)) ram-is (step-is program built.map flat same readings m gone.ended made permitted);
      sent = gone.sent ∙ sent-is program built.map flat same readings m gone.ended made ∙ ap (λ ram. words_for program (decoded built.map ram)) ram-is;
      kept = ap (drop built.needs.ram) (sym ram-is) ∙ kept-is program built.map flat same readings m gone.ended made built.needs.ram ends_before;
    }

    -- and its step is that of the least choices
    pub least-is : HasLeastUpdates program flat → IsLeastRound program built readings m last
    least-is least = record {
      least = subst (λ ram. StepLeast program (decoded built.map m.ram) (inputs_taken program readings) (decoded built.map ram)) ram-is
          (least-step_is program built.map flat same readings m gone.ended made least);
    }
