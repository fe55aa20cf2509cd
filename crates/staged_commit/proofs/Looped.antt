-- Clearing and committing with a loop for each function.
use Rattle.std.proofs.Common.{◌≡◌, ◌≢◌, ℕ, ◌+◌, ◌*◌, ◌<◌, ◌≤◌, true, false, List, [], Some, sym, ap, ◌∙◌, subst, inl, inr, ⊎_elim, arith}
use Rattle.std.proofs.lemmas.Bool.{or_left, or_right}
use Rattle.std.proofs.lemmas.Bool.Decides.{nat_tests}
use Rattle.std.specs.Prelude.{slice_get}
use Rattle.trap_model.specs.declared.width.Width.TheVariants.{Word}
use Rattle.block_code.specs.Block.{IsBlock}
use Rattle.block_code.specs.Footprint.{LinesTouchOnly, only_in}
use Rattle.block_code.specs.Leads.{IsEntered, Leads}
use Rattle.block_code.specs.Moment.{Moment}
use Rattle.block_code.specs.Plan.{IsLine, Line, Plan}
use Rattle.block_code.proofs.Leads.{leads-more, leads-seq}
use Rattle.state_space.specs.Firing.{fired}
use Rattle.state_space.specs.Locations.{is_state}
use Rattle.state_space.specs.Sizes.{padded_count}
use Rattle.state_space.specs.declared.signature.Signature.{Signature}
use Rattle.state_space.specs.declared.update.Update.{Update}
use Rattle.state_layout.specs.declared.cell.Cell.{Cell}
use Rattle.state_layout.specs.Map.{IsCell, Placement, access_at, clash, counter, decoded, flag_access, flags_end, in_clash, in_flags, in_state, lies_between, staged_end, state_cells, state_end}
use Rattle.staged_commit.specs.Code.{clear_body, clear_looped, clear_mark, commit_body, commit_looped, over_arrays}
use Rattle.staged_commit.specs.Law.{IsCoded, need}
use Rattle.staged_commit.specs.Regions.{in_clear, in_commit}
use Rattle.staged_commit.specs.Spots.{Counter, Flag, IsSpot, Mark, Picture, Spot, Value, seen}
use Rattle.staged_commit.specs.Staged.{Staged}
use Rattle.staged_commit.proofs.Bodies.{walks-clear_body, walks-commit_body}
use Rattle.staged_commit.proofs.Change.{Became, became-start}
use Rattle.staged_commit.proofs.Clearing.{Cleared, Zeroed, walks-clear}
use Rattle.staged_commit.proofs.Committing.{Copied, Copies, IsCopied}
use Rattle.staged_commit.proofs.Fires.{commits-fire, marked-fire}
use Rattle.staged_commit.proofs.Lines.{load-line, load-stays, store-line, store-stays}
use Rattle.staged_commit.proofs.Loops.{LoopsDone, PassPost, SameButCounter, loops-block, loops-lead, loops-touch}
use Rattle.staged_commit.proofs.Pieces.{all-from, entered-behind, entered-first, mark-touches, nil-touches, unless-leads}
use Rattle.staged_commit.proofs.Spotted.{between}
use Rattle.staged_commit.proofs.Staging.{cleared-staged, is-cell}
use Rattle.staged_commit.proofs.Touched.{Walks, walked-leads, walked-touches}
use Rattle.staged_commit.proofs.Update.{array-maskable}
use Rattle.staged_commit.proofs.Walk.{walk-more}

-- an offset at or behind the end lies not between
past : (low high o : ℕ) → high ≤ o → lies_between low high o ≡ false
past low high o h = grind (arith, nat_tests)

module _ (placement : Placement) where
  -- ---- the bodies are lines

  pub clear-body-line : (fun count : ℕ) → IsLine (clear_body placement fun count)
  clear-body-line fun count =
      (tt, (tt, (tt, (tt, (tt, (tt, ((omega arith, omega arith), (tt, (tt, (tt, (tt, (tt, (store-stays (flag_access placement.layout) 5 0 1, tt)))))))))))))

  pub commit-body-line : (fun count : ℕ) → IsLine (commit_body placement fun count)
  commit-body-line fun count =
      let fa = flag_access placement.layout in let va = access_at placement fun in (
        tt,
        (
          tt,
          (
            tt,
            (
              tt,
              (
                tt,
                (
                  tt,
                  (
                    (omega arith, omega arith),
                    (
                      tt,
                      (
                        tt,
                        (
                          tt,
                          (
                            tt,
                            (
                              tt,
                              (
                                tt,
                                (
                                  load-stays fa 6 6 13,
                                  (
                                    (omega arith, omega arith),
                                    (tt, (tt, (tt, (tt, (tt, (load-stays va 6 6 6, (tt, (tt, (tt, (tt, (store-stays va 5 6 1, tt))))))))))),
                                  ),
                                ),
                              ),
                            ),
                          ),
                        ),
                      ),
                    ),
                  ),
                ),
              ),
            ),
          ),
        ),
      )

  -- ---- the counter word stands behind the arrays
  counter-in_clear : (o : ℕ) → counter placement ≤ o → o < counter placement + 4 → in_clear placement o ≡ true
  counter-in_clear o f b = or_right (in_flags placement o) _ (or_right (in_clash placement o) _ (between (counter placement) (counter placement + 4) o f b))

  counter-in_commit : (o : ℕ) → counter placement ≤ o → o < counter placement + 4 → in_commit placement o ≡ true
  counter-in_commit o f b = or_right (in_state placement o) _ (between (counter placement) (counter placement + 4) o f b)

  counter-past_flags : (o : ℕ) → counter placement ≤ o → o < counter placement + 4 → in_flags placement o ≡ false
  counter-past_flags o f b = past (staged_end placement) (flags_end placement) o (omega arith)

  counter-past_state : (o : ℕ) → counter placement ≤ o → o < counter placement + 4 → in_state placement o ≡ false
  counter-past_state o f b = past 0 (state_end placement) o (omega arith)

  -- ---- what the counter leaves
  became-on : (Allowed : Spot → ℕ → Type 0) (start before after : Picture) → ((c : Spot) → IsSpot placement c → c ≢ Counter → after c ≡ before c) → Became placement Allowed start before → Became placement Allowed start after
  became-on Allowed start before after same b = record {
    at = λ c is free. ⊎_elim (λ e. inl (same c is free ∙ e)) (λ a. inr (subst (Allowed c) (sym (same c is free)) a)) (b.at c is free);
  }

module _ (placement : Placement) (coded : IsCoded placement) where
  -- ---- clearing
  module _ (start : Picture) where
    abbrev ClearHolds : Picture → Type 0
    ClearHolds now = Became placement Zeroed start now × (now Mark ≡ 0)

    abbrev ClearDone : Cell → Picture → Type 0
    ClearDone cell now = now (Flag cell) ≡ 0

    clear-holds_on : (before after : Picture) → SameButCounter placement coded before after → ClearHolds before → ClearHolds after
    clear-holds_on before after same h = (became-on placement Zeroed start before after same h.0, same Mark tt (λ e. absurd (cc)) ∙ h.1)

    clear-done_on : (cell : Cell) → IsCell is_state placement.signatures cell → (before after : Picture) → SameButCounter placement coded before after → ClearDone cell before → ClearDone cell after
    clear-done_on cell is before after same d = same (Flag cell) is (λ e. absurd (cc)) ∙ d

    clear-passes : (fun : ℕ) (signature : Signature) → slice_get placement.signatures fun ≡ Some signature → is_state signature.kind ≡ true
        → Walks (need placement) (only_in (in_flags placement)) (clear_body placement fun (padded_count signature.args))
        (PassPost placement coded clear_body (in_flags placement) (in_clear placement) (λ o e. or_left (in_flags placement o) _ e) (counter-in_clear placement) (counter-past_flags placement) ClearHolds ClearDone clear-holds_on clear-done_on fun (padded_count signature.args))
    clear-passes fun signature here held rom size machine address s top word =
        walk-more rom _ (only_in (in_flags placement)) address (clear_body placement fun (padded_count signature.args)) s _ _
        (λ e post room.
        let p = post room in
        record {
          holds = λ h. (p.0.became start h.0, p.0.stays Mark tt h.1);
          stays = λ other is h d. p.0.stays (Flag other) is d;
          done = λ h. p.1;
        })
        (walks-clear_body placement coded.small fun signature here held (array-maskable placement coded fun signature here held) rom size machine address address s top word)

    abbrev ClearLoopsDone : Moment → Type 0
    ClearLoopsDone = LoopsDone placement coded clear_body (in_flags placement) (in_clear placement) (λ o e. or_left (in_flags placement o) _ e) (counter-in_clear placement) (counter-past_flags placement) ClearHolds ClearDone clear-holds_on clear-done_on
        (clear-body-line placement) clear-passes

    clear-loops_block : IsBlock (over_arrays placement clear_body 0 placement.signatures)
    clear-loops_block = loops-block placement coded clear_body (in_flags placement) (in_clear placement) (λ o e. or_left (in_flags placement o) _ e) (counter-in_clear placement) (counter-past_flags placement) ClearHolds ClearDone clear-holds_on clear-done_on
        (clear-body-line placement) clear-passes

    clear-loops_touch : LinesTouchOnly (only_in (in_clear placement)) (over_arrays placement clear_body 0 placement.signatures)
    clear-loops_touch = loops-touch placement coded clear_body (in_flags placement) (in_clear placement) (λ o e. or_left (in_flags placement o) _ e) (counter-in_clear placement) (counter-past_flags placement) ClearHolds ClearDone clear-holds_on clear-done_on
        (clear-body-line placement) clear-passes

    clear-loops_lead : (rom : List ℕ) (size : ℕ) → need placement ≤ size → (address : ℕ) (s : Moment) → IsEntered rom size address (over_arrays placement clear_body 0 placement.signatures) s
        → ClearHolds (seen placement s.hart.ram) → Leads rom size address (over_arrays placement clear_body 0 placement.signatures) ClearLoopsDone s
    clear-loops_lead = loops-lead placement coded clear_body (in_flags placement) (in_clear placement) (λ o e. or_left (in_flags placement o) _ e) (counter-in_clear placement) (counter-past_flags placement) ClearHolds ClearDone clear-holds_on clear-done_on
        (clear-body-line placement) clear-passes

  -- nothing is seen yet
  blank : Picture
  blank c = 0

  abbrev MarkedPost : ℕ → Moment → Moment → Type 0
  MarkedPost size s e = need placement ≤ size → Cleared placement [] (seen placement s.hart.ram) (seen placement e.hart.ram)

  marked-walks : Walks (need placement) (only_in (in_clear placement)) (clear_mark placement) MarkedPost
  marked-walks rom size machine address s top word = walks-clear placement coded.small [] tt rom size machine address s top

  pub clear-looped_block : IsBlock (clear_looped placement)
  clear-looped_block = (store-line Word 0 (clash placement), clear-loops_block blank)

  pub clear-looped_touches : LinesTouchOnly (only_in (in_clear placement)) (clear_looped placement)
  clear-looped_touches = (
    walked-touches (need placement) (only_in (in_clear placement)) MarkedPost (clear_mark placement) marked-walks (store-line Word 0 (clash placement)),
    clear-loops_touch blank,
  )

  -- from every hart nothing is staged afterwards
  pub clear-looped_leads : (rom : List ℕ) (size address : ℕ) (s : Moment) → IsEntered rom size address (clear_looped placement) s → need placement ≤ size
      → Leads rom size address (clear_looped placement) (λ s'. Staged placement s'.hart.ram []) s
  clear-looped_leads rom size address s e room =
      let mark : Plan = Line (clear_mark placement) in let loops : Plan = over_arrays placement clear_body 0 placement.signatures in
      let start = seen placement s.hart.ram in
      leads-seq rom size address mark loops s (MarkedPost size s) (λ s'. Staged placement s'.hart.ram [])
      (walked-leads (need placement) (only_in (in_clear placement)) MarkedPost (clear_mark placement) marked-walks rom size address s (entered-first rom size address mark loops s e) room)
      (λ m b.
      let marked = b.good room in
      leads-more rom size (address + 4 * 2) loops m (ClearLoopsDone start) (λ s'. Staged placement s'.hart.ram [])
      (clear-loops_lead start rom size room (address + 4 * 2) m (entered-behind rom size address mark loops s m (MarkedPost size s) e b) (marked.became, marked.mark))
      (λ z d done.
      cleared-staged placement start (seen placement z.hart.ram)
      (record {
        became = done.holds.0;
        mark = done.holds.1;
        flags = all-from (λ c. seen placement z.hart.ram (Flag c) ≡ 0) (state_cells placement) (λ k c at. done.done c (is-cell placement k c at));
      })))

  -- ---- committing
  module _ (start : Picture) where
    commit-done_on : (cell : Cell) → IsCell is_state placement.signatures cell → (before after : Picture) → SameButCounter placement coded before after → IsCopied start before cell → IsCopied start after cell
    commit-done_on cell is before after same d set = same (Value cell) is (λ e. absurd (cc)) ∙ d set

    abbrev CommitDone : Cell → Picture → Type 0
    CommitDone cell now = IsCopied start now cell

    commit-passes : (fun : ℕ) (signature : Signature) → slice_get placement.signatures fun ≡ Some signature → is_state signature.kind ≡ true
        → Walks (need placement) (only_in (in_state placement)) (commit_body placement fun (padded_count signature.args))
        (PassPost placement coded commit_body (in_state placement) (in_commit placement) (λ o e. or_left (in_state placement o) _ e) (counter-in_commit placement) (counter-past_state placement) (Copies placement start) CommitDone
        (became-on placement (Copied start) start) commit-done_on fun (padded_count signature.args))
    commit-passes fun signature here held rom size machine address s top word =
        walk-more rom _ (only_in (in_state placement)) address (commit_body placement fun (padded_count signature.args)) s _ _
        (λ e post room.
        let p = post room in
        record {
          holds = λ h. p.0.copies start h;
          stays = λ other is h d. p.0.stays start other is h d;
          done = λ h. p.1 start h;
        })
        (walks-commit_body placement coded.small fun signature here held (array-maskable placement coded fun signature here held) rom size machine address address s top word)

    abbrev CommitLoopsDone : Moment → Type 0
    CommitLoopsDone = LoopsDone placement coded commit_body (in_state placement) (in_commit placement) (λ o e. or_left (in_state placement o) _ e) (counter-in_commit placement) (counter-past_state placement) (Copies placement start) CommitDone
        (became-on placement (Copied start) start) commit-done_on (commit-body-line placement) commit-passes

    commit-loops_block : IsBlock (over_arrays placement commit_body 0 placement.signatures)
    commit-loops_block = loops-block placement coded commit_body (in_state placement) (in_commit placement) (λ o e. or_left (in_state placement o) _ e) (counter-in_commit placement) (counter-past_state placement) (Copies placement start) CommitDone
        (became-on placement (Copied start) start) commit-done_on (commit-body-line placement) commit-passes

    commit-loops_touch : LinesTouchOnly (only_in (in_commit placement)) (over_arrays placement commit_body 0 placement.signatures)
    commit-loops_touch = loops-touch placement coded commit_body (in_state placement) (in_commit placement) (λ o e. or_left (in_state placement o) _ e) (counter-in_commit placement) (counter-past_state placement) (Copies placement start) CommitDone
        (became-on placement (Copied start) start) commit-done_on (commit-body-line placement) commit-passes

    commit-loops_lead : (rom : List ℕ) (size : ℕ) → need placement ≤ size → (address : ℕ) (s : Moment) → IsEntered rom size address (over_arrays placement commit_body 0 placement.signatures) s
        → Copies placement start (seen placement s.hart.ram) → Leads rom size address (over_arrays placement commit_body 0 placement.signatures) CommitLoopsDone s
    commit-loops_lead = loops-lead placement coded commit_body (in_state placement) (in_commit placement) (λ o e. or_left (in_state placement o) _ e) (counter-in_commit placement) (counter-past_state placement) (Copies placement start) CommitDone
        (became-on placement (Copied start) start) commit-done_on (commit-body-line placement) commit-passes

  pub commit-looped_block : IsBlock (commit_looped placement)
  commit-looped_block = (load-line Word 5 (clash placement), (tt, commit-loops_block blank))

  pub commit-looped_touches : LinesTouchOnly (only_in (in_commit placement)) (commit_looped placement)
  commit-looped_touches = (mark-touches placement coded, (nil-touches placement coded (only_in (in_commit placement)), commit-loops_touch blank))

  -- what is staged is fired
  pub commit-looped_leads : (rom : List ℕ) (size address : ℕ) (s : Moment) (updates : List Update) → IsEntered rom size address (commit_looped placement) s → need placement ≤ size
      → Staged placement s.hart.ram updates
      → Leads rom size address (commit_looped placement) (λ s'. decoded placement s'.hart.ram ≡ fired (decoded placement s.hart.ram) updates) s
  commit-looped_leads rom size address s updates e room staged =
      let loops : Plan = over_arrays placement commit_body 0 placement.signatures in
      unless-leads placement coded loops rom size room address s (λ s'. decoded placement s'.hart.ram ≡ fired (decoded placement s.hart.ram) updates) e
      (λ s' dirty same. marked-fire placement s.hart.ram s'.hart.ram updates staged dirty (ap (decoded placement) same))
      (λ at m clean same entered.
      let start = seen placement m.hart.ram in
      leads-more rom size at loops m (CommitLoopsDone start) (λ s'. decoded placement s'.hart.ram ≡ fired (decoded placement s.hart.ram) updates)
      (commit-loops_lead start rom size room at m entered (became-start placement (Copied start) start))
      (λ s' d done.
      commits-fire placement m.hart.ram s'.hart.ram updates (subst (λ r. Staged placement r updates) (sym same) staged) (ap (λ r. seen placement r Mark) same ∙ clean)
      done.holds (all-from (IsCopied start (seen placement s'.hart.ram)) (state_cells placement) (λ k c here. done.done c (is-cell placement k c here)))
      ∙ ap (λ r. fired (decoded placement r) updates) same))
