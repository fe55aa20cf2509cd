-- What staging an update does, touches and is.
use Rattle.std.proofs.Common.{◌≡◌, ℕ, ◌+◌, ◌*◌, ◌^◌, ◌<◌, ◌≤◌, ℤ, pos, ◌+ℤ◌, ◌-ℤ◌, true, List, [], ◌∷◌, ◌++◌, Some, sym, ap, ◌∙◌, subst, arith}
use Rattle.std.proofs.lemmas.Bool.{and_parts, leb-true}
use Rattle.std.proofs.lemmas.Int.{ints}
use Rattle.std.specs.Int.{w32}
use Rattle.std.specs.Prelude.{FitsSigned, nat_le, slice_get, if◌then◌else◌}
use Rattle.rv_machine.specs.Word.{minus}
use Rattle.trap_model.specs.Width.{bytes_of}
use Rattle.block_code.specs.Block.{IsBlock, IsInRange}
use Rattle.block_code.specs.Effect.{reg_at}
use Rattle.block_code.specs.Footprint.{LinesTouchOnly, only_in}
use Rattle.block_code.specs.Leads.{IsEntered, Leads}
use Rattle.block_code.specs.Moment.{Moment}
use Rattle.block_code.specs.Plan.{If, Line, Loop, Plan, Scan, Seq, entry, full, len}
use Rattle.block_code.specs.Silent.{IsStorelessPlan}
use Rattle.block_code.proofs.Leads.{leads-more, leads-seq}
use Rattle.mask_guard.specs.Mask.{word_of}
use Rattle.mask_guard.specs.MaskLaw.{IsMaskable}
use Rattle.mask_guard.proofs.Numbers.{every-word-has-an-index, words-subtract}
use Rattle.state_space.specs.declared.array.Array.{Array}
use Rattle.state_space.specs.Arrays.{array_of, empty, laid}
use Rattle.state_space.specs.Firsts.{before}
use Rattle.state_space.specs.Locations.{is_input, is_state}
use Rattle.state_space.specs.Sizes.{most, padded_count, padded_sum}
use Rattle.state_space.specs.declared.signature.Signature.{Signature}
use Rattle.state_space.specs.declared.update.Update.{Update}
use Rattle.state_space.proofs.Widening.{few_from}
use Rattle.state_layout.specs.declared.cell.Cell.{Cell}
use Rattle.state_layout.specs.Map.{IsCell, Placement, access_at, args_of, range_at}
use Rattle.state_layout.proofs.Arrays.{padded-some}
use Rattle.state_layout.proofs.HeldState.{indices-fit}
use Rattle.staged_commit.specs.Code.{padded_at, stage_line, stage_update, stage_value}
use Rattle.staged_commit.specs.Law.{HasState, IsCoded, Stages, StagesOnly, StagesThrough, need}
use Rattle.staged_commit.specs.Regions.{in_stage}
use Rattle.staged_commit.specs.Spots.{seen}
use Rattle.staged_commit.specs.Staged.{IsUpdateOf, Staged}
use Rattle.staged_commit.proofs.Lines.{stage-line}
use Rattle.staged_commit.proofs.Pieces.{entered-behind, entered-first}
use Rattle.staged_commit.proofs.Ranged.{lo-fits, lo-word}
use Rattle.staged_commit.proofs.Stage.{StagesOne, walks-value}
use Rattle.staged_commit.proofs.Staging.{is-cell, more-staged}
use Rattle.staged_commit.proofs.Steps.{walk-mask}
use Rattle.staged_commit.proofs.Touched.{Sound, Walks, walked-leads, walked-touches}
use Rattle.staged_commit.proofs.Walk.{walk-more}

-- a block without loops takes no more ticks than it has words
loopless-ticks : (tree : Plan) → IsStorelessPlan tree → (full tree ≤ len tree) × (entry tree ≤ len tree)
loopless-ticks (Line instrs) p = (omega arith, omega arith)
loopless-ticks (Seq first second) p = let a = loopless-ticks first p.0 in let b = loopless-ticks second p.1 in (omega (arith, a.0, b.0), omega (arith, a.0, a.1, b.0, b.1))
loopless-ticks (If test then_part else_part) p =
    let a = loopless-ticks then_part p.0 in let b = loopless-ticks else_part p.1 in (omega (arith, a.0, b.0), omega (arith, a.1, b.1))
loopless-ticks (Loop count slot body) p = absurd p
loopless-ticks (Scan count slot guard test found none) p = absurd p

back : (lo : ℤ) (x : ℕ) → lo +ℤ pos x -ℤ lo ≡ pos x
back lo x = omega (arith, ints)

module _ (placement : Placement) (coded : IsCoded placement) where
  -- an array has at least one element, and at most 524,288
  pub array-maskable : (fun : ℕ) (signature : Signature) → slice_get placement.signatures fun ≡ Some signature → is_state signature.kind ≡ true → IsMaskable (padded_count signature.args)
  array-maskable fun signature here held = record { some = padded-some signature.args; few = few_from is_state placement.signatures fun signature states here held }
    where
      states : padded_sum is_state placement.signatures ≤ most
      states = leb-true (padded_sum is_state placement.signatures) most (and_parts (nat_le (padded_sum is_state placement.signatures) most) (nat_le (padded_sum is_input placement.signatures) most) coded.placed.room).0

  module _ (fun : ℕ) (signature : Signature) (here : slice_get placement.signatures fun ≡ Some signature) (held : is_state signature.kind ≡ true) where
    abbrev pub count : ℕ
    count = padded_count signature.args

    abbrev pub index_of_value : Moment → ℕ
    index_of_value s = minus (reg_at 6 s) (word_of (range_at placement fun).lo)

    -- with a padded index in register 5, the index of the value in register 6 is staged
    abbrev pub StagePost : ℕ → Moment → Moment → Type 0
    StagePost size s e =
        need placement ≤ size → reg_at 5 s < count → index_of_value s < 256 ^ bytes_of (access_at placement fun)
        → StagesOne placement (record { fun = fun; index = reg_at 5 s }) (index_of_value s) (seen placement s.hart.ram) (seen placement e.hart.ram)

    stage-walks : Walks (need placement) (only_in (in_stage placement fun count)) (stage_line placement fun count) StagePost
    stage-walks rom size machine address s top word =
        walk-mask rom size machine (Sound (need placement) size address) (only_in (in_stage placement fun count)) (stage_value placement fun) address 4 count s (StagePost size s) top word
        (record { from = omega arith; to = omega arith }) (array-maskable fun signature here held)
        (λ m at masked.
        let below : reg_at 5 m < count = subst (λ n. n < count) (sym masked.here) (every-word-has-an-index count (reg_at 5 s) (padded-some signature.args)).0 in
        walk-more rom (Sound (need placement) size address) (only_in (in_stage placement fun count)) (address + 24) (stage_value placement fun) m _ (StagePost size s)
        (λ e post room inside low.
        let i : reg_at 5 m ≡ reg_at 5 s = masked.here ∙ (every-word-has-an-index count (reg_at 5 s) (padded-some signature.args)).1 inside in
        let v : index_of_value m ≡ index_of_value s = ap (λ n. minus n (word_of (range_at placement fun).lo)) (masked.others 6 (omega arith) (omega arith)) in
        subst (λ r. StagesOne placement (record { fun = fun; index = reg_at 5 s }) (index_of_value s) (seen placement r) (seen placement e.hart.ram)) masked.ram
        (subst (λ n. StagesOne placement (record { fun = fun; index = n }) (index_of_value s) (seen placement m.hart.ram) (seen placement e.hart.ram)) i
        (subst (λ n. StagesOne placement (record { fun = fun; index = reg_at 5 m }) n (seen placement m.hart.ram) (seen placement e.hart.ram)) v
        (post room (subst (λ n. n < 256 ^ bytes_of (access_at placement fun)) (sym v) low)))))
        (walks-value placement coded.small fun count (lo-word placement coded fun) rom size machine address (address + 24) m at (omega arith)
        (record { signature = signature; here = here; held = held; below = below }) below))

    pub stage-block : (address value : Plan) → IsBlock address → IsBlock value → IsBlock (stage_update placement fun count address value)
    stage-block address value a v = (a, (v, stage-line placement fun count))

    -- it touches its function's staged values and flags and the mark alone, where its parts touch no more
    pub stage-touches : (address value : Plan) → LinesTouchOnly (only_in (in_stage placement fun count)) address → LinesTouchOnly (only_in (in_stage placement fun count)) value
        → LinesTouchOnly (only_in (in_stage placement fun count)) (stage_update placement fun count address value)
    stage-touches address value a v =
        (a, (v, walked-touches (need placement) (only_in (in_stage placement fun count)) StagePost (stage_line placement fun count) stage-walks (stage-line placement fun count)))

    -- whatever RAM holds, it goes through, if its parts do
    pub stage-through : (address value : Plan) → StagesThrough placement address value (stage_update placement fun count address value)
    stage-through address value rom size at s e room first second =
        leads-seq rom size at address (Seq value line) s _ _ first
        (λ m b.
        let f = entered-behind rom size at address (Seq value line) s m _ e b in
        leads-seq rom size (at + 4 * len address) value line m _ _ (second m (entered-first rom size (at + 4 * len address) value line m f))
        (λ n c.
        leads-more rom size (at + 4 * len address + 4 * len value) line n (StagePost size n) (λ z. Unit {0})
        (walked-leads (need placement) (only_in (in_stage placement fun count)) StagePost (stage_line placement fun count) stage-walks rom size (at + 4 * len address + 4 * len value) n
        (entered-behind rom size (at + 4 * len address) value line m n _ f c) room)
        (λ z d post. tt)))
      where
        line : Plan
        line = Line (stage_line placement fun count)

    -- an update of a location of the function, whose padded index the one part leaves in register 5 and whose value the other leaves in register 6
    pub stage-leads : (address value : Plan) (rom : List ℕ) (size at : ℕ) (s : Moment) (updates : List Update) (u : Update) (index x : ℕ)
        → IsEntered rom size at (stage_update placement fun count address value) s → need placement ≤ size
        → Staged placement s.hart.ram updates → IsUpdateOf placement (record { fun = fun; index = index }) x u → FitsSigned w32 u.value
        → Leads rom size at address (λ m. (m.hart.ram ≡ s.hart.ram) × (reg_at 5 m ≡ index)) s
        → ((m : Moment) → IsEntered rom size (at + 4 * len address) value m → m.hart.ram ≡ s.hart.ram → reg_at 5 m ≡ index
        → Leads rom size (at + 4 * len address) value (λ n. (n.hart.ram ≡ s.hart.ram) × (reg_at 5 n ≡ index) × (reg_at 6 n ≡ word_of u.value)) m)
        → Leads rom size at (stage_update placement fun count address value) (λ e. Staged placement e.hart.ram (updates ++ u ∷ [])) s
    stage-leads address value rom size at s updates u index x e room staged is fits first second =
        leads-seq rom size at address (Seq value line) s _ Good first
        (λ m b.
        let f = entered-behind rom size at address (Seq value line) s m _ e b in
        leads-seq rom size (at + 4 * len address) value line m _ Good
        (second m (entered-first rom size (at + 4 * len address) value line m f) b.good.0 b.good.1)
        (λ n c.
        leads-more rom size (at + 4 * len address + 4 * len value) line n (StagePost size n) Good
        (walked-leads (need placement) (only_in (in_stage placement fun count)) StagePost (stage_line placement fun count) stage-walks rom size (at + 4 * len address + 4 * len value) n
        (entered-behind rom size (at + 4 * len address) value line m n _ f c) room)
        (λ z d post.
        let i : reg_at 5 n ≡ index = c.good.1 in
        let v : index_of_value n ≡ x = ap (λ r. minus r (word_of (range_at placement fun).lo)) c.good.2 ∙ counted in
        let one = post room (subst (λ k. k < count) (sym i) inside) (subst (λ k. k < 256 ^ bytes_of (access_at placement fun)) (sym v) low) in
        more-staged placement (seen placement s.hart.ram) (seen placement z.hart.ram) updates u cell x is staged
        (subst (λ r. StagesOne placement cell x (seen placement r) (seen placement z.hart.ram)) c.good.0
        (subst (λ k. StagesOne placement (record { fun = fun; index = k }) x (seen placement n.hart.ram) (seen placement z.hart.ram)) i
        (subst (λ k. StagesOne placement (record { fun = fun; index = reg_at 5 n }) k (seen placement n.hart.ram) (seen placement z.hart.ram)) v one))))))
      where
        cell : Cell
        cell = record { fun = fun; index = index }

        line : Plan
        line = Line (stage_line placement fun count)

        Good : Moment → Type 0
        Good z = Staged placement z.hart.ram (updates ++ u ∷ [])

        same-signature : (other : Signature) → slice_get placement.signatures fun ≡ Some other → other ≡ signature
        same-signature other there = let e : Some other ≡ Some signature = sym there ∙ here in cc

        cell_is : IsCell is_state placement.signatures cell
        cell_is = is-cell placement u.place cell is.here

        inside : index < count
        inside = let same : cell_is.signature ≡ signature = same-signature cell_is.signature cell_is.here in subst (λ z. index < padded_count z.args) same cell_is.below

        -- the difference from the least value is the index
        counted : minus (word_of u.value) (word_of (range_at placement fun).lo) ≡ x
        counted =
            words-subtract u.value (range_at placement fun).lo fits (lo-fits placement coded fun)
            ∙ ap word_of (ap (λ z. z -ℤ (range_at placement fun).lo) is.value.counts ∙ back (range_at placement fun).lo x)

        low : x < 256 ^ bytes_of (access_at placement fun)
        low = let f = (indices-fit placement cell coded.placed.sized cell_is).1 in let b = is.value.below in omega arith

  -- ---- the block, for a function that has its values in the state
  module _ (fun : ℕ) (state : HasState placement.signatures fun) where
    padded-is : padded_count state.signature.args ≡ padded_at placement fun
    padded-is = sym (ap (λ o. padded_count (args_of o)) state.here)

    pub padded-maskable : IsMaskable (padded_at placement fun)
    padded-maskable = subst IsMaskable padded-is (array-maskable fun state.signature state.here state.held)

    pub array-padded : (a : Array) → a ≡ array_of placement.signatures fun state.signature → a.padded ≡ padded_at placement fun
    array-padded a is =
        ap (λ (x : Array). x.padded) is
        ∙ ap (λ b. (if b then laid state.signature (before is_state placement.signatures fun) else (if is_input state.signature.kind then laid state.signature (before is_input placement.signatures fun) else empty state.signature)).padded) state.held
        ∙ padded-is

    pub update-stages : (address value : Plan) → Stages placement fun address value (stage_update placement fun (padded_at placement fun) address value)
    update-stages address value =
        subst (λ n. Stages placement fun address value (stage_update placement fun n address value)) padded-is (stage-leads fun state.signature state.here state.held address value)

    pub update-touches : (address value : Plan) → StagesOnly placement fun address value (stage_update placement fun (padded_at placement fun) address value)
    update-touches address value =
        subst
        (λ n. LinesTouchOnly (only_in (in_stage placement fun n)) address → LinesTouchOnly (only_in (in_stage placement fun n)) value → LinesTouchOnly (only_in (in_stage placement fun n)) (stage_update placement fun n address value))
        padded-is (stage-touches fun state.signature state.here state.held address value)

    pub update-through : (address value : Plan) → StagesThrough placement address value (stage_update placement fun (padded_at placement fun) address value)
    update-through address value =
        subst (λ n. StagesThrough placement address value (stage_update placement fun n address value)) padded-is (stage-through fun state.signature state.here state.held address value)

    pub update-in_range : (address value : Plan) → IsInRange address → IsInRange value → IsStorelessPlan address → IsStorelessPlan value → len address + len value + 40 ≤ 262144
        → IsInRange (stage_update placement fun (padded_at placement fun) address value)
    update-in_range address value a v p q words =
        let first = loopless-ticks address p in let second = loopless-ticks value q in
        record {
          block = (a.block, (v.block, stage-line placement fun (padded_at placement fun)));
          short = omega arith;
          full = omega arith;
          entry = omega arith;
        }
