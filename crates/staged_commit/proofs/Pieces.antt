-- What the pieces without loops do, touch and are.
use Rattle.std.proofs.Common.{◌≡◌, ◌≢◌, ℕ, suc, ◌+◌, ◌*◌, ◌≤◌, List, [], ◌∷◌, ◌++◌, Some, refl, sym, ap, ◌∙◌, subst, arith}
use Rattle.std.specs.List.{AllByRecursion}
use Rattle.std.specs.Prelude.{slice_get}
use Rattle.trap_model.specs.declared.width.Width.TheVariants.{Word}
use Rattle.block_code.specs.Block.{IsBlock}
use Rattle.block_code.specs.Effect.{moved}
use Rattle.block_code.specs.Footprint.{Footprint, LinesTouchOnly, TouchesOnly, only_in}
use Rattle.block_code.specs.Leads.{IsBehind, IsEntered, Leads}
use Rattle.block_code.specs.Moment.{Moment}
use Rattle.block_code.specs.Plan.{If, IsLine, Line, Plan, Seq, len}
use Rattle.block_code.specs.Sequence.{load_fixed}
use Rattle.block_code.proofs.Behind.{block-place}
use Rattle.block_code.proofs.Entered.{enter-else, enter-then}
use Rattle.block_code.proofs.Leads.{leads-if, leads-more, leads-nil, leads-seq}
use Rattle.block_code.proofs.Parts.{lines-append}
use Rattle.block_code.proofs.Place.{stands-block}
use Rattle.state_space.specs.Firing.{fired}
use Rattle.state_space.specs.Locations.{is_state}
use Rattle.state_space.specs.declared.update.Update.{Update}
use Rattle.state_layout.specs.declared.cell.Cell.{Cell}
use Rattle.state_layout.specs.Map.{IsCell, Placement, clash, decoded, state_cells}
use Rattle.staged_commit.specs.Code.{clear_cells, clear_mark, clear_unrolled, commit_cells, commit_unrolled, unless_marked}
use Rattle.staged_commit.specs.Law.{GoesThrough, IsCoded, need}
use Rattle.staged_commit.specs.Regions.{in_clear, in_commit}
use Rattle.staged_commit.specs.Spots.{Mark, seen}
use Rattle.staged_commit.specs.Staged.{Staged}
use Rattle.staged_commit.proofs.Change.{became-start}
use Rattle.staged_commit.proofs.Clearing.{Cleared, walks-clear}
use Rattle.staged_commit.proofs.Committing.{CommitsCells, Copied, commits-cells}
use Rattle.staged_commit.proofs.Fires.{commits-fire, marked-fire}
use Rattle.staged_commit.proofs.Lines.{clear-line, commit-line, load-line, store-line}
use Rattle.staged_commit.proofs.Spotted.{spot-below}
use Rattle.staged_commit.proofs.Spread.{is-offset}
use Rattle.staged_commit.proofs.Staging.{cleared-staged, is-cell}
use Rattle.staged_commit.proofs.Steps.{Sets, walk-fixed_load}
use Rattle.staged_commit.proofs.Touched.{Walks, walked-leads, walked-touches}
use Rattle.staged_commit.proofs.Walk.{walk-end}

pub all-from : {A : Type 0} (P : A → Type 0) (xs : List A) → ((k : ℕ) (x : A) → slice_get xs k ≡ Some x → P x) → AllByRecursion P xs
all-from P [] h = tt
all-from P (x ∷ xs) h = (h 0 x refl, all-from P xs (λ k y e. h (suc k) y e))

-- the second part of a sequence that is entered, where the first has come out
pub entered-behind : (rom : List ℕ) (size address : ℕ) (first second : Plan) (s mid : Moment) (Good : Moment → Type 0) → IsEntered rom size address (Seq first second) s
    → IsBehind size address first Good mid → IsEntered rom size (address + 4 * len first) second mid
entered-behind rom size address first second s mid Good e b = record {
  machine = e.machine;
  block = e.block.1;
  holds = e.holds.1;
  stands = (stands-block rom address first _ e.stands).1;
  valid = b.valid;
  here = b.here;
}

pub entered-first : (rom : List ℕ) (size address : ℕ) (first second : Plan) (s : Moment) → IsEntered rom size address (Seq first second) s → IsEntered rom size address first s
entered-first rom size address first second s e = record {
  machine = e.machine;
  block = e.block.0;
  holds = e.holds.0;
  stands = (stands-block rom address first _ e.stands).0;
  valid = e.valid;
  here = e.here;
}

module _ (placement : Placement) (coded : IsCoded placement) where
  abbrev pub cells : List Cell
  cells = state_cells placement

  pub all-cells : AllByRecursion (IsCell is_state placement.signatures) cells
  all-cells = all-from (IsCell is_state placement.signatures) cells (is-cell placement)

  -- ---- clearing
  abbrev ClearPost : ℕ → Moment → Moment → Type 0
  ClearPost size s s' = need placement ≤ size → Cleared placement cells (seen placement s.hart.ram) (seen placement s'.hart.ram)

  clear-walks : Walks (need placement) (only_in (in_clear placement)) (clear_mark placement ++ clear_cells placement cells) ClearPost
  clear-walks rom size machine address s top word = walks-clear placement coded.small cells all-cells rom size machine address s top

  clear-is-line : IsLine (clear_mark placement ++ clear_cells placement cells)
  clear-is-line = lines-append (clear_mark placement) (clear_cells placement cells) (store-line Word 0 (clash placement)) (clear-line placement cells)

  pub clear-block : IsBlock (clear_unrolled placement)
  clear-block = clear-is-line

  pub clear-touches : LinesTouchOnly (only_in (in_clear placement)) (clear_unrolled placement)
  clear-touches = walked-touches (need placement) (only_in (in_clear placement)) ClearPost (clear_mark placement ++ clear_cells placement cells) clear-walks clear-is-line

  -- from every hart nothing is staged afterwards
  pub clear-leads : (rom : List ℕ) (size address : ℕ) (s : Moment) → IsEntered rom size address (clear_unrolled placement) s → need placement ≤ size
      → Leads rom size address (clear_unrolled placement) (λ s'. Staged placement s'.hart.ram []) s
  clear-leads rom size address s e room =
      leads-more rom size address (clear_unrolled placement) s (ClearPost size s) (λ s'. Staged placement s'.hart.ram [])
      (walked-leads (need placement) (only_in (in_clear placement)) ClearPost (clear_mark placement ++ clear_cells placement cells) clear-walks rom size address s e room)
      (λ s' d post. cleared-staged placement (seen placement s.hart.ram) (seen placement s'.hart.ram) (post room))

  -- ---- committing
  abbrev CopyPost : ℕ → Moment → Moment → Type 0
  CopyPost size s s' = need placement ≤ size → CommitsCells placement cells (seen placement s.hart.ram) (seen placement s'.hart.ram)

  copy-walks : (cells : List Cell) → AllByRecursion (IsCell is_state placement.signatures) cells
      → Walks (need placement) (only_in (in_commit placement)) (commit_cells placement cells) (λ size s s'. need placement ≤ size → CommitsCells placement cells (seen placement s.hart.ram) (seen placement s'.hart.ram))
  copy-walks [] all rom size machine address s top word = commits-cells placement coded.small rom size machine address [] all address s top (λ r. r.aligned)
  copy-walks (cell ∷ others) all rom size machine address s top word = commits-cells placement coded.small rom size machine address (cell ∷ others) all address s top (λ r. r.aligned)

  -- the mark in register 5
  abbrev MarkPost : ℕ → Moment → Moment → Type 0
  MarkPost size s s' = Sets 5 (seen placement s.hart.ram Mark) s s'

  mark-walks : Walks (need placement) (only_in (in_commit placement)) (load_fixed Word 5 (clash placement)) MarkPost
  mark-walks rom size machine address s top word =
      walk-fixed_load rom size machine _ (only_in (in_commit placement)) Word [] address 4 (clash placement) s (MarkPost size s) top (omega arith)
      (is-offset placement coded.small Mark tt) (λ r. spot-below placement Mark tt size r.room)
      (λ m at loaded. walk-end rom _ (only_in (in_commit placement)) (address + 4 + 4) m (MarkPost size s) loaded)

  -- any code that copies what is staged commits it, unless the mark is set
  module _ (copy : Plan) (rom : List ℕ) (size : ℕ) (room : need placement ≤ size) where
    pub unless-leads : (address : ℕ) (s : Moment) (Good : Moment → Type 0) → IsEntered rom size address (unless_marked placement copy) s
        → ((s' : Moment) → seen placement s.hart.ram Mark ≢ 0 → s'.hart.ram ≡ s.hart.ram → Good s')
        → ((at : ℕ) (m : Moment) → seen placement s.hart.ram Mark ≡ 0 → m.hart.ram ≡ s.hart.ram → IsEntered rom size at copy m → Leads rom size at copy Good m)
        → Leads rom size address (unless_marked placement copy) Good s
    unless-leads address s Good e marked clean =
        let load : Plan = Line (load_fixed Word 5 (clash placement)) in
        leads-seq rom size address load (If 5 (Line []) copy) s (MarkPost size s) Good
        (walked-leads (need placement) (only_in (in_commit placement)) MarkPost (load_fixed Word 5 (clash placement)) mark-walks rom size address s
        (entered-first rom size address load (If 5 (Line []) copy) s e) room)
        (λ mid b.
        let f : IsEntered rom size (address + 4 * 2) (If 5 (Line []) copy) mid = entered-behind rom size address load (If 5 (Line []) copy) s mid (MarkPost size s) e b in
        let on = enter-then f in let off = enter-else f in
        leads-if rom size (address + 4 * 2) 5 (Line []) copy mid Good (let h = (block-place rom size f.machine (If 5 (Line []) copy) (address + 4 * 2) f.stands (omega arith)).1 in omega arith)
        (λ set.
        leads-nil rom size (address + 4 * 2 + 8) (moved (address + 4 * 2 + 8) mid) _ on.valid refl
        (marked (moved (address + 4 * 2 + 12 + 4 * 0 + 4 * len copy) (moved (address + 4 * 2 + 8) mid)) (λ z. set (b.good.here ∙ z)) b.good.ram))
        (λ unset. clean (address + 4 * 2 + 12 + 4 * 0) (moved (address + 4 * 2 + 12 + 4 * 0) mid) (sym b.good.here ∙ unset) b.good.ram off))

  -- committing without a loop
  pub commit-block : IsBlock (commit_unrolled placement)
  commit-block = (load-line Word 5 (clash placement), (tt, commit-line placement cells))

  pub mark-touches : TouchesOnly (only_in (in_commit placement)) (Line (load_fixed Word 5 (clash placement)))
  mark-touches = walked-touches (need placement) (only_in (in_commit placement)) MarkPost (load_fixed Word 5 (clash placement)) mark-walks (load-line Word 5 (clash placement))

  pub nil-touches : (f : Footprint) → TouchesOnly f (Line [])
  nil-touches f = walked-touches 0 f (λ size s s'. Unit {0}) [] (λ rom size machine address s top word. walk-end rom _ f address s _ tt) tt

  pub commit-touches : LinesTouchOnly (only_in (in_commit placement)) (commit_unrolled placement)
  commit-touches = (
    mark-touches,
    (
      nil-touches (only_in (in_commit placement)),
      walked-touches (need placement) (only_in (in_commit placement)) CopyPost (commit_cells placement cells) (copy-walks cells all-cells) (commit-line placement cells),
    ),
  )

  -- whatever RAM holds, it goes through
  pub commit-through : GoesThrough placement (commit_unrolled placement)
  commit-through rom size address s e room =
      unless-leads (Line (commit_cells placement cells)) rom size room address s (λ s'. Unit {0}) e
      (λ s' dirty same. tt)
      (λ at m clean same entered.
      leads-more rom size at (Line (commit_cells placement cells)) m (CopyPost size m) (λ s'. Unit {0})
      (walked-leads (need placement) (only_in (in_commit placement)) CopyPost (commit_cells placement cells) (copy-walks cells all-cells) rom size at m entered room)
      (λ s' d post. tt))

  -- what is staged is fired
  pub commit-leads : (rom : List ℕ) (size address : ℕ) (s : Moment) (updates : List Update) → IsEntered rom size address (commit_unrolled placement) s → need placement ≤ size
      → Staged placement s.hart.ram updates
      → Leads rom size address (commit_unrolled placement) (λ s'. decoded placement s'.hart.ram ≡ fired (decoded placement s.hart.ram) updates) s
  commit-leads rom size address s updates e room staged =
      unless-leads (Line (commit_cells placement cells)) rom size room address s (λ s'. decoded placement s'.hart.ram ≡ fired (decoded placement s.hart.ram) updates) e
      (λ s' dirty same. marked-fire placement s.hart.ram s'.hart.ram updates staged dirty (ap (decoded placement) same))
      (λ at m clean same entered.
      leads-more rom size at (Line (commit_cells placement cells)) m (CopyPost size m) (λ s'. decoded placement s'.hart.ram ≡ fired (decoded placement s.hart.ram) updates)
      (walked-leads (need placement) (only_in (in_commit placement)) CopyPost (commit_cells placement cells) (copy-walks cells all-cells) rom size at m entered room)
      (λ s' d post.
      let done = post room in let start = seen placement m.hart.ram in let begun = became-start placement (Copied start) start in
      commits-fire placement m.hart.ram s'.hart.ram updates (subst (λ r. Staged placement r updates) (sym same) staged) (ap (λ r. seen placement r Mark) same ∙ clean)
      (done.commits.copies start begun) (done.copied start begun)
      ∙ ap (λ r. fired (decoded placement r) updates) same))
