-- Clearing without a loop.
use Rattle.std.proofs.Common.{◌≡◌, ℕ, ◌+◌, ◌^◌, ◌<◌, ◌≤◌, List, [], ◌∷◌, ◌++◌, refl, sym, ◌∙◌, subst, arith}
use Rattle.std.specs.List.{AllByRecursion}
use Rattle.trap_model.specs.Width.{bytes_of}
use Rattle.rv_isa.specs.declared.instr.Instr.{Instr}
use Rattle.trap_model.specs.declared.width.Width.{Width}
use Rattle.trap_model.specs.declared.width.Width.TheVariants.{Byte, Half, Word}
use Rattle.block_code.specs.Effect.{reg_at}
use Rattle.block_code.specs.Sequence.{store_fixed}
use Rattle.block_code.specs.Moment.{Moment}
use Rattle.block_code.specs.Place.{IsAtTop, IsMachine}
use Rattle.state_space.specs.Locations.{is_state}
use Rattle.state_layout.specs.declared.cell.Cell.{Cell}
use Rattle.state_layout.specs.Map.{IsCell, Placement, clash, flag_access, flag_offset}
use Rattle.staged_commit.specs.Code.{clear_cells, clear_mark}
use Rattle.staged_commit.specs.Law.{need}
use Rattle.staged_commit.specs.Regions.{in_clear}
use Rattle.staged_commit.specs.Spots.{Counter, Flag, IsSpot, Kept, Mark, OnlyChanges, Picture, Spot, Waiting, Value, seen}
use Rattle.staged_commit.proofs.Change.{Became, became-start, became-step, stays-so}
use Rattle.staged_commit.proofs.Spotted.{flag-in_clear, mark-in_clear, puts-here, puts-others, spot-below}
use Rattle.staged_commit.proofs.Spread.{is-offset}
use Rattle.staged_commit.proofs.Steps.{walk-fixed_store}
use Rattle.block_code.specs.Footprint.{only_in}
use Rattle.staged_commit.proofs.Touched.{Sound}
use Rattle.staged_commit.proofs.Walk.{Walk, walk-end, walk-more}

-- flags and the mark may become 0
abbrev pub Zeroed : Spot → ℕ → Type 0
Zeroed (Value cell) x = ⊥
Zeroed (Waiting cell) x = ⊥
Zeroed (Flag cell) x = x ≡ 0
Zeroed (Kept cell) x = ⊥
Zeroed Mark x = x ≡ 0
Zeroed Counter x = ⊥

module _ (placement : Placement) where
  -- from one picture to another flags and the mark alone have changed, to 0
  pub record Clears (before after : Picture) : Type 0 where
    pub became : (start : Picture) → Became placement Zeroed start before → Became placement Zeroed start after
    pub stays : (c : Spot) → IsSpot placement c → before c ≡ 0 → after c ≡ 0

  pub clears-none : (now : Picture) → Clears now now
  clears-none now = record { became = λ start b. b; stays = λ c is z. z }

  pub clears-then : (a b c : Picture) → Clears a b → Clears b c → Clears a c
  clears-then a b c p q = record { became = λ start h. q.became start (p.became start h); stays = λ d is z. q.stays d is (p.stays d is z) }

  pub clears-one : (before after : Picture) (d : Spot) → OnlyChanges placement d before after → after d ≡ 0 → Zeroed d 0 → Clears before after
  clears-one before after d changes zero may = record {
    became = λ start b. became-step placement Zeroed start before after d b changes (λ n. subst (Zeroed d) (sym zero) may);
    stays = λ c is z. stays-so placement (λ c x. x ≡ 0) before after c d is changes (λ e. zero) z;
  }

  -- and the flags of these cells are 0
  pub record ClearsCells (cells : List Cell) (before after : Picture) : Type 0 where
    pub clears : Clears before after
    pub zero : AllByRecursion (λ c. after (Flag c) ≡ 0) cells

  module _ (small : need placement ≤ 2 ^ 20) (rom : List ℕ) (size : ℕ) (machine : IsMachine rom size) (begin : ℕ) where
    abbrev Room : Type 0
    Room = Sound (need placement) size begin

    abbrev Pictured : (Picture → Picture → Type 0) → Moment → Moment → Type 0
    Pictured P s s' = need placement ≤ size → P (seen placement s.hart.ram) (seen placement s'.hart.ram)

    -- one flag
    clears-flag : (cell : Cell) → IsCell is_state placement.signatures cell → (rest : List Instr) (address : ℕ) (s : Moment) (Post : Moment → Type 0)
        → IsAtTop size address (store_fixed (flag_access placement.layout) 0 (flag_offset placement cell) ++ rest) s
        → ((m : Moment) → IsAtTop size (address + 4 + 4) rest m → Pictured (ClearsCells (cell ∷ [])) s m → Walk rom Room (only_in (in_clear placement)) (address + 4 + 4) rest m Post)
        → Walk rom Room (only_in (in_clear placement)) address (store_fixed (flag_access placement.layout) 0 (flag_offset placement cell) ++ rest) s Post
    clears-flag cell is rest address s Post top on =
        walk-fixed_store rom size machine Room (only_in (in_clear placement)) (flag_access placement.layout) rest address 0 (flag_offset placement cell) s Post top
        (omega arith) (is-offset placement small (Flag cell) is) (λ r. spot-below placement (Flag cell) is size r.room)
        (flag-in_clear placement cell is)
        (λ m at puts.
        on m at
        (λ room.
        let x0 = top.valid.hart.regs.zero_reg in
        let zero : seen placement m.hart.ram (Flag cell) ≡ 0 = puts-here placement size room s m top.valid (Flag cell) is (reg_at 0 s) puts (some (flag_access placement.layout)) ∙ x0 in
        record {
          clears = clears-one (seen placement s.hart.ram) (seen placement m.hart.ram) (Flag cell) (puts-others placement size room s m top.valid (Flag cell) is (reg_at 0 s) puts) zero refl;
          zero = (zero, tt);
        }))
      where
        some : (width : Width) → reg_at 0 s < 256 ^ bytes_of width
        some Byte = let x0 = top.valid.hart.regs.zero_reg in omega arith
        some Half = let x0 = top.valid.hart.regs.zero_reg in omega arith
        some Word = let x0 = top.valid.hart.regs.zero_reg in omega arith

    -- the flags of these cells
    pub clears-cells : (cells : List Cell) → AllByRecursion (IsCell is_state placement.signatures) cells → (address : ℕ) (s : Moment) → IsAtTop size address (clear_cells placement cells) s
        → Walk rom Room (only_in (in_clear placement)) address (clear_cells placement cells) s (Pictured (ClearsCells cells) s)
    clears-cells [] all address s top =
        walk-end rom Room (only_in (in_clear placement)) address s (Pictured (ClearsCells []) s) (λ room. record { clears = clears-none (seen placement s.hart.ram); zero = tt })
    clears-cells (cell ∷ cells) all address s top =
        clears-flag cell all.0 (clear_cells placement cells) address s (Pictured (ClearsCells (cell ∷ cells)) s) top
        (λ m at one.
        walk-more rom Room (only_in (in_clear placement)) (address + 4 + 4) (clear_cells placement cells) m (Pictured (ClearsCells cells) m) (Pictured (ClearsCells (cell ∷ cells)) s)
        (λ e others room.
        let first = one room in let rest = others room in
        record {
          clears = clears-then (seen placement s.hart.ram) (seen placement m.hart.ram) (seen placement e.hart.ram) first.clears rest.clears;
          zero = (rest.clears.stays (Flag cell) all.0 first.zero.0, rest.zero);
        })
        (clears-cells cells all.1 (address + 4 + 4) m at))

    -- the mark, and then the rest of the line
    pub clears-mark : (rest : List Instr) (address : ℕ) (s : Moment) (Post : Moment → Type 0) → IsAtTop size address (clear_mark placement ++ rest) s
        → ((m : Moment) → IsAtTop size (address + 4 + 4) rest m → Pictured (λ before after. Clears before after × (after Mark ≡ 0)) s m
        → Walk rom Room (only_in (in_clear placement)) (address + 4 + 4) rest m Post)
        → Walk rom Room (only_in (in_clear placement)) address (clear_mark placement ++ rest) s Post
    clears-mark rest address s Post top on =
        walk-fixed_store rom size machine Room (only_in (in_clear placement)) Word rest address 0 (clash placement) s Post top
        (omega arith) (is-offset placement small Mark tt) (λ r. spot-below placement Mark tt size r.room)
        (mark-in_clear placement)
        (λ m at puts.
        on m at
        (λ room.
        let x0 = top.valid.hart.regs.zero_reg in
        let zero : seen placement m.hart.ram Mark ≡ 0 = puts-here placement size room s m top.valid Mark tt (reg_at 0 s) puts (omega arith) ∙ x0 in
        (clears-one (seen placement s.hart.ram) (seen placement m.hart.ram) Mark (puts-others placement size room s m top.valid Mark tt (reg_at 0 s) puts) zero refl, zero)))

  -- what clearing leaves: the mark and the flags of these cells are 0, and beside them nothing has changed but the counter
  pub record Cleared (cells : List Cell) (before after : Picture) : Type 0 where
    pub became : Became placement Zeroed before after
    pub mark : after Mark ≡ 0
    pub flags : AllByRecursion (λ c. after (Flag c) ≡ 0) cells

  pub walks-clear : need placement ≤ 2 ^ 20 → (cells : List Cell) → AllByRecursion (IsCell is_state placement.signatures) cells
      → (rom : List ℕ) (size : ℕ) → IsMachine rom size → (address : ℕ) (s : Moment) → IsAtTop size address (clear_mark placement ++ clear_cells placement cells) s
      → Walk rom (Sound (need placement) size address) (only_in (in_clear placement)) address (clear_mark placement ++ clear_cells placement cells) s
      (λ s'. need placement ≤ size → Cleared cells (seen placement s.hart.ram) (seen placement s'.hart.ram))
  walks-clear small cells all rom size machine address s top =
      clears-mark small rom size machine address (clear_cells placement cells) address s _ top
      (λ m at marked.
      walk-more rom (Sound (need placement) size address) (only_in (in_clear placement)) (address + 4 + 4) (clear_cells placement cells) m _ _
      (λ e others room.
      let first = marked room in let rest = others room in
      record {
        became = rest.clears.became (seen placement s.hart.ram) (first.0.became (seen placement s.hart.ram) (became-start placement Zeroed (seen placement s.hart.ram)));
        mark = rest.clears.stays Mark tt first.1;
        flags = rest.zero;
      })
      (clears-cells small rom size machine address cells all (address + 4 + 4) m at))
