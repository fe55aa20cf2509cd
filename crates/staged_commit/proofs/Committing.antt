-- Committing without a loop.
use Rattle.std.proofs.Common.{◌≡◌, ◌≢◌, ℕ, ◌+◌, ◌*◌, ◌%◌, ◌^◌, ◌<◌, ◌≤◌, pos, List, [], ◌∷◌, ◌++◌, refl, sym, ap, ◌∙◌, subst, inl, inr, ⊎_elim, arith}
use Rattle.std.specs.List.{AllByRecursion}
use Rattle.rv_isa.specs.declared.instr.Instr.TheVariants.{Beq}
use Rattle.trap_model.specs.Width.{bytes_of}
use Rattle.block_code.specs.Effect.{reg_at}
use Rattle.block_code.specs.Moment.{Moment}
use Rattle.block_code.specs.Place.{IsAtTop, IsMachine}
use Rattle.block_code.specs.Sequence.{load_fixed, store_fixed}
use Rattle.state_space.specs.Locations.{is_state}
use Rattle.state_layout.specs.declared.cell.Cell.{Cell}
use Rattle.state_layout.specs.Map.{IsCell, Placement, access_at, flag_access, flag_offset, staged_offset, value_offset}
use Rattle.staged_commit.specs.Code.{commit_cell, commit_cells}
use Rattle.staged_commit.specs.Law.{need}
use Rattle.staged_commit.specs.Regions.{in_commit}
use Rattle.staged_commit.specs.Spots.{Counter, Flag, Kept, Mark, OnlyChanges, Picture, Spot, Waiting, Value, seen}
use Rattle.staged_commit.proofs.Change.{Became, became-step, cells-same}
use Rattle.staged_commit.proofs.Spotted.{puts-here, puts-others, spot-below, value-in_commit}
use Rattle.staged_commit.proofs.Spread.{is-offset}
use Rattle.staged_commit.proofs.Steps.{number-below, walk-fixed_load, walk-fixed_store, walk-skip}
use Rattle.block_code.specs.Footprint.{only_in}
use Rattle.staged_commit.proofs.Touched.{Sound}
use Rattle.staged_commit.proofs.Walk.{Walk, walk-end, walk-more, walk-then}

-- where the flag was not 0, the value may become what was staged
abbrev pub Copied : Picture → Spot → ℕ → Type 0
Copied start (Value cell) x = (start (Flag cell) ≢ 0) × (x ≡ start (Waiting cell))
Copied start (Waiting cell) x = ⊥
Copied start (Flag cell) x = ⊥
Copied start (Kept cell) x = ⊥
Copied start Mark x = ⊥
Copied start Counter x = ⊥

-- where the flag was not 0, the value is what was staged
abbrev pub IsCopied : Picture → Picture → Cell → Type 0
IsCopied start now cell = start (Flag cell) ≢ 0 → now (Value cell) ≡ start (Waiting cell)

module _ (placement : Placement) where
  -- values alone have changed since the start, to what was staged
  abbrev pub Copies : (start now : Picture) → Type 0
  Copies start now = Became placement (Copied start) start now

  pub copies-flag : (start now : Picture) → Copies start now → (cell : Cell) → IsCell is_state placement.signatures cell → now (Flag cell) ≡ start (Flag cell)
  copies-flag start now c cell is = ⊎_elim (λ e. e) (λ none. absurd none) (c.at (Flag cell) is (λ e. absurd (cc)))

  pub copies-staged : (start now : Picture) → Copies start now → (cell : Cell) → IsCell is_state placement.signatures cell → now (Waiting cell) ≡ start (Waiting cell)
  copies-staged start now c cell is = ⊎_elim (λ e. e) (λ none. absurd none) (c.at (Waiting cell) is (λ e. absurd (cc)))

  -- from one picture to another so, whatever the start was
  pub record Commits (before after : Picture) : Type 0 where
    pub copies : (start : Picture) → Copies start before → Copies start after
    pub stays : (start : Picture) (cell : Cell) → IsCell is_state placement.signatures cell → Copies start before → IsCopied start before cell → IsCopied start after cell

  pub commits-none : (before after : Picture) → ((c : Spot) → after c ≡ before c) → Commits before after
  commits-none before after same = record {
    copies = λ start c. record { at = λ d is free. ⊎_elim (λ e. inl (same d ∙ e)) (λ a. inr (subst (Copied start d) (sym (same d)) a)) (c.at d is free) };
    stays = λ start cell is c h set. same (Value cell) ∙ h set;
  }

  pub commits-then : (a b c : Picture) → Commits a b → Commits b c → Commits a c
  commits-then a b c p q = record {
    copies = λ start h. q.copies start (p.copies start h);
    stays = λ start cell is h i. q.stays start cell is (p.copies start h) (p.stays start cell is h i);
  }

  -- one value became what is staged, where the flag is not 0
  pub commits-one : (before after : Picture) (cell : Cell) → IsCell is_state placement.signatures cell → OnlyChanges placement (Value cell) before after → before (Flag cell) ≢ 0
      → after (Value cell) ≡ before (Waiting cell) → Commits before after
  commits-one before after cell is changes set value = record {
    copies = λ start c.
        became-step placement (Copied start) start before after (Value cell) c changes
        (λ free. ((λ z. set (copies-flag start before c cell is ∙ z)), value ∙ copies-staged start before c cell is));
    stays = λ start d at c so flagged.
        ⊎_elim
        (λ e. subst (λ x. after (Value x) ≡ start (Waiting x)) (sym e) (value ∙ copies-staged start before c cell is))
        (λ n. changes (Value d) at (λ f. n (cc)) ∙ so flagged)
        (cells-same d cell);
  }

  -- and these cells are done
  pub record CommitsCells (cells : List Cell) (before after : Picture) : Type 0 where
    pub commits : Commits before after
    pub copied : (start : Picture) → Copies start before → AllByRecursion (IsCopied start after) cells

  module _ (small : need placement ≤ 2 ^ 20) (rom : List ℕ) (size : ℕ) (machine : IsMachine rom size) (begin : ℕ) where
    abbrev Room : Type 0
    Room = Sound (need placement) size begin

    abbrev Pictured : (Picture → Picture → Type 0) → Moment → Moment → Type 0
    Pictured P s s' = need placement ≤ size → P (seen placement s.hart.ram) (seen placement s'.hart.ram)

    -- one cell
    commits-cell : (cell : Cell) → IsCell is_state placement.signatures cell → (address : ℕ) (s : Moment) → IsAtTop size address (commit_cell placement cell) s → (Room → address % 4 ≡ 0)
        → Walk rom Room (only_in (in_commit placement)) address (commit_cell placement cell) s (λ m. IsAtTop size (address + 4 * 7) [] m × Pictured (CommitsCells (cell ∷ [])) s m)
    commits-cell cell is address s top aligned =
        let keep = only_in (in_commit placement) in
        let fa = flag_access placement.layout in let va = access_at placement cell.fun in
        let post : Moment → Type 0 = λ m. IsAtTop size (address + 4 * 7) [] m × Pictured (CommitsCells (cell ∷ [])) s m in
        let room_s = top.room in
        walk-fixed_load rom size machine Room keep fa (Beq 5 0 (pos 20) ∷ (load_fixed va 5 (staged_offset placement cell) ++ store_fixed va 5 (value_offset placement cell))) address 4 (flag_offset placement cell) s post top (omega arith)
        (is-offset placement small (Flag cell) is) (λ r. spot-below placement (Flag cell) is size r.room)
        (λ a top_a flagged.
        let x0 : reg_at 0 a ≡ 0 = top_a.valid.hart.regs.zero_reg in
        walk-skip rom size machine Room keep (load_fixed va 5 (staged_offset placement cell) ++ store_fixed va 5 (value_offset placement cell)) (address + 4 + 4) 5 0 20 a post top_a refl (λ r. let m = aligned r in omega arith)
        (λ none e end goes. (
          at-end (address + 4 + 4 + 4 * 5) address e end (omega arith) (omega arith),
          λ room.
              let same : e.hart.ram ≡ s.hart.ram = goes.ram ∙ flagged.ram in
              record {
                commits = commits-none (seen placement s.hart.ram) (seen placement e.hart.ram) (λ c. ap (λ r. seen placement r c) same);
                copied = λ start c. ((λ set. absurd (set (sym (copies-flag start (seen placement s.hart.ram) c cell is) ∙ sym flagged.here ∙ none ∙ x0))), tt);
              },
        ))
        (λ set b top_b goes.
        walk-fixed_load rom size machine Room keep va (store_fixed va 5 (value_offset placement cell)) (address + 4 + 4 + 4) 4 (staged_offset placement cell) b post top_b (omega arith)
        (is-offset placement small (Waiting cell) is) (λ r. spot-below placement (Waiting cell) is size r.room)
        (λ c top_c staged.
        let same : c.hart.ram ≡ s.hart.ram = staged.ram ∙ goes.ram ∙ flagged.ram in
        let old : reg_at 5 c ≡ seen placement s.hart.ram (Waiting cell) = staged.here ∙ ap (λ r. seen placement r (Waiting cell)) (goes.ram ∙ flagged.ram) in
        walk-fixed_store rom size machine Room keep va [] (address + 4 + 4 + 4 + 4 + 4) 5 (value_offset placement cell) c post top_c
        (omega arith) (is-offset placement small (Value cell) is) (λ r. spot-below placement (Value cell) is size r.room)
        (value-in_commit placement cell is)
        (λ e top_e puts.
        walk-end rom Room keep (address + 4 + 4 + 4 + 4 + 4 + 4 + 4) e post (
          at-end (address + 4 + 4 + 4 + 4 + 4 + 4 + 4) address e top_e (omega arith) (omega arith),
          λ room.
              let low : reg_at 5 c < 256 ^ bytes_of va = subst (λ n. n < 256 ^ bytes_of va) (sym old) (number-below size s top.valid (bytes_of va) (staged_offset placement cell)) in
              let value : seen placement e.hart.ram (Value cell) ≡ seen placement s.hart.ram (Waiting cell) =
              puts-here placement size room c e top_c.valid (Value cell) is (reg_at 5 c) puts low ∙ old in
              let changes : OnlyChanges placement (Value cell) (seen placement s.hart.ram) (seen placement e.hart.ram) =
              λ d at other. puts-others placement size room c e top_c.valid (Value cell) is (reg_at 5 c) puts d at other ∙ ap (λ r. seen placement r d) same in
              let nonzero : seen placement s.hart.ram (Flag cell) ≢ 0 = λ z. set (flagged.here ∙ z ∙ sym x0) in
              record {
                commits = commits-one (seen placement s.hart.ram) (seen placement e.hart.ram) cell is changes nonzero value;
                copied = λ start k. ((λ f. value ∙ copies-staged start (seen placement s.hart.ram) k cell is), tt);
              },
        )))))
      where
        -- the same end, counted from the first word
        at-end : (past first : ℕ) (e : Moment) → IsAtTop size past [] e → past ≡ first + 4 * 7 → first + 4 * 7 < 2 ^ 32 → IsAtTop size (first + 4 * 7) [] e
        at-end past first e end same low = record { valid = end.valid; here = end.here ∙ same; room = omega arith }

    -- these cells
    pub commits-cells : (cells : List Cell) → AllByRecursion (IsCell is_state placement.signatures) cells → (address : ℕ) (s : Moment) → IsAtTop size address (commit_cells placement cells) s → (Room → address % 4 ≡ 0)
        → Walk rom Room (only_in (in_commit placement)) address (commit_cells placement cells) s (Pictured (CommitsCells cells) s)
    commits-cells [] all address s top aligned =
        walk-end rom Room (only_in (in_commit placement)) address s (Pictured (CommitsCells []) s)
        (λ room. record { commits = commits-none (seen placement s.hart.ram) (seen placement s.hart.ram) (λ c. refl); copied = λ start c. tt })
    commits-cells (cell ∷ cells) all address s top aligned =
        let room = top.room in
        walk-then rom Room (only_in (in_commit placement)) address (commit_cell placement cell) (commit_cells placement cells) s (Pictured (CommitsCells (cell ∷ cells)) s)
        (walk-more rom Room (only_in (in_commit placement)) address (commit_cell placement cell) s _ _
        (λ m one.
        walk-more rom Room (only_in (in_commit placement)) (address + 4 * 7) (commit_cells placement cells) m (Pictured (CommitsCells cells) m) (Pictured (CommitsCells (cell ∷ cells)) s)
        (λ e others enough.
        let first = one.1 enough in let rest = others enough in
        record {
          commits = commits-then (seen placement s.hart.ram) (seen placement m.hart.ram) (seen placement e.hart.ram) first.commits rest.commits;
          copied = λ start c. (
            rest.commits.stays start cell all.0 (first.commits.copies start c) (first.copied start c).0,
            rest.copied start (first.commits.copies start c),
          );
        })
        (commits-cells cells all.1 (address + 4 * 7) m
        (record { valid = one.0.valid; here = one.0.here; room = omega arith })
        (λ r. let a = aligned r in omega arith)))
        (commits-cell cell all.0 address s (record { valid = top.valid; here = top.here; room = omega arith }) aligned))
