-- The bodies of the loops over padded arrays.
use Rattle.std.proofs.Common.{◌≡◌, ◌≢◌, ℕ, ◌+◌, ◌*◌, ◌%◌, ◌^◌, ◌<◌, ◌≤◌, pos, List, [], ◌∷◌, ◌++◌, true, refl, sym, ap, ◌∙◌, subst, arith}
use Rattle.std.specs.Prelude.{slice_get, Some}
use Rattle.rv_isa.specs.declared.instr.Instr.{Instr}
use Rattle.rv_isa.specs.declared.instr.Instr.TheVariants.{Addi, Beq}
use Rattle.trap_model.specs.Map.{ram_base}
use Rattle.trap_model.specs.Width.{bytes_of}
use Rattle.trap_model.specs.declared.width.Width.{Width}
use Rattle.trap_model.specs.declared.width.Width.TheVariants.{Byte, Half, Word}
use Rattle.block_code.specs.Effect.{reg_at}
use Rattle.block_code.specs.Footprint.{Footprint, only_in}
use Rattle.block_code.specs.Moment.{Moment}
use Rattle.block_code.specs.Place.{IsAtTop, IsMachine}
use Rattle.block_code.specs.Sequence.{load_by, store_by}
use Rattle.block_code.proofs.Machine.{displaced}
use Rattle.mask_guard.specs.Mask.{address_of, mask_index, shift_of}
use Rattle.mask_guard.specs.MaskLaw.{IsMaskable}
use Rattle.mask_guard.proofs.Numbers.{every-word-has-an-index}
use Rattle.state_space.specs.Decoding.{index_of}
use Rattle.state_space.specs.Locations.{is_state}
use Rattle.state_space.specs.Sizes.{padded_count}
use Rattle.state_space.specs.declared.signature.Signature.{Signature}
use Rattle.state_layout.specs.declared.cell.Cell.{Cell}
use Rattle.state_layout.specs.Map.{IsCell, Placement, access_at, array_start, counter, flag_access, flag_offset, flags_start, in_flags, in_state, staged_offset, staged_start, value_offset}
use Rattle.staged_commit.specs.Code.{clear_body, commit_body, counted_index}
use Rattle.staged_commit.specs.Law.{need}
use Rattle.staged_commit.specs.Spots.{Counter, Flag, OnlyChanges, Picture, Value, Waiting, seen}
use Rattle.staged_commit.proofs.Clearing.{Clears, clears-one}
use Rattle.staged_commit.proofs.Committing.{Commits, Copies, IsCopied, commits-none, commits-one, copies-flag, copies-staged}
use Rattle.staged_commit.proofs.Spotted.{in-state, puts-here, puts-others, spot-below}
use Rattle.staged_commit.proofs.Spread.{is-offset, lies}
use Rattle.staged_commit.proofs.Stage.{cell-address}
use Rattle.staged_commit.proofs.Steps.{Sets, number-below, sets-then, walk-address, walk-fixed_load, walk-loads, walk-mask, walk-move, walk-saves, walk-skip}
use Rattle.staged_commit.proofs.Touched.{Sound}
use Rattle.staged_commit.proofs.Walk.{Walk, walk-end}

module _ (placement : Placement) (small : need placement ≤ 2 ^ 20) (fun : ℕ) (signature : Signature) (here : slice_get placement.signatures fun ≡ Some signature) (held : is_state signature.kind ≡ true)
    (maskable : IsMaskable (padded_count signature.args)) where
  abbrev pub count : ℕ
  count = padded_count signature.args

  -- the cell that the counter stands for
  abbrev pub counted : Moment → Cell
  counted s = record { fun = fun; index = index_of count (seen placement s.hart.ram Counter) }

  counted-is : (s : Moment) → IsCell is_state placement.signatures (counted s)
  counted-is s = record { signature = signature; here = here; held = held; below = (every-word-has-an-index count (seen placement s.hart.ram Counter) maskable.some).0 }

  -- ---- clearing
  abbrev pub ClearBodyPost : ℕ → Moment → Moment → Type 0
  ClearBodyPost size s e =
      need placement ≤ size → Clears placement (seen placement s.hart.ram) (seen placement e.hart.ram) × (seen placement e.hart.ram (Flag (counted s)) ≡ 0)

  -- ---- committing
  abbrev pub CommitBodyPost : ℕ → Moment → Moment → Type 0
  CommitBodyPost size s e =
      need placement ≤ size → Commits placement (seen placement s.hart.ram) (seen placement e.hart.ram)
      × ((start : Picture) → Copies placement start (seen placement s.hart.ram) → IsCopied start (seen placement e.hart.ram) (counted s))

  module _ (rom : List ℕ) (size : ℕ) (machine : IsMachine rom size) (begin : ℕ) where
    abbrev Room : Type 0
    Room = Sound (need placement) size begin

    -- the index that the counter stands for
    walk-counted : (f : Footprint) (rest : List Instr) (address : ℕ) (s : Moment) (Post : Moment → Type 0) → IsAtTop size address (counted_index placement count ++ rest) s → address % 4 ≡ 0
        → ((m : Moment) → IsAtTop size (address + 4 + 4 + 24) rest m → Sets 5 (index_of count (seen placement s.hart.ram Counter)) s m → Walk rom Room f (address + 4 + 4 + 24) rest m Post)
        → Walk rom Room f address (counted_index placement count ++ rest) s Post
    walk-counted f rest address s Post top aligned on =
        walk-fixed_load rom size machine Room f Word (mask_index 5 count ++ rest) address 4 (counter placement) s Post top (omega arith)
        (is-offset placement small Counter tt) (λ r. spot-below placement Counter tt size r.room)
        (λ a top_a loaded.
        walk-mask rom size machine Room f rest (address + 4 + 4) 4 count a Post top_a (omega arith) (record { from = omega arith; to = omega arith }) maskable
        (λ m at masked.
        on m at (subst (λ n. Sets 5 (index_of count n) s m) loaded.here (sets-then 5 (seen placement s.hart.ram Counter) (index_of count (reg_at 5 a)) s a m loaded masked))))

    -- an address without a displacement
    nothing : (r a : ℕ) → a < 2 ^ 32 → r ≡ a → displaced r (pos 0) ≡ a
    nothing r a low e = omega arith

    pub walks-clear_body : (address : ℕ) (s : Moment) → IsAtTop size address (clear_body placement fun count) s → address % 4 ≡ 0
        → Walk rom Room (only_in (in_flags placement)) address (clear_body placement fun count) s (ClearBodyPost size s)
    walks-clear_body address s top aligned =
        let g = only_in (in_flags placement) in let fa = flag_access placement.layout in
        let cell : Cell = counted s in let is = counted-is s in
        let place = is-offset placement small (Flag cell) is in let low = place.low in
        walk-counted g (address_of 5 (ram_base + flags_start placement fun) (shift_of fa) ++ (store_by fa 5 0 (pos 0) ∷ [])) address s (ClearBodyPost size s) top aligned
        (λ a top_a index.
        walk-address rom size machine Room g (store_by fa 5 0 (pos 0) ∷ []) (address + 4 + 4 + 24) 4 (ram_base + flags_start placement fun) (shift_of fa) a (ClearBodyPost size s) top_a
        (omega arith) (omega arith) (omega arith)
        (λ b top_b addressed.
        let there : reg_at 5 b ≡ ram_base + flag_offset placement cell =
        addressed.here ∙ ap (λ n. (n * 2 ^ shift_of fa % 2 ^ 32 + (ram_base + flags_start placement fun)) % 2 ^ 32) index.here ∙ cell-address fa (flags_start placement fun) cell.index low in
        let x0 : reg_at 0 b ≡ 0 = top_b.valid.hart.regs.zero_reg in
        walk-saves rom size machine Room g fa [] (address + 4 + 4 + 24 + 4 + 4 + 4 + 4) 5 0 (pos 0) (flag_offset placement cell) b (ClearBodyPost size s) top_b
        (nothing (reg_at 5 b) _ (omega arith) there) place (λ r. spot-below placement (Flag cell) is size r.room)
        (λ o f h. in-state placement (Flag cell) o (lies placement (Flag cell) is) f h)
        (λ e top_e puts.
        walk-end rom Room g (address + 4 + 4 + 24 + 4 + 4 + 4 + 4 + 4) e (ClearBodyPost size s)
        (λ room.
        let same : b.hart.ram ≡ s.hart.ram = addressed.ram ∙ index.ram in
        let zero : seen placement e.hart.ram (Flag cell) ≡ 0 = puts-here placement size room b e top_b.valid (Flag cell) is (reg_at 0 b) puts (none fa b x0) ∙ x0 in (
          clears-one placement (seen placement s.hart.ram) (seen placement e.hart.ram) (Flag cell)
              (λ d at other. puts-others placement size room b e top_b.valid (Flag cell) is (reg_at 0 b) puts d at other ∙ ap (λ r. seen placement r d) same) zero refl,
          zero,
        )))))
      where
        none : (width : Width) (b : Moment) → reg_at 0 b ≡ 0 → reg_at 0 b < 256 ^ bytes_of width
        none Byte b e = omega arith
        none Half b e = omega arith
        none Word b e = omega arith

    pub walks-commit_body : (address : ℕ) (s : Moment) → IsAtTop size address (commit_body placement fun count) s → address % 4 ≡ 0
        → Walk rom Room (only_in (in_state placement)) address (commit_body placement fun count) s (CommitBodyPost size s)
    walks-commit_body address s top aligned =
        let g = only_in (in_state placement) in let fa = flag_access placement.layout in let va = access_at placement fun in
        let cell : Cell = counted s in let is = counted-is s in let post = CommitBodyPost size s in
        let flag_place = is-offset placement small (Flag cell) is in let flag_low = flag_place.low in
        let waiting_place = is-offset placement small (Waiting cell) is in let waiting_low = waiting_place.low in
        let value_place = is-offset placement small (Value cell) is in let value_low = value_place.low in
        let last : List Instr = address_of 5 (ram_base + array_start placement fun) (shift_of va) ++ (store_by va 5 6 (pos 0) ∷ []) in
        let copy : List Instr = Addi 6 5 (pos 0) ∷ (address_of 6 (ram_base + staged_start placement fun) (shift_of va) ++ (load_by va 6 6 (pos 0) ∷ last)) in
        walk-counted g (Addi 6 5 (pos 0) ∷ (address_of 6 (ram_base + flags_start placement fun) (shift_of fa) ++ (load_by fa 6 6 (pos 0) ∷ Beq 6 0 (pos 48) ∷ copy))) address s post top aligned
        (λ a top_a index.
        walk-move rom size machine Room g (address_of 6 (ram_base + flags_start placement fun) (shift_of fa) ++ (load_by fa 6 6 (pos 0) ∷ Beq 6 0 (pos 48) ∷ copy)) (address + 4 + 4 + 24) 5 5 a post top_a (omega arith)
        (λ b top_b moved.
        walk-address rom size machine Room g (load_by fa 6 6 (pos 0) ∷ Beq 6 0 (pos 48) ∷ copy) (address + 4 + 4 + 24 + 4) 5 (ram_base + flags_start placement fun) (shift_of fa) b post top_b
        (omega arith) (omega arith) (omega arith)
        (λ c top_c addressed.
        let at_flag : reg_at 6 c ≡ ram_base + flag_offset placement cell =
        addressed.here ∙ ap (λ n. (n * 2 ^ shift_of fa % 2 ^ 32 + (ram_base + flags_start placement fun)) % 2 ^ 32) (moved.here ∙ index.here) ∙ cell-address fa (flags_start placement fun) cell.index flag_low in
        let same_c : c.hart.ram ≡ s.hart.ram = addressed.ram ∙ moved.ram ∙ index.ram in
        let index_c : reg_at 5 c ≡ cell.index = addressed.others 5 (omega arith) (omega arith) ∙ moved.others 5 (omega arith) (omega arith) ∙ index.here in
        walk-loads rom size machine Room g fa (Beq 6 0 (pos 48) ∷ copy) (address + 4 + 4 + 24 + 4 + 4 + 4 + 4 + 4) 5 6 (pos 0) (flag_offset placement cell) c post top_c (omega arith)
        (nothing (reg_at 6 c) _ (omega arith) at_flag) flag_place (λ r. spot-below placement (Flag cell) is size r.room)
        (λ d top_d flagged.
        let x0 : reg_at 0 d ≡ 0 = top_d.valid.hart.regs.zero_reg in
        let flag_d : reg_at 6 d ≡ seen placement s.hart.ram (Flag cell) = flagged.here ∙ ap (λ r. seen placement r (Flag cell)) same_c in
        walk-skip rom size machine Room g copy (address + 4 + 4 + 24 + 4 + 4 + 4 + 4 + 4 + 4) 6 0 48 d post top_d refl (λ r. omega arith)
        (λ free e end goes room.
        let same : e.hart.ram ≡ s.hart.ram = goes.ram ∙ flagged.ram ∙ same_c in (
          commits-none placement (seen placement s.hart.ram) (seen placement e.hart.ram) (λ z. ap (λ r. seen placement r z) same),
          λ start k set. absurd (set (sym (copies-flag placement start (seen placement s.hart.ram) k cell is) ∙ sym flag_d ∙ free ∙ x0)),
        ))
        (λ set d1 top_d1 goes.
        walk-move rom size machine Room g (address_of 6 (ram_base + staged_start placement fun) (shift_of va) ++ (load_by va 6 6 (pos 0) ∷ last)) (address + 4 + 4 + 24 + 4 + 4 + 4 + 4 + 4 + 4 + 4) 5 5 d1 post top_d1 (omega arith)
        (λ h top_h again.
        walk-address rom size machine Room g (load_by va 6 6 (pos 0) ∷ last) (address + 4 + 4 + 24 + 4 + 4 + 4 + 4 + 4 + 4 + 4 + 4) 5 (ram_base + staged_start placement fun) (shift_of va) h post top_h
        (omega arith) (omega arith) (omega arith)
        (λ i top_i waits.
        let index_d1 : reg_at 5 d1 ≡ cell.index = goes.regs 5 ∙ flagged.others 5 (omega arith) (omega arith) ∙ index_c in
        let at_waiting : reg_at 6 i ≡ ram_base + staged_offset placement cell =
        waits.here ∙ ap (λ n. (n * 2 ^ shift_of va % 2 ^ 32 + (ram_base + staged_start placement fun)) % 2 ^ 32) (again.here ∙ index_d1) ∙ cell-address va (staged_start placement fun) cell.index waiting_low in
        let same_i : i.hart.ram ≡ s.hart.ram = waits.ram ∙ again.ram ∙ goes.ram ∙ flagged.ram ∙ same_c in
        walk-loads rom size machine Room g va last (address + 4 + 4 + 24 + 4 + 4 + 4 + 4 + 4 + 4 + 4 + 4 + 4 + 4 + 4 + 4) 5 6 (pos 0) (staged_offset placement cell) i post top_i (omega arith)
        (nothing (reg_at 6 i) _ (omega arith) at_waiting) waiting_place (λ r. spot-below placement (Waiting cell) is size r.room)
        (λ j top_j loaded.
        let index_j : reg_at 5 j ≡ cell.index = loaded.others 5 (omega arith) (omega arith) ∙ waits.others 5 (omega arith) (omega arith) ∙ again.others 5 (omega arith) (omega arith) ∙ index_d1 in
        walk-address rom size machine Room g (store_by va 5 6 (pos 0) ∷ []) (address + 4 + 4 + 24 + 4 + 4 + 4 + 4 + 4 + 4 + 4 + 4 + 4 + 4 + 4 + 4 + 4) 4 (ram_base + array_start placement fun) (shift_of va) j post top_j
        (omega arith) (omega arith) (omega arith)
        (λ k top_k stores.
        let at_value : reg_at 5 k ≡ ram_base + value_offset placement cell =
        stores.here ∙ ap (λ n. (n * 2 ^ shift_of va % 2 ^ 32 + (ram_base + array_start placement fun)) % 2 ^ 32) index_j ∙ cell-address va (array_start placement fun) cell.index value_low in
        let same_k : k.hart.ram ≡ s.hart.ram = stores.ram ∙ loaded.ram ∙ same_i in
        let old : reg_at 6 k ≡ seen placement s.hart.ram (Waiting cell) = stores.others 6 (omega arith) (omega arith) ∙ loaded.here ∙ ap (λ r. seen placement r (Waiting cell)) same_i in
        walk-saves rom size machine Room g va [] (address + 4 + 4 + 24 + 4 + 4 + 4 + 4 + 4 + 4 + 4 + 4 + 4 + 4 + 4 + 4 + 4 + 4 + 4 + 4 + 4) 5 6 (pos 0) (value_offset placement cell) k post top_k
        (nothing (reg_at 5 k) _ (omega arith) at_value) value_place (λ r. spot-below placement (Value cell) is size r.room)
        (λ o f b. in-state placement (Value cell) o (lies placement (Value cell) is) f b)
        (λ e top_e puts.
        walk-end rom Room g (address + 4 + 4 + 24 + 4 + 4 + 4 + 4 + 4 + 4 + 4 + 4 + 4 + 4 + 4 + 4 + 4 + 4 + 4 + 4 + 4 + 4) e post
        (λ room.
        let low : reg_at 6 k < 256 ^ bytes_of va = subst (λ n. n < 256 ^ bytes_of va) (sym old) (number-below size s top.valid (bytes_of va) (staged_offset placement cell)) in
        let value : seen placement e.hart.ram (Value cell) ≡ seen placement s.hart.ram (Waiting cell) = puts-here placement size room k e top_k.valid (Value cell) is (reg_at 6 k) puts low ∙ old in
        let changes : OnlyChanges placement (Value cell) (seen placement s.hart.ram) (seen placement e.hart.ram) =
        λ z at other. puts-others placement size room k e top_k.valid (Value cell) is (reg_at 6 k) puts z at other ∙ ap (λ r. seen placement r z) same_k in
        let nonzero : seen placement s.hart.ram (Flag cell) ≢ 0 = λ z. set (flag_d ∙ z ∙ sym x0) in (
          commits-one placement (seen placement s.hart.ram) (seen placement e.hart.ram) cell is changes nonzero value,
          λ start c f. value ∙ copies-staged placement start (seen placement s.hart.ram) c cell is,
        ))))))))))))
