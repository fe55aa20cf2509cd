-- The line that stages an update.
use Rattle.std.proofs.Common.{◌≡◌, ◌≢◌, ℕ, ◌+◌, ◌*◌, ◌%◌, ◌^◌, ◌<◌, ◌≤◌, pos, List, [], ◌∷◌, ◌++◌, true, refl, sym, ap, ◌∙◌, subst, arith}
use Rattle.std.proofs.lemmas.Bool.{or_left, or_right}
use Rattle.rv_isa.specs.declared.instr.Instr.{Instr}
use Rattle.rv_isa.specs.declared.instr.Instr.TheVariants.{Addi, Beq}
use Rattle.rv_machine.specs.Word.{minus}
use Rattle.trap_model.specs.Map.{ram_base}
use Rattle.trap_model.specs.Width.{bytes_of}
use Rattle.trap_model.specs.declared.width.Width.{Width}
use Rattle.trap_model.specs.declared.width.Width.TheVariants.{Byte, Half, Word}
use Rattle.rv_machine.specs.Code.{step}
use Rattle.rv_machine.specs.Run.{offered}
use Rattle.block_code.specs.Effect.{reg_at}
use Rattle.block_code.specs.Moment.{IsValidMoment, Moment}
use Rattle.block_code.specs.Place.{IsAtTop, IsMachine}
use Rattle.block_code.specs.Sequence.{load_by, store_by, store_fixed}
use Rattle.block_code.proofs.Footprint.{access-portless}
use Rattle.block_code.proofs.Machine.{computed, displaced, does-addi}
use Rattle.state_space.specs.Locations.{is_state}
use Rattle.mask_guard.specs.Mask.{address_of, shift_of, word_of}
use Rattle.state_layout.specs.declared.cell.Cell.{Cell}
use Rattle.state_layout.specs.Map.{IsCell, Placement, access_at, clash, flag_access, flag_offset, flags_start, lies_between, range_at, staged_offset, staged_start}
use Rattle.staged_commit.specs.Code.{index_value, stage_addresses, stage_mark, stage_value, stage_stores}
use Rattle.staged_commit.specs.Law.{need}
use Rattle.staged_commit.specs.Regions.{in_stage}
use Rattle.staged_commit.specs.Spots.{Flag, IsSpot, Mark, Picture, Spot, Waiting, seen}
use Rattle.staged_commit.proofs.Spotted.{between, puts-here, puts-others, spot-below}
use Rattle.staged_commit.proofs.Spread.{is-offset, width}
use Rattle.staged_commit.proofs.Steps.{walk-address, walk-fixed_store, walk-less, walk-loads, walk-move, walk-saves, walk-sets, walk-skip}
use Rattle.block_code.specs.Footprint.{only_in}
use Rattle.staged_commit.proofs.Touched.{Sound}
use Rattle.staged_commit.proofs.Walk.{Walk, walk-end}

-- a shift by the width is a product with its bytes
pub shift-bytes : (width : Width) (n : ℕ) → n * 2 ^ shift_of width ≡ bytes_of width * n
shift-bytes Byte n = omega arith
shift-bytes Half n = omega arith
shift-bytes Word n = omega arith

-- the address of a cell of an array
pub cell-address : (width : Width) (start index : ℕ) → start + bytes_of width * index < 2 ^ 20 → (index * 2 ^ shift_of width % 2 ^ 32 + (ram_base + start)) % 2 ^ 32 ≡ ram_base + (start + bytes_of width * index)
cell-address width start index low =
    let e = shift-bytes width index in
    let f : index * 2 ^ shift_of width % 2 ^ 32 ≡ bytes_of width * index = omega arith in omega arith

-- a cell of an array ends inside it
pub stride-in : (width : Width) (start index count : ℕ) → index < count → start + bytes_of width * index + bytes_of width ≤ start + bytes_of width * count
stride-in Byte start index count h = omega arith
stride-in Half start index count h = omega arith
stride-in Word start index count h = omega arith

-- what staging x for a cell leaves
pub record StagesOne (placement : Placement) (cell : Cell) (x : ℕ) (before after : Picture) : Type 0 where
  pub value : after (Waiting cell) ≡ x
  pub flag : after (Flag cell) ≡ 1
  -- the mark is set where another value was staged
  pub clashes : before (Flag cell) ≢ 0 → before (Waiting cell) ≢ x → after Mark ≡ 1
  pub fresh : before (Flag cell) ≡ 0 → after Mark ≡ before Mark
  pub same : before (Waiting cell) ≡ x → after Mark ≡ before Mark
  pub others : (c : Spot) → IsSpot placement c → c ≢ Waiting cell → c ≢ Flag cell → c ≢ Mark → after c ≡ before c

module _ (placement : Placement) (small : need placement ≤ 2 ^ 20) (fun count : ℕ) (word : word_of (range_at placement fun).lo < 2 ^ 32) (rom : List ℕ) (size : ℕ) (machine : IsMachine rom size) (begin : ℕ) where
  abbrev Room : Type 0
  Room = Sound (need placement) size begin

  abbrev Walk_ : ℕ → List Instr → Moment → (Moment → Type 0) → Type 0
  Walk_ = Walk rom Room (only_in (in_stage placement fun count))

  -- the cell whose index is in register 5
  abbrev pub cell_in : Moment → Cell
  cell_in s = record { fun = fun; index = reg_at 5 s }

  -- the index of the value in register 6
  abbrev pub index_in : Moment → ℕ
  index_in s = minus (reg_at 6 s) (word_of (range_at placement fun).lo)

  -- the addresses and the index are in their registers
  record Addressed (s m : Moment) : Type 0 where
    staged : reg_at 5 m ≡ ram_base + staged_offset placement (cell_in s)
    flag : reg_at 7 m ≡ ram_base + flag_offset placement (cell_in s)
    index : reg_at 6 m ≡ index_in s
    ram : m.hart.ram ≡ s.hart.ram

  stage-addressed : (rest : List Instr) (address : ℕ) (s : Moment) (Post : Moment → Type 0)
      → IsAtTop size address (index_value placement fun ++ (stage_addresses placement fun ++ rest)) s → IsCell is_state placement.signatures (cell_in s)
      → ((m : Moment) → IsAtTop size (address + 4 + 4 + 4 + 4 + 4 + 4 + 4 + 4 + 4 + 4 + 4 + 4) rest m → Addressed s m → Walk_ (address + 4 + 4 + 4 + 4 + 4 + 4 + 4 + 4 + 4 + 4 + 4 + 4) rest m Post)
      → Walk_ address (index_value placement fun ++ (stage_addresses placement fun ++ rest)) s Post
  stage-addressed rest address s Post top is on =
      let cell : Cell = cell_in s in
      let keep = only_in (in_stage placement fun count) in
      let flag_low = (is-offset placement small (Flag cell) is).low in let staged_low = (is-offset placement small (Waiting cell) is).low in
      walk-less rom size machine Room keep (stage_addresses placement fun ++ rest) address 5 (word_of (range_at placement fun).lo) s Post top (omega arith) (omega arith) word
      (λ a top_a less.
      walk-move rom size machine Room keep (address_of 7 (ram_base + flags_start placement fun) (shift_of (flag_access placement.layout)) ++ (address_of 5 (ram_base + staged_start placement fun) (shift_of (access_at placement fun)) ++ rest))
      (address + 4 + 4 + 4) 6 5 a Post top_a (omega arith)
      (λ b top_b moved.
      walk-address rom size machine Room keep (address_of 5 (ram_base + staged_start placement fun) (shift_of (access_at placement fun)) ++ rest)
      (address + 4 + 4 + 4 + 4) 6 (ram_base + flags_start placement fun) (shift_of (flag_access placement.layout)) b Post top_b (omega arith) (omega arith) (omega arith)
      (λ c top_c flagged.
      walk-address rom size machine Room keep rest
      (address + 4 + 4 + 4 + 4 + 4 + 4 + 4 + 4) 4 (ram_base + staged_start placement fun) (shift_of (access_at placement fun)) c Post top_c (omega arith) (omega arith) (omega arith)
      (λ m top_m staged.
      on m top_m
      (let index_a : reg_at 5 a ≡ reg_at 5 s = less.others 5 (omega arith) (omega arith) in
      let index_b : reg_at 7 b ≡ reg_at 5 s = moved.here ∙ index_a in
      let index_c : reg_at 5 c ≡ reg_at 5 s = flagged.others 5 (omega arith) (omega arith) ∙ moved.others 5 (omega arith) (omega arith) ∙ index_a in
      record {
        staged = staged.here ∙ ap (λ n. (n * 2 ^ shift_of (access_at placement fun) % 2 ^ 32 + (ram_base + staged_start placement fun)) % 2 ^ 32) index_c
            ∙ cell-address (access_at placement fun) (staged_start placement fun) (reg_at 5 s) staged_low;
        flag = staged.others 7 (omega arith) (omega arith) ∙ flagged.here ∙ ap (λ n. (n * 2 ^ shift_of (flag_access placement.layout) % 2 ^ 32 + (ram_base + flags_start placement fun)) % 2 ^ 32) index_b
            ∙ cell-address (flag_access placement.layout) (flags_start placement fun) (reg_at 5 s) flag_low;
        index = staged.others 6 (omega arith) (omega arith) ∙ flagged.others 6 (omega arith) (omega arith) ∙ moved.others 6 (omega arith) (omega arith) ∙ less.here;
        ram = staged.ram ∙ flagged.ram ∙ moved.ram ∙ less.ram;
      })))))

  -- ---- where the line stores

  staged-in : (index : ℕ) → index < count → (o : ℕ) → staged_start placement fun + bytes_of (access_at placement fun) * index ≤ o
      → o < staged_start placement fun + bytes_of (access_at placement fun) * index + bytes_of (access_at placement fun) → in_stage placement fun count o ≡ true
  staged-in index below o f b =
      let h = stride-in (access_at placement fun) (staged_start placement fun) index count below in
      or_left (lies_between (staged_start placement fun) (staged_start placement fun + bytes_of (access_at placement fun) * count) o) _
      (between (staged_start placement fun) (staged_start placement fun + bytes_of (access_at placement fun) * count) o (omega arith) (omega arith))

  flag-in : (index : ℕ) → index < count → (o : ℕ) → flags_start placement fun + bytes_of (flag_access placement.layout) * index ≤ o
      → o < flags_start placement fun + bytes_of (flag_access placement.layout) * index + bytes_of (flag_access placement.layout) → in_stage placement fun count o ≡ true
  flag-in index below o f b =
      let h = stride-in (flag_access placement.layout) (flags_start placement fun) index count below in
      or_right (lies_between (staged_start placement fun) (staged_start placement fun + bytes_of (access_at placement fun) * count) o) _
      (or_left (lies_between (flags_start placement fun) (flags_start placement fun + bytes_of (flag_access placement.layout) * count) o) _
      (between (flags_start placement fun) (flags_start placement fun + bytes_of (flag_access placement.layout) * count) o (omega arith) (omega arith)))

  mark-in : (o : ℕ) → clash placement ≤ o → o < clash placement + 4 → in_stage placement fun count o ≡ true
  mark-in o f b =
      or_right (lies_between (staged_start placement fun) (staged_start placement fun + bytes_of (access_at placement fun) * count) o) _
      (or_right (lies_between (flags_start placement fun) (flags_start placement fun + bytes_of (flag_access placement.layout) * count) o) _
      (between (clash placement) (clash placement + 4) o f b))

  -- ---- the stores

  -- what was there is in registers, and the value and the flag are stored
  record Written (cell : Cell) (x : ℕ) (s n : Moment) : Type 0 where
    flag : reg_at 8 n ≡ seen placement s.hart.ram (Flag cell)
    staged : reg_at 9 n ≡ seen placement s.hart.ram (Waiting cell)
    index : reg_at 6 n ≡ x
    one : reg_at 10 n ≡ 1
    value : need placement ≤ size → x < 256 ^ width placement (Waiting cell) → seen placement n.hart.ram (Waiting cell) ≡ x
    set : need placement ≤ size → seen placement n.hart.ram (Flag cell) ≡ 1
    others : need placement ≤ size → (c : Spot) → IsSpot placement c → c ≢ Waiting cell → c ≢ Flag cell → seen placement n.hart.ram c ≡ seen placement s.hart.ram c

  one-fits : (width : Width) → 1 < 256 ^ bytes_of width
  one-fits Byte = omega arith
  one-fits Half = omega arith
  one-fits Word = omega arith

  stage-written : (rest : List Instr) (address : ℕ) (m : Moment) (index x : ℕ) (Post : Moment → Type 0) → IsAtTop size address (stage_stores placement fun ++ rest) m
      → index < count → IsCell is_state placement.signatures (record { fun = fun; index = index })
      → reg_at 5 m ≡ ram_base + staged_offset placement (record { fun = fun; index = index }) → reg_at 7 m ≡ ram_base + flag_offset placement (record { fun = fun; index = index }) → reg_at 6 m ≡ x
      → ((n : Moment) → IsAtTop size (address + 4 + 4 + 4 + 4 + 4) rest n → Written (record { fun = fun; index = index }) x m n → Walk_ (address + 4 + 4 + 4 + 4 + 4) rest n Post)
      → Walk_ address (stage_stores placement fun ++ rest) m Post
  stage-written rest address m index x Post top below is at_staged at_flag at_index on =
      let keep = only_in (in_stage placement fun count) in
      let cell : Cell = record { fun = fun; index = index } in
      let flag_place = is-offset placement small (Flag cell) is in let staged_place = is-offset placement small (Waiting cell) is in
      let flag_low = flag_place.low in let staged_low = staged_place.low in
      let fa = flag_access placement.layout in let va = access_at placement fun in
      walk-loads rom size machine Room keep fa (load_by va 9 5 (pos 0) ∷ store_by va 5 6 (pos 0) ∷ Addi 10 0 (pos 1) ∷ store_by fa 7 10 (pos 0) ∷ rest) address 7 7 (pos 0) (flag_offset placement cell) m Post top (omega arith)
      (nothing (reg_at 7 m) _ (omega arith) at_flag) flag_place (λ r. spot-below placement (Flag cell) is size r.room)
      (λ a top_a first.
      walk-loads rom size machine Room keep va (store_by va 5 6 (pos 0) ∷ Addi 10 0 (pos 1) ∷ store_by fa 7 10 (pos 0) ∷ rest) (address + 4) 8 5 (pos 0) (staged_offset placement cell) a Post top_a (omega arith)
      (nothing (reg_at 5 a) _ (omega arith) (first.others 5 (omega arith) (omega arith) ∙ at_staged)) staged_place (λ r. spot-below placement (Waiting cell) is size r.room)
      (λ b top_b second.
      let at_b : reg_at 5 b ≡ ram_base + staged_offset placement cell = second.others 5 (omega arith) (omega arith) ∙ first.others 5 (omega arith) (omega arith) ∙ at_staged in
      let index_b : reg_at 6 b ≡ x = second.others 6 (omega arith) (omega arith) ∙ first.others 6 (omega arith) (omega arith) ∙ at_index in
      walk-saves rom size machine Room keep va (Addi 10 0 (pos 1) ∷ store_by fa 7 10 (pos 0) ∷ rest) (address + 4 + 4) 5 6 (pos 0) (staged_offset placement cell) b Post top_b
      (nothing (reg_at 5 b) _ (omega arith) at_b) staged_place (λ r. spot-below placement (Waiting cell) is size r.room)
      (staged-in index below)
      (λ c top_c stored.
      walk-sets rom size machine Room keep (Addi 10 0 (pos 1)) (store_by fa 7 10 (pos 0) ∷ rest) (address + 4 + 4 + 4) 9 1 c Post top_c (omega arith) (omega arith) (one-is c top_c.valid) (access-portless rom (Addi 10 0 (pos 1)) c tt)
      (λ d top_d one.
      let at_d : reg_at 7 d ≡ ram_base + flag_offset placement cell =
      one.others 7 (omega arith) (omega arith) ∙ stored.regs 7 (omega arith) ∙ second.others 7 (omega arith) (omega arith) ∙ first.others 7 (omega arith) (omega arith) ∙ at_flag in
      walk-saves rom size machine Room keep fa rest (address + 4 + 4 + 4 + 4) 7 10 (pos 0) (flag_offset placement cell) d Post top_d
      (nothing (reg_at 7 d) _ (omega arith) at_d) flag_place (λ r. spot-below placement (Flag cell) is size r.room)
      (flag-in index below)
      (λ n top_n flagged.
      on n top_n (record {
        flag = flagged.regs 8 (omega arith) ∙ one.others 8 (omega arith) (omega arith) ∙ stored.regs 8 (omega arith) ∙ second.others 8 (omega arith) (omega arith) ∙ first.here;
        staged = flagged.regs 9 (omega arith) ∙ one.others 9 (omega arith) (omega arith) ∙ stored.regs 9 (omega arith) ∙ second.here ∙ ap (λ r. seen placement r (Waiting cell)) first.ram;
        index = flagged.regs 6 (omega arith) ∙ one.others 6 (omega arith) (omega arith) ∙ stored.regs 6 (omega arith) ∙ index_b;
        one = flagged.regs 10 (omega arith) ∙ one.here;
        value = λ room low.
            puts-others placement size room d n top_d.valid (Flag cell) is (reg_at 10 d) flagged (Waiting cell) is (λ e. absurd (cc))
            ∙ ap (λ r. seen placement r (Waiting cell)) one.ram
            ∙ puts-here placement size room b c top_b.valid (Waiting cell) is (reg_at 6 b) stored (subst (λ v. v < 256 ^ bytes_of va) (sym index_b) low) ∙ index_b;
        set = λ room. puts-here placement size room d n top_d.valid (Flag cell) is (reg_at 10 d) flagged (subst (λ v. v < 256 ^ bytes_of fa) (sym one.here) (one-fits fa)) ∙ one.here;
        others = λ room c' at apart_staged apart_flag.
            puts-others placement size room d n top_d.valid (Flag cell) is (reg_at 10 d) flagged c' at apart_flag
            ∙ ap (λ r. seen placement r c') one.ram
            ∙ puts-others placement size room b c top_b.valid (Waiting cell) is (reg_at 6 b) stored c' at apart_staged
            ∙ ap (λ r. seen placement r c') (second.ram ∙ first.ram);
      }))))))
    where
      -- an address without a displacement
      nothing : (r a : ℕ) → a < 2 ^ 32 → r ≡ a → displaced r (pos 0) ≡ a
      nothing r a low e = omega arith

      one-is : (c : Moment) → IsValidMoment size c → step rom (offered c.readings) (Addi 10 0 (pos 1)) c.hart ≡ computed c.hart 10 1
      one-is c valid =
          let x0 : reg_at 0 c ≡ 0 = valid.hart.regs.zero_reg in
          does-addi rom (offered c.readings) c.hart 10 0 (pos 1) ∙ ap (λ v. computed c.hart 10 (displaced v (pos 1))) x0

  -- ---- the mark

  -- the mark is set where the old flag was not 0 and the old value another
  record Marked (n e : Moment) : Type 0 where
    clashes : need placement ≤ size → reg_at 8 n ≢ 0 → reg_at 9 n ≢ reg_at 6 n → reg_at 10 n ≡ 1 → seen placement e.hart.ram Mark ≡ 1
    fresh : reg_at 8 n ≡ 0 → e.hart.ram ≡ n.hart.ram
    same : reg_at 9 n ≡ reg_at 6 n → e.hart.ram ≡ n.hart.ram
    others : need placement ≤ size → (c : Spot) → IsSpot placement c → c ≢ Mark → seen placement e.hart.ram c ≡ seen placement n.hart.ram c

  stage-marked : (address : ℕ) (n : Moment) (Post : Moment → Type 0) → IsAtTop size address (stage_mark placement) n → (Room → address % 4 ≡ 0) → ((e : Moment) → Marked n e → Post e)
      → Walk_ address (stage_mark placement) n Post
  stage-marked address n Post top aligned on =
      let keep = only_in (in_stage placement fun count) in
      let x0 : reg_at 0 n ≡ 0 = top.valid.hart.regs.zero_reg in
      walk-skip rom size machine Room keep (Beq 9 6 (pos 12) ∷ store_fixed Word 10 (clash placement)) address 8 0 16 n Post top refl aligned
      (λ free e end goes. on e (record {
        clashes = λ room taken other one. absurd (taken (free ∙ x0));
        fresh = λ f. goes.ram;
        same = λ f. goes.ram;
        others = λ room c is other. ap (λ r. seen placement r c) goes.ram;
      }))
      (λ taken a top_a goes_a.
      walk-skip rom size machine Room keep (store_fixed Word 10 (clash placement)) (address + 4) 9 6 12 a Post top_a refl (λ r. let m = aligned r in omega arith)
      (λ alike e end goes. on e (record {
        clashes = λ room set other one. absurd (other (sym (goes_a.regs 9) ∙ alike ∙ goes_a.regs 6));
        fresh = λ f. goes.ram ∙ goes_a.ram;
        same = λ f. goes.ram ∙ goes_a.ram;
        others = λ room c is other. ap (λ r. seen placement r c) (goes.ram ∙ goes_a.ram);
      }))
      (λ differ b top_b goes_b.
      walk-fixed_store rom size machine Room keep Word [] (address + 4 + 4) 10 (clash placement) b Post top_b
      (omega arith) (is-offset placement small Mark tt) (λ r. spot-below placement Mark tt size r.room)
      mark-in
      (λ e top_e puts.
      walk-end rom Room keep (address + 4 + 4 + 4 + 4) e Post
      (on e (record {
        clashes = λ room set other one.
            let ten : reg_at 10 b ≡ 1 = goes_b.regs 10 ∙ goes_a.regs 10 ∙ one in
            puts-here placement size room b e top_b.valid Mark tt (reg_at 10 b) puts (omega arith) ∙ ten;
        fresh = λ f. absurd (taken (f ∙ sym x0));
        same = λ f. absurd (differ (goes_a.regs 9 ∙ f ∙ sym (goes_a.regs 6)));
        others = λ room c is other. puts-others placement size room b e top_b.valid Mark tt (reg_at 10 b) puts c is other ∙ ap (λ r. seen placement r c) (goes_b.ram ∙ goes_a.ram);
      })))))

-- ---- the line
module _ (placement : Placement) (small : need placement ≤ 2 ^ 20) (fun count : ℕ) (word : word_of (range_at placement fun).lo < 2 ^ 32) where
  -- the index that register 6 stands for
  abbrev pub staged_index : Moment → ℕ
  staged_index s = minus (reg_at 6 s) (word_of (range_at placement fun).lo)

  -- from each valid hart with a padded index in register 5, the line stages the index of the value in register 6
  pub walks-value : (rom : List ℕ) (size : ℕ) → IsMachine rom size → (begin address : ℕ) (s : Moment) → IsAtTop size address (stage_value placement fun) s → address % 4 ≡ 0
      → IsCell is_state placement.signatures (record { fun = fun; index = reg_at 5 s }) → reg_at 5 s < count
      → Walk rom (Sound (need placement) size begin) (only_in (in_stage placement fun count)) address (stage_value placement fun) s
      (λ e. need placement ≤ size → staged_index s < 256 ^ bytes_of (access_at placement fun)
      → StagesOne placement (record { fun = fun; index = reg_at 5 s }) (staged_index s) (seen placement s.hart.ram) (seen placement e.hart.ram))
  walks-value rom size machine begin address s top aligned is below =
      stage-addressed placement small fun count word rom size machine begin (stage_stores placement fun ++ stage_mark placement) address s _ top is
      (λ m top_m addressed.
      stage-written placement small fun count word rom size machine begin (stage_mark placement) (address + 4 + 4 + 4 + 4 + 4 + 4 + 4 + 4 + 4 + 4 + 4 + 4) m (reg_at 5 s) x _ top_m
      below is addressed.staged addressed.flag addressed.index
      (λ n top_n written.
      stage-marked placement small fun count word rom size machine begin (address + 4 + 4 + 4 + 4 + 4 + 4 + 4 + 4 + 4 + 4 + 4 + 4 + 4 + 4 + 4 + 4 + 4) n _ top_n (λ r. let a = aligned in omega arith)
      (λ e marked room low.
      let old = λ (c : Spot). ap (λ r. seen placement r c) addressed.ram in
      record {
        value = marked.others room (Waiting cell) is (λ f. absurd (cc)) ∙ written.value room low;
        flag = marked.others room (Flag cell) is (λ f. absurd (cc)) ∙ written.set room;
        clashes = λ set other. marked.clashes room (λ f. set (sym (old (Flag cell)) ∙ sym written.flag ∙ f)) (λ f. other (sym (old (Waiting cell)) ∙ sym written.staged ∙ f ∙ written.index)) written.one;
        fresh = λ f. ap (λ r. seen placement r Mark) (marked.fresh (written.flag ∙ old (Flag cell) ∙ f)) ∙ written.others room Mark tt (λ g. absurd (cc)) (λ g. absurd (cc)) ∙ old Mark;
        same = λ f. ap (λ r. seen placement r Mark) (marked.same (written.staged ∙ old (Waiting cell) ∙ f ∙ sym written.index)) ∙ written.others room Mark tt (λ g. absurd (cc)) (λ g. absurd (cc)) ∙ old Mark;
        others = λ c at apart_staged apart_flag apart_mark. marked.others room c at apart_mark ∙ written.others room c at apart_staged apart_flag ∙ old c;
      })))
    where
      cell : Cell
      cell = record { fun = fun; index = reg_at 5 s }

      x : ℕ
      x = minus (reg_at 6 s) (word_of (range_at placement fun).lo)
