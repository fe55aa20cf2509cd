-- Lines walked instruction by instruction: what each instruction touches, where it may trap, and what holds behind the line.
use Rattle.std.proofs.Common.{◌≡◌, ◌≢◌, ℕ, suc, ◌+◌, ◌*◌, ◌≤◌, List, [], ◌∷◌, ◌++◌, length, true, false, sym, ap, ◌∙◌, subst, inl, inr, arith}
use Rattle.rv_isa.specs.declared.instr.Instr.{Instr}
use Rattle.rv_machine.specs.Code.{step}
use Rattle.rv_machine.specs.Run.{offered}
use Rattle.rv_machine.specs.Tick.{Ticks}
use Rattle.block_code.specs.Effect.{LineDoes, LineStops, moment_done, stops}
use Rattle.block_code.specs.Moment.{Moment, is_trap, moment_by}
use Rattle.block_code.specs.Access.{access_of}
use Rattle.block_code.specs.Footprint.{Footprint, LineTouchesOnly, Permits}
use Rattle.block_code.specs.Silent.{ArePortless}
use Rattle.block_code.proofs.Footprint.{access-portless, permits-none}
use Rattle.block_code.proofs.Lines.{InstrDoes}
use Rattle.block_code.proofs.Parts.{shift}

module _ (rom : List ℕ) (Room : Type 0) (f : Footprint) where
  -- from s on, each instruction of the line touches only the footprint, traps only where there is no room, and behind the
  -- line Post holds
  unfoldable pub Walk : ℕ → List Instr → Moment → (Moment → Type 0) → Type 0
  Walk address [] s Post = Post s
  Walk address (i ∷ is) s Post =
      (s.hart.pc ≡ address → Permits f (access_of rom i s) × (stops rom i s ≡ true → Room → ⊥) × (stops rom i s ≡ false → Walk (address + 4) is (moment_done rom i s) Post))
      × (s.hart.pc ≢ address → Walk (address + 4) is s Post)

  -- ---- how lines are walked

  pub walk-end : (address : ℕ) (s : Moment) (Post : Moment → Type 0) → Post s → Walk address [] s Post
  unfolding Walk
  walk-end address s Post post = post

  pub walk-more : (address : ℕ) (is : List Instr) (s : Moment) (P Q : Moment → Type 0) → ((m : Moment) → P m → Q m) → Walk address is s P → Walk address is s Q
  unfolding Walk
  walk-more address [] s P Q less w = less s w
  walk-more address (i ∷ is) s P Q less w = (
    λ here. ((w.0 here).0, (w.0 here).1, λ on. walk-more (address + 4) is (moment_done rom i s) P Q less ((w.0 here).2 on)),
    λ away. walk-more (address + 4) is s P Q less (w.1 away),
  )

  -- one part after another
  pub walk-then : (address : ℕ) (first second : List Instr) (s : Moment) (Post : Moment → Type 0)
      → Walk address first s (λ m. Walk (address + 4 * length first) second m Post) → Walk address (first ++ second) s Post
  unfolding Walk
  walk-then address [] second s Post w = let e : address + 4 * 0 ≡ address = omega arith in subst (λ a. Walk a second s Post) e w
  walk-then address (i ∷ is) second s Post w = (
    λ here. ((w.0 here).0, (w.0 here).1, λ on. walk-then (address + 4) is second (moment_done rom i s) Post (behind (moment_done rom i s) ((w.0 here).2 on))),
    λ away. walk-then (address + 4) is second s Post (behind s (w.1 away)),
  )
    where
      behind : (m : Moment) → Walk (address + 4) is m (λ n. Walk (address + 4 * suc (length is)) second n Post) → Walk (address + 4) is m (λ n. Walk (address + 4 + 4 * length is) second n Post)
      behind m =
          walk-more (address + 4) is m (λ n. Walk (address + 4 * suc (length is)) second n Post) (λ n. Walk (address + 4 + 4 * length is) second n Post)
          (λ n. subst (λ a. Walk a second n Post) (sym (shift address is)))

  -- an instruction that is done in a known way, and the rest of the line
  pub walk-on : (i : Instr) (is : List Instr) (address : ℕ) (s : Moment) (t : Ticks) (Post : Moment → Type 0) → s.hart.pc ≡ address
      → step rom (offered s.readings) i s.hart ≡ t → is_trap t.event ≡ false → Permits f (access_of rom i s) → Walk (address + 4) is (moment_by t s) Post
      → Walk address (i ∷ is) s Post
  unfolding Walk
  walk-on i is address s t Post here does quiet permits rest = (
    λ at. (
      permits,
      λ stopped. (let goes : stops rom i s ≡ false = ap (λ x. is_trap x.event) does ∙ quiet in absurd (cc)),
      λ on. subst (λ m. Walk (address + 4) is m Post) (ap (λ x. moment_by x s) (sym does)) rest,
    ),
    λ away. absurd (away here),
  )

  -- an instruction that leads to a known moment, and the rest of the line
  pub walk-instr : (i : Instr) (is : List Instr) (address : ℕ) (s m : Moment) (Post : Moment → Type 0) → s.hart.pc ≡ address → InstrDoes rom i s m → Permits f (access_of rom i s)
      → Walk (address + 4) is m Post → Walk address (i ∷ is) s Post
  unfolding Walk
  walk-instr i is address s m Post here does permits rest = (
    λ at. (
      permits,
      λ stopped. (let goes : stops rom i s ≡ false = does.goes_on in absurd (cc)),
      λ on. subst (λ n. Walk (address + 4) is n Post) (sym does.is) rest,
    ),
    λ away. absurd (away here),
  )

  -- an instruction that traps, where there is no room
  pub walk-stop : (i : Instr) (is : List Instr) (address : ℕ) (s : Moment) (t : Ticks) (Post : Moment → Type 0) → s.hart.pc ≡ address
      → step rom (offered s.readings) i s.hart ≡ t → is_trap t.event ≡ true → Permits f (access_of rom i s) → (Room → ⊥) → Walk address (i ∷ is) s Post
  unfolding Walk
  walk-stop i is address s t Post here does traps permits none = (
    λ at. (
      permits,
      λ stopped. none,
      λ on. (let halts : stops rom i s ≡ true = ap (λ x. is_trap x.event) does ∙ traps in absurd (cc)),
    ),
    λ away. absurd (away here),
  )

  -- instructions that a skip went past
  pub walk-past : (is : List Instr) (address : ℕ) (s : Moment) (Post : Moment → Type 0) → address + 4 * length is ≤ s.hart.pc → Post s → Walk address is s Post
  unfolding Walk
  walk-past [] address s Post beyond post = post
  walk-past (i ∷ is) address s Post beyond post = (λ here. absurd (omega arith), λ away. walk-past is (address + 4) s Post (omega arith) post)

  -- ---- what follows for the line

  pub walk-does : (is : List Instr) (address : ℕ) (s s' : Moment) (Post : Moment → Type 0) → Walk address is s Post → LineDoes rom address is s s' → Post s'
  unfolding Walk
  walk-does [] address s s' Post w d = subst Post (sym d) w
  walk-does (i ∷ is) address s s' Post w (inl d) = walk-does is (address + 4) (moment_done rom i s) s' Post ((w.0 d.0).2 d.1) d.2
  walk-does (i ∷ is) address s s' Post w (inr d) = walk-does is (address + 4) s s' Post (w.1 d.0) d.1

  pub walk-safe : Room → (is : List Instr) (address : ℕ) (s s' : Moment) (Post : Moment → Type 0) → Walk address is s Post → LineStops rom address is s s' → ⊥
  unfolding Walk
  walk-safe room [] address s s' Post w d = d
  walk-safe room (i ∷ is) address s s' Post w (inl d) = (w.0 d.0).1 d.1 room
  walk-safe room (i ∷ is) address s s' Post w (inr (inl d)) = walk-safe room is (address + 4) (moment_done rom i s) s' Post ((w.0 d.0).2 d.1) d.2
  walk-safe room (i ∷ is) address s s' Post w (inr (inr d)) = walk-safe room is (address + 4) s s' Post (w.1 d.0) d.1

  pub walk-touches : (is : List Instr) (address : ℕ) (s : Moment) (Post : Moment → Type 0) → Walk address is s Post → LineTouchesOnly rom f address is s
  unfolding Walk
  walk-touches [] address s Post w = tt
  walk-touches (i ∷ is) address s Post w = (
    λ here. ((w.0 here).0, λ on. walk-touches is (address + 4) (moment_done rom i s) Post ((w.0 here).2 on)),
    λ away. walk-touches is (address + 4) s Post (w.1 away),
  )

  -- a line that uses no RAM and no port and leads somewhere, and then the rest
  pub walk-line : (is rest : List Instr) (address : ℕ) (s end : Moment) (Post : Moment → Type 0) → ArePortless is → LineDoes rom address is s end
      → Walk (address + 4 * length is) rest end Post → Walk address (is ++ rest) s Post
  unfolding Walk
  walk-line [] rest address s end Post portless d w =
      let e : address + 4 * 0 ≡ address = omega arith in subst (λ m. Walk address rest m Post) d (subst (λ a. Walk a rest end Post) e w)
  walk-line (i ∷ is) rest address s end Post portless (inl d) w = (
    λ here. (
      permits-none rom f _ (access-portless rom i s portless.0),
      λ stopped. (let goes = d.1 in absurd (cc)),
      λ on. walk-line is rest (address + 4) (moment_done rom i s) end Post portless.1 d.2 (subst (λ a. Walk a rest end Post) (sym (shift address is)) w),
    ),
    λ away. absurd (away d.0),
  )
  walk-line (i ∷ is) rest address s end Post portless (inr d) w = (
    λ here. absurd (d.0 here),
    λ away. walk-line is rest (address + 4) s end Post portless.1 d.1 (subst (λ a. Walk a rest end Post) (sym (shift address is)) w),
  )
