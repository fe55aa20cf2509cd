-- Where the parts of a block stand.
use Rattle.std.proofs.Common.{◌≡◌, ℕ, suc, ◌+◌, ◌*◌, ◌≤◌, List, [], ◌∷◌, ◌++◌, length, Some, refl, ◌∙◌, subst, arith, length-append}
use Rattle.rv_isa.specs.declared.instr.Instr.{Instr}
use Rattle.rv_machine.specs.Code.{Stands}
use Rattle.rv_machine.specs.Tick.{fetched}
use Rattle.block_code.specs.During.{During}
use Rattle.block_code.specs.Moment.{Moment}
use Rattle.block_code.specs.Place.{Within}
use Rattle.block_code.specs.Plan.{If, Line, Loop, Plan, Scan, Seq, backward, code, compared, entry, forward, full, len, raised, reset, skip_below, skip_if_set}

pub length-code : (tree : Plan) → length (code tree) ≡ len tree
length-code (Line instrs) = refl
length-code (Seq first second) = length-append (code first) (code second) ∙ omega (arith, length-code first, length-code second)
length-code (If test then_part else_part) =
    let e = length-append (code then_part) (forward (len else_part + 1) ∷ code else_part) in
    omega (arith, e, length-code then_part, length-code else_part)
length-code (Loop count slot body) =
    let e = length-append (code body) (raised slot ++ backward (len body + 10) ∷ []) in
    omega (arith, e, length-code body)
length-code (Scan count slot guard test found none) =
    let rest = code found ++ forward (len none + 1) ∷ code none in
    let e = length-append (code guard) (skip_if_set test 24 ∷ (raised slot ++ backward (len guard + 11) ∷ rest)) in
    let f = length-append (code found) (forward (len none + 1) ∷ code none) in
    omega (arith, e, f, length-code guard, length-code found, length-code none)

-- a block takes at least as long from some place inside as from its top
pub full-le-entry : (tree : Plan) → full tree ≤ entry tree
full-le-entry (Line instrs) = omega arith
full-le-entry (Seq first second) = let a = full-le-entry first in omega arith
full-le-entry (If test then_part else_part) = let a = full-le-entry then_part in let b = full-le-entry else_part in omega arith
full-le-entry (Loop count slot body) = omega arith
full-le-entry (Scan count slot guard test found none) = omega arith

pub wider : {low high low' high' : ℕ} → low ≤ low' → high' ≤ high → (s : Moment) → Within low' high' s → Within low high s
wider f t s w = let a = w.from in let b = w.below in record { from = omega arith; below = omega arith }

pub widen : (Q : Moment → Type 0) {low high low' high' : ℕ} → low ≤ low' → high' ≤ high → (s : Moment) → During Q low' high' s → During Q low high s
widen Q f t s w = (wider f t s w.0, w.1)

module _ (rom : List ℕ) where
  pub stands-append : (address : ℕ) (xs ys : List Instr) → Stands rom address (xs ++ ys) → Stands rom address xs × Stands rom (address + 4 * length xs) ys
  stands-append address [] ys s = let e : address ≡ address + 4 * 0 = omega arith in (tt, subst (λ a. Stands rom a ys) e s)
  stands-append address (x ∷ xs) ys s =
      let rest = stands-append (address + 4) xs ys s.1 in
      let e : address + 4 + 4 * length xs ≡ address + 4 * suc (length xs) = omega arith in
      ((s.0, rest.0), subst (λ a. Stands rom a ys) e rest.1)

  -- the code of a block, and what stands behind it
  pub stands-block : (address : ℕ) (tree : Plan) (ys : List Instr) → Stands rom address (code tree ++ ys) → Stands rom address (code tree) × Stands rom (address + 4 * len tree) ys
  stands-block address tree ys s =
      let parts = stands-append address (code tree) ys s in
      (parts.0, subst (λ n. Stands rom (address + 4 * n) ys) (length-code tree) parts.1)

  pub stands-at : (a b : ℕ) (xs : List Instr) → a ≡ b → Stands rom a xs → Stands rom b xs
  stands-at a b xs e s = subst (λ n. Stands rom n xs) e s

  pub fetched-at : (a b : ℕ) (i : Instr) → a ≡ b → fetched rom a ≡ Some i → fetched rom b ≡ Some i
  fetched-at a b i e f = subst (λ n. fetched rom n ≡ Some i) e f

  pub record IfStands (address test : ℕ) (then_part else_part : Plan) : Type 0 where
    pub test_at : fetched rom address ≡ Some (skip_if_set test 8)
    pub over_at : fetched rom (address + 4) ≡ Some (forward (len then_part + 2))
    pub then_at : Stands rom (address + 8) (code then_part)
    pub out_at : fetched rom (address + 8 + 4 * len then_part) ≡ Some (forward (len else_part + 1))
    pub else_at : Stands rom (address + 12 + 4 * len then_part) (code else_part)

  pub if-stands : (address test : ℕ) (then_part else_part : Plan) → Stands rom address (code (If test then_part else_part)) → IfStands address test then_part else_part
  if-stands address test then_part else_part s =
      let rest = stands-at (address + 4 + 4) (address + 8) _ (omega arith) s.1.1 in
      let parts = stands-block (address + 8) then_part _ rest in
      record {
        test_at = s.0;
        over_at = s.1.0;
        then_at = parts.0;
        out_at = parts.1.0;
        else_at = stands-at (address + 8 + 4 * len then_part + 4) (address + 12 + 4 * len then_part) (code else_part) (omega arith) parts.1.1;
      }

  pub record LoopStands (address count slot : ℕ) (body : Plan) : Type 0 where
    pub reset_at : Stands rom address (reset slot)
    pub compared_at : Stands rom (address + 8) (compared count slot)
    pub test_at : fetched rom (address + 24) ≡ Some skip_below
    pub out_at : fetched rom (address + 28) ≡ Some (forward (len body + 6))
    pub body_at : Stands rom (address + 32) (code body)
    pub raised_at : Stands rom (address + 32 + 4 * len body) (raised slot)
    pub back_at : fetched rom (address + 48 + 4 * len body) ≡ Some (backward (len body + 10))

  pub loop-stands : (address count slot : ℕ) (body : Plan) → Stands rom address (code (Loop count slot body)) → LoopStands address count slot body
  loop-stands address count slot body s =
      let tail : List Instr = raised slot ++ backward (len body + 10) ∷ [] in
      let inner : List Instr = code body ++ tail in
      let from_test : List Instr = skip_below ∷ forward (len body + 6) ∷ inner in
      let first = stands-append address (reset slot) (compared count slot ++ from_test) s in
      let second = stands-append (address + 8) (compared count slot) from_test
      (stands-at (address + 4 * 2) (address + 8) (compared count slot ++ from_test) (omega arith) first.1) in
      let third = stands-at (address + 8 + 4 * 4) (address + 24) from_test (omega arith) second.1 in
      let parts = stands-block (address + 32) body tail (stands-at (address + 24 + 4 + 4) (address + 32) inner (omega arith) third.1.1) in
      let last = stands-append (address + 32 + 4 * len body) (raised slot) (backward (len body + 10) ∷ []) parts.1 in
      record {
        reset_at = first.0;
        compared_at = second.0;
        test_at = third.0;
        out_at = fetched-at (address + 24 + 4) (address + 28) _ (omega arith) third.1.0;
        body_at = parts.0;
        raised_at = last.0;
        back_at = fetched-at (address + 32 + 4 * len body + 4 * 4) (address + 48 + 4 * len body) _ (omega arith) last.1.0;
      }

  pub record ScanStands (address count slot : ℕ) (guard : Plan) (test : ℕ) (found none : Plan) : Type 0 where
    pub reset_at : Stands rom address (reset slot)
    pub compared_at : Stands rom (address + 8) (compared count slot)
    pub test_at : fetched rom (address + 24) ≡ Some skip_below
    pub out_at : fetched rom (address + 28) ≡ Some (forward (len guard + len found + 8))
    pub guard_at : Stands rom (address + 32) (code guard)
    pub judged_at : fetched rom (address + 32 + 4 * len guard) ≡ Some (skip_if_set test 24)
    pub raised_at : Stands rom (address + 36 + 4 * len guard) (raised slot)
    pub back_at : fetched rom (address + 52 + 4 * len guard) ≡ Some (backward (len guard + 11))
    pub found_at : Stands rom (address + 56 + 4 * len guard) (code found)
    pub past_at : fetched rom (address + 56 + 4 * len guard + 4 * len found) ≡ Some (forward (len none + 1))
    pub none_at : Stands rom (address + 56 + 4 * len guard + 4 * len found + 4) (code none)

  pub scan-stands : (address count slot : ℕ) (guard : Plan) (test : ℕ) (found none : Plan) → Stands rom address (code (Scan count slot guard test found none))
      → ScanStands address count slot guard test found none
  scan-stands address count slot guard test found none s =
      let ending : List Instr = forward (len none + 1) ∷ code none in
      let finding : List Instr = code found ++ ending in
      let rest : List Instr = backward (len guard + 11) ∷ finding in
      let judging : List Instr = skip_if_set test 24 ∷ (raised slot ++ rest) in
      let inner : List Instr = code guard ++ judging in
      let from_test : List Instr = skip_below ∷ forward (len guard + len found + 8) ∷ inner in
      let first = stands-append address (reset slot) (compared count slot ++ from_test) s in
      let second = stands-append (address + 8) (compared count slot) from_test
      (stands-at (address + 4 * 2) (address + 8) (compared count slot ++ from_test) (omega arith) first.1) in
      let third = stands-at (address + 8 + 4 * 4) (address + 24) from_test (omega arith) second.1 in
      let parts = stands-block (address + 32) guard judging (stands-at (address + 24 + 4 + 4) (address + 32) inner (omega arith) third.1.1) in
      let raising = stands-append (address + 36 + 4 * len guard) (raised slot) rest
      (stands-at (address + 32 + 4 * len guard + 4) (address + 36 + 4 * len guard) (raised slot ++ rest) (omega arith) parts.1.1) in
      let back = stands-at (address + 36 + 4 * len guard + 4 * 4) (address + 52 + 4 * len guard) rest (omega arith) raising.1 in
      let last = stands-block (address + 56 + 4 * len guard) found ending
      (stands-at (address + 52 + 4 * len guard + 4) (address + 56 + 4 * len guard) finding (omega arith) back.1) in
      record {
        reset_at = first.0;
        compared_at = second.0;
        test_at = third.0;
        out_at = fetched-at (address + 24 + 4) (address + 28) _ (omega arith) third.1.0;
        guard_at = parts.0;
        judged_at = parts.1.0;
        raised_at = raising.0;
        back_at = back.0;
        found_at = last.0;
        past_at = last.1.0;
        none_at = last.1.1;
      }
