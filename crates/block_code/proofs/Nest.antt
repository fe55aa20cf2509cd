-- How the two bounds of a block compare.
use Rattle.std.proofs.Common.{ℕ, zero, suc, ◌+◌, ◌*◌, ◌<◌, ◌≤◌, max, arith}
use Rattle.std.proofs.Math.Nat.{mul-le-mul_left}
use Rattle.block_code.specs.Block.{IsBlock}
use Rattle.block_code.specs.Law.{LawOfNest}
use Rattle.block_code.specs.Plan.{If, Line, Loop, Plan, Scan, Seq, full, nest}

-- more of both
pub both-more : (a b c d : ℕ) → a ≤ c → b ≤ d → (a + 1) * b ≤ (c + 1) * d
both-more a b c d h k =
    let first : (a + 1) * b ≤ (a + 1) * d = mul-le-mul_left (a + 1) k in
    let second : d * (a + 1) ≤ d * (c + 1) = mul-le-mul_left d (omega arith) in omega (arith, first, second)

-- a part that is run at least once costs no more than the whole
at-least-once : (count a b : ℕ) → 0 < count → a ≤ b + count * (a + b)
at-least-once zero a b h = absurd (omega arith)
at-least-once (suc n) a b h = let more : 0 ≤ n * (a + b) = omega arith in omega (arith, more)

pub law-of-nest : (tree : Plan) → IsBlock tree → LawOfNest tree
law-of-nest (Line instrs) b = omega arith
law-of-nest (Seq first second) b =
    let f = law-of-nest first b.0 in let g = law-of-nest second b.1 in
    let n = max (nest first) (nest second) in
    let f' = both-more (nest first) (full first) n (full first) (omega arith) (omega arith) in
    let g' = both-more (nest second) (full second) n (full second) (omega arith) (omega arith) in
    omega (arith, f, g, f', g')
law-of-nest (If test then_part else_part) b =
    let f = law-of-nest then_part b.0 in let g = law-of-nest else_part b.1 in
    let n = max (nest then_part) (nest else_part) in let m = max (full then_part) (full else_part) in
    let f' = both-more (nest then_part) (full then_part) n m (omega arith) (omega arith) in
    let g' = both-more (nest else_part) (full else_part) n m (omega arith) (omega arith) in
    omega (arith, f, g, f', g')
law-of-nest (Loop count slot body) b =
    let f = law-of-nest body b.2 in
    let once = at-least-once count (full body) 16 b.0.some in
    let f' = both-more (nest body) (full body) (nest body) (full (Loop count slot body)) (omega arith) (omega (arith, once)) in
    omega (arith, f, f')
law-of-nest (Scan count slot guard test found none) b =
    let whole = full (Scan count slot guard test found none) in
    let once = at-least-once count (full guard) 24 b.0.some in
    let n = max (max (nest guard) (nest found)) (nest none) in
    let e = law-of-nest guard b.2 in let f = law-of-nest found b.3 in let g = law-of-nest none b.4 in
    let e' = both-more (nest guard) (full guard) n whole (omega arith) (omega (arith, once)) in
    let f' = both-more (nest found) (full found) n whole (omega arith) (omega arith) in
    let g' = both-more (nest none) (full none) n whole (omega arith) (omega arith) in
    omega (arith, e, f, g, e', f', g')
