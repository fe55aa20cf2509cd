-- What hexadecimal digits spell is a word.
use Rattle.std.proofs.Common.{◌≡◌, ℕ, suc, ◌+◌, ◌-◌, ◌*◌, ◌^◌, ◌<◌, ◌≤◌, Bool, true, false, ◌&&◌, List, [], ◌∷◌, length, Option, Some, None, option_and_then, refl, sym, ap, subst, arith, zero-add, nat_le}
use Rattle.std.specs.Char.{is_ascii_digit}
use Rattle.std.proofs.Math.Nat.{pow-le-pow_right, pow-succ'}
use Rattle.std.proofs.lemmas.Bool.{cond_both, false≢true, leb-true}
use Rattle.text_core.specs.Hexadecimal.{digit_value, hexadecimal, hexadecimal_from}

both_of : (a b : Bool) → (a && b) ≡ true → (a ≡ true) × (b ≡ true)
both_of true b e = (refl, e)
both_of false b e = absurd (false≢true e)

digit-below : (c d : ℕ) → digit_value c ≡ Some d → d < 16
digit-below c d =
    cond_both (is_ascii_digit c) _ _ (λ o. o ≡ Some d → d < 16)
    (λ b e. let r = both_of (nat_le 48 c) (nat_le c 57) b in let h = leb-true c 57 r.1 in let is : c - 48 ≡ d = cc in omega arith)
    (λ n. cond_both (nat_le 97 c && nat_le c 102) _ _ (λ o. o ≡ Some d → d < 16)
    (λ b e. let r = both_of (nat_le 97 c) (nat_le c 102) b in let h = leb-true c 102 r.1 in let is : c - 87 ≡ d = cc in omega arith)
    (λ n. cond_both (nat_le 65 c && nat_le c 70) _ _ (λ o. o ≡ Some d → d < 16)
    (λ b e. let r = both_of (nat_le 65 c) (nat_le c 70) b in let h = leb-true c 70 r.1 in let is : c - 55 ≡ d = cc in omega arith)
    (λ n e. absurd (cc))))

-- as many digits behind a number below 16 ^ k
from-below : (k n : ℕ) (digits : List ℕ) (m : ℕ) → n < 16 ^ k → hexadecimal_from n digits ≡ Some m → m < 16 ^ (k + length digits)
from-below k n [] m h e = let is : n ≡ m = cc in let z : k + 0 ≡ k = omega arith in subst (λ j. m < 16 ^ j) (sym z) (omega arith)
from-below k n (c ∷ cs) m h e = by-digit (λ d. from-below (suc k) (n * 16 + d) cs m) (digit_value c) refl e
  where
    by-digit : ((d : ℕ) → n * 16 + d < 16 ^ suc k → hexadecimal_from (n * 16 + d) cs ≡ Some m → m < 16 ^ (suc k + length cs))
        → (o : Option ℕ) → digit_value c ≡ o → option_and_then (λ digit. hexadecimal_from (n * 16 + digit) cs) o ≡ Some m → m < 16 ^ (k + length (c ∷ cs))
    by-digit later None is e = absurd (cc)
    by-digit later (Some d) is e =
        let small = digit-below c d is in
        let next : n * 16 + d < 16 ^ suc k = omega (arith, pow-succ' 16 k) in
        let z : suc k + length cs ≡ k + length (c ∷ cs) = omega arith in
        subst (λ j. m < 16 ^ j) z (later d next e)

pub hexadecimal-below : (text : List ℕ) (m : ℕ) → hexadecimal text ≡ Some m → m < 2 ^ 32
hexadecimal-below text m =
    cond_both (nat_le 1 (length text) && nat_le (length text) 8) _ _ (λ o. o ≡ Some m → m < 2 ^ 32)
    (λ b e. let r = both_of (nat_le 1 (length text)) (nat_le (length text) 8) b in
    let h = leb-true (length text) 8 r.1 in
    let a = from-below 0 0 text m (omega arith) e in
    let p : 16 ^ length text ≤ 16 ^ 8 = pow-le-pow_right (omega arith) h in
    let z : 16 ^ (0 + length text) ≡ 16 ^ length text = ap (λ k. 16 ^ k) (zero-add (length text)) in omega arith)
    (λ n e. absurd (cc))
