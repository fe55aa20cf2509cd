-- The first line of a text.
use Rattle.std.proofs.Common.{◌≡◌, ◌≢◌, ℕ, zero, suc, ◌<◌, ◌==◌, Bool, true, false, cond, List, [], ◌∷◌, length, take, drop, get_or, not, refl, sym, ap, ◌∙◌, arith, inl, inr, sub-one, ◌&&◌}
use Rattle.std.specs.Io.BufRead.{drop_through}
use Rattle.std.specs.List.{prefix_len}
use Rattle.std.proofs.lemmas.Bool.{eq-eqb, ne_eqb, cases_eq}
use Rattle.std.proofs.Math.Bool.{and-false}
use Rattle.text_core.specs.Lines.{begins_feed, joined, lines, without_return}

-- how many bytes stand before the first line feed
abbrev pub unfed : List ℕ → ℕ
unfed text = prefix_len (λ byte. not (byte == 10)) text

at_feed : (c : ℕ) (cs : List ℕ) → unfed (c ∷ cs) ≡ 0 → c ≡ 10
at_feed c cs e = elim (cases_eq c 10) [
  | inl feed ↦ feed
  | inr other ↦ absurd (omega (arith, rw (ne_eqb c 10 other) at e))
]

before_feed : (c : ℕ) (cs : List ℕ) (n : ℕ) → unfed (c ∷ cs) ≡ suc n → (c ≢ 10) × (unfed cs ≡ n)
before_feed c cs n e = elim (cases_eq c 10) [
  | inl feed ↦ absurd (omega (arith, rw (eq-eqb c 10 feed) at e))
  | inr other ↦ (other, omega (arith, rw (ne_eqb c 10 other) at e))
]

-- a byte with no line feed behind it begins the line that follows it
begins_line : (c : ℕ) (cs : List ℕ) → c ≢ 10 → begins_feed cs ≡ false → lines (c ∷ cs) ≡ joined c (lines cs)
begins_line c cs other plain = rw (ne_eqb c 10 other, plain, and-false) refl

pub last_line : (c : ℕ) (cs : List ℕ) → unfed (c ∷ cs) ≡ length (c ∷ cs) → lines (c ∷ cs) ≡ (c ∷ cs) ∷ []
last_line c [] e = begins_line c [] (before_feed c [] 0 e).0 refl
last_line c (d ∷ ds) e =
    let first = before_feed c (d ∷ ds) (length (d ∷ ds)) e in
    let second = before_feed d ds (length ds) first.1 in
    begins_line c (d ∷ ds) first.0 (ne_eqb d 10 second.0) ∙ ap (joined c) (last_line d ds first.1)

without_return-more : (c d : ℕ) (ds : List ℕ) → without_return (c ∷ d ∷ ds) ≡ c ∷ without_return (d ∷ ds)
without_return-more c d ds = rw (sub-one, sub-one) (either (get_or (d ∷ ds) (length ds) 0 == 13))
  where
    either : (b : Bool) → cond b (c ∷ take (length ds) (d ∷ ds)) (c ∷ d ∷ ds) ≡ c ∷ cond b (take (length ds) (d ∷ ds)) (d ∷ ds)
    either true = refl
    either false = refl

pub fed_line : (n : ℕ) (text : List ℕ) → unfed text ≡ n → n < length text → lines text ≡ without_return (take n text) ∷ lines (drop (suc n) text)
fed_line n [] e short = absurd (omega arith)
fed_line zero (c ∷ cs) e short = rw (eq-eqb c 10 (at_feed c cs e)) refl
fed_line (suc zero) (c ∷ []) e short = absurd (omega arith)
fed_line (suc zero) (c ∷ d ∷ ds) e short =
    let first = before_feed c (d ∷ ds) 0 e in
    rw (ne_eqb c 10 first.0, eq-eqb d 10 (at_feed d ds first.1)) (either (c == 13))
  where
    either : (b : Bool) → cond (b && true) ([] ∷ lines ds) ((c ∷ []) ∷ lines ds) ≡ cond b [] (c ∷ []) ∷ lines ds
    either true = refl
    either false = refl
fed_line (suc (suc n)) (c ∷ []) e short = absurd (omega arith)
fed_line (suc (suc n)) (c ∷ d ∷ ds) e short =
    let first = before_feed c (d ∷ ds) (suc n) e in
    let second = before_feed d ds n first.1 in
    let rest = fed_line (suc n) (d ∷ ds) first.1 (omega arith) in
    begins_line c (d ∷ ds) first.0 (ne_eqb d 10 second.0) ∙ ap (joined c) rest ∙ ap (λ line. line ∷ lines (drop (suc n) ds)) (sym (without_return-more c d (take n ds)))

pub behind_feed : (n : ℕ) (text : List ℕ) → unfed text ≡ n → drop_through 10 text ≡ drop (suc n) text
behind_feed n [] e = refl
behind_feed zero (c ∷ cs) e = rw (eq-eqb c 10 (at_feed c cs e)) refl
behind_feed (suc n) (c ∷ cs) e = let first = before_feed c cs n e in rw (ne_eqb c 10 first.0) (behind_feed n cs first.1)
