-- Keywords, words and runs of bytes.
use Rattle.std.proofs.Common.{◌≡◌, ℕ, zero, suc, ◌<◌, true, false, List, [], ◌∷◌, ◌++◌, length, take, get_or, refl, sym, ap, ◌∙◌, arith}
use Rattle.std.proofs.lemmas.Bool.{and_parts, and_from, false≢true}
use Rattle.asm_tokens.specs.Lexing.{is_word, all_word, begins_word}

pub all_word-more : (i : ℕ) (z : List ℕ) → i < length z → all_word (take i z) ≡ true → is_word (get_or z i 0) ≡ true → all_word (take (suc i) z) ≡ true
all_word-more i [] lt h w = absurd (omega arith)
all_word-more zero (b ∷ z) lt h w = rw w refl
all_word-more (suc i) (b ∷ z) lt h w =
    let p = and_parts (is_word b) (all_word (take i z)) h in
    and_from (is_word b) (all_word (take (suc i) z)) p.0 (all_word-more i z (omega arith) p.1 w)

-- a run of word bytes that ends is one run
pub same_run : (v w y z : List ℕ) → all_word v ≡ true → all_word w ≡ true → begins_word y ≡ false → begins_word z ≡ false → v ++ y ≡ w ++ z → (v ≡ w) × (y ≡ z)
same_run [] [] y z hv hw hy hz e = (refl, e)
same_run [] (b ∷ w) y z hv hw hy hz e =
    let p = and_parts (is_word b) (all_word w) hw in
    absurd (false≢true (sym hy ∙ ap begins_word e ∙ p.0))
same_run (a ∷ v) [] y z hv hw hy hz e =
    let p = and_parts (is_word a) (all_word v) hv in
    absurd (false≢true (sym hz ∙ ap begins_word (sym e) ∙ p.0))
same_run (a ∷ v) (b ∷ w) y z hv hw hy hz e =
    let p = and_parts (is_word a) (all_word v) hv in
    let q = and_parts (is_word b) (all_word w) hw in
    let first : a ≡ b = cc in
    let others : v ++ y ≡ w ++ z = cc in
    let r = same_run v w y z p.1 q.1 hy hz others in
    (rw (first, r.0) refl, r.1)
