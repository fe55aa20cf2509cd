-- RAM whose words are set one after another.
use Rattle.std.proofs.Common.{◌≡◌, ℕ, ◌+◌, ◌*◌, ◌≤◌, List, ◌∷◌, ◌++◌, take, drop, length, sym, ap, ◌∙◌, arith, length-append}
use Rattle.std.proofs.lemmas.List.{append_assoc, length-take-le, take_at}
use Rattle.byteorder.specs.Endian.{little_bytes}
use Rattle.byteorder.specs.Numbers.{length-bytes_low_first}
use Rattle.rv_machine.specs.Memory.{stored}
use Rattle.job_text.specs.Start.{bytes_of}

-- the bytes up to a word that is set are those of the words
pub words_next : (index word : ℕ) (ram words : List ℕ) → 4 * index + 4 ≤ length ram
    → take (4 * index) ram ++ bytes_of (drop index words) ≡ bytes_of words → drop index words ≡ word ∷ drop (index + 1) words
    → take (4 * (index + 1)) (stored 4 (4 * index) word ram) ++ bytes_of (drop (index + 1) words) ≡ bytes_of words
unfolding stored
words_next index word ram words inside front next =
    let here = take (4 * index) ram in
    let bytes = little_bytes 4 word in
    let behind = drop (4 * index + 4) ram in
    let others = bytes_of (drop (index + 1) words) in
    let long : length (here ++ bytes) ≡ 4 * (index + 1) =
    omega (arith, length-append here bytes, length-take-le (4 * index) ram (omega (arith, inside)), length-bytes_low_first 0 4 word) in
    ap (λ held. take (4 * (index + 1)) held ++ others) (sym (append_assoc here bytes behind))
    ∙ ap (λ held. held ++ others) (take_at (here ++ bytes) behind (4 * (index + 1)) long)
    ∙ append_assoc here bytes others
    ∙ ap (λ held. here ++ held) (sym (ap bytes_of next))
    ∙ front
