-- A text that begins with what was there before still does when more is appended.
use Rattle.std.proofs.Common.{ℕ, List, ◌++◌, length, take, drop, ap, ◌∙◌, append_assoc}
use Rattle.std.proofs.KnownBytes.{starts_with_rest}
use Rattle.std.proofs.Math.Seq.{take-append_seam}
use Rattle.std.specs.Io.{StartsWith}

pub begun_more : (text more old : List ℕ) → StartsWith text old → StartsWith (text ++ more) old
begun_more text more old begun =
    let rest = drop (length old) text in
    ap (λ front. take (length old) (front ++ more)) (starts_with_rest text old begun) ∙ ap (take (length old)) (append_assoc old rest more) ∙ take-append_seam old (rest ++ more)
