-- How many bytes are left behind the lines of a text.
use Rattle.std.proofs.Common.{◌≡◌, ℕ, Bool, true, false, cond, ◌==◌, List, [], ◌∷◌, length, refl, ap}
use Rattle.std.specs.Io.BufRead.{drop_through}
use Rattle.text_core.specs.Lines.{lines}
use Rattle.job_text.specs.Rows.{left_behind, or_end, rows}

by_feed : (feed : Bool) (cs : List ℕ) → or_end (left_behind cs) ≡ length (drop_through 10 cs) ∷ left_behind (drop_through 10 cs)
    → cond feed (length cs ∷ left_behind cs) (or_end (left_behind cs))
    ≡ length (cond feed cs (drop_through 10 cs)) ∷ left_behind (cond feed cs (drop_through 10 cs))
by_feed true cs e = refl
by_feed false cs e = e

first_left : (c : ℕ) (cs : List ℕ) → left_behind (c ∷ cs) ≡ length (drop_through 10 (c ∷ cs)) ∷ left_behind (drop_through 10 (c ∷ cs))
first_left c [] = by_feed (c == 10) [] refl
first_left c (d ∷ ds) = by_feed (c == 10) (d ∷ ds) (ap or_end (first_left d ds))

-- the rows of a text are its first line, with what is left behind it, and the rows of that
pub first_row : (text line rest : List ℕ) → lines text ≡ line ∷ lines rest → rest ≡ drop_through 10 text
    → rows text ≡ record { line = line; left = length rest } ∷ rows rest
unfolding rows
first_row [] line rest e behind = absurd (cc)
first_row (c ∷ cs) line rest e behind = rw (e, first_left c cs, behind) refl
