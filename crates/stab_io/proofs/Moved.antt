-- What a loop of reads has taken.
use Rattle.std.proofs.Common.{ℕ, ◌-◌, ◌<◌, ◌≤◌, ◌≡◌, List, ◌++◌, length, take, arith, length-append, length-take-le}
use Rattle.std.specs.declared.option.Option.{Option}
use Rattle.std.specs.Io.KnownBytes.{Consumes}
use Rattle.std.proofs.KnownBytes.{Consumes-trans}
use Rattle.stab_io.specs.Pieces.{TakesAtMost, TakesMoreThan}

-- bytes were taken, and then more than the limit leaves room for
pub took_more : (limit n : ℕ) (bytes chunk : List ℕ) (old now next : Option (List ℕ)) → Consumes old now bytes → length bytes ≤ limit → n ≤ length chunk → limit - length bytes < n
    → Consumes now next (take n chunk) → TakesMoreThan limit old next
took_more limit n bytes chunk old now next first within fits over more =
    let len : length (take n chunk) ≡ n = length-take-le n chunk fits in
    (bytes ++ take n chunk, omega (arith, len, length-append bytes (take n chunk)), Consumes-trans old now next bytes (take n chunk) first more)

-- bytes were taken, and then as many as the limit leaves room for
pub took_within : (limit n : ℕ) (bytes chunk : List ℕ) (old now next : Option (List ℕ)) → Consumes old now bytes → length bytes ≤ limit → n ≤ length chunk → n ≤ limit - length bytes
    → Consumes now next (take n chunk) → TakesAtMost limit old next
took_within limit n bytes chunk old now next first within fits room more =
    let len : length (take n chunk) ≡ n = length-take-le n chunk fits in
    (bytes ++ take n chunk, omega (arith, len, length-append bytes (take n chunk)), Consumes-trans old now next bytes (take n chunk) first more)
