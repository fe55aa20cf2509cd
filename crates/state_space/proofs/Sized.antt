-- The functions of a well-formed program have few arguments, and domains that are small.
use Rattle.std.proofs.Common.{ℕ, zero, suc, ◌<◌, List, [], ◌∷◌, length, map, arith}
use Rattle.std.specs.List.{AllByRecursion}
use Rattle.std.proofs.lemmas.List.{length-map}
use Rattle.asm_names.specs.WellFormed.{IsDomain, IsFun, IsWellFormed}
use Rattle.asm_names.specs.declared.program.Domain.{Domain}
use Rattle.asm_names.specs.declared.program.Fun.{Fun}
use Rattle.asm_names.specs.declared.program.Resolved.{Resolved}
use Rattle.state_space.specs.Locations.{range_of, signature_of, signatures_of}
use Rattle.state_space.specs.Sizes.{IsRange, IsSized}

range_at : (domains : List Domain) → AllByRecursion IsDomain domains → (n : ℕ) → n < length domains → IsRange (range_of domains n)
range_at [] all n below = absurd (omega (arith, below))
range_at (d ∷ ds) all zero below = record { some = all.0.some; few = all.0.few; low = all.0.low; high = all.0.high }
range_at (d ∷ ds) all (suc n) below = range_at ds all.1 n (omega (arith, below))

module _ (domains : List Domain) (fit : AllByRecursion IsDomain domains) where
  ranges_at : (numbers : List ℕ) → AllByRecursion (λ n. n < length domains) numbers → AllByRecursion IsRange (map (range_of domains) numbers)
  ranges_at [] below = tt
  ranges_at (n ∷ ns) below = (range_at domains fit n below.0, ranges_at ns below.1)

  signatures_at : (funs : List Fun) → AllByRecursion (IsFun domains) funs → AllByRecursion IsSized (map (signature_of domains) funs)
  signatures_at [] all = tt
  signatures_at (f ∷ fs) all = (
    record {
      few = omega (arith, all.0.few, length-map f.args (range_of domains));
      domains = ranges_at f.args all.0.args;
      range = range_at domains fit f.codomain all.0.codomain;
    },
    signatures_at fs all.1,
  )

pub sized : (program : Resolved) → IsWellFormed program → AllByRecursion IsSized (signatures_of program)
sized program formed = signatures_at program.domains formed.domains program.funs formed.funs
