-- How large rules without loops are.
use Rattle.std.proofs.Common.{◌≡◌, ℕ, ◌+◌, ◌<◌, List, [], ◌∷◌, zero, suc, map, length, get_or, sym, ap, ◌∙◌, arith}
use Rattle.rule_expand.specs.declared.flat.Flat.{Flat, Flat-F, fold-roll-Flat, map-Flat, roll-Flat}
use Rattle.rule_expand.specs.declared.flat.Flat.TheFolds.{fold-Flat}
use Rattle.rule_expand.specs.Expanding.{Case}
use Rattle.asm_names.specs.declared.resolved_term.ResolvedTerm.{ResolvedTerm}

abbrev pub total : List ℕ → ℕ
total [] = 0
total (n ∷ ns) = 1 + (n + total ns)

abbrev pub case_total : List (ResolvedTerm × ℕ) → ℕ
case_total [] = 0
case_total (case ∷ cases) = 2 + (case.1 + case_total cases)

abbrev pub size_by : Flat-F ℕ → ℕ
size_by Flat-F.Skip = 1
size_by (Flat-F.Update fun args value) = 1
size_by (Flat-F.Par parts) = 1 + total parts
size_by (Flat-F.Cases list other) = 1 + (case_total list + other)
size_by (Flat-F.Let binder value body) = 1 + body

unfoldable pub size : Flat → ℕ
size = fold-Flat ℕ size_by

abbrev pub sizes : List Flat → ℕ
sizes flats = total (map size flats)

abbrev pub case_size : Case → ResolvedTerm × ℕ
case_size case = (case.0, size case.1)

abbrev pub case_sizes : List Case → ℕ
case_sizes cases = case_total (map case_size cases)

-- the size of a rule of some form, by those of its parts
pub size_of : (flat whole : Flat) (x : Flat-F Flat) → flat ≡ whole → roll-Flat x ≡ whole → size flat ≡ size_by (map-Flat Flat ℕ size x)
unfolding size
size_of flat whole x e r = ap size (e ∙ sym r) ∙ fold-roll-Flat ℕ size_by x

-- each part is less than all
pub part-less : (flats : List Flat) (i : ℕ) (d : Flat) → i < length flats → size (get_or flats i d) < sizes flats
part-less [] i d below = absurd (omega arith)
part-less (flat ∷ flats) zero d below = omega arith
part-less (flat ∷ flats) (suc i) d below = let less = part-less flats i d (omega arith) in omega arith

pub case-less : (cases : List Case) (i : ℕ) (d : Case) → i < length cases → 1 + size (get_or cases i d).1 < case_sizes cases
case-less [] i d below = absurd (omega arith)
case-less (case ∷ cases) zero d below = omega arith
case-less (case ∷ cases) (suc i) d below = let less = case-less cases i d (omega arith) in omega arith
