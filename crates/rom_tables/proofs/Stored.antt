-- The tables of a program, one behind the other.
use Rattle.std.proofs.Common.{◌≡◌, ℕ, zero, suc, ◌+◌, ◌^◌, ◌<◌, ℤ, pos, List, [], ◌∷◌, ◌++◌, length, length-append, map, take, Option, Some, None, refl, sym, ap, ◌∙◌, subst, arith, lit<}
use Rattle.std.specs.Prelude.{slice_get, slice_index, slice_index_or, if◌then◌else◌, unsigned_abs, ◌-ℤ◌, negsuc}
use Rattle.std.specs.List.{AllByRecursion, range_with_len}
use Rattle.std.proofs.lemmas.Int.{ints}
use Rattle.std.proofs.lemmas.List.{get_or-append-add, get_or_append_left}
use Rattle.std.proofs.lemmas.List.Sums.{sum_by-cons}
use Rattle.asm_names.specs.declared.program.Domain.{Domain}
use Rattle.asm_names.specs.declared.program.Fun.{Fun}
use Rattle.asm_tree.specs.declared.decl.Kind.{Kind}
use Rattle.asm_tree.specs.declared.decl.Kind.TheVariants as kinds
use Rattle.rv_encode.specs.Table.{AreRows, Row}
use Rattle.state_space.specs.Codomains.{In, whole}
use Rattle.state_space.specs.Locations.{range_of, signature_of, tuples}
use Rattle.state_space.specs.Sizes.{IsRange, IsSized, padded_count, padded_own, padded_sum}
use Rattle.state_space.specs.declared.signature.Range.{Range}
use Rattle.asm_ranges.specs.Ranges.{IfStatic, TableFits}
use Rattle.rom_tables.specs.Law.{AreTableWords, TableHoldsValue, TablesAreLong, is_static, table_start}
use Rattle.rom_tables.specs.Tables.{EachHolds, fun_row, index_at, index_in, own_row, place_at, rows, table_entry, table_number}
use Rattle.rom_tables.proofs.Placed.{place-below, stands-at_place}
use Rattle.rom_tables.proofs.Rows.{each-holds, row-at, row-length, there}

own-length : (kind : Kind) (row : List ℕ) (n : ℕ) → length row ≡ n → length (own_row kind row) ≡ (if is_static kind then n else 0)
own-length kinds.Static row n e = e
own-length kinds.Controlled row n e = refl
own-length kinds.Output row n e = refl
own-length kinds.Input row n e = refl

-- the table of one function is as long as its padded size
fun-length : (domains : List Domain) (fun : Fun) → length (own_row fun.kind (fun_row domains fun)) ≡ padded_own is_static (signature_of domains fun)
fun-length domains fun = own-length fun.kind (fun_row domains fun) (padded_count (map (range_of domains) fun.args)) (row-length domains fun)

pub rows-length : (domains : List Domain) (funs : List Fun) → length (rows domains funs) ≡ padded_sum is_static (map (signature_of domains) funs)
rows-length domains [] = refl
rows-length domains (fun ∷ funs) =
    length-append (own_row fun.kind (fun_row domains fun)) (rows domains funs)
    ∙ omega (arith, fun-length domains fun, rows-length domains funs, sum_by-cons (padded_own is_static) (signature_of domains fun) (map (signature_of domains) funs))

static-row : (kind : Kind) (row : List ℕ) → kind ≡ kinds.Static → own_row kind row ≡ row
static-row kind row e = ap (λ k. own_row k row) e

-- what stands at a place of a function's table stands behind the tables before it
pub rows-at : (domains : List Domain) (funs : List Fun) (number : ℕ) (fun : Fun) (place : ℕ) → slice_get funs number ≡ Some fun → fun.kind ≡ kinds.Static → place < length (fun_row domains fun)
    → slice_index (rows domains funs) (table_start domains funs number + place) ≡ slice_index (fun_row domains fun) place
rows-at domains [] number fun place is static below = absurd (cc)
rows-at domains (f ∷ funs) zero fun place is static below =
    let same : f ≡ fun = cc in
    let start : table_start domains (f ∷ funs) zero + place ≡ place = omega arith in
    ap (slice_index (rows domains (f ∷ funs))) start
    ∙ subst (λ g. slice_index (own_row g.kind (fun_row domains g) ++ rows domains funs) place ≡ slice_index (fun_row domains fun) place) (sym same)
    (ap (λ l. slice_index (l ++ rows domains funs) place) (static-row fun.kind (fun_row domains fun) static) ∙ get_or_append_left (fun_row domains fun) (rows domains funs) 0 place below)
rows-at domains (f ∷ funs) (suc number) fun place is static below =
    let own = own_row f.kind (fun_row domains f) in
    let start : table_start domains (f ∷ funs) (suc number) + place ≡ length own + (table_start domains funs number + place) =
    omega (arith, fun-length domains f, sum_by-cons (padded_own is_static) (signature_of domains f) (map (signature_of domains) (take number funs))) in
    ap (slice_index (own ++ rows domains funs)) start ∙ get_or-append-add own (rows domains funs) (table_start domains funs number + place) 0 ∙ rows-at domains funs number fun place is static below

sized-at : (domains : List Domain) (funs : List Fun) (number : ℕ) (fun : Fun) → AllByRecursion IsSized (map (signature_of domains) funs) → slice_get funs number ≡ Some fun → IsSized (signature_of domains fun)
sized-at domains [] number fun all is = absurd (cc)
sized-at domains (f ∷ funs) zero fun all is = let same : f ≡ fun = cc in subst (λ g. IsSized (signature_of domains g)) same all.0
sized-at domains (f ∷ funs) (suc number) fun all is = sized-at domains funs number fun all.1 is

pub table-holds-value : TableHoldsValue
table-holds-value program all number fun is static tuple place below placed =
    let domains = program.domains in
    let sized = sized-at domains program.funs number fun all is in
    let stands = stands-at_place (map (range_of domains) fun.args) sized.few sized.domains tuple place below placed in
    rows-at domains program.funs number fun place is static (omega (arith, row-length domains fun, stands.0)) ∙ row-at domains fun place 0 stands.0
    ∙ ap (index_at (range_of domains fun.codomain) fun.table) stands.1

pub tables-are-long : TablesAreLong
tables-are-long program = rows-length program.domains program.funs

-- ---- words

-- an index is small
index-small : (range : Range) (value : ℤ) → IsRange range → In (whole range) value → index_in range value < 2 ^ 20
index-small range value few within = by_sign (value -ℤ range.lo) refl
  where
    by_sign : (z : ℤ) → value -ℤ range.lo ≡ z → index_in range value < 2 ^ 20
    by_sign (pos d) e =
        let high = within.high in let most = few.few in
        let below : d < 2 ^ 20 = omega (arith, ints, high, e, most) in subst (λ z. unsigned_abs z < 2 ^ 20) (sym e) below
    by_sign (negsuc d) e = let low = within.low in absurd (omega (arith, ints, low, e))

cell-small : (range : Range) (table : List ℤ) (count : ℕ) (o : Option ℕ) → IsRange range → EachHolds range table count → ((number : ℕ) → o ≡ Some number → number < count) → index_at range table o < 2 ^ 20
cell-small range table count None few holds inside = lit< tt
cell-small range table count (Some number) few holds inside =
    index-small range (slice_index_or table number (pos 0)) few (there table number (In (whole range)) (holds number (inside number refl))).1

pub word-row : (index : ℕ) → index < 2 ^ 20 → Row (table_number index) (table_entry index)
unfolding Row
word-row index small = record { rd_in_range = lit< tt; imm_in_range = small; word_is = omega arith }

-- the words of a row
mapped-rows : {A : Type 0} (f : A → ℕ) (xs : List A) → ((x : A) → f x < 2 ^ 20) → AreRows (map table_number (map f xs)) (map table_entry (map f xs))
mapped-rows f [] small = tt
mapped-rows f (x ∷ xs) small = (word-row (f x) (small x), mapped-rows f xs small)

fun-rows : (domains : List Domain) (fun : Fun) → IsSized (signature_of domains fun) → TableFits (signature_of domains fun) fun.table → AreRows (map table_number (fun_row domains fun)) (map table_entry (fun_row domains fun))
fun-rows domains fun sized fits =
    let args = map (range_of domains) fun.args in
    let codomain = range_of domains fun.codomain in
    mapped-rows (λ place. index_at codomain fun.table (place_at args place)) (range_with_len 0 (padded_count args)) (λ place.
    cell-small codomain fun.table (length (tuples args)) (place_at args place) sized.range (each-holds args codomain fun.table fits) (λ number e. place-below args sized.domains place number e))

own-rows : (domains : List Domain) (fun : Fun) (kind : Kind) → IsSized (signature_of domains fun) → IfStatic kind (TableFits (signature_of domains fun) fun.table)
    → AreRows (map table_number (own_row kind (fun_row domains fun))) (map table_entry (own_row kind (fun_row domains fun)))
own-rows domains fun kinds.Static sized fits = fun-rows domains fun sized fits
own-rows domains fun kinds.Controlled sized fits = tt
own-rows domains fun kinds.Output sized fits = tt
own-rows domains fun kinds.Input sized fits = tt

rows-append : (xs ys : List ℕ) → AreRows (map table_number xs) (map table_entry xs) → AreRows (map table_number ys) (map table_entry ys) → AreRows (map table_number (xs ++ ys)) (map table_entry (xs ++ ys))
rows-append [] ys h k = k
rows-append (x ∷ xs) ys h k = (h.0, rows-append xs ys h.1 k)

all-rows : (domains : List Domain) (funs : List Fun) → AllByRecursion IsSized (map (signature_of domains) funs) → AllByRecursion (λ fun. IfStatic fun.kind (TableFits (signature_of domains fun) fun.table)) funs
    → AreRows (map table_number (rows domains funs)) (map table_entry (rows domains funs))
all-rows domains [] sized fits = tt
all-rows domains (fun ∷ funs) sized fits =
    rows-append (own_row fun.kind (fun_row domains fun)) (rows domains funs) (own-rows domains fun fun.kind sized.0 fits.0) (all-rows domains funs sized.1 fits.1)

pub are-table-words : AreTableWords
are-table-words program sized fits = all-rows program.domains program.funs sized fits
