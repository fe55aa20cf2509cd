-- The tables in ROM hold the values of static functions.
use Rattle.std.proofs.Common.{◌≡◌, ℕ, zero, suc, ◌+◌, ◌*◌, ◌/◌, ◌<◌, ◌≤◌, ℤ, pos, negsuc, Bool, true, false, not, cond, ◌||◌, List, [], ◌∷◌, length, map, take, Some, refl, sym, ap, ◌∙◌, subst, arith}
use Rattle.std.specs.{Prelude.{◌+ℤ◌, ◌-ℤ◌, slice_get, slice_index, slice_index_or, unsigned_abs, unwrap_or}, Cmp.Lexicographic.{pointwise}, List.{AllByRecursion, list_any, position_or_len}, Ordering.{int_eq}}
use Rattle.std.proofs.lemmas.{Bool.{and_parts}, Bool.Decides.{Decides-int_eq}, Int.{ints}, List.{get_or-map, length-map}, List.Sums.{passes_at_first}}
use Rattle.asm_tree.specs.declared.decl.Kind.{Kind}
use Rattle.asm_tree.specs.declared.decl.Kind.TheVariants as kinds
use Rattle.asm_names.specs.declared.program.{Domain.{Domain}, Fun.{Fun}, Resolved.{Resolved}}
use Rattle.asm_ranges.specs.{Ranges.{IfStatic, TableFits, TablesFit}, Values.{fun_of, lie_in, no_fun, numbered}}
use Rattle.asm_ranges.proofs.Readings.{found, tuple_in}
use Rattle.rv_encode.specs.Table.{Row}
use Rattle.rv_isa.specs.declared.instr.Instr.TheVariants.{Lui}
use Rattle.rv_machine.specs.Image.{IsImage}
use Rattle.state_space.specs.{declared.signature.{Range.{Range}, Signature.{Signature}}, Arrays.{widened}, Codomains.{In, whole}, Locations.{is_static}, Locations.{range_of, signature_of, signatures_of, tuple_number, tuples}, Sizes.{IsSized, padded_sum}}
use Rattle.state_layout.specs.Map.{padded_index}
use Rattle.state_layout.proofs.Arrays.{first-all, first-more}
use Rattle.rom_anchor.specs.Placed.{IsPlaced}
use Rattle.rom_anchor.proofs.Closed.{tables-stand}
use Rattle.rom_tables.specs.Law.{table_start}
use Rattle.rom_tables.specs.Tables.{index_in, table_indices, table_number}
use Rattle.rom_tables.proofs.Rows.{each-holds, there}
use Rattle.rom_tables.proofs.Stored.{table-holds-value, tables-are-long, word-row}
use Rattle.instr_select.specs.Held.{CountsValue, table_value, table_word}
use Rattle.instr_select.proofs.{Index.{placed, placed-below, placed-number}, ReadValues.{args-in}}
use Rattle.rule_code.specs.TableLaw.{PlacedTablesAreHeld}

-- an item that passes is found where it stands
first-within : {A : Type 0} (p : A → Bool) (xs : List A) → list_any p xs ≡ true → position_or_len p xs < length xs
first-within p [] h = absurd cc
first-within p (x ∷ xs) h =
    elim (p x) as (λ b. (b || list_any p xs) ≡ true → cond (not b) (1 + position_or_len p xs) 0 < suc (length xs)) [
      | true ↦ λ k. omega arith
      | false ↦ λ k. omega (arith, first-within p xs k)
    ] h

all-at : {A : Type 0} (P : A → Type 0) (xs : List A) (i : ℕ) (x : A) → slice_get xs i ≡ Some x → AllByRecursion P xs → P x
all-at P [] i x h all = absurd cc
all-at P (y ∷ xs) zero x h all = let same : y ≡ x = cc in subst P same all.0
all-at P (y ∷ xs) (suc i) x h all = all-at P xs i x h all.1

same-values : (xs ys : List ℤ) → pointwise int_eq xs ys ≡ true → xs ≡ ys
same-values [] [] h = refl
same-values [] (y ∷ ys) h = absurd cc
same-values (x ∷ xs) [] h = absurd cc
same-values (x ∷ xs) (y ∷ ys) h =
    let p = and_parts (int_eq x y) (pointwise int_eq xs ys) h in
    let a : x ≡ y = (Decides-int_eq x y).0 p.0 in
    let b = same-values xs ys p.1 in
    cc

-- the number of a tuple of values in the domains
record IsNumber (ranges : List Range) (vs : List ℤ) (number : ℕ) : Type 0 where
  number_is : tuple_number ranges vs ≡ Some number
  below : number < length (tuples ranges)
  here : slice_index_or (tuples ranges) number [] ≡ vs

number-of : (ranges : List Range) (vs : List ℤ) → lie_in ranges vs ≡ true → (number : ℕ) × IsNumber ranges vs number
number-of ranges vs lies =
    let has = tuple_in vs ranges (args-in vs ranges lies) in
    let within = first-within (pointwise int_eq vs) (tuples ranges) has in (
      position_or_len (pointwise int_eq vs) (tuples ranges),
      record {
        number_is = found (pointwise int_eq vs) (tuples ranges) has;
        below = within;
        here = sym (same-values vs _ (passes_at_first (pointwise int_eq vs) (tuples ranges) [] within));
      },
    )

-- a value of a domain is the least one and its index
record IsCounted (range : Range) (value : ℤ) : Type 0 where
  below : index_in range value < range.size
  counts : (range.lo +ℤ pos (index_in range value)) ≡ value

counted : (range : Range) (value : ℤ) → In (whole range) value → IsCounted range value
counted range value within = by_sign (value -ℤ range.lo) refl
  where
    by_sign : (z : ℤ) → value -ℤ range.lo ≡ z → IsCounted range value
    by_sign (pos d) e =
        let high = within.high in
        let index : index_in range value ≡ d = ap unsigned_abs e in
        let small : d < range.size = omega (arith, ints, high, e) in
        let back : (range.lo +ℤ pos d) ≡ value = omega (arith, ints, e) in
        record { below = subst (λ n. n < range.size) (sym index) small; counts = ap (λ n. range.lo +ℤ pos n) index ∙ back }
    by_sign (negsuc d) e = let low = within.low in absurd (omega (arith, ints, low, e))

-- the function behind a signature
got-mapped : (domains : List Domain) (funs : List Fun) (number : ℕ) (signature : Signature) → slice_get (map (signature_of domains) funs) number ≡ Some signature
    → (slice_get funs number ≡ Some (slice_index_or funs number no_fun)) × (signature ≡ signature_of domains (slice_index_or funs number no_fun))
got-mapped domains [] number signature h = absurd cc
got-mapped domains (fun ∷ funs) zero signature h = (refl, cc)
got-mapped domains (fun ∷ funs) (suc number) signature h = got-mapped domains funs number signature h

taken-mapped : (domains : List Domain) (funs : List Fun) (n : ℕ) → take n (map (signature_of domains) funs) ≡ map (signature_of domains) (take n funs)
taken-mapped domains funs zero = refl
taken-mapped domains [] (suc n) = refl
taken-mapped domains (fun ∷ funs) (suc n) = ap (λ signatures. signature_of domains fun ∷ signatures) (taken-mapped domains funs n)

module _ (rom written body : List ℕ) (at : ℕ) (program : Resolved) (sized : AllByRecursion IsSized (signatures_of program)) (fit : TablesFit program)
    (image : IsImage written rom) (placed_tables : IsPlaced body at (map table_number (table_indices program)) written) (behind : length body ≤ at) where
  -- the word at the padded index of arguments counts the value there
  module _ (number : ℕ) (fun : Fun) (same : fun_of program number ≡ fun) (here : slice_get program.funs number ≡ Some fun) (static : fun.kind ≡ kinds.Static)
      (vs : List ℤ) (lies : lie_in (map (range_of program.domains) fun.args) vs ≡ true) where
    abbrev ranges : List Range
    ranges = map (range_of program.domains) fun.args

    abbrev codomain : Range
    codomain = range_of program.domains fun.codomain

    abbrev place : ℕ
    place = table_start program.domains program.funs number + placed ranges vs

    tuple : (n : ℕ) × IsNumber ranges vs n
    tuple = number-of ranges vs lies

    abbrev worth : ℤ
    worth = slice_index_or fun.table tuple.0 (pos 0)

    signature-sized : IsSized (signature_of program.domains fun)
    signature-sized = all-at IsSized (signatures_of program) number (signature_of program.domains fun) (mapped-at program.funs number here) sized
      where
        mapped-at : (funs : List Fun) (i : ℕ) → slice_get funs i ≡ Some fun → slice_get (map (signature_of program.domains) funs) i ≡ Some (signature_of program.domains fun)
        mapped-at [] i h = absurd cc
        mapped-at (f ∷ funs) zero h = let same : f ≡ fun = cc in ap (λ g. Some (signature_of program.domains g)) same
        mapped-at (f ∷ funs) (suc i) h = mapped-at funs i h

    known : IsCounted codomain worth
    known =
        let fits = all-at (λ f. IfStatic f.kind (TableFits (signature_of program.domains f) f.table)) program.funs number fun here fit in
        let table : TableFits (signature_of program.domains fun) fun.table = subst (λ kind. IfStatic kind (TableFits (signature_of program.domains fun) fun.table)) static fits in
        counted codomain worth ((there fun.table tuple.0 (In (whole codomain)) (each-holds ranges codomain fun.table table tuple.0 tuple.1.below)).1)

    index-stands : slice_index (table_indices program) place ≡ index_in codomain worth
    index-stands =
        table-holds-value program sized number fun here static tuple.0 (placed ranges vs) tuple.1.below
        (sym (ap (tuple_number (map widened ranges)) tuple.1.here ∙ placed-number ranges vs lies))

    counts-value : place < length (table_indices program) → CountsValue codomain (slice_index rom (at + place)) (table_value program number vs)
    counts-value inside =
        let k = known in let few = signature-sized.range.few in let below = k.below in
        let long = length-map (table_indices program) table_number in
        let word : slice_index rom (at + place) ≡ table_number (index_in codomain worth) =
        tables-stand rom written body (map table_number (table_indices program)) at image placed_tables behind place (omega (arith, long))
        ∙ get_or-map table_number (table_indices program) place 0 0 inside ∙ ap table_number index-stands in
        let value : table_value program number vs ≡ worth =
        ap (λ (f : Fun). numbered f.table (tuple_number (map (range_of program.domains) f.args) vs)) same ∙ ap (numbered fun.table) tuple.1.number_is in
        record {
          index = index_in codomain worth;
          below = k.below;
          counts = k.counts ∙ sym value;
          row = subst (λ w. Row w (Lui 0 (index_in codomain worth))) (sym word) (word-row (index_in codomain worth) (omega arith));
        }

pub placed-tables-are-held : PlacedTablesAreHeld
placed-tables-are-held rom written body at program placement same sized fit image placed_tables behind room = record {
  aligned = omega arith;
  room = let long = tables-are-long program in let signatures = ap (padded_sum is_static) same in omega (arith, long, signatures, room);
  values = λ number signature vs here static lies.
      (let got = got-mapped program.domains program.funs number signature (ap (λ signatures. slice_get signatures number) (sym same) ∙ here) in
      let fun = slice_index_or program.funs number no_fun in
      let kind : fun.kind ≡ kinds.Static = is-static fun.kind (ap (λ (s : Signature). is_static s.kind) (sym got.1) ∙ static) in
      let own : lie_in (map (range_of program.domains) fun.args) vs ≡ true = subst (λ (s : Signature). lie_in s.args vs ≡ true) got.1 lies in
      let start : table_start program.domains program.funs number ≡ padded_sum is_static (take number placement.signatures) =
      ap (padded_sum is_static) (sym (taken-mapped program.domains program.funs number)) ∙ ap (λ signatures. padded_sum is_static (take number signatures)) (sym same) in
      let index : padded_index signature.args vs ≡ placed (map (range_of program.domains) fun.args) vs =
      ap (λ o. unwrap_or o 0) (placed-number signature.args vs lies) ∙ ap (λ (s : Signature). placed s.args vs) got.1 in
      let more = first-more is_static placement.signatures number signature here static in
      let all = first-all is_static placement.signatures (number + 1) in
      let below = placed-below signature.args vs lies in
      let whole_index = ap (λ (s : Signature). placed s.args vs) got.1 in
      let long = tables-are-long program in
      let total = ap (padded_sum is_static) same in
      let inside : table_start program.domains program.funs number + placed (map (range_of program.domains) fun.args) vs < length (table_indices program) =
      omega (arith, more, all, below, whole_index, long, total, start) in
      let counts = counts-value rom written body at program sized fit image placed_tables behind number fun refl got.0 kind vs own inside in
      let word : table_word placement (4 * at) number signature vs ≡ at + (table_start program.domains program.funs number + placed (map (range_of program.domains) fun.args) vs) =
      let four : 4 * at / 4 ≡ at = omega arith in omega (arith, four, start, index) in
      subst (λ (s : Signature). CountsValue s.codomain (slice_index rom (table_word placement (4 * at) number signature vs)) (table_value program number vs)) (sym got.1)
      (subst (λ n. CountsValue (range_of program.domains fun.codomain) (slice_index rom n) (table_value program number vs)) (sym word) counts));
}
  where
    is-static : (kind : Kind) → is_static kind ≡ true → kind ≡ kinds.Static
    is-static kinds.Static h = refl
    is-static kinds.Controlled h = absurd cc
    is-static kinds.Output h = absurd cc
    is-static kinds.Input h = absurd cc
