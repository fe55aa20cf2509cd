-- The arrays of functions, and their cells.
use Rattle.std.proofs.Common.{◌≡◌, ◌≢◌, ℕ, ◌+◌, ◌*◌, ◌%◌, ◌<◌, ◌≤◌, Bool, true, List, take, Some, sym, ap, ◌∙◌, inl, inr, arith}
use Rattle.std.specs.Prelude.{slice_get}
use Rattle.std.proofs.lemmas.Bool.{cases_order}
use Rattle.asm_tree.specs.declared.decl.Kind.{Kind}
use Rattle.trap_model.specs.Width.{bytes_of}
use Rattle.trap_model.specs.declared.width.Width.{Width}
use Rattle.trap_model.specs.declared.width.Width.TheVariants.{Byte, Half, Word}
use Rattle.state_space.specs.declared.signature.Signature.{Signature}
use Rattle.state_space.specs.Codomains.{codomain_of}
use Rattle.state_space.specs.Locations.{is_input, is_state}
use Rattle.state_space.specs.Sizes.{padded_count, padded_sum}
use Rattle.state_layout.specs.declared.cell.Cell.{Cell}
use Rattle.state_layout.specs.Map.{IsCell, Placement, access_at, array_start, arrays_end, flag_access, flag_width, flags_end, kept_end}
use Rattle.state_layout.specs.Map.{raised, staged_end, state_end, value_access, width_at}
use Rattle.state_layout.specs.MapLaw.{AreApart, AreArrays, CellsAreApart, CellsLieInside, FlagsAreArrays, KeptAreArrays, LiesIn, StagedAreArrays, ValuesAreArrays, cell_in}
use Rattle.state_layout.proofs.Arrays.{end-all, end-more, end-up, first-all, first-more, first-up}
use Rattle.state_layout.proofs.Widths.{Strides, divides, raises, strides}

-- ---- the arrays of values
module _ (placement : Placement) where
  -- the array of a function ends where the arrays up to its own do
  array-end : (fun : ℕ) (signature : Signature) → slice_get placement.signatures fun ≡ Some signature → is_state signature.kind ≡ true
      → array_start placement fun + width_at placement fun * padded_count signature.args ≡ arrays_end placement.layout (take (fun + 1) placement.signatures)
  array-end fun signature here held =
      ap (λ o. raised (bytes_of (value_access placement.layout (codomain_of o))) (arrays_end placement.layout (take fun placement.signatures)) + bytes_of (value_access placement.layout (codomain_of o)) * padded_count signature.args) here
      ∙ sym (end-more placement.layout placement.signatures fun signature here held)

  start-up : (fun : ℕ) → arrays_end placement.layout (take fun placement.signatures) ≤ array_start placement fun
  start-up fun = (raises (access_at placement fun) (arrays_end placement.layout (take fun placement.signatures))).up

  end-up' : arrays_end placement.layout placement.signatures ≤ state_end placement
  end-up' = (raises Word (arrays_end placement.layout placement.signatures)).up

  end-multiple : state_end placement % 4 ≡ 0
  end-multiple = (raises Word (arrays_end placement.layout placement.signatures)).multiple

pub values-are-arrays : ValuesAreArrays
values-are-arrays placement = record {
  aligned = λ fun. (raises (access_at placement fun) (arrays_end placement.layout (take fun placement.signatures))).multiple;
  from = λ fun. omega arith;
  below = λ fun signature here held.
      omega (arith, array-end placement fun signature here held, end-all placement.layout placement.signatures (fun + 1), end-up' placement);
  ordered = λ fun later signature h here held.
      (let up : fun + 1 ≤ later = omega arith in
      omega (arith, array-end placement fun signature here held, end-up placement.layout placement.signatures (fun + 1) later up, start-up placement later));
}

-- ---- arrays further on
-- arrays of the same widths behind a multiple of 4
shifted : (is_kind : Kind → Bool) (signatures : List Signature) (access : ℕ → Width) (start : ℕ → ℕ) (high by : ℕ) → by % 4 ≡ 0 → AreArrays is_kind signatures access start 0 high
    → AreArrays is_kind signatures access (λ fun. by + start fun) by (by + high)
shifted is_kind signatures access start high by multiple a = record {
  aligned = λ fun. both (access fun) (start fun) (a.aligned fun);
  from = λ fun. omega arith;
  below = λ fun signature here held. omega (arith, a.below fun signature here held);
  ordered = λ fun later signature h here held. omega (arith, a.ordered fun later signature h here held);
}
  where
    both : (access : Width) (n : ℕ) → n % bytes_of access ≡ 0 → (by + n) % bytes_of access ≡ 0
    both Byte n h = omega arith
    both Half n h = omega arith
    both Word n h = omega arith

pub staged-are-arrays : StagedAreArrays
staged-are-arrays placement =
    let a = shifted is_state placement.signatures (access_at placement) (array_start placement) (state_end placement) (state_end placement) (end-multiple placement) (values-are-arrays placement) in
    record { aligned = a.aligned; from = a.from; below = λ fun signature here held. omega (arith, a.below fun signature here held); ordered = a.ordered }

-- arrays of one width, a padded size each, from a multiple of 4 on
counted : (is_kind : Kind → Bool) (signatures : List Signature) (access : Width) (low high : ℕ) → low % 4 ≡ 0 → low + bytes_of access * padded_sum is_kind signatures ≤ high
    → AreArrays is_kind signatures (λ fun. access) (λ fun. low + bytes_of access * padded_sum is_kind (take fun signatures)) low high
counted is_kind signatures access low high multiple room = record {
  aligned = λ fun. (strides access low (padded_sum is_kind (take fun signatures)) (divides access low multiple)).aligned;
  from = λ fun. omega arith;
  below = λ fun signature here held. fits (padded_sum is_kind (take fun signatures)) (padded_sum is_kind (take (fun + 1) signatures)) (padded_count signature.args) (padded_sum is_kind signatures) access (first-more is_kind signatures fun signature here held) (first-all is_kind signatures (fun + 1)) room;
  ordered = λ fun later signature h here held. fits' (padded_sum is_kind (take fun signatures)) (padded_sum is_kind (take (fun + 1) signatures)) (padded_count signature.args) (padded_sum is_kind (take later signatures)) access (first-more is_kind signatures fun signature here held) (first-up is_kind signatures (fun + 1) later (omega arith));
}
  where
    fits : (before after count total : ℕ) (access : Width) → after ≡ before + count → after ≤ total → low + bytes_of access * total ≤ high
        → (low + bytes_of access * before) + bytes_of access * count ≤ high
    fits before after count total Byte e h k = omega arith
    fits before after count total Half e h k = omega arith
    fits before after count total Word e h k = omega arith

    fits' : (before after count total : ℕ) (access : Width) → after ≡ before + count → after ≤ total
        → (low + bytes_of access * before) + bytes_of access * count ≤ low + bytes_of access * total
    fits' before after count total Byte e h = omega arith
    fits' before after count total Half e h = omega arith
    fits' before after count total Word e h = omega arith

pub staged_end-multiple : (placement : Placement) → staged_end placement % 4 ≡ 0
staged_end-multiple placement = omega (arith, end-multiple placement)

pub flags_end-multiple : (placement : Placement) → flags_end placement % 4 ≡ 0
flags_end-multiple placement = omega (arith, staged_end-multiple placement, (raises Word (flag_width placement.layout * padded_sum is_state placement.signatures)).multiple)

pub flags-are-arrays : FlagsAreArrays
flags-are-arrays placement =
    let up = (raises Word (flag_width placement.layout * padded_sum is_state placement.signatures)).up in
    counted is_state placement.signatures (flag_access placement.layout) (staged_end placement) (flags_end placement) (staged_end-multiple placement) (omega (arith, up))

pub kept-are-arrays : KeptAreArrays
kept-are-arrays placement = counted is_input placement.signatures Word (flags_end placement) (kept_end placement) (flags_end-multiple placement) (omega arith)

-- ---- cells
module _ (is_kind : Kind → Bool) (signatures : List Signature) (access : ℕ → Width) (start : ℕ → ℕ) (low high : ℕ) (a : AreArrays is_kind signatures access start low high) where
  stride : (cell : Cell) → Strides (bytes_of (access cell.fun)) (start cell.fun) cell.index
  stride cell = strides (access cell.fun) (start cell.fun) cell.index (a.aligned cell.fun)

  -- a cell of an array lies in it
  cell-end : (cell : Cell) (c : IsCell is_kind signatures cell)
      → cell_in access start cell + bytes_of (access cell.fun) ≤ start cell.fun + bytes_of (access cell.fun) * padded_count c.signature.args
  cell-end cell c = (stride cell).within (padded_count c.signature.args) c.below

  inside : (cell : Cell) → IsCell is_kind signatures cell → LiesIn low high (bytes_of (access cell.fun)) (cell_in access start cell)
  inside cell c = record {
    aligned = (stride cell).aligned;
    from = omega (arith, a.from cell.fun);
    below = omega (arith, cell-end cell c, a.below cell.fun c.signature c.here c.held);
  }

  -- the cells of an earlier function lie before
  earlier : (cell other : Cell) → IsCell is_kind signatures cell → cell.fun < other.fun → cell_in access start cell + bytes_of (access cell.fun) ≤ cell_in access start other
  earlier cell other c h = omega (arith, cell-end cell c, a.ordered cell.fun other.fun c.signature h c.here c.held)

  -- so do those of the same function with a lower index
  lower : (cell other : Cell) → cell.fun ≡ other.fun → cell.index < other.index → cell_in access start cell + bytes_of (access cell.fun) ≤ cell_in access start other
  lower cell other e h = omega (arith, (stride cell).next other.index h, ap (λ f. start f + bytes_of (access f) * other.index) e)

  apart : (cell other : Cell) → IsCell is_kind signatures cell → IsCell is_kind signatures other → cell ≢ other
      → AreApart (cell_in access start cell) (bytes_of (access cell.fun)) (cell_in access start other) (bytes_of (access other.fun))
  apart cell other c d differ = elim (cases_order cell.fun other.fun) [
    | inl e ↦ elim (cases_order cell.index other.index) [
      | inl f ↦ absurd (differ (same e f))
      | inr (inl h) ↦ inl (lower cell other e h)
      | inr (inr h) ↦ inr (lower other cell (sym e) h)
    ]
    | inr (inl h) ↦ inl (earlier cell other c h)
    | inr (inr h) ↦ inr (earlier other cell d h)
  ]
    where
      same : cell.fun ≡ other.fun → cell.index ≡ other.index → cell ≡ other
      same e f = ap (λ (n : ℕ). record { fun = n; index = cell.index }) e ∙ ap (λ (n : ℕ). record { fun = other.fun; index = n }) f

pub cells-lie-inside : CellsLieInside
cells-lie-inside is_kind signatures access start low high cell a c = inside is_kind signatures access start low high a cell c

pub cells-are-apart : CellsAreApart
cells-are-apart is_kind signatures access start low high cell other a c d differ = apart is_kind signatures access start low high a cell other c d differ
