-- The code that is written is that of the plans.
use Rattle.std.proofs.Common.{◌≡◌, ℕ, ◌+◌, ◌*◌, ◌^◌, ◌<◌, ◌≤◌, List, [], ◌∷◌, ◌++◌, length, take, Some, refl, sym, ap, ◌∙◌, arith, append_assoc}
use Rattle.std.proofs.lemmas.List.{append-nil, length-map, length-take-le, take_all, take_more}
use Rattle.std.proofs.lemmas.Option.{get_or_from_slice_get, slice_get_within}
use Rattle.std.specs.Prelude.{slice_get}
use Rattle.rv_isa.specs.declared.instr.Instr.{Instr}
use Rattle.block_code.specs.Block.{IsInRange}
use Rattle.block_code.specs.Sequence.{store_fixed}
use Rattle.staged_commit.specs.Ports.{reading, sending}
use Rattle.staged_commit.proofs.Reading
use Rattle.staged_commit.proofs.Reading.{read-block, read-leads, read-touches}
use Rattle.staged_commit.proofs.Sending.{Sends, send-block, send-leads, send-touches}
use Rattle.staged_commit.proofs.Pieces.{clear-block, commit-block}
use Rattle.staged_commit.proofs.Weights.{clear-full, clear-len, commit-full, commit-len, read-full, read-len, send-full, send-len}
use Rattle.block_code.specs.Footprint.{LinesTouchOnly}
use Rattle.block_code.specs.Plan.{full, len}
use Rattle.block_code.proofs.Leads.{leads-more}
use Rattle.state_space.specs.Locations.{input_locations, is_input, is_state, output_locations, state_locations}
use Rattle.state_layout.specs.declared.cell.Cell.{Cell}
use Rattle.state_layout.specs.Map.{IsCell, Placement, cell_of, clash, flag_access, flag_offset, input_cells, kept_offset, staged_offset, state_cells, value_offset}
use Rattle.staged_commit.specs.Code.{clear_cells, clear_mark, clear_unrolled, commit_cell, commit_cells, commit_unrolled, output_cells, read_cell, read_cells, read_inputs, send_cell, send_cells, send_outputs}
use Rattle.staged_commit.specs.Law.{IsCoded, ReadsInputs, SendsOutputs}
use Rattle.staged_commit.specs.Spots.{Flag, Kept, Mark, Value, Waiting}
use Rattle.staged_commit.specs.Weight.{unrolled_half}
use Rattle.staged_commit.proofs.Spread.{is-offset}

-- code that has a piece for each cell of a list, by the cell's number there
module _ (each : ℕ → Cell → List Instr) (all : ℕ → List Cell → List Instr) (none : (n : ℕ) → all n [] ≡ []) (one : (n : ℕ) (c : Cell) (cs : List Cell) → all n (c ∷ cs) ≡ each n c ++ all (n + 1) cs) where
  all-snoc : (n m : ℕ) (cells : List Cell) (cell : Cell) → m ≡ n + length cells → all n (cells ++ cell ∷ []) ≡ all n cells ++ each m cell
  all-snoc n m [] cell e =
      let f : n ≡ m = omega arith in
      one n cell [] ∙ ap (λ l. each n cell ++ l) (none (n + 1)) ∙ append-nil (each n cell) ∙ ap (λ k. each k cell) f ∙ ap (λ l. l ++ each m cell) (sym (none n))
  all-snoc n m (c ∷ cells) cell e =
      one n c (cells ++ cell ∷ []) ∙ ap (λ l. each n c ++ l) (all-snoc (n + 1) m cells cell (omega arith))
      ∙ sym (append_assoc (each n c) (all (n + 1) cells) (each m cell)) ∙ ap (λ l. l ++ each m cell) (sym (one n c cells))

  -- one cell more
  pub all-more : (cells : List Cell) (i : ℕ) (cell : Cell) → slice_get cells i ≡ Some cell → all 0 (take i cells) ++ each i cell ≡ all 0 (take (i + 1) cells)
  all-more cells i cell e =
      let inside = slice_get_within cells i cell e in
      let next : take (i + 1) cells ≡ take i cells ++ cell ∷ [] =
      take_more cells i cell inside ∙ ap (λ c. take i cells ++ c ∷ []) (get_or_from_slice_get cells i cell cell e) in
      let long = length-take-le i cells (omega arith) in
      sym (all-snoc 0 i (take i cells) cell (omega arith)) ∙ ap (all 0) (sym next)

-- one flag more
pub clear-more : (p : Placement) (i : ℕ) (cell : Cell) → slice_get (state_cells p) i ≡ Some cell
    → (clear_mark p ++ clear_cells p (take i (state_cells p))) ++ store_fixed (flag_access p.layout) 0 (flag_offset p cell) ≡ clear_mark p ++ clear_cells p (take (i + 1) (state_cells p))
clear-more p i cell e =
    append_assoc (clear_mark p) (clear_cells p (take i (state_cells p))) (store_fixed (flag_access p.layout) 0 (flag_offset p cell))
    ∙ ap (λ l. clear_mark p ++ l)
    (all-more (λ n c. store_fixed (flag_access p.layout) 0 (flag_offset p c)) (λ n. clear_cells p) (λ n. refl) (λ n c cs. refl) (state_cells p) i cell e)

-- all flags
pub clear-all : (p : Placement) (i : ℕ) → length (state_locations p.signatures) ≤ i → clear_mark p ++ clear_cells p (take i (state_cells p)) ≡ clear_mark p ++ clear_cells p (state_cells p)
clear-all p i h =
    let same = length-map (state_locations p.signatures) (cell_of p.signatures) in
    ap (λ l. clear_mark p ++ clear_cells p l) (take_all i (state_cells p) (omega arith))

pub flag-low : (p : Placement) → IsCoded p → (cell : Cell) → IsCell is_state p.signatures cell → flag_offset p cell < 2 ^ 20
flag-low p coded cell is = (is-offset p coded.small (Flag cell) is).low

pub clash-low : (p : Placement) → IsCoded p → clash p < 2 ^ 20
clash-low p coded = (is-offset p coded.small Mark tt).low

pub clear-in_range : (p : Placement) → IsCoded p → unrolled_half p.signatures ≤ 262144 → IsInRange (clear_unrolled p)
clear-in_range p coded weight =
    let words = clear-len p in let ticks = clear-full p in
    record { block = clear-block p coded; short = omega arith; full = omega arith; entry = omega arith }

-- ---- committing
-- one cell more
pub commit-more : (p : Placement) (i : ℕ) (cell : Cell) → slice_get (state_cells p) i ≡ Some cell
    → commit_cells p (take i (state_cells p)) ++ commit_cell p cell ≡ commit_cells p (take (i + 1) (state_cells p))
commit-more p i cell e = all-more (λ n. commit_cell p) (λ n. commit_cells p) (λ n. refl) (λ n c cs. refl) (state_cells p) i cell e

pub staged-low : (p : Placement) → IsCoded p → (cell : Cell) → IsCell is_state p.signatures cell → staged_offset p cell < 2 ^ 20
staged-low p coded cell is = (is-offset p coded.small (Waiting cell) is).low

pub value-low : (p : Placement) → IsCoded p → (cell : Cell) → IsCell is_state p.signatures cell → value_offset p cell < 2 ^ 20
value-low p coded cell is = (is-offset p coded.small (Value cell) is).low

-- a cell's function is one of the map's
pub fun-below : (p : Placement) (cell : Cell) → IsCell is_state p.signatures cell → cell.fun < length p.signatures
fun-below p cell is = slice_get_within p.signatures cell.fun is.signature is.here

pub commit-in_range : (p : Placement) → IsCoded p → unrolled_half p.signatures ≤ 262144 → IsInRange (commit_unrolled p)
commit-in_range p coded weight =
    let words = commit-len p in let ticks = commit-full p in
    record { block = commit-block p coded; short = omega arith; full = omega arith; entry = omega arith }

-- ---- reading
-- one input more
pub read-more : (p : Placement) (i : ℕ) (cell : Cell) → slice_get (input_cells p) i ≡ Some cell
    → read_cells p 0 (take i (input_cells p)) ++ read_cell p i cell ≡ read_cells p 0 (take (i + 1) (input_cells p))
read-more p i cell e = all-more (read_cell p) (read_cells p) (λ n. refl) (λ n c cs. refl) (input_cells p) i cell e

pub kept-low : (p : Placement) → IsCoded p → (cell : Cell) → IsCell is_input p.signatures cell → kept_offset p cell < 2 ^ 20
kept-low p coded cell is = (is-offset p coded.small (Kept cell) is).low

module _ (p : Placement) where
  inputs-long : length (input_cells p) ≡ length (input_locations p.signatures)
  inputs-long = length-map (input_locations p.signatures) (cell_of p.signatures)

  pub read-len_by : len (read_inputs p) ≤ 16 * length (input_locations p.signatures)
  read-len_by = let e = inputs-long in let h = read-len p in omega arith

  pub read-full_by : full (read_inputs p) ≤ 16 * length (input_locations p.signatures)
  read-full_by = let e = inputs-long in let h = read-full p in omega arith

  module _ (coded : IsCoded p) (few : length (input_locations p.signatures) ≤ 256) where
    few_cells : length (input_cells p) ≤ 256
    few_cells = let e = inputs-long in omega arith

    pub read-in_range : IsInRange (read_inputs p)
    read-in_range = let words = read-len_by in let ticks = read-full_by in record { block = read-block p coded few_cells; short = omega arith; full = omega arith; entry = omega arith }

    pub read-touches_by : LinesTouchOnly (reading p) (read_inputs p)
    read-touches_by = read-touches p coded few_cells

    pub read-leads_by : ReadsInputs p (read_inputs p)
    read-leads_by rom size address s e room =
        leads-more rom size address (read_inputs p) s (Reading.ReadsInputs p coded few_cells s) _ (read-leads p coded few_cells rom size address s e room)
        (λ z d r. (r.log, r.readings, r.inputs))

-- ---- sending
-- one output more
pub send-more : (p : Placement) (i : ℕ) (cell : Cell) → slice_get (output_cells p.signatures) i ≡ Some cell
    → send_cells p 0 (take i (output_cells p.signatures)) ++ send_cell p i cell ≡ send_cells p 0 (take (i + 1) (output_cells p.signatures))
send-more p i cell e = all-more (send_cell p) (send_cells p) (λ n. refl) (λ n c cs. refl) (output_cells p.signatures) i cell e

module _ (p : Placement) where
  pub outputs-long : length (output_cells p.signatures) ≡ length (output_locations p.signatures)
  outputs-long = length-map (output_locations p.signatures) (cell_of p.signatures)

  pub send-len_by : len (send_outputs p) ≤ 20 * length (output_locations p.signatures)
  send-len_by = let e = outputs-long in let h = send-len p in omega arith

  pub send-full_by : full (send_outputs p) ≤ 20 * length (output_locations p.signatures)
  send-full_by = let e = outputs-long in let h = send-full p in omega arith

  module _ (coded : IsCoded p) (few : length (output_locations p.signatures) ≤ 256) where
    few_outputs : length (output_cells p.signatures) ≤ 256
    few_outputs = let e = outputs-long in omega arith

    pub send-in_range : IsInRange (send_outputs p)
    send-in_range = let words = send-len_by in let ticks = send-full_by in record { block = send-block p coded few_outputs; short = omega arith; full = omega arith; entry = omega arith }

    pub send-touches_by : LinesTouchOnly sending (send_outputs p)
    send-touches_by = send-touches p coded few_outputs

    pub send-leads_by : SendsOutputs p (send_outputs p)
    send-leads_by rom size address s e room =
        leads-more rom size address (send_outputs p) s (Sends p coded (output_cells p.signatures) 0 s) _ (send-leads p coded few_outputs rom size address s e room)
        (λ z d r. (r.log, r.readings, r.ram))

-- ---- lists that grew
pub grew-thrice : (start one two three a b c : List Instr) → one ≡ start ++ a → two ≡ one ++ b → three ≡ two ++ c → three ≡ start ++ (a ++ (b ++ c))
grew-thrice start one two three a b c e f g = g ∙ ap (λ l. l ++ c) (f ∙ ap (λ l. l ++ b) e) ∙ append_assoc (start ++ a) b c ∙ append_assoc start a (b ++ c)
