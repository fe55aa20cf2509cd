-- The pieces are within their weights.
use Rattle.std.proofs.Common.{◌≡◌, ℕ, ◌+◌, ◌*◌, ◌≤◌, Bool, true, false, List, [], ◌∷◌, length, refl, sym, subst, arith}
use Rattle.std.proofs.lemmas.List.{length-map}
use Rattle.std.proofs.lemmas.List.Sums.{sum_by-cons}
use Rattle.std.specs.Prelude.{if◌then◌else◌}
use Rattle.rv_isa.specs.declared.instr.Instr.{Instr}
use Rattle.block_code.specs.Plan.{Line, Loop, Plan, Seq, full, len}
use Rattle.state_space.specs.Locations.{is_state, located}
use Rattle.state_space.specs.Sizes.{padded_count, padded_own, padded_sum}
use Rattle.state_space.specs.declared.signature.Signature.{Signature}
use Rattle.state_space.proofs.Small.{located_padded}
use Rattle.state_layout.specs.declared.cell.Cell.{Cell}
use Rattle.state_layout.specs.Map.{Placement, cell_of, counter, input_cells, state_cells}
use Rattle.staged_commit.specs.Code.{clear_body, clear_looped, clear_unrolled, commit_body, commit_looped, commit_unrolled, over_arrays, output_cells, read_cells, read_inputs, send_cells, send_outputs, stage_update}
use Rattle.staged_commit.specs.Weight.{looped_half_ticks, looped_half_words, one_if_state, state_funs, unrolled_half}
use Rattle.staged_commit.proofs.Lines.{clear-long, commit-long}

module _ (placement : Placement) where
  cells-few : length (state_cells placement) ≤ padded_sum is_state placement.signatures
  cells-few =
      let few = located_padded is_state placement.signatures in let same = length-map (located is_state 0 placement.signatures) (cell_of placement.signatures) in omega arith

  -- ---- without loops
  pub clear-len : len (clear_unrolled placement) ≤ unrolled_half placement.signatures
  clear-len = let e = clear-long placement (state_cells placement) in let few = cells-few in omega arith

  pub clear-full : full (clear_unrolled placement) ≤ unrolled_half placement.signatures
  clear-full = let e = clear-long placement (state_cells placement) in let few = cells-few in omega arith

  pub commit-len : len (commit_unrolled placement) ≤ unrolled_half placement.signatures
  commit-len = let e = commit-long placement (state_cells placement) in let few = cells-few in omega arith

  pub commit-full : full (commit_unrolled placement) ≤ unrolled_half placement.signatures
  commit-full = let e = commit-long placement (state_cells placement) in let few = cells-few in omega arith

  -- ---- staging: 27 words more than its parts
  pub stage-len : (fun count : ℕ) (address value : Plan) → len (stage_update placement fun count address value) ≤ len address + len value + 40
  stage-len fun count address value = omega arith

  pub stage-full : (fun count : ℕ) (address value : Plan) → full (stage_update placement fun count address value) ≤ full address + full value + 40
  stage-full fun count address value = omega arith

  -- ---- the ports
  read-long : (port : ℕ) (cells : List Cell) → length (read_cells placement port cells) ≡ 4 * length cells
  read-long port [] = refl
  read-long port (cell ∷ cells) = let e = read-long (port + 1) cells in omega arith

  send-long : (port : ℕ) (cells : List Cell) → length (send_cells placement port cells) ≡ 13 * length cells
  send-long port [] = refl
  send-long port (cell ∷ cells) = let e = send-long (port + 1) cells in omega arith

  pub read-len : len (read_inputs placement) ≤ 16 * length (input_cells placement)
  read-len = let e = read-long 0 (input_cells placement) in omega arith

  pub read-full : full (read_inputs placement) ≤ 16 * length (input_cells placement)
  read-full = let e = read-long 0 (input_cells placement) in omega arith

  pub send-len : len (send_outputs placement) ≤ 20 * length (output_cells placement.signatures)
  send-len = let e = send-long 0 (output_cells placement.signatures) in omega arith

  pub send-full : full (send_outputs placement) ≤ 20 * length (output_cells placement.signatures)
  send-full = let e = send-long 0 (output_cells placement.signatures) in omega arith

  -- ---- with loops
  module _ (body : Placement → (fun size : ℕ) → List Instr) (few : (fun count : ℕ) → length (body placement fun count) ≤ 26) where
    over-len : (n : ℕ) (signatures : List Signature) → len (over_arrays placement body n signatures) ≤ 48 * state_funs signatures
    over-len n [] = omega arith
    over-len n (signature ∷ signatures) =
        subst (λ f. len (over_arrays placement body n (signature ∷ signatures)) ≤ 48 * f) (sym (sum_by-cons one_if_state signature signatures)) (by (is_state signature.kind) (over-len (n + 1) signatures))
      where
        by : (b : Bool) → len (over_arrays placement body (n + 1) signatures) ≤ 48 * state_funs signatures
            → len (if b then Seq (Loop (padded_count signature.args) (counter placement) (Line (body placement n (padded_count signature.args)))) (over_arrays placement body (n + 1) signatures) else over_arrays placement body (n + 1) signatures)
            ≤ 48 * ((if b then 1 else 0) + state_funs signatures)
        by true rest = let h = few n (padded_count signature.args) in omega arith
        by false rest = omega arith

    over-full : (n : ℕ) (signatures : List Signature) → full (over_arrays placement body n signatures) ≤ 48 * (padded_sum is_state signatures + state_funs signatures)
    over-full n [] = omega arith
    over-full n (signature ∷ signatures) =
        subst (λ t. full (over_arrays placement body n (signature ∷ signatures)) ≤ 48 * (t + state_funs (signature ∷ signatures))) (sym (sum_by-cons (padded_own is_state) signature signatures))
        (subst (λ f. full (over_arrays placement body n (signature ∷ signatures)) ≤ 48 * ((padded_own is_state signature + padded_sum is_state signatures) + f)) (sym (sum_by-cons one_if_state signature signatures))
        (by (is_state signature.kind) (over-full (n + 1) signatures)))
      where
        passes : (count each : ℕ) → each ≤ 42 → count * each ≤ 42 * count
        passes count each h = grind arith

        by : (b : Bool) → full (over_arrays placement body (n + 1) signatures) ≤ 48 * (padded_sum is_state signatures + state_funs signatures)
            → full (if b then Seq (Loop (padded_count signature.args) (counter placement) (Line (body placement n (padded_count signature.args)))) (over_arrays placement body (n + 1) signatures) else over_arrays placement body (n + 1) signatures)
            ≤ 48 * (((if b then padded_count signature.args else 0) + padded_sum is_state signatures) + ((if b then 1 else 0) + state_funs signatures))
        by true rest =
            let h = few n (padded_count signature.args) in
            let each = passes (padded_count signature.args) (length (body placement n (padded_count signature.args)) + 16) (omega arith) in omega arith
        by false rest = omega arith

  clear-short : (fun count : ℕ) → length (clear_body placement fun count) ≤ 26
  clear-short fun count = omega arith

  commit-short : (fun count : ℕ) → length (commit_body placement fun count) ≤ 26
  commit-short fun count = omega arith

  pub clear-looped_len : len (clear_looped placement) ≤ looped_half_words placement.signatures
  clear-looped_len = let e = over-len clear_body clear-short 0 placement.signatures in omega arith

  pub clear-looped_full : full (clear_looped placement) ≤ looped_half_ticks placement.signatures
  clear-looped_full = let e = over-full clear_body clear-short 0 placement.signatures in omega arith

  pub commit-looped_len : len (commit_looped placement) ≤ looped_half_words placement.signatures
  commit-looped_len = let e = over-len commit_body commit-short 0 placement.signatures in omega arith

  pub commit-looped_full : full (commit_looped placement) ≤ looped_half_ticks placement.signatures
  commit-looped_full = let e = over-full commit_body commit-short 0 placement.signatures in omega arith
