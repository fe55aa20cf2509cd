-- What is made of a program is an unrolled image of it.
use Rattle.std.proofs.Common.{◌≡◌, ℕ, ◌+◌, ◌*◌, ◌^◌, ◌≤◌, true, List, length, map, sym, ap, ◌∙◌, subst, ⊎_elim, arith}
use Rattle.std.specs.List.{AllByRecursion}
use Rattle.std.proofs.lemmas.List.{length-map}
use Rattle.asm_ranges.specs.Ranges.{unscoped}
use Rattle.asm_names.specs.declared.program.Resolved.{Resolved}
use Rattle.state_space.specs.{Locations.{is_input, is_output, is_state, is_static, located, signatures_of}, Sizes.{IsSized, fits, padded_sum}}
use Rattle.state_space.proofs.Sized.{sized}
use Rattle.block_code.specs.{Home.{IsClosed}, Place.{IsMachine}, Plan.{Plan}}
use Rattle.state_layout.specs.{Map.{Placement, cell_of, input_cells, map_end}, declared.layout.Layout.{Layout}}
use Rattle.bound_count.specs.{Counts.{location_count}, Numbers.{ram_number}, declared.numbers.Numbers.{Numbers}}
use Rattle.bound_count.proofs.{Counting.{fits-little}, MapEnds.{maps-end-inside}}
use Rattle.instr_select.specs.SelectLaw.{IsMapped}
use Rattle.staged_commit.specs.{Code.{output_cells}, Law.{IsCoded}}
use Rattle.rule_expand.specs.declared.flat.Flat.{Flat}
use Rattle.rom_anchor.proofs.{Closed.{body-length, placed-is-closed}, Filled.{placed-short}}
use Rattle.rom_tables.specs.Tables.{table_indices, table_number}
use Rattle.rom_tables.proofs.Stored.{are-table-words, tables-are-long}
use Rattle.round_spec.specs.{Round.{Compiled}}
use Rattle.rule_code.specs.{Body.{IsWritable}, Code.{body_plan}, Codable.{IsPrepared, body_weight}, Image.{AreRoundWords, IsExpanded, IsFitted, IsMade, MadeImagesStabilize}, Unrolled.{IsUnrolled}, Within.{IsSetting}}
use Rattle.rule_code.proofs.{Bodies.{body-len}, Coded.{placed-maps-are-coded}, Mapped.{checked-programs-are-mapped}, Short.{sized-signatures-are-short}, Shorts.{fitting-is-short}, Stabilizing.{chooses-least, same-weights, unrolled-stabilizes}, Tables.{placed-tables-are-held}}

-- ---- code can be written for a program that fits
module _ (rom_size ram_size : ℕ) (layout : Layout) (program : Resolved) (placement : Placement) (needs : Numbers) (f : IsFitted rom_size ram_size layout program placement needs) where
  pub same-signatures : placement.signatures ≡ signatures_of program
  same-signatures = ap (λ (p : Placement). p.signatures) f.laid_out

  pub functions-are-sized : AllByRecursion IsSized (signatures_of program)
  functions-are-sized = sized program f.checked.well_formed

  few : ram_number layout program ≤ 2 ^ 20
  few = let most : ram_size ≤ 2 ^ 20 = ⊎_elim (λ e. omega arith) (λ e. omega arith) f.ram_bytes in let holds = f.within.ram_holds in omega arith

  pub room : fits (signatures_of program) ≡ true
  room = fits-little layout program few

  map-end : map_end placement program.binders + 8 ≡ ram_number layout program
  map-end = ap (λ p. map_end p program.binders + 8) f.laid_out ∙ maps-end-inside layout program

  pub inside-ram : map_end placement program.binders ≤ ram_size
  inside-ram = let end = map-end in let holds = f.within.ram_holds in omega arith

  pub low : map_end placement program.binders ≤ 2 ^ 20
  low = let end = map-end in let most = few in omega arith

  pub mapped : IsMapped program placement
  mapped = checked-programs-are-mapped program placement f.checked same-signatures room

  pub coded : IsCoded placement
  coded = subst IsCoded (sym f.laid_out) (placed-maps-are-coded layout program (record { sized = functions-are-sized; room = room }) few)

  pub prepared : IsPrepared program placement
  prepared = record { ready = record { mapped = mapped; small = low }; coded = coded }

  input-count : length (input_cells placement) ≡ location_count is_input (signatures_of program)
  input-count = length-map (located is_input 0 placement.signatures) (cell_of placement.signatures) ∙ ap (location_count is_input) same-signatures

  output-count : length (output_cells placement.signatures) ≡ location_count is_output (signatures_of program)
  output-count = length-map (located is_output 0 placement.signatures) (cell_of placement.signatures) ∙ ap (location_count is_output) same-signatures

  pub few-inputs : length (input_cells placement) ≤ 256
  few-inputs = let same = input-count in let most = f.within.few_inputs in omega arith

  module _ (flat : Flat) (e : IsExpanded program flat) where
    pub writable : IsWritable program placement flat
    writable = record {
      short = fitting-is-short program (sized-signatures-are-short (signatures_of program) functions-are-sized) flat unscoped (λ b. tt) e.sums e.fresh;
      met = e.met;
      registers = let most = f.within.few_registers in let own = e.registers in omega arith;
      inputs = few-inputs;
      outputs = let same = output-count in let most = f.within.few_outputs in omega arith;
      tables = f.checked.tables;
    }

    -- the code of a round and the jump behind it are within the words that are not the tables'
    pub weighs-less : body_weight placement flat + 2 + padded_sum is_static (signatures_of program) ≤ needs.rom
    weighs-less =
        let states = ap (padded_sum is_state) same-signatures in let ins = input-count in let outs = output-count in let light = e.light in let is = f.within.is_rom in omega arith

    -- and within the ticks of a round
    pub weighs-soon : body_weight placement flat + 1 ≤ needs.round
    weighs-soon =
        let states = ap (padded_sum is_state) same-signatures in let ins = input-count in let outs = output-count in let light = e.light in let is = f.within.is_round in
        let ticks = same-weights program.domains program.rule in omega arith

    pub weighs-little : body_weight placement flat + 2 ≤ 262144
    weighs-little =
        let less = weighs-less in let is = f.within.is_rom in let holds = f.within.rom_holds in
        let most : rom_size ≤ 2 ^ 20 = ⊎_elim (λ e. omega arith) (λ e. omega arith) f.rom_bytes in omega arith

  -- the words of a round end before the tables begin
  pub ends-before : (at : ℕ) → at + padded_sum is_static (signatures_of program) ≡ needs.rom → (words : List ℕ) → AreRoundWords program placement (4 * at) words → length words ≤ at
  ends-before at ends words round =
      let most = body-len program placement (4 * at) round.flat few-inputs in
      let long = body-length (body_plan program placement (4 * at) round.flat) words round.rows in
      let less = weighs-less round.flat round.expanded in omega arith

-- ---- what is made of it
module _ (rom_size ram_size : ℕ) (layout : Layout) (program : Resolved) (built : Compiled) (at : ℕ) (m : IsMade rom_size ram_size layout program built at) where
  abbrev flat : Flat
  flat = m.round.flat

  abbrev tree : Plan
  tree = body_plan program built.map (4 * at) flat

  abbrev count : ℕ
  count = padded_sum is_static (signatures_of program)

  abbrev tables : List ℕ
  tables = map table_number (table_indices program)

  own-sized : AllByRecursion IsSized (signatures_of program)
  own-sized = functions-are-sized rom_size ram_size layout program built.map built.needs m.fitted

  tables-long : length tables ≡ count
  tables-long = length-map (table_indices program) table_number ∙ tables-are-long program

  before : length m.words ≤ at
  before = ends-before rom_size ram_size layout program built.map built.needs m.fitted at m.ends m.words m.round

  inside : at + count ≤ length built.rom
  inside = let ends = m.ends in let is = m.fitted.within.is_rom in let holds = m.fitted.within.rom_holds in let size = m.size in omega arith

  machine : IsMachine built.rom ram_size
  machine = record {
    words = m.image.words;
    rom_small = let size = m.size in ⊎_elim (λ e. omega arith) (λ e. omega arith) m.fitted.rom_bytes;
    ram_small = ⊎_elim (λ e. omega arith) (λ e. omega arith) m.fitted.ram_bytes;
    ram_aligned = ⊎_elim (λ e. omega arith) (λ e. omega arith) m.fitted.ram_bytes;
  }

  setting : IsSetting built.rom ram_size program built.map (4 * at)
  setting = record {
    mapped = mapped rom_size ram_size layout program built.map built.needs m.fitted;
    coded = coded rom_size ram_size layout program built.map built.needs m.fitted;
    words =
        placed-tables-are-held built.rom built.written m.words at program built.map (same-signatures rom_size ram_size layout program built.map built.needs m.fitted) own-sized m.fitted.checked.tables
        m.image m.written before (let in_rom = inside in let long = tables-are-long program in omega arith);
    inside = inside-ram rom_size ram_size layout program built.map built.needs m.fitted;
    small = low rom_size ram_size layout program built.map built.needs m.fitted;
  }

  closed : IsClosed built.rom ram_size tree at count
  closed =
      subst (IsClosed built.rom ram_size tree at) tables-long
      (placed-is-closed built.rom built.written m.words tables (table_indices program) ram_size at tree machine m.image m.written before
      (let in_rom = inside in let long = tables-long in omega arith) m.round.rows (are-table-words program own-sized m.fitted.checked.tables))

  pub unrolled : IsUnrolled rom_size ram_size layout program flat built at
  unrolled = record {
    size = m.size;
    image = m.image;
    short = let most = placed-short m.words at tables built.written before m.written in let long = tables-long in let ends = m.ends in omega arith;
    map = m.fitted.laid_out;
    needs = m.counted;
    within = m.fitted.within;
    setting = setting;
    closed = closed;
    writable = writable rom_size ram_size layout program built.map built.needs m.fitted flat m.round.expanded;
    light = m.round.expanded.light;
    permitted = m.round.expanded.permitted;
  }

pub made-images-stabilize : MadeImagesStabilize
made-images-stabilize rom_size ram_size layout program built at m =
    let u = unrolled rom_size ram_size layout program built at m in
    (unrolled-stabilizes rom_size ram_size layout program m.round.flat built at u, chooses-least rom_size ram_size layout program m.round.flat built at u m.round.expanded.least)
