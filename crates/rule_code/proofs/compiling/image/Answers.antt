use Rattle.std.proofs.Common.{◌≡◌, ◌+◌, ◌-◌, ◌*◌, ◌≤◌, length, sym, ap, ◌∙◌, subst, lit<, arith}
use Rattle.std.proofs.lemmas.List.{length-map}
use Rattle.state_space.specs.Locations.{is_static, signatures_of}
use Rattle.state_space.specs.Sizes.{padded_sum}
use Rattle.rom_tables.specs.Tables.{table_indices, table_number}
use Rattle.rom_tables.proofs.Stored.{tables-are-long}
use Rattle.rom_anchor.specs.Placed.{IsPlaced}
use Rattle.round_spec.specs.Stabilizes.{placed}
use Rattle.rule_code.specs.Image.{IsFitted, IsMade}
use Rattle.rule_code.proofs.Making.{ends-before}
use Rattle.rule_code.proofs.compiling.image.Goals as goal

pub overflow_cast-at-2 : goal.overflow_cast-at-2
overflow_cast-at-2 g c =
    let long = ap length c.list.ensures ∙ ap length c.in_ok-tables.ensures ∙ length-map (table_indices c.args.checked.now) table_number ∙ tables-are-long c.args.checked.now in
    let is = c.requires.within.is_rom in
    let holds = c.requires.within.rom_holds in
    let fits = g.ROM.fits in
    omega arith

pub overflow_sub-at : goal.overflow_sub-at
overflow_sub-at g c =
    let long = ap length c.list.ensures ∙ ap length c.in_ok-tables.ensures ∙ length-map (table_indices c.args.checked.now) table_number ∙ tables-are-long c.args.checked.now in
    let is = c.requires.within.is_rom in
    omega arith

pub place-requires : goal.place-requires
place-requires g c =
    let program = c.args.checked.now in
    let at = c.args.numbers.rom - length c.list.result.now in
    let all = ap length c.list.ensures in
    let long = ap length c.in_ok-tables.ensures ∙ length-map (table_indices program) table_number ∙ tables-are-long program in
    let is = c.requires.within.is_rom in
    let holds = c.requires.within.rom_holds in
    let fitted : IsFitted g.row.ROM g.row.RAM c.args.layout program c.in_ok-map.map c.args.numbers =
    record {
      rom_bytes = c.requires.rom;
      ram_bytes = c.requires.ram;
      checked = c.resolved.ensures.checked;
      laid_out = c.in_ok-map.ensures ∙ ap (λ signatures. record { layout = c.args.layout; signatures = signatures }) c.in_ok-space.ensures ∙ ap (placed c.args.layout) c.resolved.ensures.program;
      within = c.requires.within;
    } in
    let ends : at + padded_sum is_static (signatures_of program) ≡ c.args.numbers.rom = omega arith in
    let before = ends-before g.row.ROM g.row.RAM c.args.layout program c.in_ok-map.map c.args.numbers fitted at ends c.in_ok-words.words c.in_ok-words.ensures in
    let inside : 4 * (at + length c.in_ok-tables.tables) ≤ g.row.ROM = omega arith in
    (lit< tt, (c.requires.rom, (before, inside)))

pub returns-clause-made : goal.returns-clause-made
returns-clause-made g c =
    let program = c.args.checked.now in
    let at = c.args.numbers.rom - length c.list.result.now in
    let all = ap length c.list.ensures in
    let long = ap length c.in_ok-tables.ensures ∙ length-map (table_indices program) table_number ∙ tables-are-long program in
    let is = c.requires.within.is_rom in
    let ends : at + padded_sum is_static (signatures_of program) ≡ c.args.numbers.rom = omega arith in (
      at,
      subst (λ built. IsMade g.row.ROM g.row.RAM c.args.layout program built at) (sym c.of-2.ensures)
          (record {
            fitted = record {
              rom_bytes = c.requires.rom;
              ram_bytes = c.requires.ram;
              checked = c.resolved.ensures.checked;
              laid_out = c.in_ok-map.ensures ∙ ap (λ signatures. record { layout = c.args.layout; signatures = signatures }) c.in_ok-space.ensures ∙ ap (placed c.args.layout) c.resolved.ensures.program;
              within = c.requires.within;
            };
            counted = c.requires.needs;
            ends = ends;
            words = c.in_ok-words.words;
            round = c.in_ok-words.ensures;
            written = subst (λ tables. IsPlaced c.in_ok-words.words at tables c.in_ok-image.image.written) c.in_ok-tables.ensures c.in_ok-image.ensures.placed;
            image = c.in_ok-image.ensures.image;
            size = c.in_ok-image.ensures.size;
          }),
    )
