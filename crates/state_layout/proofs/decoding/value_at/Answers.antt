use Rattle.std.proofs.Common.{◌≡◌, Some, refl, sym, ap, ◌∙◌, arith, rules, w64, to_z, of_z}
use Rattle.std.proofs.lemmas.Int.{to_z-of_z}
use Rattle.state_space.specs.Locations.{is_state}
use Rattle.state_layout.specs.Map.{access_at, array_start, entry_at, state_end, value_at}
use Rattle.state_layout.proofs.Cells.{cells-lie-inside, values-are-arrays}
use Rattle.state_layout.proofs.HeldState.{decoded-at}
use Rattle.state_layout.proofs.Widths.{width-some}
use Rattle.state_layout.proofs.decoding.value_at.Goals as goal

pub number-number-requires : goal.number-number-requires
number-number-requires g c =
    let p = c.args.map.now in
    let lies = cells-lie-inside is_state p.signatures (access_at p) (array_start p) 0 (state_end p) c.cell-cell.result (values-are-arrays p) c.cell-cell.ensures.held in (
      search rules,
      (
        rw (c.value_offset.ensures, c.access_at.ensures) lies.aligned,
        omega (arith, lies.below, (width-some (access_at p c.cell-cell.result.fun)).0, c.requires.inside, c.value_offset.ensures),
      ),
    )

pub returns : goal.returns
returns g c =
    let p = c.args.map.now in
    let wide : to_z w64 (of_z w64 c.value.result) ≡ c.value.result = to_z-of_z w64 c.value.result (search rules) in
    let same : c.value.result ≡ value_at c.args.hart.now.ram (entry_at p c.cell-cell.result) =
    rw (c.value.ensures, c.decode_word.ensures.index, c.number-number.ensures.value, c.access_at.ensures, c.value_offset.ensures, c.range_at-range.ensures.range) refl in
    decoded-at p c.args.hart.now.ram c.args.place c.cell-cell.result c.cell-cell.ensures.cell ∙ ap Some (sym (wide ∙ same))
