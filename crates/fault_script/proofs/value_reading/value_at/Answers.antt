use Rattle.std.proofs.Common.{◌≡◌, get_or, arith, refl}
use Rattle.std.proofs.lemmas.Option.{get_or_from_slice_get}
use Rattle.state_space.specs.Locations.{no_domain}
use Rattle.fault_script.proofs.Tables.{domain-at, item-read, table-at, tables-long}
use Rattle.fault_script.proofs.Spelled.{spelled-fits}
use Rattle.fault_script.proofs.value_reading.value_at.Goals as goal

pub index-requires : goal.index-requires
index-requires c = omega (arith, tables-long _ _ c.requires.explained.enumerators, c.codomain-number.ensures.within)

pub value_given-requires : goal.value_given-requires
value_given-requires c =
    let tables = c.args.glossary.now.enumerators.items in
    let n = c.codomain-number.result in
    let at = item-read c.args.resolved.now.domains c.as_slice.result.now n c.index-as_slice-number.result c.as_slice.ensures c.codomain-number.ensures.within c.index-as_slice-number.is in
    table-at tables c.args.resolved.now.domains n c.index.result.now c.index-as_slice-number.result c.requires.explained.enumerators
    (item-read tables tables n c.index.result.now refl (omega (arith, tables-long _ _ c.requires.explained.enumerators, c.codomain-number.ensures.within)) c.index.ensures) at

pub returns-clause-fits : goal.returns-clause-fits
returns-clause-fits c =
    let domains = c.args.resolved.now.domains in
    let n = c.codomain-number.result in
    let d = c.index-as_slice-number.result in
    let at = item-read domains c.as_slice.result.now n d c.as_slice.ensures c.codomain-number.ensures.within c.index-as_slice-number.is in
    let of : get_or domains n no_domain ≡ d = get_or_from_slice_get domains n d no_domain at in
    rw (c.codomain-number.ensures.range, of, c.value_given.ensures) (spelled-fits d (domain-at domains n d c.comes_from_faultless.ensures.well_formed.domains at) c.args.text.now)
