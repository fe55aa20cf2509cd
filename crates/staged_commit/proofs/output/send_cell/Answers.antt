use Rattle.std.proofs.Common.{◌≡◌, List, ◌++◌, ap, ◌∙◌, arith, to_z, of_z, w32}
use Rattle.std.proofs.lemmas.Int.{to_z-of_z}
use Rattle.std.proofs.lemmas.Result.{on_ok_weaker}
use Rattle.rv_isa.specs.declared.instr.Instr.{Instr}
use Rattle.block_code.specs.Sequence as sequence
use Rattle.state_space.specs.declared.signature.Range.{Range}
use Rattle.mask_guard.specs.Mask as mask
use Rattle.state_layout.specs.Map.{access_at, range_at, value_offset}
use Rattle.staged_commit.specs.Code as code
use Rattle.staged_commit.proofs.Emitted.{grew-thrice, value-low}
use Rattle.staged_commit.proofs.Ranged.{lo-fits}
use Rattle.staged_commit.proofs.output.send_cell.Goals as goal

pub load_fixed-requires : goal.load_fixed-requires
load_fixed-requires c = let low = value-low c.args.map.now c.requires.coded c.args.cell c.requires.cell in let is = c.value_offset.ensures in omega arith

pub returns : goal.returns
returns c =
    let m = c.args.map.now in
    let range = range_at m c.args.cell.fun in
    let load : List Instr = sequence.load_fixed (access_at m c.args.cell.fun) code.first (value_offset m c.args.cell) in
    let decode : List Instr = mask.decode_value code.first range.size range.lo in
    let loaded : c.load_fixed.result ≡ load =
    c.load_fixed.ensures
    ∙ ap (λ w. sequence.load_fixed w c.first_register.result c.value_offset.result) c.access_at-value.ensures
    ∙ ap (λ r. sequence.load_fixed (access_at m c.args.cell.fun) r c.value_offset.result) c.first_register.ensures
    ∙ ap (λ o. sequence.load_fixed (access_at m c.args.cell.fun) code.first o) c.value_offset.ensures in
    let first : c.append.new.self ≡ c.args.line.now ++ load = c.in_ok-append.ensures.ok ∙ ap (λ l. c.args.line.now ++ l) loaded in
    let second : c.decode_value.new.out ≡ c.append.new.self ++ decode =
    c.in_ok-decode_value.ensures.ok
    ∙ ap (λ r. c.append.new.self ++ mask.decode_value r c.range_at-range.result.size (to_z w32 (of_z w32 c.range_at-range.result.lo))) c.first_register-2.ensures
    ∙ ap (λ (r : Range). c.append.new.self ++ mask.decode_value code.first r.size (to_z w32 (of_z w32 r.lo))) c.range_at-range.ensures.range
    ∙ ap (λ lo. c.append.new.self ++ mask.decode_value code.first range.size lo) (to_z-of_z w32 range.lo (lo-fits m c.requires.coded c.args.cell.fun)) in
    on_ok_weaker c.append-2.result
    (λ third. grew-thrice c.args.line.now c.append.new.self c.decode_value.new.out c.append-2.new.self load decode (code.send_word c.args.port) first second (third ∙ ap (λ l. c.decode_value.new.out ++ l) c.sent.ensures))
    c.append-2.ensures.ok
