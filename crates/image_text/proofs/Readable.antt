-- What stabilizes can be read back from its report.
use Rattle.std.proofs.Common.{ℕ, ◌<◌, ◌^◌, length, sym, ap, subst, arith}
use Rattle.std.proofs.lemmas.List.Elements.{All-take}
use Rattle.rv_machine.specs.Hart.{AreWords}
use Rattle.asm_names.specs.declared.program.Resolved.{Resolved}
use Rattle.state_layout.specs.declared.layout.Layout.{Layout}
use Rattle.state_layout.specs.Map.{Placement}
use Rattle.state_layout.specs.MapLaw.{IsPlaced}
use Rattle.bound_count.specs.declared.shape.Shape.{Shape}
use Rattle.bound_count.specs.Amounts.{kept}
use Rattle.bound_count.specs.Numbers.{anchor_number, numbers_of, ram_number, register_number, rom_number, round_number}
use Rattle.round_spec.specs.Round.{Compiled}
use Rattle.round_spec.specs.Stabilizes.{Stabilizes}
use Rattle.image_text.specs.Report.{AreNamed, AreNeedsReadable, IsReportable}

kept_small : (n : ℕ) → kept n < 2 ^ 64
kept_small n = omega arith

needs_readable : (shape : Shape) (layout : Layout) (program : Resolved) → AreNeedsReadable (numbers_of shape layout program)
needs_readable shape layout program = record {
  ram = kept_small (ram_number layout program);
  rom = kept_small (rom_number shape program);
  anchor = kept_small (anchor_number shape program);
  round = kept_small (round_number shape program);
  regs = kept_small (register_number program);
}

pub readable : (rom ram : ℕ) (shape : Shape) (layout : Layout) (program : Resolved) (built : Compiled) (revision : ℕ) → Stabilizes rom ram shape layout program built
    → AreNamed program → IsPlaced built.map → revision < 2 ^ 64 → IsReportable program built revision
readable rom ram shape layout program built revision image names placed small = record {
  names = names;
  map = ap (λ (p : Placement). p.signatures) image.map;
  placed = placed;
  needs = subst AreNeedsReadable (sym image.needs) (needs_readable shape layout program);
  words = subst AreWords image.image.front (All-take (λ x. x < 2 ^ 32) (length built.written) built.rom image.image.words);
  making = small;
}
