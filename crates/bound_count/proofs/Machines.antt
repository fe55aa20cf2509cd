-- What the numbers say of a program that fits a machine.
use Rattle.std.proofs.Common.{◌≡◌, ℕ, ◌+◌, ◌*◌, ◌<◌, ◌≤◌, ◌^◌, true, Result, Ok, Err, ap, ◌∙◌, arith}
use Rattle.std.specs.Prelude.{IfOk}
use Rattle.std.proofs.lemmas.Nat.{mul-le}
use Rattle.asm_names.specs.declared.program.Resolved.{Resolved}
use Rattle.state_space.specs.Locations.{is_input, signatures_of}
use Rattle.state_space.specs.Sizes.{fits}
use Rattle.bound_count.specs.declared.shape.Shape.{Shape}
use Rattle.state_layout.specs.declared.layout.Layout.{Layout}
use Rattle.bound_count.specs.declared.numbers.Numbers.{Numbers}
use Rattle.bound_count.specs.declared.numbers.NeedEnd.{NeedEnd}
use Rattle.bound_count.specs.Amounts.{kept}
use Rattle.bound_count.specs.Counts.{is_output, location_count}
use Rattle.bound_count.specs.Numbers.{numbers_of, loop_depth, round_number, anchor_number}
use Rattle.bound_count.specs.Refusals.{FitsMachine, IsWithin}
use Rattle.bound_count.proofs.Counting.{fits-little}

-- a round is shorter than the time before one
pub round-short : (shape : Shape) (program : Resolved) → round_number shape program ≤ anchor_number shape program
round-short shape program =
    let once : 1 * round_number shape program ≤ (loop_depth shape program.rule + 2) * round_number shape program = mul-le 1 _ _ _ (omega arith) (omega arith) in
    omega (arith, once)

module _ (rom ram : ℕ) (few : rom < 2 ^ 32) (small : ram < 2 ^ 32) (shape : Shape) (layout : Layout) (program : Resolved) where
  pub fits-machine : (found : Numbers) → found ≡ numbers_of shape layout program
      → (i o : ℕ) → i ≡ kept (location_count is_input (signatures_of program)) → o ≡ kept (location_count is_output (signatures_of program))
      → (r : Result Numbers NeedEnd) → IfOk r (λ n. n ≡ found) → IfOk r (λ n. IsWithin rom ram found i o) → IfOk r (λ n. FitsMachine rom ram shape layout program n)
  fits-machine found is i o inputs outputs (Ok n) same within =
      let e = same ∙ is in
      let in_ram = ap (λ (m : Numbers). m.ram) e in
      let in_rom = ap (λ (m : Numbers). m.rom) e in
      let in_anchor = ap (λ (m : Numbers). m.anchor) e in
      let in_round = ap (λ (m : Numbers). m.round) e in
      let in_regs = ap (λ (m : Numbers). m.regs) e in
      let ram_of = ap (λ (m : Numbers). m.ram) is in
      let rom_of = ap (λ (m : Numbers). m.rom) is in
      let anchor_of = ap (λ (m : Numbers). m.anchor) is in
      let regs_of = ap (λ (m : Numbers). m.regs) is in
      record {
        is_ram = omega (arith, in_ram, ram_of, within.ram_holds, small);
        is_rom = omega (arith, in_rom, rom_of, within.rom_holds, few);
        is_anchor = omega (arith, in_anchor, anchor_of, within.soon);
        is_round = omega (arith, in_round, anchor_of, within.soon, round-short shape program);
        is_regs = omega (arith, in_regs, regs_of, within.registers);
        few_registers = omega (arith, regs_of, within.registers);
        few_inputs = omega (arith, inputs, within.few_inputs);
        few_outputs = omega (arith, outputs, within.few_outputs);
        ram_holds = omega (arith, ram_of, within.ram_holds, small);
        rom_holds = omega (arith, rom_of, within.rom_holds, few);
        soon = omega (arith, anchor_of, within.soon);
      }
  fits-machine found is i o inputs outputs (Err e) same within = tt

  pub fits-space : (r : Result Numbers NeedEnd) → IfOk r (λ n. FitsMachine rom ram shape layout program n) → ram ≤ 1048576 → IfOk r (λ n. fits (signatures_of program) ≡ true)
  fits-space (Ok n) h little = fits-little layout program (omega (arith, h.ram_holds, little))
  fits-space (Err e) h little = tt
