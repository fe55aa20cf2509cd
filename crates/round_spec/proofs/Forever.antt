-- Where an image stabilizes, one round follows another, without end.
use Rattle.std.proofs.Common.{◌≡◌, ℕ, zero, suc, ◌%◌, List}
use Rattle.rv_machine.specs.Hart.{HartState, IsValid}
use Rattle.rv_machine.specs.Run.{after, left_after}
use Rattle.rv_machine.proofs.Run.{valid-after}
use Rattle.asm_names.specs.declared.program.Resolved.{Resolved}
use Rattle.round_spec.specs.Round.{Compiled}
use Rattle.round_spec.specs.Stabilizes.{AreRounds, IsStable}

pub rounds-forever : (size : ℕ) → size % 4 ≡ 0 → (rom_size : ℕ) (p : Resolved) (built : Compiled) → IsStable rom_size size p built
    → (n : ℕ) (readings : List ℕ) (m : HartState) → IsValid size m → m.pc ≡ 0 → AreRounds p built n readings m
rounds-forever size multiple rom_size p built stable zero readings m v head = tt
rounds-forever size multiple rom_size p built stable (suc n) readings m v head =
    let r = stable.stabilizes.rounds m readings v head in
    let valid = valid-after size multiple built.rom stable.stabilizes.image.words r.0 readings m v in
    (r.0, r.1, r.2, rounds-forever size multiple rom_size p built stable n (left_after built.rom r.0 readings m) (after built.rom r.0 readings m) valid r.2.ends)
