-- What it is that an image stabilizes (after Dolev, Haviv and Sagiv, TOPLAS 31(6), 2009).
use Rattle.std.specs.Prelude.{◌≡◌, ℕ, zero, suc, ◌*◌, ◌≤◌, List, length}
use Rattle.asm_names.specs.declared.program.Resolved.{Resolved}
use Rattle.bound_count.specs.Numbers.{numbers_of}
use Rattle.bound_count.specs.Refusals.{FitsMachine}
use Rattle.state_layout.specs.declared.layout.Layout.{Layout}
use Rattle.bound_count.specs.declared.shape.Shape.{Shape}
use Rattle.rv_machine.specs.Hart.{HartState, IsValid}
use Rattle.rv_machine.specs.Image.{IsImage}
use Rattle.rv_machine.specs.Run.{after, left_after}
use Rattle.state_layout.specs.Map.{Placement}
use Rattle.state_space.specs.Locations.{signatures_of}
use Rattle.round_spec.specs.Round.{Compiled, IsLeastRound, Round}

-- the map of a program's RAM in a layout
abbrev pub placed : Layout → Resolved → Placement
placed layout program = record { layout = layout; signatures = signatures_of program }

-- On a hart with so many bytes of ROM and of RAM: from everywhere the head is reached within the anchor bound, and from the head each round is one of the program within the round bound.
pub record Stabilizes (rom_size ram_size : ℕ) (shape : Shape) (layout : Layout) (program : Resolved) (built : Compiled) : Type 0 where
  -- ROM is the written words and behind them the jumps to 0, the map is that of the layout, the bounds are the program's and within the limits
  pub size : 4 * length built.rom ≡ rom_size
  pub image : IsImage built.written built.rom
  pub short : length built.written ≤ built.needs.rom
  pub map : built.map ≡ placed layout program
  pub needs : built.needs ≡ numbers_of shape layout program
  pub within : FitsMachine rom_size ram_size shape layout program built.needs
  -- from every RAM, register file and program counter, whatever the ports read
  pub anchored : (m : HartState) (readings : List ℕ) → IsValid ram_size m
      → (t : ℕ) × (t ≤ built.needs.anchor) × ((after built.rom t readings m).pc ≡ 0)
  -- from every hart at the head, whatever the ports read
  pub rounds : (m : HartState) (readings : List ℕ) → IsValid ram_size m → m.pc ≡ 0
      → (t : ℕ) × (t ≤ built.needs.round) × Round program built readings m t (after built.rom t readings m)

-- it stabilizes in some shape and some layout
pub record IsStable (rom_size ram_size : ℕ) (program : Resolved) (built : Compiled) : Type 0 where
  pub shape : Shape
  pub layout : Layout
  pub stabilizes : Stabilizes rom_size ram_size shape layout program built

-- each round from a valid hart makes the step of the least choices
abbrev pub ChoosesLeast : (ram_size : ℕ) → Resolved → Compiled → Type 0
ChoosesLeast ram_size program built =
    (readings : List ℕ) (m m' : HartState) (t : ℕ) → IsValid ram_size m → Round program built readings m t m' → IsLeastRound program built readings m m'

-- so many rounds, one after another
abbrev pub AreRounds : Resolved → Compiled → ℕ → List ℕ → HartState → Type 0
AreRounds program built zero readings m = Unit {0}
AreRounds program built (suc n) readings m =
    (t : ℕ) × (t ≤ built.needs.round) × Round program built readings m t (after built.rom t readings m)
    × AreRounds program built n (left_after built.rom t readings m) (after built.rom t readings m)

-- from every hart at the head, whatever the ports read, one round follows another without end
abbrev pub GoesOn : ℕ → Resolved → Compiled → Type 0
GoesOn size program built =
    (m : HartState) (readings : List ℕ) → IsValid size m → m.pc ≡ 0 → (n : ℕ) → AreRounds program built n readings m
