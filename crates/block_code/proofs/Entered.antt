-- Blocks that are entered at their top, and their parts.
use Rattle.std.proofs.Common.{◌≡◌, ℕ, ◌+◌, ◌*◌, ◌%◌, ◌^◌, ◌<◌, ◌≤◌, List, length, slice_index, refl, ap, ◌∙◌, arith}
use Rattle.rv_machine.specs.Memory.{stored}
use Rattle.rv_machine.proofs.Store.{length-stored}
use Rattle.block_code.specs.Block.{IsSlot}
use Rattle.block_code.specs.Effect.{Does, Own, moved}
use Rattle.block_code.specs.Leads.{IsEntered, IsOwnStep}
use Rattle.block_code.specs.Moment.{IsValidMoment, Moment}
use Rattle.block_code.specs.Plan.{If, Loop, Plan, Scan, Seq, code, len}
use Rattle.block_code.proofs.Behind.{block-place, comes-out, moved-valid, own-kept}
use Rattle.block_code.proofs.Place.{IfStands, ScanStands, if-stands, loop-stands, scan-stands, stands-block}
use Rattle.block_code.proofs.Region.{byte-outside}

-- the first part of a sequence is entered where the sequence is
pub enter-first : {rom : List ℕ} {size address : ℕ} {first second : Plan} {s : Moment} → IsEntered rom size address (Seq first second) s → IsEntered rom size address first s
enter-first {rom = rom} {address = address} {first = first} {second = second} e = record {
  machine = e.machine;
  block = e.block.0;
  holds = e.holds.0;
  stands = (stands-block rom address first (code second) e.stands).0;
  valid = e.valid;
  here = e.here;
}

-- the second part is entered where the first comes out
pub enter-second : {rom : List ℕ} {size address : ℕ} {first second : Plan} {s mid : Moment} → IsEntered rom size address (Seq first second) s → Does rom address first s mid
    → IsEntered rom size (address + 4 * len first) second mid
enter-second {rom = rom} {address = address} {first = first} {second = second} e d =
    let out = comes-out (enter-first e) d in record {
      machine = e.machine;
      block = e.block.1;
      holds = e.holds.1;
      stands = (stands-block rom address first (code second) e.stands).1;
      valid = out.0;
      here = out.1;
    }

module _ {rom : List ℕ} {size address test : ℕ} {then_part else_part : Plan} {s : Moment} (e : IsEntered rom size address (If test then_part else_part) s) where
  if-placed : IfStands rom address test then_part else_part
  if-placed = if-stands rom address test then_part else_part e.stands

  if-bounds : address + 4 * (3 + len then_part + len else_part) ≤ 2 ^ 20
  if-bounds = (block-place rom size e.machine (If test then_part else_part) address e.stands (omega arith)).1

  -- the then part is entered behind the two words of the test
  pub enter-then : IsEntered rom size (address + 8) then_part (moved (address + 8) s)
  enter-then = record {
    machine = e.machine;
    block = e.block.0;
    holds = e.holds.0;
    stands = if-placed.then_at;
    valid = moved-valid size (address + 8) s (omega (arith, if-bounds)) e.valid;
    here = refl;
  }

  -- the else part is entered behind the then part and its jump
  pub enter-else : IsEntered rom size (address + 12 + 4 * len then_part) else_part (moved (address + 12 + 4 * len then_part) s)
  enter-else = record {
    machine = e.machine;
    block = e.block.1;
    holds = e.holds.1;
    stands = if-placed.else_at;
    valid = moved-valid size (address + 12 + 4 * len then_part) s (omega (arith, if-bounds)) e.valid;
    here = refl;
  }

-- ---- the own code of a loop or a scan
module _ (size slot : ℕ) (is_slot : IsSlot slot) (inside : slot < size) where
  -- where it changes no RAM
  pub own-step : (at : ℕ) (s s' : Moment) → Own at s.hart.ram s s' → IsOwnStep slot s s'
  own-step at s s' own = record {
    regs = own.regs;
    bytes = λ o out. ap (λ l. slice_index l o) own.ram;
    count = ap length own.ram;
    readings = own.readings;
    log = own.log;
  }

  -- where it writes its slot
  pub own-step-stored : (at x : ℕ) (s s' : Moment) → size % 4 ≡ 0 → IsValidMoment size s → Own at (stored 4 slot x s.hart.ram) s s' → IsOwnStep slot s s'
  own-step-stored at x s s' multiple valid own =
      let a = is_slot.aligned in let count = valid.hart.ram.count in
      let fits : slot + 4 ≤ length s.hart.ram = omega arith in
      record {
        regs = own.regs;
        bytes = λ o out. ap (λ l. slice_index l o) own.ram ∙ byte-outside 4 slot x o s.hart.ram fits (λ f b. out (f, b));
        count = ap length own.ram ∙ length-stored 4 slot x s.hart.ram fits;
        readings = own.readings;
        log = own.log;
      }

-- the body of a loop is entered where the own code has come to it
pub entered-body : {rom : List ℕ} {size address count slot : ℕ} {body : Plan} {s : Moment} → IsEntered rom size address (Loop count slot body) s → (x m : Moment)
    → IsValidMoment size x → Own (address + 32) x.hart.ram x m → IsEntered rom size (address + 32) body m
entered-body {rom = rom} {size = size} {address = address} {count = count} {slot = slot} {body = body} e x m valid own = record {
  machine = e.machine;
  block = e.block.2;
  holds = e.holds.1;
  stands = (loop-stands rom address count slot body e.stands).body_at;
  valid = own-kept rom size e.machine (address + 32) x m valid own;
  here = own.pc;
}

-- the parts of a scan are entered where its own code, or the test behind the guard, has come to them
module _ {rom : List ℕ} {size address count slot : ℕ} {guard : Plan} {test : ℕ} {found none : Plan} {s : Moment} (e : IsEntered rom size address (Scan count slot guard test found none) s) where
  scan-placed : ScanStands rom address count slot guard test found none
  scan-placed = scan-stands rom address count slot guard test found none e.stands

  scan-bounds : address + 4 * (15 + len guard + len found + len none) ≤ 2 ^ 20
  scan-bounds = (block-place rom size e.machine (Scan count slot guard test found none) address e.stands (omega arith)).1

  pub entered-guard : (x m : Moment) → IsValidMoment size x → Own (address + 32) x.hart.ram x m → IsEntered rom size (address + 32) guard m
  entered-guard x m valid own = record {
    machine = e.machine;
    block = e.block.2;
    holds = e.holds.1;
    stands = scan-placed.guard_at;
    valid = own-kept rom size e.machine (address + 32) x m valid own;
    here = own.pc;
  }

  pub entered-found : (x : Moment) → IsValidMoment size x → IsEntered rom size (address + 56 + 4 * len guard) found (moved (address + 56 + 4 * len guard) x)
  entered-found x valid = record {
    machine = e.machine;
    block = e.block.3;
    holds = e.holds.2;
    stands = scan-placed.found_at;
    valid = moved-valid size (address + 56 + 4 * len guard) x (omega (arith, scan-bounds)) valid;
    here = refl;
  }

  pub entered-none : (x m : Moment) → IsValidMoment size x → Own (address + 56 + 4 * len guard + 4 * len found + 4) x.hart.ram x m
      → IsEntered rom size (address + 56 + 4 * len guard + 4 * len found + 4) none m
  entered-none x m valid own = record {
    machine = e.machine;
    block = e.block.4;
    holds = e.holds.3;
    stands = scan-placed.none_at;
    valid = own-kept rom size e.machine (address + 56 + 4 * len guard + 4 * len found + 4) x m valid own;
    here = own.pc;
  }
