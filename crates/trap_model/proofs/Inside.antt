-- Every place that a load or a store has lies inside: what the lemmas of the crates above take from the map.
use Rattle.std.proofs.Common.{◌≡◌, ℕ, ◌-◌, ◌/◌, ◌%◌, ◌<◌, ◌≤◌, Bool, true, false, cond, refl, ⊎_elim, arith}
use Rattle.std.proofs.lemmas.Bool.Decides.{nat_tests}
use Rattle.std.specs.Prelude.{◌==◌, ◌&&◌}
use Rattle.trap_model.specs.Map.{IsLoadInside, IsStoreInside, in_base, lies_in, load_at, out_base, ram_base, store_at}
use Rattle.trap_model.specs.Width.{IsWidth}
use Rattle.trap_model.specs.declared.map.Loads.{Loads}
use Rattle.trap_model.specs.declared.map.Loads.TheVariants.{Rom as FromRom, Ram as FromRam, InPort, Trap as NoLoad}
use Rattle.trap_model.specs.declared.map.Stores.{Stores}
use Rattle.trap_model.specs.declared.map.Stores.TheVariants.{Ram as IntoRam, OutPort, Trap as NoStore}

within : (base size address : ℕ) → lies_in base size address ≡ true → (base ≤ address) × (address - base < size)
unfolding lies_in
within base size address h = (grind (arith, nat_tests), grind (arith, nat_tests))

-- from a base that is a multiple of the width, an aligned address has an aligned offset
aligned : (width address : ℕ) → IsWidth width → ram_base ≤ address → address % width ≡ 0 → (address - ram_base) % width ≡ 0
aligned width address w above h =
    ⊎_elim (λ (e : width ≡ 1). rw e (omega arith)) (⊎_elim (λ (e : width ≡ 2). let k = rw e at h in rw e (omega arith)) (λ (e : width ≡ 4). let k = rw e at h in rw e (omega arith))) w

cond_inside : (size width : ℕ) (b : Bool) (s t : Stores) → (b ≡ true → IsStoreInside size width s) → IsStoreInside size width t → IsStoreInside size width (cond b s t)
cond_inside size width true s t f g = f refl
cond_inside size width false s t f g = g

pub store_at-inside : (size width address : ℕ) → IsWidth width → IsStoreInside size width (store_at size address width)
unfolding store_at
store_at-inside size width address w =
    cond_inside size width (address % width == 0) _ NoStore
    (λ e. cond_inside size width (lies_in ram_base size address) (IntoRam (address - ram_base)) _
    (λ l. let in' = within ram_base size address l in (in'.1, aligned width address w in'.0 (grind (arith, nat_tests))))
    (cond_inside size width ((width == 4) && lies_in out_base 1024 address) (OutPort ((address - out_base) / 4)) NoStore
    (λ l. let in' = within out_base 1024 address (grind (arith, nat_tests)) in omega arith)
    tt))
    tt

load_inside : (rom size width : ℕ) (b : Bool) (s t : Loads) → (b ≡ true → IsLoadInside rom size width s) → IsLoadInside rom size width t → IsLoadInside rom size width (cond b s t)
load_inside rom size width true s t f g = f refl
load_inside rom size width false s t f g = g

pub load_at-inside : (rom size width address : ℕ) → IsWidth width → IsLoadInside rom size width (load_at rom size address width)
unfolding load_at
load_at-inside rom size width address w =
    load_inside rom size width (address % width == 0) _ NoLoad
    (λ e. load_inside rom size width (lies_in 0 rom address) (FromRom address) _
    (λ l. let in' = within 0 rom address l in (omega arith, grind (arith, nat_tests)))
    (load_inside rom size width (lies_in ram_base size address) (FromRam (address - ram_base)) _
    (λ l. let in' = within ram_base size address l in (in'.1, aligned width address w in'.0 (grind (arith, nat_tests))))
    (load_inside rom size width ((width == 4) && lies_in in_base 1024 address) (InPort ((address - in_base) / 4)) NoLoad
    (λ l. let in' = within in_base 1024 address (grind (arith, nat_tests)) in omega arith)
    tt)))
    tt
