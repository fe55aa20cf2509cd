-- The lines that read binders and functions leave their values.
use Rattle.std.proofs.Common.{◌≡◌, ℕ, suc, ◌+◌, ◌*◌, ◌%◌, ◌^◌, ◌<◌, ◌≤◌, ℤ, pos, ◌+ℤ◌, Bool, true, List, ◌++◌, length, length-append, Option, Some, None, refl, sym, ap, ◌∙◌, arith}
use Rattle.std.{specs.{Prelude.{slice_get}}, proofs.lemmas.{Int.{ints}}}
use Rattle.asm_tree.specs.declared.decl.Kind.{Kind}
use Rattle.asm_names.specs.declared.{program.Resolved.{Resolved}}
use Rattle.rv_isa.specs.declared.instr.Instr.{Instr}
use Rattle.rv_machine.specs.Memory.{number_at}
use Rattle.state_space.specs.{declared.signature.{Range.{Range}, Signature.{Signature}}, Codomains.{codomain_of}, Locations.{is_input, is_state, signatures_of}}
use Rattle.state_space.proofs.Indices.{index-below}
use Rattle.trap_model.specs.{Map.{ram_base}, Width.{bytes_of}}
use Rattle.trap_model.specs.declared.width.Width.{Width}
use Rattle.trap_model.specs.declared.width.Width.TheVariants.{Word}
use Rattle.asm_ranges.specs.{Values.{read}}
use Rattle.asm_ranges.specs.Values.{lie_in}
use Rattle.block_code.specs.Effect.{reg_at}
use Rattle.block_code.specs.Moment.{Moment}
use Rattle.block_code.specs.Place.{IsMachine}
use Rattle.block_code.specs.Sequence.{load_fixed}
use Rattle.block_code.specs.SequenceLaw.{IsOffset}
use Rattle.mask_guard.specs.{Mask.{address_of, decode_value, load_cell, shift_of, word_of}}
use Rattle.mask_guard.proofs.Numbers.{shifts-are-widths}
use Rattle.state_layout.specs.{Map.{IsCell, Placement, access_at, array_start, decoded, flags_end, kept_end, kept_start, map_end, range_at, slot, state_end}}
use Rattle.state_layout.proofs.Widths.{width-some}
use Rattle.state_layout.proofs.Cells.{cells-lie-inside, flags_end-multiple, kept-are-arrays, values-are-arrays}
use Rattle.state_space.specs.Decoding.{value_of_word}
use Rattle.state_layout.specs.Inputs.{HoldsInputs}
use Rattle.instr_select.specs.{Binders.{binder_range}, Held.{IsHeld}, Terms.{binder_line}}
use Rattle.instr_select.proofs.{Arithmetic.{IsShort}, Index.{IsNarrow, line-more, placed, placed-below}, Instructions.{IsAt, LineLeads, line-then}, Masks.{Turned, address-leads, decode-leads, fixed-leads, load-leads}, Operators.{Becomes}}
use Rattle.instr_select.proofs.ReadValues.{cell_at, read-input, read-state}

-- the least value of a small domain, and each value in it, are numbers of 32 signed bits
narrow-low : (range : Range) → IsNarrow range → IsShort range.lo
narrow-low range n = let a = n.low in let b = n.high in let c = n.some in let d = n.few in grind (arith, ints)

narrow-value : (range : Range) (i : ℕ) → IsNarrow range → i < range.size → IsShort (range.lo +ℤ pos i)
narrow-value range i n h = let a = n.low in let b = n.high in let c = n.some in let d = n.few in grind (arith, ints)

module _ (rom : List ℕ) (size : ℕ) (machine : IsMachine rom size) (address q : ℕ) (low : 5 ≤ suc q) (few : suc q ≤ 20) where
  -- one line behind another, both of which change the register
  turned-then : (first second : List Instr) (s : Moment) (a b x y : ℕ) → LineLeads rom address first s (Turned size a (suc q) x s)
      → ((mid : Moment) → Turned size a (suc q) x s mid → LineLeads rom (address + 4 * length first) second mid (Turned size b (suc q) y mid))
      → LineLeads rom address (first ++ second) s (Turned size b (suc q) y s)
  turned-then first second s a b x y l k =
      line-then rom address first second s _ _ l (λ mid t. line-more rom _ second mid _ _ (k mid t) (λ end u. record {
        valid = u.valid;
        here = u.here;
        holds = u.holds;
        others = λ r c d. u.others r c d ∙ t.others r c d;
        ram = u.ram ∙ t.ram;
      }))

  load-one : (width : Width) → length (load_cell width (suc q)) ≡ 1
  load-one width = refl

  -- the number in a cell of an array, at an index in the register
  array-leads : (width : Width) (start index : ℕ) (s : Moment) → reg_at (suc q) s ≡ index → IsOffset width (start + bytes_of width * index) → start + bytes_of width * index < size → IsAt size address 5 s
      → LineLeads rom address (address_of (suc q) (ram_base + start) (shift_of width) ++ load_cell width (suc q)) s
      (Turned size (address + 20) (suc q) (number_at (bytes_of width) (start + bytes_of width * index) s.hart.ram) s)
  array-leads width start index s holds place inside at =
      let small = place.low in let room = at.room in
      let offset = start + bytes_of width * index in
      let base_small : ram_base + start < 2 ^ 32 = omega arith in
      let there : (ram_base + start + 2 ^ shift_of width * reg_at (suc q) s) % 2 ^ 32 ≡ ram_base + offset =
      ap (λ n. (ram_base + start + n * reg_at (suc q) s) % 2 ^ 32) (shifts-are-widths width) ∙ ap (λ n. (ram_base + start + bytes_of width * n) % 2 ^ 32) holds
      ∙ (let e : (ram_base + start + bytes_of width * index) % 2 ^ 32 ≡ ram_base + (start + bytes_of width * index) = omega arith in e) in
      turned-then (address_of (suc q) (ram_base + start) (shift_of width)) (load_cell width (suc q)) s (address + 16) (address + 20) _ _
      (address-leads rom size address q s low few (ram_base + start) (shift_of width) base_small (record { valid = at.valid; here = at.here; aligned = at.aligned; room = omega arith }))
      (λ mid t.
      line-more rom (address + 16) (load_cell width (suc q)) mid _ _
      (load-leads rom size (address + 16) q mid low few width offset machine (t.holds ∙ there) place inside
      (record { valid = t.valid; here = t.here; aligned = let a = at.aligned in omega arith; room = omega arith }))
      (λ end u. record { valid = u.valid; here = u.here ∙ omega arith; holds = u.holds ∙ ap (number_at (bytes_of width) offset) t.ram; others = u.others; ram = u.ram }))

  -- what stands in the register, decoded
  decoded-leads : (range : Range) (v : ℤ) (word : ℕ) (s : Moment) → IsNarrow range → reg_at (suc q) s ≡ word → value_of_word range word ≡ v → IsAt size address 9 s
      → LineLeads rom address (decode_value (suc q) range.size range.lo) s (Turned size (address + 36) (suc q) (word_of v) s)
  decoded-leads range v word s n holds is at =
      let below = index-below range.size (reg_at (suc q) s) n.some in
      let small = n.few in
      line-more rom address (decode_value (suc q) range.size range.lo) s _ _
      (decode-leads rom size address q s low few range.size range.lo (record { some = n.some; few = omega arith }) (narrow-low range n) (narrow-value range _ n below) at)
      (λ end t. record { valid = t.valid; here = t.here; holds = t.holds ∙ ap word_of (ap (value_of_word range) holds ∙ is); others = t.others; ram = t.ram })

module _ (rom : List ℕ) (size : ℕ) (machine : IsMachine rom size) (address q : ℕ) (low : 5 ≤ suc q) (few : suc q ≤ 20) where
  -- a line of a cell and the decoding behind it
  pub cell-then-decoded : (cell : List Instr) (range : Range) (v : ℤ) (word words : ℕ) (s : Moment) → length cell ≡ words → IsNarrow range → value_of_word range word ≡ v
      → IsAt size address (words + 9) s → LineLeads rom address cell s (Turned size (address + 4 * words) (suc q) word s)
      → LineLeads rom address (cell ++ decode_value (suc q) range.size range.lo) s
      (Becomes size (address + 4 * length (cell ++ decode_value (suc q) range.size range.lo)) (suc q) (word_of v))
  cell-then-decoded cell range v word words s long n is at l =
      let total = length-append cell (decode_value (suc q) range.size range.lo) in
      line-then rom address cell (decode_value (suc q) range.size range.lo) s _ _ l (λ mid t. decoding (address + 4 * length cell) mid (address + 4 * words) (omega arith) (omega arith) t)
    where
      decoding : (a : ℕ) (mid : Moment) (b : ℕ) → b ≡ a → address + 4 * length (cell ++ decode_value (suc q) range.size range.lo) ≡ a + 36 → Turned size b (suc q) word s mid
          → LineLeads rom a (decode_value (suc q) range.size range.lo) mid (Becomes size (address + 4 * length (cell ++ decode_value (suc q) range.size range.lo)) (suc q) (word_of v))
      decoding a mid b same end t =
          let room = at.room in let aligned = at.aligned in
          line-more rom a (decode_value (suc q) range.size range.lo) mid _ _
          (decoded-leads rom size machine a q low few range v word mid n t.holds is (record { valid = t.valid; here = t.here ∙ same; aligned = omega arith; room = omega (arith, length-append cell (decode_value (suc q) range.size range.lo)) }))
          (λ last u. record { valid = u.valid; here = u.here ∙ sym end; holds = u.holds })

-- ---- binders and functions
module _ (rom : List ℕ) (size : ℕ) (machine : IsMachine rom size) (program : Resolved) (placement : Placement) (tables : ℕ) (ram : List ℕ) (inputs env : List ℤ)
    (same : placement.signatures ≡ signatures_of program) (room : map_end placement program.binders ≤ size) where
  slot-place : (b : ℕ) → b < program.binders → IsOffset Word (slot placement b)
  slot-place b h = let low = machine.ram_small in let a = flags_end-multiple placement in record { aligned = omega arith; low = omega arith }

  pub binder-leads : (b : ℕ) (v : ℤ) → b < program.binders → IsHeld (binder_range program b) (number_at 4 (slot placement b) ram) v
      → ((range : Range) → binder_range program b ≡ Some range → IsNarrow range) → (q : ℕ) → 5 ≤ suc q → suc q ≤ 20
      → (address : ℕ) (s : Moment) → IsAt size address (length (binder_line (binder_range program b) (slot placement b) (suc q))) s → s.hart.ram ≡ ram
      → LineLeads rom address (binder_line (binder_range program b) (slot placement b) (suc q)) s
      (Becomes size (address + 4 * length (binder_line (binder_range program b) (slot placement b) (suc q))) (suc q) (word_of v))
  binder-leads b v within held narrow q low few address s at e = by_range (binder_range program b) refl held at
    where
      inside : slot placement b < size
      inside = omega arith

      fixed : IsAt size address 2 s → LineLeads rom address (load_fixed Word (suc q) (slot placement b)) s (Turned size (address + 8) (suc q) (number_at 4 (slot placement b) s.hart.ram) s)
      fixed at = fixed-leads rom size address q s low few Word (slot placement b) machine (slot-place b within) inside at

      by_range : (o : Option Range) → binder_range program b ≡ o → IsHeld o (number_at 4 (slot placement b) ram) v → IsAt size address (length (binder_line o (slot placement b) (suc q))) s
          → LineLeads rom address (binder_line o (slot placement b) (suc q)) s (Becomes size (address + 4 * length (binder_line o (slot placement b) (suc q))) (suc q) (word_of v))
      by_range None o h at =
          line-more rom address (load_fixed Word (suc q) (slot placement b)) s _ _ (fixed at) (λ end t. record { valid = t.valid; here = t.here; holds = t.holds ∙ ap (number_at 4 (slot placement b)) e ∙ h })
      by_range (Some range) o h at =
          let top = at.room in
          cell-then-decoded rom size machine address q low few (load_fixed Word (suc q) (slot placement b)) range v (number_at 4 (slot placement b) s.hart.ram) 2 s refl (narrow range o)
          (ap (λ r. value_of_word range (number_at 4 (slot placement b) r)) e ∙ h) at
          (fixed (record { valid = at.valid; here = at.here; aligned = at.aligned; room = omega arith }))

  -- where the cell of a function at arguments in its domains is
  is-cell : (is_kind : Kind → Bool) (fun : ℕ) (signature : Signature) (vs : List ℤ) → slice_get placement.signatures fun ≡ Some signature → is_kind signature.kind ≡ true → lie_in signature.args vs ≡ true
      → IsCell is_kind placement.signatures (cell_at fun signature vs)
  is-cell is_kind fun signature vs here kind lies = record { signature = signature; here = here; held = kind; below = placed-below signature.args vs lies }

  module _ (held : HoldsInputs placement ram inputs) (fun : ℕ) (signature : Signature) (here : slice_get placement.signatures fun ≡ Some signature) (narrow : IsNarrow signature.codomain)
      (vs : List ℤ) (lies : lie_in signature.args vs ≡ true) (q : ℕ) (low : 5 ≤ suc q) (few : suc q ≤ 20) (address : ℕ) (s : Moment) (e : s.hart.ram ≡ ram) (holds : reg_at (suc q) s ≡ placed signature.args vs) where
    pub state-leads : is_state signature.kind ≡ true → IsAt size address 14 s
        → LineLeads rom address ((address_of (suc q) (ram_base + array_start placement fun) (shift_of (access_at placement fun)) ++ load_cell (access_at placement fun) (suc q)) ++ decode_value (suc q) signature.codomain.size signature.codomain.lo) s
        (Becomes size (address + 56) (suc q) (word_of (read program (decoded placement ram) inputs fun vs)))
    state-leads kind at =
        let cell = cell_at fun signature vs in
        let place = cells-lie-inside is_state placement.signatures (access_at placement) (array_start placement) 0 (state_end placement) cell (values-are-arrays placement) (is-cell is_state fun signature vs here kind lies) in
        let below = place.below in
        let some = width-some (access_at placement fun) in
        let limit = machine.ram_small in
        let top = at.room in
        let offset = array_start placement fun + bytes_of (access_at placement fun) * placed signature.args vs in
        let codomain : range_at placement fun ≡ signature.codomain = ap codomain_of here in
        cell-then-decoded rom size machine address q low few (address_of (suc q) (ram_base + array_start placement fun) (shift_of (access_at placement fun)) ++ load_cell (access_at placement fun) (suc q)) signature.codomain _
        (number_at (bytes_of (access_at placement fun)) offset s.hart.ram) 5 s refl narrow
        (ap (λ r. value_of_word signature.codomain (number_at (bytes_of (access_at placement fun)) offset r)) e
        ∙ ap (λ c. value_of_word c (number_at (bytes_of (access_at placement fun)) offset ram)) (sym codomain)
        ∙ sym (read-state program placement same ram inputs fun signature vs here lies kind)) at
        (array-leads rom size machine address q low few (access_at placement fun) (array_start placement fun) (placed signature.args vs) s holds
        (record { aligned = place.aligned; low = omega (arith, some) }) (omega (arith, some)) (record { valid = at.valid; here = at.here; aligned = at.aligned; room = omega arith }))

    pub input-leads : is_input signature.kind ≡ true → IsAt size address 14 s
        → LineLeads rom address ((address_of (suc q) (ram_base + kept_start placement fun) 2 ++ load_cell Word (suc q)) ++ decode_value (suc q) signature.codomain.size signature.codomain.lo) s
        (Becomes size (address + 56) (suc q) (word_of (read program (decoded placement ram) inputs fun vs)))
    input-leads kind at =
        let cell = cell_at fun signature vs in
        let place = cells-lie-inside is_input placement.signatures (λ fun. Word) (kept_start placement) (flags_end placement) (kept_end placement) cell (kept-are-arrays placement) (is-cell is_input fun signature vs here kind lies) in
        let below = place.below in
        let limit = machine.ram_small in
        let top = at.room in
        let offset = kept_start placement fun + 4 * placed signature.args vs in
        let codomain : range_at placement fun ≡ signature.codomain = ap codomain_of here in
        cell-then-decoded rom size machine address q low few (address_of (suc q) (ram_base + kept_start placement fun) 2 ++ load_cell Word (suc q)) signature.codomain _
        (number_at 4 offset s.hart.ram) 5 s refl narrow
        (ap (λ r. value_of_word signature.codomain (number_at 4 offset r)) e
        ∙ ap (λ c. value_of_word c (number_at 4 offset ram)) (sym codomain)
        ∙ sym (read-input program placement same ram inputs fun signature vs here lies held kind)) at
        (array-leads rom size machine address q low few Word (kept_start placement fun) (placed signature.args vs) s holds
        (record { aligned = place.aligned; low = omega arith }) (omega arith) (record { valid = at.valid; here = at.here; aligned = at.aligned; room = omega arith }))
