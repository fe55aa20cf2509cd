-- The lines that read static functions leave their values.
use Rattle.std.proofs.Common.{◌≡◌, ℕ, suc, ◌+◌, ◌-◌, ◌*◌, ◌/◌, ◌%◌, ◌^◌, ◌<◌, ◌≤◌, ℤ, pos, ◌+ℤ◌, true, ◌&&◌, List, [], ◌∷◌, ◌++◌, length, take, Option, Some, refl, sym, ap, ◌∙◌, inl, arith}
use Rattle.std.{specs.{Prelude.{◌==◌, nat_le, nat_lt, slice_get, slice_index, unwrap_or}}, proofs.lemmas.Bool.Decides.{nat_tests}}
use Rattle.asm_tree.specs.declared.decl.Kind.{Kind}
use Rattle.asm_tree.specs.declared.decl.Kind.TheVariants as kinds
use Rattle.asm_names.specs.declared.program.Resolved.{Resolved}
use Rattle.rv_encode.specs.Table.{Row}
use Rattle.rv_isa.specs.declared.instr.Instr.TheVariants.{Lui, Lw, Slli, Srli}
use Rattle.rv_machine.specs.Code.{step}
use Rattle.rv_machine.specs.Hart.{with_reg}
use Rattle.rv_machine.specs.Memory.{rom_number}
use Rattle.rv_machine.specs.Run.{offered}
use Rattle.rv_machine.specs.Tick.{Quiet, Ticks, load}
use Rattle.state_space.specs.{declared.signature.{Signature.{Signature}}, Locations.{signatures_of}, Sizes.{padded_count, padded_sum}}
use Rattle.state_space.proofs.Indices.{index-same}
use Rattle.trap_model.specs.Map.{lies_in, load_at}
use Rattle.trap_model.specs.declared.map.Loads.TheVariants.{Rom as FromRom}
use Rattle.trap_model.specs.declared.width.Width.TheVariants.{Word}
use Rattle.asm_ranges.specs.Values.{fun_of, number_read, numbered, read, values_read}
use Rattle.asm_ranges.specs.Values.{lie_in}
use Rattle.block_code.specs.Effect.{reg_at, written}
use Rattle.block_code.specs.Moment.{Moment, is_trap, moment_by}
use Rattle.block_code.specs.Place.{IsMachine}
use Rattle.block_code.proofs.Counter.{reg-other, reg-same}
use Rattle.block_code.proofs.Machine.{displaced, does-lw}
use Rattle.mask_guard.specs.Mask.{address_of, decode_value, load_cell, word_of}
use Rattle.rv_machine.specs.declared.effect.Effect.TheVariants.{Write}
use Rattle.state_layout.specs.Map.{Placement, padded_index}
use Rattle.state_layout.proofs.Arrays.{first-all, first-more}
use Rattle.instr_select.specs.{Held.{CountsValue, HoldsTables, table_value, table_word}, Terms.{is_static, table_start}}
use Rattle.instr_select.proofs.{Index.{IsNarrow, placed, placed-below, placed-number}, Instructions.{IsAt, LineLeads, line-ends, line-then, valid-written, writes-then}, Masks.{Turned, address-leads}, Operators.{Becomes, does-slli, does-srli}}
use Rattle.instr_select.proofs.ReadLines.{cell-then-decoded}
use Rattle.instr_select.proofs.ReadValues.{kind-is}

-- an aligned address below the end of ROM is one of ROM
from-rom : (rom_size size a : ℕ) → a % 4 ≡ 0 → a < rom_size → load_at rom_size size a 4 ≡ FromRom a
unfolding load_at lies_in
from-rom rom_size size a h k =
    let test : (a % 4 == 0) ≡ true = grind (arith, nat_tests) in
    let inside : (nat_le 0 a && nat_lt (a - 0) rom_size) ≡ true = grind (arith, nat_tests) in
    rw (test, inside) refl

module _ (rom : List ℕ) (size address q : ℕ) (s : Moment) (few : suc q ≤ 20) where
  -- a word of ROM at the address in the register
  word-leads : (a : ℕ) → reg_at (suc q) s ≡ a → a % 4 ≡ 0 → a < 4 * length rom → a < 2 ^ 20 → IsAt size address 1 s
      → LineLeads rom address (load_cell Word (suc q)) s (Turned size (address + 4) (suc q) (slice_index rom (a / 4) % 2 ^ 32) s)
  word-leads a holds aligned inside low at =
      let room = at.room in let here = at.here in
      let x = slice_index rom (a / 4) % 2 ^ 32 in
      let there : displaced (reg_at (suc q) s) (pos 0) ≡ a = ap (λ n. displaced n (pos 0)) holds ∙ (let e : (a + 0) % 2 ^ 32 ≡ a = omega arith in e) in
      let number : rom_number 4 a rom ≡ x = (let z : a % 4 ≡ 0 = aligned in ap (λ k. slice_index rom (a / 4) / 2 ^ (8 * k) % 2 ^ 32) z ∙ ap (λ n. n % 2 ^ 32) (let one : slice_index rom (a / 4) / 1 ≡ slice_index rom (a / 4) = omega arith in one)) in
      let pc : (s.hart.pc + 4) % 2 ^ 32 ≡ address + 4 = omega arith in
      let t : Ticks = record { hart = record { pc = address + 4; regs = with_reg (suc q) x s.hart.regs; ram = s.hart.ram }; event = Quiet } in
      let does : step rom (offered s.readings) (Lw (suc q) (suc q) (pos 0)) s.hart ≡ t =
      does-lw rom (offered s.readings) s.hart (suc q) (suc q) (pos 0)
      ∙ ap (load rom (offered s.readings) (suc q) Word true s.hart) (ap (λ b. load_at (4 * length rom) (length s.hart.ram) b 4) there ∙ from-rom (4 * length rom) (length s.hart.ram) a aligned inside)
      ∙ ap (λ n. record { hart = record { pc = (s.hart.pc + 4) % 2 ^ 32; regs = with_reg (suc q) n s.hart.regs; ram = s.hart.ram }; event = Quiet }) number
      ∙ ap (λ p. record { hart = record { pc = p; regs = with_reg (suc q) x s.hart.regs; ram = s.hart.ram }; event = Quiet }) pc in
      record {
        end = written (address + 4) (suc q) x s;
        does = inl (here, ap (λ u. is_trap u.event) does, sym (ap (λ u. moment_by u s) does));
        post = record {
          valid = valid-written size (address + 4) (suc q) x s at.valid (omega arith) (omega arith);
          here = refl;
          holds = reg-same size (address + 4) q x s at.valid (omega arith);
          others = λ r b c. reg-other (address + 4) (suc q) r x s b;
          ram = refl;
        };
      }

-- the word of `lui x0, i` holds i
index-in-row : (word i : ℕ) → Row word (Lui 0 i) → word / 2 ^ 12 ≡ i
unfolding Row
index-in-row word i r = let e = r.word_is in omega arith

row-below : (word i : ℕ) → Row word (Lui 0 i) → word < 2 ^ 32
unfolding Row
row-below word i r = let e = r.word_is in let f = r.imm_in_range in omega arith

module _ (rom : List ℕ) (size : ℕ) (machine : IsMachine rom size) (program : Resolved) (placement : Placement) (tables : ℕ) (same : placement.signatures ≡ signatures_of program)
    (held : HoldsTables rom program placement tables) (fun : ℕ) (signature : Signature) (here : slice_get placement.signatures fun ≡ Some signature) (static : is_static signature.kind ≡ true)
    (narrow : IsNarrow signature.codomain) (vs : List ℤ) (lies : lie_in signature.args vs ≡ true) where
  -- what is read of a static function is its table's value
  by-kind : (state inputs : List ℤ) (kind : Kind) → (fun_of program fun).kind ≡ kind → is_static kind ≡ true
      → numbered (values_read program state inputs kind fun) (number_read program kind fun vs) ≡ table_value program fun vs
  by-kind state inputs kinds.Static e h = refl
  by-kind state inputs kinds.Controlled e h = absurd cc
  by-kind state inputs kinds.Output e h = absurd cc
  by-kind state inputs kinds.Input e h = absurd cc

  read-table : (state inputs : List ℤ) → read program state inputs fun vs ≡ table_value program fun vs
  unfolding read
  read-table state inputs = by-kind state inputs (fun_of program fun).kind refl (ap is_static (sym (kind-is program placement same [] inputs fun signature vs here lies)) ∙ static)

  abbrev pub before : ℕ
  before = padded_sum is_static (take fun placement.signatures)

  abbrev pub index : ℕ
  index = placed signature.args vs

  -- where the word for the arguments is
  abbrev pub place : ℕ
  place = tables + 4 * (before + index)

  place-inside : (tables + 4 * before + 4 * padded_count signature.args ≤ 4 * length rom)
  place-inside =
      let room = held.room in
      let own = first-more is_static placement.signatures fun signature here static in
      let all = first-all is_static placement.signatures (fun + 1) in
      omega arith

  counted : CountsValue signature.codomain (slice_index rom (table_word placement tables fun signature vs)) (table_value program fun vs)
  counted = held.values fun signature vs here static lies

  word-place : place / 4 ≡ table_word placement tables fun signature vs
  word-place =
      let a = held.aligned in
      let p : padded_index signature.args vs ≡ index = ap (λ (n : Option ℕ). unwrap_or n 0) (placed-number signature.args vs lies) in
      omega arith

  pub table-leads : (state inputs : List ℤ) (q : ℕ) → 5 ≤ suc q → suc q ≤ 20 → (address : ℕ) (s : Moment) → reg_at (suc q) s ≡ index → IsAt size address 17 s
      → LineLeads rom address
      ((address_of (suc q) (table_start placement tables fun) 2 ++ (Slli (suc q) (suc q) 12 ∷ Srli (suc q) (suc q) 12 ∷ (load_cell Word (suc q) ++ (Srli (suc q) (suc q) 12 ∷ []))))
      ++ decode_value (suc q) signature.codomain.size signature.codomain.lo) s
      (Becomes size (address + 68) (suc q) (word_of (read program state inputs fun vs)))
  table-leads state inputs q low few address s holds at =
      cell-then-decoded rom size machine address q low few
      (address_of (suc q) (table_start placement tables fun) 2 ++ (Slli (suc q) (suc q) 12 ∷ Srli (suc q) (suc q) 12 ∷ (load_cell Word (suc q) ++ (Srli (suc q) (suc q) 12 ∷ []))))
      signature.codomain (read program state inputs fun vs) counted.index 8 s refl narrow
      (ap (λ i. signature.codomain.lo +ℤ pos i) (index-same signature.codomain.size counted.index counted.below) ∙ counted.counts ∙ sym (read-table state inputs)) at
      (line-then rom address (address_of (suc q) (table_start placement tables fun) 2) (Slli (suc q) (suc q) 12 ∷ Srli (suc q) (suc q) 12 ∷ (load_cell Word (suc q) ++ (Srli (suc q) (suc q) 12 ∷ []))) s _ _
      (address-leads rom size address q s low few (table_start placement tables fun) 2 (omega arith) (record { valid = at.valid; here = at.here; aligned = at.aligned; room = omega arith }))
      (λ m1 t1.
      let there : reg_at (suc q) m1 ≡ place = t1.holds ∙ cut (reg_at (suc q) s) holds in
      writes-then rom size (address + 16) m1 _ 3 q (place * 2 ^ 12) (Slli (suc q) (suc q) 12) _
      (record { valid = t1.valid; here = t1.here; aligned = omega arith; room = omega arith })
      (does-slli m1 (suc q) place 0 12 there ∙ ap (Write (suc q)) (let e : place * 2 ^ 12 % 2 ^ 32 ≡ place * 2 ^ 12 = omega (arith, place-low) in e)) (omega (arith, place-low))
      (λ n2.
      let m2 = written (address + 16 + 4) (suc q) (place * 2 ^ 12) m1 in
      writes-then rom size (address + 16 + 4) m2 _ 2 q place (Srli (suc q) (suc q) 12) _ n2
      (does-srli m2 (suc q) (place * 2 ^ 12) 0 12 (reg-same size (address + 16 + 4) q (place * 2 ^ 12) m1 t1.valid (omega arith)) ∙ ap (Write (suc q)) (let e : place * 2 ^ 12 / 2 ^ 12 ≡ place = omega arith in e)) (omega (arith, place-low))
      (λ n3.
      let m3 = written (address + 16 + 4 + 4) (suc q) place m2 in
      line-then rom (address + 16 + 4 + 4) (load_cell Word (suc q)) (Srli (suc q) (suc q) 12 ∷ []) m3 _ _
      (word-leads rom size (address + 16 + 4 + 4) q m3 few place (reg-same size (address + 16 + 4 + 4) q place m2 n2.valid (omega arith)) (omega (arith, held.aligned)) place-below place-low
      (record { valid = n3.valid; here = n3.here; aligned = n3.aligned; room = omega arith }))
      (λ m4 t4.
      let word = slice_index rom (place / 4) % 2 ^ 32 in
      let is : word / 2 ^ 12 ≡ counted.index = indexed in
      writes-then rom size (address + 16 + 4 + 4 + 4) m4 _ 0 q counted.index (Srli (suc q) (suc q) 12) []
      (record { valid = t4.valid; here = t4.here; aligned = omega arith; room = omega arith })
      (does-srli m4 (suc q) word 0 12 t4.holds ∙ ap (Write (suc q)) is) (omega (arith, word-low32, is))
      (λ n5. line-ends rom size (address + 16 + 4 + 4 + 4 + 4) _ _ (record {
        valid = n5.valid;
        here = n5.here ∙ omega arith;
        holds = reg-same size (address + 16 + 4 + 4 + 4 + 4) q counted.index m4 t4.valid (omega arith);
        others = λ r a b. reg-other (address + 16 + 4 + 4 + 4 + 4) (suc q) r counted.index m4 a ∙ t4.others r a b ∙ reg-other (address + 16 + 4 + 4) (suc q) r place m2 a
            ∙ reg-other (address + 16 + 4) (suc q) r (place * 2 ^ 12) m1 a ∙ t1.others r a b;
        ram = t4.ram ∙ t1.ram;
      })))))))
    where
      room : address + 4 * 17 < 2 ^ 32
      room = at.room

      aligned : address % 4 ≡ 0
      aligned = at.aligned

      place-below : place < 4 * length rom
      place-below = let p = place-inside in let b = placed-below signature.args vs lies in omega arith

      place-low : place < 2 ^ 20
      place-low = let p = place-below in let small = machine.rom_small in omega arith

      cut : (x : ℕ) → x ≡ index → (table_start placement tables fun + 2 ^ 2 * x) % 2 ^ 32 ≡ place
      cut x e = let p = place-low in let f = e in omega arith

      indexed : slice_index rom (place / 4) % 2 ^ 32 / 2 ^ 12 ≡ counted.index
      indexed =
          let w = ap (slice_index rom) word-place in
          let b = row-below _ counted.index counted.row in
          let i = index-in-row _ counted.index counted.row in
          let same : slice_index rom (place / 4) % 2 ^ 32 ≡ slice_index rom (table_word placement tables fun signature vs) = ap (λ n. n % 2 ^ 32) w ∙ (let m : slice_index rom (table_word placement tables fun signature vs) % 2 ^ 32 ≡ slice_index rom (table_word placement tables fun signature vs) = omega arith in m) in
          ap (λ n. n / 2 ^ 12) same ∙ i

      word-low32 : slice_index rom (place / 4) % 2 ^ 32 < 2 ^ 32
      word-low32 = omega arith
