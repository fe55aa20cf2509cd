-- What the masks lead to, where they are parts of longer lines.
use Rattle.std.proofs.Common.{◌≡◌, ◌≢◌, ℕ, suc, ◌+◌, ◌*◌, ◌%◌, ◌^◌, ◌<◌, ◌≤◌, ℤ, pos, ◌+ℤ◌, FitsSigned, length, drop, ⊎_elim, refl, ◌∙◌, arith}
use Rattle.std.specs.{Prelude.{List, slice_index}, Int.{w32}}
use Rattle.std.proofs.lemmas.{Bool.{cases_lt}, List.{get_or_past}, List.Elements.{All-drop}}
use Rattle.byteorder.specs.Numbers.{little_from-lt}
use Rattle.rv_isa.specs.declared.instr.Instr.{Instr}
use Rattle.rv_machine.specs.Memory.{number_at}
use Rattle.state_space.specs.Decoding.{index_of}
use Rattle.trap_model.specs.{Map.{ram_base}, Width.{bytes_of}}
use Rattle.trap_model.specs.declared.width.Width.{Width}
use Rattle.trap_model.specs.declared.width.Width.TheVariants.{Byte, Half, Word}
use Rattle.block_code.specs.Effect.{LineDoes, reg_at, written}
use Rattle.block_code.specs.Moment.{IsValidMoment, Moment}
use Rattle.block_code.specs.Place.{IsAtTop, IsMachine}
use Rattle.block_code.specs.Sequence.{load_fixed, scratch}
use Rattle.block_code.specs.SequenceLaw.{IsOffset}
use Rattle.block_code.proofs.Counter.{reg-other, reg-same}
use Rattle.block_code.proofs.Sequences.{fixed-loaded}
use Rattle.mask_guard.specs.{Mask.{address_of, decode_value, load_cell, mask_index, word_of}, MaskLaw.{IsMaskable, IsTermRegister}}
use Rattle.mask_guard.proofs.{Access.{cell-is-loaded}, Masks.{address-is-made, index-is-masked, value-is-decoded}, Numbers.{word-low}}
use Rattle.state_space.proofs.Indices.{index-below}
use Rattle.instr_select.proofs.Instructions.{IsAt, LineLeads, valid-written}

-- a valid hart behind some code, with a word in a register, and all other registers but the scratch register and RAM as they were
pub record Turned (size address register word : ℕ) (s s' : Moment) : Type 0 where
  pub valid : IsValidMoment size s'
  pub here : s'.hart.pc ≡ address
  pub holds : reg_at register s' ≡ word
  pub others : (r : ℕ) → r ≢ register → r ≢ scratch → reg_at r s' ≡ reg_at r s
  pub ram : s'.hart.ram ≡ s.hart.ram

module _ (rom : List ℕ) (size address q : ℕ) (s : Moment) (low : 5 ≤ suc q) (few : suc q ≤ 20) where
  in-terms : IsTermRegister (suc q)
  in-terms = record { from = low; to = few }

  -- the register and the scratch register were written
  both-written : (instrs : List Instr) (past x y : ℕ) → IsValidMoment size s → past < 2 ^ 32 → x < 2 ^ 32 → y < 2 ^ 32
      → LineDoes rom address instrs s (written past (suc q) x (written past scratch y s)) → LineLeads rom address instrs s (Turned size past (suc q) x s)
  both-written instrs past x y valid here small small' d =
      let mid = written past scratch y s in
      let v = valid-written size past scratch y s valid here small' in
      record {
        end = written past (suc q) x mid;
        does = d;
        post = record {
          valid = valid-written size past (suc q) x mid v here small;
          here = refl;
          holds = reg-same size past q x mid v (omega arith);
          others = λ r a b. reg-other past (suc q) r x mid a ∙ reg-other past scratch r y s b;
          ram = refl;
        };
      }

  -- the register alone was written
  pub one-written : (instrs : List Instr) (past x : ℕ) → IsValidMoment size s → past < 2 ^ 32 → x < 2 ^ 32
      → LineDoes rom address instrs s (written past (suc q) x s) → LineLeads rom address instrs s (Turned size past (suc q) x s)
  one-written instrs past x valid here small d = record {
    end = written past (suc q) x s;
    does = d;
    post = record {
      valid = valid-written size past (suc q) x s valid here small;
      here = refl;
      holds = reg-same size past q x s valid (omega arith);
      others = λ r a b. reg-other past (suc q) r x s a;
      ram = refl;
    };
  }

  at-top : (words : ℕ) (instrs : List Instr) → IsAt size address words s → length instrs ≡ words → IsAtTop size address instrs s
  at-top words instrs at e = let room = at.room in record { valid = at.valid; here = at.here; room = omega arith }

  pub mask-leads : (n : ℕ) → IsMaskable n → IsAt size address 6 s → LineLeads rom address (mask_index (suc q) n) s (Turned size (address + 24) (suc q) (index_of n (reg_at (suc q) s)) s)
  mask-leads n m at =
      let below = index-below n (reg_at (suc q) s) m.some in let most = m.few in let room = at.room in
      both-written (mask_index (suc q) n) (address + 24) (index_of n (reg_at (suc q) s)) n at.valid (omega arith) (omega arith) (omega arith)
      (index-is-masked rom size address (suc q) n s (at-top 6 (mask_index (suc q) n) at refl) at.aligned in-terms m)

  -- the value that the register's word stands for
  pub decode-leads : (n : ℕ) (lo : ℤ) → IsMaskable n → FitsSigned w32 lo → FitsSigned w32 (lo +ℤ pos (index_of n (reg_at (suc q) s))) → IsAt size address 9 s
      → LineLeads rom address (decode_value (suc q) n lo) s (Turned size (address + 36) (suc q) (word_of (lo +ℤ pos (index_of n (reg_at (suc q) s)))) s)
  decode-leads n lo m f g at =
      let room = at.room in
      both-written (decode_value (suc q) n lo) (address + 36) (word_of (lo +ℤ pos (index_of n (reg_at (suc q) s)))) (word_of lo) at.valid (omega arith) (word-low _ g) (word-low lo f)
      (value-is-decoded rom size address (suc q) n lo s (at-top 9 (decode_value (suc q) n lo) at refl) at.aligned in-terms m f)

  pub address-leads : (base shift : ℕ) → base < 2 ^ 32 → IsAt size address 4 s
      → LineLeads rom address (address_of (suc q) base shift) s (Turned size (address + 16) (suc q) ((base + 2 ^ shift * reg_at (suc q) s) % 2 ^ 32) s)
  address-leads base shift small at =
      let room = at.room in
      both-written (address_of (suc q) base shift) (address + 16) ((base + 2 ^ shift * reg_at (suc q) s) % 2 ^ 32) base at.valid (omega arith) (omega arith) small
      (address-is-made rom size address (suc q) base shift s (at-top 4 (address_of (suc q) base shift) at refl) in-terms small)

  number-low : (width : Width) (offset : ℕ) → IsValidMoment size s → number_at (bytes_of width) offset s.hart.ram < 2 ^ 32
  number-low width offset valid = by_width width
    where
      byte : (k : ℕ) → slice_index (drop offset s.hart.ram) k < 256
      byte k =
          ⊎_elim (λ (l : k < length (drop offset s.hart.ram)). All-drop (λ b. b < 256) offset s.hart.ram valid.hart.ram.bytes k 0 l)
          (λ (g : length (drop offset s.hart.ram) ≤ k). let e = get_or_past (drop offset s.hart.ram) k 0 g in omega arith)
          (cases_lt k (length (drop offset s.hart.ram)))

      by_width : (width : Width) → number_at (bytes_of width) offset s.hart.ram < 2 ^ 32
      by_width Byte = let small = little_from-lt 0 1 (drop offset s.hart.ram) byte in omega arith
      by_width Half = let small = little_from-lt 0 2 (drop offset s.hart.ram) byte in omega arith
      by_width Word = little_from-lt 0 4 (drop offset s.hart.ram) byte

  load_cell-length : (width : Width) → length (load_cell width (suc q)) ≡ 1
  load_cell-length width = refl

  -- the number at an offset of RAM whose address the register holds
  pub load-leads : (width : Width) (offset : ℕ) → IsMachine rom size → reg_at (suc q) s ≡ ram_base + offset → IsOffset width offset → offset < size → IsAt size address 1 s
      → LineLeads rom address (load_cell width (suc q)) s (Turned size (address + 4) (suc q) (number_at (bytes_of width) offset s.hart.ram) s)
  load-leads width offset machine holds place inside at =
      let room = at.room in
      one-written (load_cell width (suc q)) (address + 4) (number_at (bytes_of width) offset s.hart.ram) at.valid (omega arith) (number-low width offset at.valid)
      (cell-is-loaded rom size address width (suc q) offset s machine (at-top 1 (load_cell width (suc q)) at (load_cell-length width)) holds place inside)

  fixed-length : (width : Width) (offset : ℕ) → length (load_fixed width (suc q) offset) ≡ 2
  fixed-length width offset = refl

  -- the number at a fixed offset of RAM
  pub fixed-leads : (width : Width) (offset : ℕ) → IsMachine rom size → IsOffset width offset → offset < size → IsAt size address 2 s
      → LineLeads rom address (load_fixed width (suc q) offset) s (Turned size (address + 8) (suc q) (number_at (bytes_of width) offset s.hart.ram) s)
  fixed-leads width offset machine place inside at =
      let room = at.room in
      one-written (load_fixed width (suc q) offset) (address + 8) (number_at (bytes_of width) offset s.hart.ram) at.valid (omega arith) (number-low width offset at.valid)
      (fixed-loaded rom size address width (suc q) offset s machine (at-top 2 (load_fixed width (suc q) offset) at (fixed-length width offset)) (omega arith) (omega arith) place inside)
