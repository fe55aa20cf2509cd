-- From every valid hart, the code of a term takes no reading and sends nothing.
use Rattle.std.proofs.Common.{◌≡◌, ℕ, zero, suc, ◌+◌, ◌*◌, ◌/◌, ◌%◌, ◌^◌, ◌<◌, ◌≤◌, ℤ, pos, Bool, true, false, ◌&&◌, List, [], ◌∷◌, ◌++◌, length, map, Option, Some, None, refl, sym, ap, ◌∙◌, subst, inl, inr, arith}
use Rattle.std.{specs.{Prelude.{nat_lt, slice_get}, List.{list_all}}, proofs.lemmas.{Bool.{and_parts, ltb-true}, List.Folds.{list_all-map}}}
use Rattle.asm_tree.specs.declared.decl.Kind.{Kind}
use Rattle.asm_tree.specs.declared.decl.Kind.TheVariants as kinds
use Rattle.asm_tree.specs.declared.term.Op.{Op}
use Rattle.asm_tree.specs.declared.term.Op.TheVariants as ops
use Rattle.asm_names.specs.declared.{program.Resolved.{Resolved}, resolved_term.ResolvedTerm.{ResolvedTerm, ResolvedTerm-F, roll-ResolvedTerm, ind-ResolvedTerm, map-ResolvedTerm}}
use Rattle.state_space.specs.{declared.signature.{Range.{Range}, Signature.{Signature}}, Locations.{is_input, is_state}, Sizes.{padded_count}}
use Rattle.rv_isa.specs.declared.instr.Instr.{Instr}
use Rattle.rv_isa.specs.declared.instr.Instr.TheVariants.{Slli, Srli}
use Rattle.trap_model.specs.{Map.{in_base, ram_base}, Width.{bytes_of}}
use Rattle.trap_model.specs.declared.width.Width.{Width}
use Rattle.trap_model.specs.declared.width.Width.TheVariants.{Byte, Half, Word}
use Rattle.block_code.specs.Effect.{Does, Stops, reg_at, written}
use Rattle.block_code.specs.Leads.{IsEntered, IsStill}
use Rattle.block_code.specs.Moment.{Moment}
use Rattle.block_code.specs.Plan.{Line, Plan, Seq, len}
use Rattle.block_code.specs.Sequence.{load_by, load_fixed, load_immediate}
use Rattle.block_code.specs.Silent.{ArePortless, IsSilent}
use Rattle.block_code.proofs.Counter.{reg-same}
use Rattle.block_code.proofs.Machine.{displaced}
use Rattle.block_code.proofs.Silent.{silent-if, silent-seq, still-joined}
use Rattle.instr_select.proofs.SilentLines.{LineIsSilent, portless-line, silent-append, silent-done, silent-fixed, silent-line, silent-load, silent-portless, silent-stopped}
use Rattle.mask_guard.specs.Mask.{address_of, decode_value, load_cell, shift_of, word_of}
use Rattle.mask_guard.proofs.Numbers.{shifts-are-widths}
use Rattle.state_layout.specs.Map.{Placement, access_at, array_start, kept_start, map_end, slot}
use Rattle.state_layout.proofs.{Cells.{kept-are-arrays, values-are-arrays}}
use Rattle.bound_count.specs.TermWeights.{arguments_registers, term_registers, term_registers_by}
use Rattle.instr_select.specs.{Binders.{binder_range}, Operators.{denied, greater, lesser, operated}, SelectLaw.{IndicesStayInside, IsMapped, TermsAreSilent}}
use Rattle.instr_select.specs.Terms.{argument_line, binder_line, binders_below, binders_below_by, cell_line, further_plan, index_plan, is_static, joined_line, read_plan, table_start, term_plan, term_plan_by}
use Rattle.instr_select.proofs.{Bounded.{enters-second, index-bounded, led}, Entered.{enter-first, entered-at}, Instructions.{IsAt, LineLeads, line-ends, line-then, writes-then}, Levels.{below_at, plan_at, registers_at}, Mapped.{few-held, signature-narrow}, Masks.{address-leads}, Operators.{does-slli, does-srli}, Registers.{arguments-some}}

-- ---- lines

-- a block, and a line that is silent where the block leaves
silent-when : (first : Plan) (instrs : List Instr) → IsSilent first
    → ((rom : List ℕ) (size at : ℕ) (s mid : Moment) → IsEntered rom size at first s → Does rom at first s mid → IsEntered rom size (at + 4 * len first) (Line instrs) mid → LineIsSilent rom (at + 4 * len first) instrs mid)
    → IsSilent (Seq first (Line instrs))
silent-when first instrs quiet line = record { does = λ rom size at s s' e d. does rom size at s s' e d; stops = λ rom size at s s' e t. stops rom size at s s' e t }
  where
    does : (rom : List ℕ) (size at : ℕ) (s s' : Moment) → IsEntered rom size at (Seq first (Line instrs)) s → Does rom at (Seq first (Line instrs)) s s' → IsStill s s'
    does rom size at s s' e (mid, a, b) =
        let e0 = enter-first rom size at first (Line instrs) s e in
        still-joined s mid s' (quiet.does rom size at s mid e0 a)
        (silent-done rom instrs (at + 4 * len first) mid s' (line rom size at s mid e0 a (enters-second rom size at first (Line instrs) s mid e a)) b)

    stops : (rom : List ℕ) (size at : ℕ) (s s' : Moment) → IsEntered rom size at (Seq first (Line instrs)) s → Stops rom at (Seq first (Line instrs)) s s' → IsStill s s'
    stops rom size at s s' e (inl t) = quiet.stops rom size at s s' (enter-first rom size at first (Line instrs) s e) t
    stops rom size at s s' e (inr (mid, a, t)) =
        let e0 = enter-first rom size at first (Line instrs) s e in
        still-joined s mid s' (quiet.does rom size at s mid e0 a)
        (silent-stopped rom instrs (at + 4 * len first) mid s' (line rom size at s mid e0 a (enters-second rom size at first (Line instrs) s mid e a)) t)

portless-operated : (op : Op) (r : ℕ) → ArePortless (operated op r)
portless-operated ops.Eq r = (tt, (tt, tt))
portless-operated ops.Ne r = (tt, (tt, tt))
portless-operated ops.Le r = (tt, (tt, tt))
portless-operated ops.Ge r = (tt, (tt, tt))
portless-operated ops.And r = (tt, (tt, (tt, tt)))
portless-operated ops.Or r = (tt, (tt, (tt, tt)))
portless-operated _ r = (tt, tt)

portless-decoded : (r n : ℕ) (lo : ℤ) → ArePortless (decode_value r n lo)
portless-decoded r n lo = (tt, (tt, (tt, (tt, (tt, (tt, (tt, (tt, (tt, tt)))))))))

portless-argument : (range : Range) (r : ℕ) → ArePortless (argument_line range r)
portless-argument range r = (tt, (tt, (tt, (tt, (tt, (tt, (tt, (tt, (tt, tt)))))))))

portless-joined : (range : Range) (r : ℕ) → ArePortless (joined_line range r)
portless-joined range r = (tt, (tt, (tt, (tt, (tt, (tt, (tt, (tt, (tt, (tt, (tt, tt)))))))))))

-- a load at the address in a register, and a line without loads and stores behind it
load-silent : (rom : List ℕ) (at q x : ℕ) (width : Width) (rest : List Instr) (s : Moment) → s.hart.pc ≡ at → reg_at (suc q) s ≡ x → x < in_base → ArePortless rest
    → LineIsSilent rom at (load_by width (suc q) (suc q) (pos 0) ∷ rest) s
load-silent rom at q x width rest s here holds low p =
    silent-load rom at width (suc q) (suc q) (pos 0) rest s here
    (subst (λ n. displaced n (pos 0) < in_base) (sym holds) (let e : (x + 0) % 2 ^ 32 ≡ x = omega arith in omega arith))
    (silent-portless rom (at + 4) rest _ p)

-- a cell of an array in RAM, at an index below so many
array-silent : (rom : List ℕ) (size at q start count index : ℕ) (width : Width) (rest : List Instr) (s : Moment) → 5 ≤ suc q → suc q ≤ 20 → reg_at (suc q) s ≡ index → index < count
    → start + bytes_of width * count ≤ 2 ^ 20 → IsAt size at 4 s → ArePortless rest
    → LineIsSilent rom at (address_of (suc q) (ram_base + start) (shift_of width) ++ (load_by width (suc q) (suc q) (pos 0) ∷ rest)) s
array-silent rom size at q start count index width rest s low few holds below inside i p =
    silent-append rom at (address_of (suc q) (ram_base + start) (shift_of width)) (load_by width (suc q) (suc q) (pos 0) ∷ rest) s
    (silent-portless rom at (address_of (suc q) (ram_base + start) (shift_of width)) s (tt, (tt, (tt, (tt, tt)))))
    (λ mid d.
    let t = led rom at (address_of (suc q) (ram_base + start) (shift_of width)) s mid _ (address-leads rom size at q s low few (ram_base + start) (shift_of width) (omega arith) i) d in
    load-silent rom (at + 16) q (ram_base + (start + bytes_of width * index)) width rest mid t.here (t.holds ∙ there) (omega (arith, offset)) p)
  where
    widened : (width : Width) → start + bytes_of width * count ≤ 2 ^ 20 → start + bytes_of width * index < 2 ^ 20
    widened Byte h = omega arith
    widened Half h = omega arith
    widened Word h = omega arith

    offset : start + bytes_of width * index < 2 ^ 20
    offset = widened width inside

    there : (ram_base + start + 2 ^ shift_of width * reg_at (suc q) s) % 2 ^ 32 ≡ ram_base + (start + bytes_of width * index)
    there =
        ap (λ n. (ram_base + start + n * reg_at (suc q) s) % 2 ^ 32) (shifts-are-widths width) ∙ ap (λ n. (ram_base + start + bytes_of width * n) % 2 ^ 32) holds
        ∙ (let o = offset in let e : (ram_base + start + bytes_of width * index) % 2 ^ 32 ≡ ram_base + (start + bytes_of width * index) = omega arith in e)

-- the word of a table, at any index
table-silent : (rom : List ℕ) (size at q start : ℕ) (rest : List Instr) (s : Moment) → 5 ≤ suc q → suc q ≤ 20 → start < 2 ^ 32 → IsAt size at 6 s → ArePortless rest
    → LineIsSilent rom at ((address_of (suc q) start 2 ++ (Slli (suc q) (suc q) 12 ∷ Srli (suc q) (suc q) 12 ∷ [])) ++ (load_by Word (suc q) (suc q) (pos 0) ∷ rest)) s
table-silent rom size at q start rest s low few small i p =
    silent-append rom at (address_of (suc q) start 2 ++ cuts) (load_by Word (suc q) (suc q) (pos 0) ∷ rest) s
    (silent-portless rom at (address_of (suc q) start 2 ++ cuts) s (tt, (tt, (tt, (tt, (tt, (tt, tt)))))))
    (λ mid d.
    let t = led rom at (address_of (suc q) start 2 ++ cuts) s mid _ cut d in
    load-silent rom (at + 24) q (reg_at (suc q) mid) Word rest mid t.0 refl (let b = t.1 in omega arith) p)
  where
    cuts : List Instr
    cuts = Slli (suc q) (suc q) 12 ∷ Srli (suc q) (suc q) 12 ∷ []

    cut : LineLeads rom at (address_of (suc q) start 2 ++ cuts) s (λ m. (m.hart.pc ≡ at + 24) × (reg_at (suc q) m < 2 ^ 20))
    cut =
        let room = i.room in let aligned = i.aligned in
        line-then rom at (address_of (suc q) start 2) cuts s _ _
        (address-leads rom size at q s low few start 2 small (record { valid = i.valid; here = i.here; aligned = i.aligned; room = omega arith }))
        (λ m1 t1.
        let x = reg_at (suc q) m1 in
        let y = x * 2 ^ 12 % 2 ^ 32 in
        writes-then rom size (at + 16) m1 _ 1 q y (Slli (suc q) (suc q) 12) _ (record { valid = t1.valid; here = t1.here; aligned = omega arith; room = omega arith })
        (does-slli m1 (suc q) x 0 12 refl) (omega arith)
        (λ n2.
        let m2 = written (at + 16 + 4) (suc q) y m1 in
        writes-then rom size (at + 16 + 4) m2 _ 0 q (y / 2 ^ 12) (Srli (suc q) (suc q) 12) [] n2
        (does-srli m2 (suc q) y 0 12 (reg-same size (at + 16 + 4) q y m1 t1.valid (omega arith))) (omega arith)
        (λ n3. line-ends rom size (at + 16 + 4 + 4) _ _
        (n3.here ∙ omega arith, subst (λ n. n < 2 ^ 20) (sym (reg-same size (at + 16 + 4 + 4) q (y / 2 ^ 12) m2 n2.valid (omega arith))) (let e : y / 2 ^ 12 < 2 ^ 20 = omega arith in e)))))

-- ---- terms
module _ (program : Resolved) (placement : Placement) (tables : ℕ) (mapped : IsMapped program placement) (room : map_end placement program.binders ≤ 2 ^ 20) where
  abbrev plan : ResolvedTerm → ℕ → Plan
  plan = term_plan program placement tables

  abbrev below : ResolvedTerm → Bool
  below = binders_below program.binders

  abbrev Quiet : Bool → ℕ → (ℕ → Plan) → Type 0
  Quiet below registers plans = below ≡ true → (q : ℕ) → 5 ≤ suc q → suc q + registers ≤ 21 → IsSilent (plans (suc q))

  abbrev QuietTerm : ResolvedTerm → Type 0
  QuietTerm t = Quiet (below t) (term_registers t) (plan t)

  abbrev Sound : Type 0
  Sound = (t : ResolvedTerm) × QuietTerm t

  abbrev term : Sound → ResolvedTerm
  term s = s.0

  abbrev Layer : ResolvedTerm-F ResolvedTerm → Type 0
  Layer x = Quiet (binders_below_by program.binders (map-ResolvedTerm ResolvedTerm Bool below x)) (term_registers_by (map-ResolvedTerm ResolvedTerm ℕ term_registers x))
      (term_plan_by program placement tables (map-ResolvedTerm ResolvedTerm (ℕ → Plan) plan x))

  abbrev all_below : List Sound → Bool
  all_below ts = list_all (λ (b : Bool). b) (map below (map term ts))

  slot-low : (b : ℕ) → nat_lt b program.binders ≡ true → slot placement b < 2 ^ 20
  slot-low b h = let l = ltb-true b program.binders h in omega arith

  binder-silent : (o : Option Range) (offset q : ℕ) → offset < 2 ^ 20 → suc q ≤ 20 → IsSilent (Line (binder_line o offset (suc q)))
  binder-silent None offset q low few = silent-line (load_fixed Word (suc q) offset) (λ rom size at s e.
      let i = entered-at rom size at (load_fixed Word (suc q) offset) s e (omega arith) in let r = i.room in
      silent-fixed rom size at q offset s (record { valid = e.valid; here = e.here; room = omega arith }) (omega arith) low)
  binder-silent (Some range) offset q low few = silent-line (load_fixed Word (suc q) offset ++ decode_value (suc q) range.size range.lo) (λ rom size at s e.
      let i = entered-at rom size at (load_fixed Word (suc q) offset ++ decode_value (suc q) range.size range.lo) s e (omega arith) in let r = i.room in
      silent-append rom at (load_fixed Word (suc q) offset) (decode_value (suc q) range.size range.lo) s
      (silent-fixed rom size at q offset s (record { valid = e.valid; here = e.here; room = omega arith }) (omega arith) low)
      (λ mid d. silent-portless rom _ (decode_value (suc q) range.size range.lo) mid (portless-decoded (suc q) range.size range.lo)))

  further-silent : (ranges : List Range) (ts : List Sound) → all_below ts ≡ true → (q : ℕ) → 5 ≤ suc q → suc q + arguments_registers 1 (map term_registers (map term ts)) ≤ 21
      → IsSilent (further_plan ranges (map plan (map term ts)) (suc q))
  further-silent [] ts h q low high = portless-line [] tt
  further-silent (range ∷ ranges) [] h q low high = portless-line [] tt
  further-silent (range ∷ ranges) (t ∷ ts) h q low high =
      let p = and_parts (below t.0) (all_below ts) h in
      silent-seq (plan t.0 (suc (suc q))) _ (t.1 p.0 (suc q) (omega arith) (omega arith))
      (silent-seq (Line (joined_line range (suc q))) _ (portless-line (joined_line range (suc q)) (portless-joined range (suc q))) (further-silent ranges ts p.1 q low (omega arith)))

  index-silent : (ranges : List Range) (ts : List Sound) → all_below ts ≡ true → (q : ℕ) → 5 ≤ suc q → suc q + arguments_registers 0 (map term_registers (map term ts)) ≤ 21
      → IsSilent (index_plan ranges (map plan (map term ts)) (suc q))
  index-silent [] ts h q low high = portless-line (load_immediate (suc q) 0) (tt, (tt, tt))
  index-silent (range ∷ ranges) [] h q low high = portless-line (load_immediate (suc q) 0) (tt, (tt, tt))
  index-silent (range ∷ ranges) (t ∷ ts) h q low high =
      let p = and_parts (below t.0) (all_below ts) h in
      silent-seq (plan t.0 (suc q)) _ (t.1 p.0 q low (omega arith))
      (silent-seq (Line (argument_line range (suc q))) _ (portless-line (argument_line range (suc q)) (portless-argument range (suc q))) (further-silent ranges ts p.1 q low (omega arith)))

  read-silent : (fun : ℕ) (o : Option Signature) (ts : List Sound) → slice_get placement.signatures fun ≡ o → all_below ts ≡ true → (q : ℕ) → 5 ≤ suc q
      → suc q + arguments_registers 0 (map term_registers (map term ts)) ≤ 21 → IsSilent (read_plan placement tables fun o (map plan (map term ts)) (suc q))
  read-silent fun None ts here h q low high = portless-line [] tt
  read-silent fun (Some signature) ts here h q low high = by_kind signature.kind refl
    where
      few : suc q ≤ 20
      few = omega (arith, arguments-some 0 (map term_registers (map term ts)))

      index : Plan
      index = index_plan signature.args (map plan (map term ts)) (suc q)

      decoding : List Instr
      decoding = decode_value (suc q) signature.codomain.size signature.codomain.lo

      inside : is_static signature.kind ≡ false → (rom : List ℕ) (size at : ℕ) (s mid : Moment) → IsEntered rom size at index s → Does rom at index s mid → reg_at (suc q) mid < padded_count signature.args
      inside held rom size at s mid e d =
          index-bounded rom size program placement tables signature.args (map term ts) (signature-narrow program placement mapped fun signature here).0 (few-held program placement mapped fun signature here held) q low high at s mid e d

      at-line : (words : ℕ) (instrs : List Instr) (rom : List ℕ) (size at : ℕ) (mid : Moment) → words ≤ length instrs → 0 < length instrs → IsEntered rom size at (Line instrs) mid → IsAt size at words mid
      at-line words instrs rom size at mid fits some e =
          let i = entered-at rom size at instrs mid e some in let r = i.room in record { valid = i.valid; here = i.here; aligned = i.aligned; room = omega arith }

      state : is_state signature.kind ≡ true → is_static signature.kind ≡ false
          → IsSilent (Seq index (Line ((address_of (suc q) (ram_base + array_start placement fun) (shift_of (access_at placement fun)) ++ load_cell (access_at placement fun) (suc q)) ++ decoding)))
      state kind held =
          silent-when index _ (index-silent signature.args ts h q low high) (λ rom size at s mid e d em.
          array-silent rom size (at + 4 * len index) q (array_start placement fun) (padded_count signature.args) (reg_at (suc q) mid) (access_at placement fun) decoding mid low few refl
          (inside held rom size at s mid e d) (let b = (values-are-arrays placement).below fun signature here kind in omega arith) (at-line 4 _ rom size _ mid (omega arith) (omega arith) em)
          (portless-decoded (suc q) signature.codomain.size signature.codomain.lo))

      by_kind : (kind : Kind) → signature.kind ≡ kind → IsSilent (Seq index (Line (cell_line placement tables fun kind (suc q) ++ decoding)))
      by_kind kinds.Controlled k = state (ap is_state k) (ap is_static k)
      by_kind kinds.Output k = state (ap is_state k) (ap is_static k)
      by_kind kinds.Input k =
          silent-when index _ (index-silent signature.args ts h q low high) (λ rom size at s mid e d em.
          array-silent rom size (at + 4 * len index) q (kept_start placement fun) (padded_count signature.args) (reg_at (suc q) mid) Word decoding mid low few refl
          (inside (ap is_static k) rom size at s mid e d) (let b = (kept-are-arrays placement).below fun signature here (ap is_input k) in omega arith) (at-line 4 _ rom size _ mid (omega arith) (omega arith) em)
          (portless-decoded (suc q) signature.codomain.size signature.codomain.lo))
      by_kind kinds.Static k =
          silent-when index _ (index-silent signature.args ts h q low high) (λ rom size at s mid e d em.
          table-silent rom size (at + 4 * len index) q (table_start placement tables fun) (Srli (suc q) (suc q) 12 ∷ decoding) mid low few (omega arith) (at-line 6 _ rom size _ mid (omega arith) (omega arith) em)
          (tt, portless-decoded (suc q) signature.codomain.size signature.codomain.lo))

  layer : (x : ResolvedTerm-F Sound) → Layer (map-ResolvedTerm Sound ResolvedTerm term x)
  layer (ResolvedTerm-F.Number v) h q low high = portless-line (load_immediate (suc q) (word_of v)) (tt, (tt, tt))
  layer (ResolvedTerm-F.Var b) h q low high = binder-silent (binder_range program b) (slot placement b) q (slot-low b h) (omega arith)
  layer (ResolvedTerm-F.Read fun ts) h q low high = read-silent fun (slice_get placement.signatures fun) ts refl h q low high
  layer (ResolvedTerm-F.Binary op l r) h q low high =
      let p = and_parts (below l.0) (below r.0) h in
      silent-seq (plan l.0 (suc q)) _ (l.1 p.0 q low (omega arith))
      (silent-seq (plan r.0 (suc (suc q))) (Line (operated op (suc q))) (r.1 p.1 (suc q) (omega arith) (omega arith)) (portless-line (operated op (suc q)) (portless-operated op (suc q))))
  layer (ResolvedTerm-F.Not t) h q low high = silent-seq (plan t.0 (suc q)) (Line (denied (suc q))) (t.1 h q low high) (portless-line (denied (suc q)) (tt, tt))
  layer (ResolvedTerm-F.Min l r) h q low high =
      let p = and_parts (below l.0) (below r.0) h in
      silent-seq (plan l.0 (suc q)) _ (l.1 p.0 q low (omega arith))
      (silent-seq (plan r.0 (suc (suc q))) (Line (lesser (suc q))) (r.1 p.1 (suc q) (omega arith) (omega arith)) (portless-line (lesser (suc q)) (tt, (tt, tt))))
  layer (ResolvedTerm-F.Max l r) h q low high =
      let p = and_parts (below l.0) (below r.0) h in
      silent-seq (plan l.0 (suc q)) _ (l.1 p.0 q low (omega arith))
      (silent-seq (plan r.0 (suc (suc q))) (Line (greater (suc q))) (r.1 p.1 (suc q) (omega arith) (omega arith)) (portless-line (greater (suc q)) (tt, (tt, tt))))
  layer (ResolvedTerm-F.Cond g l r) h q low high =
      let p = and_parts (below g.0) (below l.0 && below r.0) h in let m = and_parts (below l.0) (below r.0) p.1 in
      silent-seq (plan g.0 (suc q)) _ (g.1 p.0 q low (omega arith)) (silent-if (suc q) (plan l.0 (suc q)) (plan r.0 (suc q)) (l.1 m.0 q low (omega arith)) (r.1 m.1 q low (omega arith)))

  rolled : (x : ResolvedTerm-F ResolvedTerm) → Layer x → QuietTerm (roll-ResolvedTerm x)
  rolled x l =
      subst (λ b. Quiet b (term_registers (roll-ResolvedTerm x)) (plan (roll-ResolvedTerm x))) (sym (below_at x program.binders))
      (subst (λ n. Quiet b' n (plan (roll-ResolvedTerm x))) (sym (registers_at x))
      (subst (λ p. Quiet b' n' p) (sym (plan_at x program placement tables)) l))
    where
      b' : Bool
      b' = binders_below_by program.binders (map-ResolvedTerm ResolvedTerm Bool below x)

      n' : ℕ
      n' = term_registers_by (map-ResolvedTerm ResolvedTerm ℕ term_registers x)

  pub quiet-terms : (t : ResolvedTerm) → QuietTerm t
  quiet-terms = ind-ResolvedTerm QuietTerm (λ x y is. subst (λ z. QuietTerm (roll-ResolvedTerm z)) is (rolled (map-ResolvedTerm Sound ResolvedTerm term y) (layer y)))

  -- so is the code of the index of any arguments
  pub quiet-indices : (ranges : List Range) (args : List ResolvedTerm) → list_all below args ≡ true → (q : ℕ) → 5 ≤ suc q → suc q + arguments_registers 0 (map term_registers args) ≤ 21
      → IsSilent (index_plan ranges (map plan args) (suc q))
  quiet-indices ranges args h q low high =
      subst (λ ts. list_all below ts ≡ true → suc q + arguments_registers 0 (map term_registers ts) ≤ 21 → IsSilent (index_plan ranges (map plan ts) (suc q))) (all-same args)
      (λ h high. index-silent ranges (map sound args) (list_all-map _ _ (map term (map sound args)) ∙ h) q low high) h high
    where
      sound : ResolvedTerm → Sound
      sound t = (t, quiet-terms t)

      all-same : (ts : List ResolvedTerm) → map term (map sound ts) ≡ ts
      all-same [] = refl
      all-same (t ∷ ts) = ap (λ us. t ∷ us) (all-same ts)

pub terms-are-silent : TermsAreSilent
terms-are-silent program placement tables term mapped room below zero low high = absurd (omega arith)
terms-are-silent program placement tables term mapped room below (suc q) low high = quiet-terms program placement tables mapped room term below q low high

pub indices-stay-inside : IndicesStayInside
indices-stay-inside rom size program placement tables fun signature args mapped here held zero address s s' low high e d = absurd (omega arith)
indices-stay-inside rom size program placement tables fun signature args mapped here held (suc q) address s s' low high e d =
    index-bounded rom size program placement tables signature.args args (signature-narrow program placement mapped fun signature here).0 (few-held program placement mapped fun signature here held) q low high address s s' e d
