-- What the code of terms is made of: lines that store nothing, go forward and write no register below theirs.
use Rattle.std.proofs.Common.{◌≡◌, ℕ, suc, ◌+◌, ◌≤◌, ℤ, List, [], ◌∷◌, ◌++◌, length, map, Option, Some, None, refl, sym, ap, subst, inr, arith, length-append}
use Rattle.std.specs.Prelude.{slice_get}
use Rattle.asm_tree.specs.declared.decl.Kind.{Kind}
use Rattle.asm_tree.specs.declared.decl.Kind.TheVariants as kinds
use Rattle.asm_tree.specs.declared.term.Op.{Op}
use Rattle.asm_tree.specs.declared.term.Op.TheVariants as ops
use Rattle.asm_names.specs.declared.{program.Resolved.{Resolved}, resolved_term.ResolvedTerm.{ResolvedTerm, ResolvedTerm-F, roll-ResolvedTerm, ind-ResolvedTerm, map-ResolvedTerm}}
use Rattle.state_space.specs.declared.signature.{Range.{Range}, Signature.{Signature}}
use Rattle.rv_isa.specs.declared.instr.Instr.{Instr}
use Rattle.trap_model.specs.declared.width.Width.{Width}
use Rattle.trap_model.specs.declared.width.Width.TheVariants.{Byte, Half, Word}
use Rattle.block_code.specs.Block.{IsBlock}
use Rattle.block_code.specs.Effect.{Holds}
use Rattle.block_code.specs.Plan.{AreStoreless, If, IsLine, Line, Plan, Seq, full, len}
use Rattle.block_code.specs.Sequence.{load_fixed, load_immediate, scratch}
use Rattle.block_code.specs.Silent.{IsOutside, IsStorelessPlan, WriteOutside, WritesNone}
use Rattle.block_code.proofs.Parts.{lines-append}
use Rattle.block_code.proofs.Silent.{storeless-append, write-append}
use Rattle.state_layout.specs.Map.{Placement, access_at, slot}
use Rattle.mask_guard.specs.Mask.{address_of, decode_value, load_cell, mask_index, word_of}
use Rattle.bound_count.specs.TermWeights.{arguments_weight, term_weight, term_weight_by}
use Rattle.instr_select.specs.{Binders.{binder_range}, Operators.{denied, greater, lesser, operated}}
use Rattle.instr_select.specs.Terms.{argument_line, binder_line, cell_line, further_plan, index_plan, joined_line, read_line, read_plan, term_plan, term_plan_by}
use Rattle.instr_select.proofs.Levels.{plan_at, weight_at}

-- a line that goes forward, stores nothing and writes none of the registers from x5 below base
pub record IsTermLine (base : ℕ) (instrs : List Instr) : Type 0 where
  pub line : IsLine instrs
  pub storeless : AreStoreless instrs
  pub writes : WriteOutside 5 base instrs

-- a block of such lines, with choices, and no loop and no scan
pub record IsTermCode (base : ℕ) (tree : Plan) : Type 0 where
  pub block : IsBlock tree
  pub holds : (size : ℕ) → Holds size tree
  pub storeless : IsStorelessPlan tree
  pub writes : WritesNone 5 base tree
  pub steady : full tree ≤ len tree

module _ (base : ℕ) where
  pub line-joined : (first second : List Instr) → IsTermLine base first → IsTermLine base second → IsTermLine base (first ++ second)
  line-joined first second a b = record {
    line = lines-append first second a.line b.line;
    storeless = storeless-append first second a.storeless b.storeless;
    writes = write-append 5 base first second a.writes b.writes;
  }

  pub code-line : (instrs : List Instr) → IsTermLine base instrs → IsTermCode base (Line instrs)
  code-line instrs l = record { block = l.line; holds = λ size. tt; storeless = l.storeless; writes = l.writes; steady = omega arith }

  pub code-seq : (first second : Plan) → IsTermCode base first → IsTermCode base second → IsTermCode base (Seq first second)
  code-seq first second a b =
      let p = a.steady in let q = b.steady in
      record { block = (a.block, b.block); holds = λ size. (a.holds size, b.holds size); storeless = (a.storeless, b.storeless); writes = (a.writes, b.writes); steady = omega arith }

  pub code-if : (test : ℕ) (first second : Plan) → IsTermCode base first → IsTermCode base second → IsTermCode base (If test first second)
  code-if test first second a b =
      let p = a.steady in let q = b.steady in
      record { block = (a.block, b.block); holds = λ size. (a.holds size, b.holds size); storeless = (a.storeless, b.storeless); writes = (a.writes, b.writes); steady = omega arith }

module _ (base r : ℕ) (above : base ≤ r) (small : base ≤ 21) where
  own : IsOutside 5 base r
  own = inr above

  behind : IsOutside 5 base (suc r)
  behind = inr (omega arith)

  scratched : IsOutside 5 base scratch
  scratched = inr small

  pub immediate-line : (value : ℕ) → IsTermLine base (load_immediate r value)
  immediate-line value = record { line = (tt, (tt, tt)); storeless = (tt, (tt, tt)); writes = (own, (own, tt)) }

  scratch-line : (value : ℕ) → IsTermLine base (load_immediate scratch value)
  scratch-line value = record { line = (tt, (tt, tt)); storeless = (tt, (tt, tt)); writes = (scratched, (scratched, tt)) }

  fixed-line : (offset : ℕ) → IsTermLine base (load_fixed Word r offset)
  fixed-line offset = record { line = (tt, (tt, tt)); storeless = (tt, (tt, tt)); writes = (own, (own, tt)) }

  mask-line : (n : ℕ) → IsTermLine base (mask_index r n)
  mask-line n = record {
    line = (tt, (tt, (tt, (tt, ((omega arith, omega arith), (tt, tt))))));
    storeless = (tt, (tt, (tt, (tt, (tt, (tt, tt))))));
    writes = (own, (own, (scratched, (scratched, (tt, (own, tt))))));
  }

  decode-line : (n : ℕ) (lo : ℤ) → IsTermLine base (decode_value r n lo)
  decode-line n lo =
      line-joined base (mask_index r n) _ (mask-line n)
      (record { line = (tt, (tt, (tt, tt))); storeless = (tt, (tt, (tt, tt))); writes = (scratched, (scratched, (own, tt))) })

  address-line : (start shift : ℕ) → IsTermLine base (address_of r start shift)
  address-line start shift = record { line = (tt, (tt, (tt, (tt, tt)))); storeless = (tt, (tt, (tt, (tt, tt)))); writes = (own, (scratched, (scratched, (own, tt)))) }

  load-line : (width : Width) → IsTermLine base (load_cell width r)
  load-line Byte = record { line = (tt, tt); storeless = (tt, tt); writes = (own, tt) }
  load-line Half = record { line = (tt, tt); storeless = (tt, tt); writes = (own, tt) }
  load-line Word = record { line = (tt, tt); storeless = (tt, tt); writes = (own, tt) }

  denied-line : IsTermLine base (denied r)
  denied-line = record { line = (tt, tt); storeless = (tt, tt); writes = (own, tt) }

  operated-line : (op : Op) → IsTermLine base (operated op r)
  operated-line ops.Eq = record { line = (tt, (tt, tt)); storeless = (tt, (tt, tt)); writes = (own, (own, tt)) }
  operated-line ops.Ne = record { line = (tt, (tt, tt)); storeless = (tt, (tt, tt)); writes = (own, (own, tt)) }
  operated-line ops.Le = record { line = (tt, (tt, tt)); storeless = (tt, (tt, tt)); writes = (own, (own, tt)) }
  operated-line ops.Ge = record { line = (tt, (tt, tt)); storeless = (tt, (tt, tt)); writes = (own, (own, tt)) }
  operated-line ops.And = record { line = (tt, (tt, (tt, tt))); storeless = (tt, (tt, (tt, tt))); writes = (own, (behind, (own, tt))) }
  operated-line ops.Or = record { line = (tt, (tt, (tt, tt))); storeless = (tt, (tt, (tt, tt))); writes = (own, (behind, (own, tt))) }
  operated-line _ = record { line = (tt, tt); storeless = (tt, tt); writes = (own, tt) }

  lesser-line : IsTermLine base (lesser r)
  lesser-line = record { line = ((omega arith, omega arith), (tt, tt)); storeless = (tt, (tt, tt)); writes = (tt, (own, tt)) }

  greater-line : IsTermLine base (greater r)
  greater-line = record { line = ((omega arith, omega arith), (tt, tt)); storeless = (tt, (tt, tt)); writes = (tt, (own, tt)) }

  bound-line : (range : Option Range) (offset : ℕ) → IsTermLine base (binder_line range offset r)
  bound-line None offset = fixed-line offset
  bound-line (Some range) offset = line-joined base (load_fixed Word r offset) (decode_value r range.size range.lo) (fixed-line offset) (decode-line range.size range.lo)

  pub index-line : (range : Range) → IsTermLine base (argument_line range r)
  index-line range =
      line-joined base (load_immediate scratch (word_of range.lo)) _ (scratch-line (word_of range.lo))
      (record { line = (tt, mask.line); storeless = (tt, mask.storeless); writes = (own, mask.writes) })
    where
      mask : IsTermLine base (mask_index r range.size)
      mask = mask-line range.size

  cell-code : (placement : Placement) (tables fun : ℕ) (kind : Kind) → IsTermLine base (cell_line placement tables fun kind r)
  cell-code placement tables fun kinds.Controlled = line-joined base _ (load_cell (access_at placement fun) r) (address-line _ _) (load-line (access_at placement fun))
  cell-code placement tables fun kinds.Output = line-joined base _ (load_cell (access_at placement fun) r) (address-line _ _) (load-line (access_at placement fun))
  cell-code placement tables fun kinds.Input = line-joined base _ (load_cell Word r) (address-line _ _) (load-line Word)
  cell-code placement tables fun kinds.Static =
      line-joined base (address_of r _ 2) _ (address-line _ _)
      (record { line = (tt, (tt, (tt, (tt, tt)))); storeless = (tt, (tt, (tt, (tt, tt)))); writes = (own, (own, (own, (own, tt)))) })

  pub reading-line : (placement : Placement) (tables fun : ℕ) (signature : Signature) → IsTermLine base (read_line placement tables fun signature r)
  reading-line placement tables fun signature =
      line-joined base (cell_line placement tables fun signature.kind r) _ (cell-code placement tables fun signature.kind) (decode-line signature.codomain.size signature.codomain.lo)

pub joining-line : (base r : ℕ) → base ≤ r → base ≤ 21 → (range : Range) → IsTermLine base (joined_line range r)
joining-line base r above small range =
    line-joined base (argument_line range (suc r)) _ (index-line base (suc r) (omega arith) small range)
    (record { line = (tt, (tt, tt)); storeless = (tt, (tt, tt)); writes = (inr above, (inr above, tt)) })

-- ---- lengths
bound-length : (range : Option Range) (offset r : ℕ) → length (binder_line range offset r) ≤ 16
bound-length None offset r = omega arith
bound-length (Some range) offset r = omega arith

operated-length : (op : Op) (r : ℕ) → length (operated op r) ≤ 6
operated-length ops.And r = omega arith
operated-length ops.Or r = omega arith
operated-length ops.Eq r = omega arith
operated-length ops.Ne r = omega arith
operated-length ops.Le r = omega arith
operated-length ops.Ge r = omega arith
operated-length _ r = omega arith

cell-length : (placement : Placement) (tables fun : ℕ) (kind : Kind) (r : ℕ) → length (cell_line placement tables fun kind r) ≤ 8
cell-length placement tables fun kinds.Controlled r = loaded (access_at placement fun)
  where
    loaded : (width : Width) → length (address_of r 0 0 ++ load_cell width r) ≤ 8
    loaded width = omega arith
cell-length placement tables fun kinds.Output r = omega arith
cell-length placement tables fun kinds.Input r = omega arith
cell-length placement tables fun kinds.Static r = omega arith

-- ---- terms

-- code, at each register that is above those that it may not write, and no longer than this
abbrev pub Codes : (ℕ → Plan) → ℕ → Type 0
Codes plans weight = (base r : ℕ) → base ≤ r → base ≤ 21 → IsTermCode base (plans r) × (len (plans r) ≤ weight)

module _ (program : Resolved) (placement : Placement) (tables : ℕ) where
  abbrev plan : ResolvedTerm → ℕ → Plan
  plan = term_plan program placement tables

  abbrev Coded : ResolvedTerm → Type 0
  Coded t = Codes (plan t) (term_weight t)

  abbrev Sound : Type 0
  Sound = (t : ResolvedTerm) × Coded t

  abbrev term : Sound → ResolvedTerm
  term s = s.0

  abbrev Layer : ResolvedTerm-F ResolvedTerm → Type 0
  Layer x = Codes (term_plan_by program placement tables (map-ResolvedTerm ResolvedTerm (ℕ → Plan) plan x)) (term_weight_by (map-ResolvedTerm ResolvedTerm ℕ term_weight x))

  further-coded : (ranges : List Range) (ts : List Sound) → Codes (further_plan ranges (map plan (map term ts))) (arguments_weight (map term_weight (map term ts)))
  further-coded [] ts base r above small = (code-line base [] (record { line = tt; storeless = tt; writes = tt }), omega arith)
  further-coded (range ∷ ranges) [] base r above small = (code-line base [] (record { line = tt; storeless = tt; writes = tt }), omega arith)
  further-coded (range ∷ ranges) (t ∷ ts) base r above small =
      let a = t.1 base (suc r) (omega arith) small in
      let b = further-coded ranges ts base r above small in (
        code-seq base _ _ a.0 (code-seq base (Line (joined_line range r)) _ (code-line base _ (joining-line base r above small range)) b.0),
        omega (arith, a.1, b.1),
      )

  index-coded : (ranges : List Range) (ts : List Sound) → Codes (index_plan ranges (map plan (map term ts))) (2 + arguments_weight (map term_weight (map term ts)))
  index-coded [] ts base r above small = (code-line base _ (immediate-line base r above small 0), omega arith)
  index-coded (range ∷ ranges) [] base r above small = (code-line base _ (immediate-line base r above small 0), omega arith)
  index-coded (range ∷ ranges) (t ∷ ts) base r above small =
      let a = t.1 base r above small in
      let b = further-coded ranges ts base r above small in (
        code-seq base _ _ a.0 (code-seq base (Line (argument_line range r)) _ (code-line base _ (index-line base r above small range)) b.0),
        omega (arith, a.1, b.1),
      )

  read-coded : (fun : ℕ) (signature : Option Signature) (ts : List Sound) → Codes (read_plan placement tables fun signature (map plan (map term ts))) (32 + arguments_weight (map term_weight (map term ts)))
  read-coded fun None ts base r above small = (code-line base [] (record { line = tt; storeless = tt; writes = tt }), omega arith)
  read-coded fun (Some signature) ts base r above small =
      let i = index-coded signature.args ts base r above small in
      let c = cell-length placement tables fun signature.kind r in
      let l = length-append (cell_line placement tables fun signature.kind r) (decode_value r signature.codomain.size signature.codomain.lo) in (
        code-seq base _ (Line (read_line placement tables fun signature r)) i.0 (code-line base _ (reading-line base r above small placement tables fun signature)),
        omega (arith, i.1),
      )

  layer : (x : ResolvedTerm-F Sound) → Layer (map-ResolvedTerm Sound ResolvedTerm term x)
  layer (ResolvedTerm-F.Number v) base r above small = (code-line base _ (immediate-line base r above small (word_of v)), omega arith)
  layer (ResolvedTerm-F.Var b) base r above small =
      (code-line base _ (bound-line base r above small (binder_range program b) (slot placement b)), bound-length (binder_range program b) (slot placement b) r)
  layer (ResolvedTerm-F.Read fun ts) base r above small = read-coded fun (slice_get placement.signatures fun) ts base r above small
  layer (ResolvedTerm-F.Binary op l k) base r above small =
      let a = l.1 base r above small in let b = k.1 base (suc r) (omega arith) small in let c = operated-length op r in
      (code-seq base _ _ a.0 (code-seq base _ (Line (operated op r)) b.0 (code-line base _ (operated-line base r above small op))), omega (arith, a.1, b.1))
  layer (ResolvedTerm-F.Not t) base r above small =
      let a = t.1 base r above small in (code-seq base _ (Line (denied r)) a.0 (code-line base _ (denied-line base r above small)), omega (arith, a.1))
  layer (ResolvedTerm-F.Min l k) base r above small =
      let a = l.1 base r above small in let b = k.1 base (suc r) (omega arith) small in
      (code-seq base _ _ a.0 (code-seq base _ (Line (lesser r)) b.0 (code-line base _ (lesser-line base r above small))), omega (arith, a.1, b.1))
  layer (ResolvedTerm-F.Max l k) base r above small =
      let a = l.1 base r above small in let b = k.1 base (suc r) (omega arith) small in
      (code-seq base _ _ a.0 (code-seq base _ (Line (greater r)) b.0 (code-line base _ (greater-line base r above small))), omega (arith, a.1, b.1))
  layer (ResolvedTerm-F.Cond g l k) base r above small =
      let a = g.1 base r above small in let b = l.1 base r above small in let c = k.1 base r above small in
      (code-seq base _ _ a.0 (code-if base r _ _ b.0 c.0), omega (arith, a.1, b.1, c.1))

  rolled : (x : ResolvedTerm-F ResolvedTerm) → Layer x → Coded (roll-ResolvedTerm x)
  rolled x l =
      subst (λ p. Codes p (term_weight (roll-ResolvedTerm x))) (sym (plan_at x program placement tables))
      (subst (Codes (term_plan_by program placement tables (map-ResolvedTerm ResolvedTerm (ℕ → Plan) plan x))) (sym (weight_at x)) l)

  -- the code of every term is such code, and no longer than the term's weight
  pub terms-are-coded : (t : ResolvedTerm) → Coded t
  terms-are-coded = ind-ResolvedTerm Coded (λ x y is. subst (λ z. Coded (roll-ResolvedTerm z)) is (rolled (map-ResolvedTerm Sound ResolvedTerm term y) (layer y)))

  -- so is the code of the index of any arguments
  pub indices-are-coded : (ranges : List Range) (ts : List ResolvedTerm) → Codes (index_plan ranges (map plan ts)) (2 + arguments_weight (map term_weight ts))
  indices-are-coded ranges ts =
      subst (λ us. Codes (index_plan ranges (map plan us)) (2 + arguments_weight (map term_weight us))) (all-same ts) (index-coded ranges (map sound ts))
    where
      sound : ResolvedTerm → Sound
      sound t = (t, terms-are-coded t)

      all-same : (ts : List ResolvedTerm) → map term (map sound ts) ≡ ts
      all-same [] = refl
      all-same (t ∷ ts) = ap (λ us. t ∷ us) (all-same ts)
