-- The blocks of a term and of an index.
use Rattle.std.proofs.Common.{◌≡◌, ℕ, zero, suc, ◌+◌, ◌≤◌, ℤ, Bool, true, false, List, map, Option, Some, refl, sym, ap, ◌∙◌, subst, arith}
use Rattle.std.{specs.{Prelude.{slice_get}, List.{list_all}, Option.{unwrap_or}}, proofs.lemmas.List.Folds.{list_all-map}}
use Rattle.asm_names.specs.declared.{program.Resolved.{Resolved}, resolved_term.ResolvedTerm.{ResolvedTerm}}
use Rattle.state_space.specs.{declared.signature.{Range.{Range}, Signature.{Signature}}, Sizes.{padded_count}}
use Rattle.block_code.specs.{Block.{IsBlock, IsInRange}, Effect.{Holds, reg_at}, Leads.{KeepsRegs}, Plan.{If, Line, Loop, Plan, Scan, Seq, entry, full, len}}
use Rattle.block_code.specs.Silent.{IsSilent, IsStorelessPlan, Respects}
use Rattle.block_code.proofs.{Leads.{leads-more}, Silent.{keeps-ram, keeps-regs}}
use Rattle.asm_ranges.specs.Values.{value}
use Rattle.state_layout.specs.Map.{Placement, decoded}
use Rattle.bound_count.specs.TermWeights.{arguments_registers, term_registers, term_weight}
use Rattle.instr_select.specs.{SelectLaw.{IsTermBlock}, Short.{is_short}, Terms.{arguments_plan, binders_below, is_static, term_plan}, Writing.{AreWritable, IsReady, IsWritable, LeavesBelow, LeavesIndex, LeavesValue, index_weight}}
use Rattle.instr_select.proofs.{Index.{placed, placed-number}, Mapped.{signature-narrow}, Selects.{few-padded, index-leaves, terms-are-blocks, terms-leave-values}, Silences.{indices-stay-inside, quiet-indices, terms-are-silent}, TermCode.{IsTermCode, indices-are-coded}}

-- a block without loops has no longer way from inside than from its top
pub entry-few : (tree : Plan) → IsStorelessPlan tree → entry tree ≤ full tree
entry-few (Line instrs) s = omega arith
entry-few (Seq first second) s = let a = entry-few first s.0 in let b = entry-few second s.1 in omega arith
entry-few (If test then_part else_part) s = let a = entry-few then_part s.0 in let b = entry-few else_part s.1 in omega arith
entry-few (Loop count slot body) s = absurd s
entry-few (Scan count slot guard test found none) s = absurd s

ranged : (tree : Plan) → IsBlock tree → IsStorelessPlan tree → len tree ≤ 262144 → full tree ≤ 262144 → IsInRange tree
ranged tree block storeless words ticks = let e = entry-few tree storeless in record { block = block; short = omega arith; full = omega arith; entry = omega arith }

module _ (program : Resolved) (placement : Placement) (tables : ℕ) (term : ResolvedTerm) (register : ℕ) (ready : IsReady program placement) (writable : IsWritable program term register) where
  few : register ≤ 21
  few = let r = writable.registers in omega arith

  pub coded : IsTermBlock program placement tables term register
  coded = terms-are-blocks program placement tables term register few

  pub in-range : term_weight term ≤ 262144 → IsInRange (term_plan program placement tables term register)
  in-range weight = let words = coded.words in let ticks = coded.ticks in ranged (term_plan program placement tables term register) coded.block coded.storeless (omega arith) (omega arith)

  pub leaves-value : 5 ≤ register → LeavesValue program placement tables term register (term_plan program placement tables term register)
  leaves-value low rom size address s inputs env scope held d k e =
      terms-leave-values rom size program placement tables s.hart.ram inputs env scope term ready.mapped held d k register address s low writable.registers e refl

  pub is-silent : 5 ≤ register → IsSilent (term_plan program placement tables term register)
  is-silent low = terms-are-silent program placement tables term ready.mapped ready.small writable.below register low writable.registers

module _ (program : Resolved) (placement : Placement) (tables : ℕ) (ranges : List Range) (args : List ResolvedTerm) (register : ℕ) (writable : AreWritable program args 0 register) where
  abbrev index : ℕ → Plan
  index = arguments_plan program placement tables ranges args

  few-registers : register ≤ 21
  few-registers = let r = writable.registers in omega arith

  index-is : IsTermCode register (index register) × (len (index register) ≤ index_weight args)
  index-is = indices-are-coded program placement tables ranges args register register (omega arith) few-registers

  pub index-storeless : IsStorelessPlan (index register)
  index-storeless = index-is.0.storeless

  pub index-holds : (size : ℕ) → Holds size (index register)
  index-holds = index-is.0.holds

  pub index-kept : Respects (KeepsRegs 5 register) (index register)
  index-kept = keeps-regs 5 register few-registers (index register) index-is.0.writes

  pub index-len : len (index register) ≤ index_weight args
  index-len = index-is.1

  pub index-full : full (index register) ≤ index_weight args
  index-full = let steady = index-is.0.steady in let words = index-len in omega arith

  pub index-in-range : index_weight args ≤ 262144 → IsInRange (index register)
  index-in-range weight = let words = index-len in let ticks = index-full in ranged (index register) index-is.0.block index-storeless (omega arith) (omega arith)

  pub index-silent : IsReady program placement → 5 ≤ register → IsSilent (index register)
  index-silent ready low = by register low writable.registers
    where
      by : (r : ℕ) → 5 ≤ r → r + arguments_registers 0 (map term_registers args) ≤ 21 → IsSilent (index r)
      by zero low high = absurd (omega arith)
      by (suc q) low high = quiet-indices program placement tables ready.mapped ready.small ranges args (sym (list_all-map (λ (below : Bool). below) (binders_below program.binders) args) ∙ writable.below) q low high

pub index-below : (program : Resolved) (placement : Placement) (tables : ℕ) (args : List ResolvedTerm) (register : ℕ) → AreWritable program args 0 register → IsReady program placement → 5 ≤ register
    → (fun : ℕ) (signature : Signature) → slice_get placement.signatures fun ≡ Some signature → is_static signature.kind ≡ false
    → LeavesBelow register (padded_count signature.args) (arguments_plan program placement tables signature.args args register)
index-below program placement tables args register writable ready low fun signature here held rom size address s s' e d =
    indices-stay-inside rom size program placement tables fun signature args ready.mapped here held register address s s' low writable.registers e d

pub leaves-index : (program : Resolved) (placement : Placement) (tables : ℕ) (args : List ResolvedTerm) (register : ℕ) → AreWritable program args 0 register → IsReady program placement → 5 ≤ register
    → (fun : ℕ) (signature : Signature) → slice_get placement.signatures fun ≡ Some signature
    → LeavesIndex program placement tables signature.args args register (arguments_plan program placement tables signature.args args register)
leaves-index program placement tables args zero writable ready low fun signature here rom size address s inputs env scope given d k lies e = absurd (omega arith)
leaves-index program placement tables args (suc q) writable ready low fun signature here rom size address s inputs env scope given d k lies e =
    let tree : Plan = arguments_plan program placement tables signature.args args (suc q) in
    let vs : List ℤ = map (value program (decoded placement s.hart.ram) inputs env) args in
    leads-more rom size address tree s (λ m. reg_at (suc q) m ≡ placed signature.args vs) _
    (index-leaves rom size e.machine program placement tables s.hart.ram inputs env scope ready.mapped given signature.args args (signature-narrow program placement ready.mapped fun signature here).0
    (few-padded rom size e.machine program placement tables s.hart.ram inputs env scope ready.mapped given fun signature here signature.kind refl)
    d (subst (λ signatures. list_all (is_short signatures scope) args ≡ true) (sym ready.mapped.signatures) k) lies q low writable.registers address s e refl)
    (λ m does index. (
      (keeps-ram tree (index-storeless program placement tables signature.args args (suc q) writable)).does rom size address s m e does,
      index ∙ sym (ap (λ (o : Option ℕ). unwrap_or o 0) (placed-number signature.args vs lies)),
    ))
