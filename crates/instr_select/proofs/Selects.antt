-- The code of every term leaves its value, and is a block within its weight.
use Rattle.std.proofs.Common.{◌≡◌, ℕ, zero, suc, ◌+◌, ◌*◌, ◌≤◌, ℤ, pos, true, List, [], ◌∷◌, ◌++◌, length, map, Option, Some, None, refl, sym, ap, ◌∙◌, subst, arith}
use Rattle.std.{specs.{Prelude.{is_some, slice_get, slice_index_or}, List.{list_all}, Option.{option_map, unwrap_or}}, proofs.lemmas.{Bool.{and_parts}, List.Folds.{list_all-map}}}
use Rattle.asm_tree.specs.declared.decl.Kind.{Kind}
use Rattle.asm_tree.specs.declared.decl.Kind.TheVariants as kinds
use Rattle.asm_names.specs.{declared.{program.{Resolved.{Resolved}}, resolved_term.ResolvedTerm.{ResolvedTerm}}}
use Rattle.state_space.specs.{declared.signature.{Range.{Range}, Signature.{Signature}}, Locations.{is_input, is_state, range_of, signatures_of}, Sizes.{padded_count}}
use Rattle.state_space.proofs.Widening.{few_from}
use Rattle.asm_ranges.specs.{Ranges.{Scope, inside, just, words}, Values.{read, value}}
use Rattle.asm_ranges.specs.Values.{defined, lie_in}
use Rattle.block_code.specs.Effect.{reg_at}
use Rattle.block_code.specs.Leads.{IsEntered, Leads}
use Rattle.block_code.specs.Moment.{Moment}
use Rattle.block_code.specs.Place.{IsMachine}
use Rattle.block_code.proofs.{Leads.{leads-more}, Silent.{keeps-regs}}
use Rattle.rv_isa.specs.declared.instr.Instr.{Instr}
use Rattle.trap_model.specs.Map.{ram_base}
use Rattle.state_layout.specs.Map.{Placement, access_at, array_start, decoded}
use Rattle.mask_guard.specs.Mask.{address_of, decode_value, load_cell, shift_of, word_of}
use Rattle.bound_count.specs.TermWeights.{arguments_registers, term_registers}
use Rattle.instr_select.specs.{Binders.{binder_domain}, Short.{is_short}, SelectLaw.{IsHeld, IsMapped, TermsAreBlocks, TermsLeaveValues}, Terms.{cell_line, index_plan, is_static, term_plan}}
use Rattle.instr_select.proofs.Entered.{leaves}
use Rattle.instr_select.proofs.Mapped.{few-held, narrow-domain, signature-narrow}
use Rattle.instr_select.proofs.{Index.{AreNarrow, IsNarrow, placed}, Instructions.{IsAt, LineLeads}, Operators.{Becomes}, ReadLines.{binder-leads, input-leads, state-leads}, ShortValues.{short-values}, TableLines.{table-leads}, TermCode.{terms-are-coded}, Values.{BindersLead, ReadsLead, SignaturesAreSmall, ShortValues, Sound, index-leads, term, terms-leave, worths-same}}

module _ (rom : List ℕ) (size : ℕ) (machine : IsMachine rom size) (program : Resolved) (placement : Placement) (tables : ℕ) (ram : List ℕ) (inputs env : List ℤ) (scope : Scope)
    (mapped : IsMapped program placement) (held : IsHeld rom size program placement tables ram inputs env scope) where
  pub few-padded : (fun : ℕ) (signature : Signature) → slice_get placement.signatures fun ≡ Some signature → (kind : Kind) → signature.kind ≡ kind → padded_count signature.args ≤ 524288
  few-padded fun signature here kinds.Static k =
      let room = held.words.room in let small = machine.rom_small in few_from is_static placement.signatures fun signature (omega arith) here (ap is_static k)
  few-padded fun signature here kinds.Controlled k = few-held program placement mapped fun signature here (ap is_static k)
  few-padded fun signature here kinds.Output k = few-held program placement mapped fun signature here (ap is_static k)
  few-padded fun signature here kinds.Input k = few-held program placement mapped fun signature here (ap is_static k)

  small-signatures : SignaturesAreSmall rom size program placement tables ram (decoded placement ram) inputs env scope
  small-signatures fun signature here = ((signature-narrow program placement mapped fun signature here).0, few-padded fun signature here signature.kind refl)

  binders-lead : BindersLead rom size program placement tables ram (decoded placement ram) inputs env scope
  binders-lead b k q low few address s at e =
      let some = (and_parts (inside (unwrap_or (scope b) (just (pos 0))) words) (is_some (scope b)) k).1 in
      binder-leads rom size machine program placement tables ram inputs env mapped.signatures held.inside b (slice_index_or env b (pos 0)) (held.few b some) (held.slots b some)
      (λ range r. narrow-binder range (binder_domain program.rule b) refl r) q low few address s at e
    where
      narrow-binder : (range : Range) (o : Option ℕ) → binder_domain program.rule b ≡ o → option_map (range_of program.domains) o ≡ Some range → IsNarrow range
      narrow-binder range None d r = absurd cc
      narrow-binder range (Some n) d r = let same : range_of program.domains n ≡ range = cc in subst IsNarrow same (narrow-domain program.domains n mapped.domains (mapped.loops b n d))

  reads-lead : ReadsLead rom size program placement tables ram (decoded placement ram) inputs env scope
  reads-lead fun signature here vs lies q low few address s at e holds = by_kind signature.kind refl at
    where
      narrow : IsNarrow signature.codomain
      narrow = (signature-narrow program placement mapped fun signature here).1

      line : Kind → List Instr
      line kind = cell_line placement tables fun kind (suc q) ++ decode_value (suc q) signature.codomain.size signature.codomain.lo

      Goal : List Instr → Type 0
      Goal instrs = LineLeads rom address instrs s (Becomes size (address + 4 * length instrs) (suc q) (word_of (read program (decoded placement ram) inputs fun vs)))

      state : signature.kind ≡ signature.kind → is_state signature.kind ≡ true → IsAt size address 14 s
          → Goal ((address_of (suc q) (ram_base + array_start placement fun) (shift_of (access_at placement fun)) ++ load_cell (access_at placement fun) (suc q)) ++ decode_value (suc q) signature.codomain.size signature.codomain.lo)
      state same kind at = state-leads rom size machine program placement tables ram inputs env mapped.signatures held.inside held.kept fun signature here narrow vs lies q low few address s e holds kind at

      by_kind : (kind : Kind) → signature.kind ≡ kind → IsAt size address (length (line kind)) s → Goal (line kind)
      by_kind kinds.Controlled k at = state refl (ap is_state k) at
      by_kind kinds.Output k at = state refl (ap is_state k) at
      by_kind kinds.Input k at = input-leads rom size machine program placement tables ram inputs env mapped.signatures held.inside held.kept fun signature here narrow vs lies q low few address s e holds (ap is_input k) at
      by_kind kinds.Static k at =
          table-leads rom size machine program placement tables mapped.signatures held.words fun signature here (ap is_static k) narrow vs lies (decoded placement ram) inputs q low few address s holds at

  shorts : ShortValues rom size program placement tables ram (decoded placement ram) inputs env scope
  shorts t d k = short-values program (decoded placement ram) inputs env scope held.reads held.bound t d (subst (λ signatures. is_short signatures scope t ≡ true) mapped.signatures k)

  pub term-leaves : (term : ResolvedTerm) → defined program (decoded placement ram) inputs env term ≡ true → is_short (signatures_of program) scope term ≡ true
      → (q address : ℕ) (s : Moment) → 5 ≤ suc q → suc q + term_registers term ≤ 21 → IsEntered rom size address (term_plan program placement tables term (suc q)) s → s.hart.ram ≡ ram
      → Leads rom size address (term_plan program placement tables term (suc q)) (λ s'. reg_at (suc q) s' ≡ word_of (value program (decoded placement ram) inputs env term)) s
  term-leaves term d k q address s low high e same =
      let k' = subst (λ signatures. is_short signatures scope term ≡ true) (sym mapped.signatures) k in
      terms-leave rom size program placement tables ram (decoded placement ram) inputs env scope shorts binders-lead reads-lead small-signatures mapped.signatures term d k' (shorts term d k') q low high address s e same

  -- the code of arguments leaves their index, where each lies in its domain
  abbrev pub IndexLeaves : List Range → List ResolvedTerm → Type 0
  IndexLeaves ranges args =
      list_all (defined program (decoded placement ram) inputs env) args ≡ true → list_all (is_short placement.signatures scope) args ≡ true
      → lie_in ranges (map (value program (decoded placement ram) inputs env) args) ≡ true
      → (q : ℕ) → 5 ≤ suc q → suc q + arguments_registers 0 (map term_registers args) ≤ 21
      → (address : ℕ) (s : Moment) → IsEntered rom size address (index_plan ranges (map (term_plan program placement tables) args) (suc q)) s → s.hart.ram ≡ ram
      → Leads rom size address (index_plan ranges (map (term_plan program placement tables) args) (suc q))
      (λ s'. reg_at (suc q) s' ≡ placed ranges (map (value program (decoded placement ram) inputs env) args)) s

  pub index-leaves : (ranges : List Range) (args : List ResolvedTerm) → AreNarrow ranges → padded_count ranges ≤ 524288 → IndexLeaves ranges args
  index-leaves ranges args n few = subst (IndexLeaves ranges) (all-same args) (λ d k lies q low high address s e same. by_sound (map sound args) d k lies q low high address s e same)
    where
      Given : Type 0
      Given = Sound rom size program placement tables ram (decoded placement ram) inputs env scope

      given : Given → ResolvedTerm
      given = term rom size program placement tables ram (decoded placement ram) inputs env scope

      sound : ResolvedTerm → Given
      sound t = (t, terms-leave rom size program placement tables ram (decoded placement ram) inputs env scope shorts binders-lead reads-lead small-signatures mapped.signatures t)

      all-same : (ts : List ResolvedTerm) → map given (map sound ts) ≡ ts
      all-same [] = refl
      all-same (t ∷ ts) = ap (λ us. t ∷ us) (all-same ts)

      by_sound : (ts : List Given) → IndexLeaves ranges (map given ts)
      by_sound ts d k lies q low high address s e same =
          let state : List ℤ = decoded placement ram in
          let worths : map (value program state inputs env) (map given ts) ≡ _ = sym (worths-same rom size program placement tables ram state inputs env scope shorts binders-lead reads-lead small-signatures mapped.signatures (map given ts)) in
          leads-more rom size address (index_plan ranges (map (term_plan program placement tables) (map given ts)) (suc q)) s _ _
          (index-leads rom size program placement tables ram state inputs env scope shorts binders-lead reads-lead small-signatures mapped.signatures ranges ts n
          (list_all-map _ _ (map given ts) ∙ d) (list_all-map _ _ (map given ts) ∙ k) (subst (λ vs. lie_in ranges vs ≡ true) worths lies) q low high few address s e same)
          (λ s' does good. good ∙ ap (placed ranges) (sym worths))

pub terms-leave-values : TermsLeaveValues
terms-leave-values rom size program placement tables ram inputs env scope term mapped held d k zero address s low high e same = absurd (omega arith)
terms-leave-values rom size program placement tables ram inputs env scope term mapped held d k (suc q) address s low high e same =
    let coded = terms-are-coded program placement tables term (suc q) (suc q) (omega arith) (omega arith) in
    leaves rom size address (term_plan program placement tables term (suc q)) s (suc q) _ (omega arith) e coded.0
    (term-leaves rom size e.machine program placement tables ram inputs env scope mapped held term d k q address s low high e same)

pub terms-are-blocks : TermsAreBlocks
terms-are-blocks program placement tables term register few =
    let coded = terms-are-coded program placement tables term register register (omega arith) few in
    let steady = coded.0.steady in let short = coded.1 in
    record {
      block = coded.0.block;
      holds = coded.0.holds;
      storeless = coded.0.storeless;
      words = coded.1;
      ticks = omega arith;
      kept = keeps-regs 5 register few (term_plan program placement tables term register) coded.0.writes;
    }
