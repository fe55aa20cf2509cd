-- The code of a term leaves its value.
use Rattle.std.proofs.Common.{◌≡◌, ◌≢◌, ℕ, zero, suc, ◌+◌, ◌*◌, ◌^◌, ◌<◌, ◌≤◌, max, ℤ, pos, Bool, true, false, not, cond, ◌&&◌, List, [], ◌∷◌, length, map, Option, Some, None, refl, sym, ap, ◌∙◌, subst, arith, length-append}
use Rattle.std.{specs.{Prelude.{nat_lt, slice_get, slice_index_or}, List.{list_all}, Int.{int_max, int_min}}, proofs.lemmas.Bool.{and_parts}, proofs.lemmas.Bool.Decides.{nat_tests}}
use Rattle.asm_tree.specs.declared.term.Op.{Op}
use Rattle.asm_tree.specs.declared.term.Op.TheVariants as ops
use Rattle.asm_names.specs.declared.{program.{Resolved.{Resolved}, Interval.{Interval}}, resolved_term.ResolvedTerm.{ResolvedTerm, ResolvedTerm-F, roll-ResolvedTerm, ind-ResolvedTerm, map-ResolvedTerm}}
use Rattle.state_space.specs.{declared.signature.{Range.{Range}, Signature.{Signature}}, Decoding.{padded}, Codomains.{just, whole}, Locations.{signatures_of}, Sizes.{padded_count}}
use Rattle.state_space.proofs.Numbers.{block-below}
use Rattle.asm_ranges.specs.{Ranges.{Part, Scope, inside, range_by, words}, Values.{binary, holds, read, truth, value, value_by}}
use Rattle.asm_ranges.proofs.Levels.{value_at}
use Rattle.rv_isa.specs.declared.instr.Instr.{Instr}
use Rattle.asm_ranges.specs.Values.{defined as defined_in, defined_by, lie_in, takes_args}
use Rattle.block_code.specs.Effect.{reg_at}
use Rattle.block_code.specs.Leads.{IsEntered, Leads}
use Rattle.block_code.specs.Moment.{Moment}
use Rattle.block_code.specs.Plan.{If, Line, Plan, Seq, len}
use Rattle.block_code.specs.Sequence.{load_immediate}
use Rattle.block_code.proofs.Leads.{leads-if, leads-line, leads-more, leads-nil, leads-seq}
use Rattle.block_code.proofs.Silent.{keeps-ram}
use Rattle.block_code.proofs.Sequences.{immediate-loaded}
use Rattle.block_code.proofs.Counter.{reg-same}
use Rattle.state_layout.specs.Map.{Placement, slot}
use Rattle.mask_guard.specs.Mask.{decode_value, word_of}
use Rattle.bound_count.specs.TermWeights.{arguments_registers, term_registers, term_registers_by}
use Rattle.instr_select.specs.{Binders.{binder_range}, Short.{is_short, part_range, short_by, short_parts}, Operators.{denied, denied_word, greater, greater_word, lesser, lesser_word, operated, operated_word}, Terms.{argument_line, binder_line, cell_line, further_plan, index_plan, joined_line, read_line, read_plan, term_plan, term_plan_by}}
use Rattle.instr_select.proofs.Arithmetic.{IsShort, denied-words, greater-words, lesser-words, operated-words, set-word, word-below}
use Rattle.instr_select.specs.SelectLaw.{HasValue}
use Rattle.instr_select.proofs.Entered.{enter-else, enter-first, enter-second, enter-then, entered-at, if-room, leaves, lined, numbered}
use Rattle.instr_select.proofs.Index.{AreNarrow, argument-leads, joined-leads, lies-below, line-more, padded-enough, place_in, placed}
use Rattle.instr_select.proofs.Instructions.{IsAt, LineLeads, valid-written}
use Rattle.instr_select.proofs.Levels.{defined_at, measured, plan_at, registers_at, short_at, told}
use Rattle.instr_select.proofs.Operators.{Becomes, denied-leads, greater-leads, lesser-leads, operated-leads}
use Rattle.instr_select.proofs.Registers.{arguments-some, registers-some}
use Rattle.instr_select.proofs.TermCode.{index-line, indices-are-coded, joining-line, terms-are-coded}

-- an array of locations has room for one
pub padded-some : (ranges : List Range) → AreNarrow ranges → 1 ≤ padded_count ranges
padded-some [] n = omega arith
padded-some (range ∷ ranges) n =
    let a = padded-some ranges n.1 in let b = padded-enough range.size in let c = n.0.some in
    product (padded range.size) (padded_count ranges) (omega arith) a
  where
    product : (x y : ℕ) → 1 ≤ x → 1 ≤ y → 1 ≤ x * y
    product (suc x) (suc y) h k = omega arith
    product zero y h k = absurd (omega arith)
    product (suc x) zero h k = absurd (omega arith)

module _ (rom : List ℕ) (size : ℕ) (program : Resolved) (placement : Placement) (tables : ℕ) (ram : List ℕ) (state inputs env : List ℤ) (scope : Scope) where
  abbrev plan : ResolvedTerm → ℕ → Plan
  plan = term_plan program placement tables

  abbrev worth : ResolvedTerm → ℤ
  worth = value program state inputs env

  abbrev defined : ResolvedTerm → Bool
  defined = defined_in program state inputs env

  abbrev short : ResolvedTerm → Bool
  short = is_short placement.signatures scope

  -- plans that leave a value, where it is defined and short
  abbrev pub Leaves : (defined short : Bool) → ℤ → ℕ → (ℕ → Plan) → Type 0
  Leaves defined short value registers plans =
      defined ≡ true → short ≡ true → IsShort value → (q : ℕ) → 5 ≤ suc q → suc q + registers ≤ 21
      → (address : ℕ) (s : Moment) → IsEntered rom size address (plans (suc q)) s → s.hart.ram ≡ ram
      → Leads rom size address (plans (suc q)) (λ s'. reg_at (suc q) s' ≡ word_of value) s

  -- what is read at binders and at functions
  abbrev pub BindersLead : Type 0
  BindersLead = (b : ℕ) → short_by placement.signatures scope (ResolvedTerm-F.Var b) ≡ true → (q : ℕ) → 5 ≤ suc q → suc q ≤ 20
      → (address : ℕ) (s : Moment) → IsAt size address (length (binder_line (binder_range program b) (slot placement b) (suc q))) s → s.hart.ram ≡ ram
      → LineLeads rom address (binder_line (binder_range program b) (slot placement b) (suc q)) s
      (Becomes size (address + 4 * length (binder_line (binder_range program b) (slot placement b) (suc q))) (suc q) (word_of (slice_index_or env b (pos 0))))

  abbrev pub ReadsLead : Type 0
  ReadsLead = (fun : ℕ) (signature : Signature) → slice_get placement.signatures fun ≡ Some signature → (vs : List ℤ) → lie_in signature.args vs ≡ true → (q : ℕ) → 5 ≤ suc q → suc q ≤ 20
      → (address : ℕ) (s : Moment) → IsAt size address (length (read_line placement tables fun signature (suc q))) s → s.hart.ram ≡ ram → reg_at (suc q) s ≡ placed signature.args vs
      → LineLeads rom address (read_line placement tables fun signature (suc q)) s
      (Becomes size (address + 4 * length (read_line placement tables fun signature (suc q))) (suc q) (word_of (read program state inputs fun vs)))

  -- the domains of functions are small, and so is the room that the arguments of one take
  abbrev pub SignaturesAreSmall : Type 0
  SignaturesAreSmall = (fun : ℕ) (signature : Signature) → slice_get placement.signatures fun ≡ Some signature → AreNarrow signature.args × (padded_count signature.args ≤ 524288)

  abbrev pub ShortValues : Type 0
  ShortValues = (t : ResolvedTerm) → defined t ≡ true → short t ≡ true → IsShort (worth t)

  abbrev pub LeavesValue : ResolvedTerm → Type 0
  LeavesValue t = Leaves (defined t) (short t) (worth t) (term_registers t) (plan t)

  abbrev pub Sound : Type 0
  Sound = (t : ResolvedTerm) × LeavesValue t

  abbrev pub term : Sound → ResolvedTerm
  term s = s.0

  abbrev Layer : ResolvedTerm-F ResolvedTerm → Type 0
  Layer x = Leaves
      (defined_by program state inputs env (map-ResolvedTerm ResolvedTerm Part (told program state inputs env) x))
      (short_by placement.signatures scope (map-ResolvedTerm ResolvedTerm Part (measured placement.signatures scope) x))
      (value_by program state inputs env (map-ResolvedTerm ResolvedTerm ℤ worth x))
      (term_registers_by (map-ResolvedTerm ResolvedTerm ℕ term_registers x))
      (term_plan_by program placement tables (map-ResolvedTerm ResolvedTerm (ℕ → Plan) plan x))

  parts-of : (y : ResolvedTerm-F Part) → short_by placement.signatures scope y ≡ true → short_parts placement.signatures scope y ≡ true
  parts-of y k = (and_parts (inside (range_by placement.signatures scope (map-ResolvedTerm Part Interval (part_range placement.signatures scope) y)) words) (short_parts placement.signatures scope y) k).1

  -- the parts of a short term are short
  parts-short : (x : ResolvedTerm-F Sound) → short_by placement.signatures scope (map-ResolvedTerm ResolvedTerm Part (measured placement.signatures scope) (map-ResolvedTerm Sound ResolvedTerm term x)) ≡ true
      → short_parts placement.signatures scope (map-ResolvedTerm ResolvedTerm Part (measured placement.signatures scope) (map-ResolvedTerm Sound ResolvedTerm term x)) ≡ true
  parts-short x k = parts-of (map-ResolvedTerm ResolvedTerm Part (measured placement.signatures scope) (map-ResolvedTerm Sound ResolvedTerm term x)) k

  module _ (shorts : ShortValues) (binders : BindersLead) (reads : ReadsLead) (small_signatures : SignaturesAreSmall) (same_signatures : placement.signatures ≡ signatures_of program) where
    -- the value of a part, with all that its code leaves alone
    part : (t : Sound) → defined t.0 ≡ true → short t.0 ≡ true → (q : ℕ) → 5 ≤ suc q → suc q + term_registers t.0 ≤ 21
        → (address : ℕ) (s : Moment) → IsEntered rom size address (plan t.0 (suc q)) s → s.hart.ram ≡ ram
        → Leads rom size address (plan t.0 (suc q)) (HasValue (suc q) (worth t.0) s) s
    part t d k q low high address s e same =
        leaves rom size address (plan t.0 (suc q)) s (suc q) (worth t.0) (omega arith) e ((terms-are-coded program placement tables t.0 (suc q) (suc q) (omega arith) (omega arith)).0)
        (t.1 d k (shorts t.0 d k) q low high address s e same)

    -- two parts, one register behind the other, and then a line on both
    both : (l r : Sound) (line : List Instr) (x : ℕ → ℕ → ℕ) (v : ℤ) → defined l.0 ≡ true → short l.0 ≡ true → defined r.0 ≡ true → short r.0 ≡ true
        → (q : ℕ) → 5 ≤ suc q → suc q + max (term_registers l.0) (1 + term_registers r.0) ≤ 21 → 0 < length line
        → ((address : ℕ) (s : Moment) → IsAt size address (length line) s
        → LineLeads rom address line s (Becomes size (address + 4 * length line) (suc q) (x (reg_at (suc q) s) (reg_at (suc (suc q)) s))))
        → x (word_of (worth l.0)) (word_of (worth r.0)) ≡ word_of v
        → (address : ℕ) (s : Moment) → IsEntered rom size address (Seq (plan l.0 (suc q)) (Seq (plan r.0 (suc (suc q))) (Line line))) s → s.hart.ram ≡ ram
        → Leads rom size address (Seq (plan l.0 (suc q)) (Seq (plan r.0 (suc (suc q))) (Line line))) (λ s'. reg_at (suc q) s' ≡ word_of v) s
    both l r line x v dl kl dr kr q low high some leads computes address s e same =
        leads-seq rom size address (plan l.0 (suc q)) (Seq (plan r.0 (suc (suc q))) (Line line)) s _ _
        (part l dl kl q low (omega arith) address s (enter-first rom size address _ _ s e) same)
        (λ mid b.
        let e1 = enter-second rom size address _ _ s e mid b in
        leads-seq rom size _ (plan r.0 (suc (suc q))) (Line line) mid _ _
        (part r dr kr (suc q) (omega arith) (omega arith) _ mid (enter-first rom size _ _ _ mid e1) (b.good.ram ∙ same))
        (λ mid2 b2.
        let e2 = enter-second rom size _ _ _ mid e1 mid2 b2 in
        let first : reg_at (suc q) mid2 ≡ word_of (worth l.0) = b2.good.kept (suc q) low (omega arith) ∙ b.good.holds in
        let second : reg_at (suc (suc q)) mid2 ≡ word_of (worth r.0) = b2.good.holds in
        lined rom size _ line mid2 (suc q) _ v (leads _ mid2 (entered-at rom size _ line mid2 e2 some))
        (ap (λ a. x a (reg_at (suc (suc q)) mid2)) first ∙ ap (x (word_of (worth l.0))) second ∙ computes)))

    immediate-leads : (x : ℕ) → x < 2 ^ 32 → (q : ℕ) → suc q < 32 → (address : ℕ) (s : Moment) → IsEntered rom size address (Line (load_immediate (suc q) x)) s
        → Leads rom size address (Line (load_immediate (suc q) x)) (λ s'. reg_at (suc q) s' ≡ x) s
    immediate-leads x small q few address s e =
        let at = entered-at rom size address _ s e (omega arith) in
        let room = at.room in
        leads-line rom size address _ s _ _ (immediate-loaded rom size address (suc q) x s (record { valid = e.valid; here = e.here; room = omega arith }) few small)
        (record { valid = valid-written size (address + 8) (suc q) x s e.valid (omega arith) small; here = refl; good = reg-same size (address + 8) q x s e.valid few })

    -- a register that holds the word of a value is 0 exactly where the value does not hold
    set-holds : (x : ℕ) (v : ℤ) → x ≡ word_of v → IsShort v → x ≢ 0 → holds v ≡ true
    set-holds x v e f h =
        let set : nat_lt 0 x ≡ true = grind (arith, nat_tests) in
        sym (ap (nat_lt 0) e ∙ set-word v f) ∙ set

    clear-fails : (x : ℕ) (v : ℤ) → x ≡ word_of v → IsShort v → x ≡ 0 → holds v ≡ false
    clear-fails x v e f h = sym (ap (nat_lt 0) e ∙ set-word v f) ∙ ap (nat_lt 0) h

    operated-some : (op : Op) (r : ℕ) → 0 < length (operated op r)
    operated-some ops.Add r = omega arith
    operated-some ops.Sub r = omega arith
    operated-some ops.Lt r = omega arith
    operated-some ops.Gt r = omega arith
    operated-some ops.And r = omega arith
    operated-some ops.Or r = omega arith
    operated-some ops.Eq r = omega arith
    operated-some ops.Ne r = omega arith
    operated-some ops.Le r = omega arith
    operated-some ops.Ge r = omega arith

    bound-some : (range : Option Range) (offset r : ℕ) → 0 < length (binder_line range offset r)
    bound-some None offset r = omega arith
    bound-some (Some range) offset r = omega arith

    -- ---- the index of arguments
    abbrev pub all_defined : List Sound → Bool
    all_defined ts = list_all (λ (p : Part). p.1) (map (told program state inputs env) (map term ts))

    abbrev pub all_short : List Sound → Bool
    all_short ts = list_all (λ (p : Part). p.1) (map (measured placement.signatures scope) (map term ts))

    abbrev pub worths : List Sound → List ℤ
    worths ts = map (λ (p : Part). worth p.0) (map (told program state inputs env) (map term ts))

    pub worths-same : (ts : List ResolvedTerm) → map (λ (p : Part). worth p.0) (map (told program state inputs env) ts) ≡ map worth ts
    worths-same [] = refl
    worths-same (t ∷ ts) = ap (λ vs. worth t ∷ vs) (worths-same ts)

    further-leads : (ranges : List Range) (ts : List Sound) (acc a : ℕ) → AreNarrow ranges → all_defined ts ≡ true → all_short ts ≡ true → lie_in ranges (worths ts) ≡ true
        → (q : ℕ) → 5 ≤ suc q → suc q + arguments_registers 1 (map term_registers (map term ts)) ≤ 21 → acc < a → a * padded_count ranges ≤ 524288
        → (address : ℕ) (s : Moment) → IsEntered rom size address (further_plan ranges (map plan (map term ts)) (suc q)) s → s.hart.ram ≡ ram → reg_at (suc q) s ≡ acc
        → Leads rom size address (further_plan ranges (map plan (map term ts)) (suc q)) (λ s'. reg_at (suc q) s' ≡ acc * padded_count ranges + placed ranges (worths ts)) s
    further-leads [] [] acc a n d k lies q low high below few address s e same so_far =
        leads-nil rom size address s _ e.valid e.here (so_far ∙ omega arith)
    further-leads [] (t ∷ ts) acc a n d k lies q low high below few address s e same so_far = absurd cc
    further-leads (range ∷ ranges) [] acc a n d k lies q low high below few address s e same so_far = absurd cc
    further-leads (range ∷ ranges) (t ∷ ts) acc a n d k lies q low high below few address s e same so_far =
        let p = and_parts (defined t.0) (all_defined ts) d in
        let m = and_parts (short t.0) (all_short ts) k in
        let l = and_parts (inside (just (worth t.0)) (whole range)) (lie_in ranges (worths ts)) lies in
        let joined = joined_line range (suc q) in
        let rest = further_plan ranges (map plan (map term ts)) (suc q) in
        let v = worth t.0 in
        let more = acc * padded range.size + place_in range v in
        let one = registers-some t.0 in
        let bounds = grows acc a (padded range.size) (padded_count ranges) (place_in range v) below (let x = lies-below range v l.0 in let y = padded-enough range.size in omega arith) (padded-some ranges n.1) few in
        leads-seq rom size address (plan t.0 (suc (suc q))) (Seq (Line joined) rest) s _ _
        (part t p.0 m.0 (suc q) (omega arith) (omega arith) address s (enter-first rom size address _ _ s e) same)
        (λ mid b.
        let e1 = enter-second rom size address _ _ s e mid b in
        let at = address + 4 * len (plan t.0 (suc (suc q))) in
        let line = leads-more rom size at (Line joined) mid _ _
        (numbered rom size at joined mid (suc q) more more
        (joined-leads rom size at q acc range v mid low (omega arith) n.0 (shorts t.0 p.0 m.0) l.0 b.good.holds (b.good.kept (suc q) low (omega arith) ∙ so_far) (omega (arith, bounds.0))
        (entered-at rom size at joined mid (enter-first rom size at _ _ mid e1) (omega arith))) refl)
        (λ s' does good. (good, (keeps-ram (Line joined) (joining-line 5 (suc q) (omega arith) (omega arith) range).storeless).does rom size at mid s' (enter-first rom size at _ _ mid e1) does)) in
        leads-seq rom size at (Line joined) rest mid (λ s'. (reg_at (suc q) s' ≡ more) × (s'.hart.ram ≡ mid.hart.ram)) _ line
        (λ mid2 b2.
        let e2 = enter-second rom size at _ _ mid e1 mid2 b2 in
        leads-more rom size _ rest mid2 _ _
        (further-leads ranges ts more (a * padded range.size) n.1 p.1 m.1 l.1 q low (omega arith) bounds.1 (omega (arith, bounds.2)) _ mid2 e2 (b2.good.1 ∙ b.good.ram ∙ same) b2.good.0)
        (λ s' does good. good ∙ regrouped acc (padded range.size) (place_in range v) (padded_count ranges) (placed ranges (worths ts)))))
      where
        widens : (x n : ℕ) → 1 ≤ n → x ≤ x * n
        widens x zero h = absurd (omega arith)
        widens x (suc n) h = omega arith

        grows : (acc a p n x : ℕ) → acc < a → x < p → 1 ≤ n → a * (p * n) ≤ 524288 → (acc * p + x < 2 ^ 32) × (acc * p + x < a * p) × (a * p * n ≤ 524288)
        grows acc a p n x h k some few =
            let inner : acc * p + x < a * p = block-below acc a x p h k in
            let same : a * (p * n) ≡ a * p * n = omega arith in
            let shrinks : a * p ≤ a * p * n = widens (a * p) n some in
            (omega arith, inner, omega arith)

        regrouped : (acc p x n k : ℕ) → (acc * p + x) * n + k ≡ acc * (p * n) + (x * n + k)
        regrouped acc p x n k = omega arith

    pub index-leads : (ranges : List Range) (ts : List Sound) → AreNarrow ranges → all_defined ts ≡ true → all_short ts ≡ true → lie_in ranges (worths ts) ≡ true
        → (q : ℕ) → 5 ≤ suc q → suc q + arguments_registers 0 (map term_registers (map term ts)) ≤ 21 → padded_count ranges ≤ 524288
        → (address : ℕ) (s : Moment) → IsEntered rom size address (index_plan ranges (map plan (map term ts)) (suc q)) s → s.hart.ram ≡ ram
        → Leads rom size address (index_plan ranges (map plan (map term ts)) (suc q)) (λ s'. reg_at (suc q) s' ≡ placed ranges (worths ts)) s
    index-leads [] [] n d k lies q low high few address s e same = immediate-leads 0 (omega arith) q (omega arith) address s e
    index-leads [] (t ∷ ts) n d k lies q low high few address s e same = absurd cc
    index-leads (range ∷ ranges) [] n d k lies q low high few address s e same = absurd cc
    index-leads (range ∷ ranges) (t ∷ ts) n d k lies q low high few address s e same =
        let p = and_parts (defined t.0) (all_defined ts) d in
        let m = and_parts (short t.0) (all_short ts) k in
        let l = and_parts (inside (just (worth t.0)) (whole range)) (lie_in ranges (worths ts)) lies in
        let line = argument_line range (suc q) in
        let rest = further_plan ranges (map plan (map term ts)) (suc q) in
        let v = worth t.0 in
        let below = lies-below range v l.0 in
        let enough = padded-enough range.size in
        let one = registers-some t.0 in
        leads-seq rom size address (plan t.0 (suc q)) (Seq (Line line) rest) s _ _
        (part t p.0 m.0 q low (omega arith) address s (enter-first rom size address _ _ s e) same)
        (λ mid b.
        let e1 = enter-second rom size address _ _ s e mid b in
        let at = address + 4 * len (plan t.0 (suc q)) in
        let first = enter-first rom size at (Line line) rest mid e1 in
        leads-seq rom size at (Line line) rest mid (λ s'. (reg_at (suc q) s' ≡ place_in range v) × (s'.hart.ram ≡ mid.hart.ram)) _
        (leads-more rom size at (Line line) mid _ _
        (numbered rom size at line mid (suc q) (place_in range v) (place_in range v)
        (line-more rom at line mid _ _
        (argument-leads rom size at q range v mid low (omega arith) n.0 (shorts t.0 p.0 m.0) l.0 b.good.holds (entered-at rom size at line mid first (omega arith)))
        (λ end t. record { valid = t.valid; here = t.here; holds = t.holds })) refl)
        (λ s' does good. (good, (keeps-ram (Line line) (index-line 5 (suc q) low (omega arith) range).storeless).does rom size at mid s' first does)))
        (λ mid2 b2.
        let e2 = enter-second rom size at _ _ mid e1 mid2 b2 in
        further-leads ranges ts (place_in range v) (padded range.size) n.1 p.1 m.1 l.1 q low (omega arith) (omega arith) few _ mid2 e2 (b2.good.1 ∙ b.good.ram ∙ same) b2.good.0))

    read-some : (fun : ℕ) (signature : Signature) (r : ℕ) → 0 < length (read_line placement tables fun signature r)
    read-some fun signature r =
        let l = length-append (cell_line placement tables fun signature.kind r) (decode_value r signature.codomain.size signature.codomain.lo) in omega arith

    read-leads : (fun : ℕ) (signature : Option Signature) (ts : List Sound) → slice_get placement.signatures fun ≡ signature → all_defined ts ≡ true → all_short ts ≡ true → takes_args signature (worths ts) ≡ true
        → (q : ℕ) → 5 ≤ suc q → suc q + arguments_registers 0 (map term_registers (map term ts)) ≤ 21
        → (address : ℕ) (s : Moment) → IsEntered rom size address (read_plan placement tables fun signature (map plan (map term ts)) (suc q)) s → s.hart.ram ≡ ram
        → Leads rom size address (read_plan placement tables fun signature (map plan (map term ts)) (suc q)) (λ s'. reg_at (suc q) s' ≡ word_of (read program state inputs fun (map worth (map term ts)))) s
    read-leads fun None ts here d k lies q low high address s e same = absurd cc
    read-leads fun (Some signature) ts here d k lies q low high address s e same =
        let index = index_plan signature.args (map plan (map term ts)) (suc q) in
        let line = read_line placement tables fun signature (suc q) in
        let small = small_signatures fun signature here in
        let first = enter-first rom size address index (Line line) s e in
        leads-seq rom size address index (Line line) s (λ s'. (reg_at (suc q) s' ≡ placed signature.args (worths ts)) × (s'.hart.ram ≡ s.hart.ram)) _
        (leads-more rom size address index s _ _
        (index-leads signature.args ts small.0 d k lies q low high small.1 address s first same)
        (λ s' does good. (good, (keeps-ram index ((indices-are-coded program placement tables signature.args (map term ts) 5 (suc q) low (omega arith)).0).storeless).does rom size address s s' first does)))
        (λ mid b.
        let e1 = enter-second rom size address index (Line line) s e mid b in
        lined rom size _ line mid (suc q) (word_of (read program state inputs fun (worths ts))) (read program state inputs fun (map worth (map term ts)))
        (reads fun signature here (worths ts) lies q low (omega (arith, arguments-some 0 (map term_registers (map term ts)))) _ mid (entered-at rom size _ line mid e1 (read-some fun signature (suc q))) (b.good.1 ∙ same) b.good.0)
        (ap (λ vs. word_of (read program state inputs fun vs)) (worths-same (map term ts))))

    layer : (x : ResolvedTerm-F Sound) → Layer (map-ResolvedTerm Sound ResolvedTerm term x)
    layer (ResolvedTerm-F.Number n) d k f q low high address s e same = immediate-leads (word_of n) (word-below n f) q (omega arith) address s e
    layer (ResolvedTerm-F.Var b) d k f q low high address s e same =
        let line = binder_line (binder_range program b) (slot placement b) (suc q) in
        lined rom size address line s (suc q) (word_of (slice_index_or env b (pos 0))) (slice_index_or env b (pos 0)) (binders b k q low (omega arith) address s (entered-at rom size address line s e (bound-some (binder_range program b) (slot placement b) (suc q))) same) refl
    layer (ResolvedTerm-F.Read fun ts) d k f q low high address s e same =
        let p = and_parts (all_defined ts) (takes_args (slice_get (signatures_of program) fun) (worths ts)) d in
        let m = parts-short (ResolvedTerm-F.Read fun ts) k in
        read-leads fun (slice_get placement.signatures fun) ts refl p.0 m (subst (λ signatures. takes_args (slice_get signatures fun) (worths ts) ≡ true) (sym same_signatures) p.1) q low high address s e same
    layer (ResolvedTerm-F.Binary op l r) d k f q low high address s e same =
        let p = and_parts (defined l.0) (defined r.0) d in
        let m = and_parts (short l.0) (short r.0) (parts-short (ResolvedTerm-F.Binary op l r) k) in
        let sl = shorts l.0 p.0 m.0 in let sr = shorts r.0 p.1 m.1 in
        both l r (operated op (suc q)) (operated_word op) (binary op (worth l.0) (worth r.0)) p.0 m.0 p.1 m.1 q low high (operated-some op (suc q))
        (λ at s' i. operated-leads rom size op at q s' i (omega arith)) (operated-words op (worth l.0) (worth r.0) sl sr f) address s e same
    layer (ResolvedTerm-F.Not t) d k f q low high address s e same =
        let m = (parts-short (ResolvedTerm-F.Not t) k) in
        leads-seq rom size address (plan t.0 (suc q)) (Line (denied (suc q))) s _ _
        (part t d m q low high address s (enter-first rom size address _ _ s e) same)
        (λ mid b.
        let e1 = enter-second rom size address _ _ s e mid b in
        lined rom size _ (denied (suc q)) mid (suc q) (denied_word (reg_at (suc q) mid)) (truth (not (holds (worth t.0)))) (denied-leads rom size _ q mid (entered-at rom size _ (denied (suc q)) mid e1 (omega arith)) (omega arith))
        (ap denied_word b.good.holds ∙ denied-words (worth t.0) (shorts t.0 d m)))
    layer (ResolvedTerm-F.Min l r) d k f q low high address s e same =
        let p = and_parts (defined l.0) (defined r.0) d in
        let m = and_parts (short l.0) (short r.0) (parts-short (ResolvedTerm-F.Min l r) k) in
        both l r (lesser (suc q)) lesser_word (int_min (worth l.0) (worth r.0)) p.0 m.0 p.1 m.1 q low high (omega arith)
        (λ at s' i. lesser-leads rom size at q s' i (omega arith)) (lesser-words (worth l.0) (worth r.0) (shorts l.0 p.0 m.0) (shorts r.0 p.1 m.1)) address s e same
    layer (ResolvedTerm-F.Max l r) d k f q low high address s e same =
        let p = and_parts (defined l.0) (defined r.0) d in
        let m = and_parts (short l.0) (short r.0) (parts-short (ResolvedTerm-F.Max l r) k) in
        both l r (greater (suc q)) greater_word (int_max (worth l.0) (worth r.0)) p.0 m.0 p.1 m.1 q low high (omega arith)
        (λ at s' i. greater-leads rom size at q s' i (omega arith)) (greater-words (worth l.0) (worth r.0) (shorts l.0 p.0 m.0) (shorts r.0 p.1 m.1)) address s e same
    layer (ResolvedTerm-F.Cond g l r) d k f q low high address s e same =
        let p = and_parts (defined g.0) (cond (holds (worth g.0)) (defined l.0) (defined r.0)) d in
        let m = and_parts (short g.0) (short l.0 && short r.0) (parts-short (ResolvedTerm-F.Cond g l r) k) in
        let n = and_parts (short l.0) (short r.0) m.1 in
        let sg = shorts g.0 p.0 m.0 in
        leads-seq rom size address (plan g.0 (suc q)) (If (suc q) (plan l.0 (suc q)) (plan r.0 (suc q))) s _ _
        (part g p.0 m.0 q low (omega arith) address s (enter-first rom size address _ _ s e) same)
        (λ mid b.
        let e1 = enter-second rom size address _ _ s e mid b in
        let at = address + 4 * len (plan g.0 (suc q)) in
        leads-if rom size at (suc q) (plan l.0 (suc q)) (plan r.0 (suc q)) mid _ (if-room rom size at (suc q) _ _ mid e1)
        (λ set.
        let h = set-holds (reg_at (suc q) mid) (worth g.0) b.good.holds sg set in
        let dl : defined l.0 ≡ true = subst (λ c. cond c (defined l.0) (defined r.0) ≡ true) h p.1 in
        leads-more rom size (at + 8) (plan l.0 (suc q)) _ _ _
        (l.1 dl n.0 (shorts l.0 dl n.0) q low (omega arith) (at + 8) _ (enter-then rom size at (suc q) _ _ mid e1) (b.good.ram ∙ same))
        (λ s' does good. good ∙ ap (λ c. word_of (cond c (worth l.0) (worth r.0))) (sym h)))
        (λ clear.
        let h = clear-fails (reg_at (suc q) mid) (worth g.0) b.good.holds sg clear in
        let dr : defined r.0 ≡ true = subst (λ c. cond c (defined l.0) (defined r.0) ≡ true) h p.1 in
        leads-more rom size (at + 12 + 4 * len (plan l.0 (suc q))) (plan r.0 (suc q)) _ _ _
        (r.1 dr n.1 (shorts r.0 dr n.1) q low (omega arith) (at + 12 + 4 * len (plan l.0 (suc q))) _ (enter-else rom size at (suc q) _ _ mid e1) (b.good.ram ∙ same))
        (λ s' does good. good ∙ ap (λ c. word_of (cond c (worth l.0) (worth r.0))) (sym h))))

    rolled : (x : ResolvedTerm-F ResolvedTerm) → Layer x → LeavesValue (roll-ResolvedTerm x)
    rolled x l =
        subst (λ d. Leaves d (short t) (worth t) (term_registers t) (plan t)) (sym (defined_at x program state inputs env))
        (subst (λ k. Leaves d' k (worth t) (term_registers t) (plan t)) (sym (short_at x placement.signatures scope))
        (subst (λ v. Leaves d' k' v (term_registers t) (plan t)) (sym (value_at x (roll-ResolvedTerm x) refl program state inputs env))
        (subst (λ n. Leaves d' k' v' n (plan t)) (sym (registers_at x))
        (subst (λ p. Leaves d' k' v' n' p) (sym (plan_at x program placement tables)) l))))
      where
        t : ResolvedTerm
        t = roll-ResolvedTerm x

        d' : Bool
        d' = defined_by program state inputs env (map-ResolvedTerm ResolvedTerm Part (told program state inputs env) x)

        k' : Bool
        k' = short_by placement.signatures scope (map-ResolvedTerm ResolvedTerm Part (measured placement.signatures scope) x)

        v' : ℤ
        v' = value_by program state inputs env (map-ResolvedTerm ResolvedTerm ℤ worth x)

        n' : ℕ
        n' = term_registers_by (map-ResolvedTerm ResolvedTerm ℕ term_registers x)

    -- the code of every term leaves its value
    pub terms-leave : (t : ResolvedTerm) → LeavesValue t
    terms-leave = ind-ResolvedTerm LeavesValue (λ x y is. subst (λ z. LeavesValue (roll-ResolvedTerm z)) is (rolled (map-ResolvedTerm Sound ResolvedTerm term y) (layer y)))
