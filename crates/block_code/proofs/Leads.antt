-- How it is shown where a block leads, and what a block that leads somewhere runs to.
use Rattle.std.proofs.Common.{◌≡◌, ◌≢◌, ℕ, zero, suc, ◌+◌, ◌*◌, ◌^◌, ◌<◌, List, [], ◌∷◌, ◌++◌, length, length-append, Bool, true, false, refl, sym, ◌∙◌, subst, inl, inr, ⊎_elim, arith}
use Rattle.std.proofs.lemmas.Bool.{cases_lt}
use Rattle.rv_isa.specs.declared.instr.Instr.{Instr}
use Rattle.rv_machine.specs.Hart.{HartState, IsValid}
use Rattle.rv_machine.specs.Memory.{stored}
use Rattle.block_code.specs.Block.{IsBlock, IsSlot}
use Rattle.block_code.specs.Effect.{Does, Holds, LineDoes, LineStops, Own, Passes, PassesStop, SearchStops, Searches, Stops, moment_done, moved, reg_at, stops}
use Rattle.block_code.specs.Ends.{Ends}
use Rattle.block_code.specs.Home.{GoneRound, IsClosed, started}
use Rattle.block_code.specs.Leads.{IsBehind, IsEntered, IsStable, IsTruth, Leads, LeadsRound, NonePasses}
use Rattle.block_code.specs.Moment.{IsValidMoment, Moment}
use Rattle.block_code.specs.Place.{IsMachine, Within, word_in}
use Rattle.block_code.specs.Plan.{If, Line, Loop, Plan, Scan, Seq, full, len}
use Rattle.block_code.proofs.Behind.{comes-out, moved-valid, own-kept, own-stored}
use Rattle.block_code.proofs.Ends.{ends-map}
use Rattle.block_code.proofs.Entered.{own-step, own-step-stored}
use Rattle.block_code.proofs.Home.{goes-round}
use Rattle.block_code.proofs.Parts.{lines-lead-one-way, parts-are-done, parts-stop, shift}
use Rattle.block_code.proofs.Structure.{law-of-effect}

-- what is said of a moment behind a block at its end
behind-at : (size from to : ℕ) (first second : Plan) (Good : Moment → Type 0) (s : Moment) → from + 4 * len first ≡ to + 4 * len second → IsBehind size from first Good s → IsBehind size to second Good s
behind-at size from to first second Good s e b = record { valid = b.valid; here = b.here ∙ e; good = b.good }

module _ (rom : List ℕ) (size : ℕ) where
  -- ---- any block

  -- a block that is entered comes out behind it in a valid hart, so that it is enough to show what is good
  pub leads-entered : (address : ℕ) (tree : Plan) (s : Moment) (Good : Moment → Type 0) → IsEntered rom size address tree s → ((s' : Moment) → Does rom address tree s s' → Good s')
      → ((s' : Moment) → Stops rom address tree s s' → ⊥) → Leads rom size address tree Good s
  leads-entered address tree s Good e good never = record { ends = λ s' d. let out = comes-out e d in record { valid = out.0; here = out.1; good = good s' d }; goes_on = never }

  -- what a block does on its way may be added
  pub leads-more : (address : ℕ) (tree : Plan) (s : Moment) (Good More : Moment → Type 0) → Leads rom size address tree Good s
      → ((s' : Moment) → Does rom address tree s s' → Good s' → More s') → Leads rom size address tree More s
  leads-more address tree s Good More l f = record { ends = λ s' d. let b = l.ends s' d in record { valid = b.valid; here = b.here; good = f s' d b.good }; goes_on = l.goes_on }

  -- two accounts of one block
  pub leads-both : (address : ℕ) (tree : Plan) (s : Moment) (Good Other : Moment → Type 0) → Leads rom size address tree Good s → Leads rom size address tree Other s
      → Leads rom size address tree (λ s'. Good s' × Other s') s
  leads-both address tree s Good Other l k = record { ends = λ s' d. let b = l.ends s' d in record { valid = b.valid; here = b.here; good = (b.good, (k.ends s' d).good) }; goes_on = l.goes_on }

  -- ---- lines

  -- a line leads where it is shown to lead
  pub leads-line : (address : ℕ) (instrs : List Instr) (s end : Moment) (Good : Moment → Type 0) → LineDoes rom address instrs s end
      → IsBehind size address (Line instrs) Good end → Leads rom size address (Line instrs) Good s
  leads-line address instrs s end Good d p = record {
    ends = λ s' e. subst (IsBehind size address (Line instrs) Good) (sym ((lines-lead-one-way rom address instrs s end s' d).0 e)) p;
    goes_on = λ s' e. (lines-lead-one-way rom address instrs s end s' d).1 e;
  }

  -- an empty line leads to where it is
  pub leads-nil : (address : ℕ) (s : Moment) (Good : Moment → Type 0) → IsValidMoment size s → s.hart.pc ≡ address → Good s → Leads rom size address (Line []) Good s
  leads-nil address s Good valid here good = leads-line address [] s s Good refl (record { valid = valid; here = here ∙ omega arith; good = good })

  -- a line in two parts
  pub leads-append : (address : ℕ) (first second : List Instr) (s : Moment) (Mid Good : Moment → Type 0) → Leads rom size address (Line first) Mid s
      → ((mid : Moment) → IsBehind size address (Line first) Mid mid → Leads rom size (address + 4 * length first) (Line second) Good mid)
      → Leads rom size address (Line (first ++ second)) Good s
  leads-append address first second s Mid Good l k = record {
    ends = λ s' d.
        let parts = (parts-are-done rom address first second s s').0 d in
        behind-at size (address + 4 * length first) address (Line second) (Line (first ++ second)) Good s' (let e = length-append first second in omega arith)
        ((k parts.0 (l.ends parts.0 parts.1)).ends s' parts.2);
    goes_on = λ s' t. ⊎_elim (λ u. l.goes_on s' u) (λ u. (k u.0 (l.ends u.0 u.1)).goes_on s' u.2) ((parts-stop rom address first second s s').0 t);
  }

  -- one instruction, and then the rest of the line
  pub leads-instr : (address : ℕ) (i : Instr) (is : List Instr) (s : Moment) (Good : Moment → Type 0) → s.hart.pc ≡ address → stops rom i s ≡ false
      → Leads rom size (address + 4) (Line is) Good (moment_done rom i s) → Leads rom size address (Line (i ∷ is)) Good s
  leads-instr address i is s Good here safe rest = record { ends = λ s' d. does s' d; goes_on = λ s' t. never s' t }
    where
      does : (s' : Moment) → LineDoes rom address (i ∷ is) s s' → IsBehind size address (Line (i ∷ is)) Good s'
      does s' (inl d) = behind-at size (address + 4) address (Line is) (Line (i ∷ is)) Good s' (shift address is) (rest.ends s' d.2)
      does s' (inr d) = absurd (d.0 here)

      never : (s' : Moment) → LineStops rom address (i ∷ is) s s' → ⊥
      never s' (inl t) = let u = t.1 in absurd (cc)
      never s' (inr (inl t)) = rest.goes_on s' t.2
      never s' (inr (inr t)) = t.0 here

  -- instructions that a skip went past
  pub leads-past : (past is : List Instr) (address : ℕ) (s : Moment) (Good : Moment → Type 0) → s.hart.pc ≡ address + 4 * length past
      → Leads rom size (address + 4 * length past) (Line is) Good s → Leads rom size address (Line (past ++ is)) Good s
  leads-past [] is address s Good here rest = let e : address + 4 * 0 ≡ address = omega arith in subst (λ a. Leads rom size a (Line is) Good s) e rest
  leads-past (i ∷ past) is address s Good here rest =
      let further = leads-past past is (address + 4) s Good (here ∙ sym (shift address past)) (subst (λ a. Leads rom size a (Line is) Good s) (sym (shift address past)) rest) in
      record { ends = λ s' d. does further s' d; goes_on = λ s' t. never further s' t }
    where
      Further : Type 0
      Further = Leads rom size (address + 4) (Line (past ++ is)) Good s

      away : s.hart.pc ≢ address
      away e = let h = here in absurd (omega arith)

      does : Further → (s' : Moment) → LineDoes rom address (i ∷ (past ++ is)) s s' → IsBehind size address (Line (i ∷ (past ++ is))) Good s'
      does further s' (inl d) = absurd (away d.0)
      does further s' (inr d) = behind-at size (address + 4) address (Line (past ++ is)) (Line (i ∷ (past ++ is))) Good s' (shift address (past ++ is)) (further.ends s' d.1)

      never : Further → (s' : Moment) → LineStops rom address (i ∷ (past ++ is)) s s' → ⊥
      never further s' (inl t) = away t.0
      never further s' (inr (inl t)) = away t.0
      never further s' (inr (inr t)) = further.goes_on s' t.1

  -- ---- sequences and choices

  -- the first part leads to where the second leads on
  pub leads-seq : (address : ℕ) (first second : Plan) (s : Moment) (Mid Good : Moment → Type 0) → Leads rom size address first Mid s
      → ((mid : Moment) → IsBehind size address first Mid mid → Leads rom size (address + 4 * len first) second Good mid) → Leads rom size address (Seq first second) Good s
  leads-seq address first second s Mid Good l k = record { ends = λ s' d. does s' d; goes_on = λ s' t. never s' t }
    where
      does : (s' : Moment) → Does rom address (Seq first second) s s' → IsBehind size address (Seq first second) Good s'
      does s' (mid, a, b) = behind-at size (address + 4 * len first) address second (Seq first second) Good s' (omega arith) ((k mid (l.ends mid a)).ends s' b)

      never : (s' : Moment) → Stops rom address (Seq first second) s s' → ⊥
      never s' (inl t) = l.goes_on s' t
      never s' (inr t) = (k t.0 (l.ends t.0 t.1)).goes_on s' t.2

  -- the part that the test register chooses leads on
  pub leads-if : (address test : ℕ) (then_part else_part : Plan) (s : Moment) (Good : Moment → Type 0) → address + 4 * len (If test then_part else_part) < 2 ^ 32
      → (reg_at test s ≢ 0 → Leads rom size (address + 8) then_part (λ s'. Good (moved (address + 12 + 4 * len then_part + 4 * len else_part) s')) (moved (address + 8) s))
      → (reg_at test s ≡ 0 → Leads rom size (address + 12 + 4 * len then_part) else_part Good (moved (address + 12 + 4 * len then_part) s))
      → Leads rom size address (If test then_part else_part) Good s
  leads-if address test then_part else_part s Good room on off = record { ends = λ s' d. does s' d; goes_on = λ s' t. never s' t }
    where
      out : (s' : Moment) → IsBehind size (address + 8) then_part (λ s''. Good (moved (address + 12 + 4 * len then_part + 4 * len else_part) s'')) s'
          → IsBehind size address (If test then_part else_part) Good (moved (address + 12 + 4 * len then_part + 4 * len else_part) s')
      out s' b = record { valid = moved-valid size (address + 12 + 4 * len then_part + 4 * len else_part) s' (omega arith) b.valid; here = omega arith; good = b.good }

      does : (s' : Moment) → Does rom address (If test then_part else_part) s s' → IsBehind size address (If test then_part else_part) Good s'
      does s' (inl (set, (ended, d, is))) = subst (IsBehind size address (If test then_part else_part) Good) (sym is) (out ended ((on set).ends ended d))
      does s' (inr (clear, d)) = behind-at size (address + 12 + 4 * len then_part) address else_part (If test then_part else_part) Good s' (omega arith) ((off clear).ends s' d)

      never : (s' : Moment) → Stops rom address (If test then_part else_part) s s' → ⊥
      never s' (inl t) = (on t.0).goes_on s' t.1
      never s' (inr t) = (off t.0).goes_on s' t.1

-- ---- loops
module _ (rom : List ℕ) (size : ℕ) (machine : IsMachine rom size) (address count slot : ℕ) (is_slot : IsSlot slot) (inside : slot < size) (body : Plan) (Inv : ℕ → Moment → Type 0)
    (stable : IsStable slot Inv)
    (carries : (k : ℕ) → k < count → (m : Moment) → IsValidMoment size m → m.hart.pc ≡ address + 32 → word_in slot m.hart.ram ≡ k → Inv k m → Leads rom size (address + 32) body (Inv (k + 1)) m) where
  kept : (k at : ℕ) (x m : Moment) → Own at x.hart.ram x m → Inv k x → Inv k m
  kept k at x m own i = stable k x m (own-step size slot is_slot inside at x m own) i

  set : (k at x : ℕ) (m m' : Moment) → IsValidMoment size m → Own at (stored 4 slot x m.hart.ram) m m' → Inv k m → Inv k m'
  set k at x m m' valid own i = stable k m m' (own-step-stored size slot is_slot inside at x m m' machine.ram_aligned valid own) i

  -- the body from where it is begun
  pass-leads : (c : ℕ) → c < count → (x begun : Moment) → IsValidMoment size x → Own (address + 32) x.hart.ram x begun → word_in slot begun.hart.ram ≡ c → Inv c x
      → Leads rom size (address + 32) body (Inv (c + 1)) begun
  pass-leads c below x begun valid own counter i =
      carries c below begun (own-kept rom size machine (address + 32) x begun valid own) own.pc counter (kept c (address + 32) x begun own i)

  raised-valid : (c : ℕ) (ended mid : Moment) → IsValidMoment size ended → Own (address + 8) (stored 4 slot (c + 1) ended.hart.ram) ended mid → IsValidMoment size mid
  raised-valid c ended mid valid own = own-stored rom size machine (address + 8) slot (c + 1) ended mid is_slot inside valid own

  passes-hold : (more c : ℕ) → c + more ≡ count → (x s' : Moment) → IsValidMoment size x → Inv c x
      → Passes (Does rom (address + 32) body) (address + 8) (address + 32) (address + 52 + 4 * len body) slot more c x s' → IsBehind size address (Loop count slot body) (Inv count) s'
  passes-hold zero c total x s' valid i own =
      let all : c ≡ count = omega arith in let out = address + 52 + 4 * len body in
      record { valid = own-kept rom size machine out x s' valid own; here = own.pc ∙ omega arith; good = subst (λ n. Inv n s') all (kept c out x s' own i) }
  passes-hold (suc more) c total x s' valid i (mid, pass, rest) =
      let b = (pass-leads c (omega arith) x pass.begun valid pass.enters pass.counter i).ends pass.ended pass.does in
      passes-hold more (c + 1) (omega arith) mid s' (raised-valid c pass.ended mid b.valid pass.raises) (set (c + 1) (address + 8) (c + 1) pass.ended mid b.valid pass.raises b.good) rest

  passes-safe : (more c : ℕ) → c + more ≡ count → (x s' : Moment) → IsValidMoment size x → Inv c x
      → PassesStop (Does rom (address + 32) body) (Stops rom (address + 32) body) (address + 8) (address + 32) slot more c x s' → ⊥
  passes-safe zero c total x s' valid i stop = stop
  passes-safe (suc more) c total x s' valid i (inl pass) = (pass-leads c (omega arith) x pass.begun valid pass.enters pass.counter i).goes_on s' pass.stops
  passes-safe (suc more) c total x s' valid i (inr (mid, pass, rest)) =
      let b = (pass-leads c (omega arith) x pass.begun valid pass.enters pass.counter i).ends pass.ended pass.does in
      passes-safe more (c + 1) (omega arith) mid s' (raised-valid c pass.ended mid b.valid pass.raises) (set (c + 1) (address + 8) (c + 1) pass.ended mid b.valid pass.raises b.good) rest

  -- a loop whose body leads from each counter to the next leads to what holds at the count
  pub leads-loop : (s : Moment) → IsValidMoment size s → Inv 0 s → Leads rom size address (Loop count slot body) (Inv count) s
  leads-loop s valid i = record {
    ends = λ s' (head, own, passes).
        passes-hold count 0 (omega arith) head s' (own-stored rom size machine (address + 8) slot 0 s head is_slot inside valid own) (set 0 (address + 8) 0 s head valid own i) passes;
    goes_on = λ s' (head, own, stop).
        passes-safe count 0 (omega arith) head s' (own-stored rom size machine (address + 8) slot 0 s head is_slot inside valid own) (set 0 (address + 8) 0 s head valid own i) stop;
  }

-- ---- scans

truth-set : (b : Bool) (x : ℕ) → IsTruth b x → x ≢ 0 → b ≡ true
truth-set true x t h = refl
truth-set false x t h = absurd (h t)

truth-clear : (b : Bool) (x : ℕ) → IsTruth b x → x ≡ 0 → b ≡ false
truth-clear true x t h = absurd (t h)
truth-clear false x t h = refl

-- one counter more that does not pass
none-more : (passes : ℕ → Bool) (c : ℕ) → NonePasses passes c → passes c ≡ false → NonePasses passes (c + 1)
none-more passes c none last j h =
    ⊎_elim (λ below. none j below) (λ from. let same : c ≡ j = omega arith in subst (λ n. passes n ≡ false) same last) (cases_lt j c)

module _ (rom : List ℕ) (size : ℕ) (machine : IsMachine rom size) (address count slot : ℕ) (is_slot : IsSlot slot) (inside : slot < size) (guard : Plan) (test : ℕ) (found none : Plan)
    (room : address + 4 * len (Scan count slot guard test found none) < 2 ^ 32) (passes : ℕ → Bool) (Inv : ℕ → Moment → Type 0) (Good : Moment → Type 0) (stable : IsStable slot Inv)
    (judges : (k : ℕ) → k < count → NonePasses passes k → (m : Moment) → IsValidMoment size m → m.hart.pc ≡ address + 32 → word_in slot m.hart.ram ≡ k → Inv k m
    → Leads rom size (address + 32) guard (λ j. IsTruth (passes k) (reg_at test j) × Inv k j) m)
    (goes_on : (k : ℕ) (m : Moment) → passes k ≡ false → Inv k m → Inv (k + 1) m)
    (finds : (k : ℕ) → k < count → passes k ≡ true → NonePasses passes k → (m : Moment) → IsValidMoment size m → m.hart.pc ≡ address + 56 + 4 * len guard → word_in slot m.hart.ram ≡ k → Inv k m
    → Leads rom size (address + 56 + 4 * len guard) found (λ s'. Good (moved (address + 56 + 4 * len guard + 4 * len found + 4 + 4 * len none) s')) m)
    (lacks : NonePasses passes count → (m : Moment) → IsValidMoment size m → m.hart.pc ≡ address + 56 + 4 * len guard + 4 * len found + 4 → Inv count m
    → Leads rom size (address + 56 + 4 * len guard + 4 * len found + 4) none Good m) where
  abbrev found_at : ℕ
  found_at = address + 56 + 4 * len guard

  abbrev none_at : ℕ
  none_at = address + 56 + 4 * len guard + 4 * len found + 4

  abbrev scan_end : ℕ
  scan_end = none_at + 4 * len none

  abbrev scan : Plan
  scan = Scan count slot guard test found none

  scan-kept : (k at : ℕ) (x m : Moment) → Own at x.hart.ram x m → Inv k x → Inv k m
  scan-kept k at x m own i = stable k x m (own-step size slot is_slot inside at x m own) i

  scan-set : (k at x : ℕ) (m m' : Moment) → IsValidMoment size m → Own at (stored 4 slot x m.hart.ram) m m' → Inv k m → Inv k m'
  scan-set k at x m m' valid own i = stable k m m' (own-step-stored size slot is_slot inside at x m m' machine.ram_aligned valid own) i

  judge-leads : (c : ℕ) → c < count → NonePasses passes c → (x begun : Moment) → IsValidMoment size x → Own (address + 32) x.hart.ram x begun → word_in slot begun.hart.ram ≡ c → Inv c x
      → Leads rom size (address + 32) guard (λ j. IsTruth (passes c) (reg_at test j) × Inv c j) begun
  judge-leads c below so_far x begun valid own counter i =
      judges c below so_far begun (own-kept rom size machine (address + 32) x begun valid own) own.pc counter (scan-kept c (address + 32) x begun own i)

  find-leads : (c : ℕ) → c < count → NonePasses passes c → (judged : Moment) → IsBehind size (address + 32) guard (λ j. IsTruth (passes c) (reg_at test j) × Inv c j) judged → reg_at test judged ≢ 0
      → word_in slot judged.hart.ram ≡ c → Leads rom size found_at found (λ s'. Good (moved scan_end s')) (moved found_at judged)
  find-leads c below so_far judged b is_set same =
      finds c below (truth-set (passes c) (reg_at test judged) b.good.0 is_set) so_far (moved found_at judged) (moved-valid size found_at judged (omega arith) b.valid) refl same
      (stable c judged (moved found_at judged) (record { regs = λ r a b. refl; bytes = λ o out. refl; count = refl; readings = refl; log = refl }) b.good.1)

  lack-leads : (c : ℕ) → c ≡ count → NonePasses passes c → (x begun : Moment) → IsValidMoment size x → Own none_at x.hart.ram x begun → Inv c x → Leads rom size none_at none Good begun
  lack-leads c all so_far x begun valid own i =
      lacks (subst (NonePasses passes) all so_far) begun (own-kept rom size machine none_at x begun valid own) own.pc (subst (λ n. Inv n begun) all (scan-kept c none_at x begun own i))

  scan-raised : (c : ℕ) (judged mid : Moment) → IsValidMoment size judged → Own (address + 8) (stored 4 slot (c + 1) judged.hart.ram) judged mid → IsValidMoment size mid
  scan-raised c judged mid valid own = own-stored rom size machine (address + 8) slot (c + 1) judged mid is_slot inside valid own

  searches-hold : (more c : ℕ) → c + more ≡ count → NonePasses passes c → (x s' : Moment) → IsValidMoment size x → Inv c x
      → Searches (Does rom (address + 32) guard) (Does rom found_at found) (Does rom none_at none) (address + 8) (address + 32) found_at none_at scan_end slot test more c x s' → IsBehind size address scan Good s'
  searches-hold zero c total so_far x s' valid i (begun, own, does) =
      behind-at size none_at address none scan Good s' (omega arith) ((lack-leads c (omega arith) so_far x begun valid own i).ends s' does)
  searches-hold (suc more) c total so_far x s' valid i (begun, judged, own, counter, does, inl (is_set, same, (ended, goes, is))) =
      let b = (judge-leads c (omega arith) so_far x begun valid own counter i).ends judged does in
      let e = (find-leads c (omega arith) so_far judged b is_set same).ends ended goes in
      subst (IsBehind size address scan Good) (sym is) (record { valid = moved-valid size scan_end ended (omega arith) e.valid; here = omega arith; good = e.good })
  searches-hold (suc more) c total so_far x s' valid i (begun, judged, own, counter, does, inr (is_clear, (mid, raised, rest))) =
      let b = (judge-leads c (omega arith) so_far x begun valid own counter i).ends judged does in
      let fails = truth-clear (passes c) (reg_at test judged) b.good.0 is_clear in
      searches-hold more (c + 1) (omega arith) (none-more passes c so_far fails) mid s' (scan-raised c judged mid b.valid raised)
      (goes_on c mid fails (scan-set c (address + 8) (c + 1) judged mid b.valid raised b.good.1)) rest

  searches-safe : (more c : ℕ) → c + more ≡ count → NonePasses passes c → (x s' : Moment) → IsValidMoment size x → Inv c x
      → SearchStops (Does rom (address + 32) guard) (Stops rom (address + 32) guard) (Stops rom found_at found) (Stops rom none_at none) (address + 8) (address + 32) found_at none_at slot test more c x s' → ⊥
  searches-safe zero c total so_far x s' valid i (begun, own, stop) = (lack-leads c (omega arith) so_far x begun valid own i).goes_on s' stop
  searches-safe (suc more) c total so_far x s' valid i (begun, own, counter, inl stop) = (judge-leads c (omega arith) so_far x begun valid own counter i).goes_on s' stop
  searches-safe (suc more) c total so_far x s' valid i (begun, own, counter, inr (judged, does, inl (is_set, same, stop))) =
      let b = (judge-leads c (omega arith) so_far x begun valid own counter i).ends judged does in
      (find-leads c (omega arith) so_far judged b is_set same).goes_on s' stop
  searches-safe (suc more) c total so_far x s' valid i (begun, own, counter, inr (judged, does, inr (is_clear, (mid, raised, rest)))) =
      let b = (judge-leads c (omega arith) so_far x begun valid own counter i).ends judged does in
      let fails = truth-clear (passes c) (reg_at test judged) b.good.0 is_clear in
      searches-safe more (c + 1) (omega arith) (none-more passes c so_far fails) mid s' (scan-raised c judged mid b.valid raised)
      (goes_on c mid fails (scan-set c (address + 8) (c + 1) judged mid b.valid raised b.good.1)) rest

  -- a scan whose guard tells which counters pass runs `found` at the least of them, and `none` where there is none
  pub leads-scan : (s : Moment) → IsValidMoment size s → Inv 0 s → Leads rom size address scan Good s
  leads-scan s valid i = record {
    ends = λ s' (head, own, searches).
        searches-hold count 0 (omega arith) (λ j h. absurd (omega arith)) head s' (own-stored rom size machine (address + 8) slot 0 s head is_slot inside valid own)
        (scan-set 0 (address + 8) 0 s head valid own i) searches;
    goes_on = λ s' (head, own, stop).
        searches-safe count 0 (omega arith) (λ j h. absurd (omega arith)) head s' (own-stored rom size machine (address + 8) slot 0 s head is_slot inside valid own)
        (scan-set 0 (address + 8) 0 s head valid own i) stop;
  }

-- ---- runs

-- a block that leads somewhere is left there within its bound, and no tick of it traps
pub leads-run : (rom : List ℕ) (size address : ℕ) (tree : Plan) (Good : Moment → Type 0) (s : Moment) → IsEntered rom size address tree s → Leads rom size address tree Good s
    → Ends rom (Within address (address + 4 * len tree)) (IsBehind size address tree Good) (λ s'. ⊥) (full tree) s
leads-run rom size address tree Good s e l =
    ends-map rom (λ x i. i) (λ x g. l.ends x g.2) (λ x c. l.goes_on x (c e.holds)) (law-of-effect tree e.block rom size address s e.machine e.stands e.valid e.here)

-- a closed block that leads somewhere from the head goes round by way of there
pub leads-round : (rom : List ℕ) (size at count : ℕ) (tree : Plan) (Good : Moment → Type 0) (readings : List ℕ) (m : HartState) → IsBlock tree → IsClosed rom size tree at count → IsValid size m → m.pc ≡ 0
    → Holds size tree → Leads rom size 0 tree Good (started readings m) → (gone : GoneRound rom readings m tree) × Good gone.ended
leads-round rom size at count tree Good readings m b closed valid head holds l =
    let gone = goes-round tree b rom size at count readings m closed valid head holds (λ s t. l.goes_on s t) in (gone, (l.ends gone.ended gone.does).good)

pub led-round : (tree : Plan) → IsBlock tree → LeadsRound tree
led-round tree b rom size at count readings m post closed valid head holds l = leads-round rom size at count tree (λ s. post s ≡ true) readings m b closed valid head holds l
