-- What is found of a term of each form.
use Rattle.std.proofs.Common.{◌≡◌, ℕ, ◌+◌, ◌≤◌, ℤ, ◌≤ℤ◌, ◌^◌, true, not, List, ◌∷◌, ◌++◌, map, Option, Some, None, refl, ap, sym, ◌∙◌, subst, T, arith, Bor}
use Rattle.std.{proofs.{lemmas.{Bool.{and_parts, and_from, le-leb}, Int.{ints, clamps}}}, specs.{Prelude.{slice_get}, Int.{int_min, int_max}}}
use Rattle.asm_tree.specs.declared.term.Op.{Op}
use Rattle.asm_names.specs.declared.{program.{Domain.{Domain}, Fun.{Fun}, Interval.{Interval}}, resolved_term.ResolvedTerm.{ResolvedTerm, ResolvedTerm-F, roll-ResolvedTerm, map-ResolvedTerm}}
use Rattle.asm_names.specs.{Places.{in_parentheses}, ResolvedPlaces.{resolved_term_tokens, resolved_term_tokens_by}}
use Rattle.asm_names.proofs.ResolvedLevels.{term_tokens_of}
use Rattle.state_space.specs.{declared.signature.Signature.{Signature}, Codomains.{just, codomain_range}}
use Rattle.asm_ranges.specs.{declared.{fault.RangeEnd.{RangeEnd}, finding.{Found.{Found}, Parts.{Parts}}}, Faults.{first_fault, either, fault}, Ranges.{Scope, range, range_by, truths, hull, binary_range, lesser_range, greater_range, sum_fits, inside, words}}
use Rattle.asm_ranges.specs.Facts.{Facts, Refining, refined, refined_by, cut_by_facts, Held as HeldFact, Failed as FailedFact}
use Rattle.asm_ranges.specs.RangeFaults.{FaultyTerm, faulty_term, inner_faults, outside_faults, wide_faults, term_faults, args_faults, domains_of}
use Rattle.asm_ranges.specs.Contexts.{Begins, Finds, FindsParts, FindsTerm, IsCut, IsNear, IsPart, IsReady, IsWord, facts_of, scope_of, signatures_in, context_fits, guard_fits, small_numbers, small_numbers_by}
use Rattle.asm_ranges.specs.declared.context.Context.{Context, Held, Failed}
use Rattle.asm_ranges.proofs.{Contexts.{scope-Held, facts-Held, fits-Held, scope-Failed, facts-Failed, fits-Failed, part-same}, CutSteps.{part-of}, Definite.{no-fault}, Firsts.{first-append, first-none, no-first}, FoundTerms.{found}, Levels.{refining, refined_terms}, Measures.{word-near, just-word, truths-word, codomain-word, min-near, max-near, hull-near, binary-near, same_ends, small_of}}
use Rattle.asm_tree.specs.declared.term.Op.TheVariants as ops
use Rattle.asm_names.specs.declared.resolved_term.ResolvedTerm.TheVariants as terms
use Rattle.asm_ranges.specs.declared.fault.RangeEnd.TheVariants as ends

either-parts : (a b : Option RangeEnd) → either a b ≡ None → (a ≡ None) × (b ≡ None)
either-parts None b h = (refl, h)
either-parts (Some x) b h = absurd cc

pair-first : (r a b : Option RangeEnd) (f g : List RangeEnd) → r ≡ either a b → a ≡ first_fault f → b ≡ first_fault g → r ≡ first_fault (f ++ g)
pair-first r a b f g is left right = is ∙ (ap (λ x. either x b) left ∙ (ap (either (first_fault f)) right ∙ sym (first-append f g)))

-- what a function that reads a term needs of its parts
pub handed : (x : ResolvedTerm-F ResolvedTerm) (t : ResolvedTerm) → roll-ResolvedTerm x ≡ t → (at : ℕ) → small_numbers t ≡ true → at + resolved_term_tokens t ≤ 2 ^ 31
    → (resolved_term_tokens t ≡ resolved_term_tokens_by (map-ResolvedTerm ResolvedTerm ℕ resolved_term_tokens x)) × (small_numbers_by (map-ResolvedTerm ResolvedTerm _ small_numbers x) ≡ true)
    × (at + resolved_term_tokens_by (map-ResolvedTerm ResolvedTerm ℕ resolved_term_tokens x) ≤ 2 ^ 31)
handed x t e at small room = let tokens = term_tokens_of x t e in (tokens, sym (small_of x t e) ∙ small, omega (arith, tokens))

-- a guard of a text fits
guard-fits : (g : ResolvedTerm) → small_numbers g ≡ true → resolved_term_tokens g ≤ 2 ^ 31 → guard_fits g ≡ true
guard-fits g small room = and_from _ _ small (le-leb (resolved_term_tokens g) (2 ^ 31) room)

module _ (g : Bor ResolvedTerm) (o : Bor Context) (small : small_numbers g.now ≡ true) (room : resolved_term_tokens g.now ≤ 2 ^ 31) (fits : context_fits o.now ≡ true) where
  pub fits-under-Held : context_fits (Held g o) ≡ true
  fits-under-Held = fits-Held g o ∙ and_from _ _ (guard-fits g.now small room) fits

  pub fits-under-Failed : context_fits (Failed g o) ≡ true
  fits-under-Failed = fits-Failed g o ∙ and_from _ _ (guard-fits g.now small room) fits

-- ---- refined ranges lie in plain ones

min-part : (a b c d : Interval) → IsPart a c → IsPart b d → IsPart (lesser_range a b) (lesser_range c d)
min-part a b c d p q = record { low = omega (arith, ints, clamps, p.low, q.low); some = omega (arith, ints, clamps, p.some, q.some); high = omega (arith, ints, clamps, p.high, q.high) }

max-part : (a b c d : Interval) → IsPart a c → IsPart b d → IsPart (greater_range a b) (greater_range c d)
max-part a b c d p q = record { low = omega (arith, ints, clamps, p.low, q.low); some = omega (arith, ints, clamps, p.some, q.some); high = omega (arith, ints, clamps, p.high, q.high) }

hull-part : (a b c d : Interval) → IsPart a c → IsPart b d → IsPart (hull a b) (hull c d)
hull-part a b c d p q = record { low = omega (arith, ints, clamps, p.low, q.low); some = omega (arith, ints, clamps, p.some, q.some); high = omega (arith, ints, clamps, p.high, q.high) }

binary-part : (op : Op) (a b c d : Interval) → IsPart a c → IsPart b d → IsPart (binary_range op a b) (binary_range op c d)
binary-part ops.Add a b c d p q = record { low = omega (arith, ints, p.low, q.low); some = omega (arith, ints, p.some, q.some); high = omega (arith, ints, p.high, q.high) }
binary-part ops.Sub a b c d p q = record { low = omega (arith, ints, p.low, q.high); some = omega (arith, ints, p.some, q.some); high = omega (arith, ints, p.high, q.low) }
binary-part _ a b c d p q = part-same truths truths-word

-- ---- plain ranges are of 32 bits where nothing has a fault

min-word : (a b : Interval) → IsWord a → IsWord b → IsWord (lesser_range a b)
min-word a b h j = record { low = omega (arith, ints, clamps); some = omega (arith, ints, clamps); high = omega (arith, ints, clamps) }

max-word : (a b : Interval) → IsWord a → IsWord b → IsWord (greater_range a b)
max-word a b h j = record { low = omega (arith, ints, clamps); some = omega (arith, ints, clamps); high = omega (arith, ints, clamps) }

hull-word : (a b : Interval) → IsWord a → IsWord b → IsWord (hull a b)
hull-word a b h j = record { low = omega (arith, ints, clamps); some = omega (arith, ints, clamps); high = omega (arith, ints, clamps) }

inside-word : (i : Interval) → i.lo ≤ℤ i.hi → inside i words ≡ true → IsWord i
inside-word i some h =
    let q = and_parts _ _ h in
    record { low = record { le = subst T (sym q.0) tt }; some = some; high = record { le = subst T (sym q.1) tt } }

binary-word : (op : Op) (a b : Interval) (at n : ℕ) (o : Option RangeEnd) → IsNear (binary_range op a b) n
    → o ≡ first_fault (fault (ends.Wide at) (not (sum_fits op (binary_range op a b)))) → o ≡ None → IsWord (binary_range op a b)
binary-word ops.Add a b at n o near is none = inside-word (binary_range ops.Add a b) near.some (no-fault (ends.Wide at) _ (no-first _ (sym is ∙ none)))
binary-word ops.Sub a b at n o near is none = inside-word (binary_range ops.Sub a b) near.some (no-fault (ends.Wide at) _ (no-first _ (sym is ∙ none)))
binary-word _ a b at n o near is none = truths-word

-- ---- form by form

-- what was found, by what is in scope and what is known
abbrev FindsIn : List Signature → ResolvedTerm → Option Interval → ℕ → Found → Scope → Facts → Type 0
FindsIn signatures t need at found scope facts = Finds (range signatures scope t) (refined signatures scope t facts) (resolved_term_tokens t) (term_faults signatures scope t facts need at) at found

module _ (signatures : List Signature) (context : Context) (t : ResolvedTerm) (need : Option Interval) (at : ℕ) (f : Found) where
  abbrev scope : Scope
  scope = scope_of context

  abbrev facts : Facts
  facts = facts_of context

  closes : (x : ResolvedTerm-F ResolvedTerm) → roll-ResolvedTerm x ≡ t → (plain known : Interval) (own inner : Option RangeEnd)
      → f.plain ≡ plain → f.refined ≡ known → f.after ≡ at + resolved_term_tokens_by (map-ResolvedTerm ResolvedTerm ℕ resolved_term_tokens x)
      → f.fault ≡ either own (either (first_fault (outside_faults known need at)) inner)
      → plain ≡ range_by signatures scope (map-ResolvedTerm ResolvedTerm Interval (range signatures scope) x)
      → known ≡ refined_by signatures scope (map-ResolvedTerm ResolvedTerm Refining (refining signatures scope) x) facts
      → own ≡ first_fault (wide_faults signatures scope (map-ResolvedTerm ResolvedTerm FaultyTerm (faulty_term signatures scope) x) at)
      → inner ≡ first_fault (inner_faults signatures (map-ResolvedTerm ResolvedTerm FaultyTerm (faulty_term signatures scope) x) facts at)
      → IsNear plain (resolved_term_tokens_by (map-ResolvedTerm ResolvedTerm ℕ resolved_term_tokens x)) → IsPart known plain → (own ≡ None → inner ≡ None → IsWord plain)
      → FindsTerm signatures context t need at f
  closes x e plain known own inner ep ek after fault p k o i near part word =
      found signatures context x t e need at f own inner (ep ∙ p) (ek ∙ k) after
      (fault ∙ ap (λ r. either own (either (first_fault (outside_faults r need at)) inner)) (sym ek)) o i
      (subst (λ (r : Interval). IsNear r (resolved_term_tokens_by (map-ResolvedTerm ResolvedTerm ℕ resolved_term_tokens x))) (sym ep) near)
      (subst (λ (r : Interval). IsPart f.refined r) (sym ep) (subst (λ (r : Interval). IsPart r plain) (sym ek) part))
      (λ none. let all = either-parts own (either (first_fault (outside_faults known need at)) inner) (sym fault ∙ none) in
      subst (λ (r : Interval). IsWord r) (sym ep) (word all.0 (either-parts (first_fault (outside_faults known need at)) inner all.1).1))

  pub finds-Number : (v : ℤ) → roll-ResolvedTerm (ResolvedTerm-F.Number v) ≡ t → (r : Interval) (inner : Option RangeEnd) (after : ℕ) → r ≡ just v → small_numbers t ≡ true → inner ≡ None → after ≡ at + 1
      → f.plain ≡ r → f.refined ≡ r → f.after ≡ after → f.fault ≡ either None (either (first_fault (outside_faults r need at)) inner) → FindsTerm signatures context t need at f
  finds-Number v e r inner after is small none place ep ek ea fault =
      let word = just-word v (sym (small_of (ResolvedTerm-F.Number v) t e) ∙ small) in
      closes (ResolvedTerm-F.Number v) e (just v) (just v) None inner (ep ∙ is) (ek ∙ is) (ea ∙ place) (fault ∙ ap (λ i. either None (either (first_fault (outside_faults i need at)) inner)) is)
      refl refl (sym first-none) (none ∙ sym first-none) (word-near (just v) 1 word (omega arith)) (part-same (just v) word) (λ _ _. word)

  pub finds-Var : (b : ℕ) → roll-ResolvedTerm (ResolvedTerm-F.Var b) ≡ t → (plain start known : Interval) (inner : Option RangeEnd) (after : ℕ) → Begins context b plain start
      → IsCut (cut_by_facts signatures scope t facts start) start known → inner ≡ None → after ≡ at + 1
      → f.plain ≡ plain → f.refined ≡ known → f.after ≡ after → f.fault ≡ either None (either (first_fault (outside_faults known need at)) inner) → FindsTerm signatures context t need at f
  finds-Var b e plain start known inner after begun cut none place ep ek ea fault =
      let is : t ≡ terms.Var b = sym e ∙ terms.rolls-Var b in
      closes (ResolvedTerm-F.Var b) e plain known None inner ep ek (ea ∙ place) fault
      begun.is_plain (cut.is ∙ (ap (λ u. cut_by_facts signatures scope u facts start) is ∙ ap (cut_by_facts signatures scope (terms.Var b) facts) begun.is_refined)) (sym first-none) (none ∙ sym first-none)
      (word-near plain 1 begun.word (omega arith)) (part-of known start plain cut.part begun.part) (λ _ _. begun.word)

  pub finds-Not : (s : ResolvedTerm) → roll-ResolvedTerm (ResolvedTerm-F.Not s) ≡ t → (r k : Interval) (a : Found) → r ≡ truths → k ≡ truths → FindsTerm signatures context s None (at + 1) a
      → f.plain ≡ r → f.refined ≡ k → f.after ≡ a.after → f.fault ≡ either None (either (first_fault (outside_faults k need at)) a.fault) → FindsTerm signatures context t need at f
  finds-Not s e r k a is ks h ep ek ea fault =
      closes (ResolvedTerm-F.Not s) e truths truths None a.fault (ep ∙ is) (ek ∙ ks) (omega (arith, ea, h.after)) (fault ∙ ap (λ i. either None (either (first_fault (outside_faults i need at)) a.fault)) ks)
      refl refl (sym first-none) h.first (word-near truths _ truths-word (omega arith)) (part-same truths truths-word) (λ _ _. truths-word)

  module _ (l r : ResolvedTerm) (a b : Found) (plain known : Interval) (inner : Option RangeEnd) (after : ℕ) where
    pub finds-Binary : (op : Op) → roll-ResolvedTerm (ResolvedTerm-F.Binary op l r) ≡ t → (own : Option RangeEnd)
        → FindsTerm signatures context l None (at + 1) a → FindsTerm signatures context r None (at + 1 + resolved_term_tokens l + 1) b
        → plain ≡ binary_range op a.plain b.plain → known ≡ binary_range op a.refined b.refined
        → own ≡ first_fault (fault (ends.Wide at) (not (sum_fits op plain))) → after ≡ b.after + 1 → inner ≡ either a.fault b.fault
        → f.plain ≡ plain → f.refined ≡ known → f.after ≡ after → f.fault ≡ either own (either (first_fault (outside_faults known need at)) inner) → FindsTerm signatures context t need at f
    finds-Binary op e own h j p k o ea i ep ek place first =
        let near = binary-near op a.plain b.plain _ _ (1 + resolved_term_tokens l + 1 + resolved_term_tokens r + 1) h.near j.near (omega arith) in
        let own_is : own ≡ first_fault (fault (ends.Wide at) (not (sum_fits op (binary_range op a.plain b.plain)))) = o ∙ ap (λ x. first_fault (fault (ends.Wide at) (not (sum_fits op x)))) p in
        closes (ResolvedTerm-F.Binary op l r) e plain known own inner ep ek (omega (arith, place, ea, j.after)) first
        (p ∙ rw (h.is_plain, j.is_plain) refl) (k ∙ rw (h.is_refined, j.is_refined) refl)
        (own_is ∙ rw (h.is_plain, j.is_plain) refl) (pair-first inner a.fault b.fault _ _ i h.first j.first)
        (subst (λ (x : Interval). IsNear x (1 + resolved_term_tokens l + 1 + resolved_term_tokens r + 1)) (sym p) near)
        (subst (λ (x : Interval). IsPart known x) (sym p) (subst (λ (x : Interval). IsPart x (binary_range op a.plain b.plain)) (sym k) (binary-part op a.refined b.refined a.plain b.plain h.part j.part)))
        (λ none _. subst (λ (x : Interval). IsWord x) (sym p) (binary-word op a.plain b.plain at _ own near own_is none))

    module _ (left : FindsTerm signatures context l None (at + 2) a) (right : FindsTerm signatures context r None (at + 2 + resolved_term_tokens l + 1) b) (place : after ≡ b.after + 1) (i : inner ≡ either a.fault b.fault)
        (ep : f.plain ≡ plain) (ek : f.refined ≡ known) (ea : f.after ≡ after) (fault : f.fault ≡ either None (either (first_fault (outside_faults known need at)) inner)) where
      pub finds-Min : roll-ResolvedTerm (ResolvedTerm-F.Min l r) ≡ t → plain.lo ≡ int_min a.plain.lo b.plain.lo → plain.hi ≡ int_min a.plain.hi b.plain.hi
          → known.lo ≡ int_min a.refined.lo b.refined.lo → known.hi ≡ int_min a.refined.hi b.refined.hi → FindsTerm signatures context t need at f
      finds-Min e low high klow khigh =
          let p = same_ends plain (lesser_range a.plain b.plain) low high in
          let k = same_ends known (lesser_range a.refined b.refined) klow khigh in
          closes (ResolvedTerm-F.Min l r) e (lesser_range a.plain b.plain) (lesser_range a.refined b.refined) None inner (ep ∙ p) (ek ∙ k) (omega (arith, place, ea, right.after))
          (fault ∙ ap (λ x. either None (either (first_fault (outside_faults x need at)) inner)) k)
          (rw (left.is_plain, right.is_plain) refl) (rw (left.is_refined, right.is_refined) refl) (sym first-none) (pair-first inner a.fault b.fault _ _ i left.first right.first)
          (min-near a.plain b.plain _ _ _ left.near right.near (omega arith)) (min-part a.refined b.refined a.plain b.plain left.part right.part)
          (λ _ none. let both = either-parts a.fault b.fault (sym i ∙ none) in min-word a.plain b.plain (left.word both.0) (right.word both.1))

      pub finds-Max : roll-ResolvedTerm (ResolvedTerm-F.Max l r) ≡ t → plain.lo ≡ int_max a.plain.lo b.plain.lo → plain.hi ≡ int_max a.plain.hi b.plain.hi
          → known.lo ≡ int_max a.refined.lo b.refined.lo → known.hi ≡ int_max a.refined.hi b.refined.hi → FindsTerm signatures context t need at f
      finds-Max e low high klow khigh =
          let p = same_ends plain (greater_range a.plain b.plain) low high in
          let k = same_ends known (greater_range a.refined b.refined) klow khigh in
          closes (ResolvedTerm-F.Max l r) e (greater_range a.plain b.plain) (greater_range a.refined b.refined) None inner (ep ∙ p) (ek ∙ k) (omega (arith, place, ea, right.after))
          (fault ∙ ap (λ x. either None (either (first_fault (outside_faults x need at)) inner)) k)
          (rw (left.is_plain, right.is_plain) refl) (rw (left.is_refined, right.is_refined) refl) (sym first-none) (pair-first inner a.fault b.fault _ _ i left.first right.first)
          (max-near a.plain b.plain _ _ _ left.near right.near (omega arith)) (max-part a.refined b.refined a.plain b.plain left.part right.part)
          (λ _ none. let both = either-parts a.fault b.fault (sym i ∙ none) in max-word a.plain b.plain (left.word both.0) (right.word both.1))

-- under a guard that holds, and under one that fails
module _ (signatures : List Signature) (g : Bor ResolvedTerm) (o : Bor Context) (t : ResolvedTerm) (need : Option Interval) (at : ℕ) (a : Found) where
  pub under-Held : FindsTerm signatures (Held g o) t need at a → FindsIn signatures t need at a (scope_of o.now) (HeldFact g.now ∷ facts_of o.now)
  under-Held h = subst (FindsIn signatures t need at a (scope_of o.now)) (facts-Held g o) (subst (λ (s : Scope). FindsIn signatures t need at a s (facts_of (Held g o))) (scope-Held g o) h)

  pub under-Failed : FindsTerm signatures (Failed g o) t need at a → FindsIn signatures t need at a (scope_of o.now) (FailedFact g.now ∷ facts_of o.now)
  under-Failed h = subst (FindsIn signatures t need at a (scope_of o.now)) (facts-Failed g o) (subst (λ (s : Scope). FindsIn signatures t need at a s (facts_of (Failed g o))) (scope-Failed g o) h)

module _ (signatures : List Signature) (g q : Bor ResolvedTerm) (again : q.now ≡ g.now) (o : Bor Context) (t l r : ResolvedTerm) (need : Option Interval) (at : ℕ) (f test a b : Found) (plain known : Interval) (rest inner : Option RangeEnd) (after : ℕ) where
  pub finds-Cond : roll-ResolvedTerm (ResolvedTerm-F.Cond g.now l r) ≡ t
      → FindsTerm signatures o.now g.now None (at + 2) test → FindsTerm signatures (Held g o) l None (test.after + 1) a → FindsTerm signatures (Failed q o) r None (a.after + 1) b
      → plain.lo ≡ int_min a.plain.lo b.plain.lo → plain.hi ≡ int_max a.plain.hi b.plain.hi → known.lo ≡ int_min a.refined.lo b.refined.lo → known.hi ≡ int_max a.refined.hi b.refined.hi
      → after ≡ b.after + 1 → rest ≡ either a.fault b.fault → inner ≡ either test.fault rest
      → f.plain ≡ plain → f.refined ≡ known → f.after ≡ after → f.fault ≡ either None (either (first_fault (outside_faults known need at)) inner) → FindsTerm signatures o.now t need at f
  finds-Cond e guard held failed low high klow khigh place i j ep ek ea fault =
      let p = same_ends plain (hull a.plain b.plain) low high in
      let k = same_ends known (hull a.refined b.refined) klow khigh in
      let left : FindsIn signatures l None (at + 2 + resolved_term_tokens g.now + 1) a (scope_of o.now) (HeldFact g.now ∷ facts_of o.now) = rw guard.after at (under-Held signatures g o l None _ a held) in
      let right : FindsIn signatures r None (at + 2 + resolved_term_tokens g.now + 1 + resolved_term_tokens l + 1) b (scope_of o.now) (FailedFact g.now ∷ facts_of o.now) = rw (left.after, again) at (under-Failed signatures q o r None _ b failed) in
      closes signatures o.now t need at f (ResolvedTerm-F.Cond g.now l r) e (hull a.plain b.plain) (hull a.refined b.refined) None inner (ep ∙ p) (ek ∙ k) (omega (arith, place, ea, right.after))
      (fault ∙ ap (λ x. either None (either (first_fault (outside_faults x need at)) inner)) k)
      (rw (left.is_plain, right.is_plain) refl) (rw (left.is_refined, right.is_refined) refl) (sym first-none)
      (pair-first inner test.fault rest _ _ j guard.first (pair-first rest a.fault b.fault _ _ i left.first right.first))
      (hull-near a.plain b.plain _ _ _ left.near right.near (omega arith)) (hull-part a.refined b.refined a.plain b.plain left.part right.part)
      (λ _ none. let all = either-parts test.fault rest (sym j ∙ none) in let both = either-parts a.fault b.fault (sym i ∙ all.1) in hull-word a.plain b.plain (left.word both.0) (right.word both.1))

module _ (domains : List Domain) (funs : List Fun) (context : Context) (t : ResolvedTerm) (need : Option Interval) (at : ℕ) (f : Found) where
  pub finds-Read : (fun : ℕ) (args : List ResolvedTerm) → roll-ResolvedTerm (ResolvedTerm-F.Read fun args) ≡ t → IsReady domains funs → (plain known : Interval) (inner : Parts)
      → FindsParts (in_parentheses (map resolved_term_tokens args))
      (args_faults (domains_of (slice_get (signatures_in domains funs) fun)) (map (faulty_term (signatures_in domains funs) (scope_of context)) args) (facts_of context) (at + 1 + 1)) (at + 1) inner
      → plain ≡ codomain_range (slice_get (signatures_in domains funs) fun) → IsCut (cut_by_facts (signatures_in domains funs) (scope_of context) t (facts_of context) plain) plain known
      → f.plain ≡ plain → f.refined ≡ known → f.after ≡ inner.after → f.fault ≡ either None (either (first_fault (outside_faults known need at)) inner.fault) → FindsTerm (signatures_in domains funs) context t need at f
  finds-Read fun args e ready plain known inner h p cut ep ek ea fault =
      let word : IsWord plain = subst (λ (i : Interval). IsWord i) (sym p) (codomain-word domains funs fun ready.all_domains ready.all_funs) in
      let is : t ≡ terms.Read fun args = sym e ∙ terms.rolls-Read fun args in
      let two : at + 1 + 1 ≡ at + 2 = omega arith in
      let ss = signatures_in domains funs in
      let s = scope_of context in
      let fs = facts_of context in
      closes (signatures_in domains funs) context t need at f (ResolvedTerm-F.Read fun args) e plain known None inner.fault ep ek (omega (arith, ea, h.after)) fault
      p (cut.is ∙ (ap (λ u. cut_by_facts (signatures_in domains funs) (scope_of context) u (facts_of context) plain) (is ∙ ap (terms.Read fun) (sym (refined_terms (signatures_in domains funs) (scope_of context) args)))
      ∙ ap (λ i. cut_by_facts (signatures_in domains funs) (scope_of context) (terms.Read fun (map (λ (p : Refining). p.0) (map (refining (signatures_in domains funs) (scope_of context)) args))) (facts_of context) i) p))
      (sym first-none) (rw two at h.first) (word-near plain _ word (omega arith)) cut.part (λ _ _. word)
