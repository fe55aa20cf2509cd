-- A table's names are looked up as the names of its environment.
use Rattle.asm_names.proofs.Common.{◌≡◌, ℕ, ◌-◌, ◌<◌, take, length, arith, Bool, true, false, cond, List, [], ◌∷◌, ◌++◌, map, Option, None, Some, refl, sym, ap, ◌∙◌, option_map, option_to_list, IsSome, length-append, lookup, Scope, known}
use Rattle.std.proofs.Math.Seq.{take-append_seam}
use Rattle.std.specs.declared.vec.Vec.{Vec}
use Rattle.asm_names.specs.declared.table.Entry.{Entry}

none_of : (o : Option Entry) → option_map known o ≡ None → o ≡ None
none_of None h = refl
none_of (Some e) h = cc

module _ {A : Type 0} where
  abbrev pub view : List (Vec ℕ A × Entry) → Scope
  view es = map (λ entry. (entry.0.items, known entry.1)) es

  pub found : (test : List ℕ → Bool) (es : List (Vec ℕ A × Entry)) → option_map known (lookup (λ k. test k.items) es) ≡ lookup test (view es)
  found test [] = refl
  found test (e ∷ es) = by (test e.0.items) (found test es)
    where
      by : (b : Bool) → option_map known (lookup (λ k. test k.items) es) ≡ lookup test (view es)
          → option_map known (cond b (Some e.1) (lookup (λ k. test k.items) es)) ≡ cond b (Some (known e.1)) (lookup test (view es))
      by true h = refl
      by false h = h

  pub added : (es : List (Vec ℕ A × Entry)) (k : Vec ℕ A) (e : Entry) → view (es ++ (k, e) ∷ []) ≡ view es ++ (k.items, known e) ∷ []
  added [] k e = refl
  added (x ∷ es) k e = ap (λ l. (x.0.items, known x.1) ∷ l) (added es k e)

  pub absent : (test : List ℕ → Bool) (es : List (Vec ℕ A × Entry)) → lookup test (view es) ≡ None → lookup (λ k. test k.items) es ≡ None
  absent test es h = none_of (lookup (λ k. test k.items) es) (found test es ∙ h)

  nothing : (es : List (Vec ℕ A × Entry)) → length es ≡ 0 → view es ≡ []
  nothing [] h = refl
  nothing (x ∷ es) h = absurd (omega (arith, h))

  -- without the last entry
  pub popped : (old new : List (Vec ℕ A × Entry)) (r : Option (Vec ℕ A × Entry)) → old ≡ new ++ option_to_list r → (0 < length old → IsSome r)
      → view new ≡ take (length (view old) - 1) (view old)
  popped old new (Some e) is there =
      let all : view old ≡ view new ++ (e.0.items, known e.1) ∷ [] = ap view is ∙ added new e.0 e.1 in
      let k : length (view old) - 1 ≡ length (view new) = omega (arith, ap length all, length-append (view new) ((e.0.items, known e.1) ∷ [])) in
      rw (k, all) (sym (take-append_seam (view new) ((e.0.items, known e.1) ∷ [])))
  popped [] new None is there = nothing new (omega (arith, ap length is, length-append new []))
  popped (x ∷ old) new None is there = let bad : false ≡ true = there (omega arith) in cc
