-- A map's labels are looked up as the labels that contracts see.
use Rattle.std.proofs.Common.{◌≡◌, ℕ, Bool, cond, List, [], ◌∷◌, ◌++◌, map, Some, refl, ap}
use Rattle.std.specs.Map.{lookup}
use Rattle.std.specs.declared.vec.Vec.{Vec}

module _ {A : Type 0} where
  abbrev pub view : List (Vec ℕ A × ℕ) → List (List ℕ × ℕ)
  view es = map (λ entry. (entry.0.items, entry.1)) es

  pub found : (test : List ℕ → Bool) (es : List (Vec ℕ A × ℕ)) → lookup (λ k. test k.items) es ≡ lookup test (view es)
  found test [] = refl
  found test (e ∷ es) = ap (λ rest. cond (test e.0.items) (Some e.1) rest) (found test es)

  pub added : (es : List (Vec ℕ A × ℕ)) (k : Vec ℕ A) (n : ℕ) → view (es ++ (k, n) ∷ []) ≡ view es ++ (k.items, n) ∷ []
  added [] k n = refl
  added (x ∷ es) k n = ap (λ l. (x.0.items, x.1) ∷ l) (added es k n)
