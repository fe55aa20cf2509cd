-- Places in order.
use Rattle.std.proofs.Common.{◌≡◌, ℕ, ◌≤◌, List, [], ◌∷◌, ◌++◌, refl}
use Rattle.text_core.specs.Fields.{AreInOrder}

-- where the last place ends
abbrev pub last_end : ℕ → List (ℕ × ℕ) → ℕ
last_end end [] = end
last_end end (place ∷ places) = last_end place.1 places

pub order_push : (end : ℕ) (places : List (ℕ × ℕ)) (next : ℕ × ℕ) → AreInOrder end places → last_end end places ≤ next.0 → AreInOrder end (places ++ next ∷ [])
order_push end [] next all behind = (behind, tt)
order_push end (place ∷ places) next all behind = (all.0, order_push place.1 places next all.1 behind)

pub last_end_push : (end : ℕ) (places : List (ℕ × ℕ)) (next : ℕ × ℕ) → last_end end (places ++ next ∷ []) ≡ next.1
last_end_push end [] next = refl
last_end_push end (place ∷ places) next = last_end_push place.1 places next
