-- Bytes outside what is stored, and numbers that they make.
use Rattle.std.proofs.Common.{◌≡◌, ℕ, zero, suc, ◌+◌, ◌-◌, ◌*◌, ◌<◌, ◌≤◌, List, length, slice_index, refl, sym, ap, ◌∙◌, ⊎_elim, arith}
use Rattle.std.proofs.lemmas.Bool.{cases_lt}
use Rattle.std.proofs.lemmas.List.{get_or-take, get_or-drop}
use Rattle.byteorder.specs.Endian.{little_from}
use Rattle.rv_machine.specs.Memory.{stored}
use Rattle.rv_machine.proofs.Store.{drop-stored, take-stored}

-- a byte outside the stored ones is as it was
pub byte-outside : (width slot x o : ℕ) (ram : List ℕ) → slot + width ≤ length ram → (slot ≤ o → o < slot + width → ⊥) → slice_index (stored width slot x ram) o ≡ slice_index ram o
byte-outside width slot x o ram inside apart =
    ⊎_elim
    (λ h. sym (get_or-take slot (stored width slot x ram) o 0 h) ∙ ap (λ l. slice_index l o) (take-stored width slot x ram inside slot (omega arith)) ∙ get_or-take slot ram o 0 h)
    (λ h. ⊎_elim
    (λ k. absurd (apart h k))
    (λ k.
    let at : o ≡ slot + width + (o - (slot + width)) = omega arith in
    ap (slice_index (stored width slot x ram)) at ∙ sym (get_or-drop (slot + width) (stored width slot x ram) (o - (slot + width)) 0)
    ∙ ap (λ l. slice_index l (o - (slot + width))) (drop-stored width slot x ram inside (slot + width) (omega arith))
    ∙ get_or-drop (slot + width) ram (o - (slot + width)) 0 ∙ ap (slice_index ram) (sym at))
    (cases_lt o (slot + width)))
    (cases_lt o slot)

-- bytes that are the same make the same number
pub same-bytes : (i n : ℕ) (xs ys : List ℕ) → ((k : ℕ) → i ≤ k → k < i + n → slice_index xs k ≡ slice_index ys k) → little_from i n xs ≡ little_from i n ys
same-bytes i zero xs ys h = refl
same-bytes i (suc n) xs ys h =
    ap (λ b. b + 256 * little_from (suc i) n xs) (h i (omega arith) (omega arith))
    ∙ ap (λ r. slice_index ys i + 256 * r) (same-bytes (suc i) n xs ys (λ k f b. h k (omega arith) (omega arith)))
