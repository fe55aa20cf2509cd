-- The location with a number.
use Rattle.std.proofs.Common.{◌≡◌, ℕ, zero, suc, ◌+◌, ◌-◌, ◌<◌, ◌≤◌, Bool, true, false, List, [], ◌∷◌, map, length, take, get_or, Some, refl, sym, ap, ◌∙◌, arith, zero-add}
use Rattle.std.specs.Prelude.{if◌then◌else◌, slice_get}
use Rattle.std.proofs.lemmas.List.{get_or-map, get_or_append_left, get_or-append_right}
use Rattle.std.proofs.lemmas.Option.{get_or_from_slice_get}
use Rattle.asm_tree.specs.declared.decl.Kind.{Kind}
use Rattle.state_space.specs.declared.signature.Signature.{Signature}
use Rattle.state_space.specs.Locations.{is_state, located, location_at, no_location, own_count, tuples}
use Rattle.state_space.specs.Firsts.{AreFirsts, before}
use Rattle.state_space.proofs.Numbers.{length-located, length-located-any, length-own, own_locations}
use Rattle.state_space.proofs.Places.{before-more}

own-at : (b : Bool) (n i : ℕ) (s : Signature) → i < (if b then length (tuples s.args) else 0)
    → get_or (if b then map (λ args. record { fun = n; args = args }) (tuples s.args) else []) i no_location ≡ record { fun = n; args = get_or (tuples s.args) i [] }
own-at true n i s h = get_or-map (λ args. record { fun = n; args = args }) (tuples s.args) i [] no_location h
own-at false n i s h = absurd (omega arith)

-- the location is one of the function before whose locations it does not come, nor behind them
pub located-at : (held : Kind → Bool) (n fun place : ℕ) (signatures : List Signature) (s : Signature) → slice_get signatures fun ≡ Some s
    → before held signatures fun ≤ place → place < before held signatures fun + own_count held s
    → get_or (located held n signatures) place no_location ≡ record { fun = n + fun; args = get_or (tuples s.args) (place - before held signatures fun) [] }
located-at held n fun place [] s is low high = absurd cc
located-at held n zero place (x ∷ signatures) s is low high =
    let same : x ≡ s = cc in
    let inside : place < own_count held x = omega (arith, ap (own_count held) same) in
    let first : place - 0 ≡ place = omega arith in
    let here : n + 0 ≡ n = omega arith in
    get_or_append_left (own_locations held n x) (located held (n + 1) signatures) no_location place (omega (arith, length-own (held x.kind) n x))
    ∙ own-at (held x.kind) n place x inside
    ∙ ap (λ (y : Signature). record { fun = n; args = get_or (tuples y.args) place [] }) same
    ∙ rw (first, here) refl
located-at held n (suc fun) place (x ∷ signatures) s is low high =
    let total : before held (x ∷ signatures) (suc fun) ≡ own_count held x + before held signatures fun =
    omega (arith, length-located held 0 x (take fun signatures), length-located-any held 1 0 (take fun signatures)) in
    let long : length (own_locations held n x) ≡ own_count held x = length-own (held x.kind) n x in
    let deeper : (n + 1) + fun ≡ n + suc fun = omega arith in
    let index : (place - own_count held x) - before held signatures fun ≡ place - before held (x ∷ signatures) (suc fun) = omega (arith, total) in
    get_or-append_right (own_locations held n x) (located held (n + 1) signatures) (own_count held x) place no_location long (omega (arith, total, low))
    ∙ located-at held (n + 1) fun (place - own_count held x) signatures s is (omega (arith, total, low)) (omega (arith, total, high))
    ∙ rw (index, deeper) refl

own-few : (b : Bool) (n : ℕ) → (if b then n else 0) ≤ n
own-few true n = omega arith
own-few false n = omega arith

-- the state location with a number, by the function whose locations begin at or before it, and those of the next one behind it
pub record IsLocated (signatures : List Signature) (place fun tuple : ℕ) (s : Signature) : Type 0 where
  pub location : location_at signatures place ≡ record { fun = fun; args = get_or (tuples s.args) tuple [] }
  pub inside : tuple < length (tuples s.args)

pub located-state : (signatures : List Signature) (firsts : List ℕ) (place fun : ℕ) (s : Signature) → AreFirsts is_state signatures firsts → slice_get signatures fun ≡ Some s
    → fun + 1 < length firsts → get_or firsts fun 0 ≤ place → place < get_or firsts (fun + 1) 0 → IsLocated signatures place fun (place - get_or firsts fun 0) s
located-state signatures firsts place fun s first is exists low high =
    let here : get_or firsts fun 0 ≡ before is_state signatures fun = first.each fun (omega (arith, first.long)) in
    let next : get_or firsts (fun + 1) 0 ≡ before is_state signatures fun + own_count is_state s =
    first.each (fun + 1) (omega (arith, first.long)) ∙ before-more is_state signatures fun s (omega (arith, first.long))
    ∙ ap (λ x. before is_state signatures fun + own_count is_state x) (get_or_from_slice_get signatures fun s s is) in
    record {
      location = located-at is_state 0 fun place signatures s is (omega (arith, here)) (omega (arith, next))
          ∙ ap (λ n. record { fun = n; args = get_or (tuples s.args) (place - before is_state signatures fun) [] }) (zero-add fun)
          ∙ ap (λ n. record { fun = fun; args = get_or (tuples s.args) (place - n) [] }) (sym here);
      inside = omega (arith, here, next, own-few (is_state s.kind) (length (tuples s.args)));
    }

pub there : {A : Type 0} (xs : List A) (i : ℕ) → i < length xs → (x : A) × (slice_get xs i ≡ Some x)
there [] i h = absurd (omega arith)
there (x ∷ xs) zero h = (x, refl)
there (x ∷ xs) (suc i) h = there xs i (omega arith)
