-- Texts that are appended piece by piece.
use Rattle.std.proofs.Common.{◌≡◌, ℕ, ◌+◌, ◌≤◌, List, [], ◌++◌, take, length, Vec, Result, Ok, Err, refl, sym, ap, ◌∙◌, append_assoc, arith, length-append}
use Rattle.std.proofs.lemmas.Bool.{false≢true}
use Rattle.std.proofs.lemmas.List.{take_at, append-nil, take-take}
use Rattle.std.specs.Prelude.{vec_items, OnOk, OnErr, IsOk}
use Rattle.std.specs.Result.{IsErr}
use Rattle.text_core.specs.Room.{room_of}
use Rattle.fault_script.specs.Putting.{IsBegun, IsPut}

take-front : (xs ys : List ℕ) → take (length xs) (xs ++ ys) ≡ xs
take-front xs ys = take_at xs ys (length xs) refl

-- a piece is appended whole or not at all
pub put-whole : {A E Z : Type 0} (r : Result A E) (text : List ℕ) (old new : Vec ℕ Z) → OnOk r (vec_items new ≡ vec_items old ++ text) → OnErr r (vec_items new ≡ vec_items old)
    → (length text ≤ room_of old → IsOk r) → room_of old ≤ room_of new + length text → IsPut r text old new
put-whole (Ok x) text old new ok err fits room =
    record { ok = ok; kept = ap (take (length (vec_items old))) ok ∙ take-front (vec_items old) text; fits = fits; room = room }
put-whole (Err e) text old new ok err fits room =
    record { ok = ok; kept = ap (take (length (vec_items old))) (err ∙ sym (append-nil (vec_items old))) ∙ take-front (vec_items old) []; fits = fits; room = room }

-- what is there where a text was appended
pub begun : {A E Z : Type 0} (x : A) (text : List ℕ) (old new : Vec ℕ Z) → IsPut {A = A} {E = E} (Ok x) text old new → IsBegun text old new
begun x text old new p = record { grown = p.ok; room = p.room }

pub begun-then : {Z : Type 0} (a b : List ℕ) (old mid new : Vec ℕ Z) → IsBegun a old mid → IsBegun b mid new → IsBegun (a ++ b) old new
begun-then a b old mid new p q =
    let long = length-append a b in
    record {
      grown = q.grown ∙ ap (λ l. l ++ b) p.grown ∙ append_assoc (vec_items old) a b;
      room = (let x = p.room in let y = q.room in omega (arith, long));
    }

pub put-begun : {A E Z : Type 0} (x : A) (text : List ℕ) (old new : Vec ℕ Z) → IsBegun text old new → IsPut {A = A} {E = E} (Ok x) text old new
put-begun x text old new b =
    record { ok = b.grown; kept = ap (take (length (vec_items old))) b.grown ∙ take-front (vec_items old) text; fits = λ h. refl; room = b.room }

-- a first piece was refused
pub put-refused : {A B E F Z : Type 0} (r : Result A E) (s : Result B F) (text first rest : List ℕ) (old new : Vec ℕ Z) → text ≡ first ++ rest → IsErr s → IsErr r → IsPut r first old new → IsPut s text old new
put-refused (Ok x) s text first rest old new e fails failed p = absurd (false≢true failed)
put-refused (Err x) (Ok y) text first rest old new e fails failed p = absurd (false≢true fails)
put-refused (Err x) (Err y) text first rest old new e fails failed p =
    let long = ap length e ∙ length-append first rest in
    record { ok = tt; kept = p.kept; fits = λ h. absurd (false≢true (p.fits (omega (arith, long)))); room = (let q = p.room in omega (arith, long)) }

kept-then : (old mid new first : List ℕ) → mid ≡ old ++ first → take (length mid) new ≡ mid → take (length old) new ≡ old
kept-then old mid new first e k =
    let long = ap length e ∙ length-append old first in
    let short : length old ≤ length mid = omega (arith, long) in
    sym (take-take (length old) (length mid) new short) ∙ ap (take (length old)) (k ∙ e) ∙ take-front old first

-- a first piece is there, and the rest is appended or refused
pub put-last : {A E Z : Type 0} (r : Result A E) (text first last : List ℕ) (old mid new : Vec ℕ Z) → text ≡ first ++ last → IsBegun first old mid → IsPut r last mid new → IsPut r text old new
put-last (Ok x) text first last old mid new e p q =
    let long = ap length e ∙ length-append first last in
    record {
      ok = q.ok ∙ ap (λ l. l ++ last) p.grown ∙ append_assoc (vec_items old) first last ∙ ap (λ l. vec_items old ++ l) (sym e);
      kept = kept-then (vec_items old) (vec_items mid) (vec_items new) first p.grown q.kept;
      fits = λ h. refl;
      room = (let a = p.room in let b = q.room in omega (arith, long));
    }
put-last (Err x) text first last old mid new e p q =
    let long = ap length e ∙ length-append first last in
    let a = p.room in
    record {
      ok = tt;
      kept = kept-then (vec_items old) (vec_items mid) (vec_items new) first p.grown q.kept;
      fits = λ h. q.fits (omega (arith, long));
      room = (let b = q.room in omega (arith, long));
    }

-- a first piece is there, and the next was refused
pub put-next-refused : {A B E F Z : Type 0} (r : Result A E) (s : Result B F) (text first next rest : List ℕ) (old mid new : Vec ℕ Z) → text ≡ first ++ (next ++ rest) → IsErr s → IsErr r
    → IsBegun first old mid → IsPut r next mid new → IsPut s text old new
put-next-refused r s text first next rest old mid new e fails failed p q =
    put-last s text first (next ++ rest) old mid new e p (put-refused r s (next ++ rest) next rest mid new refl fails failed q)

pub on_err : {A E P Q : Type 0} (r : Result A E) → (P → Q) → OnErr r P → OnErr r Q
on_err (Ok x) f h = h
on_err (Err e) f h = f h

pub err-kept : {A E P : Type 0} (r : Result A E) → P → OnErr r P
err-kept (Ok x) p = tt
err-kept (Err e) p = p
