-- What a line says has the time that it names, and is a fault; so a script is of faults.
use Rattle.std.proofs.Common.{◌≡◌, ◌≢◌, ℕ, ◌+◌, ◌-◌, ◌%◌, ◌^◌, ◌<◌, ◌≤◌, Bool, true, false, ◌&&◌, ◌==◌, List, [], ◌∷◌, Option, Some, None, refl, ap, ◌∙◌, subst, arith, codes, bytes_eq, option_and_then, Result, Ok, Err, nat_le, nat_lt, not}
use Rattle.std.specs.Prelude.{IfSome, if◌then◌else◌, option_map}
use Rattle.std.proofs.lemmas.Bool.{eqb-true, false≢true, leb-true, ltb-false, ltb-true}
use Rattle.text_core.specs.Hexadecimal.{hexadecimal}
use Rattle.text_core.specs.Numbers.{number_of}
use Rattle.fault_script.specs.declared.event.Event.{Event}
use Rattle.fault_script.specs.declared.event.Event.TheVariants.{Ram, SetRam}
use Rattle.fault_script.specs.declared.event.Timed.{Timed}
use Rattle.fault_script.specs.declared.script_end.ScriptFault.{ScriptFault}
use Rattle.fault_script.specs.declared.script_end.ScriptFault.TheVariants as script_faults
use Rattle.fault_script.specs.Judging.{in_order, judged_as, refused}
use Rattle.fault_script.specs.Faults.{AreFaults, AreFaultsFrom, IsFault, IsWordPlace}
use Rattle.fault_script.specs.Script.{FaultyLine, Said, added, is_place, is_register, is_time, judged, put_first, said, said_at, said_pc, said_place, said_register, said_word, script_fields, script_from, script_of}
use Rattle.trap_model.specs.Map.{lies_in, ram_base}
use Rattle.fault_script.proofs.Digits.{hexadecimal-below}

both_of : (a b : Bool) → (a && b) ≡ true → (a ≡ true) × (b ≡ true)
both_of true b e = (refl, e)
both_of false b e = absurd (false≢true e)

-- what a line says has this time, and is a fault where its numbers are in range
pub record IsSaid (ram time : ℕ) (s : Said) : Type 0 where
  pub timed : s.time ≡ time
  pub fault : s.fits ≡ true → IsFault ram s.event

abbrev AreSaid : ℕ → ℕ → Option Said → Type 0
AreSaid ram t o = IfSome o (IsSaid ram t)

said-map : {A : Type 0} (ram t : ℕ) (f : A → Said) (o : Option A) → ((a : A) → o ≡ Some a → IsSaid ram t (f a)) → AreSaid ram t (option_map f o)
said-map ram t f None h = tt
said-map ram t f (Some a) h = h a refl

said-then : {A : Type 0} (ram t : ℕ) (f : A → Option Said) (o : Option A) → ((a : A) → o ≡ Some a → AreSaid ram t (f a)) → AreSaid ram t (option_and_then f o)
said-then ram t f None h = tt
said-then ram t f (Some a) h = h a refl

said-if : (ram t : ℕ) (b : Bool) (x y : Option Said) → AreSaid ram t x → AreSaid ram t y → AreSaid ram t (if b then x else y)
said-if ram t true x y h k = h
said-if ram t false x y h k = k

pc-said : (ram t : ℕ) (mask : List ℕ) → AreSaid ram t (said_pc t mask)
unfolding said_pc
pc-said ram t mask = said-map ram t _ (hexadecimal mask) (λ m e. record { timed = refl; fault = λ fits. hexadecimal-below mask m e })

is-register : (t r : ℕ) → (is_time t && is_register r) ≡ true → (r ≢ 0) × (r < 32)
is-register t r fits =
    let both = both_of (is_time t) (is_register r) fits in
    let ends = both_of (nat_le 1 r) (nat_le r 31) both.1 in
    let low = leb-true 1 r ends.0 in
    let high = leb-true r 31 ends.1 in
    (λ e. absurd (omega arith), omega arith)

register-said : (ram t : ℕ) (number mask : List ℕ) → AreSaid ram t (said_register t number mask)
unfolding said_register
register-said ram t number mask =
    said-then ram t _ (number_of number) (λ r e. said-map ram t _ (hexadecimal mask)
    (λ m f. record { timed = refl; fault = λ fits. let is = is-register t r fits in (is.0, is.1, hexadecimal-below mask m f) }))

word-place : (ram t a : ℕ) → (is_time t && is_place ram a) ≡ true → IsWordPlace ram (a - ram_base)
unfolding lies_in
word-place ram t a fits =
    let both = both_of (is_time t) (is_place ram a) fits in
    let place = both_of (a % 4 == 0) (lies_in ram_base ram a) both.1 in
    let within = both_of (nat_le ram_base a) (nat_lt (a - ram_base) ram) place.1 in
    let aligned = eqb-true (a % 4) 0 place.0 in
    let behind = leb-true ram_base a within.0 in
    let inside = ltb-true (a - ram_base) ram within.1 in
    record { aligned = omega arith; inside = inside }

word-said : (ram t : ℕ) (event : ℕ → ℕ → Event) (address word : List ℕ) → ((o m : ℕ) → IsWordPlace ram o → m < 2 ^ 32 → IsFault ram (event o m))
    → AreSaid ram t (said_word ram t event address word)
unfolding said_word
word-said ram t event address word make =
    said-then ram t _ (hexadecimal address) (λ a e. said-map ram t _ (hexadecimal word)
    (λ w f. record { timed = refl; fault = λ fits. make (a - ram_base) w (word-place ram t a fits) (hexadecimal-below word w f) }))

place-said : (ram t : ℕ) (key place number : List ℕ) → AreSaid ram t (said_place ram t key place number)
unfolding said_place
place-said ram t key place number =
    said-if ram t (bytes_eq key (codes "reg")) _ _ (register-said ram t place number)
    (said-if ram t (bytes_eq key (codes "ram")) _ _ (word-said ram t (λ o m. Ram o m) place number (λ o m h k. (h, k)))
    (said-if ram t (bytes_eq key (codes "set")) _ _ (word-said ram t (λ o w. SetRam o w) place number (λ o m h k. (h, k))) tt))

at-said : (ram t : ℕ) (rest : List (List ℕ)) → AreSaid ram t (said_at ram t rest)
at-said ram t [] = tt
at-said ram t (key ∷ []) = tt
at-said ram t (key ∷ number ∷ []) = said-if ram t (bytes_eq key (codes "pc")) _ _ (pc-said ram t number) tt
at-said ram t (key ∷ place ∷ number ∷ []) = place-said ram t key place number
at-said ram t (key ∷ place ∷ number ∷ x ∷ xs) = tt

abbrev late : Said → Bool → Result Timed ScriptFault
late s b = if b then Err script_faults.Order else Ok (record { time = s.time; event = s.event })

abbrev told : ℕ → Said → Bool → Result Timed FaultyLine
told last s b = if not b then Err (record { fault = script_faults.Range; line = 0 }) else (if nat_lt s.time last then Err (record { fault = script_faults.Order; line = 0 }) else Ok (record { time = s.time; event = s.event }))

abbrev ended : Said → Bool → Result Timed FaultyLine
ended s b = if b then Err (record { fault = script_faults.Order; line = 0 }) else Ok (record { time = s.time; event = s.event })

in-time : (s : Said) (b : Bool) → refused {A = Timed} (ended s b) ≡ late s b
in-time s true = refl
in-time s false = refl

same-time : (last t : ℕ) (s : Said) → s.time ≡ t → late s (nat_lt s.time last) ≡ in_order last t (Ok s.event)
same-time last t s h = ap (λ n. in_order last n (Ok s.event)) h

ranged : (last t : ℕ) (s : Said) (b : Bool) → s.time ≡ t → refused {A = Timed} (told last s b) ≡ in_order last t (if b then Ok s.event else Err script_faults.Range)
ranged last t s true h = in-time s (nat_lt s.time last) ∙ same-time last t s h
ranged last t s false h = refl

ordered : (ram last t : ℕ) (o : Option Said) → AreSaid ram t o → refused (judged last 0 o) ≡ in_order last t (judged_as o)
ordered ram last t None h = refl
ordered ram last t (Some s) h = ranged last t s s.fits h.timed

-- what the fields of a line say, by its time
pub judged-at : (ram last time : ℕ) (text : List (List ℕ)) (first : List ℕ) (rest : List (List ℕ)) → text ≡ first ∷ rest → number_of first ≡ Some time
    → refused (judged last 0 (said ram text)) ≡ in_order last time (judged_as (said_at ram time rest))
judged-at ram last time text first rest e f =
    ap (λ fs. refused (judged last 0 (said ram fs))) e
    ∙ ap (λ o. refused (judged last 0 (option_and_then (λ t. said_at ram t rest) o))) f
    ∙ ordered ram last time (said_at ram time rest) (at-said ram time rest)

-- ---- the faults of a script
-- what is judged to be right is a fault, no earlier than the one before
abbrev ordered_at : ℕ → Said → Bool → Result Timed FaultyLine
ordered_at line s late = if late then Err (record { fault = script_faults.Order; line = line }) else Ok (record { time = s.time; event = s.event })

abbrev ranged_at : ℕ → ℕ → Said → Bool → Result Timed FaultyLine
ranged_at last line s fits = if not fits then Err (record { fault = script_faults.Range; line = line }) else ordered_at line s (nat_lt s.time last)

in-order : (ram last line : ℕ) (s : Said) (fault : Timed) (late : Bool) → nat_lt s.time last ≡ late → IsFault ram s.event → ordered_at line s late ≡ Ok fault
    → (last ≤ fault.time) × IsFault ram fault.event
in-order ram last line s fault true l is e = absurd (cc)
in-order ram last line s fault false l is e =
    let made : Timed = record { time = s.time; event = s.event } in
    let same : made ≡ fault = cc in
    subst (λ (f : Timed). (last ≤ f.time) × IsFault ram f.event) same (ltb-false s.time last l, is)

in-range : (ram last line t : ℕ) (s : Said) (fault : Timed) (fits : Bool) → s.fits ≡ fits → IsSaid ram t s → ranged_at last line s fits ≡ Ok fault → (last ≤ fault.time) × IsFault ram fault.event
in-range ram last line t s fault true f h e = in-order ram last line s fault (nat_lt s.time last) refl (h.fault f) e
in-range ram last line t s fault false f h e = absurd (cc)

judged-fault : (ram last line t : ℕ) (o : Option Said) (fault : Timed) → AreSaid ram t o → judged last line o ≡ Ok fault → (last ≤ fault.time) × IsFault ram fault.event
judged-fault ram last line t None fault h e = absurd (cc)
judged-fault ram last line t (Some s) fault h e = in-range ram last line t s fault s.fits refl h e

said-said : (ram : ℕ) (text : List (List ℕ)) → (t : ℕ) × AreSaid ram t (said ram text)
said-said ram [] = (0, tt)
said-said ram (time ∷ rest) = by-time (number_of time)
  where
    by-time : (o : Option ℕ) → (t : ℕ) × AreSaid ram t (option_and_then (λ u. said_at ram u rest) o)
    by-time None = (0, tt)
    by-time (Some t) = (t, at-said ram t rest)

put-parts : (fault : Timed) (later : Result (List Timed) FaultyLine) (faults : List Timed) → put_first fault later ≡ Ok faults → (rest : List Timed) × (later ≡ Ok rest) × (fault ∷ rest ≡ faults)
put-parts fault (Ok rest) faults e = (rest, refl, cc)
put-parts fault (Err x) faults e = absurd (cc)

faults-from : (ram number last : ℕ) (lines : List (List ℕ)) (faults : List Timed) → script_from ram number lines last ≡ Ok faults → AreFaultsFrom ram last faults
faults-from ram number last [] faults e = let is : [] ≡ faults = cc in subst (AreFaultsFrom ram last) is tt
faults-from ram number last (line ∷ lines) faults e =
    by-fields (λ from rest. faults-from ram (number + 1) from lines rest) (script_fields (codes "at") line) e
  where
    Later : Type 0
    Later = (from : ℕ) (rest : List Timed) → script_from ram (number + 1) lines from ≡ Ok rest → AreFaultsFrom ram from rest

    by-judged : Later → (text : List (List ℕ)) (r : Result Timed FaultyLine) → judged last number (said ram text) ≡ r → added (script_from ram (number + 1) lines) last (Some r) ≡ Ok faults
        → AreFaultsFrom ram last faults
    by-judged later text (Err x) j e = absurd (cc)
    by-judged later text (Ok fault) j e =
        let p = put-parts fault (script_from ram (number + 1) lines fault.time) faults e in
        let s = said-said ram text in
        let f = judged-fault ram last number s.0 (said ram text) fault s.1 j in
        subst (AreFaultsFrom ram last) p.2 (f.0, f.1, later fault.time p.0 p.1)

    by-fields : Later → (o : Option (List (List ℕ))) → added (script_from ram (number + 1) lines) last (option_map (λ rest. judged last number (said ram rest)) o) ≡ Ok faults → AreFaultsFrom ram last faults
    by-fields later None e = later last faults e
    by-fields later (Some text) e = by-judged later text (judged last number (said ram text)) refl e

-- a script that is read has faults alone, in the order of their times
pub scripts-are-faults : (ram first : ℕ) (lines : List (List ℕ)) (faults : List Timed) → script_of ram first lines ≡ Ok faults → AreFaults ram faults
scripts-are-faults ram first lines faults e = faults-from ram first 0 lines faults e
