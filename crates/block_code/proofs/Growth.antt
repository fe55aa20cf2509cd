-- Words that are appended one by one.
use Rattle.std.proofs.Common.{◌≡◌, ℕ, List, [], ◌∷◌, ◌++◌, take, drop, length, length-append, ◌+◌, Result, Ok, Err, sym, ap, ◌∙◌, append_assoc, subst}
use Rattle.std.proofs.lemmas.List.{take-append-drop}
use Rattle.std.specs.Prelude.{OnOk}
use Rattle.std.specs.Result.{IsErr}
use Rattle.rv_encode.specs.Table.{AreRows, Row}
use Rattle.rv_isa.specs.declared.instr.Instr.{Instr}
use Rattle.rv_machine.proofs.Fetch.{length-rows}
use Rattle.block_code.specs.Emit.{HasBegun, HasGrown, IsEmitted}

rows-push : (words : List ℕ) (code : List Instr) (word : ℕ) (instr : Instr) → AreRows words code → Row word instr → AreRows (words ++ word ∷ []) (code ++ instr ∷ [])
rows-push [] [] word instr h r = (r, tt)
rows-push [] (i ∷ is) word instr h r = absurd h
rows-push (w ∷ ws) [] word instr h r = absurd h
rows-push (w ∷ ws) (i ∷ is) word instr h r = (h.0, rows-push ws is word instr h.1 r)

rows-append : (words more : List ℕ) (code rest : List Instr) → AreRows words code → AreRows more rest → AreRows (words ++ more) (code ++ rest)
rows-append [] more [] rest h r = r
rows-append [] more (i ∷ is) rest h r = absurd h
rows-append (w ∷ ws) more [] rest h r = absurd h
rows-append (w ∷ ws) more (i ∷ is) rest h r = (h.0, rows-append ws more is rest h.1 r)

-- as many words are appended as the code has instructions
pub grown-length : (code : List Instr) (old new : List ℕ) → HasGrown code old new → length new ≡ length old + length code
grown-length code old new h = ap length h.grown ∙ length-append old h.more ∙ ap (λ n. length old + n) (length-rows h.more code h.rows)

-- one word more
pub grown-push : (code : List Instr) (instr : Instr) (old mid new : List ℕ) (word : ℕ) → HasGrown code old mid → Row word instr → new ≡ mid ++ word ∷ []
    → HasGrown (code ++ instr ∷ []) old new
grown-push code instr old mid new word h row e = record {
  more = h.more ++ word ∷ [];
  grown = e ∙ ap (λ l. l ++ word ∷ []) h.grown ∙ append_assoc old h.more (word ∷ []);
  rows = rows-push h.more code word instr h.rows row;
}

-- one piece, and then another
pub grown-then : (a b : List Instr) (old mid new : List ℕ) → HasGrown a old mid → HasGrown b mid new → HasGrown (a ++ b) old new
grown-then a b old mid new h k = record {
  more = h.more ++ k.more;
  grown = k.grown ∙ ap (λ l. l ++ k.more) h.grown ∙ append_assoc old h.more k.more;
  rows = rows-append h.more k.more a b h.rows k.rows;
}

-- the first piece has begun
begun-first : (a b : List Instr) (old new : List ℕ) → HasBegun a old new → HasBegun (a ++ b) old new
begun-first a b old new h = record { first = h.first; rest = h.rest ++ b; parts = ap (λ l. l ++ b) h.parts ∙ append_assoc h.first h.rest b; begun = h.begun }

-- the first piece is there, and the second has begun
begun-then : (a b : List Instr) (old mid new : List ℕ) → HasGrown a old mid → HasBegun b mid new → HasBegun (a ++ b) old new
begun-then a b old mid new h k = record {
  first = a ++ k.first;
  rest = k.rest;
  parts = ap (λ l. a ++ l) k.parts ∙ sym (append_assoc a k.first k.rest);
  begun = grown-then a k.first old mid new h k.begun;
}

-- the first instructions of a code are a beginning of it
pub begun-take : (code : List Instr) (k : ℕ) (old new : List ℕ) → HasGrown (take k code) old new → HasBegun code old new
begun-take code k old new h = record { first = take k code; rest = drop k code; parts = sym (take-append-drop k code); begun = h }

-- ---- a code of pieces, by the answer for one of them
-- a piece was refused
pub refused : {A E : Type 0} (r : Result A E) (code : List Instr) (old new : List ℕ) → IsErr r → HasBegun code old new → IsEmitted r code old new
refused (Ok x) code old new err h = absurd (cc)
refused (Err x) code old new err h = (tt, h)

-- a code of two pieces: the first is there, and the last is appended or refused
pub emitted-last : {A E : Type 0} (r : Result A E) (code first last : List Instr) (old mid new : List ℕ) → code ≡ first ++ last → HasGrown first old mid
    → IsEmitted r last mid new → IsEmitted r code old new
emitted-last (Ok x) code first last old mid new e h k = (subst (λ l. HasGrown l old new) (sym e) (grown-then first last old mid new h k.0), tt)
emitted-last (Err x) code first last old mid new e h k = (tt, subst (λ l. HasBegun l old new) (sym e) (begun-then first last old mid new h k.1))

-- a code of three pieces: the first is there, and the next is refused
pub refused-next : {A E : Type 0} (r : Result A E) (code first next rest : List Instr) (old mid new : List ℕ) → code ≡ first ++ (next ++ rest) → IsErr r
    → HasGrown first old mid → HasBegun next mid new → IsEmitted r code old new
refused-next r code first next rest old mid new e err h k =
    refused r code old new err (subst (λ l. HasBegun l old new) (sym e) (begun-then first (next ++ rest) old mid new h (begun-first next rest mid new k)))

-- an answer's fact is carried on
pub on-ok-map : {E A : Type 0} (r : Result A E) (P Q : Type 0) → (P → Q) → OnOk r P → OnOk r Q
on-ok-map (Ok x) P Q f p = f p
on-ok-map (Err e) P Q f p = tt
