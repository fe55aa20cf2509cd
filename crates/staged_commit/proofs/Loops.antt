-- A loop over the padded array of each function.
use Rattle.std.proofs.Common.{◌≡◌, ◌≢◌, ℕ, suc, ◌+◌, ◌*◌, ◌<◌, ◌≤◌, Bool, true, false, List, [], ◌∷◌, length, drop, Some, refl, sym, ap, ◌∙◌, subst, inl, inr, ◌⊎◌, ⊎_elim, arith, get_or-drop}
use Rattle.std.proofs.lemmas.Bool.{cases_lt}
use Rattle.std.proofs.lemmas.Option.{slice_get_within}
use Rattle.std.specs.Prelude.{slice_get, if◌then◌else◌}
use Rattle.rv_isa.specs.declared.instr.Instr.{Instr}
use Rattle.block_code.specs.Block.{IsBlock, IsSlot}
use Rattle.block_code.specs.Footprint.{LinesTouchOnly, only_in}
use Rattle.block_code.specs.Leads.{IsEntered, IsOwnStep, Leads}
use Rattle.block_code.specs.Moment.{IsValidMoment, Moment}
use Rattle.block_code.specs.Place.{word_in}
use Rattle.block_code.specs.Plan.{IsLine, Line, Loop, Plan, Seq, len}
use Rattle.block_code.proofs.Footprint.{lines-keep-slots, lines-touch-as-done, lines-touch-more}
use Rattle.block_code.proofs.Leads.{leads-loop, leads-more, leads-nil, leads-seq}
use Rattle.block_code.proofs.Machine.{word-is}
use Rattle.block_code.proofs.Place.{loop-stands}
use Rattle.block_code.proofs.Region.{same-bytes}
use Rattle.mask_guard.proofs.Numbers.{every-word-has-an-index}
use Rattle.state_space.specs.Decoding.{index_of}
use Rattle.state_space.specs.Locations.{is_state}
use Rattle.state_space.specs.Sizes.{padded_count}
use Rattle.state_space.specs.declared.signature.Signature.{Signature}
use Rattle.state_layout.specs.declared.cell.Cell.{Cell}
use Rattle.state_layout.specs.Map.{IsCell, Placement, counter}
use Rattle.state_layout.proofs.Arrays.{padded-some}
use Rattle.staged_commit.specs.Code.{over_arrays}
use Rattle.staged_commit.specs.Law.{IsCoded, need}
use Rattle.staged_commit.specs.Spots.{Counter, IsSpot, Picture, Spot, offset, seen}
use Rattle.staged_commit.proofs.Pieces.{entered-behind, entered-first}
use Rattle.staged_commit.proofs.Spotted.{spot-below}
use Rattle.staged_commit.proofs.Spread.{apart, is-offset, width}
use Rattle.staged_commit.proofs.Touched.{Walks, walked-leads, walked-touches}
use Rattle.staged_commit.proofs.Update.{array-maskable}

module _ (placement : Placement) (coded : IsCoded placement) where
  -- all spots but the counter are as they were
  abbrev pub SameButCounter : Picture → Picture → Type 0
  SameButCounter before after = (c : Spot) → IsSpot placement c → c ≢ Counter → after c ≡ before c

  -- a loop's own code changes the counter alone
  pub own-same : (s s' : Moment) → IsOwnStep (counter placement) s s' → SameButCounter (seen placement s.hart.ram) (seen placement s'.hart.ram)
  own-same s s' own c is free =
      same-bytes 0 (width placement c) (drop (offset placement c) s'.hart.ram) (drop (offset placement c) s.hart.ram)
      (λ k f b.
      get_or-drop (offset placement c) s'.hart.ram k 0
      ∙ own.bytes (offset placement c + k) (λ w. let low = w.0 in let high = w.1 in let clear = apart placement Counter c tt is free (omega arith) in absurd (omega arith))
      ∙ sym (get_or-drop (offset placement c) s.hart.ram k 0))

  module _ (body : Placement → (fun size : ℕ) → List Instr) (inner outer : ℕ → Bool)
      (within : (o : ℕ) → inner o ≡ true → outer o ≡ true)
      (holds_slot : (o : ℕ) → counter placement ≤ o → o < counter placement + 4 → outer o ≡ true)
      (spares_slot : (o : ℕ) → counter placement ≤ o → o < counter placement + 4 → inner o ≡ false)
      -- what holds all the way, and what is done of each cell
      (Holds : Picture → Type 0) (Done : Cell → Picture → Type 0)
      (holds-on : (before after : Picture) → SameButCounter before after → Holds before → Holds after)
      (done-on : (cell : Cell) → IsCell is_state placement.signatures cell → (before after : Picture) → SameButCounter before after → Done cell before → Done cell after) where
    -- one pass: what holds goes on, what is done stays, and the cell of the counter is done
    pub record Passes (cell : Cell) (before after : Picture) : Type 0 where
      pub holds : Holds before → Holds after
      pub stays : (other : Cell) → IsCell is_state placement.signatures other → Holds before → Done other before → Done other after
      pub done : Holds before → Done cell after

    abbrev pub PassPost : (fun count : ℕ) → ℕ → Moment → Moment → Type 0
    PassPost fun count size s e =
        need placement ≤ size → Passes (record { fun = fun; index = index_of count (seen placement s.hart.ram Counter) }) (seen placement s.hart.ram) (seen placement e.hart.ram)

    module _ (line : (fun count : ℕ) → IsLine (body placement fun count))
        (walks : (fun : ℕ) (signature : Signature) → slice_get placement.signatures fun ≡ Some signature → is_state signature.kind ≡ true
        → Walks (need placement) (only_in inner) (body placement fun (padded_count signature.args)) (PassPost fun (padded_count signature.args))) where
      slot-is : IsSlot (counter placement)
      slot-is = let p = is-offset placement coded.small Counter tt in record { aligned = p.aligned; low = p.low }

      -- ---- one loop
      module _ (fun : ℕ) (signature : Signature) (here : slice_get placement.signatures fun ≡ Some signature) (held : is_state signature.kind ≡ true) where
        abbrev count : ℕ
        count = padded_count signature.args

        abbrev inside : Plan
        inside = Line (body placement fun count)

        abbrev loop : Plan
        loop = Loop count (counter placement) inside

        inside-touches : LinesTouchOnly (only_in inner) inside
        inside-touches = walked-touches (need placement) (only_in inner) (PassPost fun count) (body placement fun count) (walks fun signature here held) (line fun count)

        loop-block : IsBlock loop
        loop-block =
            let m = array-maskable placement coded fun signature here held in (
              record { some = (let a = m.some in omega arith); few = m.few },
              slot-is,
              line fun count,
              lines-keep-slots (only_in inner) (counter placement) inside slot-is spares_slot (line fun count) inside-touches,
            )

        loop-touches : LinesTouchOnly (only_in outer) loop
        loop-touches = (holds_slot, lines-touch-more (only_in inner) (only_in outer) within (λ e. e) (λ e. e) inside inside-touches)

        -- the cells of the functions before, and of this one below the counter
        abbrev Ready : ℕ → Cell → Type 0
        Ready k cell = (cell.fun < fun) ⊎ ((cell.fun ≡ fun) × (cell.index < k))

        record Inv (k : ℕ) (s : Moment) : Type 0 where
          holds : Holds (seen placement s.hart.ram)
          done : (cell : Cell) → IsCell is_state placement.signatures cell → Ready k cell → Done cell (seen placement s.hart.ram)

        inv-stable : (k : ℕ) (s s' : Moment) → IsOwnStep (counter placement) s s' → Inv k s → Inv k s'
        inv-stable k s s' own i =
            let same = own-same s s' own in
            record {
              holds = holds-on (seen placement s.hart.ram) (seen placement s'.hart.ram) same i.holds;
              done = λ cell is ready. done-on cell is (seen placement s.hart.ram) (seen placement s'.hart.ram) same (i.done cell is ready);
            }

        loop-leads : (rom : List ℕ) (size address : ℕ) (s : Moment) → IsEntered rom size address loop s → need placement ≤ size → Inv 0 s → Leads rom size address loop (Inv count) s
        loop-leads rom size address s e room start =
            leads-loop rom size e.machine address count (counter placement) slot-is (spot-below placement Counter tt size room) inside Inv inv-stable carries s e.valid start
          where
            carries : (k : ℕ) → k < count → (m : Moment) → IsValidMoment size m → m.hart.pc ≡ address + 32 → word_in (counter placement) m.hart.ram ≡ k → Inv k m
                → Leads rom size (address + 32) inside (Inv (k + 1)) m
            carries k below m valid at counted i =
                leads-more rom size (address + 32) inside m (PassPost fun count size m) (Inv (k + 1))
                (walked-leads (need placement) (only_in inner) (PassPost fun count) (body placement fun count) (walks fun signature here held) rom size (address + 32) m
                (record { machine = e.machine; block = line fun count; holds = tt; stands = (loop-stands rom address count (counter placement) inside e.stands).body_at; valid = valid; here = at }) room)
                (λ s' d post.
                let pass = post room in
                record {
                  holds = pass.holds i.holds;
                  done = λ cell is ready. by cell is ready (pass.stays cell is i.holds) (λ same. subst (λ c. Done c (seen placement s'.hart.ram)) (sym same) (pass.done i.holds));
                })
              where
                index : index_of count (seen placement m.hart.ram Counter) ≡ k
                index = ap (index_of count) (word-is (counter placement) m.hart.ram ∙ counted) ∙ (every-word-has-an-index count k (padded-some signature.args)).1 below

                by : (cell : Cell) → IsCell is_state placement.signatures cell → Ready (k + 1) cell → {now : Type 0} → (Done cell (seen placement m.hart.ram) → now)
                    → (cell ≡ record { fun = fun; index = index_of count (seen placement m.hart.ram Counter) } → now) → now
                by cell is (inl before) old new = old (i.done cell is (inl before))
                by cell is (inr (same, low)) old new =
                    ⊎_elim
                    (λ less. old (i.done cell is (inr (same, less))))
                    (λ last.
                    let at : cell.index ≡ index_of count (seen placement m.hart.ram Counter) = (let f : cell.index ≡ k = omega arith in f ∙ sym index) in
                    new (ap (λ n. record { fun = n; index = cell.index }) same ∙ ap (λ n. record { fun = fun; index = n }) at))
                    (cases_lt cell.index k)

      -- ---- all loops

      -- the cells of the functions before are done
      pub record AllDone (n : ℕ) (s : Moment) : Type 0 where
        pub holds : Holds (seen placement s.hart.ram)
        pub done : (cell : Cell) → IsCell is_state placement.signatures cell → cell.fun < n → Done cell (seen placement s.hart.ram)

      abbrev IsSuffix : ℕ → List Signature → Type 0
      IsSuffix n signatures = (i : ℕ) → slice_get placement.signatures (n + i) ≡ slice_get signatures i

      first-of : (n : ℕ) (signature : Signature) (signatures : List Signature) → IsSuffix n (signature ∷ signatures) → slice_get placement.signatures n ≡ Some signature
      first-of n signature signatures suffix = let e : n ≡ n + 0 = omega arith in ap (slice_get placement.signatures) e ∙ suffix 0

      rest-of : (n : ℕ) (signature : Signature) (signatures : List Signature) → IsSuffix n (signature ∷ signatures) → IsSuffix (n + 1) signatures
      rest-of n signature signatures suffix i = let e : n + 1 + i ≡ n + suc i = omega arith in ap (slice_get placement.signatures) e ∙ suffix (suc i)

      over-block : (signatures : List Signature) (n : ℕ) → IsSuffix n signatures → IsBlock (over_arrays placement body n signatures)
      over-block [] n suffix = tt
      over-block (signature ∷ signatures) n suffix = by (is_state signature.kind) refl (over-block signatures (n + 1) (rest-of n signature signatures suffix))
        where
          by : (b : Bool) → is_state signature.kind ≡ b → IsBlock (over_arrays placement body (n + 1) signatures)
              → IsBlock (if b then Seq (Loop (padded_count signature.args) (counter placement) (Line (body placement n (padded_count signature.args)))) (over_arrays placement body (n + 1) signatures) else over_arrays placement body (n + 1) signatures)
          by true e rest = (loop-block n signature (first-of n signature signatures suffix) e, rest)
          by false e rest = rest

      over-touches : (signatures : List Signature) (n : ℕ) → IsSuffix n signatures → LinesTouchOnly (only_in outer) (over_arrays placement body n signatures)
      over-touches [] n suffix = lines-touch-as-done (only_in outer) [] tt (λ rom size address s machine top. tt)
      over-touches (signature ∷ signatures) n suffix = by (is_state signature.kind) refl (over-touches signatures (n + 1) (rest-of n signature signatures suffix))
        where
          by : (b : Bool) → is_state signature.kind ≡ b → LinesTouchOnly (only_in outer) (over_arrays placement body (n + 1) signatures)
              → LinesTouchOnly (only_in outer) (if b then Seq (Loop (padded_count signature.args) (counter placement) (Line (body placement n (padded_count signature.args)))) (over_arrays placement body (n + 1) signatures) else over_arrays placement body (n + 1) signatures)
          by true e rest = (loop-touches n signature (first-of n signature signatures suffix) e, rest)
          by false e rest = rest

      over-leads : (signatures : List Signature) (n : ℕ) → IsSuffix n signatures → (rom : List ℕ) (size : ℕ) → need placement ≤ size → (address : ℕ) (s : Moment) → IsEntered rom size address (over_arrays placement body n signatures) s
          → AllDone n s → Leads rom size address (over_arrays placement body n signatures) (AllDone (n + length signatures)) s
      over-leads [] n suffix rom size room address s e all =
          leads-nil rom size address s (AllDone (n + 0)) e.valid e.here (record { holds = all.holds; done = λ cell is low. all.done cell is (omega arith) })
      over-leads (signature ∷ signatures) n suffix rom size room address s e all =
          by (is_state signature.kind) refl (over-leads signatures (n + 1) (rest-of n signature signatures suffix) rom size room) e
        where
          here : slice_get placement.signatures n ≡ Some signature
          here = first-of n signature signatures suffix

          rest : Plan
          rest = over_arrays placement body (n + 1) signatures

          same-signature : (other : Signature) → slice_get placement.signatures n ≡ Some other → other ≡ signature
          same-signature other there = let f : Some other ≡ Some signature = sym there ∙ here in cc

          signature-at : (cell : Cell) (is : IsCell is_state placement.signatures cell) → cell.fun ≡ n → is.signature ≡ signature
          signature-at cell is f = same-signature is.signature (ap (slice_get placement.signatures) (sym f) ∙ is.here)

          more : (m : Moment) → AllDone (n + 1 + length signatures) m → AllDone (n + suc (length signatures)) m
          more m a = record { holds = a.holds; done = λ cell is low. a.done cell is (omega arith) }

          by : (b : Bool) → is_state signature.kind ≡ b
              → ((at : ℕ) (m : Moment) → IsEntered rom size at (over_arrays placement body (n + 1) signatures) m → AllDone (n + 1) m → Leads rom size at (over_arrays placement body (n + 1) signatures) (AllDone (n + 1 + length signatures)) m)
              → IsEntered rom size address (if b then Seq (Loop (padded_count signature.args) (counter placement) (Line (body placement n (padded_count signature.args)))) (over_arrays placement body (n + 1) signatures) else over_arrays placement body (n + 1) signatures) s
              → Leads rom size address (if b then Seq (Loop (padded_count signature.args) (counter placement) (Line (body placement n (padded_count signature.args)))) (over_arrays placement body (n + 1) signatures) else over_arrays placement body (n + 1) signatures)
              (AllDone (n + suc (length signatures))) s
          by true held rec f =
              leads-seq rom size address (loop n signature here held) (over_arrays placement body (n + 1) signatures) s (Inv n signature here held (padded_count signature.args)) (AllDone (n + suc (length signatures)))
              (loop-leads n signature here held rom size address s (entered-first rom size address (loop n signature here held) (over_arrays placement body (n + 1) signatures) s f) room
              (record {
                holds = all.holds;
                done = λ cell is ready. ⊎_elim (λ before. all.done cell is before) (λ none. let low = none.1 in absurd (omega arith)) ready;
              }))
              (λ m b.
              leads-more rom size (address + 4 * len (loop n signature here held)) (over_arrays placement body (n + 1) signatures) m (AllDone (n + 1 + length signatures)) (AllDone (n + suc (length signatures)))
              (rec (address + 4 * len (loop n signature here held)) m (entered-behind rom size address (loop n signature here held) (over_arrays placement body (n + 1) signatures) s m (Inv n signature here held (padded_count signature.args)) f b)
              (record {
                holds = b.good.holds;
                done = λ cell is low. b.good.done cell is (ready-at cell is low);
              }))
              (λ z d a. more z a))
            where
              ready-at : (cell : Cell) → IsCell is_state placement.signatures cell → cell.fun < n + 1 → (cell.fun < n) ⊎ ((cell.fun ≡ n) × (cell.index < padded_count signature.args))
              ready-at cell is low =
                  ⊎_elim (λ before. inl before)
                  (λ last. let at : cell.fun ≡ n = omega arith in inr (at, subst (λ z. cell.index < padded_count z.args) (signature-at cell is at) is.below))
                  (cases_lt cell.fun n)
          by false other rec f =
              leads-more rom size address (over_arrays placement body (n + 1) signatures) s (AllDone (n + 1 + length signatures)) (AllDone (n + suc (length signatures)))
              (rec address s f (record {
                holds = all.holds;
                done = λ cell is low.
                    ⊎_elim (λ before. all.done cell is before)
                    (λ last. let at : cell.fun ≡ n = omega arith in let held : is_state signature.kind ≡ true = subst (λ z. is_state z.kind ≡ true) (signature-at cell is at) is.held in absurd (cc))
                    (cases_lt cell.fun n);
              }))
              (λ z d a. more z a)

      -- ---- over all functions
      whole : IsSuffix 0 placement.signatures
      whole i = let e : 0 + i ≡ i = omega arith in ap (slice_get placement.signatures) e

      pub loops-block : IsBlock (over_arrays placement body 0 placement.signatures)
      loops-block = over-block placement.signatures 0 whole

      pub loops-touch : LinesTouchOnly (only_in outer) (over_arrays placement body 0 placement.signatures)
      loops-touch = over-touches placement.signatures 0 whole

      pub record LoopsDone (s : Moment) : Type 0 where
        pub holds : Holds (seen placement s.hart.ram)
        pub done : (cell : Cell) → IsCell is_state placement.signatures cell → Done cell (seen placement s.hart.ram)

      pub loops-lead : (rom : List ℕ) (size : ℕ) → need placement ≤ size → (address : ℕ) (s : Moment) → IsEntered rom size address (over_arrays placement body 0 placement.signatures) s
          → Holds (seen placement s.hart.ram) → Leads rom size address (over_arrays placement body 0 placement.signatures) LoopsDone s
      loops-lead rom size room address s e holds =
          leads-more rom size address (over_arrays placement body 0 placement.signatures) s (AllDone (0 + length placement.signatures)) LoopsDone
          (over-leads placement.signatures 0 whole rom size room address s e (record { holds = holds; done = λ cell is low. absurd (omega arith) }))
          (λ z d a. record { holds = a.holds; done = λ cell is. a.done cell is (let h = slice_get_within placement.signatures cell.fun is.signature is.here in omega arith) })
