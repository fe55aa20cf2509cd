-- Blocks that stand at address 0, with jumps to it behind them.
use Rattle.std.proofs.Common.{◌≡◌, ◌≢◌, ℕ, zero, suc, ◌+◌, ◌-◌, ◌*◌, ◌/◌, ◌%◌, ◌^◌, ◌<◌, ◌≤◌, max, List, [], ◌∷◌, ◌++◌, length, length-append, map, Option, Some, None, Bool, true, false, cond, All, pos, neg_ℤ, refl, sym, ap, ◌∙◌, subst, inl, inr, ◌⊎◌, ⊎_elim, arith}
use Rattle.std.proofs.lemmas.Bool.{cases_lt}
use Rattle.std.proofs.lemmas.List.{length-map}
use Rattle.std.proofs.lemmas.List.Elements.{All-cons, All-nil}
use Rattle.std.specs.Prelude.{◌==◌}
use Rattle.rv_isa.specs.declared.instr.Instr.{Instr}
use Rattle.rv_machine.specs.Code.{Stands, step}
use Rattle.rv_machine.specs.Hart.{HartState, IsValid}
use Rattle.rv_machine.specs.Image.{jump_home}
use Rattle.rv_machine.specs.Run.{after, events, left_after, offered, ports_taken, words_sent}
use Rattle.rv_machine.specs.Effect.{effect}
use Rattle.rv_machine.specs.Tick.{Event, Quiet, Took, Sent, Ticks, Trapped, done, fetched, jump, load, perform, store, tick, trap}
use Rattle.rv_machine.specs.declared.effect.Effect.{Effect}
use Rattle.rv_machine.specs.declared.effect.Effect.TheVariants.{Pass, Write, Jump, JumpAndLink, Load, Store, Trap}
use Rattle.rv_machine.proofs.Fetch.{fetched-word, length-rows, stands-written, word-fetched}
use Rattle.rv_machine.proofs.Run.{tick-fetched}
use Rattle.trap_model.specs.Width.{bytes_of}
use Rattle.trap_model.specs.declared.map.Loads.{Loads}
use Rattle.trap_model.specs.declared.map.Loads.TheVariants.{InPort, Ram as FromRam, Rom as FromRom, Trap as NoLoad}
use Rattle.trap_model.specs.declared.map.Stores.{Stores}
use Rattle.trap_model.specs.declared.map.Stores.TheVariants.{OutPort, Ram as IntoRam, Trap as NoStore}
use Rattle.trap_model.specs.declared.width.Width.{Width}
use Rattle.block_code.specs.Block.{IsBlock}
use Rattle.block_code.specs.Effect.{Does, Holds, Stops, moved}
use Rattle.block_code.specs.Ends.{Arrived, Ends, EndsAt, Onward, Stopped}
use Rattle.block_code.specs.Home.{ComesHome, ComesHomeSoon, FetchedAt, GoesRound, GoneRound, IsClosed, TableFallsThrough, WrittenIsClosed, closed_code, jumps_home, started, table_entry}
use Rattle.block_code.specs.Moment.{IsValidMoment, Moment, at_ports, is_trap, moment_after, moment_by, next, ticked, traps}
use Rattle.block_code.specs.Place.{Within}
use Rattle.block_code.specs.Plan.{Plan, code, entry, full, len, nest}
use Rattle.block_code.proofs.After.{ends-at, moments-are-runs}
use Rattle.block_code.proofs.Ends.{ends-both, ends-map}
use Rattle.block_code.proofs.Forms.{jump-to, plus-backward}
use Rattle.block_code.proofs.Machine.{displaced, does-jal, does-lui, valid-next}
use Rattle.block_code.proofs.Nest.{both-more, law-of-nest}
use Rattle.block_code.proofs.Place.{length-code, stands-append, stands-at, stands-block}
use Rattle.block_code.proofs.Starts.{law-of-start}
use Rattle.block_code.proofs.Steps.{next-at, traps-at}
use Rattle.block_code.proofs.Structure.{law-of-effect, law-of-entry, law-of-no-return}

-- ---- what stands behind a block
module _ (rom : List ℕ) where
  jumps-stand : (from count : ℕ) → Stands rom (4 * from) (jumps_home from count) → (k : ℕ) → from ≤ k → k < from + count → FetchedAt rom k (jump_home (4 * k))
  jumps-stand from zero stands k above below = absurd (omega arith)
  jumps-stand from (suc count) stands k above below =
      ⊎_elim
      (λ h. jumps-stand (from + 1) count (stands-at rom (4 * from + 4) (4 * (from + 1)) (jumps_home (from + 1) count) (omega arith) stands.1) k (omega arith) (omega arith))
      (λ h. let here : from ≡ k = omega arith in subst (λ n. FetchedAt rom n (jump_home (4 * n))) here stands.0)
      (cases_lt from k)

  tables-stand : (from : ℕ) (indices : List ℕ) → Stands rom (4 * from) (map table_entry indices) → (k : ℕ) → from ≤ k → k < from + length indices
      → (index : ℕ) × FetchedAt rom k (table_entry index)
  tables-stand from [] stands k above below = absurd (omega arith)
  tables-stand from (i ∷ is) stands k above below =
      ⊎_elim
      (λ h. tables-stand (from + 1) is (stands-at rom (4 * from + 4) (4 * (from + 1)) (map table_entry is) (omega arith) stands.1) k (omega arith) (omega arith))
      (λ h. let here : from ≡ k = omega arith in (i, subst (λ n. FetchedAt rom n (table_entry i)) here stands.0))
      (cases_lt from k)

pub length-jumps : (from count : ℕ) → length (jumps_home from count) ≡ count
length-jumps from zero = refl
length-jumps from (suc count) = ap suc (length-jumps (from + 1) count)

pub written-is-closed : WrittenIsClosed
written-is-closed rom written size tree gap indices machine image rows =
    let entries = map table_entry indices in
    let jumps = jumps_home (len tree + 1) gap in
    let stands = stands-written rom written image [] written (closed_code tree gap indices) refl rows in
    let parts = stands-block rom 0 tree (jump_home (4 * len tree) ∷ (jumps ++ entries)) stands in
    let next = stands-at rom (0 + 4 * len tree + 4) (4 * (len tree + 1)) (jumps ++ entries) (omega arith) parts.1.1 in
    let behind = stands-append rom (4 * (len tree + 1)) jumps entries next in
    let last = stands-at rom (4 * (len tree + 1) + 4 * length jumps) (4 * (len tree + 1 + gap)) entries (let e = length-jumps (len tree + 1) gap in omega arith) behind.1 in
    let fits = image.fits in
    let start : 0 + 4 * len tree ≡ 4 * len tree = omega arith in
    let count : length written ≡ len tree + 1 + gap + length indices =
    length-rows written (closed_code tree gap indices) rows ∙ length-append (code tree) (jump_home (4 * len tree) ∷ (jumps ++ entries))
    ∙ omega (arith, length-code tree, length-append jumps entries, length-jumps (len tree + 1) gap, length-map indices table_entry) in
    record {
      machine = machine;
      stands = parts.0;
      room = omega arith;
      apart = omega arith;
      inside = omega arith;
      tables = λ k from below. tables-stand rom (len tree + 1 + gap) indices last k from below;
      before = λ k from below in_rom.
          ⊎_elim (λ h. jumps-stand rom (len tree + 1) gap behind.0 k (omega arith) below)
          (λ h. let here : len tree ≡ k = omega arith in subst (λ n. FetchedAt rom n (jump_home (4 * n))) here (subst (λ a. fetched rom a ≡ Some (jump_home (4 * len tree))) start parts.1.0))
          (cases_lt (len tree) k);
      behind = λ k from in_rom. fetched-word rom k (jump_home (4 * k)) in_rom (image.padding k (omega arith) in_rom);
    }

pub table-falls-through : TableFallsThrough
table-falls-through rom reading m index f = tick-fetched rom reading m (table_entry index) f ∙ does-lui rom reading m 0 index

-- ---- a tick that traps, and one that jumps home
module _ (rom : List ℕ) (reading : ℕ) (m : HartState) where
  abbrev TrapsHome : Ticks → Type 0
  TrapsHome t = is_trap t.event ≡ true → t.hart.pc ≡ 0

  jump-traps : (target : ℕ) (regs : List ℕ) → TrapsHome (jump m target regs)
  jump-traps target regs = cases (target % 4 == 0)
    where
      cases : (b : Bool) → TrapsHome (cond b (record { hart = record { pc = target; regs = regs; ram = m.ram }; event = Quiet }) (trap m))
      cases true e = absurd (cc)
      cases false e = refl

  load-traps : (rd : ℕ) (width : Width) (signed : Bool) (from : Loads) → TrapsHome (load rom reading rd width signed m from)
  load-traps rd width signed (FromRom offset) e = absurd (cc)
  load-traps rd width signed (FromRam offset) e = absurd (cc)
  load-traps rd width signed (InPort port) e = absurd (cc)
  load-traps rd width signed NoLoad e = refl

  store-traps : (width x : ℕ) (to : Stores) → TrapsHome (store m width x to)
  store-traps width x (IntoRam offset) e = absurd (cc)
  store-traps width x (OutPort port) e = absurd (cc)
  store-traps width x NoStore e = refl

  done-traps : (e : Effect) → TrapsHome (done rom reading e m)
  unfolding done
  done-traps Pass t = absurd (cc)
  done-traps (Write rd x) t = absurd (cc)
  done-traps (Jump target) t = jump-traps target m.regs t
  done-traps (JumpAndLink rd target) t = jump-traps target _ t
  done-traps (Load rd address width signed) t = load-traps rd width signed _ t
  done-traps (Store address width x) t = store-traps (bytes_of width) x _ t
  done-traps Trap t = refl

  perform-traps : (o : Option Instr) → TrapsHome (perform rom reading o m)
  perform-traps (Some i) t = done-traps (effect i m) t
  perform-traps None t = refl

module _ (rom : List ℕ) where
  trap-home : (s : Moment) → traps rom s ≡ true → (next rom s).hart.pc ≡ 0
  unfolding next traps tick
  trap-home s t = perform-traps rom (offered s.readings) s.hart (fetched rom s.hart.pc) t

  jump-back : (s : Moment) → s.hart.pc < 2 ^ 32 → fetched rom s.hart.pc ≡ Some (jump_home s.hart.pc) → (next rom s ≡ moved 0 s) × (traps rom s ≡ false)
  jump-back s low f =
      let to : displaced s.hart.pc (neg_ℤ (pos s.hart.pc)) ≡ 0 = plus-backward s.hart.pc s.hart.pc (omega arith) low ∙ omega arith in
      let does : step rom (offered s.readings) (jump_home s.hart.pc) s.hart ≡ record { hart = record { pc = 0; regs = s.hart.regs; ram = s.hart.ram }; event = Quiet } =
      does-jal rom (offered s.readings) s.hart (neg_ℤ (pos s.hart.pc)) ∙ ap (λ t. jump s.hart t s.hart.regs) to ∙ jump-to s.hart 0 refl in
      (next-at rom s (jump_home s.hart.pc) f ∙ ap (λ t. moment_by t s) does, traps-at rom s (jump_home s.hart.pc) f ∙ ap (λ t. is_trap t.event) does)

  -- a tick where nothing is fetched goes home
  none-home : (s : Moment) → fetched rom s.hart.pc ≡ None → (next rom s).hart.pc ≡ 0
  unfolding next tick
  none-home s e = ap (λ o. (perform rom (offered s.readings) o s.hart).hart.pc) e

  -- a table word leads on to the next word
  table-on : (s : Moment) (index : ℕ) → s.hart.pc + 4 < 2 ^ 32 → fetched rom s.hart.pc ≡ Some (table_entry index) → next rom s ≡ moved (s.hart.pc + 4) s
  table-on s index low f =
      let to : (s.hart.pc + 4) % 2 ^ 32 ≡ s.hart.pc + 4 = omega arith in
      next-at rom s (table_entry index) f ∙ ap (λ t. moment_by t s) (does-lui rom (offered s.readings) s.hart 0 index) ∙ ap (λ a. moved a s) to

  -- the last of some ticks
  last-tick : (t : ℕ) (s : Moment) → moment_after rom (suc t) s ≡ next rom (moment_after rom t s)
  last-tick zero s = refl
  last-tick (suc t) s = last-tick t (next rom s)

-- what is taken and sent is seen at the ports alone
pub ports-of : (es : List Event) → ports_taken es ≡ ports_taken (at_ports es)
ports-of [] = refl
ports-of (Quiet ∷ es) = ports-of es
ports-of (Took port ∷ es) = ap (λ l. port ∷ l) (ports-of es)
ports-of (Sent port value ∷ es) = ports-of es
ports-of (Trapped ∷ es) = ports-of es

pub words-of : (es : List Event) → words_sent es ≡ words_sent (at_ports es)
words-of [] = refl
words-of (Quiet ∷ es) = words-of es
words-of (Took port ∷ es) = words-of es
words-of (Sent port value ∷ es) = ap (λ l. (port, value) ∷ l) (words-of es)
words-of (Trapped ∷ es) = words-of es

untrapped-event : (e : Event) → is_trap e ≡ false → e ≢ Trapped
untrapped-event Quiet h e = cc
untrapped-event (Took port) h e = cc
untrapped-event (Sent port value) h e = cc
untrapped-event Trapped h e = cc

pub events-untrapped : (rom : List ℕ) (t : ℕ) (s : Moment) → ((u : ℕ) → u < t → traps rom (moment_after rom u s) ≡ false) → All (λ e. e ≢ Trapped) (events rom t s.readings s.hart)
unfolding next traps
events-untrapped rom zero s h = All-nil (λ e. e ≢ Trapped)
events-untrapped rom (suc t) s h =
    All-cons (λ e. e ≢ Trapped) (ticked rom s).event _ (untrapped-event (ticked rom s).event (h 0 (omega arith)))
    (events-untrapped rom t (next rom s) (λ u k. h (suc u) (omega arith)))

-- ---- both laws
module _ (rom : List ℕ) (size : ℕ) (tree : Plan) (is_block : IsBlock tree) (at count : ℕ) (closed : IsClosed rom size tree at count) (readings : List ℕ) (m : HartState) (valid : IsValid size m) where
  abbrev s : Moment
  s = started readings m

  at-start : IsValidMoment size s
  at-start = record { hart = valid }

  -- at a jump to 0
  at-jump : (x : Moment) (k : ℕ) → x.hart.pc ≡ 4 * k → k < length rom → FetchedAt rom k (jump_home (4 * k)) → (next rom x ≡ moved 0 x) × (traps rom x ≡ false)
  at-jump x k at below f =
      let small = closed.machine.rom_small in
      jump-back rom x (omega arith) (ap (fetched rom) at ∙ f ∙ ap (λ n. Some (jump_home n)) (sym at))

  -- just behind the block
  behind : (x : Moment) → x.hart.pc ≡ 4 * len tree → (next rom x ≡ moved 0 x) × (traps rom x ≡ false)
  behind x at = let a = closed.apart in at-jump x (len tree) at closed.room (closed.before (len tree) (omega arith) a closed.room)

  -- from a word of the tables, or from behind the last, with so many words to come
  falls : (left k : ℕ) → k + left ≡ at + count → at ≤ k → (x : Moment) → x.hart.pc ≡ 4 * k → (t : ℕ) × (t ≤ left + 1) × ((moment_after rom t x).hart.pc ≡ 0)
  falls zero k total above x here = (1, omega arith, by_place (cases_lt k (length rom)))
    where
      by_none : (o : Option Instr) → fetched rom x.hart.pc ≡ o → length rom ≤ k → (next rom x).hart.pc ≡ 0
      by_none None e past = none-home rom x e
      by_none (Some i) e past = let place = word-fetched rom x.hart.pc i e in absurd (omega (arith, place.1))

      by_place : (k < length rom) ⊎ (length rom ≤ k) → (next rom x).hart.pc ≡ 0
      by_place (inl h) = ap (λ y. y.hart.pc) (at-jump x k here h (closed.behind k (omega arith) h)).0
      by_place (inr h) = by_none (fetched rom x.hart.pc) refl h
  falls (suc left) k total above x here =
      let f = closed.tables k above (omega arith) in
      let small = closed.machine.rom_small in let inside = closed.inside in
      let on : next rom x ≡ moved (x.hart.pc + 4) x = table-on rom x f.0 (omega arith) (ap (fetched rom) here ∙ f.1) in
      let rest = falls left (k + 1) (omega arith) (omega arith) (moved (x.hart.pc + 4) x) (omega arith) in
      (suc rest.0, let h = rest.1 in omega arith, ap (λ y. (moment_after rom rest.0 y).hart.pc) on ∙ rest.2)

  home-at : (t : ℕ) → (next rom (moment_after rom t s)).hart.pc ≡ 0 → (after rom (suc t) readings m).pc ≡ 0
  home-at t e = sym (ap (λ x. x.hart.pc) (moments-are-runs rom (suc t) s)) ∙ ap (λ x. x.hart.pc) (last-tick rom t s) ∙ e

  comes : (t : ℕ) × (t ≤ max (entry tree) count + 1) × ((after rom t readings m).pc ≡ 0)
  unfolding next tick
  comes = by_fetch (fetched rom m.pc) refl
    where
      Come : Type 0
      Come = (t : ℕ) × (t ≤ max (entry tree) count + 1) × ((after rom t readings m).pc ≡ 0)

      from_end : EndsAt rom (Within 0 (0 + 4 * len tree)) (λ s'. s'.hart.pc ≡ 0 + 4 * len tree) (λ s'. Unit {0}) (entry tree) s → Come
      from_end e = (suc e.ticks, let soon = e.soon in omega arith, home-at e.ticks (by_end e.ends))
        where
          by_end : ((moment_after rom e.ticks s).hart.pc ≡ 0 + 4 * len tree)
              ⊎ (Within 0 (0 + 4 * len tree) (moment_after rom e.ticks s) × (e.ticks < entry tree) × (traps rom (moment_after rom e.ticks s) ≡ true) × Unit {0})
              → (next rom (moment_after rom e.ticks s)).hart.pc ≡ 0
          by_end (inl g) = ap (λ x. x.hart.pc) (behind (moment_after rom e.ticks s) (omega arith)).0
          by_end (inr t) = trap-home rom (moment_after rom e.ticks s) t.2

      by_fetch : (o : Option Instr) → fetched rom m.pc ≡ o → Come
      by_fetch None e = (1, omega arith, ap (λ o. (perform rom (offered readings) o m).hart.pc) e)
      by_fetch (Some i) e =
          let place = word-fetched rom m.pc i e in
          ⊎_elim
          (λ h. from_end (ends-at rom (law-of-entry tree is_block rom size 0 s closed.machine closed.stands at-start (record { from = omega arith; below = omega (arith, place.0) }))))
          (λ past. ⊎_elim
          (λ h. (1, omega arith, home-at 0 (ap (λ x. x.hart.pc) (at-jump s (m.pc / 4) place.0 place.1 (closed.before (m.pc / 4) past h place.1)).0)))
          (λ from. ⊎_elim
          (λ h.
          let left : m.pc / 4 + (at + count - m.pc / 4) ≡ at + count = omega arith in
          let fall = falls (at + count - m.pc / 4) (m.pc / 4) left from s place.0 in
          (fall.0, let few = fall.1 in omega arith, sym (ap (λ x. x.hart.pc) (moments-are-runs rom fall.0 s)) ∙ fall.2))
          (λ h. (1, omega arith, home-at 0 (ap (λ x. x.hart.pc) (at-jump s (m.pc / 4) place.0 place.1 (closed.behind (m.pc / 4) h place.1)).0)))
          (cases_lt (m.pc / 4) (at + count)))
          (cases_lt (m.pc / 4) at))
          (cases_lt (m.pc / 4) (len tree))

  -- ---- the round
  module _ (head : m.pc ≡ 0) (holds : Holds size tree) (never : (s' : Moment) → Stops rom 0 tree s s' → ⊥) where
    abbrev Done : Moment → Type 0
    Done x = IsValidMoment size x × (x.hart.pc ≡ 0 + 4 * len tree) × Does rom 0 tree s x

    -- t ticks lead out of the block, no one of them traps, and the head is met at the start alone
    record LeftBlock : Type 0 where
      ticks : ℕ
      soon : ticks ≤ full tree
      away : (u : ℕ) → 0 < u → u ≤ ticks → (moment_after rom u s).hart.pc ≢ 0
      untrapped : (u : ℕ) → u < ticks → traps rom (moment_after rom u s) ≡ false
      ends : Done (moment_after rom ticks s)

    -- behind its first word the block stays away from the head
    stays-away : {n : ℕ} (x : Moment) → IsValidMoment size x → 0 < x.hart.pc → Ends rom (Within 0 (0 + 4 * len tree)) Done (λ s'. ⊥) n x
        → Ends rom (λ y. 0 < y.hart.pc) Done (λ s'. ⊥) n x
    stays-away x v some (Arrived g) = Arrived g
    stays-away x v some (Stopped i t c) = absurd c
    stays-away x v some (Onward i t e) =
        let b = i.below in
        ends-map rom (λ y w. let f = w.1.from in omega arith) (λ y g. g) (λ y c. c)
        (ends-both rom (λ y g w. let f = w.below in omega arith) (Onward i t e)
        (law-of-no-return tree is_block rom size 0 x closed.machine closed.stands v (record { from = omega arith; below = b })))

    left-block : {n : ℕ} → n ≤ full tree → Ends rom (Within 0 (0 + 4 * len tree)) Done (λ s'. ⊥) n s → LeftBlock
    left-block few (Arrived g) = record { ticks = 0; soon = omega arith; away = λ u a b. absurd (omega arith); untrapped = λ u a. absurd (omega arith); ends = g }
    left-block few (Stopped i t c) = absurd c
    left-block {n = suc n} few (Onward i t e) =
        let some : 0 < (next rom s).hart.pc = let b = i.below in law-of-start tree is_block rom size 0 s closed.machine closed.stands at-start head (omega arith) t in
        let v = valid-next size closed.machine.ram_aligned rom closed.machine.words s at-start in
        later some (ends-at rom (stays-away (next rom s) v some e))
      where
        later : 0 < (next rom s).hart.pc → EndsAt rom (λ y. 0 < y.hart.pc) Done (λ s'. ⊥) n (next rom s) → LeftBlock
        later some r = record {
          ticks = suc r.ticks;
          soon = let h = r.soon in omega arith;
          away = away_now;
          untrapped = untrapped_now;
          ends = end r.ends;
        }
          where
            end : Done (moment_after rom r.ticks (next rom s)) ⊎ ((0 < (moment_after rom r.ticks (next rom s)).hart.pc) × (r.ticks < n) × (traps rom (moment_after rom r.ticks (next rom s)) ≡ true) × ⊥)
                → Done (moment_after rom (suc r.ticks) s)
            end (inl g) = g
            end (inr c) = absurd c.3

            away_now : (u : ℕ) → 0 < u → u ≤ suc r.ticks → (moment_after rom u s).hart.pc ≢ 0
            away_now zero a b = absurd (omega arith)
            away_now (suc u) a b = by_place (cases_lt u r.ticks)
              where
                last : (moment_after rom r.ticks (next rom s)).hart.pc ≡ 0 → Done (moment_after rom r.ticks (next rom s)) → ⊥
                last e g = let out = g.1 in let b = i.below in omega arith

                by_place : (u < r.ticks) ⊎ (r.ticks ≤ u) → (moment_after rom u (next rom s)).hart.pc ≢ 0
                by_place (inl h) e = let p = r.inside u h in omega arith
                by_place (inr h) e = let same : u ≡ r.ticks = omega arith in last (subst (λ k. (moment_after rom k (next rom s)).hart.pc ≡ 0) same e) (end r.ends)

            untrapped_now : (u : ℕ) → u < suc r.ticks → traps rom (moment_after rom u s) ≡ false
            untrapped_now zero a = t
            untrapped_now (suc u) a = r.untrapped u (omega arith)

    round : GoneRound rom readings m tree
    round = from_left (left-block {n = full tree} (omega arith) (ends-map rom {I' = Within 0 (0 + 4 * len tree)} (λ x w. w) (λ x g. g) (λ x c. never x (c holds)) (law-of-effect tree is_block rom size 0 s closed.machine closed.stands at-start head)))
      where
        from_left : LeftBlock → GoneRound rom readings m tree
        from_left l = record {
          ticks = suc l.ticks;
          some = omega arith;
          soon = let h = l.soon in omega arith;
          away = λ u a b e. l.away u a (omega arith) (ap (λ x. x.hart.pc) (moments-are-runs rom u s) ∙ e);
          untrapped = events-untrapped rom (suc l.ticks) s untrapped_all;
          ended = ended;
          does = l.ends.2;
          hart = ap (λ x. x.hart) comes_back;
          left = ap (λ x. x.readings) comes_back;
          taken = ports-of (events rom (suc l.ticks) readings m) ∙ ap (λ x. ports_taken x.log) comes_back;
          sent = words-of (events rom (suc l.ticks) readings m) ∙ ap (λ x. words_sent x.log) comes_back;
        }
          where
            ended : Moment
            ended = moment_after rom l.ticks s

            home : (next rom ended ≡ moved 0 ended) × (traps rom ended ≡ false)
            home = let out = l.ends.1 in behind ended (omega arith)

            comes_back : record { hart = after rom (suc l.ticks) readings m; readings = left_after rom (suc l.ticks) readings m; log = at_ports (events rom (suc l.ticks) readings m) } ≡ moved 0 ended
            comes_back = sym (moments-are-runs rom (suc l.ticks) s) ∙ last-tick rom l.ticks s ∙ home.0

            untrapped_all : (u : ℕ) → u < suc l.ticks → traps rom (moment_after rom u s) ≡ false
            untrapped_all u h =
                ⊎_elim (λ k. l.untrapped u k)
                (λ k. let same : l.ticks ≡ u = omega arith in subst (λ n. traps rom (moment_after rom n s) ≡ false) same home.1)
                (cases_lt u l.ticks)

pub comes-home : (tree : Plan) → IsBlock tree → ComesHome tree
comes-home tree b rom size at count readings m closed valid = comes rom size tree b at count closed readings m valid

pub comes-home-soon : (tree : Plan) → IsBlock tree → ComesHomeSoon tree
comes-home-soon tree b rom size at count depth round readings m closed valid nested long =
    let come = comes rom size tree b at count closed readings m valid in
    let few = come.1 in
    let law = law-of-nest tree b in
    let more : (nest tree + 1) * full tree ≤ (depth + 1) * round = both-more (nest tree) (full tree) depth round nested (omega arith) in
    (come.0, omega (arith, law, more, few), come.2)

pub goes-round : (tree : Plan) → IsBlock tree → GoesRound tree
goes-round tree b rom size at count readings m closed valid head holds never = round rom size tree b at count closed readings m valid head holds never
