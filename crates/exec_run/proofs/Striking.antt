-- The faults of one time, one after another.
use Rattle.std.proofs.Common.{◌≡◌, ℕ, Bool, true, false, ◌==◌, List, [], ◌∷◌, ◌++◌, refl, ap, ◌∙◌}
use Rattle.std.specs.Prelude.{if◌then◌else◌}
use Rattle.std.specs.List.{AllByRecursion}
use Rattle.fault_script.specs.Faults.{AreFaultsFrom, IsFault}
use Rattle.fault_script.specs.Standings.{Standing, faulted, reached}
use Rattle.fault_script.specs.declared.event.Event.{Event}
use Rattle.fault_script.specs.declared.event.Event.TheVariants.{Tick, Reg}
use Rattle.fault_script.specs.declared.event.Timed.{Timed}
use Rattle.fault_script.proofs.Struck.{happened-fault}
use Rattle.exec_run.specs.ExecText.{due, shown_by}
use Rattle.exec_run.specs.Striking.{struck_all}

abbrev pub AreStruck : ℕ → List Timed → Type 0
AreStruck size faults = AllByRecursion (λ (fault : Timed). IsFault size fault.event) faults

pub faults-alone : (size time : ℕ) (faults : List Timed) → AreFaultsFrom size time faults → AreStruck size faults
faults-alone size time [] h = tt
faults-alone size time (fault ∷ faults) h = (h.1, faults-alone size fault.time faults h.2)

-- a fault is no tick, so that it shows nothing
shown-fault : (size : ℕ) (rom : List ℕ) (event : Event) (s : Standing) → IsFault size event → (events : List Event) → shown_by rom (event ∷ events) s ≡ shown_by rom events (faulted event s)
shown-fault size rom Tick s h events = absurd h
shown-fault size rom (Reg r mask) s h events = refl
shown-fault size rom _ s h events = refl

-- a play stands here behind these faults, and goes on as from there
pub record StruckBy (rom : List ℕ) (events : List Event) (s : Standing) : Type 0 where
  pub standing : Standing
  pub hart : standing.hart ≡ struck_all events s.hart
  pub feed : standing.feed ≡ s.feed
  pub reaches : (others : List Event) → reached rom (events ++ others) s ≡ reached rom others standing
  pub shows : (others : List Event) → shown_by rom (events ++ others) s ≡ shown_by rom others standing

none : (rom : List ℕ) (s : Standing) → StruckBy rom [] s
none rom s = record { standing = s; hart = refl; feed = refl; reaches = λ others. refl; shows = λ others. refl }

one-more : (size : ℕ) (rom : List ℕ) (event : Event) (events : List Event) (s : Standing) → IsFault size event → StruckBy rom events (faulted event s) → StruckBy rom (event ∷ events) s
one-more size rom event events s h r = record {
  standing = r.standing;
  hart = r.hart;
  feed = r.feed;
  reaches = λ others. ap (reached rom (events ++ others)) (happened-fault rom size event s h) ∙ r.reaches others;
  shows = λ others. shown-fault size rom event s h (events ++ others) ∙ r.shows others;
}

-- the faults that are due
pub struck : (size : ℕ) (rom : List ℕ) (time : ℕ) (faults : List Timed) (s : Standing) → AreStruck size faults → StruckBy rom (due time faults) s
struck size rom time [] s h = none rom s
struck size rom time (fault ∷ faults) s h = by-test (fault.time == time) (struck size rom time faults (faulted fault.event s) h.1)
  where
    by-test : (same : Bool) → StruckBy rom (due time faults) (faulted fault.event s) → StruckBy rom (if same then fault.event ∷ due time faults else []) s
    by-test true r = one-more size rom fault.event (due time faults) s h.0 r
    by-test false r = none rom s
