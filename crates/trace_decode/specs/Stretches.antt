-- What holds of every play of an image that stabilizes, whatever faults come.
use Rattle.std.specs.Prelude.{◌≡◌, ℕ, zero, suc, ◌+◌, ◌*◌, ◌<◌, ◌≤◌, List, [], ◌∷◌}
use Rattle.asm_names.specs.declared.program.Resolved.{Resolved}
use Rattle.fault_script.specs.Faults.{AreEvents}
use Rattle.fault_script.specs.declared.event.Event.{Event}
use Rattle.round_spec.specs.Round.{Compiled, Round}
use Rattle.trace_decode.specs.Play.{AtHead, Cause, Faulted, Mark, Standing, marks, reached, ticked}

-- after so many ticks without a fault
abbrev pub onward : List ℕ → ℕ → Standing → Standing
onward rom zero s = s
onward rom (suc n) s = onward rom n (ticked rom s)

-- The ticks from one stand at the head to the next are a round of the program, within the round bound, and the second head line counts one more.
pub record IsNextHead (program : Resolved) (built : Compiled) (s next : Standing) : Type 0 where
  pub ticks : ℕ
  pub time : next.time ≡ s.time + ticks
  pub soon : ticks ≤ built.needs.round
  pub round : Round program built s.feed.left s.hart ticks next.hart
  pub heads : next.heads ≡ s.heads + 1

-- The first head line behind a fault comes within the anchor bound, and counts as the first.
pub record IsFirstHead (built : Compiled) (s next : Standing) : Type 0 where
  pub soon : next.time ≤ s.time + built.needs.anchor
  pub heads : next.heads ≡ 1

-- what holds of a line that is due right behind another
abbrev pub FollowsBy : Resolved → Compiled → Standing → Standing → Cause → Cause → Type 0
FollowsBy program built s next AtHead AtHead = IsNextHead program built s next
FollowsBy program built s next (Faulted fault) AtHead = IsFirstHead built s next
FollowsBy program built s next _ _ = Unit {0}

abbrev pub Follows : Resolved → Compiled → Mark → Mark → Type 0
Follows program built mark next = FollowsBy program built mark.at next.at mark.cause next.cause

-- it holds of each two of the lines that stand side by side, with this one before them
abbrev pub LinkedFrom : Resolved → Compiled → Mark → List Mark → Type 0
LinkedFrom program built mark [] = Unit {0}
LinkedFrom program built mark (next ∷ later) = Follows program built mark next × LinkedFrom program built next later

abbrev pub Linked : Resolved → Compiled → List Mark → Type 0
Linked program built [] = Unit {0}
Linked program built (mark ∷ later) = LinkedFrom program built mark later

-- After any events, so many ticks without a fault bring the hart to the head at the end of one of them, and so many more bring further heads, one for each round bound.
pub record HeadsCome (rom : List ℕ) (anchor round : ℕ) (k : ℕ) (s : Standing) : Type 0 where
  pub ticks : ℕ
  pub some : 0 < ticks
  pub soon : ticks ≤ anchor + k * round
  pub head : (onward rom ticks s).hart.pc ≡ 0
  pub heads : s.heads + (k + 1) ≤ (onward rom ticks s).heads

-- from this start, whatever happens to a hart with so many bytes of RAM
pub record KeepsBounds (size : ℕ) (program : Resolved) (built : Compiled) (start : Standing) : Type 0 where
  pub heads_come : (k : ℕ) (events : List Event) → AreEvents size events → HeadsCome built.rom built.needs.anchor built.needs.round k (reached built.rom events start)
  pub linked : (events : List Event) → AreEvents size events → Linked program built (marks built.rom events start)
