-- Where an image stabilizes, the first head is reached in time, and the next one ends a round.
use Rattle.std.proofs.Common.{◌≡◌, ℕ, ◌+◌, ◌-◌, ◌<◌, ◌≤◌, List, sym, ap, ◌∙◌, subst, ⊎_elim, arith}
use Rattle.std.proofs.lemmas.Bool.{cases_lt}
use Rattle.rv_machine.specs.Hart.{HartState, IsValid}
use Rattle.rv_machine.specs.Run.{FeedState, RunsTo, after, left_after}
use Rattle.rv_machine.proofs.Run.{after-add, runs-add}
use Rattle.asm_names.specs.declared.program.Resolved.{Resolved}
use Rattle.round_spec.specs.Heads.{IsAway, IsFirstHead}
use Rattle.round_spec.specs.Round.{Compiled, Round}
use Rattle.round_spec.specs.Stabilizes.{IsStable}

module _ (rom_size size : ℕ) (p : Resolved) (built : Compiled) (stable : IsStable rom_size size p built) (readings : List ℕ) (m : HartState) (v : IsValid size m) where
  pub anchor-not_late : IsAway built.rom readings m built.needs.anchor → ⊥
  anchor-not_late away = let r = stable.stabilizes.anchored m readings v in away r.0 r.1 r.2

  module _ (head : m.pc ≡ 0) where
    abbrev rest : List ℕ
    rest = left_after built.rom 1 readings m

    abbrev first : HartState
    first = after built.rom 1 readings m

    -- the ticks after the first one
    from_first : (t : ℕ) → 0 < t → after built.rom (t - 1) rest first ≡ after built.rom t readings m
    from_first t h =
        let e : 1 + (t - 1) ≡ t = omega arith in
        sym (after-add built.rom 1 (t - 1) readings m) ∙ ap (λ n. after built.rom n readings m) e

    pub round-not_late : IsAway built.rom rest first (built.needs.round - 1) → ⊥
    round-not_late away =
        let r = stable.stabilizes.rounds m readings v head in
        let lasts = r.2.lasts in
        let bound = r.1 in
        away (r.0 - 1) (omega arith) (ap (λ n. n.pc) (from_first r.0 lasts) ∙ r.2.ends)

    pub round-first : (k : ℕ) → IsFirstHead built.rom rest first k → (k + 1 ≤ built.needs.round) × Round p built readings m (k + 1) (after built.rom (k + 1) readings m)
    round-first k found =
        let r = stable.stabilizes.rounds m readings v head in
        let lasts = r.2.lasts in
        let here : (after built.rom (k + 1) readings m).pc ≡ 0 =
        let n : k + 1 - 1 ≡ k = omega arith in
        ap (λ n. n.pc) (sym (from_first (k + 1) (omega arith)) ∙ ap (λ i. after built.rom i rest first) n) ∙ found.here in
        ⊎_elim (λ (l : k + 1 < r.0). absurd (r.2.away (k + 1) (omega arith) l here))
        (λ (g : r.0 ≤ k + 1).
        ⊎_elim (λ (l : r.0 - 1 < k). absurd (found.first (r.0 - 1) l (ap (λ n. n.pc) (from_first r.0 lasts) ∙ r.2.ends)))
        (λ (h : k ≤ r.0 - 1).
        let e : r.0 ≡ k + 1 = omega arith in
        (omega (arith, r.1), subst (λ t. Round p built readings m t (after built.rom t readings m)) e r.2))
        (cases_lt (r.0 - 1) k))
        (cases_lt (k + 1) r.0)

-- from a hart there is one round at most
pub round-once : (p : Resolved) (built : Compiled) (readings : List ℕ) (m m1 m2 : HartState) (t u : ℕ) → Round p built readings m t m1 → Round p built readings m u m2 → m1 ≡ m2
round-once p built readings m m1 m2 t u a b =
    ⊎_elim (λ (l : t < u). absurd (b.away t a.lasts l (ap (λ (n : HartState). n.pc) a.arrives ∙ a.ends)))
    (λ (g : u ≤ t).
    ⊎_elim (λ (l : u < t). absurd (a.away u b.lasts l (ap (λ (n : HartState). n.pc) b.arrives ∙ b.ends)))
    (λ (h : t ≤ u). let e : t ≡ u = omega arith in sym a.arrives ∙ ap (λ n. after built.rom n readings m) e ∙ b.arrives)
    (cases_lt u t))
    (cases_lt t u)

-- the same, said of the runs of a hart and a feed
module _ (rom_size size : ℕ) (p : Resolved) (built : Compiled) (stable : IsStable rom_size size p built) (feed feed1 : FeedState) (m m1 : HartState) (v : IsValid size m) (head : m.pc ≡ 0) (one : RunsTo built.rom 1 feed feed1 m m1) where
  pub round-ran_late : IsAway built.rom feed1.left m1 (built.needs.round - 1) → ⊥
  round-ran_late away =
      round-not_late rom_size size p built stable feed.left m v head
      (subst (λ l. IsAway built.rom l (after built.rom 1 feed.left m) (built.needs.round - 1)) one.left
      (subst (λ n. IsAway built.rom feed1.left n (built.needs.round - 1)) one.hart away))

  pub round-ran : (k : ℕ) (feed2 : FeedState) (m2 : HartState) → IsFirstHead built.rom feed1.left m1 k → RunsTo built.rom k feed1 feed2 m1 m2
      → Round p built feed.left m (k + 1) m2
  round-ran k feed2 m2 found more =
      let found' =
      subst (λ l. IsFirstHead built.rom l (after built.rom 1 feed.left m) k) one.left
      (subst (λ n. IsFirstHead built.rom feed1.left n k) one.hart found) in
      let all = runs-add built.rom 1 k feed feed1 feed2 m m1 m2 one more in
      let e : 1 + k ≡ k + 1 = omega arith in
      let end : m2 ≡ after built.rom (k + 1) feed.left m = all.hart ∙ ap (λ t. after built.rom t feed.left m) e in
      subst (Round p built feed.left m (k + 1)) (sym end) (round-first rom_size size p built stable feed.left m v head k found').1

  pub round-ran_within : (k : ℕ) → IsFirstHead built.rom feed1.left m1 k → k + 1 ≤ built.needs.round
  round-ran_within k found =
      let found' =
      subst (λ l. IsFirstHead built.rom l (after built.rom 1 feed.left m) k) one.left
      (subst (λ n. IsFirstHead built.rom feed1.left n k) one.hart found) in
      (round-first rom_size size p built stable feed.left m v head k found').0
