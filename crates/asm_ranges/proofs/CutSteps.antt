-- Intervals that are cut, step by step.
use Rattle.std.proofs.Common.{◌≡◌, ℕ, ℤ, pos, Bool, true, false, not, List, refl, sym, ap, ◌∙◌, arith, ◌≤ℤ◌, ◌+ℤ◌, inl, inr, ◌⊎◌}
use Rattle.std.{proofs.lemmas.{Bool.{cases_Bool}, Int.{ints, clamps}}, specs.{Prelude.{int_le, if◌then◌else◌}, Ordering.{int_eq}}}
use Rattle.asm_tree.specs.declared.term.Op.{Op}
use Rattle.asm_names.specs.declared.{program.Interval.{Interval}, resolved_term.ResolvedTerm.{ResolvedTerm, ResolvedTerm-F, roll-ResolvedTerm, out-ResolvedTerm, roll-out-ResolvedTerm, map-ResolvedTerm}}
use Rattle.state_space.specs.declared.signature.Signature.{Signature}
use Rattle.asm_ranges.specs.{Ranges.{Scope, range}, Facts.{compared, cut_to, cut_left, cut_sides, mirrored, opposite, without, same, cut, cut_by, cut_binary, Cutting}, Contexts.{IsCut, IsNear, IsPart}}
use Rattle.asm_ranges.proofs.{Cuts.{at-most}, Levels.{cut_at, cutting}}
use Rattle.asm_tree.specs.declared.term.Op.TheVariants as ops
use Rattle.asm_names.specs.declared.resolved_term.ResolvedTerm.TheVariants as terms

part-whole : (i : Interval) (n : ℕ) → IsNear i n → IsPart i i
part-whole i n h = record { low = omega (arith, ints); some = h.some; high = omega (arith, ints) }

pub part-of : (a b c : Interval) → IsPart a b → IsPart b c → IsPart a c
part-of a b c p q = record { low = omega (arith, ints, p.low, q.low); some = p.some; high = omega (arith, ints, p.high, q.high) }

pub near-part : (a b : Interval) (n : ℕ) → IsPart a b → IsNear b n → IsNear a n
near-part a b n p h = record { low = omega (arith, ints, p.low, h.low); some = p.some; high = omega (arith, ints, p.high, h.high) }

-- a comparison leaves no more
abbrev Shrinks : Interval → Interval → Type 0
Shrinks a b = (b.lo ≤ℤ a.lo) × (a.hi ≤ℤ b.hi)

shrinks-same : (a : Interval) → Shrinks a a
shrinks-same a = (omega (arith, ints), omega (arith, ints))

without-shrinks : (v : ℤ) (found : Interval) → Shrinks (without v found) found
without-shrinks v found = elim (cases_Bool (int_eq found.hi v)) [
  | inl e ↦ rw e (omega (arith, ints), omega (arith, ints))
  | inr e ↦ rw e (lower (cases_Bool (int_eq found.lo v)))
]
  where
    lower : (int_eq found.lo v ≡ true) ⊎ (int_eq found.lo v ≡ false) → Shrinks (if int_eq found.lo v then record { lo = found.lo +ℤ pos 1; hi = found.hi } else found) found
    lower (inl e) = rw e (omega (arith, ints), omega (arith, ints))
    lower (inr e) = rw e (shrinks-same found)

compared-shrinks : (op : Op) (other found : Interval) → Shrinks (compared op other found) found
compared-shrinks ops.Eq other found = (omega (arith, ints, clamps), omega (arith, ints, clamps))
compared-shrinks ops.Ne other found = elim (cases_Bool (int_eq other.lo other.hi)) [ inl e ↦ rw e (without-shrinks other.lo found) | inr e ↦ rw e (shrinks-same found) ]
compared-shrinks ops.Lt other found = (omega (arith, ints), omega (arith, ints, clamps))
compared-shrinks ops.Le other found = (omega (arith, ints), omega (arith, ints, clamps))
compared-shrinks ops.Gt other found = (omega (arith, ints, clamps), omega (arith, ints))
compared-shrinks ops.Ge other found = (omega (arith, ints, clamps), omega (arith, ints))
compared-shrinks _ other found = shrinks-same found

cut_to-part : (found cut : Interval) (n : ℕ) → IsNear found n → Shrinks cut found → IsPart (cut_to found cut) found
cut_to-part found cut n near s = elim (cases_Bool (int_le cut.lo cut.hi)) [
  | inl e ↦ rw e (record { low = s.0; some = at-most cut.lo cut.hi e; high = s.1 })
  | inr e ↦ rw e (part-whole found n near)
]

module _ (signatures : List Signature) (scope : Scope) (atom : ResolvedTerm) where
  pub left-same : (op : Op) (l r : ResolvedTerm) (found plain : Interval) (n : ℕ) → IsNear found n → same l atom ≡ true → plain ≡ range signatures scope r
      → IsCut (cut_left signatures scope atom op l r found) found (cut_to found (compared op plain found))
  left-same op l r found plain n near e is =
      rw (e, is) (record { is = refl; part = cut_to-part found (compared op (range signatures scope r) found) n near (compared-shrinks op (range signatures scope r) found) })

  pub left-other : (op : Op) (l r : ResolvedTerm) (found : Interval) (n : ℕ) → IsNear found n → same l atom ≡ false → IsCut (cut_left signatures scope atom op l r found) found found
  left-other op l r found n near e = rw e (record { is = refl; part = part-whole found n near })

  pub sides-both : (op : Op) (l r : ResolvedTerm) (found first last : Interval) → IsCut (cut_left signatures scope atom op l r found) found first
      → IsCut (cut_left signatures scope atom (mirrored op) r l first) first last → IsCut (cut_sides signatures scope atom op l r found) found last
  sides-both op l r found first last p q = record { is = q.is ∙ ap (cut_left signatures scope atom (mirrored op) r l) p.is; part = part-of last first found q.part p.part }

  pub cuts-both : (l r : ResolvedTerm) (truth : Bool) (found first last : Interval) → IsCut (cut signatures scope atom l truth found) found first → IsCut (cut signatures scope atom r truth first) first last
      → IsCut (cut signatures scope atom r truth (cut signatures scope atom l truth found)) found last
  cuts-both l r truth found first last p q = record { is = q.is ∙ ap (cut signatures scope atom r truth) p.is; part = part-of last first found q.part p.part }

  -- nothing is cut
  pub uncut : (whole found : Interval) (n : ℕ) → IsNear found n → whole ≡ found → IsCut whole found found
  uncut whole found n near is = record { is = sym is; part = part-whole found n near }

  pub recut : (a b found result : Interval) → a ≡ b → IsCut b found result → IsCut a found result
  recut a b found result is h = record { is = h.is ∙ sym is; part = h.part }

  pub by-Binary : (op : Op) (l r : ResolvedTerm) (truth : Bool) (found : Interval)
      → cut signatures scope atom (terms.Binary op l r) truth found ≡ cut_binary signatures scope atom op (l, cut signatures scope atom l) (r, cut signatures scope atom r) truth found
  by-Binary op l r truth found = cut_at (ResolvedTerm-F.Binary op l r) _ (terms.rolls-Binary op l r) signatures scope atom truth found

  pub by-Not : (t : ResolvedTerm) (truth : Bool) (found : Interval) → cut signatures scope atom (terms.Not t) truth found ≡ cut signatures scope atom t (not truth) found
  by-Not t truth found = cut_at (ResolvedTerm-F.Not t) _ (terms.rolls-Not t) signatures scope atom truth found

  pub by-comparison : (op : Op) (l r : ResolvedTerm) (truth : Bool) (found : Interval) → (op ≡ ops.And → ⊥) → (op ≡ ops.Or → ⊥)
      → cut signatures scope atom (terms.Binary op l r) truth found ≡ cut_sides signatures scope atom (if truth then op else opposite op) l r found
  by-comparison op l r truth found no_and no_or = by-Binary op l r truth found ∙ cases op truth no_and no_or
    where
      cases : (op : Op) (truth : Bool) → (op ≡ ops.And → ⊥) → (op ≡ ops.Or → ⊥)
          → cut_binary signatures scope atom op (l, cut signatures scope atom l) (r, cut signatures scope atom r) truth found ≡ cut_sides signatures scope atom (if truth then op else opposite op) l r found
      cases ops.And truth a o = absurd (a refl)
      cases ops.Or truth a o = absurd (o refl)
      cases _ true a o = refl
      cases _ false a o = refl

  pub by-other : (guard : ResolvedTerm) (truth : Bool) (found : Interval) → ((op : Op) (l r : ResolvedTerm) → guard ≡ terms.Binary op l r → ⊥) → ((t : ResolvedTerm) → guard ≡ terms.Not t → ⊥)
      → cut signatures scope atom guard truth found ≡ found
  by-other guard truth found no_binary no_not = by (out-ResolvedTerm guard) (roll-out-ResolvedTerm guard)
    where
      by : (x : ResolvedTerm-F ResolvedTerm) → roll-ResolvedTerm x ≡ guard → cut signatures scope atom guard truth found ≡ found
      by (ResolvedTerm-F.Binary op l r) e = absurd (no_binary op l r (sym e ∙ terms.rolls-Binary op l r))
      by (ResolvedTerm-F.Not t) e = absurd (no_not t (sym e ∙ terms.rolls-Not t))
      by x e = cut_at x guard e signatures scope atom truth found ∙ nothing x e
        where
          nothing : (x : ResolvedTerm-F ResolvedTerm) → roll-ResolvedTerm x ≡ guard → cut_by signatures scope atom (map-ResolvedTerm ResolvedTerm Cutting (cutting signatures scope atom) x) truth found ≡ found
          nothing (ResolvedTerm-F.Binary op l r) e = absurd (no_binary op l r (sym e ∙ terms.rolls-Binary op l r))
          nothing (ResolvedTerm-F.Not t) e = absurd (no_not t (sym e ∙ terms.rolls-Not t))
          nothing _ e = refl
