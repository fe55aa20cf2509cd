-- A term is within a depth exactly where its parts are within one less.
use Rattle.std.proofs.Common.{◌≡◌, ℕ, zero, suc, ◌-◌, ◌<◌, ◌≤◌, Bool, true, false, List, [], ◌∷◌, map, refl, sym, ap, ◌∙◌, arith, ◌&&◌}
use Rattle.std.specs.Prelude.{nat_le, ◌↔◌}
use Rattle.std.specs.List.{AllByRecursion}
use Rattle.std.proofs.Common.{Decides}
use Rattle.std.proofs.lemmas.Bool.Decides.{same_from_decides, Decides-and}
use Rattle.std.proofs.lemmas.Bool.{and_parts, and_from, leb-true, le-leb, lt-leb}
use Rattle.asm_tree.specs.declared.term.Op.{Op}
use Rattle.asm_tree.specs.declared.term.Term.{Term, Term-F, roll-Term, out-Term, roll-out-Term, map-Term, fold-roll-Term}
use Rattle.asm_tree.specs.declared.term.Term.TheVariants as terms
use Rattle.asm_tree.specs.Forms.{greatest, all_fit, term_depth, term_depth_by, term_fits, term_fits_by, IsTermWithin, term_within, terms_within}

pub depth_of : (x : Term-F Term) (t : Term) → roll-Term x ≡ t → term_depth t ≡ term_depth_by (map-Term Term ℕ term_depth x)
unfolding term_depth
depth_of x t e = ap term_depth (sym e) ∙ fold-roll-Term ℕ term_depth_by x

pub fits_of : (x : Term-F Term) (t : Term) → roll-Term x ≡ t → term_fits t ≡ term_fits_by (map-Term Term Bool term_fits x)
unfolding term_fits
fits_of x t e = ap term_fits (sym e) ∙ fold-roll-Term Bool term_fits_by x

-- each part of one level is within this depth, and a number is one that has a text
abbrev pub PartsWithin : ℕ → Term-F Term → Type 0
PartsWithin n (Term-F.Number v) = v ≤ 2147483647
PartsWithin n (Term-F.Apply w ts) = AllByRecursion (IsTermWithin n) ts
PartsWithin n (Term-F.Binary o l r) = IsTermWithin n l × IsTermWithin n r
PartsWithin n (Term-F.Not t) = IsTermWithin n t
PartsWithin n (Term-F.Min a b) = IsTermWithin n a × IsTermWithin n b
PartsWithin n (Term-F.Max a b) = IsTermWithin n a × IsTermWithin n b
PartsWithin n (Term-F.Cond g a b) = IsTermWithin n g × (IsTermWithin n a × IsTermWithin n b)

all_deep : (n : ℕ) (ts : List Term) → AllByRecursion (IsTermWithin n) ts → (greatest (map term_depth ts) ≤ n) × (all_fit (map term_fits ts) ≡ true)
all_deep n [] h = (omega arith, refl)
all_deep n (t ∷ ts) h =
    let others = all_deep n ts h.1 in
    let deep : term_depth t ≤ n = h.0.deep in
    (omega (arith, others.0), rw (h.0.fits, others.1) refl)

deep_all : (n : ℕ) (ts : List Term) → greatest (map term_depth ts) ≤ n → all_fit (map term_fits ts) ≡ true → AllByRecursion (IsTermWithin n) ts
deep_all n [] deep fits = tt
deep_all n (t ∷ ts) deep fits =
    let f = and_parts (term_fits t) (all_fit (map term_fits ts)) fits in
    (record { deep = omega arith; fits = f.0 }, deep_all n ts (omega arith) f.1)

positive_by : (x : Term-F ℕ) → 0 < term_depth_by x
positive_by (Term-F.Number v) = omega arith
positive_by (Term-F.Apply w ts) = omega arith
positive_by (Term-F.Binary o l r) = omega arith
positive_by (Term-F.Not t) = omega arith
positive_by (Term-F.Min a b) = omega arith
positive_by (Term-F.Max a b) = omega arith
positive_by (Term-F.Cond g a b) = omega arith

positive : (t : Term) → 0 < term_depth t
positive t = rw (depth_of (out-Term t) t (roll-out-Term t)) (positive_by (map-Term Term ℕ term_depth (out-Term t)))

Level : ℕ → Term-F Term → Type 0
Level n x = (term_depth_by (map-Term Term ℕ term_depth x) ≤ suc n) × (term_fits_by (map-Term Term Bool term_fits x) ≡ true)

level_from : (n : ℕ) (x : Term-F Term) → PartsWithin n x → Level n x
unfolding Level
level_from n (Term-F.Number v) h = (omega arith, le-leb v 2147483647 h)
level_from n (Term-F.Apply w ts) h = let a = all_deep n ts h in (omega (arith, a.0), a.1)
level_from n (Term-F.Binary o l r) h = let p = h.0.deep in let q = h.1.deep in (omega arith, rw (h.0.fits, h.1.fits) refl)
level_from n (Term-F.Not t) h = let p = h.deep in (omega arith, h.fits)
level_from n (Term-F.Min a b) h = let p = h.0.deep in let q = h.1.deep in (omega arith, rw (h.0.fits, h.1.fits) refl)
level_from n (Term-F.Max a b) h = let p = h.0.deep in let q = h.1.deep in (omega arith, rw (h.0.fits, h.1.fits) refl)
level_from n (Term-F.Cond g a b) h = let p = h.0.deep in let q = h.1.0.deep in let r = h.1.1.deep in (omega arith, rw (h.0.fits, h.1.0.fits, h.1.1.fits) refl)

level_to : (n : ℕ) (x : Term-F Term) → Level n x → PartsWithin n x
unfolding Level
level_to n (Term-F.Number v) h = leb-true v 2147483647 h.1
level_to n (Term-F.Apply w ts) h = deep_all n ts (omega (arith, h.0)) h.1
level_to n (Term-F.Binary o l r) h = let f = and_parts (term_fits l) (term_fits r) h.1 in (record { deep = omega (arith, h.0); fits = f.0 }, record { deep = omega (arith, h.0); fits = f.1 })
level_to n (Term-F.Not t) h = record { deep = omega (arith, h.0); fits = h.1 }
level_to n (Term-F.Min l r) h = let f = and_parts (term_fits l) (term_fits r) h.1 in (record { deep = omega (arith, h.0); fits = f.0 }, record { deep = omega (arith, h.0); fits = f.1 })
level_to n (Term-F.Max l r) h = let f = and_parts (term_fits l) (term_fits r) h.1 in (record { deep = omega (arith, h.0); fits = f.0 }, record { deep = omega (arith, h.0); fits = f.1 })
level_to n (Term-F.Cond g l r) h =
    let e = and_parts (term_fits g) (term_fits l && term_fits r) h.1 in
    let f = and_parts (term_fits l) (term_fits r) e.1 in
    (record { deep = omega (arith, h.0); fits = e.0 }, (record { deep = omega (arith, h.0); fits = f.0 }, record { deep = omega (arith, h.0); fits = f.1 }))

within : (n : ℕ) (x : Term-F Term) (t : Term) → roll-Term x ≡ t → 0 < n → IsTermWithin n t ↔ PartsWithin (n - 1) x
unfolding Level
within zero x t e some = absurd (omega arith)
within (suc n) x t e some =
    let d = depth_of x t e in
    let f = fits_of x t e in
    let same : suc n - 1 ≡ n = omega arith in
    rw same ((λ h. level_to n x (rw (← d) h.deep, sym f ∙ h.fits)), (λ h. let l = level_from n x h in record { deep = rw d l.0; fits = f ∙ l.1 }))

-- ---- the same as tests

abbrev pub parts_within : ℕ → Term-F Term → Bool
parts_within n (Term-F.Number v) = nat_le v 2147483647
parts_within n (Term-F.Apply w ts) = terms_within n ts
parts_within n (Term-F.Binary o l r) = term_within n l && term_within n r
parts_within n (Term-F.Not t) = term_within n t
parts_within n (Term-F.Min a b) = term_within n a && term_within n b
parts_within n (Term-F.Max a b) = term_within n a && term_within n b
parts_within n (Term-F.Cond g a b) = term_within n g && (term_within n a && term_within n b)

pub decided : (n : ℕ) (t : Term) → Decides (term_within n t) (IsTermWithin n t)
unfolding term_within
decided n t = (
  (λ h. let p = and_parts (nat_le (term_depth t) n) (term_fits t) h in record { deep = leb-true _ _ p.0; fits = p.1 }),
  (λ w. and_from (nat_le (term_depth t) n) (term_fits t) (le-leb _ _ w.deep) w.fits),
)

all_decided : (n : ℕ) (ts : List Term) → Decides (terms_within n ts) (AllByRecursion (IsTermWithin n) ts)
all_decided n [] = ((λ h. tt), (λ w. refl))
all_decided n (t ∷ ts) = Decides-and (term_within n t) (terms_within n ts) (decided n t) (all_decided n ts)

parts_decided : (n : ℕ) (x : Term-F Term) → Decides (parts_within n x) (PartsWithin n x)
parts_decided n (Term-F.Number v) = ((λ h. leb-true v 2147483647 h), (λ h. le-leb v 2147483647 h))
parts_decided n (Term-F.Apply w ts) = all_decided n ts
parts_decided n (Term-F.Binary o l r) = Decides-and _ _ (decided n l) (decided n r)
parts_decided n (Term-F.Not t) = decided n t
parts_decided n (Term-F.Min a b) = Decides-and _ _ (decided n a) (decided n b)
parts_decided n (Term-F.Max a b) = Decides-and _ _ (decided n a) (decided n b)
parts_decided n (Term-F.Cond g a b) = Decides-and _ _ (decided n g) (Decides-and _ _ (decided n a) (decided n b))

-- a term is within a depth where its parts are within one less
level : (n : ℕ) (x : Term-F Term) (t : Term) → roll-Term x ≡ t → 0 < n → term_within n t ≡ parts_within (n - 1) x
level n x t e some =
    let w = within n x t e some in
    let d = decided n t in
    let p = parts_decided (n - 1) x in
    same_from_decides (term_within n t) (parts_within (n - 1) x) ((λ h. w.0 (d.0 h)), (λ h. d.1 (w.1 h))) p

pub within-Number : (n v : ℕ) → 0 < n → term_within n (terms.Number v) ≡ nat_le v 2147483647
within-Number n v some = level n (Term-F.Number v) _ (terms.rolls-Number v) some

pub within-Apply : (n : ℕ) (w : List ℕ) (ts : List Term) → 0 < n → term_within n (terms.Apply w ts) ≡ terms_within (n - 1) ts
within-Apply n w ts some = level n (Term-F.Apply w ts) _ (terms.rolls-Apply w ts) some

pub within-Binary : (n : ℕ) (o : Op) (l r : Term) → 0 < n → term_within n (terms.Binary o l r) ≡ (term_within (n - 1) l && term_within (n - 1) r)
within-Binary n o l r some = level n (Term-F.Binary o l r) _ (terms.rolls-Binary o l r) some

pub within-Not : (n : ℕ) (t : Term) → 0 < n → term_within n (terms.Not t) ≡ term_within (n - 1) t
within-Not n t some = level n (Term-F.Not t) _ (terms.rolls-Not t) some

pub within-Min : (n : ℕ) (l r : Term) → 0 < n → term_within n (terms.Min l r) ≡ (term_within (n - 1) l && term_within (n - 1) r)
within-Min n l r some = level n (Term-F.Min l r) _ (terms.rolls-Min l r) some

pub within-Max : (n : ℕ) (l r : Term) → 0 < n → term_within n (terms.Max l r) ≡ (term_within (n - 1) l && term_within (n - 1) r)
within-Max n l r some = level n (Term-F.Max l r) _ (terms.rolls-Max l r) some

pub within-Cond : (n : ℕ) (g l r : Term) → 0 < n → term_within n (terms.Cond g l r) ≡ (term_within (n - 1) g && (term_within (n - 1) l && term_within (n - 1) r))
within-Cond n g l r some = level n (Term-F.Cond g l r) _ (terms.rolls-Cond g l r) some

-- nothing has depth 0
pub none_within : (t : Term) → term_within 0 t ≡ false
unfolding term_within
none_within t = rw (lt-leb (term_depth t) 0 (positive t)) refl

pub ruleset levels = (none_within, within-Number, within-Apply, within-Binary, within-Not, within-Min, within-Max, within-Cond)
