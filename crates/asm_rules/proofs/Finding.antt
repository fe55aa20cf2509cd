-- What is read is what stands there.
use Rattle.std.proofs.Common.{◌≡◌, ℕ, zero, suc, Bool, true, false, cond, List, [], ◌∷◌, ◌++◌, length, map, Ok, refl, sym, ap, ◌∙◌, append_assoc}
use Rattle.std.specs.List.{AllByRecursion}
use Rattle.std.proofs.lemmas.List.{append-nil}
use Rattle.asm_tokens.specs.declared.token.Sign.{Sign}
use Rattle.asm_tokens.specs.declared.token.Sign.TheVariants as signs
use Rattle.asm_rules.specs.Grammar.{Text, ◌·◌, each_after, sign}
use Rattle.asm_rules.specs.Reading.{Input, Parser, and_then, ◌>>=◌, pure, next, sees_sign, after_sign, more_from, separated, in_parens}
use Rattle.asm_rules.proofs.Steps.{Takes, ◌▸◌, Takes-same, bind_ok, ok_is, sign_takes, sees_sign_is}

-- each value that p reads is good, and its text is what was taken
abbrev pub Finds : {A : Type 0} → (A → Text) → (A → Type 0) → Parser A → Type 0
Finds {A} text Good p = (i j : Input) (x : A) → p i ≡ Ok (x, j) → Takes i (text x) j × Good x

after_taken : (s : Sign) (i : Input) → sees_sign s i ≡ true → after_sign s i ≡ next i
unfolding after_sign
after_taken s i h = rw h refl

after_left : (s : Sign) (i : Input) → sees_sign s i ≡ false → after_sign s i ≡ i
unfolding after_sign
after_left s i h = rw h refl

sees_sign_takes : (s : Sign) (i : Input) → sees_sign s i ≡ true → Takes i (sign s) (next i)
sees_sign_takes s i h = record { parts = sees_sign_is s i h }

module _ {A : Type 0} (s : Sign) (text : A → Text) (Good : A → Type 0) (item : Parser A) (finds : Finds text Good item) where
  pub record Items (found all : List A) (i j : Input) : Type 0 where
    pub xs : List A
    pub whole : all ≡ found ++ xs
    pub taken : Takes i (each_after s (map text xs)) j
    pub good : AllByRecursion Good xs

  turned : (n : ℕ) → ((found all : List A) (i j : Input) → more_from s item n found i ≡ Ok (all, j) → Items found all i j)
      → (found all : List A) (i j : Input) (more : Bool) → sees_sign s i ≡ more
      → (cond more (item >>= λ x. more_from s item n (found ++ x ∷ [])) (pure found)) (after_sign s i) ≡ Ok (all, j) → Items found all i j
  turned n again found all i j true sees h =
      let a = bind_ok h in
      let h' : item (next i) ≡ Ok (a.0, a.1) = ap item (sym (after_taken s i sees)) ∙ a.2 in
      let first = finds (next i) a.1 a.0 h' in
      let others = again (found ++ a.0 ∷ []) all a.1 j a.3 in
      record {
        xs = a.0 ∷ others.xs;
        whole = others.whole ∙ append_assoc found (a.0 ∷ []) others.xs;
        taken = sees_sign_takes s i sees ▸ first.0 ▸ others.taken;
        good = (first.1, others.good);
      }
  turned n again found all i j false sees h =
      let p = ok_is h in
      record { xs = []; whole = sym p.0 ∙ sym (append-nil found); taken = record { parts = sym (after_left s i sees) ∙ p.1 }; good = tt }

  more_finds : (n : ℕ) (found all : List A) (i j : Input) → more_from s item n found i ≡ Ok (all, j) → Items found all i j
  unfolding more_from and_then
  more_finds zero found all i j h = absurd cc
  more_finds (suc n) found all i j h = turned n (more_finds n) found all i j (sees_sign s i) refl h

  -- one or more items
  pub record ItemsFound (all : List A) (i j : Input) : Type 0 where
    pub first : A
    pub others : List A
    pub whole : all ≡ first ∷ others
    pub between : Input
    pub first_taken : Takes i (text first) between
    pub others_taken : Takes between (each_after s (map text others)) j
    pub good : AllByRecursion Good (first ∷ others)

  pub separated_finds : (i j : Input) (all : List A) → separated s item i ≡ Ok (all, j) → ItemsFound all i j
  unfolding separated
  separated_finds i j all h =
      let a = bind_ok h in
      let first = finds i a.1 a.0 a.2 in
      let others = more_finds (suc (length a.1)) (a.0 ∷ []) all a.1 j a.3 in
      record {
        first = a.0;
        others = others.xs;
        whole = others.whole;
        between = a.1;
        first_taken = first.0;
        others_taken = others.taken;
        good = (first.1, others.good);
      }

-- the same between parentheses
pub in_parens_finds : {A : Type 0} (text : A → Text) (Good : A → Type 0) (item : Parser A) → Finds text Good item → (i j : Input) (all : List A) → in_parens item i ≡ Ok (all, j)
    → (first : A) × (others : List A) × (all ≡ first ∷ others) × Takes i (sign signs.LeftParen · text first · each_after signs.Comma (map text others) · sign signs.RightParen) j × AllByRecursion Good (first ∷ others)
unfolding in_parens
in_parens_finds text Good item finds i j all h =
    let a = bind_ok h in
    let b = bind_ok a.3 in
    let c = bind_ok b.3 in
    let e = ok_is c.3 in
    let f = separated_finds signs.Comma text Good item finds a.1 b.1 b.0 b.2 in
    (f.first, f.others, sym e.0 ∙ f.whole, sign_takes a.2 ▸ f.first_taken ▸ f.others_taken ▸ Takes-same (sign_takes c.2) e.1, f.good)
