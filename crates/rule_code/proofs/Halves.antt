-- What holds of the parts of a list holds of them joined by halves.
use Rattle.std.proofs.Common.{◌≡◌, ℕ, zero, suc, List, [], ◌∷◌, ◌++◌, map, append_assoc, append-nil, refl, sym, ap, ◌∙◌, subst}
use Rattle.std.specs.List.{AllByRecursion}
use Rattle.block_code.specs.Plan.{Plan}
use Rattle.rule_code.specs.Code.{halved, in_turn, paired}

module _ {A : Type 0} (join : Plan → Plan → Plan) (P : List A → Plan → Type 0) (joins : (xs ys : List A) (p q : Plan) → P xs p → P ys q → P (xs ++ ys) (join p q)) where
  -- plans of the parts of a list, in order
  abbrev Parts : List A → List Plan → Type 0
  Parts xs [] = xs ≡ []
  Parts xs (p ∷ ps) = (own others : List A) × (xs ≡ own ++ others) × P own p × Parts others ps

  pairs : (ps : List Plan) (xs : List A) → Parts xs ps → Parts xs (paired join ps)
  pairs [] xs h = h
  pairs (p ∷ []) xs h = h
  pairs (p ∷ q ∷ ps) xs (own, others, e, a, (next, rest, f, b, more)) =
      (own ++ next, rest, e ∙ ap (λ zs. own ++ zs) f ∙ sym (append_assoc own next rest), joins own next p q a b, pairs ps rest more)

  turns : (p : Plan) (ps : List Plan) (own others : List A) → P own p → Parts others ps → P (own ++ others) (in_turn join p ps)
  turns p [] own others a e = subst (λ zs. P zs p) (sym (ap (λ zs. own ++ zs) e ∙ append-nil own)) a
  turns p (q ∷ ps) own others a (next, rest, e, b, more) =
      subst (λ zs. P (own ++ zs) (join p (in_turn join q ps))) (sym e) (joins own (next ++ rest) p (in_turn join q ps) a (turns q ps next rest b more))

  halves : (depth : ℕ) (p : Plan) (ps : List Plan) (own others : List A) → P own p → Parts others ps → P (own ++ others) (halved join depth p ps)
  halves zero p ps own others a h = turns p ps own others a h
  halves (suc depth) p [] own others a e = turns p [] own others a e
  halves (suc depth) p (q ∷ ps) own others a (next, rest, e, b, more) =
      subst (λ zs. P zs (halved join depth (join p q) (paired join ps))) (append_assoc own next rest ∙ sym (ap (λ zs. own ++ zs) e))
      (halves depth (join p q) (paired join ps) (own ++ next) rest (joins own next p q a b) (pairs ps rest more))

  -- plans of the items of a list
  all-parts : (plan : A → Plan) (xs : List A) → AllByRecursion (λ x. P (x ∷ []) (plan x)) xs → Parts xs (map plan xs)
  all-parts plan [] all = refl
  all-parts plan (x ∷ xs) all = (x ∷ [], xs, refl, all.0, all-parts plan xs all.1)

  pub halved-holds : (depth : ℕ) (plan : A → Plan) (x : A) (xs : List A) → P (x ∷ []) (plan x) → AllByRecursion (λ y. P (y ∷ []) (plan y)) xs
      → P (x ∷ xs) (halved join depth (plan x) (map plan xs))
  halved-holds depth plan x xs a all = halves depth (plan x) (map plan xs) (x ∷ []) xs a (all-parts plan xs all)
