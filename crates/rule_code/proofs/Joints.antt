-- Lists that are joined, step by step.
use Rattle.std.proofs.Common.{◌≡◌, ℕ, zero, suc, List, [], ◌∷◌, ◌++◌, ◌≤◌, ◌<◌, ◌-◌, ◌⊎◌, inl, inr, length, arith, Option, Some, None, map, append_assoc, refl, sym, ap, ◌∙◌, subst}
use Rattle.std.{specs.Option.{option_to_list}, proofs.lemmas.List.{map-append}}
use Rattle.block_code.specs.{Plan.{Plan}, Tree.{plan_of}, declared.tree.Tree.{Tree}}
use Rattle.rule_code.specs.{Code.{halved, in_turn, paired}, Joining.{all_halved, all_in_turn, with_next}}

module _ (join : Plan → Plan → Plan) where
  -- one plan and the next, if there is one, are the first pair; behind no next there is nothing
  pub paired-more : (plan : Plan) (next : Option Plan) (others : List Plan) → (next ≡ None → others ≡ [])
      → paired join (plan ∷ (option_to_list next ++ others)) ≡ with_next join plan next ∷ paired join others
  paired-more plan None others none = subst (λ xs. paired join (plan ∷ xs) ≡ plan ∷ paired join xs) (sym (none refl)) refl
  paired-more plan (Some next) others none = refl

  one-halved : (depth : ℕ) (plan : Plan) → halved join depth plan [] ≡ plan
  one-halved zero plan = refl
  one-halved (suc depth) plan = refl

  -- neighbours are joined first
  pub halved-more : (depth : ℕ) (plans : List Plan) → all_halved join (suc depth) plans ≡ all_halved join depth (paired join plans)
  halved-more depth [] = refl
  halved-more depth (plan ∷ []) = ap Some (sym (one-halved depth plan))
  halved-more depth (plan ∷ next ∷ others) = refl

  -- so it is where some rounds are left
  pub halved-next : (depth : ℕ) (plans : List Plan) → 0 < depth → all_halved join (depth - 1) (paired join plans) ≡ all_halved join depth plans
  halved-next depth plans some = let e : suc (depth - 1) ≡ depth = omega arith in sym (halved-more (depth - 1) plans) ∙ ap (λ d. all_halved join d plans) e

  -- no round is left, or there are no neighbours
  pub halved-last : (depth : ℕ) (plans : List Plan) → (depth ≡ 0) ⊎ (length plans ≤ 1) → all_in_turn join plans ≡ all_halved join depth plans
  halved-last depth [] _ = refl
  halved-last depth (plan ∷ []) _ = ap Some (sym (one-halved depth plan))
  halved-last depth (plan ∷ next ∷ others) (inl none) = ap (λ d. all_halved join d (plan ∷ next ∷ others)) (sym none)
  halved-last depth (plan ∷ next ∷ others) (inr few) = absurd (omega arith)

  turn-last : (first : Plan) (plans : List Plan) (plan next : Plan) → in_turn join first (plans ++ plan ∷ next ∷ []) ≡ in_turn join first (plans ++ join plan next ∷ [])
  turn-last first [] plan next = refl
  turn-last first (other ∷ plans) plan next = ap (join first) (turn-last other plans plan next)

  -- the last two are joined first
  pub turned-last : (plans : List Plan) (plan next : Plan) → all_in_turn join (plans ++ plan ∷ next ∷ []) ≡ all_in_turn join (plans ++ join plan next ∷ [])
  turned-last [] plan next = refl
  turned-last (first ∷ plans) plan next = ap Some (turn-last first plans plan next)

  -- so it is with trees
  pub turned-more : (trees rest : List Tree) (before tree joint : Tree) → trees ≡ rest ++ before ∷ [] → plan_of joint ≡ join (plan_of before) (plan_of tree)
      → all_in_turn join (map plan_of (rest ++ joint ∷ [])) ≡ all_in_turn join (map plan_of (trees ++ tree ∷ []))
  turned-more trees rest before tree joint parts is =
      ap (all_in_turn join) (map-append plan_of rest (joint ∷ []) ∙ ap (λ p. map plan_of rest ++ p ∷ []) is)
      ∙ sym (turned-last (map plan_of rest) (plan_of before) (plan_of tree))
      ∙ ap (all_in_turn join) (sym (map-append plan_of rest (before ∷ tree ∷ [])) ∙ ap (map plan_of) (sym (append_assoc rest (before ∷ []) (tree ∷ [])) ∙ ap (λ ts. ts ++ tree ∷ []) (sym parts)))
