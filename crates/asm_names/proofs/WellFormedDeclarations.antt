-- Declarations without faults are well formed in numbers, and what their names stand for is there.
use Rattle.asm_names.proofs.Common.{◌≡◌, ℕ, ◌+◌, ◌*◌, ◌<◌, ◌≤◌, ℤ, pos, negsuc, nat_abs, ◌-ℤ◌, ◌≤ℤ◌, int_lt, true, false, cond, not, ◌||◌, nat_lt, List, [], ◌∷◌, ◌++◌, map, length, Option, Some, inl}
use Rattle.asm_names.proofs.Common.{inr, refl, sym, ap, ◌∙◌, arith, append_assoc, slice_get, IfSome, AllByRecursion, and_parts, or_parts, ltb-false, leb-true, ints, length-map, sum_by-append}
use Rattle.asm_names.proofs.Common.{is_empty, const_fits, consts_fit, decl_fits, decls_fit, Const, Decl, Kind, Values, Fun, Meaning, Enumerator, Scope, meaning_of, number_of, sort_of_domain}
use Rattle.asm_names.proofs.Common.{size_of_domain, is_domain, is_function, domains_in, functions_in, decl_tokens, range_size, is_far, items_from, declared, times_sizes, table_faults, constants_of}
use Rattle.asm_names.proofs.Common.{domains_faults, decl_faults, names_after, decls_faults, resolved_domains, resolved_funs, index_of, resolved_const, size_of, product, IsDomain, table_length, IsFun}
use Rattle.std.proofs.Common.{length-append}
use Rattle.asm_names.proofs.Numbering.{resolved_domains-cons, resolved_funs-cons, new_domains, new_functions}
use Rattle.asm_names.proofs.Known.{all-append, parts_clean, three_clean, unmet, IsThing, Known, AllKnown, known_at, names_domain}
use Rattle.asm_names.proofs.WellFormedTerms.{counted}
use Rattle.asm_tree.specs.declared.decl.Const.TheVariants as consts
use Rattle.asm_tree.specs.declared.decl.Decl.TheVariants as decls
use Rattle.asm_tree.specs.declared.decl.Kind.TheVariants as kinds
use Rattle.asm_names.specs.declared.fault.NameFault.TheVariants as causes

-- ---- places

at_end : {A : Type 0} (xs ys : List A) (x : A) → slice_get (xs ++ x ∷ ys) (length xs) ≡ Some x
at_end [] ys x = refl
at_end (y ∷ xs) ys x = at_end xs ys x

placed : {A : Type 0} (all front back : List A) (x : A) (n : ℕ) → all ≡ front ++ x ∷ back → length front ≡ n → slice_get all n ≡ Some x
placed all front back x n split count = rw (split, sym count) (at_end front back x)

-- ---- domains

not_below : (a b : ℤ) → int_lt a b ≡ false → b ≤ℤ a
not_below a b h = omega (arith, ints, h)

range_fits : (d : Values) (hi : ℤ) → d.size ≡ range_size d.lo hi → d.items ≡ [] → int_lt hi d.lo ≡ false → (nat_lt 65536 (range_size d.lo hi) || (is_far d.lo || is_far hi)) ≡ false → IsDomain d
range_fits d hi is empty full near =
    let p = or_parts (nat_lt 65536 (range_size d.lo hi)) (is_far d.lo || is_far hi) near in
    let q = or_parts (is_far d.lo) (is_far hi) p.1 in
    let low = or_parts (int_lt d.lo (negsuc 1048575)) (int_lt (pos 1048576) d.lo) q.0 in
    let high = or_parts (int_lt hi (negsuc 1048575)) (int_lt (pos 1048576) hi) q.1 in
    let size : d.size ≡ nat_abs (hi -ℤ d.lo) + 1 = is ∙ rw full refl in
    let order : d.lo ≤ℤ hi = not_below hi d.lo full in
    let below : hi ≤ℤ pos 1048576 = not_below (pos 1048576) hi high.1 in
    record {
      some = omega (arith, size);
      few = omega (arith, is, ltb-false 65536 (range_size d.lo hi) p.0);
      low = not_below d.lo (negsuc 1048575) low.0;
      high = rw size (omega (arith, ints, order, below));
      names = inl empty;
    }

some_items : (ws : List (List ℕ)) → not (is_empty ws) ≡ true → 1 ≤ length ws
some_items [] h = cc
some_items (w ∷ ws) h = omega arith

list_fits : (d : Values) → length d.items ≡ d.size → d.lo ≡ pos 0 → 1 ≤ length d.items → length d.items ≤ 65536 → IsDomain d
list_fits d count zero_low some few = record {
  some = omega (arith, count, some);
  few = omega (arith, count, few);
  low = rw zero_low (omega (arith, ints));
  high = rw zero_low (omega (arith, ints, count, few));
  names = inr (count, zero_low);
}

module _ (domains : List Values) (funs : List Fun) where
  abbrev IsKnown : Scope → Type 0
  IsKnown = AllKnown domains funs []

  items_known : (domain index : ℕ) (ws : List (List ℕ)) → index + length ws ≤ 65536 → IsKnown (items_from domain index ws)
  items_known domain index [] few = tt
  items_known domain index (w ∷ ws) few = (omega (arith, few), items_known domain (index + 1) ws (omega (arith, few)))

  all_items_known : (domain : ℕ) (ws : List (List ℕ)) → length ws ≤ 65536 → IsKnown (items_from domain 0 ws)
  all_items_known domain ws few = items_known domain 0 ws (omega (arith, few))

  -- ---- functions

  module _ (names : Scope) (known : IsKnown names) where
    -- the numbers of the domains of arguments
    abbrev numbers : List (List ℕ) → List ℕ
    numbers args = map (λ arg. number_of (meaning_of names arg)) args

    record Arguments (args : List (List ℕ)) : Type 0 where
      pub inside : AllByRecursion (λ n. n < length domains) (numbers args)
      pub things : AllByRecursion IsThing (map (λ arg. sort_of_domain (meaning_of names arg)) args)
      pub sizes : (n : ℕ) → times_sizes n (map (λ arg. size_of_domain (meaning_of names arg)) args) ≡ Some (n * product (map (size_of domains) (numbers args)))

    arguments : (args : List (List ℕ)) (at : ℕ) → domains_faults names args at ≡ [] → Arguments args
    arguments [] at h = record { inside = tt; things = tt; sizes = λ n. let once : n ≡ n * 1 = omega arith in ap Some once }
    arguments (w ∷ ws) at h =
        let p = parts_clean _ _ h in
        let one = names_domain domains funs [] names w at known p.0 in
        let rest = arguments ws (at + 2) p.1 in
        let size = size_of domains (number_of (meaning_of names w)) in
        let others = product (map (size_of domains) (numbers ws)) in
        record {
          inside = (one.inside, rest.inside);
          things = (one.things, rest.things);
          sizes = λ n.
              let regrouped : n * size * others ≡ n * (size * others) = omega arith in
              rw one.size (rest.sizes (n * size) ∙ ap Some regrouped);
        }

    index : (m : Option Meaning) → IfSome m (Known domains funs []) → nat_abs (index_of m) ≤ 2147483647
    index (Some (Enumerator d i)) k = omega (arith, k)
    index _ k = omega arith

    constant : (c : Const) → const_fits c ≡ true → nat_abs (resolved_const names c) ≤ 2147483647
    constant (consts.Number v) h = leb-true (nat_abs v) 2147483647 h
    constant (consts.Named w) h = index (meaning_of names w) (known_at domains funs [] names w known)

    constants : (cs : List Const) → consts_fit cs ≡ true → AllByRecursion (λ c. nat_abs c ≤ 2147483647) (map (resolved_const names) cs)
    constants [] h = tt
    constants (c ∷ cs) h = let p = and_parts _ _ h in (constant c p.0, constants cs p.1)

    -- a table without faults has as many constants as it should
    tabled : (kind : Kind) (sizes : Option ℕ) (ns : List ℕ) (cs : List Const) (at : ℕ) → sizes ≡ Some (1 * product (map (size_of domains) ns)) → table_faults kind sizes (length cs) at ≡ []
        → length (map (resolved_const names) (constants_of kind cs)) ≡ table_length kind domains ns
    tabled kinds.Static sizes ns cs at is h =
        let same = counted (1 * product (map (size_of domains) ns)) (length cs) at (rw is at h) in
        omega (arith, length-map cs (resolved_const names), same)
    tabled _ sizes ns cs at is h = refl

    bounded : (kind : Kind) (w : List ℕ) (args : List (List ℕ)) (codomain : List ℕ) (cs : List Const) → decl_fits (decls.Fun kind w args codomain cs) ≡ true
        → AllByRecursion (λ c. nat_abs c ≤ 2147483647) (map (resolved_const names) (constants_of kind cs))
    bounded kinds.Static w args codomain cs h = constants cs (and_parts (not (is_empty cs)) (consts_fit cs) h).1
    bounded _ w args codomain cs h = tt

  -- ---- one declaration

  record Declared (names : Scope) (d : Decl) : Type 0 where
    pub domains_fit : AllByRecursion IsDomain (resolved_domains (d ∷ []))
    pub funs_fit : AllByRecursion (IsFun domains) (resolved_funs names (d ∷ []))
    pub all_known : IsKnown (declared names d)

  -- a declaration between others
  record Between (names : Scope) (d : Decl) (before after : List Values) (first last : List Fun) : Type 0 where
    pub domains_split : domains ≡ before ++ (resolved_domains (d ∷ []) ++ after)
    pub funs_split : funs ≡ first ++ (resolved_funs names (d ∷ []) ++ last)
    pub domains_count : length before ≡ domains_in names
    pub functions_count : length first ≡ functions_in names

  declaration : (names : Scope) (d : Decl) (before after : List Values) (first last : List Fun) (at : ℕ) → IsKnown names → Between names d before after first last
      → decl_fits d ≡ true → decl_faults names d at ≡ [] → Declared names d
  declaration names (decls.Range w lo hi) before after first last at known here fits h =
      let p = three_clean _ _ _ h in
      record {
        domains_fit = (range_fits _ hi refl refl (unmet causes.Empty (at + 1) _ p.1) (unmet causes.TooLarge (at + 1) _ p.2), tt);
        funs_fit = tt;
        all_known = (record { entry = _; there = placed domains before after _ _ here.domains_split here.domains_count; count = refl; things = refl }, tt);
      }
  declaration names (decls.Names w ws) before after first last at known here fits h =
      let p = three_clean _ _ _ h in
      let few = ltb-false 65536 (length ws) (unmet causes.TooLarge (at + 1) _ p.1) in
      record {
        domains_fit = (list_fits _ refl refl (some_items ws fits) few, tt);
        funs_fit = tt;
        all_known = (
          record { entry = _; there = placed domains before after _ _ here.domains_split here.domains_count; count = refl; things = refl },
          all_items_known (domains_in names) ws few,
        );
      }
  declaration names (decls.Fun kind w args codomain cs) before after first last at known here fits h =
      let p = three_clean _ _ _ h in
      let u = three_clean _ _ _ p.2 in
      let y = parts_clean _ _ u.2 in
      let a = arguments names known args _ u.1 in
      let values = names_domain domains funs [] names codomain _ known y.0 in
      let few = ltb-false 3 (length args) (unmet causes.TooManyArguments (at + 1) _ u.0) in
      let many = length-map args (λ arg. number_of (meaning_of names arg)) in
      let sorts_many = length-map args (λ arg. sort_of_domain (meaning_of names arg)) in
      record {
        domains_fit = tt;
        funs_fit = (
          record {
            few = rw many few;
            args = a.inside;
            codomain = values.inside;
            table = tabled names known kind _ (numbers names known args) cs (at + 1) (a.sizes 1) p.1;
            constants = bounded names known kind w args codomain cs fits;
          },
          tt,
        );
        all_known = (
          record {
            entry = _;
            there = placed funs first last _ _ here.funs_split here.functions_count;
            same_kind = refl;
            count = many ∙ sym sorts_many;
            arguments = a.things;
            things = values.things;
          },
          tt,
        );
      }

  -- ---- declarations in turn

  pub record AllDeclared (names : Scope) (ds : List Decl) : Type 0 where
    pub domains_fit : AllByRecursion IsDomain (resolved_domains ds)
    pub funs_fit : AllByRecursion (IsFun domains) (resolved_funs names ds)
    pub all_known : IsKnown (names_after names ds)

  pub declarations : (ds : List Decl) (names : Scope) (before : List Values) (first : List Fun) (at : ℕ) → IsKnown names
      → domains ≡ before ++ resolved_domains ds → funs ≡ first ++ resolved_funs names ds → length before ≡ domains_in names → length first ≡ functions_in names
      → decls_fit ds ≡ true → decls_faults names ds at ≡ [] → AllDeclared names ds
  declarations [] names before first at known split split_funs count count_funs fits h = record { domains_fit = tt; funs_fit = tt; all_known = known }
  declarations (d ∷ ds) names before first at known split split_funs count count_funs fits h =
      let p = parts_clean _ _ h in
      let u = and_parts _ _ fits in
      let next = names ++ declared names d in
      let new = resolved_domains (d ∷ []) in
      let new_funs = resolved_funs names (d ∷ []) in
      let here : Between names d before (resolved_domains ds) first (resolved_funs next ds) = record {
        domains_split = split ∙ ap (λ x. before ++ x) (resolved_domains-cons d ds);
        funs_split = split_funs ∙ ap (λ x. first ++ x) (resolved_funs-cons names d ds);
        domains_count = count;
        functions_count = count_funs;
      } in
      let one = declaration names d before (resolved_domains ds) first (resolved_funs next ds) at known here u.0 p.0 in
      let rest = declarations ds next (before ++ new) (first ++ new_funs) (at + decl_tokens d)
      (all-append (λ e. Known domains funs [] e.1) names (declared names d) known one.all_known)
      (here.domains_split ∙ sym (append_assoc before new (resolved_domains ds)))
      (here.funs_split ∙ sym (append_assoc first new_funs (resolved_funs next ds)))
      (omega (arith, count, sum_by-append (λ e. cond (is_domain e.1) 1 0) names (declared names d), new_domains names d, length-append before new))
      (omega (arith, count_funs, sum_by-append (λ e. cond (is_function e.1) 1 0) names (declared names d), new_functions names d, length-append first new_funs))
      u.1 p.1 in
      record {
        domains_fit = rw (resolved_domains-cons d ds) (all-append IsDomain new (resolved_domains ds) one.domains_fit rest.domains_fit);
        funs_fit = rw (resolved_funs-cons names d ds) (all-append (IsFun domains) new_funs (resolved_funs next ds) one.funs_fit rest.funs_fit);
        all_known = rest.all_known;
      }
