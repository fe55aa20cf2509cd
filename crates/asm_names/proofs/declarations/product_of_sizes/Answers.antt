use Rattle.asm_names.proofs.Common.{◌≡◌, ℕ, zero, suc, ◌+◌, ◌*◌, ◌<◌, Bool, true, false, min, Some, ap, sym, ◌∙◌, refl, arith, option_map, option_copied, leb-true, leb-false, meaning_of, size_of_domain, scope, known}
use Rattle.std.specs.Prelude.{nat_le}
use Rattle.asm_names.proofs.InTurn.{drop-next}
use Rattle.asm_names.proofs.declarations.product_of_sizes.Goals as goal

-- a product of a number and one that was cut at m is cut at m where the whole product is
cut_product : (m p s : ℕ) → min (min p m * s) m ≡ min (p * s) m
cut_product m p zero = let a : min p m * 0 ≡ 0 = omega arith in let b : p * 0 ≡ 0 = omega arith in rw (a, b) refl
cut_product m p (suc k) = by (nat_le p m) refl
  where
    by : (b : Bool) → nat_le p m ≡ b → min (min p m * suc k) m ≡ min (p * suc k) m
    by true h = let low : min p m ≡ p = omega (arith, leb-true p m h) in rw low refl
    by false h =
        let above : m < p = omega (arith, leb-false p m h) in
        let low : min p m ≡ m = omega arith in
        let a : m * suc k ≡ m * k + m = omega arith in
        let b : p * suc k ≡ p * k + p = omega arith in
        rw (low, a, b) (omega arith)

pub loop-name-preserved : goal.loop-name-preserved
loop-name-preserved c =
    let size : size_of_domain (meaning_of (scope c.args.table.now) c.name-item.result) ≡ Some c.in-Some-Domain.size =
    ap size_of_domain (sym c.find.ensures) ∙ ap (λ r. size_of_domain (option_map known (option_copied r))) c.in-Some-Domain.is ∙ ap (λ e. size_of_domain (Some (known e))) c.in-Some-Domain.field-0-is in
    let p = c.loop-name.invariant.0 in (
      p * c.in-Some-Domain.size,
      c.saturating_mul-product.ensures ∙ rw (c.loop-name.invariant.1, c.from.ensures) (cut_product 18446744073709551615 p c.in-Some-Domain.size),
      c.loop-name.invariant.2 ∙ rw (drop-next c.loop-name.name-index c.args.names.now c.name-item.result c.loop-name-test.true c.name-item.is, size) refl,
    )
