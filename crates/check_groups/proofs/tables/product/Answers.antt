-- The entries of the table, by one computed test for each word. Assumes nothing.
use Rattle.std.proofs.Common.{ℕ, zero, suc, ◌*◌, ◌^◌, ◌<◌, Bool, T, List, eqb, eqb→eq, get_or, arith}
use Rattle.field.specs.Polynomials.{double, times, product, word_product}
use Rattle.field.specs.Computed.{at_row}
use Rattle.check_groups.specs.declared.tables.TheConstants.{PRODUCTS}
use Rattle.check_groups.specs.Groups.{numbers, number, products}
use Rattle.check_groups.proofs.tables.product.Goals as goal

right : ℕ → ℕ → ℕ → ℕ → Bool
right q b x e = eqb e (products q (x * 256 ^ b))

entry : (q b x : ℕ) (d : List (List ℕ)) (r : List ℕ) → q < 4 → b < 2 → x < 256
    → T (right q b x (get_or (get_or (get_or PRODUCTS q d) b r) x 0))
unfolding right numbers number word_product product times double
entry zero b x d r i j k = at_row (right 0) 256 (get_or PRODUCTS 0 d) tt r b x j k
entry (suc zero) b x d r i j k = at_row (right 1) 256 (get_or PRODUCTS 1 d) tt r b x j k
entry (suc (suc zero)) b x d r i j k = at_row (right 2) 256 (get_or PRODUCTS 2 d) tt r b x j k
entry (suc (suc (suc zero))) b x d r i j k = at_row (right 3) 256 (get_or PRODUCTS 3 d) tt r b x j k
entry (suc (suc (suc (suc q)))) b x d r i j k = absurd (omega arith)

pub returns : goal.returns
unfolding right
returns c =
    let h : c.args.x < 256 = omega (arith, c.ranges.x) in
    eqb→eq _ (products c.args.position (c.args.x * 256 ^ c.args.byte))
    (entry c.args.position c.args.byte c.args.x _ _ c.requires.position c.requires.byte h)
