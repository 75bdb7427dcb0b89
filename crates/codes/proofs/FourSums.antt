-- The four sums of a column, from its last four words and the check words of the sixteen in front. Assumes nothing.
use Rattle.std.proofs.Common.{◌≡◌, ℕ, ◌+◌, ◌*◌, ◌^◌, ◌<◌, List, [], length, get_or, take, sym, ap, ◌∙◌, subst, ap₂, eqb, eqb→eq, arith}
use Rattle.std.specs.Int.Bits.{bit_xor}
use Rattle.std.proofs.lemmas.List.{get_or-take, length-take-le}
use Rattle.field.specs.Polynomials.{double, times, product, word_product}
use Rattle.field.specs.Sums.{total, power, weighted}
use Rattle.field.specs.Computed.{at_row}
use Rattle.codes.specs.declared.four_check.TheConstants.{TAILS}
use Rattle.field.proofs.Totals.{total_ext}
use Rattle.codes.specs.TwoCodes.{by_sums}
use Rattle.codes.specs.Agreeing.{all_words}
use Rattle.codes.specs.Grouping.{Carried, tail, tail-xor, total-add}
use Rattle.codes.specs.BothSolve.{four-carried}

-- the rows of the table are 2 to the powers of j times 16 to 19
tails_powers : (j : ℕ) → j < 4 → (q : ℕ) → q < 4 → get_or (get_or TAILS j []) q 0 ≡ power word_product 2 ((16 + q) * j)
unfolding power word_product product times double
tails_powers j h q l =
    eqb→eq _ _ (at_row (λ j q e. eqb e (power word_product 2 ((16 + q) * j))) 4 TAILS tt [] j q h l)

module _ (column : List ℕ) (long : length column ≡ 20) (small : (i : ℕ) → i < 20 → get_or column i 0 < 2 ^ 16)
    (apart : List ℕ) (differs : (q : ℕ) → q < 4 → get_or apart q 0
    ≡ bit_xor (get_or (by_sums 4 (take 16 column)) q 0) (get_or column (16 + q) 0)) where
  abbrev ws : List ℕ
  ws = take 16 column

  abbrev made : List ℕ
  made = by_sums 4 ws

  front_long : length ws ≡ 16
  front_long = length-take-le 16 column (omega arith)

  front_at : (i : ℕ) → i < 16 → get_or ws i 0 ≡ get_or column i 0
  front_at i h = get_or-take 16 column i 0 h

  carried : Carried (λ i. get_or ws i 0) 16 made
  carried =
      four-carried ws front_long
      (all_words ws (λ i l. let q : i < 16 = omega (arith, front_long) in subst (λ x. x < 2 ^ 16) (sym (front_at i q))
      (small i (omega arith))))

  pub four-sum : (j : ℕ) → j < 4 → total (λ q. word_product (get_or (get_or TAILS j []) q 0) (get_or apart q 0)) 4
      ≡ weighted word_product 2 20 j (λ i. get_or column i 0)
  four-sum j h = opened ∙ sym (whole
      ∙ tail-xor 16 j (λ q. get_or made q 0) (λ q. get_or column (16 + q) 0) carried.small
      (λ q l. small (16 + q) (omega arith)))
    where
      opened : total (λ q. word_product (get_or (get_or TAILS j []) q 0) (get_or apart q 0)) 4
          ≡ tail 16 j (λ q. bit_xor (get_or made q 0) (get_or column (16 + q) 0))
      opened = unfold tail in total_ext _ _ 4 (λ q l. ap₂ word_product (tails_powers j h q l) (differs q l))

      front : weighted word_product 2 16 j (λ i. get_or column i 0) ≡ tail 16 j (λ q. get_or made q 0)
      front = same ∙ carried.same j h
        where
          same : weighted word_product 2 16 j (λ i. get_or column i 0) ≡ weighted word_product 2 16 j (λ i. get_or ws i 0)
          same = unfold weighted in total_ext _ _ 16 (λ i l. ap (word_product _) (sym (front_at i l)))

      whole : weighted word_product 2 20 j (λ i. get_or column i 0)
          ≡ bit_xor (tail 16 j (λ q. get_or made q 0)) (tail 16 j (λ q. get_or column (16 + q) 0))
      whole = parts ∙ ap (λ t. bit_xor t (tail 16 j (λ q. get_or column (16 + q) 0))) front
        where
          parts : weighted word_product 2 20 j (λ i. get_or column i 0)
              ≡ bit_xor (weighted word_product 2 16 j (λ i. get_or column i 0)) (tail 16 j (λ q. get_or column (16 + q) 0))
          parts = unfold weighted tail in total-add (λ i. word_product (power word_product 2 (i * j)) (get_or column i 0))
              16 4
