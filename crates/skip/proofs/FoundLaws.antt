-- Laws of a skip card's calls: what a call below answers and leaves is what the call above should. Assumes nothing.
use Rattle.std.proofs.Common.{◌≡◌, ℕ, ◌-◌, ◌<◌, List, length, set, Ok, sym, ap, ◌∙◌, arith}
use Rattle.cards.specs.Content.{Content, block, lost, content_at, bytes_of}
use Rattle.cards.specs.Calls.{kind_of, if_granted, get_answer, get_buffer, put_answer, put_contents, strike_answer, strike_contents}
use Rattle.skip.specs.Skipped.{unlisted, skipped, put_below, strike_below}
use Rattle.cards.proofs.AnswerLaws.{judged_ok, judged_place_ok, get_in, buffer_in, put_in, strike_in}
use Rattle.skip.proofs.SkipLaws.{unlisted_bound, length-skipped, content_at-skipped}

-- place q of the card below stands for place p
pub record Found (bad : List ℕ) (cs : List Content) (p q : ℕ) : Type 0 where
  pub is : q ≡ unlisted bad p
  pub left : p < length cs - length bad

module _ (bad : List ℕ) (cs : List Content) (p q : ℕ) (f : Found bad cs p q) where
  found_in : q < length cs
  found_in = let b = unlisted_bound bad p in let e = f.is in let l = f.left in omega arith

  found_under : p < length (skipped bad cs)
  found_under = let n = length-skipped bad cs in let l = f.left in omega arith

  found_content : content_at cs q ≡ content_at (skipped bad cs) p
  found_content = ap (content_at cs) f.is ∙ sym (content_at-skipped bad cs p f.left)

  pub found_get : (n : ℕ) → n ≡ 8256 → get_answer cs q n ≡ get_answer (skipped bad cs) p n
  found_get n e = get_in cs q n e found_in ∙ ap (λ x. Ok (kind_of x)) found_content
      ∙ sym (get_in (skipped bad cs) p n e found_under)

  pub found_buffer : (buf : List ℕ) → length buf ≡ 8256 → get_buffer cs q buf ≡ get_buffer (skipped bad cs) p buf
  found_buffer buf e =
      buffer_in cs q buf e found_in ∙ ap bytes_of found_content ∙ sym (buffer_in (skipped bad cs) p buf e found_under)

  pub found-put : (n : ℕ) → n ≡ 8256 → put_answer cs q n ≡ put_answer (skipped bad cs) p n
  found-put n e = judged_ok n (length cs) q e found_in ∙ sym (judged_ok n (length (skipped bad cs)) p e found_under)

  pub found-strike : strike_answer cs q ≡ strike_answer (skipped bad cs) p
  found-strike = judged_place_ok (length cs) q found_in ∙ sym (judged_place_ok (length (skipped bad cs)) p found_under)

  pub found-put_below : (bs : List ℕ) → length bs ≡ 8256 → put_contents cs q bs ≡ put_below bad cs p bs
  found-put_below bs e =
      put_in cs q bs e found_in ∙ ap (λ z. set cs z (block bs)) f.is
      ∙ sym (ap (λ a. if_granted a (set cs (unlisted bad p) (block bs)) cs)
      (judged_ok (length bs) (length cs - length bad) p e f.left))

  pub found-strike_below : strike_contents cs q ≡ strike_below bad cs p
  found-strike_below =
      strike_in cs q found_in ∙ ap (λ z. set cs z lost) f.is
      ∙ sym (ap (λ a. if_granted a (set cs (unlisted bad p) lost) cs)
      (judged_place_ok (length cs - length bad) p f.left))
