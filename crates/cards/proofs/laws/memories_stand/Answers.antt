-- A put or a strike changes no byte of a memory but those of its row or mark. Assumes nothing.
use Rattle.std.proofs.Common.{◌≡◌, length, get_or, refl}
use Rattle.cards.specs.Calls.{judged, judged_place, if_granted}
use Rattle.cards.specs.Rows.{row_count, stored, struck}
use Rattle.cards.proofs.AnswerLaws.{by_answer, judged_within, judged-length, judged_place_lem}
use Rattle.cards.proofs.RowLaws.{stored-rest, struck-rest}
use Rattle.cards.proofs.laws.memories_stand.Goals as goal

pub returns : goal.returns
returns c =
    λ mem p bs k. (
      λ out.
          by_answer (λ a. get_or (if_granted a (stored mem p bs) mem) k 0 ≡ get_or mem k 0)
          (judged (length bs) (row_count mem) p)
          (λ g.
          stored-rest mem bs p (judged_within (length bs) (row_count mem) p g)
          (judged-length (length bs) (row_count mem) p g) k out)
          (λ _. refl),
      λ out.
          by_answer (λ a. get_or (if_granted a (struck mem p) mem) k 0 ≡ get_or mem k 0) (judged_place (row_count mem) p)
          (λ g. struck-rest mem p k (judged_place_lem (row_count mem) p g) out) (λ _. refl),
    )
