-- Four groups make sixteen words. Assumes nothing.
use Rattle.std.proofs.Common.{◌≡◌, ℕ, ◌<◌, ◌/◌, [], ◌∷◌, length, get_or, fold, ◌∙◌, ap, rules}
use Rattle.std.specs.Simd.{first_chunks}
use Rattle.std.proofs.lemmas.List.{take_all}
use Rattle.check_groups.specs.Groups.{next_words}
use Rattle.codes.proofs.Groups.{check_words_by_groups}
use Rattle.codes.proofs.four_check.four_checks.Goals as goal

pub returns : goal.returns
returns c =
    let ws = c.args.words in
    let gs = c.as_chunks.result.0.now in
    let long : length ws ≡ 16 = search rules in
    let small : (i : ℕ) → i < 16 → get_or ws i 0 < 65536 = λ i h. search rules in
    let groups : gs ≡ first_chunks 4 4 ws = c.as_chunks.ensures.front ∙ ap (λ n. first_chunks 4 (n / 4) ws) long in
    c.loop-group.invariant
    ∙ ap (fold next_words (0 ∷ 0 ∷ 0 ∷ 0 ∷ [])) (take_all c.loop-group.group-index gs c.loop-group-test.false ∙ groups)
    ∙ check_words_by_groups ws long small
