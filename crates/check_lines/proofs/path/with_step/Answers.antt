use Rattle.std.proofs.Common.{◌≡◌, ◌<◌, ◌^◌, decimal, arith, rules}
use Rattle.std.proofs.lemmas.Grind.{common_steps}
use Rattle.text_lines.specs.Shown.{shown_text}
use Rattle.text_lines.proofs.ShownLemmas.{shown-decimal}
use Rattle.check_lines.proofs.path.with_step.Goals as goal

pub returns-in-Index : goal.returns-in-Index
returns-in-Index c =
    let fits : c.in-Index.index < 2 ^ 64 = search rules in
    let shows : shown_text (decimal c.in-Index.index) ≡ decimal c.in-Index.index = shown-decimal c.in-Index.index fits in
    grind (arith, common_steps, shows)
