use Rattle.std.proofs.Common.{◌∙◌, ap, map, string_bytes}
use Rattle.std.proofs.lemmas.Result.{IfOk-weaker}
use Rattle.seq_check.specs.Answers.{checked_trees}
use Rattle.run_coverage.specs.Covered.{happens}
use Rattle.run_coverage.specs.Text.{coverage_lines}
use Rattle.run_coverage.proofs.CoverLemmas.{same_lines}
use Rattle.run_coverage.proofs.coverage.Coverage.text.Goals as goal

pub returns : goal.returns
returns c = λ events of.
    let set = checked_trees c.args.checked.now in
    IfOk-weaker c.lines_of.result _ _
    (λ t is. same_lines c.args.self.now events set (map string_bytes c.as_slice.result.now) t.items of is ∙ ap (coverage_lines (happens events) set) (c.as_slice.ensures ∙ c.in_ok-names.ensures))
    c.lines_of.ensures
