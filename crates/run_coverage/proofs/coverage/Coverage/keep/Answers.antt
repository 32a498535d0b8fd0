use Rattle.std.proofs.Common.{◌||◌, ap, ◌∙◌, bytes_eq}
use Rattle.std.specs.List.{list_any}
use Rattle.run_coverage.specs.Covered.{has}
use Rattle.run_coverage.proofs.CoverLemmas.{kept}
use Rattle.run_coverage.proofs.coverage.Coverage.keep.Goals as goal
use Rattle.run_coverage.proofs.coverage.Coverage.keep.Goals.{in-Ok-insert, in-Err}

pub returns : goal.returns
returns c =
    elim c.match-insert.branch [
      | in-Ok-insert w ↦ rw w.result-is (λ other.
          ap (list_any (λ k. bytes_eq other k.items)) w.in-Ok-insert.ensures.keys
          ∙ kept (λ k. k.items) c.args.self.now.words.keys c.in-Ok.key other
          ∙ ap (λ b. has c.args.self.now other || bytes_eq other b) c.in-Ok.ensures.items)
      | in-Err w ↦ rw w.result-is tt
    ]
