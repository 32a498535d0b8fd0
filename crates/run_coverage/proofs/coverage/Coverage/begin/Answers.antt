use Rattle.std.proofs.Common.{◌∙◌, Some, ap, sym}
use Rattle.sequence_trees.specs.declared.spot.Part.TheVariants as part
use Rattle.log_lines.specs.Places.{spot_in_step}
use Rattle.run_coverage.specs.Items.{ran_words}
use Rattle.run_coverage.proofs.CoverLemmas.{noted}
use Rattle.run_coverage.proofs.RanLemmas.{always, ran_again}
use Rattle.run_coverage.proofs.coverage.Coverage.begin.Goals as goal

pub returns-then-is_recent : goal.returns-then-is_recent
returns-then-is_recent c = λ events of.
    ran_again c.args.self.now events _ _ (sym (ap (λ p. Some (ran_words (spot_in_step c.args.sequence.now c.args.path.now part.Block p))) c.place_of-place.ensures)) (c.is_recent.ensures c.if-is_recent.true) of

pub returns : goal.returns
returns c = λ events of.
    always c.remember.result _
    (noted c.args.self.now c.remember.new.self events _ c.in_ok-words.words (sym (ap Some (rw c.place_of-place.ensures at c.in_ok-words.ensures))) (λ other. c.remember.ensures other ∙ c.in_ok-note.ensures other) of)
