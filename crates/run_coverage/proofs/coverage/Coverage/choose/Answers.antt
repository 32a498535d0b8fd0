use Rattle.std.proofs.Common.{Some, ap, sym}
use Rattle.std.proofs.lemmas.Result.{on_ok_weaker}
use Rattle.run_coverage.proofs.CoverLemmas.{noted}
use Rattle.run_coverage.proofs.coverage.Coverage.choose.Goals as goal

pub returns : goal.returns
returns c = λ events of. on_ok_weaker c.note.result (λ h. noted c.args.self.now c.note.new.self events _ c.in_ok-words.words (sym (ap Some (rw c.word_of_choice.ensures at c.in_ok-words.ensures))) h of) c.note.ensures
