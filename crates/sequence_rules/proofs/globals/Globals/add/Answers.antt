use Rattle.std.proofs.Common.{map, sym, ap, ◌∙◌}
use Rattle.sequence_rules.specs.Shared.{entry_binding}
use Rattle.sequence_rules.proofs.GlobalLemmas.{added}
use Rattle.sequence_rules.proofs.globals.Globals.add.Goals as goal
use Rattle.sequence_rules.proofs.globals.Globals.add.Goals.{in-Ok-insert, in-Err}

pub returns-clause-answer : goal.returns-clause-answer
returns-clause-answer g c =
    elim c.match-insert.branch [
      | in-Ok-insert w ↦ rw w.result-is (ap (map entry_binding) w.in-Ok-insert.ensures.entries
          ∙ added c.args.self.now.values c.in-Ok.name c.args.value c.args.name.now c.in-Ok.ensures.ok (sym c.has.ensures ∙ c.if-has.false))
      | in-Err w ↦ rw w.result-is tt
    ]
