use Rattle.std.proofs.Common.{◌∙◌}
use Rattle.sequence_rules.proofs.GlobalLemmas.{value_found}
use Rattle.sequence_rules.proofs.globals.Globals.get_stored.Goals as goal

pub returns : goal.returns
returns g c = c.copied.ensures ∙ c.get.ensures.value ∙ value_found c.args.name.now c.args.self.now.values.entries
