use Rattle.std.proofs.Common.{map, ap, sym, ◌∙◌}
use Rattle.std.proofs.lemmas.List.{take-map}
use Rattle.sequence_rules.specs.Shared.{entry_binding}
use Rattle.sequence_rules.proofs.globals.Globals.truncate.Goals as goal

pub returns : goal.returns
returns g c = ap (map entry_binding) c.truncate.ensures.entries ∙ sym (take-map entry_binding c.args.len c.args.self.now.values.entries)
