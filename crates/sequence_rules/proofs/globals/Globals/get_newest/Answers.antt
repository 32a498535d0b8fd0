use Rattle.std.proofs.Common.{map, sym, ◌∙◌}
use Rattle.sequence_rules.specs.Shared.{entry_binding}
use Rattle.sequence_rules.proofs.VariableLemmas.{newest_none}
use Rattle.sequence_rules.proofs.GlobalLemmas.{newest_once, none_there}
use Rattle.sequence_rules.proofs.globals.Globals.get_newest.Goals as goal

pub returns-then-len-eq0 : goal.returns-then-len-eq0
returns-then-len-eq0 g c =
    sym (newest_none (map entry_binding c.args.self.now.values.entries) c.args.name.now (none_there c.args.name.now c.args.self.now.values.entries (sym c.len.ensures.len ∙ c.if-len-eq0.true)))

pub returns : goal.returns
returns g c = c.get.ensures ∙ newest_once c.args.name.now c.args.self.now.values.entries c.len.ensures.unique
