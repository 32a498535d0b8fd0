use Rattle.std.proofs.Common.{sym, ◌∙◌}
use Rattle.sequence_rules.proofs.GlobalLemmas.{name_found, none_there}
use Rattle.sequence_rules.proofs.globals.Globals.has.Goals as goal

pub returns : goal.returns
returns g c = c.contains_key.ensures ∙ name_found c.args.name.now c.args.self.now.values.entries

pub returns-then-len-eq0 : goal.returns-then-len-eq0
returns-then-len-eq0 g c = sym (none_there c.args.name.now c.args.self.now.values.entries (sym c.len.ensures.len ∙ c.if-len-eq0.true))
