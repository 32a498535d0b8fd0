use Rattle.std.proofs.Common.{map, sym, ◌∙◌}
use Rattle.sequence_rules.specs.Shared.{entry_binding}
use Rattle.sequence_rules.proofs.VariableLemmas.{set_newest_none}
use Rattle.sequence_rules.proofs.GlobalLemmas.{none_there, set_once}
use Rattle.sequence_rules.proofs.globals.Globals.set_newest.Goals as goal

pub returns-then-len-eq0-clause-found : goal.returns-then-len-eq0-clause-found
returns-then-len-eq0-clause-found g c = sym (none_there c.args.name.now c.args.self.now.values.entries (sym c.len.ensures.len ∙ c.if-len-eq0.true))

pub returns-then-len-eq0-clause-set : goal.returns-then-len-eq0-clause-set
returns-then-len-eq0-clause-set g c =
    sym (set_newest_none (map entry_binding c.args.self.now.values.entries) c.args.name.now c.args.value
    (none_there c.args.name.now c.args.self.now.values.entries (sym c.len.ensures.len ∙ c.if-len-eq0.true)))

pub returns-clause-set : goal.returns-clause-set
returns-clause-set g c = c.assign.ensures.set ∙ set_once c.args.name.now c.args.self.now.values.entries c.args.value c.len.ensures.unique
