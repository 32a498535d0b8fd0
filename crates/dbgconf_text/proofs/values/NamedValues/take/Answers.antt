use Rattle.std.proofs.Common.{None}
use Rattle.std.proofs.lemmas.Map.Text.{hash_map_updates_text}
use Rattle.dbgconf_text.proofs.values.NamedValues.take.Goals as goal

pub returns-clause-left : goal.returns-clause-left
returns-clause-left c = hash_map_updates_text c.args.name.now c.args.self.now.numbers c.swap_remove.new.self None c.swap_remove.ensures.updates
