use Rattle.std.proofs.Common.{sym, ap}
use Rattle.sequence_rules.proofs.PollLemmas.{only_one}
use Rattle.set_warnings.specs.Waits.{address_form}
use Rattle.set_warnings.proofs.waits.address_form.Goals as goal

pub returns-in-len2-up : goal.returns-in-len2-up
returns-in-len2-up c = sym (ap address_form (only_one c.args.args.now c.in-len2-up.len_at_least))
