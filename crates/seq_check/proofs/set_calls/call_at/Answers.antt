use Rattle.std.proofs.Common.{sym}
use Rattle.seq_check.proofs.CheckLemmas.{no_list}
use Rattle.seq_check.proofs.set_calls.call_at.Goals as goal

pub unreachable-requires-in-None : goal.unreachable-requires-in-None
unreachable-requires-in-None c = no_list c.args.calls.now c.args.at.node c.args.at.call c.requires.0 (sym (rw c.in-None.is at c.list_at.ensures)) c.requires.1
