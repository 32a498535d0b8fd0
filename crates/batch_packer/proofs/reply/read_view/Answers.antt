use Rattle.batch_packer.proofs.reply.read_view.Goals as goal
use Rattle.flight_forms.proofs.Numbers.{taken_normal}

pub progress_by-requires-clause-normal : goal.progress_by-requires-clause-normal
progress_by-requires-clause-normal c = taken_normal c.min-count.result c.args.requests.now c.requires.normal
