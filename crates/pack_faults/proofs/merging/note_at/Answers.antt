use Rattle.std.proofs.Common.{◌≡◌}
use Rattle.pack_faults.specs.Steps.{numbers_with}
use Rattle.pack_faults.proofs.KeyLemmas.{noted_same}
use Rattle.pack_faults.proofs.merging.note_at.Goals as goal
use Rattle.pack_faults.proofs.AddedLemmas.{on_ok}

pub returns : goal.returns
returns c =
    on_ok c.note.result (c.note.new.sets ≡ numbers_with c.args.number c.index_mut.result.now.sets) _ c.note.ensures
    (λ e other. noted_same c.args.list.now.items c.args.place c.args.number c.index_mut.result.now other c.note.new.sets c.requires c.index_mut.ensures.value e)
