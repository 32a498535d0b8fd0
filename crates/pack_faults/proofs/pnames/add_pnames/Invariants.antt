use Rattle.std.proofs.Common.{◌≡◌, drop}
use Rattle.pack_faults.specs.Sets.{pnames_after}
use Rattle.pack_faults.specs.Views.{names_view}
use Rattle.pack_faults.proofs.pnames.add_pnames.Given as goal

abbrev pub invariant-loop-sequence : goal.invariant-loop-sequence
invariant-loop-sequence l = pnames_after (names_view l.names.items) (drop l.sequence-index l.sequences) ≡ pnames_after (names_view l.fn.names.items) l.sequences
