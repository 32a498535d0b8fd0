use Rattle.std.proofs.Common.{◌≡◌, drop, length}
use Rattle.pack_faults.specs.Equal.{all_same, same_entry}
use Rattle.pack_faults.proofs.equal.same_entries.Given as goal

abbrev pub invariant-loop-place : goal.invariant-loop-place
invariant-loop-place l = record {
  sizes : length l.entries ≡ length l.others;
  rest : all_same same_entry l.entries l.others ≡ all_same same_entry (drop l.place l.entries) (drop l.place l.others);
}
