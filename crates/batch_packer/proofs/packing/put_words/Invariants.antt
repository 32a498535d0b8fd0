use Rattle.std.proofs.Common.{◌≡◌, ◌≤◌, ◌++◌, length, take, drop}
use Rattle.flight_forms.specs.Flights.{words_of}
use Rattle.batch_packer.proofs.packing.put_words.Given as goal

abbrev pub invariant-loop-access : goal.invariant-loop-access
invariant-loop-access l = record {
  whole : take l.count l.words ++ words_of (drop l.access-index l.accesses) ≡ words_of l.accesses;
  at : l.count ≡ l.access-index;
  room : length l.accesses ≤ length l.words;
}
