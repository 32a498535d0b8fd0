use Rattle.std.proofs.Common.{◌≡◌, ◌≤◌, ◌+◌, ◌++◌, false, length, drop}
use Rattle.dap_messages.specs.Requests.{reads_in, write_after}
use Rattle.flight_forms.specs.Flights.{seen_values}
use Rattle.batch_packer.proofs.part.put_values.Given as goal

abbrev pub invariant-loop-request : goal.invariant-loop-request
invariant-loop-request l = record {
  values : l.slots.values ++ seen_values (drop l.request-index l.executed) (drop l.word l.view.words) ≡ l.fn.slots.values ++ seen_values l.executed l.view.words;
  room_is : l.slots.room ≡ l.fn.slots.room;
  few : length l.slots.values ≤ length l.fn.slots.values + l.request-index;
  words : l.word + reads_in (drop l.request-index l.executed) ≡ reads_in l.executed;
  below : l.word ≤ l.request-index;
  write : write_after l.is_write (drop l.request-index l.executed) ≡ write_after false l.executed;
}
