use Rattle.std.proofs.Common.{◌≡◌, ◌≤◌, ◌*◌, length, drop, Some}
use Rattle.flight_forms.specs.Chains.{AllTaken, nothing_yet}
use Rattle.flight_forms.specs.Flights.{IsPartOf}
use Rattle.flight_forms.specs.Forms.{parts_of}
use Rattle.flight_forms.specs.Packets.{FitChain, chain_packets}
use Rattle.batch_packer.specs.ChainReadings.{ended_at, readings_after}
use Rattle.batch_packer.specs.Readings.{part_with}
use Rattle.batch_packer.proofs.chain.read_packets.Given as goal

abbrev pub invariant-loop-i : goal.invariant-loop-i
invariant-loop-i l = record {
  whole : readings_after (Some (part_with l.so_far l.slots.values)) (parts_of l.packet_size (drop l.start l.accesses)) (drop l.i l.replies.items)
      ≡ readings_after (Some nothing_yet) (parts_of l.packet_size l.accesses) l.replies.items;
  at_is : ended_at (Some (part_with l.so_far l.slots.values)) l.i l.at (parts_of l.packet_size (drop l.start l.accesses)) (drop l.i l.replies.items)
      ≡ ended_at (Some nothing_yet) 0 0 (parts_of l.packet_size l.accesses) l.replies.items;
  packets : drop l.i l.packets.items ≡ chain_packets (parts_of l.packet_size (drop l.start l.accesses));
  within : l.start ≤ length l.accesses;
  fits : FitChain 1024 (parts_of l.packet_size (drop l.start l.accesses));
  taken : AllTaken (parts_of l.packet_size (drop l.start l.accesses));
  short : IsPartOf l.start (part_with l.so_far l.slots.values);
  performed : l.so_far.performed ≤ 255 * l.i;
  confirmed : l.so_far.confirmed ≤ 255 * l.i;
  values : length l.slots.values ≤ 255 * l.i;
  requests : length l.requests ≡ 255;
  room_is : l.slots.room ≡ l.fn.slots.room;
}
