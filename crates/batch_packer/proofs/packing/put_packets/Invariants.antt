use Rattle.std.proofs.Common.{◌≡◌, ◌≤◌, ◌+◌, ◌-◌, ◌++◌, length, drop}
use Rattle.flight_forms.specs.Forms.{parts_of}
use Rattle.flight_forms.specs.Packets.{FitChain, chain_packets}
use Rattle.batch_packer.proofs.packing.put_packets.Given as goal

abbrev pub invariant-loop-start : goal.invariant-loop-start
invariant-loop-start l = record {
  whole : l.packets.items ++ chain_packets (parts_of l.packet_size (drop l.start l.accesses)) ≡ chain_packets (parts_of l.packet_size l.accesses);
  within : l.start ≤ length l.accesses;
  fits : FitChain 1024 (parts_of l.packet_size (drop l.start l.accesses));
  room_is : l.packets.room ≡ l.fn.packets.room;
  count : length l.packets.items + length (parts_of l.packet_size (drop l.start l.accesses)) ≡ length (parts_of l.packet_size l.accesses);
  requests : length l.requests ≡ 255;
  bytes : length l.bytes ≡ 1024;
}

abbrev pub decreases-loop-start : goal.decreases-loop-start
decreases-loop-start l = length l.accesses - l.start
