use Rattle.std.proofs.Common.{◌≡◌, ◌+◌, drop}
use Rattle.hex_image.specs.Image.{image_with_bytes}
use Rattle.hex_image.proofs.reading.place.Given as goal

abbrev pub invariant-loop-i : goal.invariant-loop-i
invariant-loop-i l = image_with_bytes l.address l.bytes l.fn.image.entries ≡ image_with_bytes (l.address + l.i) (drop l.i l.bytes) l.image.entries
