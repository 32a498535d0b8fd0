use Rattle.std.proofs.Common.{◌≡◌, ◌-◌, ◌≤◌, take, drop}
use Rattle.hex_image.specs.Image.{image, read_on}
use Rattle.hex_image.specs.Records.{lines_of}
use Rattle.hex_image.proofs.SplitLemmas.{fronted}
use Rattle.hex_image.proofs.reading.image_of.Given as goal

abbrev pub invariant-loop-end : goal.invariant-loop-end
invariant-loop-end l = (l.start ≤ l.end) × (l.lines ≤ l.start)
    × (image l.bytes ≡ read_on l.reader l.lines (fronted (take (l.end - l.start) (drop l.start l.bytes)) (lines_of (drop l.end l.bytes))))
