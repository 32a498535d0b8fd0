use Rattle.std.proofs.Common.{◌≡◌, ◌+◌, ◌≤◌, ◌++◌, length}
use Rattle.std.specs.List.{All}
use Rattle.image_load.specs.Pieces.{IsPiece, pieces}
use Rattle.image_load.proofs.piece.pieces_in.Given as goal

abbrev pub invariant-loop-first : goal.invariant-loop-first
invariant-loop-first l = record {
  so_far : l.made.items ++ pieces l.left ≡ pieces l.bytes;
  sound : All IsPiece l.made.items;
  few : length l.made.items + length l.left ≤ length l.bytes;
}

abbrev pub decreases-loop-first : goal.decreases-loop-first
decreases-loop-first l = length l.left
