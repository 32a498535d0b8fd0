-- The keys by which sequences and variants are distinguished.
use Rattle.std.proofs.lemmas.Map.Text.{is_eq-slice_cmp}

pub ruleset keys = (is_eq-slice_cmp)
