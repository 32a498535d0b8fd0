-- What contracts know of what was written, after more was written.
use Rattle.std.proofs.Common.{◌≡◌, ℕ, Bool, true, false, List, take, Option, None, Some, option_map, refl, ap}
use Rattle.std.specs.Io.KnownBytes.{Appends}
use Rattle.dap_base.specs.Streams.{AppendsPrefix}
use Rattle.sequence_rules.specs.Direct.{line_after}
use Rattle.sequence_rules.specs.Known.{known_part, Knows}

pub known_more : (known : Bool) (old new : Option (List ℕ)) (text : List ℕ) → Appends old new text → Knows known old → known_part known new ≡ option_map (line_after text) (known_part known old)
known_more false old new text h t = refl
known_more true None new text h t = absurd cc
known_more true (Some xs) None text h t = absurd h
known_more true (Some xs) (Some ys) text h t = ap Some h

pub knows_more : (known : Bool) (old new : Option (List ℕ)) (text : List ℕ) → Appends old new text → Knows known old → Knows known new
knows_more false old new text h t = tt
knows_more true None new text h t = absurd cc
knows_more true (Some xs) None text h t = absurd h
knows_more true (Some xs) (Some ys) text h t = refl

pub knows_part : (known : Bool) (old new : Option (List ℕ)) (text : List ℕ) → AppendsPrefix old new text → Knows known old → Knows known new
knows_part known old new text h t = knows_more known old new (take h.0 text) h.1 t
