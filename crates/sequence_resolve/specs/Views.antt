-- What is held by reference, without where it lies in memory.
use Rattle.std.specs.Prelude.{option_map}
use Rattle.sequence_resolve.specs.declared.place.DevicePlace as code
use Rattle.sequence_resolve.specs.declared.levels.LevelRef.{LevelRef}
use Rattle.sequence_resolve.specs.declared.winners.Winner.{Winner}
use Rattle.sequence_resolve.specs.Places.{DevicePlace}
use Rattle.sequence_resolve.specs.Levels.{LevelAt}
use Rattle.sequence_resolve.specs.Effective.{Candidate}

-- a device and the levels around it
abbrev pub place_view : code.DevicePlace → DevicePlace
place_view p = record { family = p.family.now; sub_family = option_map (λ s. s.now) p.sub_family; device = p.device.now }

-- a level, and which kind it is
abbrev pub level_view : LevelRef → LevelAt
level_view l = record { kind = l.kind; level = l.level.now }

-- a winner, as the candidate that it is
abbrev pub winner_view : Winner → Candidate
winner_view w = record { rank = w.rank; kind = w.kind; sequence = w.sequence.now }
