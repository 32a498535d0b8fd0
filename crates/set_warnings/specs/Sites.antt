-- Where a warning stands.
use Rattle.std.specs.Prelude.{ℕ, List, Option, Some}
use Rattle.dap_base.specs.declared.text.Place.{Place}
use Rattle.sequence_trees.specs.declared.spot.Part.{Part}
use Rattle.set_warnings.specs.declared.warning.Warning.{Warning}
use Rattle.set_warnings.specs.declared.warning.WarningKind.{WarningKind}
use Rattle.set_warnings.specs.declared.site.PartSite.{PartSite}

-- a part of a step of a sequence
pub record PartAt : Type 0 where
  pub sequence : List ℕ
  pub path : List ℕ
  pub part : Part

-- a warning of this kind at a place in a part of a step, about a name or none
abbrev pub warning_at : WarningKind → PartAt → Place → Option (List ℕ) → Warning
warning_at kind at place name =
    record { kind = kind; spot = record { sequence = Some at.sequence; path = at.path; part = at.part; place = place }; name = name }

-- the part that a site is: what private contracts cite
abbrev pub part_at : PartSite → PartAt
part_at s = record { sequence = s.sequence.now; path = s.path.now; part = s.part }
