-- All warnings of a pack.
use Rattle.std.specs.Prelude.{◌≡◌, List, [], ◌∷◌, map}
use Rattle.device_tree.specs.declared.pack.Pack.{Pack}
use Rattle.sequence_resolve.specs.declared.entry.SeqSet.{SeqSet}
use Rattle.sequence_resolve.specs.Resolving.{IsSetAlong}
use Rattle.set_warnings.specs.declared.warning.Warning.{Warning}
use Rattle.set_warnings.specs.Answers.{AreSetWarnings}
use Rattle.pack_faults.specs.declared.request.PackRequest.{PackRequest}
use Rattle.pack_faults.specs.Sets.{SetAt, sets_of}
use Rattle.set_lines.specs.Lines.{line_of}
use Rattle.pack_warnings.specs.declared.answer.FoundWarning.{FoundWarning}
use Rattle.pack_warnings.specs.declared.answer.PackWarning.{PackWarning}
use Rattle.pack_warnings.specs.Merged.{merged_warnings}

-- a warning of a set, with its line
abbrev pub warning_found_in : SeqSet → Warning → FoundWarning
warning_found_in set w = record { warning = w; line = line_of set w.spot }

-- the set of this device, variant and processor has all these warnings, in this order, and no others
pub record AreFound (pack : Pack) (s : SetAt) (found : List FoundWarning) : Type 0 where
  pub set : SeqSet
  pub is_set : IsSetAlong pack s.place s.variant s.pname set
  pub warnings : List Warning
  pub are : AreSetWarnings set warnings
  pub is : found ≡ map (warning_found_in set) warnings

-- each of the sets, in order
abbrev pub AreFoundIn : Pack → List SetAt → List (List FoundWarning) → Type 0
AreFoundIn pack [] lists = lists ≡ []
AreFoundIn pack (s ∷ ss) lists =
    (found : List FoundWarning) × (more : List (List FoundWarning)) × AreFound pack s found × (lists ≡ found ∷ more) × AreFoundIn pack ss more

-- the warnings of the sets that are requested, each once, with exactly the sets that have it
pub record ArePackWarnings (pack : Pack) (r : PackRequest) (warnings : List PackWarning) : Type 0 where
  pub lists : List (List FoundWarning)
  pub are : AreFoundIn pack (sets_of pack r) lists
  pub is : warnings ≡ merged_warnings lists

-- ---- what private contracts cite

-- the warnings of these sets, each once
pub record AreMerged (pack : Pack) (sets : List SetAt) (warnings : List PackWarning) : Type 0 where
  pub lists : List (List FoundWarning)
  pub are : AreFoundIn pack sets lists
  pub is : warnings ≡ merged_warnings lists
