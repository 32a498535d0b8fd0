-- When two items of a list are the same.
use Rattle.std.specs.Prelude.{ℕ, ◌&&◌, Bool, true, false, List, Option, Some, None}
use Rattle.std.specs.Str.{bytes_eq}
use Rattle.device_tree.specs.declared.pack.SeqText.{SeqText}
use Rattle.device_tree.specs.declared.pack.Variant.{Variant}

-- both are absent, or both are the same text
abbrev pub same_text : Option (List ℕ) → Option (List ℕ) → Bool
same_text None None = true
same_text None (Some t) = false
same_text (Some s) None = false
same_text (Some s) (Some t) = bytes_eq s t

-- sequences with one name, and with one `Pname` or both without
abbrev pub same_sequence : SeqText → SeqText → Bool
same_sequence a b = bytes_eq a.name b.name && same_text a.pname b.pname

-- variants with one `Dvariant`
abbrev pub same_variant : Variant → Variant → Bool
same_variant a b = bytes_eq a.name b.name
