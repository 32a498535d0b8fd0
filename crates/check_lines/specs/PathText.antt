-- A path as text, in the manner of a JSON Pointer in a URI fragment (RFC 6901).
use Rattle.std.specs.Prelude.{ℕ, ◌==◌, List, [], ◌∷◌, ◌++◌, codes, decimal, if◌then◌else◌}
use Rattle.std.specs.List.{flat_map}
use Rattle.json_form.specs.declared.path.PathStep.{PathStep}
use Rattle.json_form.specs.declared.path.PathStep.TheVariants.{Key, Index}

-- a byte of a key: `~0` for a tilde (0x7E), and `~1` for a slash (0x2F)
abbrev pub escaped_byte : ℕ → List ℕ
escaped_byte byte = if byte == 0x7E then codes "~0" else (if byte == 0x2F then codes "~1" else byte ∷ [])

-- a slash, and the key or the number of the item
abbrev pub step_text : PathStep → List ℕ
step_text (Key name) = codes "/" ++ flat_map escaped_byte name
step_text (Index index) = codes "/" ++ decimal index

-- `#`, and then step by step
abbrev pub path_text : List PathStep → List ℕ
path_text path = codes "#" ++ flat_map step_text path
