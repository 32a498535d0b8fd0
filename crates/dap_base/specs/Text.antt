-- The bytes of a text, wherever they are.
use Rattle.std.specs.Prelude.{ℕ, List, string_bytes}
use Rattle.dap_base.specs.declared.text.Stored.{Stored}
use Rattle.dap_base.specs.declared.text.Stored.TheVariants as stored

-- the bytes of a text, which lie in the value itself or on the heap
abbrev pub stored_bytes : Stored → List ℕ
stored_bytes (stored.Inside text) = text.bytes
stored_bytes (stored.OnHeap text) = string_bytes text
