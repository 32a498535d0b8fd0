-- An image laid over the memory of a target, and what a load of it comes to.
use Rattle.std.specs.Prelude.{◌≡◌, ◌⊎◌, ⊤, ℕ, ◌+◌, ◌*◌, ◌/◌, ◌^◌, ◌<◌, true, false, [], ◌∷◌, length, slice_index, fold, Option, Some, None}
use Rattle.std.specs.FinMap as map
use Rattle.std.specs.List.{AllByRecursion}
use Rattle.hex_image.specs.Image.{Bytes}
use Rattle.target_machine.specs.Aim.{can_aim}
use Rattle.target_machine.specs.Attempt.{above, lanes}
use Rattle.target_machine.specs.Memory.{Cell, Memory, merged_word, shown_value, with_values}
use Rattle.target_machine.specs.Plain.{contains, to_lanes}
use Rattle.target_machine.specs.declared.ap.ApState.{ApState}
use Rattle.target_calls.specs.World.{World, results, stop, world_after}
use Rattle.image_load.specs.Pieces.{first_difference, load_calls, pieces}

-- ---- memory

-- A word with the lane of a byte replaced in the value that it shows is a list of one value. Where there is no such word nothing changes.
abbrev pub word_with : Memory → ℕ × ℕ → Option Cell → Memory
word_with m b None = m
word_with m b (Some c) = map.insert m (b.0 / 4 * 4) (with_values c (merged_word (shown_value c) (to_lanes b.0 b.1) (lanes 1 b.0) ∷ []))

-- A memory with one byte of an image.
abbrev pub with_byte : Memory → ℕ × ℕ → Memory
with_byte m b = word_with m b (map.get m (b.0 / 4 * 4))

-- A memory with an image laid over it. Each word that holds a byte of the image is a list of one value, and all other words stay.
abbrev pub laid_memory : Memory → Bytes → Memory
laid_memory m image = fold with_byte m image

-- ---- a load

-- Each address is above those before it.
abbrev pub HasRisingAddresses : Bytes → Type 0
HasRisingAddresses [] = ⊤
HasRisingAddresses (b ∷ rest) = AllByRecursion (λ d. b.0 < d.0) rest × HasRisingAddresses rest

-- A byte may be written: its word is there, and is not read-only.
pub record MayLoad (m : Memory) (b : ℕ × ℕ) : Type 0 where
  pub byte : b.1 < 2 ^ 8
  pub low : b.0 < 2 ^ 32
  pub word : Cell
  pub there : map.get m (b.0 / 4 * 4) ≡ Some word
  pub writable : word.read_only ≡ false

-- An image may be loaded where all calls are answered, STICKYERR is clear, and the access port is there with its power acknowledged. The upper
-- word of its TAR is 0, or the port is known to have large addresses. Each byte of the image may be written.
pub record CanLoad (w : World) (ap : ℕ) (image : Bytes) : Type 0 where
  pub free : w.answered ≡ None
  pub port : ap < 2 ^ 8
  pub aim : can_aim w.target ap ≡ true
  pub narrow : (contains w.large ap ≡ true) ⊎ ((p : ApState) → map.get w.target.aps ap ≡ Some p → above p ≡ 0)
  pub rising : HasRisingAddresses image
  pub bytes : AllByRecursion (MayLoad w.target.words) image

-- The load lays the image over the memory. None of its calls stops, and no byte differs. The words are the old ones with the image over them.
pub record Laid (w : World) (ap : ℕ) (image : Bytes) : Type 0 where
  pub goes : stop w (load_calls ap (pieces image)) ≡ None
  pub words : (world_after w (load_calls ap (pieces image))).target.words ≡ laid_memory w.target.words image
  pub same : first_difference (pieces image) (λ i. slice_index (results w (load_calls ap (pieces image))) (length (pieces image) + i)) ≡ None
