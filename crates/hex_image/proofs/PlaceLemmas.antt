-- Bytes that are placed.
use Rattle.std.proofs.Common.{◌≡◌, ◌∙◌, ℕ, suc, ◌+◌, ◌<◌, List, length, drop, drop-cons, get_or, ap, arith}
use Rattle.std.specs.BTreeMap.{insert_entry}
use Rattle.std.specs.Ordering.{nat_cmp}
use Rattle.hex_image.specs.Image.{Bytes, image_with_bytes}

-- one byte after those that were placed
pub placed_step : (address i : ℕ) (bytes : List ℕ) (image : Bytes) → i < length bytes
    → image_with_bytes (address + i) (drop i bytes) image ≡ image_with_bytes (address + suc i) (drop (suc i) bytes) (insert_entry nat_cmp image (address + i) (get_or bytes i 0))
placed_step address i bytes image less =
    ap (λ (l : List ℕ). image_with_bytes (address + i) l image) (drop-cons bytes i 0 less)
    ∙ ap (λ (k : ℕ). image_with_bytes k (drop (suc i) bytes) (insert_entry nat_cmp image (address + i) (get_or bytes i 0))) (omega arith)
