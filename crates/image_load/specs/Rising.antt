-- What the images of texts are like.
use Rattle.std.specs.Prelude.{◌^◌, ◌<◌, ◌≤◌, length}
use Rattle.std.specs.List.{AllByRecursion}
use Rattle.hex_image.specs.Image.{Bytes}
use Rattle.image_load.specs.Laid.{HasRisingAddresses}

-- Addresses rise and are below 2^32, bytes are below 2^8, and there are at most 262,144 of them.
pub record ImageIsInRange (image : Bytes) : Type 0 where
  pub rising : HasRisingAddresses image
  pub fits : AllByRecursion (λ b. (b.0 < 2 ^ 32) × (b.1 < 2 ^ 8)) image
  pub few : length image ≤ 262144
