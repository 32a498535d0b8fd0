-- Laws of runs with a load or a scan after them.
use Rattle.std.specs.Prelude.{◌≡◌, ℕ, ◌^◌, ◌<◌, List, ◌++◌, Option, Some, length, option_map, take}
use Rattle.hex_image.specs.Image.{Bytes}
use Rattle.target_calls.specs.World.{World, world_after}
use Rattle.image_load.specs.Laid.{CanLoad, laid_memory}
use Rattle.image_load.specs.LoadSequel.{load_sequel}
use Rattle.image_load.specs.Pieces.{pieces}
use Rattle.rom_scan.specs.Listing.{component_lines, components, listed_within}
use Rattle.rom_scan.specs.Showing.{CanScan, base_at, shows}
use Rattle.rom_scan.specs.declared.component.Component.{Component}
use Rattle.sequels.specs.Sequel.{Sequel}
use Rattle.sequels.specs.declared.close.Close.{Close}
use Rattle.sequels.specs.declared.close.Close.TheVariants as close
use Rattle.sequence_rules.specs.Runs as runs
use Rattle.sequence_rules.specs.Runs.{Outcome, Program, meaning, outcome_of}
use Rattle.followed_runs.specs.Followed.{Task, close_in, outcome_in_world}
use Rattle.task_runs.specs.Tasks.{scan_close, scanning}

-- what a program comes to by itself
abbrev pub alone_in : World → Program → Option (List ℕ) → Outcome
alone_in w p before = outcome_of (meaning w p before)

-- the world in which what follows goes on
abbrev pub world_then : World → Program → Option (List ℕ) → World
world_then w p before = world_after w (alone_in w p before).calls

-- a program, and this after it
abbrev pub with_sequel : Program → Sequel Close → Task
with_sequel p s = record { program = p; sequel = Some s }

-- The task is done. The words of its target are those that the sequence leaves, with the image laid over them. All of the image was
-- loaded.
pub record EndsLaid (w : World) (p : Program) (before : Option (List ℕ)) (ap : ℕ) (image : Bytes) : Type 0 where
  pub ending : (outcome_in_world w (with_sequel p (load_sequel ap image)) before).ending ≡ runs.Done
  pub words : (outcome_in_world w (with_sequel p (load_sequel ap image)) before).target.words ≡ laid_memory (world_then w p before).target.words image
  pub close : close_in w (with_sequel p (load_sequel ap image)) before ≡ close.Loaded (length image) (length (pieces image))

-- Where the sequence is done, and the image may be loaded then, that is so.
abbrev pub LoadsAreLaid : Type 0
LoadsAreLaid = (w : World) (p : Program) (before : Option (List ℕ)) (ap : ℕ) (image : Bytes) → (alone_in w p before).ending ≡ runs.Done
    → CanLoad (world_then w p before) ap image → EndsLaid w p before ap image

-- the components that the words of the target show which the sequence leaves
abbrev pub components_shown : World → Program → Option (List ℕ) → ℕ → List Component
components_shown w p before ap = components (shows (world_then w p before).target) (base_at (world_then w p before).target ap)

-- The task is done. The lines of the components that the words of its target show were written after those of the sequence. Where there are more
-- than 1,024, those of the first 1,024 were written, and it is full exactly there. The words are those that the sequence leaves.
pub record EndsListed (w : World) (p : Program) (before : Option (List ℕ)) (ap : ℕ) : Type 0 where
  pub ending : (outcome_in_world w (with_sequel p (scanning ap)) before).ending ≡ runs.Done
  pub written : (outcome_in_world w (with_sequel p (scanning ap)) before).written
      ≡ option_map (λ bytes. bytes ++ component_lines (take 1024 (components_shown w p before ap))) (alone_in w p before).written
  pub words : (outcome_in_world w (with_sequel p (scanning ap)) before).target.words ≡ (world_then w p before).target.words
  pub close : close_in w (with_sequel p (scanning ap)) before ≡ scan_close (listed_within 1024 (components_shown w p before ap))

-- Where the sequence is done, and words can be read by the access port then, that is so.
abbrev pub ScansAreListed : Type 0
ScansAreListed = (w : World) (p : Program) (before : Option (List ℕ)) (ap : ℕ) → ap < 2 ^ 8 → (alone_in w p before).ending ≡ runs.Done
    → CanScan (world_then w p before) ap → EndsListed w p before ap
