-- A load as a sequel: its calls, and its end by their results.
use Rattle.std.specs.Prelude.{ℕ, ◌+◌, List, [], ◌∷◌, length, slice_index, Option, Some, None}
use Rattle.hex_image.specs.Image.{Bytes}
use Rattle.target_calls.specs.declared.calls.Ask.{Ask}
use Rattle.sequels.specs.Sequel.{Sequel, Ends, Asks}
use Rattle.sequels.specs.declared.close.Close.{Close}
use Rattle.sequels.specs.declared.close.Close.TheVariants.{Loaded, Differs}
use Rattle.image_load.specs.Pieces.{first_difference, load_calls, pieces}
use Rattle.image_load.specs.declared.piece.Difference.{Difference}

-- Calls in a row, and then what is made of their results.
abbrev pub asks_each : {X : Type 0} → List Ask → (List ℕ → Sequel X) → Sequel X
asks_each [] next = next []
asks_each (ask ∷ calls) next = Asks ask (λ n. asks_each calls (λ found. next (n ∷ found)))

-- The end of a load of so many bytes and writes: a byte differs, or none does.
abbrev pub close_by : ℕ → ℕ → Option Difference → Close
close_by bytes writes None = Loaded bytes writes
close_by bytes writes (Some d) = Differs d.address d.wanted d.found

-- The end of the load of an image, by the results of its writes and then of its reads.
abbrev pub load_close : Bytes → List ℕ → Close
load_close image found = close_by (length image) (length (pieces image)) (first_difference (pieces image) (λ i. slice_index found (length (pieces image) + i)))

-- The load of an image through an access port.
abbrev pub load_sequel : ℕ → Bytes → Sequel Close
load_sequel ap image = asks_each (load_calls ap (pieces image)) (λ found. Ends (load_close image found))
