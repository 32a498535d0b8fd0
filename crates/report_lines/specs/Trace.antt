-- The trace of a run: the packets and replies of a log.
use Rattle.std.specs.Prelude.{◌≡◌, ◌⊎◌, ℕ, ◌+◌, ◌<◌, ◌≤◌, List, ◌++◌, codes, decimal, length, slice_get, Option, Some, None, Result, Ok, Err}
use Rattle.std.specs.Io.KnownBytes.{Appends}
use Rattle.std.specs.List.{flat_map}
use Rattle.dap_base.specs.Streams.{AppendsPrefix}
use Rattle.hex.specs.Hex.{encode_lower}
use Rattle.probe_core.specs.Log.{Entry, Log}
use Rattle.report_lines.specs.declared.put.TextEnd.{TextEnd}
use Rattle.report_lines.specs.declared.trace.Seen.{Seen}
use Rattle.report_lines.specs.declared.trace.Seen.TheVariants as seen
use Rattle.trace_audit.specs.Texts.{entry_mark}

-- a packet that was received, or a reply that was handed out
abbrev pub entry_line : Entry → List ℕ
entry_line entry = entry_mark entry.is_reply ++ encode_lower entry.bytes ++ codes "\n"

-- how many packets and replies are shown, and how many there were
abbrev pub kept_line : ℕ → ℕ → List ℕ
kept_line kept count = codes "trace kept " ++ decimal kept ++ codes " of " ++ decimal count ++ codes "\n"

-- the lines of the kept packets and replies in order, and their numbers
abbrev pub trace : Log → List ℕ
trace log = flat_map entry_line log.kept ++ kept_line (length log.kept) log.count

-- what was put of a line: it is whole, or a part of it from the front
abbrev pub LinePut : Entry → Result Seen TextEnd → Option (List ℕ) → Option (List ℕ) → Type 0
LinePut entry (Ok seen.Kept) old new = Appends old new (entry_line entry)
LinePut entry (Ok seen.NotKept) old new = ⊥
LinePut entry (Ok seen.Past) old new = ⊥
LinePut entry (Err end) old new = AppendsPrefix old new (entry_line entry)

-- What was put for the entry of a number. It is its line where the entry is kept, and nothing where it is not, or where there is none. At an
-- error it is nothing, or a part of its line.
abbrev pub EntryPut : Log → ℕ → Result Seen TextEnd → Option (List ℕ) → Option (List ℕ) → Type 0
EntryPut log index (Ok seen.Kept) old new = (entry : Entry) × (slice_get log.kept index ≡ Some entry) × Appends old new (entry_line entry)
EntryPut log index (Ok seen.NotKept) old new = (length log.kept ≤ index) × (index < log.count) × (new ≡ old)
EntryPut log index (Ok seen.Past) old new = (log.count ≤ index) × (new ≡ old)
EntryPut log index (Err end) old new = (new ≡ old) ⊎ ((entry : Entry) × (slice_get log.kept index ≡ Some entry) × AppendsPrefix old new (entry_line entry))

-- the same with how many are kept: one more with this one, as many as before, or there is none of the number
unfoldable pub StepPut : Log → ℕ → ℕ → Result (Option ℕ) TextEnd → Option (List ℕ) → Option (List ℕ) → Type 0
StepPut log index kept (Ok (Some next)) old new = ((next ≡ kept + 1) × EntryPut log index (Ok seen.Kept) old new) ⊎
    ((next ≡ kept) × EntryPut log index (Ok seen.NotKept) old new)
StepPut log index kept (Ok None) old new = EntryPut log index (Ok seen.Past) old new
StepPut log index kept (Err end) old new = EntryPut log index (Err end) old new

-- what was put for all entries: their lines, and they are counted; at an error a part of them
abbrev pub EntriesPut : Log → Result (ℕ × ℕ) TextEnd → Option (List ℕ) → Option (List ℕ) → Type 0
EntriesPut log (Ok numbers) old new = Appends old new (flat_map entry_line log.kept) × (numbers.0 ≡ length log.kept) × (numbers.1 ≡ log.count)
EntriesPut log (Err end) old new = AppendsPrefix old new (flat_map entry_line log.kept)
