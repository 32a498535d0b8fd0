-- Events only add lines to a log, and their text is that of the lines.
use Rattle.std.proofs.Common.{◌≡◌, ◌∙◌, ℕ, List, [], ◌∷◌, ◌++◌, length, take, map, flat_map, sym, ap, refl}
use Rattle.std.proofs.lemmas.List.{append_assoc, append-nil, take-map}
use Rattle.std.proofs.lemmas.Grind.{flat_map-append}
use Rattle.std.proofs.Math.Seq.{take-append_seam}
use Rattle.run_events.specs.Events.{Event}
use Rattle.log_lines.specs.Entries.{log_entry_line}
use Rattle.log_lines.specs.declared.entries.LogEntry.{LogEntry}
use Rattle.log_lines.specs.Laws.{CutsTakeBack, LinesAreTheText}
use Rattle.log_lines.specs.LogLines.{LogLines, lines_after_event, lines_after_events, text_of_lines}
use Rattle.log_lines.specs.LogText.{LogText, depth_after, event_line, text_after_event, text_after_events}

-- what events add
record Grown (log now : LogLines) : Type 0 where
  more : List (List ℕ)
  lines : now.lines ≡ log.lines ++ more

grown : (log : LogLines) (events : List Event) → Grown log (lines_after_events log events)
grown log [] = record { more = []; lines = sym (append-nil log.lines) }
grown log (e ∷ events) =
    let rest = grown (lines_after_event log e) events in
    record { more = event_line log.depth e ∷ rest.more; lines = rest.lines ∙ append_assoc log.lines (event_line log.depth e ∷ []) rest.more }

pub cuts_back : CutsTakeBack
cuts_back log events =
    let h = grown log events in
    ap (λ t. record { lines = t; depth = log.depth }) (ap (take (length log.lines)) h.lines ∙ take-append_seam log.lines h.more)

-- ---- the text

text_after : (lines : List (List ℕ)) (line : List ℕ) → flat_map (λ l. l) (lines ++ line ∷ []) ≡ flat_map (λ l. l) lines ++ line
text_after lines line = flat_map-append (λ l. l) lines (line ∷ []) ∙ ap (λ t. flat_map (λ l. l) lines ++ t) (append-nil line)

-- a text so deep
abbrev pub text_at : ℕ → List ℕ → LogText
text_at depth text = record { text = text; depth = depth }

written_one : (log : LogLines) (e : Event) → text_of_lines (lines_after_event log e) ≡ text_after_event (text_of_lines log) e
written_one log e = ap (text_at (depth_after log.depth e)) (text_after log.lines (event_line log.depth e))

pub written_all : LinesAreTheText
written_all log [] = refl
written_all log (e ∷ events) = written_all (lines_after_event log e) events ∙ ap (λ (l : LogText). text_after_events l events) (written_one log e)

pub joined : (entries : List LogEntry) → flat_map (λ l. l) (map log_entry_line entries) ≡ flat_map log_entry_line entries
joined [] = refl
joined (entry ∷ entries) = ap (λ t. log_entry_line entry ++ t) (joined entries)

-- so many lines, so deep
abbrev pub lines_at : ℕ → List (List ℕ) → LogLines
lines_at depth lines = record { lines = lines; depth = depth }

-- a log with so many events is one with so many lines
pub cut_lines : (n depth : ℕ) (entries left : List LogEntry) → left ≡ take n entries → lines_at depth (map log_entry_line left) ≡ lines_at depth (take n (map log_entry_line entries))
cut_lines n depth entries left is = ap (lines_at depth) (ap (map log_entry_line) is ∙ sym (take-map log_entry_line n entries))

pub text_lines : (depth : ℕ) (entries : List LogEntry) (text : List ℕ) → text ≡ flat_map log_entry_line entries → text_at depth text ≡ text_of_lines (lines_at depth (map log_entry_line entries))
text_lines depth entries text is = ap (text_at depth) (is ∙ sym (joined entries))
