-- Whole lines, one after the other.
use Rattle.std.proofs.Common.{◌≡◌, ◌∙◌, ℕ, List, [], ◌++◌, codes, decimal, length, Option, Result, Ok, Err, IfOk, ap, refl, subst, sym}
use Rattle.std.proofs.lemmas.List.{append_assoc, append-nil}
use Rattle.std.proofs.KnownBytes.{Appends-trans, Appends-nil}
use Rattle.std.specs.Io.KnownBytes.{Appends}
use Rattle.text_lines.specs.Shown.{shown_text}
use Rattle.sequence_rules.specs.Lines.{formatted_text, message_line, query_line, value_line, load_line}
use Rattle.function_calls.specs.declared.end.End.{End}
use Rattle.function_calls.specs.declared.end.End.TheVariants as end
use Rattle.function_calls.specs.Lines.{AppendsLines, AreWholeLines, WritesLines, empty, ended}

lines_on : (xs ys : List ℕ) → AreWholeLines xs → AreWholeLines ys → AreWholeLines (xs ++ ys)
lines_on xs ys first (empty none) = subst (λ (l : List ℕ). AreWholeLines l) (sym (ap (λ l. xs ++ l) none ∙ append-nil xs)) first
lines_on xs ys first (ended front is) = ended (xs ++ front) (ap (λ l. xs ++ l) is ∙ sym (append_assoc xs front (codes "\n")))

-- nothing was written
pub lines_none : (a : Option (List ℕ)) → AppendsLines a a
lines_none a = record { text = []; whole = empty refl; appends = Appends-nil a }

-- whole lines, and then a text of lines
pub lines_more : (base old new : Option (List ℕ)) (text : List ℕ) → AppendsLines base old → AreWholeLines text → Appends old new text → AppendsLines base new
lines_more base old new text since whole more = record { text = since.text ++ text; whole = lines_on since.text text since.whole whole; appends = Appends-trans base old new since.text text since.appends more }

-- a call that writes nothing
pub lines_kept : {A : Type 0} (result : Result A End) (base old : Option (List ℕ)) → AppendsLines base old → WritesLines result base old
lines_kept (Ok x) base old h = h
lines_kept (Err (end.Halted cause)) base old h = h
lines_kept (Err end.Stopped) base old h = h
lines_kept (Err end.OutOfMemory) base old h = h
lines_kept (Err end.WriteFault) base old h = tt

-- the bytes of a whole line
pub whole_bytes : {E : Type 0} (bytes l : List ℕ) (line : Result (List ℕ) E) → bytes ≡ l → line ≡ Ok l → IfOk line AreWholeLines → AreWholeLines bytes
whole_bytes {E = E} bytes l line is_bytes is whole = subst (λ (x : List ℕ). AreWholeLines x) (sym is_bytes) (subst (λ (r : Result (List ℕ) E). IfOk r AreWholeLines) is whole)

-- ---- the lines of calls

pub message_whole : {E : Type 0} (r : Result (List ℕ) E) (kind : ℕ) (format numbers : List ℕ) → IfOk r (λ l. l ≡ message_line kind format numbers) → IfOk r AreWholeLines
unfolding message_line
message_whole (Err e) kind format numbers h = tt
message_whole (Ok l) kind format numbers h = ended (codes "message " ++ decimal kind ++ codes " " ++ shown_text (formatted_text (length format) format numbers)) h

pub query_whole : {E : Type 0} (r : Result (List ℕ) E) (kind : ℕ) (text : List ℕ) (default : ℕ) → IfOk r (λ l. l ≡ query_line kind text default) → IfOk r AreWholeLines
unfolding query_line
query_whole (Err e) kind text default h = tt
query_whole (Ok l) kind text default h = ended (codes "query " ++ decimal kind ++ codes " " ++ shown_text text ++ codes " = " ++ decimal default) h

pub value_whole : {E : Type 0} (r : Result (List ℕ) E) (text : List ℕ) (default : ℕ) → IfOk r (λ l. l ≡ value_line text default) → IfOk r AreWholeLines
unfolding value_line
value_whole (Err e) text default h = tt
value_whole (Ok l) text default h = ended (codes "value " ++ shown_text text ++ codes " = " ++ decimal default) h

pub load_whole : {E : Type 0} (r : Result (List ℕ) E) (text : List ℕ) → IfOk r (λ l. l ≡ load_line text) → IfOk r AreWholeLines
unfolding load_line
load_whole (Err e) text h = tt
load_whole (Ok l) text h = ended (codes "load " ++ shown_text text) h

pub ruleset kept_whole = (lines_none, lines_kept)
