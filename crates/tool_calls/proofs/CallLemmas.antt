-- What a whole call does, and what follows from it.
use Rattle.std.proofs.Common.{◌≡◌, ◌≢◌, ◌∙◌, ◌⊎◌, ℕ, List, Option, Result, Ok, Err, inl, inr, refl, sym, subst}
use Rattle.std.specs.Prelude.{IfOk, OnOk}
use Rattle.dap_base.specs.Causes.{IsQuiet, Rose}
use Rattle.dap_base.proofs.Basics.{not_rose}
use Rattle.text_lines.specs.Causes.{NamesFault}
use Rattle.text_lines.specs.Puts.{PutsText}
use Rattle.text_lines.specs.declared.putting.TextError.{TextError}
use Rattle.text_lines.specs.declared.putting.TextError.TheVariants as errors
use Rattle.job_source.specs.Source.{AreBytesOf}
use Rattle.tool_calls.specs.declared.unasked.Unasked.{Unasked}
use Rattle.tool_calls.specs.declared.unasked.Unasked.TheVariants as unasked
use Rattle.tool_calls.specs.Calls.{Blames, Call, CallIsDone, Does, FailsPutting, FaultStatuses, IsDisturbed, IsFinished, PutsAs, Tool, does, failed_status, no_memory, unread}

module _ {A E : Type 0} (tool : Tool A E) where
  -- ---- what was asked for

  -- what is found out of the words and the source
  abbrev pub Finds : Call E → Result A Unasked → Type 0
  Finds call asked = IfOk asked (λ answer. (bytes : List ℕ) × AreBytesOf call.old.left bytes × tool.Asks call.words bytes answer)

  pub does_of : (call : Call E) (asked : Result A Unasked) → Finds call asked → (asked ≡ Err unasked.ReadFault → tool.IsLine call.words)
      → NamesFault unasked.ReadFault call.old.source_faults call.new.source_faults asked → IsFinished tool asked call.old.written call.new.written call.end → Does tool call
  does_of call (Ok answer) found line source done = does found.0 answer found.1 found.2 done
  does_of call (Err unasked.ReadFault) found line source done = unread (line refl) (source.failed refl) done.0
  does_of call (Err unasked.OutOfMemory) found line source done = no_memory done.0 done.1

  pub taken_of : (end : E) (asked : Result A Unasked) (before now : ℕ) (old new : Option (List ℕ)) (line : Type 0) (taken : Type 0) → OnOk asked (line → taken)
      → NamesFault unasked.ReadFault before now asked → IsFinished tool asked old new end → line → IsQuiet before now → end ≢ tool.faults.memory → taken
  taken_of end (Ok answer) before now old new line taken is source done on quiet memory = is on
  taken_of end (Err unasked.ReadFault) before now old new line taken is source done on quiet memory = absurd (not_rose before now quiet (source.failed refl))
  taken_of end (Err unasked.OutOfMemory) before now old new line taken is source done on quiet memory = absurd (memory done.0)

  -- ---- what follows

  no_part : (end : E) (before now : ℕ) → Blames tool.faults.write end before now → IsQuiet before now → end ≢ tool.faults.memory → FailsPutting tool.faults end → ⊥
  no_part end before now sink still memory (inl is) = not_rose before now still (sink.failed is)
  no_part end before now sink still memory (inr is) = memory is

  pub success_of : (call : Call E) → Does tool call → Blames tool.faults.write call.end call.old.sink_faults call.new.sink_faults → IsQuiet call.old.source_faults call.new.source_faults
      → IsQuiet call.old.sink_faults call.new.sink_faults → call.end ≢ tool.faults.memory → CallIsDone tool call
  success_of call (does bytes answer are asks (inl put)) sink quiet still memory =
      record { bytes = bytes; answer = answer; are = are; asks = asks; text = put.1; status = put.0 }
  success_of call (does bytes answer are asks (inr part)) sink quiet still memory = absurd (no_part call.end call.old.sink_faults call.new.sink_faults sink still memory part.0)
  success_of call (unread line rose put) sink quiet still memory = absurd (not_rose call.old.source_faults call.new.source_faults quiet rose)
  success_of call (no_memory is same) sink quiet still memory = absurd (memory is)

  -- a text that was put, or a part of it, by its status
  pub put_status : (end own : E) (whole part : Type 0) → ((end ≡ own) × whole) ⊎ (FailsPutting tool.faults end × part) → (end ≡ own) ⊎ FailsPutting tool.faults end
  put_status end own whole part (inl put) = inl put.0
  put_status end own whole part (inr failed) = inr failed.0

  settled : (end own : E) → (IsDisturbed tool.faults end → ⊥) → (end ≡ own) ⊎ FailsPutting tool.faults end → end ≡ own
  settled end own calm (inl is) = is
  settled end own calm (inr fails) = absurd (calm (inr fails))

  -- what a call did whose status is none of a fault outside
  pub record Settled (call : Call E) : Type 0 where
    pub bytes : List ℕ
    pub answer : A
    pub are : AreBytesOf call.old.left bytes
    pub asks : tool.Asks call.words bytes answer
    pub status : call.end ≡ tool.status answer

  pub answered : (call : Call E) → Does tool call → (IsDisturbed tool.faults call.end → ⊥) → Settled call
  answered call (does bytes answer are asks put) calm =
      record { bytes = bytes; answer = answer; are = are; asks = asks; status = settled call.end (tool.status answer) calm (put_status call.end (tool.status answer) _ _ put) }
  answered call (unread line rose put) calm = absurd (calm (put_status call.end tool.faults.read _ _ put))
  answered call (no_memory is same) calm = absurd (calm (inr (inr is)))

  -- each answer that can be asked for has this status, so the call has it unless it was disturbed
  pub comes_or : (call : Call E) → Does tool call → (own : E) → ((bytes : List ℕ) (answer : A) → AreBytesOf call.old.left bytes → tool.Asks call.words bytes answer → tool.status answer ≡ own)
      → (call.end ≡ own) ⊎ IsDisturbed tool.faults call.end
  comes_or call (does bytes answer are asks put) own all = go (put_status call.end (tool.status answer) _ _ put)
    where
      go : (call.end ≡ tool.status answer) ⊎ FailsPutting tool.faults call.end → (call.end ≡ own) ⊎ IsDisturbed tool.faults call.end
      go (inl is) = inl (is ∙ all bytes answer are asks)
      go (inr fails) = inr (inr fails)
  comes_or call (unread line rose put) own all = inr (put_status call.end tool.faults.read _ _ put)
  comes_or call (no_memory is same) own all = inr (inr (inr is))

  -- the same where the words ask for nothing: then no source is read
  pub only_usage : (call : Call E) → Does tool call → (own : E) → ((bytes : List ℕ) (answer : A) → tool.Asks call.words bytes answer → tool.status answer ≡ own) → (tool.IsLine call.words → ⊥)
      → (call.end ≡ own) ⊎ FailsPutting tool.faults call.end
  only_usage call (does bytes answer are asks put) own all none = go (put_status call.end (tool.status answer) _ _ put)
    where
      go : (call.end ≡ tool.status answer) ⊎ FailsPutting tool.faults call.end → (call.end ≡ own) ⊎ FailsPutting tool.faults call.end
      go (inl is) = inl (is ∙ all bytes answer asks)
      go (inr fails) = inr fails
  only_usage call (unread line rose put) own all none = absurd (none line)
  only_usage call (no_memory is same) own all none = inr (inr is)

  -- no answer has the status of a fault, and that of the source is its own
  pub read_by : ((answer : A) → IsDisturbed tool.faults (tool.status answer) → ⊥) → (FailsPutting tool.faults tool.faults.read → ⊥) → (call : Call E) → Does tool call → call.end ≡ tool.faults.read
      → Rose call.old.source_faults call.new.source_faults
  read_by undisturbed apart call (does bytes answer are asks put) is = absurd (go (put_status call.end (tool.status answer) _ _ put))
    where
      go : (call.end ≡ tool.status answer) ⊎ FailsPutting tool.faults call.end → ⊥
      go (inl own) = undisturbed answer (inl (sym own ∙ is))
      go (inr fails) = apart (subst (FailsPutting tool.faults) is fails)
  read_by undisturbed apart call (unread line rose put) is = rose
  read_by undisturbed apart call (no_memory is_so same) is = absurd (apart (inr (sym is ∙ is_so)))

-- ---- a text that is put

module _ {E K : Type 0} (faults : FaultStatuses E) (written : K → Option (List ℕ)) (counted : K → ℕ) where
  -- a text that was put whole, with a status that does not name the sink
  pub put_whole : (piece : List ℕ) (u : Unit {0}) (own end : E) (old new : K) → PutsText piece (Ok u) errors.Failed written counted old new → end ≡ own → (own ≡ faults.write → ⊥)
      → PutsAs faults piece own end written counted old new
  put_whole piece u own end old new puts is apart = record { text = inl (is, puts.text); sink = record { failed = λ blamed. absurd (apart (sym is ∙ blamed)); else = inl puts.sink.else } }

  not_failed : (before now : ℕ) → (errors.OutOfMemory ≡ errors.Failed) ⊎ (now ≡ before) → now ≡ before
  not_failed before now (inl e) = absurd (cc)
  not_failed before now (inr e) = e

  -- a part of a text that was put
  pub put_part : (piece : List ℕ) (error : TextError) (own end : E) (old new : K) → PutsText piece (Err error) errors.Failed written counted old new → end ≡ failed_status faults error
      → (faults.memory ≡ faults.write → ⊥) → PutsAs faults piece own end written counted old new
  put_part piece errors.Failed own end old new puts is apart = record { text = inr (inl is, puts.text); sink = record { failed = λ blamed. puts.sink.failed refl; else = inr is } }
  put_part piece errors.OutOfMemory own end old new puts is apart =
      record { text = inr (inr is, puts.text); sink = record { failed = λ blamed. absurd (apart (sym is ∙ blamed)); else = inl (not_failed (counted old) (counted new) puts.sink.else) } }
