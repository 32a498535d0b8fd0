-- What an audit answers.
use Rattle.std.specs.Prelude.{◌≡◌, ◌≢◌, ℕ, Bool, true, false, not, List, [], ◌∷◌, ◌++◌, length, map, count_by, slice_get, Some, Result, Ok, Err, ⊤}
use Rattle.probe_core.specs.Log.{Entry, packet_entry, reply_entry}
use Rattle.probe_core.specs.Probe.{ProbeState, refusal_of}
use Rattle.probe_core.specs.Runs.{CanCome, IsRun, after_entry}
use Rattle.trace_audit.specs.declared.entry.Entry as trace
use Rattle.trace_audit.specs.declared.auditing.Audited.{Audited}
use Rattle.trace_audit.specs.declared.auditing.AuditFault.{AuditFault}
use Rattle.trace_audit.specs.declared.auditing.AuditFault.TheVariants as faults
use Rattle.trace_audit.specs.declared.auditing.Wrong.{Wrong}
use Rattle.trace_audit.specs.declared.auditing.Wrong.TheVariants as wrongs

-- ---- entries

-- an entry of a trace as one of a log
abbrev pub entry_of : trace.Entry → Entry
entry_of (trace.TheVariants.Sent bytes) = packet_entry bytes
entry_of (trace.TheVariants.Replied bytes) = reply_entry bytes

-- the entries of a trace as those of a log
abbrev pub entries_of : List trace.Entry → List Entry
entries_of = map entry_of

-- ---- one entry

-- the entry can come next, and leads to this probe
pub record Comes (p : ProbeState) (e : Entry) (q : ProbeState) : Type 0 where
  pub can : CanCome e.is_reply p e.bytes
  pub next : q ≡ after_entry e.is_reply p e.bytes

-- the probe does not take the packet, for this reason
abbrev pub IsWrongPacket : ProbeState → List ℕ → Wrong → Type 0
IsWrongPacket p bytes (wrongs.Refused refusal) = refusal_of p bytes ≡ Some refusal
IsWrongPacket p bytes other = ⊥

-- no reply waits, or the oldest one has other bytes
abbrev pub IsWrongReply : ProbeState → List ℕ → Wrong → Type 0
IsWrongReply p bytes wrongs.NoReply = p.waiting ≡ []
IsWrongReply p bytes wrongs.OtherReply = (oldest : List ℕ) × (slice_get p.waiting 0 ≡ Some oldest) × (oldest ≢ bytes)
IsWrongReply p bytes (wrongs.Refused refusal) = ⊥

-- the packet or the reply cannot come next, for this reason
abbrev pub IsWrongEntry : Bool → ProbeState → List ℕ → Wrong → Type 0
IsWrongEntry false p bytes wrong = IsWrongPacket p bytes wrong
IsWrongEntry true p bytes wrong = IsWrongReply p bytes wrong

-- the entry cannot come next, for this reason
abbrev pub IsWrong : ProbeState → Entry → Wrong → Type 0
IsWrong p e wrong = IsWrongEntry e.is_reply p e.bytes wrong

-- ---- all entries

-- the fault of the entry of this number
abbrev pub fault_at : ℕ → Wrong → AuditFault
fault_at number (wrongs.Refused refusal) = faults.Refused number refusal
fault_at number wrongs.NoReply = faults.NoReply number
fault_at number wrongs.OtherReply = faults.WrongReply number

-- The entries before this one are a run of the probe, and it cannot come after them; the fault has the number of them, and why.
pub record IsFirstWrong (first : ProbeState) (es : List Entry) (fault : AuditFault) : Type 0 where
  pub before : List Entry
  pub here : Entry
  pub later : List Entry
  pub parts : es ≡ before ++ here ∷ later
  pub probe : ProbeState
  pub run : IsRun first before probe
  pub wrong : Wrong
  pub is : IsWrong probe here wrong
  pub fault_is : fault ≡ fault_at (length before) wrong

-- the first fault of the entries, unless memory ran out
abbrev pub IsFault : ProbeState → List Entry → AuditFault → Type 0
IsFault first es faults.OutOfMemory = ⊤
IsFault first es fault = IsFirstWrong first es fault

-- The entries are a run of the probe that leads to this one; so many of them are packets, and so many replies.
pub record IsAudited (first : ProbeState) (es : List Entry) (a : Audited) : Type 0 where
  pub run : IsRun first es a.probe
  pub packets : a.packets ≡ count_by (λ e. not e.is_reply) es
  pub replies : a.replies ≡ count_by (λ e. e.is_reply) es

-- what an audit answers: the probe after the run, or the first entry that cannot come
abbrev pub Audits : ProbeState → List Entry → Result Audited AuditFault → Type 0
Audits first es (Ok a) = IsAudited first es a
Audits first es (Err fault) = IsFault first es fault

-- the entries are accepted, with this probe after them, unless memory ran out
abbrev pub Accepts : ProbeState → Result Audited AuditFault → Type 0
Accepts last (Ok a) = a.probe ≡ last
Accepts last (Err faults.OutOfMemory) = ⊤
Accepts last (Err fault) = ⊥
