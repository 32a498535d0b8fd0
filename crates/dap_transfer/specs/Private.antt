-- Words of helper contracts and proofs alone: a run of wire transfers as a recursion that stops, and what the code keeps from
-- request to request. No public clause cites them.
use Rattle.std.specs.Prelude.{◌≡◌, ℕ, ◌+◌, Option, Some, None, Result, Ok, Err, ◌||◌, ◌-◌, ◌^◌, min, Bool, true, false, not, if◌then◌else◌, List, [], ◌∷◌, ◌++◌, ⊤}
use Rattle.target_machine.specs.declared.access.RegAccess.{RegAccess}
use Rattle.dap_messages.specs.declared.request.Request.{Request}
use Rattle.dap_messages.specs.declared.request.RequestKind.{RequestKind}
use Rattle.dap_messages.specs.declared.request.Response.{Response}
use Rattle.dap_messages.specs.declared.request.Response.TheVariants.{Good}
use Rattle.dap_messages.specs.Requests.{gives_word, kind}
use Rattle.dap_transfer.specs.declared.notes.Notes.{Notes}
use Rattle.dap_transfer.specs.declared.notes.Served.{Served}
use Rattle.dap_transfer.specs.State.{Setting, TransferState, WireState, grown_work, is_wait}
use Rattle.dap_transfer.specs.Transfer.{RunResult, ending, is_pending, is_work, is_writes, word_of_role}
use Rattle.dap_transfer.specs.ValueMatch.{match_ending}
use Rattle.dap_transfer.specs.WireTransfer.{Ending, reads_rdbuff_itself, value, wire_ending_as}
use Rattle.dap_transfer.specs.Wires.{Wire, between, check_if, fetch_if, mask_by, own}

-- the work of one wire transfer that ended so
abbrev pub work_of : Wire → Ending → ℕ
work_of w d = if is_work w.role w.access then d.count else 0

-- a run with words and work before it
abbrev pub front : List ℕ → ℕ → RunResult → RunResult
front words work ran = record ran { words = words ++ ran.words; work = work + ran.work }

-- a run whose first wire transfer doesn't end well
abbrev pub stopped_at : Response → Bool → Wire → Ending → RunResult
stopped_at r before w d = record {
  response = r;
  line = d.line;
  words = [];
  work = work_of w d;
  written = before;
  pending = is_pending w.role before d.count;
  executed = w.executed;
  mask = w.mask;
}

-- a run whose first wire transfer ended so, and what follows it
abbrev pub first_then : Response → Bool → WireState → Wire → Ending → RunResult → RunResult
first_then Good before l w d rest = front (word_of_role w.role (value l w.access)) (work_of w d) rest
first_then r before l w d rest = stopped_at r before w d

-- wire transfers, one after another until one doesn't end well
abbrev pub run : Setting → Bool → WireState → List Wire → RunResult
run s before l [] = record { response = Good; line = l; words = []; work = 0; written = before; pending = false; executed = 0; mask = 0 }
run s before l (w ∷ ws) =
    first_then (ending s l w).response before l w (ending s l w) (run s (is_writes w.role) (ending s l w).line ws)

-- a run, and where it ended well another after it
abbrev pub run_then : Response → RunResult → RunResult → RunResult
run_then Good a b = front a.words a.work b
run_then _ a b = a

-- ---- what the code keeps from request to request, against a run

-- the match mask after a request, which sets one where it ended well
abbrev pub mask_if : Response → RequestKind → ℕ → Request → ℕ
mask_if Good k mask r = mask_by k mask r
mask_if _ k mask r = mask

-- the probe after a run that a request made
abbrev pub state_after_run : TransferState → RunResult → RequestKind → Request → TransferState
state_after_run p ran k r = record p { line = ran.line; work = grown_work p.work ran.work; mask = mask_if ran.response k p.mask r }

-- what the notes say after a request: where it ended well what is owed, else whether something was pending
abbrev pub IsNoted : Response → RunResult → Bool → Notes → Notes → Type 0
IsNoted Good ran posted old new = new ≡ record { outstanding = posted; unchecked = ran.written; executed = old.executed + 1 }
IsNoted _ ran posted old new = ((new.outstanding || new.unchecked) ≡ ran.pending) × (new.executed ≡ old.executed)

-- what a request of its own answers
abbrev pub own_answer : Response → List ℕ → Result (Option ℕ) Response
own_answer Good [] = Ok None
own_answer Good (w ∷ ws) = Ok (Some w)
own_answer r ws = Err r

-- the run of a request's own wire transfers
abbrev pub own_ran : TransferState → RequestKind → Notes → Request → RunResult
own_ran p k notes r = run p.setting notes.unchecked p.line (own k notes.executed p.mask r)

-- the run of all wire transfers that a request makes
abbrev pub request_ran : TransferState → Notes → Request → RunResult
request_ran p notes r = run p.setting notes.unchecked p.line (between (kind r) notes.outstanding notes.executed p.mask r)

-- how many words a request of this kind gives
abbrev pub word_of : RequestKind → ℕ
word_of k = if gives_word k then 1 else 0

-- how many words are still owed
abbrev pub open_reads : Bool → ℕ
open_reads true = 1
open_reads false = 0

-- the run of what is left at the end of a command
abbrev pub close_ran : TransferState → Notes → RunResult
close_ran p notes = run p.setting notes.unchecked p.line (fetch_if notes.outstanding notes.executed p.mask ++ check_if notes.unchecked notes.executed p.mask)

-- what the notes say after the end of a command
abbrev pub IsClosed : Response → RunResult → Notes → Type 0
IsClosed Good ran new = ⊤
IsClosed _ ran new = (new.outstanding || new.unchecked) ≡ ran.pending

-- the probe where a command has ended
abbrev pub state_after_command : TransferState → Response → Bool → TransferState
state_after_command p response pending = record p {
  ended_retries = if is_wait response then min (p.ended_retries + 1) (2 ^ 32 - 1) else p.ended_retries;
  pending = if is_wait response then pending else p.pending;
}

-- ---- the words of single functions

-- what one wire transfer answers
abbrev pub wire_answer : Response → ℕ → Result ℕ Response
wire_answer Good v = Ok v
wire_answer r v = Err r

-- how a wire transfer ended, by its answer
abbrev pub response_of : Result ℕ Response → Response
response_of (Ok v) = Good
response_of (Err r) = r

-- how a value match ends that a probe makes now
abbrev pub value_matched : TransferState → RegAccess → ℕ → Ending
value_matched p a requested = match_ending p.setting p.mask requested a (p.setting.matches + 1) p.line

-- the word, where there is one
abbrev pub words_given : Option ℕ → List ℕ
words_given None = []
words_given (Some w) = w ∷ []

-- what a request answers, by the word of the read before it and by what its own wire transfers answer
abbrev pub with_own : Option ℕ → Result (Option ℕ) Response → Served
with_own fetched (Ok own) = record { response = Good; fetched = fetched; own = own }
with_own fetched (Err r) = record { response = r; fetched = fetched; own = None }

-- after the wire transfer of one word
abbrev pub word_done_as : Response → TransferState → RegAccess → TransferState
word_done_as r p a = record p {
  line = (wire_ending_as r p.line a).line;
  work = grown_work p.work (if not (reads_rdbuff_itself a) then (wire_ending_as r p.line a).count else 0);
}
