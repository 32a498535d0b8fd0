-- What the replies to a flight show, how it ends by that, and what it did.
use Rattle.std.specs.Prelude.{◌≡◌, ◌⊎◌, ◌<◌, ◌≤◌, ◌^◌, ℕ, Bool, true, false, if◌then◌else◌, List, length, Option, Some, None, ⊤}
use Rattle.dap_base.specs.Causes.{Rose}
use Rattle.target_machine.specs.declared.access.RegAccess.{RegAccess}
use Rattle.dap_messages.specs.declared.request.Response.{Response}
use Rattle.dap_messages.specs.declared.request.Response.TheVariants.{Good, Mismatch}
use Rattle.dap_messages.specs.Responses.{code_of, response_of}
use Rattle.probe_core.specs.Bench.{BenchState, Reported}
use Rattle.flight_forms.specs.Flights.{Part}
use Rattle.flight_forms.specs.declared.form.Form.{Form}
use Rattle.flight_forms.specs.declared.form.Form.TheVariants.{Block, Transfer, Chain}
use Rattle.batch_packer.specs.Alone.{one_reading}
use Rattle.batch_packer.specs.ChainReadings.{chain_reading, is_mismatch}
use Rattle.batch_packer.specs.Exchanges.{GoesOnOver}
use Rattle.batch_packer.specs.Flying.{HasFlown, MayHaveFlown}
use Rattle.batch_packer.specs.declared.ends.Cut.{Cut}
use Rattle.batch_packer.specs.declared.ends.FlightEnd.{FlightEnd}
use Rattle.batch_packer.specs.declared.ends.FlightEnd.TheVariants as ends
use Rattle.batch_packer.specs.declared.part.FlightProgress.{FlightProgress}

-- what the replies to a flight in this form show
abbrev pub form_reading : Form → ℕ → List RegAccess → List (List ℕ) → Option Part
form_reading Block size accesses replies = one_reading true accesses replies
form_reading Transfer size accesses replies = one_reading false accesses replies
form_reading Chain size accesses replies = chain_reading size accesses replies

-- a flight asks for no value match of its own, so that 11 is no response of one
abbrev pub unless_mismatch : Option Part → Option Part
unless_mismatch None = None
unless_mismatch (Some part) = if is_mismatch part.response then None else Some part

-- What the replies to a flight of these accesses show, in packets of this size at most. They show none where one breaks the rules of replies, or
-- those on chains.
abbrev pub flight_reading : Form → ℕ → List RegAccess → List (List ℕ) → Option Part
flight_reading form size accesses replies = unless_mismatch (form_reading form size accesses replies)

-- The cut is that of this part, which ended by 02 or 04.
pub record IsCutOf (part : Part) (cut : Cut) (values : List (Option ℕ)) : Type 0 where
  pub performed : cut.performed ≡ part.performed
  pub confirmed : cut.confirmed ≡ part.confirmed
  pub response : cut.response ≡ code_of part.response
  pub stopped : (cut.response ≡ 0x02) ⊎ (cut.response ≡ 0x04)
  pub seen : values ≡ part.values

-- The part came to its end.
pub record IsWholeOf (part : Part) (values : List (Option ℕ)) : Type 0 where
  pub response : part.response ≡ Good
  pub seen : values ≡ part.values

-- How a flight ends by what its replies show: it was cut where they say so, and a reply is bad exactly where they show nothing.
abbrev pub EndsBy : Option Part → Option FlightEnd → List (Option ℕ) → Type 0
EndsBy (Some part) None values = IsWholeOf part values
EndsBy (Some part) (Some (ends.Cut cut)) values = IsCutOf part cut values
EndsBy (Some part) (Some ends.ReplyBad) values = ⊥
EndsBy None None values = ⊥
EndsBy None (Some (ends.Cut cut)) values = ⊥
EndsBy None (Some ends.ReplyBad) values = ⊤
EndsBy found (Some ends.BenchFault) values = ⊤

-- all accesses, each of them good
abbrev pub whole_part : List RegAccess → List (Option ℕ) → Part
whole_part accesses values = record { performed = length accesses; confirmed = length accesses; response = Good; values = values }

-- the accesses that a cut names
abbrev pub cut_part : Cut → Response → List (Option ℕ) → Part
cut_part cut response values = record { performed = cut.performed; confirmed = cut.confirmed; response = response; values = values }

-- a flight that was cut, by its response, which is not that all is good
abbrev pub FlewCut : Form → List RegAccess → Cut → List (Option ℕ) → Option Response → BenchState → BenchState → Type 0
FlewCut form accesses cut values None m n = ⊥
FlewCut form accesses cut values (Some response) m n = (response ≡ Good → ⊥) × HasFlown form accesses (cut_part cut response values) m n

-- What a flight did that ended so, or came to its end. A reply is never bad.
abbrev pub Flew : Form → List RegAccess → Option FlightEnd → List (Option ℕ) → BenchState → BenchState → Type 0
Flew form accesses None values m n = HasFlown form accesses (whole_part accesses values) m n
Flew form accesses (Some (ends.Cut cut)) values m n = FlewCut form accesses cut values (response_of cut.response) m n
Flew form accesses (Some ends.BenchFault) values m n = MayHaveFlown form accesses m n
Flew form accesses (Some ends.ReplyBad) values m n = ⊥

-- whether a flight that ended so got all its replies
abbrev pub got_replies : Option FlightEnd → Bool
got_replies (Some ends.BenchFault) = false
got_replies _ = true

-- A flight ends by a fault of the bench only where the count of faults rose, and otherwise leaves the count.
pub record HasEndCause (before now : ℕ) (end : Option FlightEnd) : Type 0 where
  pub later : before ≤ now
  pub failed : end ≡ Some ends.BenchFault → Rose before now
  pub others : got_replies end ≡ true → now ≡ before

-- What each call of a flight keeps of its bench, and its cause where it ends so.
pub record EndsOver {B : Type 0} (reported : B → Reported) (state : B → Option BenchState) (identity : B → ℕ) (end : Option FlightEnd)
    (old new : B) : Type 0 where
  pub on : GoesOnOver reported state identity old new
  pub cause : HasEndCause (reported old).faults (reported new).faults end

-- numbers of 32 bits
pub record IsSmall (progress : FlightProgress) : Type 0 where
  pub performed : progress.performed < 2 ^ 32
  pub confirmed : progress.confirmed < 2 ^ 32

-- how a flight ends that came so far and was answered so
abbrev pub end_at : Response → FlightProgress → Option FlightEnd
end_at Good progress = None
end_at Mismatch progress = Some ends.ReplyBad
end_at response progress = Some (ends.Cut (record { performed = progress.performed; confirmed = progress.confirmed; response = code_of response }))

-- the same by what its replies said; they are bad where they said nothing
abbrev pub end_of : Option FlightProgress → Option FlightEnd
end_of None = Some ends.ReplyBad
end_of (Some progress) = end_at progress.response progress

-- A cut names accesses of a flight of so many: the performed ones are among them, and not all are confirmed.
abbrev pub IsShort : ℕ → Option FlightEnd → Type 0
IsShort count (Some (ends.Cut cut)) = (cut.performed ≤ count) × (cut.confirmed < count)
IsShort count end = ⊤
