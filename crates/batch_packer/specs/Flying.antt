-- What a flight does to a bench.
use Rattle.std.specs.Prelude.{◌≡◌, ◌≤◌, ◌⊎◌, ℕ, Bool, false, not, List, [], ◌∷◌, Option, Some, None}
use Rattle.target_machine.specs.Attempt.{bank}
use Rattle.target_machine.specs.InRange.{IsInRange}
use Rattle.target_machine.specs.Plain.{dp_read_of}
use Rattle.target_machine.specs.declared.access.RegAccess.{RegAccess}
use Rattle.dap_messages.specs.declared.request.Response.TheVariants.{Good}
use Rattle.dap_transfer.specs.State.{TransferState}
use Rattle.probe_core.specs.Bench.{BenchState, Reported, counted_up}
use Rattle.probe_core.specs.Commands.{with_transfers}
use Rattle.probe_core.specs.Probe.{target_of}
use Rattle.probe_core.specs.Ranges.{AreLimits}
use Rattle.probe_core.specs.declared.job.Limits.{Limits}
use Rattle.flight_forms.specs.Chains.{IsGuardOpen}
use Rattle.flight_forms.specs.Flights.{DoesPart, Part}
use Rattle.flight_forms.specs.declared.form.Form.{Form}
use Rattle.flight_forms.specs.declared.form.Form.TheVariants.{Chain, Transfer}
use Rattle.batch_packer.specs.Exchanges.{IsIdle, StepsWhere, TakesPackets}
use Rattle.batch_packer.specs.Readings.{part_with}
use Rattle.batch_packer.specs.declared.part.FlightProgress.{FlightProgress}
use Rattle.dap_messages.specs.Responses.{is_good}

-- what makes the transfers of a bench
abbrev pub transfers_of : BenchState → TransferState
transfers_of m = m.probe.executor.transfers

-- A flight of these accesses did this part of them, from one state of the bench to another, and left the idle cycles.
pub record Flies (accesses : List RegAccess) (part : Part) (m o : BenchState) : Type 0 where
  pub does : DoesPart (transfers_of m) (transfers_of o) accesses part
  pub idle_cycles : o.probe.executor.idle ≡ m.probe.executor.idle

-- A bench over which a flight does what is said of it. Match mask and match retry are 0, bit 0 of DPIDR is set, and STICKYERR is clear. The
-- numbers of the target fit their registers and words.
pub record CanFly (m : BenchState) : Type 0 where
  pub guard : IsGuardOpen (transfers_of m)
  pub in_range : IsInRange (target_of m.probe)

-- an idle bench with these limits, whose target has numbers in their ranges
pub record HasLimits (given : Limits) (m : BenchState) : Type 0 where
  pub idle : IsIdle m
  pub limits : m.probe.executor.limits ≡ given
  pub in_range : IsInRange (target_of m.probe)

-- the same of an idle bench with these limits
pub record IsReady (given : Limits) (m : BenchState) : Type 0 where
  pub idle : IsIdle m
  pub limits : m.probe.executor.limits ≡ given
  pub flies : CanFly m

-- From an idle bench with the limits that it reports, over which a flight can be sent, this step is made.
abbrev pub StepsReady : {B : Type 0} → (B → Reported) → (B → Option BenchState) → (BenchState → BenchState → Type 0) → B → B → Type 0
StepsReady reported state step old new = StepsWhere (IsReady (reported old).limits) step (state old) (state new)

-- whether the match mask may stay set: after a chain that was cut
abbrev pub may_stay_shut : Form → Bool → Bool
may_stay_shut Chain good = not good
may_stay_shut _ good = false

-- A flight of one read of CTRL/STAT: where it was not good nothing was performed, where DPBANKSEL is 0 it was good, and the match mask
-- stays.
pub record ReadsOnce (part : Part) (p q : TransferState) : Type 0 where
  pub refused : (part.response ≡ Good → ⊥) → part.performed ≡ 0
  pub free : bank p.line.target ≡ 0 → part.response ≡ Good
  pub mask : q.mask ≡ p.mask

-- so it is of one Transfer of such a read
abbrev pub OnceBy : Form → List RegAccess → Part → TransferState → TransferState → Type 0
OnceBy form accesses part p q = form ≡ Transfer → accesses ≡ dp_read_of 0x4 ∷ [] → ReadsOnce part p q

-- After a flight in this form whose replies were taken, and which did this part of its accesses. One starting packet was sent, and nothing but
-- the transfers changed.
pub record HasFlown (form : Form) (accesses : List RegAccess) (part : Part) (m n : BenchState) : Type 0 where
  pub does : DoesPart (transfers_of m) (transfers_of n) accesses part
  pub mask : may_stay_shut form (is_good part.response) ≡ false → (transfers_of n).mask ≡ 0
  pub executor : n.probe.executor ≡ with_transfers m.probe.executor (transfers_of n)
  pub idle : IsIdle n
  pub starting : n.starting ≡ counted_up m.starting
  pub in_range : IsInRange (target_of n.probe)
  pub once : OnceBy form accesses part (transfers_of m) (transfers_of n)

-- what a flight did whose replies were read so; each of them is one that its command may get
abbrev pub HasFlownBy : Form → List RegAccess → Option FlightProgress → List (Option ℕ) → BenchState → BenchState → Type 0
HasFlownBy form accesses None values m n = ⊥
HasFlownBy form accesses (Some progress) values m n = HasFlown form accesses (part_with progress values) m n

-- it did nothing, or a part of its accesses
abbrev pub NoneOrPart : Form → List RegAccess → BenchState → BenchState → Type 0
NoneOrPart form accesses m n =
    (transfers_of n ≡ transfers_of m) ⊎ ((part : Part) × DoesPart (transfers_of m) (transfers_of n) accesses part
    × OnceBy form accesses part (transfers_of m) (transfers_of n))

-- a flight of which a bench call failed: it did nothing, or a part of its accesses, and left the idle cycles
pub record MayHaveFlown (form : Form) (accesses : List RegAccess) (m n : BenchState) : Type 0 where
  pub either : NoneOrPart form accesses m n
  pub idle_cycles : n.probe.executor.idle ≡ m.probe.executor.idle

-- limits of at most these
pub record IsWithin (limits given : Limits) : Type 0 where
  pub size : limits.packet_size ≤ given.packet_size
  pub count : limits.packet_count ≤ given.packet_count

-- a bench that takes packets of flights with these limits
pub record TakesFlights (limits : Limits) (reported : Reported) : Type 0 where
  pub in_range : AreLimits limits
  pub within : IsWithin limits reported.limits
  pub takes : TakesPackets reported
