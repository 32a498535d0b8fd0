-- One packet and its reply.
use Rattle.std.specs.Prelude.{◌≡◌, ◌⊎◌, List, ℕ, [], ◌∷◌, length, Option, Result}
use Rattle.dap_base.specs.Causes.{HasCause}
use Rattle.probe_core.specs.Bench.{BenchState, Reported, StepsTo, counted_up}
use Rattle.probe_core.specs.Packet.{packet_answer}
use Rattle.probe_core.specs.Ranges.{AreLimits}
use Rattle.probe_core.specs.Runs.{KeepsRuns}

-- a bench that may be sent a packet: none is held, and no reply waits
pub record IsOpen (reported : Reported) : Type 0 where
  pub held : reported.held ≡ 0
  pub waiting : reported.waiting ≡ 0

-- a bench that takes packets: its limits are in range, and it may be sent one
pub record TakesPackets (reported : Reported) : Type 0 where
  pub limits : AreLimits reported.limits
  pub is_open : IsOpen reported

-- the limits of a bench and the count of its exchanges stay
pub record StaysAt (old new : Reported) : Type 0 where
  pub limits : new.limits ≡ old.limits
  pub exchanges : new.exchanges ≡ old.exchanges

-- the limits of a bench stay, and at most one exchange more is counted
pub record GoesOn (old new : Reported) : Type 0 where
  pub limits : new.limits ≡ old.limits
  pub exchanges : (new.exchanges ≡ old.exchanges) ⊎ (new.exchanges ≡ counted_up old.exchanges)

-- What each call keeps of its bench. It goes on as `GoesOn` says, each run of its log goes on as one, and it is the same loan.
pub record GoesOnOver {B : Type 0} (reported : B → Reported) (state : B → Option BenchState) (identity : B → ℕ) (old new : B) : Type 0 where
  pub goes : GoesOn (reported old) (reported new)
  pub runs : KeepsRuns (state old) (state new)
  pub same_bench : identity new ≡ identity old

-- The same of a call that may fail: it fails only where the bench counts a fault more, and else the count stays.
pub record CallsOver {B T E : Type 0} (reported : B → Reported) (state : B → Option BenchState) (identity : B → ℕ) (result : Result T E)
    (old new : B) : Type 0 where
  pub on : GoesOnOver reported state identity old new
  pub cause : HasCause (reported old).faults (reported new).faults result

-- One exchange was made, of these packets and of one reply to each. It is the last and is counted, and the bench may be sent a packet
-- again.
pub record HasExchanged (packets replies : List (List ℕ)) (old new : Reported) : Type 0 where
  pub last : new.last ≡ record { packets = packets; replies = replies }
  pub replied : length replies ≡ length packets
  pub exchanges : new.exchanges ≡ counted_up old.exchanges
  pub is_open : IsOpen new

-- The same of one packet and its reply.
pub record HasAsked (packet : List ℕ) (old new : Reported) : Type 0 where
  pub packet_is : new.last.packets ≡ packet ∷ []
  pub replied : length new.last.replies ≡ 1
  pub exchanges : new.exchanges ≡ counted_up old.exchanges
  pub is_open : IsOpen new

-- The bench is observable afterwards exactly where it was before, and from a state of which this is so it takes this step.
abbrev pub StepsWhere : (BenchState → Type 0) → (BenchState → BenchState → Type 0) → Option BenchState → Option BenchState → Type 0
StepsWhere P step old new = StepsTo (λ m n. P m → step m n) old new

-- the state of a bench that holds no packet and in which no reply waits
pub record IsIdle (m : BenchState) : Type 0 where
  pub held : m.probe.held ≡ []
  pub waiting : m.probe.waiting ≡ []

-- after a packet that an idle bench executed, and whose reply was taken
pub record HasAnswered (packet reply : List ℕ) (m n : BenchState) : Type 0 where
  pub answer : reply ≡ (packet_answer m.probe.executor packet).reply
  pub executor : n.probe.executor ≡ (packet_answer m.probe.executor packet).next
  pub idle : IsIdle n
  pub starting : n.starting ≡ counted_up m.starting

-- the packet was executed or not
abbrev pub MayHaveRun : List ℕ → BenchState → BenchState → Type 0
MayHaveRun packet m n = (n.probe.executor ≡ m.probe.executor) ⊎ (n.probe.executor ≡ (packet_answer m.probe.executor packet).next)
