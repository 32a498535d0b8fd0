-- The numbers of a target fit the registers, words and counters that hold them.
use Rattle.std.specs.Prelude.{◌≡◌, ℕ, ◌^◌, ◌<◌, ◌≤◌, Some, ⊤}
use Rattle.std.specs.FinMap as map
use Rattle.std.specs.List.{All}
use Rattle.std.specs.Ordering.{nat_cmp}
use Rattle.target_machine.specs.Attempt.{Attempt}
use Rattle.target_machine.specs.Memory.{Cell}
use Rattle.target_machine.specs.Plain.{Action, Makes, Polls, Commands, given_number}
use Rattle.target_machine.specs.State.{TargetState}
use Rattle.target_machine.specs.declared.ap.ApState.{ApState}
use Rattle.target_machine.specs.declared.image.LinesImage.{LinesImage}
use Rattle.target_machine.specs.declared.job.TargetJob.{TargetJob}
use Rattle.target_machine.specs.declared.unit.ProbeCall.{ProbeCall}
use Rattle.target_machine.specs.declared.unit.ProbeCall.TheVariants as probe

-- each value of the map has the property
abbrev pub EachValue : {V : Type 0} → (V → Type 0) → map.FinMap nat_cmp V → Type 0
EachValue {V} P m = (key : ℕ) (value : V) → map.get m key ≡ Some value → P value

-- the number fits a register or a word of memory
abbrev pub IsWord : ℕ → Type 0
IsWord n = n < 2 ^ 32

-- the registers of an AP are of 32 bits
pub record IsPortInRange (port : ApState) : Type 0 where
  pub csw : IsWord port.csw
  pub tar : IsWord port.tar
  pub high : IsWord port.high
  pub idr : IsWord port.idr
  pub base : IsWord port.base

-- the values that a word of memory gives are of 32 bits
abbrev pub IsCellInRange : Cell → Type 0
IsCellInRange c = All IsWord c.values

-- the pins are of 8 bits, the clock of 32, and the bits, their number and the delay of 64
pub record IsLinesInRange (lines : LinesImage) : Type 0 where
  pub pins : lines.pins < 2 ^ 8
  pub bits : lines.bits < 2 ^ 64
  pub last : lines.last < 2 ^ 64
  pub clock : lines.clock < 2 ^ 32
  pub delay : lines.delay < 2 ^ 64

-- Each register, each count and each word of memory is of 32 bits.
pub record IsInRange (t : TargetState) : Type 0 where
  pub select : IsWord t.select
  pub ctrl : IsWord t.ctrl
  pub rdbuff : IsWord t.rdbuff
  pub reads : IsWord t.reads
  pub power_reads : IsWord t.power_reads
  pub dpidr : IsWord t.dpidr
  pub aps : EachValue IsPortInRange t.aps
  pub words : EachValue IsCellInRange t.words
  pub reset : All (λ word. IsWord word.value) t.reset
  pub lines : IsLinesInRange t.lines

-- what is given is of 32 bits, and the target after it is in range
pub record IsAttemptInRange (x : Attempt) : Type 0 where
  pub value : IsWord (given_number x.outcome)
  pub next : IsInRange x.next

-- the numbers of a command of the probe are those of its type
abbrev pub IsProbeInRange : ProbeCall → Type 0
IsProbeInRange (probe.Delay micros) = micros < 2 ^ 32
IsProbeInRange (probe.Abort value) = value < 2 ^ 32
IsProbeInRange (probe.Pins output select wait) = (output < 2 ^ 8) × (select < 2 ^ 8) × (wait < 2 ^ 32)
IsProbeInRange (probe.Clock hertz) = hertz < 2 ^ 32
IsProbeInRange (probe.Line count bits) = (count < 2 ^ 8) × (bits < 2 ^ 64)

-- what a command of the probe writes fits its register or line
abbrev pub IsCommandInRange : ProbeCall → Type 0
IsCommandInRange (probe.Abort value) = IsWord value
IsCommandInRange (probe.Clock hertz) = IsWord hertz
IsCommandInRange (probe.Line count bits) = count ≤ 64
IsCommandInRange other = ⊤

-- what an action writes is of 32 bits
abbrev pub IsActionInRange : Action → Type 0
IsActionInRange (Makes a) = IsWord a.value
IsActionInRange (Polls mask requested turns) = ⊤
IsActionInRange (Commands c) = IsCommandInRange c

-- the numbers of a job fit their registers and words
pub record IsJobInRange (job : TargetJob) : Type 0 where
  pub dpidr : IsWord job.dpidr
  pub pins : job.pins < 2 ^ 8
  pub aps : All (λ a. IsWord a.idr × IsWord a.base) job.aps
  pub words : All (λ word. IsWord word.value) job.words
  pub scripts : All (λ script. All IsWord script.values) job.scripts
  pub reset : All (λ word. IsWord word.value) job.reset
