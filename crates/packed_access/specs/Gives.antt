-- What comes of a step of a sender, for the calls that were asked. At a stop the access has ended (`broke`), and the calls stop there
-- (`stops`).
use Rattle.std.specs.Prelude.{◌≡◌, ℕ, ◌+◌, Bool, List, [], Option, Result, IfErr, IfOk, OnOk}
use Rattle.target_machine.specs.Plain.{Action}
use Rattle.target_machine.specs.State.{TargetState}
use Rattle.target_machine.specs.declared.access.RegAccess.{RegAccess}
use Rattle.target_machine.specs.declared.unit.Unit.{Unit as AccessUnit}
use Rattle.probe_core.specs.Bench.{BenchState}
use Rattle.target_calls.specs.Journal.{Entry}
use Rattle.target_calls.specs.declared.calls.Ask.{Ask}
use Rattle.access_regs.specs.Journal.{Issue}
use Rattle.access_regs.specs.Kept.{Kept}
use Rattle.access_calls.specs.Left.{IsLeft}
use Rattle.access_calls.specs.declared.stop.Stop.{Stop}
use Rattle.packed_access.specs.Begun.{StopsAfterLines, steps_left}
use Rattle.packed_access.specs.Forgiving.{AreNextAccesses, WentTo}
use Rattle.packed_access.specs.Views.{
  IsAtEnd,
  IsPaid,
  IsToIssue,
  IsToIssueNext,
  IsTried,
  SenderHasAsked,
  SenderHasNeeds,
  SenderIsBroken,
  SenderIsSparing,
  SenderView,
  access_view,
}

-- Entries that are due before the rest come into flights. A flight is sent only where there is no room for one access more.
pub record Issues {T : Type 0} (result : Result T Stop) (old new : SenderView) (due : List Entry → List Entry) : Type 0 where
  pub on : (m0 : BenchState) (rest : List Entry) → IsToIssue old (due rest) m0 → OnOk result (IsToIssue new rest m0)
  pub spare : (m0 : BenchState) (rest : List Entry) (points : ℕ) → IsToIssue old (due rest) m0 → SenderIsSparing old points m0
      → OnOk result (SenderIsSparing new points m0)
  pub broke : (m0 : BenchState) (rest : List Entry) → IsToIssue old (due rest) m0 → IfErr result (IsAtEnd new m0)
  pub stops : (m0 : BenchState) (rest : List Entry) (answered : Option ℕ) → IsToIssue old (due rest) m0 → IsLeft (access_view new) answered
      → IfErr result (StopsAfterLines m0 answered old.log.calls new.log.lines)

-- Entries that are due before the rest come into flights, and the last of these is sent too, with at most one starting packet.
pub record Sends {T : Type 0} (result : Result T Stop) (old new : SenderView) (due : List Entry → List Entry) : Type 0 where
  pub on : (m0 : BenchState) (rest : List Entry) → IsToIssue old (due rest) m0 → OnOk result (IsToIssueNext new rest m0)
  pub spare : (m0 : BenchState) (rest : List Entry) (points : ℕ) → IsToIssue old (due rest) m0 → SenderIsSparing old points m0
      → OnOk result (SenderIsSparing new (points + 1) m0)
  pub broke : (m0 : BenchState) (rest : List Entry) → IsToIssue old (due rest) m0 → IfErr result (IsAtEnd new m0)
  pub stops : (m0 : BenchState) (rest : List Entry) (answered : Option ℕ) → IsToIssue old (due rest) m0 → IsLeft (access_view new) answered
      → IfErr result (StopsAfterLines m0 answered old.log.calls new.log.lines)

-- Entries that are due before the rest come into flights, and the last of these is sent too. This is known of the registers then.
pub record Reads {T : Type 0} (result : Result T Stop) (old new : SenderView) (due : List Entry → List Entry) (known : BenchState → Kept) : Type 0 where
  pub on : (m0 : BenchState) (rest : List Entry) → IsToIssue old (due rest) m0 → OnOk result (IsToIssueNext new rest m0)
  pub kept : (m0 : BenchState) (rest : List Entry) → IsToIssue old (due rest) m0 → OnOk result (new.managed ≡ known m0)
  pub broke : (m0 : BenchState) (rest : List Entry) → IsToIssue old (due rest) m0 → IfErr result (IsAtEnd new m0)
  pub stops : (m0 : BenchState) (rest : List Entry) (answered : Option ℕ) → IsToIssue old (due rest) m0 → IsLeft (access_view new) answered
      → IfErr result (StopsAfterLines m0 answered old.log.calls new.log.lines)

-- The steps of the last call come into flights, and its need points pay for what is sent.
pub record Plans {T : Type 0} (result : Result T Stop) (old new : SenderView) (plan : BenchState → Issue) : Type 0 where
  pub on : (m0 : BenchState) → IsToIssue old (steps_left old.log (plan m0).steps) m0 → OnOk result (IsToIssue new [] m0)
  pub spare : (m0 : BenchState) (left : ℕ) → IsToIssue old (steps_left old.log (plan m0).steps) m0 → IsPaid old left m0 → OnOk result (IsPaid new left m0)
  pub broke : (m0 : BenchState) → IsToIssue old (steps_left old.log (plan m0).steps) m0 → IfErr result (IsAtEnd new m0)
  pub stops : (m0 : BenchState) (answered : Option ℕ) → IsToIssue old (steps_left old.log (plan m0).steps) m0 → IsLeft (access_view new) answered
      → IfErr result (StopsAfterLines m0 answered old.log.calls new.log.lines)

-- The last call, which is this one, is issued, and its need points are counted, which pay for what is sent.
pub record AsksFor {T : Type 0} (result : Result T Stop) (old new : SenderView) (IsThis : BenchState → Ask → Type 0)
    (Comes : SenderView → BenchState → Type 0) : Type 0 where
  pub on : (m0 : BenchState) (calls : List Ask) (ask : Ask) → IsThis m0 ask → SenderHasAsked old calls ask m0 → OnOk result (Comes new m0)
  pub spare : (m0 : BenchState) (calls : List Ask) (ask : Ask) (left : ℕ) → IsThis m0 ask → SenderHasAsked old calls ask m0 → IsPaid old left m0
      → OnOk result (IsPaid new left m0)
  pub needs : (m0 : BenchState) (calls : List Ask) (ask : Ask) → IsThis m0 ask → SenderHasAsked old calls ask m0 → OnOk result (SenderHasNeeds old new calls ask m0)
  pub broke : (m0 : BenchState) (calls : List Ask) (ask : Ask) → IsThis m0 ask → SenderHasAsked old calls ask m0 → IfErr result (IsAtEnd new m0)
  pub stops : (m0 : BenchState) (calls : List Ask) (ask : Ask) (answered : Option ℕ) → IsThis m0 ask → SenderHasAsked old calls ask m0
      → IsLeft (access_view new) answered → IfErr result (StopsAfterLines m0 answered old.log.calls new.log.lines)

-- Accesses of a unit that is made alone come next, of which only the last may fault. They came, and the last gave what is answered; or
-- it faulted, which is forgiven.
pub record TriesNext (result : Result (Option ℕ) Stop) (old new : SenderView) (forgive : Bool) (leads : List RegAccess) (last : RegAccess) (ends : Bool) : Type 0 where
  pub on : (m0 : BenchState) (asked : AccessUnit) (k : Kept) (t : TargetState) (made : List RegAccess) (rest more : List Action)
      → IsTried old forgive asked k t made rest m0 → AreNextAccesses asked t made leads last ends rest more
      → IfOk result (λ w. WentTo new.planner forgive w new.state new.log asked k t made leads last more m0)
  pub broke : (m0 : BenchState) (asked : AccessUnit) (k : Kept) (t : TargetState) (made : List RegAccess) (rest more : List Action)
      → IsTried old forgive asked k t made rest m0 → AreNextAccesses asked t made leads last ends rest more
      → IfErr result (SenderIsBroken new old.log.calls m0)
