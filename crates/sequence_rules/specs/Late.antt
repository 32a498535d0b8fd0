-- The meaning on a machine whose results may come later: a value is a number, or the place of a result. It goes on after a
-- call at which the calls stop, but writes no line from there on. Need points are counted here.
use Rattle.std.specs.Prelude.{◌≡◌, ℕ, min, Bool, true, false, List, [], ◌∷◌, ◌++◌, length, slice_index, Option, Some, None, option_map, Result, Ok, Err, if◌then◌else◌}
use Rattle.target_machine.specs.declared.unit.HaltCause.TheVariants.{AddressTooLarge}
use Rattle.target_machine.specs.declared.unit.Call.{Call}
use Rattle.target_machine.specs.declared.unit.ProbeCall.{ProbeCall}
use Rattle.target_machine.specs.declared.unit.Unit.{Unit as AccessUnit}
use Rattle.target_calls.specs.declared.calls.Ask.{Ask}
use Rattle.target_calls.specs.declared.calls.Value.{Value}
use Rattle.target_calls.specs.declared.calls.Value.TheVariants.{Number, Pending}
use Rattle.target_calls.specs.Asks.{unit_ask, probe_ask}
use Rattle.target_calls.specs.NeedPoints.{Asks, Costs, asks_with_call, asks_at_use, asks_at_need}
use Rattle.target_calls.specs.Values.{number_of, IsAsked}
use Rattle.target_calls.specs.World.{World, results, stop, world_after, skips, small_now, is_over}
use Rattle.sequence_rules.specs.Machine as machine
use Rattle.sequence_rules.specs.Machine.{Over, Halted, Faulted, Unanswered, Lost, Machine}
use Rattle.sequence_rules.specs.Direct.{Now, line_after}

-- what was asked so far with its need points, and what was written, where that is known
pub record Late : Type 0 where
  pub asks : Asks
  pub written : Option (List ℕ)

-- what was asked, with what was written
abbrev pub late_of : Asks → Option (List ℕ) → Late
late_of asks written = record { asks = asks; written = written }

-- a line is written unless the calls stop
abbrev pub line_unless : Option ℕ → List ℕ → List ℕ → List ℕ
line_unless None line bytes = line_after line bytes
line_unless (Some u) line bytes = bytes

module _ (cost : Costs) (w : World) where
  -- one more call is asked, with its need points
  abbrev pub asks_with : Ask → Asks → Asks
  asks_with ask asks = asks_with_call (cost w.target asks.calls ask) ask asks

  -- a result that is used has come
  abbrev pub used_late : Value → Late → ℕ × Late
  used_late (Number n) t = (n, t)
  used_late (Pending slot) t = (slice_index (results w t.asks.calls) slot.index, late_of (asks_at_use slot t.asks) t.written)

  -- an access has the place of its result, unless its address is too large for its AP
  abbrev pub asked_late : AccessUnit → Bool → Late → Result (Value × Late) (Over × Late)
  asked_late u forgive t =
      if small_now w t.asks.calls (unit_ask u forgive)
      then Err (machine.Halted AddressTooLarge, late_of (asks_with (unit_ask u forgive) t.asks) t.written)
      else Ok (Pending (record { index = length t.asks.calls }), late_of (asks_with (unit_ask u forgive) t.asks) t.written)

  -- a command of the probe has its result at once
  abbrev pub commanded_late : ProbeCall → Late → Result (ℕ × Late) (Over × Late)
  commanded_late c t = Ok (slice_index (results w (t.asks.calls ++ probe_ask c ∷ [])) (length t.asks.calls), late_of (asks_with (probe_ask c) t.asks) t.written)

  -- before a line is written there is a need point
  abbrev pub written_late : List ℕ → Late → Late
  written_late line t = late_of (asks_at_need t.asks) (option_map (line_unless (stop w t.asks.calls) line) t.written)

  -- the machine on which results come later
  unfoldable pub late : Machine Value Late
  late = record {
    number = λ n. Number n;
    used = used_late;
    asked = asked_late;
    commanded = commanded_late;
    confirmed = λ t. late_of (asks_at_need t.asks) t.written;
    written = written_late;
    is_watchful = false;
  }

-- ---- how it is the meaning

-- the value is this number, and its call was asked
abbrev pub ComesTo : World → Late → Value → ℕ → Type 0
ComesTo w t v n = (n ≡ number_of w t.asks.calls v) × IsAsked (length t.asks.calls) v

-- after so many units, at none of which the calls stop
pub record SameRest (w : World) (units : ℕ) (t : Late) (u : Now) : Type 0 where
  pub count : units ≡ length t.asks.calls
  pub whole : stop w t.asks.calls ≡ None
  pub world : u.world ≡ world_after w t.asks.calls
  pub calls : u.calls ≡ t.asks.calls
  pub skipped : u.skipped ≡ min (skips w t.asks.calls) 4294967295
  pub written : u.written ≡ t.written

-- The meaning ended at its last unit, at which its calls stop: either that unit is not answered, or it meets a fault. It wrote
-- the same lines, and its calls are the first of those that were asked here.
pub record StoppedAt (w : World) (unanswered : Bool) (t : Late) (units : ℕ) (u : Now) : Type 0 where
  pub first : stop w u.calls ≡ Some units
  pub count : units ≡ length u.calls
  pub earlier : List Ask
  pub last : Ask
  pub parts : u.calls ≡ earlier ++ last ∷ []
  pub cause : is_over (world_after w earlier).answered ≡ unanswered
  pub world : u.world ≡ world_after w u.calls
  pub skipped : u.skipped ≡ min (skips w u.calls) 4294967295
  pub written : u.written ≡ t.written
  pub more : List Ask
  pub calls : t.asks.calls ≡ u.calls ++ more

-- it met a fault of this call
pub record FaultedAt (w : World) (call : Call) (t : Late) (units : ℕ) (u : Now) : Type 0 where
  pub stopped : StoppedAt w false t units u
  pub call_is : call ≡ stopped.last.call

-- why the meaning ended, otherwise than by a halt
abbrev pub StoppedBy : World → Option Over → Late → ℕ → Over → Now → Type 0
StoppedBy w here t units (Halted cause) u = ⊥
StoppedBy w here t units (Faulted call) u = FaultedAt w call t units u
StoppedBy w here t units Unanswered u = StoppedAt w true t units u
StoppedBy w here t units Lost u = ⊥

-- what was written grows by a part, where it is known
pub record Grows (old new : Option (List ℕ)) : Type 0 where
  pub part : List ℕ
  pub same : new ≡ option_map (line_after part) old

-- from one rest to a later one: calls are added at the end, lines too, but none once the calls stop
pub record Later (w : World) (t t2 : Late) : Type 0 where
  pub more : List Ask
  pub calls : t2.asks.calls ≡ t.asks.calls ++ more
  pub kept : (n : ℕ) → stop w t.asks.calls ≡ Some n → t2.written ≡ t.written
  pub grows : Grows t.written t2.written
