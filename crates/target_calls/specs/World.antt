-- What calls come to, made one after the other, each alone and at once.
use Rattle.std.specs.Prelude.{ℕ, zero, suc, ◌+◌, ◌-◌, ◌≤◌, Bool, true, false, ◌||◌, if◌then◌else◌, List, [], ◌∷◌, take, Option, Some, None, option_map}
use Rattle.std.specs.Bool.{⊤}
use Rattle.target_machine.specs.Plain.{CallDone, CallEnd, Answered, Skipped, Faulted, Small, call_done}
use Rattle.target_machine.specs.State.{TargetState}
use Rattle.target_calls.specs.declared.calls.Ask.{Ask}

-- A target, the APs that are known to have large addresses, and how many further calls are answered: all, or only so
-- many, after which a retry ends.
pub record World : Type 0 where
  pub target : TargetState
  pub large : List ℕ
  pub answered : Option ℕ

-- the world at the start, where no AP is known to have large addresses
abbrev pub start_world : TargetState → Option ℕ → World
start_world t answered = record { target = t; large = []; answered = answered }

-- the same world with all calls answered
abbrev pub unlimited_world : World → World
unlimited_world w = record w { answered = None }

-- no further call is answered
abbrev pub is_over : Option ℕ → Bool
is_over None = false
is_over (Some zero) = true
is_over (Some (suc n)) = false

-- one call fewer is answered
abbrev pub one_fewer : Option ℕ → Option ℕ
one_fewer None = None
one_fewer (Some zero) = Some zero
one_fewer (Some (suc n)) = Some n

-- so many calls fewer are answered
abbrev pub fewer : Option ℕ → ℕ → Option ℕ
fewer answered calls = option_map (λ n. n - calls) answered

-- at least so many calls are answered
abbrev pub AtLeast : ℕ → Option ℕ → Type 0
AtLeast calls None = ⊤
AtLeast calls (Some n) = calls ≤ n

-- what the next call comes to, where it is answered
abbrev pub done_now : World → Ask → CallDone
done_now w ask = call_done w.target w.large ask.forgive ask.call

-- the world after the next call, where it is answered
abbrev pub next_world : World → Ask → World
next_world w ask = record { target = (done_now w ask).next; large = (done_now w ask).large; answered = one_fewer w.answered }

-- the call met a fault that it does not forgive
abbrev pub is_faulted : CallEnd → Bool
is_faulted Faulted = true
is_faulted other = false

-- the calls stop at this one: it is not answered, or meets a fault that it does not forgive
abbrev pub stops_here : World → Ask → Bool
stops_here w ask = is_over w.answered || is_faulted (done_now w ask).end

-- the result of a call by its end: 0 where the call was skipped, or its AP has no large addresses
abbrev pub end_result : CallEnd → ℕ
end_result (Answered n) = n
end_result other = 0

-- The results of the calls before the one at which they stop.
abbrev pub results : World → List Ask → List ℕ
results w [] = []
results w (ask ∷ asks) = if stops_here w ask then [] else end_result (done_now w ask).end ∷ results (next_world w ask) asks

-- a number counted in a list, where so many come before that list
abbrev pub later_by : ℕ → Option ℕ → Option ℕ
later_by calls at = option_map (λ n. calls + n) at

-- The number, from 1, of the call at which they stop.
abbrev pub stop : World → List Ask → Option ℕ
stop w [] = None
stop w (ask ∷ asks) = if stops_here w ask then Some 1 else later_by 1 (stop (next_world w ask) asks)

-- the world that a call at which they stop leaves: a fault changes it, and a call that is not answered does not
abbrev pub left_at : World → Ask → World
left_at w ask = if is_over w.answered then w else next_world w ask

-- The world after the calls, or after the one at which they stop.
abbrev pub world_after : World → List Ask → World
world_after w [] = w
world_after w (ask ∷ asks) = if stops_here w ask then left_at w ask else world_after (next_world w ask) asks

-- 1 where the call was skipped, as it met a fault that it forgives
abbrev pub one_if_skipped : CallEnd → ℕ
one_if_skipped Skipped = 1
one_if_skipped other = 0

-- How many of the calls were skipped.
abbrev pub skips : World → List Ask → ℕ
skips w [] = 0
skips w (ask ∷ asks) = if stops_here w ask then 0 else one_if_skipped (done_now w ask).end + skips (next_world w ask) asks

-- the first results, as many as calls are answered
abbrev pub results_within : Option ℕ → List ℕ → List ℕ
results_within None values = values
results_within (Some n) values = take n values

-- the call's address is over 0xFFFFFFFF, and its AP has no large addresses
abbrev pub is_small_end : CallEnd → Bool
is_small_end Small = true
is_small_end other = false

-- the next call ends so, where the calls before it do not stop
abbrev pub small_after : Option ℕ → World → Ask → Bool
small_after None w ask = is_small_end (done_now w ask).end
small_after (Some n) w ask = false

-- A call that is asked after these ends so, where it is answered.
abbrev pub small_now : World → List Ask → Ask → Bool
small_now w asks ask = small_after (stop w asks) (world_after w asks) ask
