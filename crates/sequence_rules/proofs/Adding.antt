-- Calls are added after those that were made, and lines after those that were written.
use Rattle.std.proofs.Common.{◌≡◌, ℕ, Bool, true, false, cond, [], ◌∷◌, ◌++◌, Result, refl, sym}
use Rattle.std.proofs.lemmas.List.{append_assoc, append-nil}
use Rattle.target_calls.specs.declared.calls.Ask.{Ask}
use Rattle.target_calls.specs.World.{World, is_over, done_now, next_world}
use Rattle.target_calls.specs.Asks.{unit_ask, probe_ask}
use Rattle.target_machine.specs.Plain.{CallEnd, Answered, Skipped, Faulted, Small}
use Rattle.sequence_rules.specs.Machine.{Over, rest_of}
use Rattle.sequence_rules.specs.Direct.{Now, with_call, answers, made_call, direct}
use Rattle.sequence_rules.specs.Laws.{Adds}
use Rattle.sequence_rules.specs.Steady.{Steady}
use Rattle.sequence_rules.proofs.LateLemmas.{grows_same, grows_on}

pub adds_same : (t : Now) → Adds t t
adds_same t = record { more = []; calls = sym (append-nil t.calls); lines = grows_same t.written }

adds_on : (a b c : Now) → Adds a b → Adds b c → Adds a c
adds_on a b c h k = record { more = h.more ++ k.more; calls = rw (k.calls, h.calls) (append_assoc a.calls h.more k.more); lines = grows_on _ _ _ h.lines k.lines }

one_call : (ask : Ask) (t u : Now) → u.calls ≡ t.calls ++ ask ∷ [] → u.written ≡ t.written → Adds t u
one_call ask t u e f = record { more = ask ∷ []; calls = e; lines = rw f (grows_same t.written) }

adds_answer : (ask : Ask) (e : CallEnd) (w : World) (t : Now) → Adds t (rest_of (answers ask e (with_call ask w t)))
adds_answer ask (Answered n) w t = one_call ask t _ refl refl
adds_answer ask Skipped w t = one_call ask t _ refl refl
adds_answer ask Faulted w t = one_call ask t _ refl refl
adds_answer ask Small w t = one_call ask t _ refl refl

adds_made : (ask : Ask) (t : Now) → Adds t (rest_of (made_call ask t))
unfolding made_call
adds_made ask t = either (is_over t.world.answered) _ _ (one_call ask t _ refl refl) (adds_answer ask (done_now t.world ask).end (next_world t.world ask) t)
  where
    either : (c : Bool) (x y : Result (ℕ × Now) (Over × Now)) → Adds t (rest_of x) → Adds t (rest_of y) → Adds t (rest_of (cond c x y))
    either true x y h k = h
    either false x y h k = k

pub adds_direct : (watchful : Bool) → Steady (direct watchful) Adds
unfolding direct
adds_direct watchful = record {
  same = adds_same;
  on = adds_on;
  used = λ v t. adds_same t;
  asked = λ u forgive t. adds_made (unit_ask u forgive) t;
  commanded = λ c t. adds_made (probe_ask c) t;
  confirmed = λ t. adds_same t;
  written = λ line t. record { more = []; calls = sym (append-nil t.calls); lines = record { part = line; same = refl } };
}
