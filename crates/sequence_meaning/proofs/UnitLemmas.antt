-- A command of the probe as a unit.
use Rattle.std.proofs.Common.{◌≡◌, ◌∙◌, ℕ, ◌<◌, ◌+◌, false, true, nat_lt, Option, None, Ok, List, [], ◌∷◌, ◌++◌, arith, ap}
use Rattle.target_calls.specs.Asks.{probe_ask}
use Rattle.target_calls.specs.declared.calls.Ask.{Ask}
use Rattle.direct_calls.specs.Made.{IsDone}
use Rattle.target_machine.specs.Plain.{CallEnd, Answered, call_done}
use Rattle.target_machine.specs.State.{TargetState}
use Rattle.target_machine.specs.declared.unit.Call.TheVariants.{Probe}
use Rattle.target_machine.specs.declared.unit.ProbeCall.{ProbeCall}
use Rattle.sequence_rules.specs.declared.bindings.Binding.{Binding}
use Rattle.sequence_rules.specs.Calls.{counted_number, command}
use Rattle.sequence_rules.specs.Direct.{Now, with_call, answers, made_call, direct}
use Rattle.sequence_rules.specs.Machine.{State}

module _ (globals locals : List (Binding ℕ)) (units lines steps : ℕ) (t : TargetState) (large : List ℕ) (calls : List Ask) (skipped : ℕ) (written : Option (List ℕ)) where
  at : ℕ → TargetState → List ℕ → List Ask → State ℕ Now
  at k u l cs = record {
    globals = globals;
    locals = locals;
    units = k;
    lines = lines;
    steps = steps;
    rest = record { world = record { target = u; large = l; answered = None }; calls = cs; skipped = skipped; written = written };
  }

  command_one : (c : ProbeCall) (end' : CallEnd) (u : TargetState) (l : List ℕ) (n : ℕ) → end' ≡ Answered n → counted_number (direct false) (answers (probe_ask c) end' (with_call (probe_ask c) (record { target = u; large = l; answered = None }) (at units t large calls).rest)) (at units t large calls)
      ≡ Ok (n, at (units + 1) u l (calls ++ probe_ask c ∷ []))
  unfolding counted_number direct at
  command_one c end' u l n h = ap (λ (e : CallEnd). counted_number (direct false) (answers (probe_ask c) e (with_call (probe_ask c) (record { target = u; large = l; answered = None }) (at units t large calls).rest)) (at units t large calls)) h

  pub command_at : (c : ProbeCall) (n : ℕ) (u : TargetState) (calls2 : List Ask) → units < 1000000 → ((l : List ℕ) → IsDone (call_done t l false (Probe c)) (Answered n) u l) → calls2 ≡ calls ++ probe_ask c ∷ []
      → command (direct false) c (record { globals = globals; locals = locals; units = units; lines = lines; steps = steps; rest = record { world = record { target = t; large = large; answered = None }; calls = calls; skipped = skipped; written = written } })
      ≡ Ok (n, record { globals = globals; locals = locals; units = units + 1; lines = lines; steps = steps; rest = record { world = record { target = u; large = large; answered = None }; calls = calls2; skipped = skipped; written = written } })
  unfolding command direct made_call at
  command_at c n u calls2 few done hc =
      let d = done large in
      let test : nat_lt units 1000000 ≡ true = grind arith in
      let out = command_one c (call_done t large false (Probe c)).end (call_done t large false (Probe c)).next (call_done t large false (Probe c)).large n d.end_is in
      rw (test, hc) (out ∙ ap (λ (v : TargetState). Ok (n, at (units + 1) v (call_done t large false (Probe c)).large (calls ++ probe_ask c ∷ []))) d.next_is ∙ ap (λ (l : List ℕ). Ok (n, at (units + 1) u l (calls ++ probe_ask c ∷ []))) d.large_is)
