-- Calls in a row, by what each of them means.
use Rattle.std.proofs.Common.{◌≡◌, ◌∙◌, ℕ, List, Option, Result, Ok, Err, length, ap, refl, subst, sym}
use Rattle.std.specs.Prelude.{IsErrAnd}
use Rattle.dap_base.specs.Outcome.{◌>>=◌}
use Rattle.probe_core.specs.Bench.{BenchState}
use Rattle.target_machine.specs.declared.unit.HaltCause.{HaltCause}
use Rattle.target_calls.specs.declared.calls.Ask.{Ask}
use Rattle.target_calls.specs.declared.calls.Value.{Value}
use Rattle.target_calls.specs.NeedPoints.{Asks, Costs}
use Rattle.target_calls.specs.World.{World}
use Rattle.access_calls.specs.Reported.{AccessView, world_from}
use Rattle.access_calls.specs.declared.stop.Stop.{Stop}
use Rattle.access_calls.proofs.KeepLemmas.{keeps_on, keeps_same}
use Rattle.sequence_rules.specs.Known.{known_part}
use Rattle.sequence_rules.specs.Late.{Late, Later, late}
use Rattle.sequence_rules.specs.Locals.{locals_of}
use Rattle.sequence_rules.specs.Machine as machine
use Rattle.sequence_rules.specs.Machine.{Machine, Out, State, end_state}
use Rattle.sequence_rules.specs.Shared.{bindings_of}
use Rattle.function_calls.specs.declared.end.End.{End}
use Rattle.function_calls.specs.declared.end.End.TheVariants as end
use Rattle.function_calls.specs.declared.held.Held.{Held}
use Rattle.function_calls.specs.Ends.{CallEndIs, CallHasSinkCause, CountsAskedUnits, MeansLate, NoWriteFault}
use Rattle.function_calls.specs.Frame.{EndsCall, EndsUse, EndsWriting, IsReadyToCall, LateMeaning, RunsCall, RunsUse, RunsWriting, UsesValues}
use Rattle.function_calls.specs.Held.{late_state_of, late_state_seen}
use Rattle.function_calls.specs.Lines.{WritesLines}
use Rattle.function_calls.proofs.Leaves.{After, ends_on, quiet_cause}
use Rattle.function_calls.proofs.WholeLines.{lines_kept}

abbrev S : Type 0
S = State Value Late

abbrev O : Type 0 → Type 0
O A = Out Value Late A

-- ---- an end that is handed on ends so

end_passed : (T U : Type 0) (e : End) (at : Option Stop) → CallEndIs {A = T} (Err e) at → CallEndIs {A = U} (Err e) at
end_passed T U (end.Halted cause) at h = h
end_passed T U end.Stopped at h = h
end_passed T U end.OutOfMemory at h = h
end_passed T U end.WriteFault at h = h

count_passed : (T U : Type 0) (e : End) (units : ℕ) (calls : List Ask) → CountsAskedUnits {A = T} (Err e) units calls → CountsAskedUnits {A = U} (Err e) units calls
count_passed T U (end.Halted cause) units calls h = h
count_passed T U end.Stopped units calls h = h
count_passed T U end.OutOfMemory units calls h = h
count_passed T U end.WriteFault units calls h = h

quiet_passed : (T U : Type 0) (e : End) → NoWriteFault {A = T} (Err e) → NoWriteFault {A = U} (Err e)
quiet_passed T U (end.Halted cause) h = h
quiet_passed T U end.Stopped h = h
quiet_passed T U end.OutOfMemory h = h
quiet_passed T U end.WriteFault h = h

cause_passed : (T U : Type 0) (e : End) (before now : ℕ) → CallHasSinkCause {A = T} (Err e) before now → CallHasSinkCause {A = U} (Err e) before now
cause_passed T U (end.Halted cause) before now h = h
cause_passed T U end.Stopped before now h = h
cause_passed T U end.OutOfMemory before now h = h
cause_passed T U end.WriteFault before now h = h

lines_passed : (T U : Type 0) (e : End) (old new : Option (List ℕ)) → WritesLines {A = T} (Err e) old new → WritesLines {A = U} (Err e) old new
lines_passed T U (end.Halted cause) old new h = h
lines_passed T U end.Stopped old new h = h
lines_passed T U end.OutOfMemory old new h = h
lines_passed T U end.WriteFault old new h = h

pub use_passed : {T U : Type 0} {a b : AccessView} (e : End) (result : Result U End) → IsErrAnd result (λ x. x ≡ e) → EndsUse {T = T} (Err e) a b → EndsUse result a b
use_passed e (Ok y) is h = absurd is
use_passed {T = T} {U = U} {a = a} {b = b} e (Err x) is h = rw is (record { end = end_passed T U e b.end h.end; calls = h.calls; cause = quiet_passed T U e h.cause })

call_passed : (T U : Type 0) (e : End) (units : ℕ) (a : AccessView) → EndsCall {T = T} (Err e) units a → EndsCall {T = U} (Err e) units a
call_passed T U e units a h =
    record { end = end_passed T U e a.end h.end; counted = count_passed T U e units a.asks.calls h.counted; cause = quiet_passed T U e h.cause }

pub ends_passed : {K T U : Type 0} {written : K → Option (List ℕ)} {faults : K → ℕ} {units : ℕ} {a : AccessView} {old new : K} (e : End) (result : Result U End) → IsErrAnd result (λ x. x ≡ e) → EndsWriting {T = T} written faults (Err e) units a old new → EndsWriting written faults result units a old new
ends_passed e (Ok y) is h = absurd is
ends_passed {T = T} {U = U} {written = written} {faults = faults} {units = units} {a = a} {old = old} {new = new} e (Err x) is h = rw is (record {
  end = end_passed T U e a.end h.end;
  counted = count_passed T U e units a.asks.calls h.counted;
  knows = h.knows;
  lines = λ before k. lines_passed T U e before (written new) (h.lines before k);
  cause = cause_passed T U e (faults old) (faults new) h.cause;
})

-- ---- one after the other

-- after a call that answers, another may be made
pub ready_after : {T K : Type 0} {written : K → Option (List ℕ)} {faults : K → ℕ} {x : T} {units : ℕ} {a : AccessView} {old new : K} → EndsWriting written faults (Ok x) units a old new → IsReadyToCall units a
ready_after ends = record { no_end = ends.end; counted = ends.counted }

-- a call after one that answers ends both
pub ends_after : {T U K : Type 0} {written : K → Option (List ℕ)} {faults : K → ℕ} {x : T} {result : Result U End} {first last : ℕ} {a b : AccessView} {r s t : K}
    → EndsWriting written faults (Ok x) first a r s → EndsWriting written faults result last b s t → EndsWriting written faults result last b r t
ends_after {faults = faults} {result = result} {t = t} one two = record {
  end = two.end;
  counted = two.counted;
  knows = λ known k. two.knows known (one.knows known k);
  lines = λ before h. two.lines before (one.lines before h);
  cause = subst (λ n. CallHasSinkCause result n (faults t)) one.cause two.cause;
}

-- another answer ends the same, and so it does after a change that counts no unit
pub ends_moved : {T U K : Type 0} {written : K → Option (List ℕ)} {faults : K → ℕ} {x : T} {before now : ℕ} {a : AccessView} {old new : K} (y : U) → now ≡ before → EndsWriting written faults (Ok x) before a old new → EndsWriting written faults (Ok y) now a old new
ends_moved y same ends = record { end = ends.end; counted = same ∙ ends.counted; knows = ends.knows; lines = ends.lines; cause = ends.cause }

-- a use after one that answers ends both
pub use_after : {T U : Type 0} {x : T} {result : Result U End} {a b c : AccessView} → EndsUse (Ok x) a b → EndsUse result b c → EndsUse result a c
use_after one two = record { end = two.end; calls = two.calls ∙ one.calls; cause = two.cause }

-- another answer ends the same
pub use_same : {T U : Type 0} {x : T} {a b : AccessView} (y : U) → EndsUse (Ok x) a b → EndsUse (Ok y) a b
use_same y one = record { end = one.end; calls = one.calls; cause = tt }

-- a use asks nothing
counted_use : {T : Type 0} (result : Result T End) (units : ℕ) (old new : List Ask) → units ≡ length old → new ≡ old → CountsAskedUnits result units new
counted_use (Ok x) units old new h same = h ∙ ap length (sym same)
counted_use (Err (end.Halted cause)) units old new h same = h ∙ ap length (sym same)
counted_use (Err end.Stopped) units old new h same = tt
counted_use (Err end.OutOfMemory) units old new h same = tt
counted_use (Err end.WriteFault) units old new h same = h ∙ ap length (sym same)

-- what follows a meaning comes later than it
abbrev pub ComesLater : {A B : Type 0} → (Machine Value Late → A × S → O B) → Type 0
ComesLater {A = A} f = (cost : Costs) (w : World) (x : A × S) → After w x.1 (f (late cost w) x)

module _ {A : Type 0} {p : LateMeaning A} {T : Type 0} {cost : Costs} {begun : T → BenchState → Type 0} {reported : T → AccessView} {identity : T → ℕ} where
  -- values that are used, while a run holds this
  pub use_at : {held : Held} {old new : T} {result : Result A End} → UsesValues p cost begun reported identity old new result → RunsUse p cost begun reported identity held old new result
  use_at {held = h} runs = record {
    gives = λ m answered written b l. runs.gives m answered (bindings_of h.globals.variables) (locals_of h.locals) h.units h.lines h.steps written b l;
    keeps = runs.keeps;
    ends = runs.ends;
  }

  -- a use is a call
  pub call_by_use : {held : Held} {old new : T} {result : Result A End} → IsReadyToCall held.units (reported old) → RunsUse p cost begun reported identity held old new result → RunsCall p cost begun reported identity held old held new result
  call_by_use {held = held} {old = old} {new = new} {result = result} ready runs = record {
    gives = runs.gives;
    keeps = runs.keeps;
    ends = record { end = runs.ends.end; counted = counted_use result held.units (reported old).asks.calls (reported new).asks.calls ready.counted runs.ends.calls; cause = runs.ends.cause };
  }

  -- what means the same does the same
  pub writing_as : {K : Type 0} {written : K → Option (List ℕ)} {faults : K → ℕ} {q : LateMeaning A} {before now : Held} {old new : T} {first last : K} {result : Result A End} → ((w : World) (s : S) → p (late cost w) s ≡ q (late cost w) s)
      → RunsWriting p cost begun reported identity written faults before old first now new last result → RunsWriting q cost begun reported identity written faults before old first now new last result
  writing_as {written = written} {before = before} {now = now} {old = old} {new = new} {first = first} {last = last} {result = result} same runs = record {
    gives = λ m answered known b l knows. let w = world_from m answered in
        subst (λ o. MeansLate w (reported new) result (late_state_seen known now (reported new).asks (written last)) o) (same w (late_state_seen known before (reported old).asks (written first))) (runs.gives m answered known b l knows);
    keeps = runs.keeps;
    ends = runs.ends;
  }

  -- a call leaves every sink as it is
  pub writing_by_call : {K : Type 0} {written : K → Option (List ℕ)} {faults : K → ℕ} {before now : Held} {old new : T} {sink : K} {result : Result A End}
      → RunsCall p cost begun reported identity before old now new result → RunsWriting p cost begun reported identity written faults before old sink now new sink result
  writing_by_call {written = written} {faults = faults} {sink = sink} {result = result} runs = record {
    gives = λ m answered known b l knows. runs.gives m answered (known_part known (written sink)) b l;
    keeps = runs.keeps;
    ends = record {
      end = runs.ends.end;
      counted = runs.ends.counted;
      knows = λ known k. k;
      lines = λ since h. lines_kept result since (written sink) h;
      cause = quiet_cause result (faults sink) runs.ends.cause;
    };
  }

  -- what is held is changed, and nothing is asked
  pub call_changes : {before now : Held} {a : T} {x : A} → IsReadyToCall before.units (reported a) → now.units ≡ before.units
      → ((w : World) (asks : Asks) (written : Option (List ℕ)) → p (late cost w) (late_state_of before asks written) ≡ Ok (x, late_state_of now asks written))
      → RunsCall p cost begun reported identity before a now a (Ok x)
  call_changes {a = a} ready units is = record {
    gives = λ m answered written b l. is (world_from m answered) (reported a).asks written;
    keeps = keeps_same begun reported identity a;
    ends = record { end = ready.no_end; counted = units ∙ ready.counted; cause = tt };
  }

  -- it is changed, and then the run halts
  pub call_halts : {before now : Held} {a : T} {cause : HaltCause} → IsReadyToCall before.units (reported a) → now.units ≡ before.units
      → ((w : World) (asks : Asks) (written : Option (List ℕ)) → p (late cost w) (late_state_of before asks written) ≡ Err (machine.Halted cause, late_state_of now asks written))
      → RunsCall p cost begun reported identity before a now a (Err (end.Halted cause))
  call_halts {a = a} ready units is = record {
    gives = λ m answered written b l. is (world_from m answered) (reported a).asks written;
    keeps = keeps_same begun reported identity a;
    ends = record { end = ready.no_end; counted = units ∙ ready.counted; cause = tt };
  }

  -- memory is refused, before what the meaning does
  pub call_refused : {before now : Held} {a : T} → IsReadyToCall before.units (reported a)
      → ((w : World) (asks : Asks) (written : Option (List ℕ)) → Later w (late_state_of now asks written).rest (end_state (p (late cost w) (late_state_of before asks written))).rest)
      → RunsCall p cost begun reported identity before a now a (Err end.OutOfMemory)
  call_refused {a = a} ready is = record {
    gives = λ m answered written b l. is (world_from m answered) (reported a).asks written;
    keeps = keeps_same begun reported identity a;
    ends = record { end = ready.no_end; counted = tt; cause = tt };
  }

  -- nothing is done
  pub call_same : {held : Held} {a : T} {x : A} → IsReadyToCall held.units (reported a) → ((w : World) (s : S) → p (late cost w) s ≡ Ok (x, s)) → RunsCall p cost begun reported identity held a held a (Ok x)
  call_same {held = held} {a = a} ready is = record {
    gives = λ m answered written b l. is (world_from m answered) (late_state_of held (reported a).asks written);
    keeps = keeps_same begun reported identity a;
    ends = record { end = ready.no_end; counted = ready.counted; cause = tt };
  }

  module _ {B : Type 0} (f : Machine Value Late → A × S → O B) where
    -- a use ended, and nothing is done after it
    pub uses_end : {a b : T} {e : End} {result : Result B End} → ComesLater f → IsErrAnd result (λ x. x ≡ e) → UsesValues p cost begun reported identity a b (Err e) → UsesValues (λ m s. p m s >>= f m) cost begun reported identity a b result
    uses_end {result = Ok y} k is one = absurd is
    uses_end {a = a} {b = b} {e = e} {result = Err x} k is one = rw is (record {
      gives = λ m answered globals locals units lines steps written on l.
          ends_on (world_from m answered) (reported b) e _ _ (f (late cost (world_from m answered))) (one.gives m answered globals locals units lines steps written on l) (k cost (world_from m answered));
      keeps = one.keeps;
      ends = use_passed e (Err e) refl one.ends;
    })

    -- a use, and then another
    pub use_on : {held : Held} {a b c : T} {x : A} {result : Result B End} → RunsUse p cost begun reported identity held a b (Ok x) → RunsUse (λ m s. f m (x, s)) cost begun reported identity held b c result
        → RunsUse (λ m s. p m s >>= f m) cost begun reported identity held a c result
    use_on {a = a} {b = b} {c = c} {x = x} {result = result} one two = record {
      gives = λ m answered written on l. rw (one.gives m answered written on (two.keeps.goes.left answered l)) (two.gives m answered written (one.keeps.on m on) l);
      keeps = keeps_on begun reported identity a b c one.keeps two.keeps;
      ends = use_after one.ends two.ends;
    }

    -- a use ended, and nothing is done after it
    pub use_end : {held : Held} {a b : T} {e : End} {result : Result B End} → ComesLater f → IsErrAnd result (λ x. x ≡ e) → RunsUse p cost begun reported identity held a b (Err e) → RunsUse (λ m s. p m s >>= f m) cost begun reported identity held a b result
    use_end {result = Ok y} k is one = absurd is
    use_end {a = a} {b = b} {e = e} {result = Err x} k is one = rw is (record {
      gives = λ m answered written on l. ends_on (world_from m answered) (reported b) e _ _ (f (late cost (world_from m answered))) (one.gives m answered written on l) (k cost (world_from m answered));
      keeps = one.keeps;
      ends = use_passed e (Err e) refl one.ends;
    })

    -- a call, and then another
    pub call_on : {h i j : Held} {a b c : T} {x : A} {result : Result B End} → RunsCall p cost begun reported identity h a i b (Ok x) → RunsCall (λ m s. f m (x, s)) cost begun reported identity i b j c result
        → RunsCall (λ m s. p m s >>= f m) cost begun reported identity h a j c result
    call_on {a = a} {b = b} {c = c} one two = record {
      gives = λ m answered written on l. rw (one.gives m answered written on (two.keeps.goes.left answered l)) (two.gives m answered written (one.keeps.on m on) l);
      keeps = keeps_on begun reported identity a b c one.keeps two.keeps;
      ends = two.ends;
    }

    -- a call ended, and nothing is done after it
    pub call_end : {h i : Held} {a b : T} {e : End} {result : Result B End} → ComesLater f → IsErrAnd result (λ x. x ≡ e) → RunsCall p cost begun reported identity h a i b (Err e) → RunsCall (λ m s. p m s >>= f m) cost begun reported identity h a i b result
    call_end {result = Ok y} k is one = absurd is
    call_end {i = i} {b = b} {e = e} {result = Err x} k is one = rw is (record {
      gives = λ m answered written on l. ends_on (world_from m answered) (reported b) e _ _ (f (late cost (world_from m answered))) (one.gives m answered written on l) (k cost (world_from m answered));
      keeps = one.keeps;
      ends = call_passed A B e i.units (reported b) one.ends;
    })

    module _ {K : Type 0} {written : K → Option (List ℕ)} {faults : K → ℕ} where
      -- a call that may write lines, and then another
      pub writing_on : {h i j : Held} {a b c : T} {k l n : K} {x : A} {result : Result B End} → RunsWriting p cost begun reported identity written faults h a k i b l (Ok x)
          → RunsWriting (λ m s. f m (x, s)) cost begun reported identity written faults i b l j c n result → RunsWriting (λ m s. p m s >>= f m) cost begun reported identity written faults h a k j c n result
      writing_on {i = i} {j = j} {a = a} {b = b} {c = c} {k = k} {l = l} {n = n} {x = x} {result = result} one two = record {
        gives = λ m answered known on left knows. rw (one.gives m answered known on (two.keeps.goes.left answered left) knows) (two.gives m answered known (one.keeps.on m on) left (one.ends.knows known knows));
        keeps = keeps_on begun reported identity a b c one.keeps two.keeps;
        ends = ends_after one.ends two.ends;
      }

      -- a call that may write lines ended, and nothing is done after it
      pub writing_end : {h i : Held} {a b : T} {k l : K} {e : End} {result : Result B End} → ComesLater f → IsErrAnd result (λ x. x ≡ e) → RunsWriting p cost begun reported identity written faults h a k i b l (Err e)
          → RunsWriting (λ m s. p m s >>= f m) cost begun reported identity written faults h a k i b l result
      writing_end {result = Ok y} later is one = absurd is
      writing_end {i = i} {b = b} {k = k} {l = l} {e = e} {result = Err x} later is one = rw is (record {
        gives = λ m answered known on left knows. ends_on (world_from m answered) (reported b) e _ _ (f (late cost (world_from m answered))) (one.gives m answered known on left knows) (later cost (world_from m answered));
        keeps = one.keeps;
        ends = ends_passed e (Err e) refl one.ends;
      })

-- a call that may write lines, and then a use
pub writing_use : {A B T K : Type 0} {p : LateMeaning A} {cost : Costs} {begun : T → BenchState → Type 0} {reported : T → AccessView} {identity : T → ℕ} {written : K → Option (List ℕ)} {faults : K → ℕ} (f : Machine Value Late → A × S → O B)
    {h i : Held} {a b c : T} {k l : K} {x : A} {result : Result B End} → RunsWriting p cost begun reported identity written faults h a k i b l (Ok x)
    → UsesValues (λ m s. f m (x, s)) cost begun reported identity b c result → RunsWriting (λ m s. p m s >>= f m) cost begun reported identity written faults h a k i c l result
writing_use f one two = writing_on f one (writing_by_call (call_by_use (ready_after one.ends) (use_at two)))
