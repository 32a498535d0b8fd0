-- Where the copy of a word stops, and what it writes.
use Rattle.std.proofs.Common.{◌≡◌, ◌⊎◌, inl, inr, ◌∙◌, ℕ, ◌+◌, Bool, true, false, cond, List, [], ◌∷◌, ◌++◌, Option, Some, None, refl, sym, ap, subst, slice_index, length}
use Rattle.std.specs.Io.KnownBytes.{Appends}
use Rattle.std.proofs.KnownBytes.{Appends-nil}
use Rattle.target_machine.specs.State.{TargetState, Agree}
use Rattle.target_machine.specs.declared.unit.Unit.{Unit as AccessUnit}
use Rattle.probe_core.specs.Bench.{BenchState}
use Rattle.probe_core.specs.Probe.{target_of}
use Rattle.target_calls.specs.Asks.{unit_ask, is_settled, settled_last}
use Rattle.target_calls.specs.Journal.{Entry}
use Rattle.target_calls.specs.NeedPoints.{Asks, nothing_asked}
use Rattle.target_calls.specs.World.{World, stop, results, stops_here, next_world, done_now, end_result, later_by, world_after, left_at}
use Rattle.target_calls.specs.declared.calls.Ask.{Ask}
use Rattle.access_calls.specs.Answers.{StopsCalls, StopsOrSettles, StopsSettling}
use Rattle.access_calls.specs.Copy.{Copied, CopyIsDone, CopyIsStopped, IsCopyEnd, copy_result, copied_by, line, read_word, write_word}
use Rattle.access_calls.specs.Reported.{Beginning, AccessView, began, start_of, world_of, world_from}
use Rattle.access_calls.specs.Standing.{AccessStands, StandsAt, WhereObservable}
use Rattle.access_calls.specs.declared.stop.Stop.{Stop}
use Rattle.access_calls.specs.declared.stop.Stop.TheVariants.{Cut, BenchFault, ReplyBad, OutOfMemory}
use Rattle.access_calls.specs.declared.stop.StopCause.{StopCause}
use Rattle.access_calls.specs.declared.stop.StopCause.TheVariants.{Faulted, NoAnswer}
use Rattle.access_calls.specs.declared.users.copy.CopyEnd.TheVariants.{Stopped}

abbrev read_ask : ℕ → Ask
read_ask from = unit_ask (read_word from) false

abbrev write_ask : ℕ → ℕ → Ask
write_ask to value = unit_ask (write_word to value) false

-- the two calls of a copy
abbrev pub both : ℕ → ℕ → ℕ → List Ask
both from to value = read_ask from ∷ write_ask to value ∷ []

-- the first call stops
at_read : (w : World) (from to : ℕ) (a : AccessView) (old : Option (List ℕ)) → stop w (read_ask from ∷ []) ≡ Some (a.lines + 1) → CopyIsStopped a (copy_result w from to) old old
at_read w from to a old e = by_test (stops_here w (read_ask from)) refl e
  where
    by_test : (b : Bool) → stops_here w (read_ask from) ≡ b → cond b (Some 1) (later_by 1 None) ≡ Some (a.lines + 1)
        → CopyIsStopped a (cond b (record { stopped = Some 1; written = []; world = w }) (copied_by (next_world w (read_ask from)) (write_ask to (end_result (done_now w (read_ask from)).end)))) old old
    by_test true is e = record { place = inl e; written = Appends-nil old }
    by_test false is e = absurd (cc)

-- the second call stops, where `value` is the result of the first
at_write : (w : World) (from to : ℕ) (a : AccessView) (old : Option (List ℕ)) (value : ℕ) → value ≡ slice_index (results w (read_ask from ∷ [])) 0
    → stop w (both from to value) ≡ Some (a.lines + 1) → CopyIsStopped a (copy_result w from to) old old
at_write w from to a old value is e = by_test (stops_here w (read_ask from)) refl is e
  where
    second : (w : World) (v : ℕ) (x : Bool) → stops_here w (write_ask to v) ≡ x → later_by 1 (cond x (Some 1) (later_by 1 None)) ≡ Some (a.lines + 1)
        → CopyIsStopped a (cond x (record { stopped = Some 2; written = []; world = w }) (record { stopped = None; written = line; world = next_world w (write_ask to v) })) old old
    second w v true same e = record { place = inl e; written = Appends-nil old }
    second w v false same e = absurd (cc)

    by_test : (b : Bool) → stops_here w (read_ask from) ≡ b
        → value ≡ slice_index (cond b [] (end_result (done_now w (read_ask from)).end ∷ [])) 0
        → cond b (Some 1) (later_by 1 (stop (next_world w (read_ask from)) (write_ask to value ∷ []))) ≡ Some (a.lines + 1)
        → CopyIsStopped a (cond b (record { stopped = Some 1; written = []; world = w }) (copied_by (next_world w (read_ask from)) (write_ask to (end_result (done_now w (read_ask from)).end)))) old old
    by_test true same is e = record { place = inl e; written = Appends-nil old }
    by_test false same is e = subst (λ v. CopyIsStopped a (copied_by (next_world w (read_ask from)) (write_ask to v)) old old) is
        (second (next_world w (read_ask from)) value (stops_here (next_world w (read_ask from)) (write_ask to value)) refl e)

-- a copy that does not stop, and leaves this world
pub record IsWhole (c : Copied) (last : World) : Type 0 where
  pub whole : c.stopped ≡ None
  pub written : c.written ≡ line
  pub world : c.world ≡ last

-- neither call stops
at_end : (w : World) (from to value : ℕ) → value ≡ slice_index (results w (read_ask from ∷ [])) 0 → stop w (both from to value) ≡ None
    → IsWhole (copy_result w from to) (world_after w (both from to value))
at_end w from to value is e = by_test (stops_here w (read_ask from)) refl is e
  where
    second : (w : World) (v : ℕ) (x : Bool) → stops_here w (write_ask to v) ≡ x → later_by 1 (cond x (Some 1) (later_by 1 None)) ≡ None
        → IsWhole (cond x (record { stopped = Some 2; written = []; world = w }) (record { stopped = None; written = line; world = next_world w (write_ask to v) })) (cond x (left_at w (write_ask to v)) (next_world w (write_ask to v)))
    second w v true same e = absurd (cc)
    second w v false same e = record { whole = refl; written = refl; world = refl }

    by_test : (b : Bool) → stops_here w (read_ask from) ≡ b
        → value ≡ slice_index (cond b [] (end_result (done_now w (read_ask from)).end ∷ [])) 0
        → cond b (Some 1) (later_by 1 (stop (next_world w (read_ask from)) (write_ask to value ∷ []))) ≡ None
        → IsWhole (cond b (record { stopped = Some 1; written = []; world = w }) (copied_by (next_world w (read_ask from)) (write_ask to (end_result (done_now w (read_ask from)).end)))) (cond b (left_at w (read_ask from)) (world_after (next_world w (read_ask from)) (write_ask to value ∷ [])))
    by_test true same is e = absurd (cc)
    by_test false same is e = subst (λ v. IsWhole (copied_by (next_world w (read_ask from)) (write_ask to v)) (world_after (next_world w (read_ask from)) (write_ask to value ∷ []))) is
        (second (next_world w (read_ask from)) value (stops_here (next_world w (read_ask from)) (write_ask to value)) refl e)

-- ---- the exits, by how the access stopped

stopped_read : (w : World) (from to : ℕ) (a : AccessView) (s : Stop) (old : Option (List ℕ)) → StopsCalls w (read_ask from ∷ []) a.lines s → IsCopyEnd (Stopped s) a (copy_result w from to) old old
stopped_read w from to a (Cut r) old stops = at_read w from to a old stops.so
stopped_read w from to a (BenchFault issued confirmed) old stops = tt
stopped_read w from to a ReplyBad old stops = tt
stopped_read w from to a OutOfMemory old stops = tt

stopped_write : (w : World) (from to : ℕ) (a : AccessView) (s : Stop) (old : Option (List ℕ)) (value : ℕ) → value ≡ slice_index (results w (read_ask from ∷ [])) 0
    → StopsCalls w (both from to value) a.lines s → IsCopyEnd (Stopped s) a (copy_result w from to) old old
stopped_write w from to a (Cut r) old value is stops = at_write w from to a old value is stops.so
stopped_write w from to a (BenchFault issued confirmed) old value is stops = tt
stopped_write w from to a ReplyBad old value is stops = tt
stopped_write w from to a OutOfMemory old value is stops = tt

-- ---- the same, with the facts as the calls give them

pub first_stops : (w : World) (from to : ℕ) (a : AccessView) (s : Stop) (old : Option (List ℕ)) (asks : Asks) (u : AccessUnit) → asks ≡ nothing_asked → u ≡ read_word from
    → StopsCalls w (asks.calls ++ unit_ask u false ∷ []) a.lines s → IsCopyEnd (Stopped s) a (copy_result w from to) old old
first_stops w from to a s old asks u fresh is stops =
    stopped_read w from to a s old (subst (λ (x : Asks × AccessUnit). StopsCalls w (x.0.calls ++ unit_ask x.1 false ∷ []) a.lines s) (λ j. (fresh j, is j)) stops)

-- the word was read, and gave this value
pub record IsRead (w : World) (from : ℕ) (calls : List Ask) (value : ℕ) : Type 0 where
  pub calls_are : calls ≡ unit_ask (read_word from) false ∷ []
  pub value_is : value ≡ slice_index (results w (unit_ask (read_word from) false ∷ [])) 0

pub was_read : (w : World) (from : ℕ) (asks : Asks) (u : AccessUnit) (one two : List Ask) (index value : ℕ) → asks ≡ nothing_asked → u ≡ read_word from
    → one ≡ asks.calls ++ unit_ask u false ∷ [] → index ≡ length asks.calls → two ≡ one → value ≡ slice_index (results w one) index → IsRead w from two value
was_read w from asks u one two index value fresh is first slot same result =
    let calls : one ≡ unit_ask (read_word from) false ∷ [] = first ∙ (λ j. (fresh j).calls ++ unit_ask (is j) false ∷ []) in
    let zero_is : index ≡ 0 = slot ∙ ap (λ (x : Asks). length x.calls) fresh in
    record { calls_are = same ∙ calls; value_is = result ∙ (λ j. slice_index (results w (calls j)) (zero_is j)) }

pub second_stops : (w : World) (from to : ℕ) (a : AccessView) (s : Stop) (old : Option (List ℕ)) (calls : List Ask) (value : ℕ) (u : AccessUnit) → IsRead w from calls value
    → u ≡ write_word to value → StopsCalls w (calls ++ unit_ask u false ∷ []) a.lines s → IsCopyEnd (Stopped s) a (copy_result w from to) old old
second_stops w from to a s old calls value u read is stops = stopped_write w from to a s old value read.value_is
    (subst (λ (x : List Ask × AccessUnit). StopsCalls w (x.0 ++ unit_ask x.1 false ∷ []) a.lines s) (λ j. (read.calls_are j, is j)) stops)

pub flush_stops : (w : World) (from to : ℕ) (a : AccessView) (s : Stop) (old : Option (List ℕ)) (calls next : List Ask) (value : ℕ) (u : AccessUnit) → IsRead w from calls value
    → u ≡ write_word to value → next ≡ calls ++ unit_ask u false ∷ [] → StopsCalls w next a.lines s → IsCopyEnd (Stopped s) a (copy_result w from to) old old
flush_stops w from to a s old calls next value u read is more stops =
    second_stops w from to a s old calls value u read is (subst (λ x. StopsCalls w x a.lines s) more stops)

-- both calls were made
pub record IsWritten (w : World) (from to : ℕ) (calls : List Ask) (last : World) : Type 0 where
  pub whole : IsWhole (copy_result w from to) last
  pub two : length calls ≡ 2
  pub mark : is_settled (settled_last calls) ≡ true
  pub after : world_after w (settled_last calls) ≡ last

pub was_written : (w : World) (from to : ℕ) (calls next : List Ask) (value : ℕ) (u : AccessUnit) → IsRead w from calls value → u ≡ write_word to value
    → next ≡ calls ++ unit_ask u false ∷ [] → stop w next ≡ None → IsWritten w from to next (world_after w (both from to value))
was_written w from to calls next value u read is more whole =
    let all : next ≡ both from to value = more ∙ (λ j. read.calls_are j ++ unit_ask (is j) false ∷ []) in
    record {
      whole = at_end w from to value read.value_is (ap (stop w) (sym all) ∙ whole);
      two = ap length all;
      mark = ap (λ x. is_settled (settled_last x)) all;
      after = ap (λ x. world_after w (settled_last x)) all;
    }

settled_open : (e : Option Stop) (entries : List Entry) (a : AccessView) (b : Beginning) (m : BenchState) → StandsAt e entries a b m → e ≡ None → is_settled a.asks.calls ≡ true
    → Agree (target_of m.probe) (world_after (world_of b) a.asks.calls).target
settled_open None entries a b m stands same settled = stands.settled settled
settled_open (Some s) entries a b m stands same settled = absurd (cc)

settled_target : (j : TargetState → List Ask → List Entry) (x : Option BenchState) (a : AccessView) (b : Beginning) (t : TargetState)
    → WhereObservable x (λ m. StandsAt a.end (j (start_of b) a.asks.calls) a b m) → a.end ≡ None → is_settled a.asks.calls ≡ true → (world_after (world_of b) a.asks.calls).target ≡ t
    → WhereObservable x (λ m. Agree (target_of m.probe) t)
settled_target j None a b t stands none settled is = stands
settled_target j (Some m) a b t stands none settled is = subst (λ u. Agree (target_of m.probe) u) is (settled_open a.end (j (start_of b) a.asks.calls) a b m stands none settled)

pub finished_done : (j : TargetState → List Ask → List Entry) (m : BenchState) (n : Option ℕ) (from to : ℕ) (a : AccessView) (calls : List Ask) (old new : Option (List ℕ)) (last : World)
    → IsWritten (world_from m n) from to calls last → Appends old new line → AccessStands j a (began m n) → a.end ≡ None → a.asks.calls ≡ settled_last calls → CopyIsDone a (copy_result (world_from m n) from to) old new
finished_done j m n from to a calls old new last wrote put stands none is = record {
  whole = wrote.whole.whole;
  written = subst (λ bytes. Appends old new bytes) (sym wrote.whole.written) put;
  target = settled_target j a.state a (began m n) (copy_result (world_from m n) from to).world.target stands none (ap is_settled is ∙ wrote.mark)
      (ap (λ x. (world_after (world_from m n) x).target) is ∙ ap (λ (w : World). w.target) (wrote.after ∙ sym wrote.whole.world));
}

pub finish_stops : (w : World) (from to : ℕ) (a : AccessView) (s : Stop) (old new : Option (List ℕ)) (calls : List Ask) (last : World) → IsWritten w from to calls last → Appends old new line
    → stop w calls ≡ None → StopsSettling w calls a.lines s → IsCopyEnd (Stopped s) a (copy_result w from to) old new
finish_stops w from to a (Cut r) old new calls last wrote put whole stops =
    record { place = placed r.cause stops.so; written = subst (λ bytes. Appends old new bytes) (sym wrote.whole.written) put }
  where
    placed : (why : StopCause) → StopsOrSettles why w calls a.lines → ((copy_result w from to).stopped ≡ Some (a.lines + 1)) ⊎ (((copy_result w from to).stopped ≡ None) × (a.lines ≡ 2))
    placed Faulted e = absurd (cc)
    placed NoAnswer (inl e) = absurd (cc)
    placed NoAnswer (inr e) = inr (wrote.whole.whole, e.1 ∙ wrote.two)
finish_stops w from to a (BenchFault issued confirmed) old new calls last wrote put whole stops = tt
finish_stops w from to a ReplyBad old new calls last wrote put whole stops = tt
finish_stops w from to a OutOfMemory old new calls last wrote put whole stops = tt
