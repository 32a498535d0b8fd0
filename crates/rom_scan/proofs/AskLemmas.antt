-- One call, and its result at once.
use Rattle.std.proofs.Common.{◌≡◌, ◌∙◌, ℕ, suc, ◌+◌, Bool, true, false, List, [], ◌∷◌, ◌++◌, length, slice_index, Option, None, Some, Err, refl, sym, ap, subst}
use Rattle.target_calls.specs.World.{World, done_now, end_result, results, stop, stops_here, world_after}
use Rattle.target_calls.specs.declared.calls.Ask.{Ask}
use Rattle.target_calls.proofs.OneCall.{one_last, one_stops}
use Rattle.access_calls.specs.Answers.{AtCut, StopsCalls, calls_after}
use Rattle.access_calls.specs.Reported.{AccessView}
use Rattle.access_calls.specs.declared.stop.Stop.{Stop}
use Rattle.access_calls.specs.declared.stop.Stop.TheVariants.{Cut, BenchFault, ReplyBad, OutOfMemory}
use Rattle.access_calls.proofs.KeepLemmas.{all_asked}
use Rattle.sequels.specs.Meeting.{CutOff, Gave}
use Rattle.sequels.specs.Sequel.{Ends, asks}
use Rattle.sequels.proofs.MeetingLemmas.{cut_call, gave_by, left_call, left_here, reaches_call}
use Rattle.rom_scan.specs.Meets.{StopsIn}

-- the call was asked
stops_call : (w : World) (old new : List Ask) (ask : Ask) (lines : ℕ) (written : Option (List ℕ)) (st : Stop) → new ≡ old ++ ask ∷ [] → stop w old ≡ None → AtCut st (λ r. stop w (old ++ ask ∷ []) ≡ Some (lines + 1))
    → StopsIn w lines (asks ask) old new written written st
stops_call w old new ask lines written st is whole stops = subst (λ (l : List Ask). StopsIn w lines (asks ask) old l written written st) (sym is) (record { left = left_call w ask (λ n. Ends n) old written; cut = by_stop st stops })
  where
    by_stop : (st : Stop) → AtCut st (λ r. stop w (old ++ ask ∷ []) ≡ Some (lines + 1)) → AtCut st (λ r. CutOff w (asks ask) old (old ++ ask ∷ []) written written × (stop w (old ++ ask ∷ []) ≡ Some (lines + 1)))
    by_stop (Cut r) h = (cut_call w ask (λ n. Ends n) old written (lines + 1) whole h, h)
    by_stop (BenchFault issued confirmed) h = tt
    by_stop ReplyBad h = tt
    by_stop OutOfMemory h = tt

-- where the call is asked
pub stops_asking : (T : Type 0) (w : World) (a b : AccessView) (ask : Ask) (written : Option (List ℕ)) (st : Stop) → a.end ≡ None → b.asks.calls ≡ calls_after {T = T} a ask (Err st) → StopsCalls w (a.asks.calls ++ ask ∷ []) b.lines st
    → stop w a.asks.calls ≡ None → StopsIn w b.lines (asks ask) a.asks.calls b.asks.calls written written st
stops_asking T w a b ask written (Cut r) none calls stops whole = stops_call w a.asks.calls b.asks.calls ask b.lines written (Cut r) (all_asked a b ask none calls) whole stops.so
stops_asking T w a b ask written (BenchFault issued confirmed) none calls stops whole = stops_call w a.asks.calls b.asks.calls ask b.lines written (BenchFault issued confirmed) (all_asked a b ask none calls) whole stops.so
stops_asking T w a b ask written ReplyBad none calls stops whole = stops_call w a.asks.calls b.asks.calls ask b.lines written ReplyBad (all_asked a b ask none calls) whole stops.so
stops_asking T w a b ask written OutOfMemory none calls stops whole =
    subst (λ (l : List Ask). StopsIn w b.lines (asks ask) a.asks.calls l written written OutOfMemory) (sym calls) (record { left = left_here w (asks ask) a.asks.calls written; cut = tt })

-- where it is made
pub stops_making : (w : World) (old mid new : List Ask) (ask : Ask) (lines : ℕ) (written : Option (List ℕ)) (st : Stop) → mid ≡ old ++ ask ∷ [] → new ≡ mid → StopsCalls w mid lines st → stop w old ≡ None
    → StopsIn w lines (asks ask) old new written written st
stops_making w old mid new ask lines written st mid_is new_is stops whole =
    stops_call w old new ask lines written st (new_is ∙ mid_is) whole (subst (λ (l : List Ask). AtCut st (λ r. stop w l ≡ Some (lines + 1))) mid_is stops.so)

-- its result
pub gives_result : (w : World) (old mid new : List Ask) (ask : Ask) (written : Option (List ℕ)) (index n : ℕ) → mid ≡ old ++ ask ∷ [] → new ≡ mid → stop w mid ≡ None → index ≡ length old → n ≡ slice_index (results w mid) index → stop w old ≡ None
    → Gave w (asks ask) old new written written n
gives_result w old mid new ask written index n mid_is new_is made index_is n_is whole =
    by_stop (stops_here (world_after w old) ask) refl
  where
    last : n ≡ slice_index (results w (old ++ ask ∷ [])) (length old)
    last = n_is ∙ ap (λ (l : List Ask). slice_index (results w l) index) mid_is ∙ ap (slice_index (results w (old ++ ask ∷ []))) index_is

    by_stop : (b : Bool) → stops_here (world_after w old) ask ≡ b → Gave w (asks ask) old new written written n
    by_stop true e = absurd (let bad : None ≡ Some (suc (length old)) = sym made ∙ ap (stop w) mid_is ∙ one_stops w old ask whole e in cc)
    by_stop false e =
        subst (λ (l : List Ask). Gave w (asks ask) old l written written n) (sym (new_is ∙ mid_is))
        (subst (λ (x : ℕ). Gave w (asks ask) old (old ++ ask ∷ []) written written x) (sym (last ∙ one_last w old ask whole e))
        (gave_by w (asks ask) (end_result (done_now (world_after w old) ask).end) old (old ++ ask ∷ []) written written (reaches_call w ask (λ k. Ends k) old written e)))
