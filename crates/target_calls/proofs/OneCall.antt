-- One call more, after calls at none of which they stop.
use Rattle.std.proofs.Common.{◌≡◌, ◌∙◌, suc, ◌+◌, true, false, List, [], ◌∷◌, ◌++◌, length, slice_index, None, Some, refl, ap, arith}
use Rattle.std.proofs.Math.Seq.{get_or-append_seam}
use Rattle.target_calls.proofs.CallLists.{append_after, append_results, append_skips, append_stop, count_of}
use Rattle.target_calls.specs.World.{World, done_now, end_result, is_small_end, left_at, next_world, one_if_skipped, results, skips, small_after, small_now, stop, stops_here, world_after}
use Rattle.target_calls.specs.declared.calls.Ask.{Ask}

module _ (w : World) (calls : List Ask) (ask : Ask) (whole : stop w calls ≡ None) where
  abbrev u : World
  u = world_after w calls

  pub one_stops : stops_here u ask ≡ true → stop w (calls ++ ask ∷ []) ≡ Some (suc (length calls))
  one_stops here = append_stop w calls (ask ∷ []) whole ∙ rw here (ap Some (omega arith))

  pub one_left : stops_here u ask ≡ true → world_after w (calls ++ ask ∷ []) ≡ left_at u ask
  one_left here = append_after w calls (ask ∷ []) whole ∙ rw here refl

  pub one_goes : stops_here u ask ≡ false → stop w (calls ++ ask ∷ []) ≡ None
  one_goes here = append_stop w calls (ask ∷ []) whole ∙ rw here refl

  pub one_after : stops_here u ask ≡ false → world_after w (calls ++ ask ∷ []) ≡ next_world u ask
  one_after here = append_after w calls (ask ∷ []) whole ∙ rw here refl

  pub one_results : stops_here u ask ≡ false → results w (calls ++ ask ∷ []) ≡ results w calls ++ end_result (done_now u ask).end ∷ []
  one_results here = append_results w calls (ask ∷ []) whole ∙ rw here refl

  pub one_last : stops_here u ask ≡ false → slice_index (results w (calls ++ ask ∷ [])) (length calls) ≡ end_result (done_now u ask).end
  one_last here =
      let all = one_results here in
      let count = count_of w calls whole in
      rw all (rw (← count) (get_or-append_seam (results w calls) (end_result (done_now u ask).end) [] 0))

  pub one_skips : stops_here u ask ≡ false → skips w (calls ++ ask ∷ []) ≡ skips w calls + one_if_skipped (done_now u ask).end
  one_skips here = append_skips w calls (ask ∷ []) whole ∙ rw here (omega arith)

  pub one_small : small_now w calls ask ≡ is_small_end (done_now u ask).end
  one_small = ap (λ at. small_after at u ask) whole
