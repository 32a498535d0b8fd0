-- The mark of a `finish` after the last call.
use Rattle.std.proofs.Common.{◌≡◌, suc, ◌+◌, true, cond, List, [], ◌∷◌, ◌++◌, length, slice_index, Some, refl, sym, ap}
use Rattle.target_calls.specs.Asks.{is_settled, settled_last}
use Rattle.target_calls.specs.Values.{number_of}
use Rattle.target_calls.specs.World.{World, done_now, next_world, stops_here, end_result, results, later_by, stop, left_at, world_after, one_if_skipped, skips}
use Rattle.target_calls.specs.declared.calls.Ask.{Ask}
use Rattle.target_calls.specs.declared.calls.Value.{Value}
use Rattle.target_calls.specs.declared.calls.Value.TheVariants.{Number, Pending}

pub results_marked : (w : World) (calls : List Ask) → results w (settled_last calls) ≡ results w calls
results_marked w [] = refl
results_marked w (a ∷ []) = refl
results_marked w (a ∷ b ∷ calls) = ap (λ r. cond (stops_here w a) [] (end_result (done_now w a).end ∷ r)) (results_marked (next_world w a) (b ∷ calls))

pub after_marked : (w : World) (calls : List Ask) → world_after w (settled_last calls) ≡ world_after w calls
after_marked w [] = refl
after_marked w (a ∷ []) = refl
after_marked w (a ∷ b ∷ calls) = ap (λ u. cond (stops_here w a) (left_at w a) u) (after_marked (next_world w a) (b ∷ calls))

pub stop_marked : (w : World) (calls : List Ask) → stop w (settled_last calls) ≡ stop w calls
stop_marked w [] = refl
stop_marked w (a ∷ []) = refl
stop_marked w (a ∷ b ∷ calls) = ap (λ at. cond (stops_here w a) (Some 1) (later_by 1 at)) (stop_marked (next_world w a) (b ∷ calls))

pub skips_marked : (w : World) (calls : List Ask) → skips w (settled_last calls) ≡ skips w calls
skips_marked w [] = refl
skips_marked w (a ∷ []) = refl
skips_marked w (a ∷ b ∷ calls) = ap (λ n. cond (stops_here w a) 0 (one_if_skipped (done_now w a).end + n)) (skips_marked (next_world w a) (b ∷ calls))

pub value_marked : (w : World) (calls : List Ask) (v : Value) → number_of w (settled_last calls) v ≡ number_of w calls v
value_marked w calls (Number n) = refl
value_marked w calls (Pending slot) = ap (λ r. slice_index r slot.index) (results_marked w calls)

pub length_marked : (calls : List Ask) → length (settled_last calls) ≡ length calls
length_marked [] = refl
length_marked (a ∷ []) = refl
length_marked (a ∷ b ∷ calls) = ap suc (length_marked (b ∷ calls))

pub marked_settled : (calls : List Ask) → is_settled (settled_last calls) ≡ true
marked_settled [] = refl
marked_settled (a ∷ []) = refl
marked_settled (a ∷ b ∷ []) = refl
marked_settled (a ∷ b ∷ c ∷ calls) = marked_settled (b ∷ c ∷ calls)

pub marked_same : (calls : List Ask) → is_settled calls ≡ true → settled_last calls ≡ calls
marked_same [] h = refl
marked_same (a ∷ []) h = ap (λ m. record a { settled = m } ∷ []) (sym h)
marked_same (a ∷ b ∷ calls) h = ap (λ cs. a ∷ cs) (marked_same (b ∷ calls) h)

pub settled_append : (calls : List Ask) (ask : Ask) → is_settled (calls ++ ask ∷ []) ≡ ask.settled
settled_append [] ask = refl
settled_append (a ∷ []) ask = refl
settled_append (a ∷ b ∷ calls) ask = settled_append (b ∷ calls) ask

pub marked_append : (calls : List Ask) (ask : Ask) → settled_last (calls ++ ask ∷ []) ≡ calls ++ record ask { settled = true } ∷ []
marked_append [] ask = refl
marked_append (a ∷ []) ask = refl
marked_append (a ∷ b ∷ calls) ask = ap (λ cs. a ∷ cs) (marked_append (b ∷ calls) ask)
