-- One command has 255 requests at most, so its numbers are small.
use Rattle.std.proofs.Common.{◌≡◌, ℕ, zero, suc, ◌≤◌, Bool, true, false, cond, not, List, [], ◌∷◌, ◌++◌, take, length, length-append, Option, ap, arith}
use Rattle.dap_messages.specs.declared.request.Request.{Request}
use Rattle.dap_messages.specs.declared.request.Response.{Response}
use Rattle.dap_transfer.specs.Laws.{accesses_in}
use Rattle.dap_transfer.specs.WireTransfer.{reads_rdbuff_itself}
use Rattle.dap_transfer.specs.Wires.{access_of}
use Rattle.flight_forms.specs.Flights.{part_of, seen_values}
use Rattle.batch_packer.specs.Readings.{IsFew}
use Rattle.batch_packer.specs.declared.part.FlightProgress.{FlightProgress}

own_few : (rs : List Request) → length (accesses_in rs) ≤ length rs
own_few [] = omega arith
own_few (r ∷ rs) = by_own (not (reads_rdbuff_itself (access_of r))) (own_few rs)
  where
    by_own : (b : Bool) → length (accesses_in rs) ≤ length rs → length (cond b (access_of r ∷ accesses_in rs) (accesses_in rs)) ≤ suc (length rs)
    by_own true h = omega arith
    by_own false h = omega arith

taken_few : (n : ℕ) (xs : List (Option ℕ)) → length (take n xs) ≤ n
taken_few zero xs = omega arith
taken_few (suc n) [] = omega arith
taken_few (suc n) (x ∷ xs) = let h = taken_few n xs in omega arith

pub few_part : (rs : List Request) (x : Response) (words : List ℕ) (old new : List (Option ℕ)) (p : FlightProgress) → length rs ≤ 255 → p.performed ≡ (part_of rs x words).performed →
    p.confirmed ≡ (part_of rs x words).confirmed → new ≡ old ++ (part_of rs x words).values → IsFew p old new
few_part rs x words old new p few performed confirmed values =
    let own = own_few rs in
    let long = ap length values in
    let both = length-append old (part_of rs x words).values in
    let most = taken_few (part_of rs x words).confirmed (seen_values rs words) in
    record {
      performed = omega arith;
      confirmed = omega arith;
      values = omega arith;
    }
