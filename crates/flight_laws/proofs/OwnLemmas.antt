-- Of which calls entries are that were begun.
use Rattle.std.proofs.Common.{◌≡◌, ◌∙◌, ℕ, zero, suc, ◌+◌, ◌-◌, ◌<◌, ◌≤◌, Bool, true, false, cond, List, [], ◌∷◌, ◌++◌, length, take, drop, Option, Some, None, refl, sym, ap, subst, arith, append_assoc, length-append}
use Rattle.std.specs.List.{AllByRecursion}
use Rattle.std.proofs.Math.Seq.{take-append-add}
use Rattle.std.proofs.lemmas.List.{length-take, take-append-drop}
use Rattle.std.proofs.lemmas.Option.{same_Some}
use Rattle.target_machine.specs.Fresh.{IsFresh}
use Rattle.target_machine.specs.Plain.{CallDone}
use Rattle.target_machine.specs.State.{TargetState}
use Rattle.target_calls.specs.Asks.{AreAskable}
use Rattle.target_calls.specs.Journal.{Entry, Passes, lines_before}
use Rattle.target_calls.specs.World.{World, later_by, next_world, start_world, stop, stops_here}
use Rattle.target_calls.specs.declared.calls.Ask.{Ask}
use Rattle.target_calls.proofs.EntryLemmas.{pass_front}
use Rattle.access_regs.specs.Alone.{NoneFaults, call_alone}
use Rattle.access_regs.specs.Journal.{issued_entries}
use Rattle.access_regs.specs.Stops.{StaysThere, world_at}
use Rattle.access_regs.specs.declared.planner.Planner.{Planner}
use Rattle.access_regs.proofs.StopLists.{good_end, stop_goes, wait_stops}
use Rattle.access_calls.specs.Growing.{IsForFirstCalls}
use Rattle.access_calls.specs.Standing.{StayWithin}
use Rattle.flight_laws.specs.Stopping.{BegunStay}

-- ---- where calls stop

stop_positive : (w : World) (ask : Ask) (asks : List Ask) (n : ℕ) → stop w (ask ∷ asks) ≡ Some n → 0 < n
stop_positive w ask asks n is = one (stops_here w ask) (stop (next_world w ask) asks) is
  where
    one : (b : Bool) (o : Option ℕ) → cond b (Some 1) (later_by 1 o) ≡ Some n → 0 < n
    one true o e = (let same = same_Some 1 n e in omega (arith, same))
    one false None e = absurd (cc)
    one false (Some m) e = (let same = same_Some (1 + m) n e in omega (arith, same))

-- calls of which the first do not end at a fault stop after those
stop_later : (t : TargetState) (large : List ℕ) (asks : List Ask) (at n : ℕ) → NoneFaults t large (take at asks) → at ≤ length asks → stop (world_at t large None) asks ≡ Some n → at < n
stop_later t large [] at n none within is = absurd (cc)
stop_later t large (ask ∷ asks) zero n none within is = stop_positive (world_at t large None) ask asks n is
stop_later t large (ask ∷ asks) (suc at) n none within is =
    by_stop (stop (world_at d.next d.large None) asks) (λ m e. stop_later d.next d.large asks at m none.1 (omega (arith, within)) e)
    (sym (stop_goes t large None ask asks refl (good_end d.end none.0)) ∙ is)
  where
    d : CallDone
    d = call_alone t large ask

    by_stop : (o : Option ℕ) → ((m : ℕ) → o ≡ Some m → at < m) → later_by 1 o ≡ Some n → suc at < n
    by_stop None less h = absurd (cc)
    by_stop (Some m) less h =
        let one : at < m = less m refl in
        let same : 1 + m ≡ n = same_Some (1 + m) n h in
        omega (arith, one, same)

-- ---- entries

-- an entry before which none gives a fault is issued for the calls up to the first that ends at one
own_at : (p : Planner) (t : TargetState) (asks : List Ask) (front : List Entry) (e : Entry) (more : List Entry) (n : ℕ) → IsFresh t → AreAskable asks → issued_entries p t asks ≡ front ++ e ∷ more
    → Passes t front → stop (start_world t None) asks ≡ Some n → IsForFirstCalls n e
own_at p t asks front e more n fresh ok is passes stops =
    let s : StaysThere 0 t [] asks e = wait_stops p t asks front e more fresh ok is passes in
    let less : s.at < n = stop_later t [] asks s.at n s.none s.within stops in
    let lines : lines_before e ≡ 0 + s.at = s.lines in
    omega (arith, lines, less)

-- all of a list, by what comes before each
all_by_front : {A : Type 0} (P : A → Type 0) (xs : List A) → ((front : List A) (x : A) (more : List A) → xs ≡ front ++ x ∷ more → P x) → AllByRecursion P xs
all_by_front P [] h = tt
all_by_front {A = A} P (x ∷ xs) h = (h [] x xs refl, all_by_front P xs (λ front y more is. h (x ∷ front) y more (ap (λ (l : List A). x ∷ l) is)))

-- entries in front, where those before each of them pass
pub stay_front : (p : Planner) (t : TargetState) (asks : List Ask) (first rest : List Entry) → IsFresh t → AreAskable asks → issued_entries p t asks ≡ first ++ rest
    → ((front : List Entry) (e : Entry) (more : List Entry) → first ≡ front ++ e ∷ more → Passes t front) → StayWithin t asks first
stay_front p t asks first rest fresh ok is pass = record {
  so = λ n stops. all_by_front (IsForFirstCalls n) first
      (λ front e more here. own_at p t asks front e (more ++ rest) n fresh ok (is ∙ ap (λ (l : List Entry). l ++ rest) here ∙ append_assoc front (e ∷ more) rest) (pass front e more here) stops);
}

-- where all of them pass
pub stay_passing : (p : Planner) (t : TargetState) (asks : List Ask) (first rest : List Entry) → IsFresh t → AreAskable asks → issued_entries p t asks ≡ first ++ rest → Passes t first → StayWithin t asks first
stay_passing p t asks first rest fresh ok is passes =
    stay_front p t asks first rest fresh ok is (λ front e more here. pass_front t front (e ∷ more) (subst (Passes t) here passes))

-- where all but the last pass
pub begun_stay : BegunStay
begun_stay p t asks begun fresh ok passes =
    stay_front p t asks (take begun entries) (drop begun entries) fresh ok (sym (take-append-drop begun entries)) before
  where
    entries : List Entry
    entries = issued_entries p t asks

    before : (front : List Entry) (e : Entry) (more : List Entry) → take begun entries ≡ front ++ e ∷ more → Passes t front
    before front e more here =
        let long : length (take begun entries) ≡ length front + suc (length more) = ap length here ∙ length-append front (e ∷ more) in
        let most : length (take begun entries) ≤ begun = (let l = length-take begun entries in grind (arith, l)) in
        let sum : begun - 1 ≡ length front + (begun - 1 - length front) = omega (arith, long, most) in
        let all : entries ≡ front ++ (e ∷ more ++ drop begun entries) = sym (take-append-drop begun entries) ∙ ap (λ (l : List Entry). l ++ drop begun entries) here ∙ append_assoc front (e ∷ more) (drop begun entries) in
        let first : take (begun - 1) entries ≡ front ++ take (begun - 1 - length front) (e ∷ more ++ drop begun entries) =
        (λ j. take (sum j) (all j)) ∙ take-append-add front (e ∷ more ++ drop begun entries) (begun - 1 - length front) in
        pass_front t front (take (begun - 1 - length front) (e ∷ more ++ drop begun entries)) (subst (Passes t) first passes)
