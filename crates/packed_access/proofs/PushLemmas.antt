-- An access that is issued.
use Rattle.std.proofs.Common.{◌≡◌, ◌∙◌, ℕ, ◌+◌, ◌*◌, ◌^◌, ◌<◌, ◌≤◌, false, List, [], ◌∷◌, ◌++◌, length, take, map, Option, Some, None, refl, sym, ap, subst, arith, append-nil, append_assoc, length-append}
use Rattle.std.proofs.Math.Seq.{take-append_seam, take-append-add}
use Rattle.std.proofs.lemmas.List.{map-append}
use Rattle.target_machine.specs.Plain.{Makes}
use Rattle.target_machine.specs.declared.access.RegAccess.{RegAccess}
use Rattle.probe_core.specs.Bench.{BenchState}
use Rattle.probe_core.specs.Probe.{target_of, work_of}
use Rattle.target_calls.specs.Journal.{Entry}
use Rattle.access_regs.specs.Journal.{issued_entries}
use Rattle.access_calls.specs.Issued.{kept_of}
use Rattle.access_calls.specs.Standing.{WhereObservable}
use Rattle.access_calls.specs.declared.issued.Issued.{Issued}
use Rattle.flight_laws.specs.Flights.{AreStrict}
use Rattle.flight_laws.proofs.FlightLemmas.{flight_length}
use Rattle.flight_laws.proofs.SendLemmas.{push_sends}
use Rattle.packed_access.specs.Begun.{HasIssued, IsIssuing, most_weight}
use Rattle.packed_access.specs.Logs.{LogState, log_with_entry}
use Rattle.access_regs.specs.declared.planner.Planner.{Planner}

-- one more of a list that goes on so
pub take_more : {A : Type 0} → (xs : List A) (x : A) (ys all : List A) (n : ℕ) → all ≡ xs ++ x ∷ ys → length xs ≡ n → (take n all ≡ xs) × (take (n + 1) all ≡ xs ++ x ∷ [])
take_more xs x ys all n is at = (
  (λ j. take (sym at j) (is j)) ∙ take-append_seam xs (x ∷ ys),
  (λ j. take (sym at j + 1) (is j)) ∙ take-append-add xs (x ∷ ys) 1,
)

strict_both : (xs : List Entry) (e : Entry) → AreStrict xs → e.forgiving ≡ false → AreStrict (xs ++ e ∷ [])
strict_both [] e h s = (s, tt)
strict_both (x ∷ xs) e h s = (h.0, strict_both xs e h.1 s)

-- the next access is issued
pub issue_pushed : (p : Planner) (log : LogState) (accesses : List RegAccess) (e : Entry) (rest : List Entry) (a : RegAccess) (entry : Issued) (m0 m : BenchState) →
    IsIssuing p log accesses (e ∷ rest) m0 m → e.action ≡ Makes a → e.forgiving ≡ false → entry ≡ kept_of e → length log.entries < 2 ^ 32 →
    IsIssuing p (log_with_entry log entry) (accesses ++ a ∷ []) rest m0 m
issue_pushed p log accesses e rest a entry m0 m h makes strict is few = record {
  flying = h.flying ++ e ∷ [];
  sending = push_sends p log.calls log.confirmed log.came h.flying e rest accesses a (take log.known log.results) m0 m h.sending makes room;
  known_is = h.known_is;
  count = (let c = h.count in let x = length-append h.flying (e ∷ []) in let y = length-append log.entries (entry ∷ []) in omega (arith, c, x, y));
  entries_are = entries_are;
  strict = strict_both h.flying e h.strict strict;
  in_order = h.in_order;
  within = h.within;
  came_made = h.came_made;
  whole_issued = (let w = h.whole_issued in let y = length-append log.entries (entry ∷ []) in omega (arith, w, y));
  came_are = h.came_are;
  skipped_is = h.skipped_is;
  given = h.given;
  given_in = λ index low less. (let g = h.given_in index low less in (g.0, (let b = g.1 in let y = length-append log.entries (entry ∷ []) in omega (arith, b, y))));
  flies = h.flies;
  few = (let f = h.few in let x = length-append accesses (a ∷ []) in let y = length-append log.entries (entry ∷ []) in omega (arith, f, x, y));
}
  where
    journal : List Entry
    journal = issued_entries p (target_of m0.probe) log.calls

    room : work_of m.probe + length h.flying + 1 < 2 ^ 64
    room = (let f = h.few in let l = flight_length h.flying accesses h.sending.on.flight in omega (arith, f, l, few))

    seam : issued_entries p (target_of m0.probe) log.calls ≡ (h.sending.made ++ h.flying) ++ e ∷ rest
    seam = h.sending.on.are ∙ sym (append_assoc h.sending.made h.flying (e ∷ rest))

    at : length (h.sending.made ++ h.flying) ≡ length log.entries
    at = (let l = length-append h.sending.made h.flying in let c = h.sending.confirmed_is in let k = h.count in omega (arith, l, c, k))

    takes : (take (length log.entries) (issued_entries p (target_of m0.probe) log.calls) ≡ h.sending.made ++ h.flying)
        × (take (length log.entries + 1) (issued_entries p (target_of m0.probe) log.calls) ≡ (h.sending.made ++ h.flying) ++ e ∷ [])
    takes = take_more (h.sending.made ++ h.flying) e rest (issued_entries p (target_of m0.probe) log.calls) (length log.entries) seam at

    entries_are : log.entries ++ entry ∷ [] ≡ map kept_of (take (length (log.entries ++ entry ∷ [])) (issued_entries p (target_of m0.probe) log.calls))
    entries_are =
        (λ j. (h.entries_are ∙ ap (map kept_of) takes.0) j ++ is j ∷ [])
        ∙ sym (map-append kept_of (h.sending.made ++ h.flying) (e ∷ []))
        ∙ ap (map kept_of) (sym takes.1)
        ∙ ap (λ n. map kept_of (take n (issued_entries p (target_of m0.probe) log.calls))) (sym (length-append log.entries (entry ∷ [])))

pub issued_where : (p : Planner) (x : Option BenchState) (log : LogState) (accesses : List RegAccess) (e : Entry) (rest : List Entry) (a : RegAccess) (entry : Issued) (m0 : BenchState) →
    WhereObservable x (λ m. IsIssuing p log accesses (e ∷ rest) m0 m) → e.action ≡ Makes a → e.forgiving ≡ false → entry ≡ kept_of e → length log.entries < 2 ^ 32 →
    WhereObservable x (λ m. IsIssuing p (log_with_entry log entry) (accesses ++ a ∷ []) rest m0 m)
issued_where p None log accesses e rest a entry m0 h makes strict is few = h
issued_where p (Some m) log accesses e rest a entry m0 h makes strict is few = issue_pushed p log accesses e rest a entry m0 m h makes strict is few

-- where the bench is observable
pub has_issued : (p : Planner) (x : Option BenchState) (log : LogState) (accesses : List RegAccess) (e : Entry) (rest : List Entry) (a : RegAccess) (entry : Issued) (m0 : BenchState) →
    HasIssued p x log accesses (e ∷ rest) m0 → e.action ≡ Makes a → e.forgiving ≡ false → entry ≡ kept_of e → length log.entries < 2 ^ 32 →
    HasIssued p x (log_with_entry log entry) (accesses ++ a ∷ []) rest m0
has_issued p x log accesses e rest a entry m0 h makes strict is few = record { so = issued_where p x log accesses e rest a entry m0 h.so makes strict is few }

-- the same, named otherwise
pub issued_same : (p : Planner) (x x' : Option BenchState) (log log' : LogState) (accesses accesses' : List RegAccess) (rest : List Entry) (m0 : BenchState) → x' ≡ x → log' ≡ log → accesses' ≡ accesses → HasIssued p x log accesses rest m0 → HasIssued p x' log' accesses' rest m0
issued_same p x x' log log' accesses accesses' rest m0 same is are h =
    subst (λ (y : Option BenchState). HasIssued p y log' accesses' rest m0) (sym same)
    (subst (λ (l : LogState). HasIssued p x l accesses' rest m0) (sym is)
    (subst (λ (xs : List RegAccess). HasIssued p x log xs rest m0) (sym are) h))
