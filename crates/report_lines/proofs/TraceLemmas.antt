-- The lines of a log, one entry after the other.
use Rattle.std.proofs.Common.{◌≡◌, ◌⊎◌, ◌+◌, ◌<◌, ◌≤◌, ℕ, zero, suc, List, [], ◌∷◌, Option, None, Some, Result, Ok, Err, IfSome, inl, inr, length, min, take, drop, slice_get, subst, ap, refl, arith}
use Rattle.std.proofs.lemmas.Grind.{common_steps, flat_map-append}
use Rattle.std.proofs.lemmas.List.{take-append-drop}
use Rattle.std.specs.Io.KnownBytes.{Appends}
use Rattle.std.specs.List.{flat_map}
use Rattle.dap_base.specs.Streams.{AppendsPrefix, PutAppends}
use Rattle.dap_base.proofs.Known.{whole_put}
use Rattle.probe_core.specs.Bench.{BenchState}
use Rattle.probe_core.specs.Log.{Entry, IsCountedLog, Log}
use Rattle.report_lines.specs.Trace.{EntriesPut, EntryPut, StepPut, entry_line, kept_line, trace}
use Rattle.report_lines.specs.declared.put.TextEnd.{TextEnd}
use Rattle.report_lines.specs.declared.trace.Seen.TheVariants as seen
use Rattle.text_lines.proofs.RowLemmas.{row_cut, row_more}
use Rattle.text_lines.proofs.PutLemmas.{prefix_first, put_after}

-- ---- the first entries

-- the first numbers were shown: so many of their entries are kept, and their lines were put
pub record HaveCome (log : Log) (index kept : ℕ) (a b : Option (List ℕ)) : Type 0 where
  pub counted : index ≤ log.count
  pub kept_are : kept ≡ min index (length log.kept)
  pub written : Appends a b (flat_map entry_line (take index log.kept))

within : {X : Type 0} (xs : List X) (i : ℕ) (x : X) → slice_get xs i ≡ Some x → i < length xs
within [] i x at = cc
within (y ∷ ys) zero x at = omega arith
within (y ∷ ys) (suc i) x at = let below = within ys i x at in omega arith

take-whole : {X : Type 0} (xs : List X) (i : ℕ) → length xs ≤ i → take i xs ≡ xs
take-whole [] zero all = refl
take-whole [] (suc i) all = refl
take-whole (x ∷ xs) zero all = let no : ⊥ = omega arith in absurd no
take-whole (x ∷ xs) (suc i) all = ap (λ ys. x ∷ ys) (take-whole xs i (omega arith))

kept_comes : (log : Log) (i k : ℕ) (a b c : Option (List ℕ)) → IsCountedLog log → HaveCome log i k a b → EntryPut log i (Ok seen.Kept) b c → HaveCome log (i + 1) (k + 1) a c
kept_comes log i k a b c few come put =
    let below = within log.kept i put.0 put.1 in record {
      counted = let most = few.kept in omega arith;
      kept_are = let so_far = come.kept_are in grind (arith, common_steps);
      written = row_more a b c entry_line log.kept i put.0 put.1 come.written put.2;
    }

passed_comes : (log : Log) (i k : ℕ) (a b c : Option (List ℕ)) → HaveCome log i k a b → EntryPut log i (Ok seen.NotKept) b c → HaveCome log (i + 1) k a c
passed_comes log i k a b c come put =
    let all = put.0 in let all_more : length log.kept ≤ i + 1 = omega arith in record {
      counted = let inside = put.1 in omega arith;
      kept_are = let so_far = come.kept_are in grind (arith, common_steps);
      written = rw (put.2, take-whole log.kept (i + 1) all_more) (rw (take-whole log.kept i all) at come.written);
    }

all_come : (log : Log) (i k : ℕ) (a b : Option (List ℕ)) → IsCountedLog log → HaveCome log i k a b → log.count ≤ i → EntriesPut log (Ok (k, i)) a b
all_come log i k a b few come past =
    let kept = few.kept in let counted = come.counted in
    let all : length log.kept ≤ i = omega arith in (
      rw (take-whole log.kept i all) at come.written,
      let so_far = come.kept_are in grind (arith, common_steps),
      omega arith,
    )

front_comes : (a b : Option (List ℕ)) (es : List Entry) (i : ℕ) → Appends a b (flat_map entry_line (take i es)) → AppendsPrefix a b (flat_map entry_line es)
front_comes a b es i put =
    subst (λ xs. AppendsPrefix a b (flat_map entry_line xs)) (take-append-drop i es)
    (rw (flat_map-append entry_line (take i es) (drop i es)) (prefix_first a b (flat_map entry_line (take i es)) (flat_map entry_line (drop i es)) (whole_put a b (flat_map entry_line (take i es)) put)))

stops_at : (log : Log) (i k : ℕ) (a b c : Option (List ℕ)) (end : TextEnd) → HaveCome log i k a b → EntryPut log i (Err end) b c → EntriesPut log (Err end) a c
stops_at log i k a b c end come (inl same) = rw same (front_comes a b log.kept i come.written)
stops_at log i k a b c end come (inr part) = row_cut a b c entry_line log.kept i part.0 part.1 come.written part.2

-- ---- over a bench, where it is observable

step_comes : (log : Log) (i k n : ℕ) (a b c : Option (List ℕ)) → IsCountedLog log → HaveCome log i k a b → ((n ≡ k + 1) × EntryPut log i (Ok seen.Kept) b c) ⊎ ((n ≡ k) × EntryPut log i (Ok seen.NotKept) b c) → HaveCome log (i + 1) n a c
step_comes log i k n a b c few come (inl kept) = rw (kept.0) (kept_comes log i k a b c few come kept.1)
step_comes log i k n a b c few come (inr passed) = rw (passed.0) (passed_comes log i k a b c come passed.1)

pub entry_comes : (s t : Option BenchState) (i k n : ℕ) (a b c : Option (List ℕ)) → t ≡ s → IfSome s (λ m. IsCountedLog m.log → HaveCome m.log i k a b) → IfSome t (λ m. StepPut m.log i k (Ok (Some n)) b c) → IfSome s (λ m. IsCountedLog m.log → HaveCome m.log (i + 1) n a c)
unfolding StepPut
entry_comes None t i k n a b c same come put = tt
entry_comes (Some m) t i k n a b c same come put = λ few. step_comes m.log i k n a b c few (come few) (subst (λ u. IfSome u (λ m. StepPut m.log i k (Ok (Some n)) b c)) same put)

pub entries_end : (s t : Option BenchState) (i k : ℕ) (a b c : Option (List ℕ)) → t ≡ s → IfSome s (λ m. IsCountedLog m.log → HaveCome m.log i k a b) → IfSome t (λ m. StepPut m.log i k (Ok None) b c) → IfSome s (λ m. IsCountedLog m.log → EntriesPut m.log (Ok (k, i)) a c)
unfolding StepPut
entries_end None t i k a b c same come put = tt
entries_end (Some m) t i k a b c same come put = λ few.
    let past : EntryPut m.log i (Ok seen.Past) b c = subst (λ u. IfSome u (λ m. StepPut m.log i k (Ok None) b c)) same put in
    rw (past.1) (all_come m.log i k a b few (come few) past.0)

pub entries_stop : (s t : Option BenchState) (i k : ℕ) (a b c : Option (List ℕ)) (end : TextEnd) → t ≡ s → IfSome s (λ m. IsCountedLog m.log → HaveCome m.log i k a b) → IfSome t (λ m. StepPut m.log i k (Err end) b c) → IfSome s (λ m. IsCountedLog m.log → EntriesPut m.log (Err end) a c)
unfolding StepPut
entries_stop None t i k a b c end same come put = tt
entries_stop (Some m) t i k a b c end same come put = λ few. stops_at m.log i k a b c end (come few) (subst (λ u. IfSome u (λ m. StepPut m.log i k (Err end) b c)) same put)

-- ---- the last line

pub trace_put : {E : Type 0} (s : Option BenchState) (kept count : ℕ) (a b c : Option (List ℕ)) (r : Result (Unit {0}) E) → IfSome s (λ m. IsCountedLog m.log) → IfSome s (λ m. IsCountedLog m.log → EntriesPut m.log (Ok (kept, count)) a b) → PutAppends b c r (kept_line kept count) → IfSome s (λ m. PutAppends a c r (trace m.log))
trace_put None kept count a b c r few come put = tt
trace_put (Some m) kept count a b c r few come put =
    let all = come few in
    put_after a b c r (flat_map entry_line m.log.kept) (kept_line (length m.log.kept) m.log.count) all.0 (rw (all.1, all.2) at put)

pub trace_cut : (s : Option BenchState) (a b : Option (List ℕ)) (end : TextEnd) → IfSome s (λ m. IsCountedLog m.log) → IfSome s (λ m. IsCountedLog m.log → EntriesPut m.log (Err end) a b) → IfSome s (λ m. AppendsPrefix a b (trace m.log))
trace_cut None a b end few come = tt
trace_cut (Some m) a b end few come = prefix_first a b (flat_map entry_line m.log.kept) (kept_line (length m.log.kept) m.log.count) (come few)
