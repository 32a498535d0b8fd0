-- What is read back among the results of all calls, and where the calls stop.
use Rattle.std.proofs.Common.{◌≡◌, ◌∙◌, inl, inr, ℕ, zero, suc, ◌+◌, ◌<◌, ◌≤◌, false, true, cond, List, [], ◌∷◌, ◌++◌, length, slice_index, Option, None, Some, refl, sym, ap, arith}
use Rattle.std.specs.Prelude.{is_some}
use Rattle.std.proofs.lemmas.List.{length-append}
use Rattle.target_calls.specs.Asks.{settled_last}
use Rattle.target_calls.specs.World.{World, results, stop, world_after}
use Rattle.target_calls.specs.declared.calls.Ask.{Ask}
use Rattle.target_calls.proofs.CallLists.{append_results, count_of, whole_front}
use Rattle.target_calls.proofs.MarkLemmas.{length_marked, results_marked, stop_marked}
use Rattle.access_calls.specs.Answers.{AtCut, StopsOrSettles, calls_finished}
use Rattle.access_calls.specs.Reported.{AccessView}
use Rattle.access_calls.specs.declared.stop.Stop.{Stop}
use Rattle.access_calls.specs.declared.stop.Stop.TheVariants.{Cut, BenchFault, ReplyBad, OutOfMemory}
use Rattle.access_calls.specs.declared.stop.StopCause.{StopCause}
use Rattle.access_calls.specs.declared.stop.StopCause.TheVariants.{Faulted, NoAnswer}
use Rattle.image_load.specs.Loading.{StopsAtCut, read_back}
use Rattle.image_load.specs.Pieces.{asked_all, first_difference, load_calls}
use Rattle.image_load.specs.declared.piece.Difference.{Difference}
use Rattle.image_load.specs.declared.piece.WordOrByte.{WordOrByte}
use Rattle.image_load.proofs.CallLemmas.{count_all}
use Rattle.image_load.proofs.DifferenceLemmas.{same_found}

-- ---- places of results

-- the results that are compared have come
pub known_all : (first n old known : ℕ) → (0 < n → first ≡ old + n) → (n ≡ 0 → first ≡ 0) → known ≡ old + (n + n) → first + n ≤ known
known_all first zero old known some none is = (let at = none refl in omega (arith, at, is))
known_all first (suc n) old known some none is = (let at = some (omega arith) in omega (arith, at, is))

-- and are few
pub few_all : (first n old : ℕ) → (0 < n → first ≡ old + n) → (n ≡ 0 → first ≡ 0) → n ≤ 262144 → old ≤ 1000000 → first + n ≤ 9000000
few_all first zero old some none many few = (let at = none refl in omega (arith, at))
few_all first (suc n) old some none many few = (let at = some (omega arith) in omega (arith, at, many, few))

pub long_all : (n : ℕ) (ps : List WordOrByte) (old now : List Ask) → now ≡ settled_last (old ++ load_calls n ps) → length now ≡ length old + (length ps + length ps)
long_all n ps old now is =
    let a = length-append old (load_calls n ps) in
    let b = length-append (asked_all false n ps) (asked_all true n ps) in
    let c = count_all false n ps in
    let d = count_all true n ps in
    let e = ap length is ∙ length_marked (old ++ load_calls n ps) in
    omega (arith, a, b, c, d, e)

-- ---- what is read back

pub index_past : (xs ys : List ℕ) (i : ℕ) → slice_index (xs ++ ys) (length xs + i) ≡ slice_index ys i
index_past [] ys i = (let same : 0 + i ≡ i = omega arith in ap (slice_index ys) same)
index_past (x ∷ xs) ys i = (let same : suc (length xs) + i ≡ suc (length xs + i) = omega arith in ap (slice_index (x ∷ xs ++ ys)) same) ∙ index_past xs ys i

module _ (w : World) (old calls : List Ask) (whole : stop w (old ++ calls) ≡ None) where
  before : stop w old ≡ None
  before = whole_front w old calls whole

  -- a result of the load, among all results
  found_back : (first writes i : ℕ) → first ≡ length old + writes → slice_index (results w (settled_last (old ++ calls))) (first + i) ≡ read_back w old calls writes i
  found_back first writes i is =
      ap (λ (l : List ℕ). slice_index l (first + i)) (results_marked w (old ++ calls) ∙ append_results w old calls before)
      ∙ (let count = count_of w old before in let same : first + i ≡ length (results w old) + (writes + i) = omega (arith, count, is) in ap (slice_index (results w old ++ results (world_after w old) calls)) same)
      ∙ index_past (results w old) (results (world_after w old) calls) (writes + i)

  -- what was compared is what was read back
  pub compared : (ps : List WordOrByte) (now : List Ask) (first : ℕ) (r : Option Difference) → (0 < length ps → first ≡ length old + length ps) → now ≡ settled_last (old ++ calls)
      → r ≡ first_difference ps (λ i. slice_index (results w now) (first + i)) → first_difference ps (read_back w old calls (length ps)) ≡ r
  compared [] now first r at now_is r_is = sym r_is
  compared (p ∷ ps) now first r at now_is r_is =
      sym (r_is ∙ ap (λ (l : List Ask). first_difference (p ∷ ps) (λ i. slice_index (results w l) (first + i))) now_is
      ∙ same_found (p ∷ ps) (λ i. slice_index (results w (settled_last (old ++ calls))) (first + i)) (read_back w old calls (suc (length ps))) (λ i. found_back first (suc (length ps)) i (at (omega arith))))

-- ---- stops

pub finish_calls : (a : AccessView) → a.end ≡ None → calls_finished a ≡ settled_last a.asks.calls
finish_calls a none = ap (λ (e : Option Stop). cond (is_some e) a.asks.calls (settled_last a.asks.calls)) none

pub stop_none : (w : World) (mid now : List Ask) → now ≡ settled_last mid → stop w mid ≡ None → stop w now ≡ None
stop_none w mid now is none = ap (stop w) is ∙ stop_marked w mid ∙ none

-- a cut while the calls are asked
pub cut_asking : (w : World) (calls old new : List Ask) (lines : ℕ) (s : Stop) → AtCut s (λ r. stop w new ≡ Some (lines + 1)) → AtCut s (λ r. StopsAtCut r.cause w calls old new lines)
cut_asking w calls old new lines (Cut r) h = by_cause r.cause
  where
    by_cause : (cause : StopCause) → StopsAtCut cause w calls old new lines
    by_cause Faulted = h
    by_cause NoAnswer = inl h
cut_asking w calls old new lines (BenchFault issued confirmed) h = tt
cut_asking w calls old new lines ReplyBad h = tt
cut_asking w calls old new lines OutOfMemory h = tt

-- a cut while all of them are settled
pub cut_settling : (w : World) (calls old mid new : List Ask) (lines : ℕ) (s : Stop) → mid ≡ old ++ calls → new ≡ settled_last mid
    → AtCut s (λ r. StopsOrSettles r.cause w mid lines) → AtCut s (λ r. StopsAtCut r.cause w calls old new lines)
cut_settling w calls old mid new lines (Cut r) mid_is is h = by_cause r.cause h
  where
    marked : stop w new ≡ stop w mid
    marked = ap (stop w) is ∙ stop_marked w mid

    by_cause : (cause : StopCause) → StopsOrSettles cause w mid lines → StopsAtCut cause w calls old new lines
    by_cause Faulted k = marked ∙ k
    by_cause NoAnswer (inl k) = inl (marked ∙ k)
    by_cause NoAnswer (inr k) = inr (record { asked = is ∙ ap settled_last mid_is; goes = marked ∙ k.0; count = k.1 ∙ sym (ap length is ∙ length_marked mid) })
cut_settling w calls old mid new lines (BenchFault issued confirmed) mid_is is h = tt
cut_settling w calls old mid new lines ReplyBad mid_is is h = tt
cut_settling w calls old mid new lines OutOfMemory mid_is is h = tt
