-- Results that are taken from the values of a flight.
use Rattle.std.proofs.Common.{◌≡◌, ◌∙◌, ℕ, zero, suc, ◌+◌, ◌-◌, ◌<◌, ◌≤◌, List, [], ◌∷◌, ◌++◌, length, take, set, get_or, Option, refl, sym, ap, arith}
use Rattle.std.proofs.lemmas.List.{take_more_set, length-set}
use Rattle.std.specs.Option.{unwrap_or}
use Rattle.std.specs.Prelude.{slice_get}
use Rattle.batch_packer.specs.SlotList.{slot_at}
use Rattle.packed_access.specs.Logs.{LogState, flight_results, pending_place, result_by, result_for, with_result}

-- one more of a list
more_taken : (xs : List ℕ) (k : ℕ) → k < length xs → take (suc k) xs ≡ take k xs ++ get_or xs k 0 ∷ []
more_taken [] k less = absurd (omega (arith, less))
more_taken (x ∷ xs) zero less = refl
more_taken (x ∷ xs) (suc k) less = ap (λ (l : List ℕ). x ∷ l) (more_taken xs k (omega (arith, less)))

pub filled_length : (values : List (Option ℕ)) (log : LogState) (from j : ℕ) (xs : List ℕ) → length (flight_results values log from j xs) ≡ length xs
filled_length values log from zero xs = refl
filled_length values log from (suc j) xs = length-set (flight_results values log from j xs) (from + j) (result_by values log (from + j)) ∙ filled_length values log from j xs

-- where each value that is taken is the one of another list, and so are those before, all are
pub filled_is : (values : List (Option ℕ)) (log : LogState) (from j : ℕ) (xs all : List ℕ) → take from xs ≡ take from all → from + j ≤ length xs → from + j ≤ length all
    → ((i : ℕ) → from ≤ i → i < from + j → get_or all i 0 ≡ result_by values log i) → take (from + j) (flight_results values log from j xs) ≡ take (from + j) all
filled_is values log from zero xs all front le le' each = (let same : from + 0 ≡ from = omega arith in ap (λ (k : ℕ). take k xs) same ∙ front ∙ ap (λ (k : ℕ). take k all) (sym same))
filled_is values log from (suc j) xs all front le le' each =
    let v : ℕ = result_by values log (from + j) in
    let before = filled_is values log from j xs all front (omega (arith, le)) (omega (arith, le')) (λ i low less. each i low (omega (arith, less))) in
    let same : from + suc j ≡ (from + j) + 1 = omega arith in
    ap (λ (k : ℕ). take k (set (flight_results values log from j xs) (from + j) v)) same
    ∙ take_more_set (flight_results values log from j xs) (from + j) v (let l = filled_length values log from j xs in omega (arith, l, le))
    ∙ (λ i. before i ++ sym (each (from + j) (omega arith) (omega arith)) i ∷ [])
    ∙ sym (more_taken all (from + j) (omega (arith, le')))
    ∙ ap (λ (k : ℕ). take k all) (let same' : suc (from + j) ≡ from + suc j = omega arith in same')

-- one more result is taken
pub filled_next : (values : List (Option ℕ)) (log now new : LogState) (index word place : ℕ) → log.came ≤ index → now ≡ record log { results = flight_results values log log.came (index - log.came) log.results } →
    place ≡ pending_place now index → word ≡ unwrap_or (slot_at values place) 0 → new ≡ with_result now index (result_for (slice_get now.calls index) word) →
    new ≡ record log { results = flight_results values log log.came (index + 1 - log.came) log.results }
filled_next values log now new index word place low is at word_is next =
    next
    ∙ ap (λ (w : ℕ). with_result now index (result_for (slice_get now.calls index) w)) (word_is ∙ ap (λ (p : ℕ). unwrap_or (slot_at values p) 0) at)
    ∙ ap (λ (l : LogState). with_result l index (result_by values l index)) is
    ∙ ap (λ (k : ℕ). record log { results = set (flight_results values log log.came (index - log.came) log.results) k (result_by values log k) }) (sym here)
    ∙ ap (λ (k : ℕ). record log { results = flight_results values log log.came k log.results }) more
  where
    here : log.came + (index - log.came) ≡ index
    here = omega (arith, low)

    more : suc (index - log.came) ≡ index + 1 - log.came
    more = omega (arith, low)
