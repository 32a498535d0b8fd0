-- Calls that are listed, one after the other.
use Rattle.std.proofs.Common.{◌≡◌, ◌∙◌, ℕ, List, [], ◌∷◌, ◌++◌, map, take, get_or, length, ◌<◌, ◌≤◌, ◌+◌, sym, ap}
use Rattle.std.proofs.lemmas.List.{map-append, take_more, take_all}
use Rattle.target_calls.specs.declared.calls.Ask.{Ask}
use Rattle.direct_calls.specs.declared.list.Noted.{Noted}
use Rattle.direct_calls.specs.CallLists.{ask_of}

-- one call more
pub asked_more : (xs : List Noted) (i : ℕ) (d x : Noted) (got got2 : List Ask) → i < length xs → x ≡ get_or xs i d → got ≡ map ask_of (take i xs) → got2 ≡ got ++ ask_of x ∷ [] → got2 ≡ map ask_of (take (i + 1) xs)
asked_more xs i d x got got2 h is was add =
    add ∙ ap (λ g. g ++ ask_of x ∷ []) was ∙ ap (λ y. map ask_of (take i xs) ++ ask_of y ∷ []) is
    ∙ sym (ap (map ask_of) (take_more xs i d h) ∙ map-append ask_of (take i xs) (get_or xs i d ∷ []))

-- all calls
pub asked_all : (xs : List Noted) (i : ℕ) (got : List Ask) → length xs ≤ i → got ≡ map ask_of (take i xs) → got ≡ map ask_of xs
asked_all xs i got past was = was ∙ ap (map ask_of) (take_all i xs past)
