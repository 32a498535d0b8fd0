-- A candidate, put among the winners.
use Rattle.std.proofs.Common.{◌≡◌, ℕ, suc, ◌+◌, ◌<◌, Bool, true, false, cond, nat_le, List, [], ◌∷◌, ◌++◌, map, drop, length, get_or, slice_set, Option, Some, None, option_map, bytes_eq, refl, ap, sym, subst, ◌∙◌, arith, drop-cons, add-one, true≢false}
use Rattle.sequence_resolve.specs.declared.winners.Winner.{Winner}
use Rattle.sequence_resolve.specs.declared.levels.LevelRef.{LevelRef}
use Rattle.sequence_resolve.specs.Effective.{Candidate, candidates_at, candidates}
use Rattle.sequence_resolve.specs.Winners.{is_called, with_candidate, with_all, place_in}
use Rattle.sequence_resolve.specs.Views.{level_view, winner_view}
use Rattle.dap_base.proofs.Basics.{text_itself, same_text}

abbrev pub seen : List Winner → List Candidate
seen ws = map winner_view ws

abbrev pub name_of : Winner → List ℕ
name_of w = w.sequence.now.name

-- ---- where a name stands

first_at : (b : Bool) (rest : Option ℕ) (i : ℕ) → cond b (Some 0) (option_map (λ j. suc j) rest) ≡ Some i → b ≡ true → i ≡ 0
first_at true rest i e is = (let same : 0 ≡ i = cc in sym same)
first_at false rest i e is = absurd (true≢false (sym is))

pub later_at : (rest : Option ℕ) (i : ℕ) → option_map (λ j. suc j) rest ≡ Some i → (j : ℕ) × (rest ≡ Some j) × (i ≡ suc j)
later_at None i e = absurd cc
later_at (Some j) i e = (j, refl, (let same : suc j ≡ i = cc in sym same))

-- the first winner has the name, or it stands among the others
abbrev Holds : List ℕ → Winner → List Winner → ℕ → Bool → Type 0
Holds name w ws i true = (is_called name (winner_view w) ≡ true) × (i ≡ 0)
Holds name w ws i false = (is_called name (winner_view w) ≡ false) × ((j : ℕ) × (place_in name (seen ws) ≡ Some j) × (i ≡ suc j))

holds_at : (name : List ℕ) (w : Winner) (ws : List Winner) (i : ℕ) (b : Bool) → is_called name (winner_view w) ≡ b
    → cond b (Some 0) (option_map (λ j. suc j) (place_in name (seen ws))) ≡ Some i → Holds name w ws i b
holds_at name w ws i true is e = (is, first_at true (place_in name (seen ws)) i e refl)
holds_at name w ws i false is e = (is, later_at (place_in name (seen ws)) i e)

holds : (name : List ℕ) (w : Winner) (ws : List Winner) (i : ℕ) → place_in name (seen (w ∷ ws)) ≡ Some i → Holds name w ws i (is_called name (winner_view w))
holds name w ws i e = holds_at name w ws i (is_called name (winner_view w)) refl e

below_at : (name : List ℕ) (w : Winner) (ws : List Winner) (i : ℕ) (b : Bool) → Holds name w ws i b → ((j : ℕ) → place_in name (seen ws) ≡ Some j → j < length ws) → i < length (w ∷ ws)
below_at name w ws i true h rest = omega (arith, h.1)
below_at name w ws i false h rest = omega (arith, h.1.2, rest h.1.0 h.1.1)

-- a place lies among the winners
pub place_in-below : (name : List ℕ) (ws : List Winner) (i : ℕ) → place_in name (seen ws) ≡ Some i → i < length ws
place_in-below name [] i e = absurd cc
place_in-below name (w ∷ ws) i e = below_at name w ws i (is_called name (winner_view w)) (holds name w ws i e) (place_in-below name ws)

-- ---- in the place of a winner

abbrev pub put_there : List Winner → ℕ → Winner → Winner → List Winner
put_there ws i c d = cond (nat_le (get_or ws i d).rank c.rank) (slice_set ws i c) ws

kept_first : (b : Bool) (c w : Winner) (ws : List Winner) → seen (cond b (c ∷ ws) (w ∷ ws)) ≡ (cond b (winner_view c) (winner_view w)) ∷ seen ws
kept_first true c w ws = refl
kept_first false c w ws = refl

kept_later : (b : Bool) (w : Winner) (xs ys : List Winner) → seen (cond b (w ∷ xs) (w ∷ ys)) ≡ winner_view w ∷ seen (cond b xs ys)
kept_later true w xs ys = refl
kept_later false w xs ys = refl

there_at : (w : Winner) (ws : List Winner) (i : ℕ) (c d : Winner) (b : Bool) → Holds (name_of c) w ws i b
    → ((j : ℕ) → place_in (name_of c) (seen ws) ≡ Some j → seen (put_there ws j c d) ≡ with_candidate (seen ws) (winner_view c))
    → seen (put_there (w ∷ ws) i c d) ≡ with_candidate (seen (w ∷ ws)) (winner_view c)
there_at w ws i c d true h rest = rw (h.1, h.0) (kept_first (nat_le w.rank c.rank) c w ws)
there_at w ws i c d false h rest =
    let j = h.1.0 in
    rw (h.1.2, h.0) (kept_later (nat_le (get_or ws j d).rank c.rank) w (slice_set ws j c) ws ∙ ap (λ xs. winner_view w ∷ xs) (rest j h.1.1))

pub put_there-with_candidate : (ws : List Winner) (i : ℕ) (c d : Winner) → place_in (name_of c) (seen ws) ≡ Some i → seen (put_there ws i c d) ≡ with_candidate (seen ws) (winner_view c)
put_there-with_candidate [] i c d e = absurd cc
put_there-with_candidate (w ∷ ws) i c d e =
    there_at w ws i c d (is_called (name_of c) (winner_view w)) (holds (name_of c) w ws i e) (λ j e'. put_there-with_candidate ws j c d e')

-- ---- after the winners

abbrev Absent : List ℕ → List Winner → Type 0
Absent name ws = place_in name (seen ws) ≡ None

pub not_first : (b : Bool) (rest : Option ℕ) → cond b (Some 0) (option_map (λ j. suc j) rest) ≡ None → (b ≡ false) × (rest ≡ None)
not_first true rest e = absurd cc
not_first false None e = (refl, refl)
not_first false (Some j) e = absurd cc

absent : (name : List ℕ) (w : Winner) (ws : List Winner) → Absent name (w ∷ ws) → (is_called name (winner_view w) ≡ false) × Absent name ws
absent name w ws e = not_first (is_called name (winner_view w)) (place_in name (seen ws)) e

pub last-with_candidate : (ws : List Winner) (c : Winner) → Absent (name_of c) ws → seen (ws ++ c ∷ []) ≡ with_candidate (seen ws) (winner_view c)
last-with_candidate [] c e = refl
last-with_candidate (w ∷ ws) c e = let a = absent (name_of c) w ws e in rw a.0 (ap (λ xs. winner_view w ∷ xs) (last-with_candidate ws c a.1))

-- ---- the places afterwards

-- a candidate in the place of a winner of its name changes no place
moved_at : (w : Winner) (ws : List Winner) (i : ℕ) (c : Winner) (name : List ℕ) (b : Bool) → Holds (name_of c) w ws i b
    → ((j : ℕ) → place_in (name_of c) (seen ws) ≡ Some j → place_in name (seen (slice_set ws j c)) ≡ place_in name (seen ws))
    → place_in name (seen (slice_set (w ∷ ws) i c)) ≡ place_in name (seen (w ∷ ws))
moved_at w ws i c name true h rest =
    let same : name_of c ≡ name_of w = same_text _ _ h.0 in
    rw h.1 (ap (λ n. cond (bytes_eq name n) (Some 0) (option_map (λ j. suc j) (place_in name (seen ws)))) same)
moved_at w ws i c name false h rest =
    rw h.1.2 (ap (λ o. cond (is_called name (winner_view w)) (Some 0) (option_map (λ j. suc j) o)) (rest h.1.0 h.1.1))

place_in-set : (ws : List Winner) (i : ℕ) (c : Winner) (name : List ℕ) → place_in (name_of c) (seen ws) ≡ Some i → place_in name (seen (slice_set ws i c)) ≡ place_in name (seen ws)
place_in-set [] i c name e = absurd cc
place_in-set (w ∷ ws) i c name e = moved_at w ws i c name (is_called (name_of c) (winner_view w)) (holds (name_of c) w ws i e) (λ j e'. place_in-set ws j c name e')

either_way : (b : Bool) (name : List ℕ) (xs ys : List Winner) → place_in name (seen xs) ≡ place_in name (seen ys) → place_in name (seen (cond b xs ys)) ≡ place_in name (seen ys)
either_way true name xs ys e = e
either_way false name xs ys e = refl

pub place_in-put_there : (ws : List Winner) (i : ℕ) (c d : Winner) (name : List ℕ) → place_in (name_of c) (seen ws) ≡ Some i → place_in name (seen (put_there ws i c d)) ≡ place_in name (seen ws)
place_in-put_there ws i c d name e = either_way (nat_le (get_or ws i d).rank c.rank) name (slice_set ws i c) ws (place_in-set ws i c name e)

-- a name after the winners has the last place, and the others keep theirs
apart : (x y z : List ℕ) → bytes_eq x y ≡ true → bytes_eq x z ≡ false → bytes_eq y z ≡ false
apart x y z same h = subst (λ n. bytes_eq n z ≡ false) (same_text x y same) h

abbrev here : Option ℕ
here = Some 0

last_first : (x name : List ℕ) (b : Bool) → bytes_eq x name ≡ b → cond (bytes_eq name x) here None ≡ cond b here None
last_first x name true is = rw (← same_text x name is, text_itself x) refl
last_first x name false is = turned (bytes_eq name x) refl where
  turned : (a : Bool) → bytes_eq name x ≡ a → cond a here None ≡ None
  turned true h = absurd (true≢false (sym (subst (λ n. bytes_eq n name ≡ true) (same_text name x h) (text_itself name)) ∙ is))
  turned false h = refl

last_later : (b h : Bool) (n : ℕ) (rest found : Option ℕ) → (b ≡ true → h ≡ false) → found ≡ cond b (Some n) rest
    → cond h (Some 0) (option_map (λ j. suc j) found) ≡ cond b (Some (suc n)) (cond h (Some 0) (option_map (λ j. suc j) rest))
last_later true h n rest found other e = rw (other refl, e) refl
last_later false h n rest found other e = rw e refl

pub place_in-append : (ws : List Winner) (c : Winner) (name : List ℕ) → Absent (name_of c) ws
    → place_in name (seen (ws ++ c ∷ [])) ≡ cond (bytes_eq (name_of c) name) (Some (length ws)) (place_in name (seen ws))
place_in-append [] c name e = last_first (name_of c) name (bytes_eq (name_of c) name) refl
place_in-append (w ∷ ws) c name e =
    let a = absent (name_of c) w ws e in
    last_later (bytes_eq (name_of c) name) (is_called name (winner_view w)) (length ws) (place_in name (seen ws)) _
    (λ same. apart (name_of c) name (name_of w) same a.0) (place_in-append ws c name a.1)

-- ---- the candidates of levels, one level after another

pub with_all-append : (ws xs ys : List Candidate) → with_all ws (xs ++ ys) ≡ with_all (with_all ws xs) ys
with_all-append ws [] ys = refl
with_all-append ws (c ∷ xs) ys = with_all-append (with_candidate ws c) xs ys

pub next_level : (requested : Option (List ℕ)) (ws : List Candidate) (depth : ℕ) (levels : List LevelRef) (l : LevelRef) → depth < length levels → l ≡ get_or levels depth l
    → with_all ws (candidates requested depth (map level_view (drop depth levels)))
    ≡ with_all (with_all ws (candidates_at requested l.kind depth l.level.now.sequences)) (candidates requested (depth + 1) (map level_view (drop (depth + 1) levels)))
next_level requested ws depth levels l lt is =
    let opened : drop depth levels ≡ l ∷ drop (depth + 1) levels = rw (add-one, drop-cons levels depth l) (ap (λ x. x ∷ drop (suc depth) levels) (sym is)) in
    ap (λ ls. with_all ws (candidates requested depth (map level_view ls))) opened
    ∙ with_all-append ws (candidates_at requested l.kind depth l.level.now.sequences) (candidates requested (depth + 1) (map level_view (drop (depth + 1) levels)))

pub ruleset winning = (with_all-append)
