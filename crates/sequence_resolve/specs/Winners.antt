-- Candidates, put among the winners one after another: what private contracts cite.
use Rattle.std.specs.Prelude.{◌≡◌, ℕ, suc, Bool, nat_le, List, [], ◌∷◌, Option, Some, None, option_map, if◌then◌else◌}
use Rattle.std.specs.Str.{bytes_eq}
use Rattle.std.specs.BTreeMap.{BTreeMap, get_by_text}
use Rattle.std.specs.Prelude.{String}
use Rattle.std.specs.declared.alloc.Global.{Global}
use Rattle.sequence_resolve.specs.Effective.{Candidate}

-- whether the candidate has the name
abbrev pub is_called : List ℕ → Candidate → Bool
is_called name c = bytes_eq name c.sequence.name

-- in the place of the winner of its name unless that stands above it, and else at the end
abbrev pub with_candidate : List Candidate → Candidate → List Candidate
with_candidate [] c = c ∷ []
with_candidate (w ∷ ws) c = if is_called c.sequence.name w then (if nat_le w.rank c.rank then c else w) ∷ ws else w ∷ with_candidate ws c

-- with each of the candidates, in order
abbrev pub with_all : List Candidate → List Candidate → List Candidate
with_all ws [] = ws
with_all ws (c ∷ cs) = with_all (with_candidate ws c) cs

-- the place of the first winner with the name
abbrev pub place_in : List ℕ → List Candidate → Option ℕ
place_in name [] = None
place_in name (w ∷ ws) = if is_called name w then Some 0 else option_map (λ i. suc i) (place_in name ws)

-- the map knows the place of each name
abbrev pub Knows : BTreeMap (String Global) ℕ → List Candidate → Type 0
Knows places ws = (name : List ℕ) → get_by_text places name ≡ place_in name ws
