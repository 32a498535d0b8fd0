-- The variables that each debug access sequence has without a declaration.
use Rattle.std.specs.Prelude.{ℕ, List, [], ◌∷◌, codes}

-- the names of the predefined variables, in their order
abbrev pub names_of_predefined : List (List ℕ)
names_of_predefined =
    codes "__protocol" ∷ codes "__connection" ∷ codes "__dp" ∷ codes "__ap" ∷ codes "__traceout" ∷ codes "__errorcontrol" ∷ codes "__Result" ∷ []
