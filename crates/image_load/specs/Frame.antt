-- The frame of the parts of a load: what is so in the worlds that are left, what they ask, and how they end.
use Rattle.std.specs.Prelude.{◌≡◌, ℕ, ◌≤◌, List, ◌++◌, length, Result, Ok, Err, IfErr}
use Rattle.std.specs.List.{All}
use Rattle.probe_core.specs.Bench.{BenchState}
use Rattle.target_calls.specs.declared.calls.Ask.{Ask}
use Rattle.access_calls.specs.Answers.{StopsCalls}
use Rattle.access_calls.specs.Asking.{EndsAsking, MayAsk}
use Rattle.access_calls.specs.CallEnds.{InEachWorld}
use Rattle.access_calls.specs.Keeps.{KeepsAccess}
use Rattle.access_calls.specs.Reported.{AccessView}
use Rattle.access_calls.specs.declared.stop.Stop.{Stop}
use Rattle.image_load.specs.Loading.{AskedPart, LoadEndIs}
use Rattle.image_load.specs.Pieces.{IsPiece}
use Rattle.image_load.specs.declared.ends.LoadEnd.{LoadEnd}
use Rattle.image_load.specs.declared.piece.WordOrByte.{WordOrByte}

-- These calls were asked after the old ones; at an error the first of them.
abbrev pub AsksCalls : {T : Type 0} → List Ask → Result T Stop → List Ask → List Ask → Type 0
AsksCalls calls (Ok x) old new = new ≡ old ++ calls
AsksCalls calls (Err e) old new = AskedPart calls old new

-- How a part ends that asks calls: at a cut these stop right after those that have their lines; and it ends as such a function does.
pub record EndsPart {S T : Type 0} (begun : S → BenchState → Type 0) (reported : S → AccessView) (identity : S → ℕ) (result : Result T Stop)
    (old new : S) : Type 0 where
  pub stops : InEachWorld begun reported old new (λ w. IfErr result (StopsCalls w (reported new).asks.calls (reported new).lines))
  pub ends : EndsAsking begun reported identity result old new

-- How a load ends: the access has the end that is answered, and else it goes on; and what each call of an access keeps is kept.
pub record EndsLoad {S T : Type 0} (begun : S → BenchState → Type 0) (reported : S → AccessView) (identity : S → ℕ) (result : Result T LoadEnd)
    (old new : S) : Type 0 where
  pub end : LoadEndIs result (reported new).end
  pub keeps : KeepsAccess begun reported identity old new

-- The pieces may be loaded: each is in order, they are at most 262,144, and the first call may be asked.
pub record MayLoadPieces (pieces : List WordOrByte) (a : AccessView) : Type 0 where
  pub pieces_are : All IsPiece pieces
  pub many : length pieces ≤ 262144
  pub may : MayAsk 1000000 a
