-- What a call leaves that puts a text.
use Rattle.std.specs.Prelude.{ℕ, List, Option, Result}
use Rattle.dap_base.specs.Streams.{PutAppends}
use Rattle.text_lines.specs.Causes.{NamesFault}

-- A text was put: at `Ok` whole, and at an error a prefix of it, where what the sink holds is known. The sink's count of faults rose where
-- the answer is this error, and else it is the same.
pub record PutsText {E K : Type 0} (piece : List ℕ) (result : Result (Unit {0}) E) (fault : E) (written : K → Option (List ℕ)) (faults : K → ℕ)
    (old new : K) : Type 0 where
  pub text : PutAppends (written old) (written new) result piece
  pub sink : NamesFault fault (faults old) (faults new) result
