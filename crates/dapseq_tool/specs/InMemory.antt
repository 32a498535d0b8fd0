-- A whole call in memory.
use Rattle.std.specs.Prelude.{◌≡◌, ℕ, List, [], Some}
use Rattle.dapseq_tool.specs.Headline.{BenchCall}
use Rattle.dapseq_tool.specs.declared.memory.InMemory.{InMemory}

-- A call with these words over these bytes, into an empty sink, that left this.
pub record IsCallInMemory (words : List (List ℕ)) (bytes : List ℕ) (end : InMemory) (call : BenchCall) : Type 0 where
  pub words_are : call.words ≡ words
  pub bytes_are : call.old.left ≡ Some bytes
  pub empty : call.old.written ≡ Some []
  pub written : call.new.written ≡ Some end.sink.written
  pub bench : call.new.state ≡ Some end.bench.state
  pub status : call.end ≡ end.status
