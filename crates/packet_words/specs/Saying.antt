-- What a call says.
use Rattle.std.specs.Prelude.{◌≡◌, ℕ, List, ◌++◌}
use Rattle.register_words.specs.declared.known.KnownRegisters.{KnownRegisters}
use Rattle.packet_words.specs.declared.exchange.Said as call
use Rattle.packet_words.specs.Exchange.{Said}

-- The text was added to a line, this is known now, and the packet and the reply are good or not.
pub record AddsSaid (line : List ℕ) (said : Said) (answer : call.Said) (known : KnownRegisters) : Type 0 where
  pub text : answer.line ≡ line ++ said.text
  pub known_is : known ≡ said.known
  pub good : answer.is_good ≡ said.good

-- the same where nothing stood before the text
pub record SaysAll (said : Said) (answer : call.Said) (known : KnownRegisters) : Type 0 where
  pub text : answer.line ≡ said.text
  pub known_is : known ≡ said.known
  pub good : answer.is_good ≡ said.good
