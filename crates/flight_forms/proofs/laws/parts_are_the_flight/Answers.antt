use Rattle.flight_forms.proofs.PartLists.{all_parts, parts_have, parts_some, parts_taken}
use Rattle.flight_forms.proofs.laws.parts_are_the_flight.Goals as goal

pub returns : goal.returns
returns c = record { whole = all_parts; some = parts_some; taken = parts_taken; words = λ size accesses h. parts_have _ size accesses h }
