use Rattle.flight_laws.proofs.RoomLemmas.{push_room, action_room, forgiven_room, call_room}
use Rattle.flight_laws.proofs.laws.there_is_room.Goals as goal

pub returns-clause-push : goal.returns-clause-push
returns-clause-push c = push_room

pub returns-clause-action : goal.returns-clause-action
returns-clause-action c = action_room

pub returns-clause-forgiven : goal.returns-clause-forgiven
returns-clause-forgiven c = forgiven_room

pub returns-clause-call : goal.returns-clause-call
returns-clause-call c = call_room
