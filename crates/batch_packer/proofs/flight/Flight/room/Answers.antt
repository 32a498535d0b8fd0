use Rattle.std.proofs.Common.{◌∙◌, ◌++◌, ◌∷◌, [], ap, arith}
use Rattle.std.specs.Prelude.{is_some}
use Rattle.flight_forms.specs.Forms.{form_of}
use Rattle.batch_packer.proofs.FlightLemmas.{few_held}
use Rattle.batch_packer.specs.FlightStates.{FlightState, has_room}
use Rattle.batch_packer.proofs.flight.Flight.room.Goals as goal

pub returns : goal.returns
returns c =
    let inv = c.self.invariant in
    let xs = c.self.inside.accesses.items in
    let few = few_held c.self.inside.limits xs inv.in_range inv.held in
    c.room.ensures xs (omega arith) inv.size_is
    ∙ (λ i. is_some (form_of (inv.packet_size i) (inv.packet_count i) (xs ++ c.args.next ∷ [])))
    ∙ ap (λ (s : FlightState). has_room s.limits s.accesses c.args.next) c.self.view_is
