use Rattle.std.proofs.Common.{◌≡◌, ◌∙◌, ◌<◌, ◌^◌, ◌++◌, ◌∷◌, [], List, true, ap, sym, subst, arith}
use Rattle.std.specs.Prelude.{is_some}
use Rattle.std.specs.List.{AllByRecursion}
use Rattle.target_machine.specs.declared.access.RegAccess.{RegAccess}
use Rattle.target_machine.specs.InRange.{IsWord}
use Rattle.flight_forms.specs.Forms.{form_of}
use Rattle.flight_forms.specs.Packing.{IsTaken}
use Rattle.flight_forms.specs.Sizes.{IsSizeOf}
use Rattle.batch_packer.proofs.FlightLemmas.{all_pushed, few_held, room_held}
use Rattle.batch_packer.specs.AccessLists.{Accesses}
use Rattle.batch_packer.specs.FlightStates.{FlightState, has_room}
use Rattle.batch_packer.proofs.flight.Flight.push.Goals as goal

pub push-requires : goal.push-requires
push-requires c =
    let inv = c.self.invariant in
    let xs = c.self.inside.accesses.items in
    let held : is_some (form_of c.self.inside.limits.packet_size c.self.inside.limits.packet_count (xs ++ c.args.next ∷ [])) ≡ true =
    ap (λ (s : FlightState). has_room s.limits s.accesses c.args.next) c.self.view_is ∙ c.requires.room in
    room_held c.self.inside.limits xs c.args.next c.self.inside.accesses.room inv.in_range held inv.room

pub invariant_of-self : goal.invariant_of-self
invariant_of-self c =
    let inv = c.self.invariant in
    let xs : List RegAccess = c.self.inside.accesses.items in
    let next : RegAccess = c.args.next in
    let held : is_some (form_of c.self.inside.limits.packet_size c.self.inside.limits.packet_count (xs ++ next ∷ [])) ≡ true =
    ap (λ (s : FlightState). has_room s.limits s.accesses next) c.self.view_is ∙ c.requires.room in
    let few = few_held c.self.inside.limits xs inv.in_range inv.held in
    let items : c.push.new.self.items ≡ xs ++ next ∷ [] = ap (λ (a : Accesses). a.items) c.push.ensures in
    let room = ap (λ (a : Accesses). a.room) c.push.ensures in
    let word : next.value < 2 ^ 32 = omega arith in
    record {
      in_range = inv.in_range;
      packet_size = c.with-self-inside.ensures.same_size ∙ inv.packet_size;
      packet_count = c.with-self-inside.ensures.same_count ∙ inv.packet_count;
      size_is = subst (λ (ys : List RegAccess). IsSizeOf ys c.with-self-inside.result) (sym items) (c.with-self-inside.ensures.grows xs (omega arith) inv.size_is);
      held = λ h. ap (λ ys. is_some (form_of c.self.inside.limits.packet_size c.self.inside.limits.packet_count ys)) items ∙ held;
      taken = subst (λ (ys : List RegAccess). AllByRecursion IsTaken ys) (sym items) (all_pushed IsTaken xs next inv.taken c.requires.taken);
      words = subst (λ (ys : List RegAccess). AllByRecursion (λ a. IsWord a.value) ys) (sym items) (all_pushed (λ a. IsWord a.value) xs next inv.words word);
      room = (let r = inv.room in omega arith);
      packets_room = inv.packets_room;
      replies_room = inv.replies_room;
    }
