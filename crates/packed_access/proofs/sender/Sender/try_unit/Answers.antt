use Rattle.std.proofs.Common.{rules, ◌≡◌, ◌∙◌, ◌/◌, ◌%◌, ◌<◌, ◌∷◌, [], Bool, true, false, refl, sym, ap, subst, arith}
use Rattle.target_machine.specs.Plain.{ap_access_of, memory_actions, select_of}
use Rattle.target_machine.specs.declared.access.RegAccess.{RegAccess}
use Rattle.target_machine.specs.declared.unit.Unit.{Unit as AccessUnit}
use Rattle.target_machine.specs.declared.unit.Unit.TheVariants as unit
use Rattle.access_regs.specs.Plan.{needs_cfg}
use Rattle.packed_access.specs.Forgiving.{AreNextAccesses, IsDoneBy, LogHasTried, WentTo}
use Rattle.packed_access.proofs.TryWideLemmas.{done_same, narrow_done, narrow_rest, port_done, port_next}
use Rattle.packed_access.proofs.WentLemmas.{flies_most, went_most}
use Rattle.packed_access.proofs.sender.Sender.try_unit.Goals as goal

pub returns-in-Ok-clause-on : goal.returns-in-Ok-clause-on
returns-in-Ok-clause-on g c = λ m0 t rest may table h.
    let old = c.args.self.now in
    let lt : c.in-Memory.ap < 256 = search rules in
    let h' = subst (λ (x : AccessUnit). LogHasTried g.F.Flights.planner c.args.forgive (g.F.Flights.state old.flights) old.log x old.managed t [] rest m0) c.in-Memory.is h in
    let narrow : needs_cfg old.managed (unit.Memory c.in-Memory.size c.in-Memory.read c.in-Memory.ap c.in-Memory.address c.in-Memory.value) ≡ false = subst (λ (x : AccessUnit). needs_cfg old.managed x ≡ false) c.in-Memory.is (sym c.needs_cfg.ensures ∙ (search rules)) in
    let shape = narrow_rest g.F.Flights.planner c.args.forgive _ old.log old.managed t rest m0 c.in-Memory.size c.in-Memory.read c.in-Memory.ap c.in-Memory.address c.in-Memory.value h' lt narrow in
    let shape' = shape ∙ ap (λ (b : Bool). memory_actions t b c.in-Memory.size c.in-Memory.read c.in-Memory.ap c.in-Memory.address c.in-Memory.value) (sym c.is_large-large.ensures) in
    let came = c.in-Ok.ensures.on m0 old.managed t [] rest h' refl shape' in
    subst (λ (x : AccessUnit). IsDoneBy g.F.Flights.planner c.args.forgive c.attempt_of.result.small c.attempt_of.result.word c.attempt_of.result.reads c.try_memory.new.self.managed (g.F.Flights.state c.try_memory.new.self.flights) c.try_memory.new.self.log x old.managed t m0) (sym c.in-Memory.is)
    (done_same g.F.Flights.planner c.args.forgive c.try_memory.new.self.managed _ c.try_memory.new.self.log (unit.Memory c.in-Memory.size c.in-Memory.read c.in-Memory.ap c.in-Memory.address c.in-Memory.value) old.managed t m0 _ false _ c.in-Ok.word _ 1 c.attempt_of.ensures.small c.attempt_of.ensures.word c.attempt_of.ensures.reads
    (narrow_done g.F.Flights.planner c.args.forgive _ old.log old.managed t rest m0 c.in-Memory.size c.in-Memory.read c.in-Memory.ap c.in-Memory.address c.in-Memory.value h' lt narrow c.in-Ok.word _ c.try_memory.new.self.log c.try_memory.new.self.managed c.try_memory.ensures.managed came))

pub returns-in-Err-clause-broke : goal.returns-in-Err-clause-broke
returns-in-Err-clause-broke g c = λ m0 t rest table h.
    let old = c.args.self.now in
    let lt : c.in-Memory.ap < 256 = search rules in
    let h' = subst (λ (x : AccessUnit). LogHasTried g.F.Flights.planner c.args.forgive (g.F.Flights.state old.flights) old.log x old.managed t [] rest m0) c.in-Memory.is h in
    let narrow : needs_cfg old.managed (unit.Memory c.in-Memory.size c.in-Memory.read c.in-Memory.ap c.in-Memory.address c.in-Memory.value) ≡ false = subst (λ (x : AccessUnit). needs_cfg old.managed x ≡ false) c.in-Memory.is (sym c.needs_cfg.ensures ∙ (search rules)) in
    let shape = narrow_rest g.F.Flights.planner c.args.forgive _ old.log old.managed t rest m0 c.in-Memory.size c.in-Memory.read c.in-Memory.ap c.in-Memory.address c.in-Memory.value h' lt narrow in
    let shape' = shape ∙ ap (λ (b : Bool). memory_actions t b c.in-Memory.size c.in-Memory.read c.in-Memory.ap c.in-Memory.address c.in-Memory.value) (sym c.is_large-large.ensures) in
    c.in-Err.ensures.broke m0 old.managed t [] rest h' refl shape'

pub returns-in-Ok-try_port-clause-on : goal.returns-in-Ok-try_port-clause-on
returns-in-Ok-try_port-clause-on g c = λ m0 t rest may table h.
    let old = c.args.self.now in
    let lt : c.in-Ap.ap < 256 = search rules in
    let fits : c.in-Ap.addr < 256 = search rules in
    let h' = subst (λ (x : AccessUnit). LogHasTried g.F.Flights.planner c.args.forgive (g.F.Flights.state old.flights) old.log x old.managed t [] rest m0) c.in-Ap.is h in
    let access : c.access_ap-access.result ≡ ap_access_of c.in-Ap.read (c.in-Ap.addr % 16) c.in-Ap.value = c.access_ap-access.ensures in
    let n = port_next g.F.Flights.planner c.args.forgive _ old.log old.managed t rest m0 c.in-Ap.read c.in-Ap.ap c.in-Ap.addr c.in-Ap.value h' lt fits in
    let n' = subst (λ (x : RegAccess). AreNextAccesses (unit.Ap c.in-Ap.read c.in-Ap.ap c.in-Ap.addr c.in-Ap.value) t [] (select_of c.in-Ap.ap (c.in-Ap.addr / 16) ∷ []) x true rest []) (sym access) n in
    let went = subst (λ (x : RegAccess). WentTo g.F.Flights.planner c.args.forgive c.in-Ok-try_port.word (g.F.Flights.state c.try_port.new.self.flights) c.try_port.new.self.log (unit.Ap c.in-Ap.read c.in-Ap.ap c.in-Ap.addr c.in-Ap.value) old.managed t [] (select_of c.in-Ap.ap (c.in-Ap.addr / 16) ∷ []) x [] m0) access (c.in-Ok-try_port.ensures.gives.on m0 (unit.Ap c.in-Ap.read c.in-Ap.ap c.in-Ap.addr c.in-Ap.value) old.managed t [] rest [] h' n') in
    subst (λ (x : AccessUnit). IsDoneBy g.F.Flights.planner c.args.forgive c.attempt_of-in-Ok-try_port.result.small c.attempt_of-in-Ok-try_port.result.word c.attempt_of-in-Ok-try_port.result.reads c.try_port.new.self.managed (g.F.Flights.state c.try_port.new.self.flights) c.try_port.new.self.log x old.managed t m0) (sym c.in-Ap.is)
    (done_same g.F.Flights.planner c.args.forgive c.try_port.new.self.managed _ c.try_port.new.self.log (unit.Ap c.in-Ap.read c.in-Ap.ap c.in-Ap.addr c.in-Ap.value) old.managed t m0 _ false _ c.in-Ok-try_port.word _ 0 c.attempt_of-in-Ok-try_port.ensures.small c.attempt_of-in-Ok-try_port.ensures.word c.attempt_of-in-Ok-try_port.ensures.reads
    (port_done g.F.Flights.planner c.args.forgive _ old.log old.managed t rest m0 c.in-Ap.read c.in-Ap.ap c.in-Ap.addr c.in-Ap.value h' lt fits c.in-Ok-try_port.word _ c.try_port.new.self.log c.try_port.new.self.managed c.try_port.ensures.managed went))

pub returns-in-Err-try_port-clause-broke : goal.returns-in-Err-try_port-clause-broke
returns-in-Err-try_port-clause-broke g c = λ m0 t rest table h.
    let old = c.args.self.now in
    let lt : c.in-Ap.ap < 256 = search rules in
    let fits : c.in-Ap.addr < 256 = search rules in
    let h' = subst (λ (x : AccessUnit). LogHasTried g.F.Flights.planner c.args.forgive (g.F.Flights.state old.flights) old.log x old.managed t [] rest m0) c.in-Ap.is h in
    let access : c.access_ap-access.result ≡ ap_access_of c.in-Ap.read (c.in-Ap.addr % 16) c.in-Ap.value = c.access_ap-access.ensures in
    let n = port_next g.F.Flights.planner c.args.forgive _ old.log old.managed t rest m0 c.in-Ap.read c.in-Ap.ap c.in-Ap.addr c.in-Ap.value h' lt fits in
    let n' = subst (λ (x : RegAccess). AreNextAccesses (unit.Ap c.in-Ap.read c.in-Ap.ap c.in-Ap.addr c.in-Ap.value) t [] (select_of c.in-Ap.ap (c.in-Ap.addr / 16) ∷ []) x true rest []) (sym access) n in
    c.in-Err-try_port.ensures.gives.broke m0 (unit.Ap c.in-Ap.read c.in-Ap.ap c.in-Ap.addr c.in-Ap.value) old.managed t [] rest [] h' n'

pub returns-in-Ok-clause-packets : goal.returns-in-Ok-clause-packets
returns-in-Ok-clause-packets g c = λ managed. flies_most _ _ 3 4 (omega arith) (c.in-Ok.ensures.packets managed)

pub returns-in-Ok-try_port-clause-packets : goal.returns-in-Ok-try_port-clause-packets
returns-in-Ok-try_port-clause-packets g c = λ managed. went_most _ _ c.in-Ok-try_port.word 4 (omega arith) (c.in-Ok-try_port.ensures.packets managed)
