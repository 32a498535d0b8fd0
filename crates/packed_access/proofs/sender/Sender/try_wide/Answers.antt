use Rattle.std.proofs.Common.{rules, ◌≡◌, ◌∙◌, ℕ, ◌<◌, ◌∷◌, [], true, false, None, Some, refl, sym, ap, subst, arith}
use Rattle.dap_base.specs.Bits.{has_bit}
use Rattle.target_machine.specs.Plain.{after_cfg, ap_access_of, select_of}
use Rattle.target_machine.specs.Registers.{cfg_la}
use Rattle.target_machine.specs.declared.access.RegAccess.{RegAccess}
use Rattle.target_machine.specs.declared.unit.Unit.TheVariants as unit
use Rattle.access_regs.specs.Kept.{Kept, kept_with_select}
use Rattle.access_regs.specs.Plan.{learned_cfg, select_value}
use Rattle.packed_access.specs.Forgiving.{AreNextAccesses, WentTo}
use Rattle.packed_access.proofs.TryMemoryLemmas.{broken_calls}
use Rattle.packed_access.proofs.TryWideLemmas.{cfg_large, cfg_next, cfg_skipped, cfg_small, cfg_tried, done_same, wide_done}
use Rattle.packed_access.proofs.WentLemmas.{went_most, went_then}
use Rattle.packed_access.proofs.sender.Sender.try_wide.Goals as goal

pub returns-in-Ok-None-clause-on : goal.returns-in-Ok-None-clause-on
returns-in-Ok-None-clause-on g c = λ m0 t rest table h.
    let old = c.args.self.now in
    let port = c.try_port.new.self in
    let lt : c.args.ap < 256 = c.ranges.ap.fits in
    let access : c.access_ap.result ≡ ap_access_of true 4 0 = c.access_ap.ensures in
    let n = cfg_next g.F.Flights.planner c.args.forgive _ old.log old.managed t rest m0 c.args.size c.args.read c.args.ap c.args.address c.args.value h lt c.requires.wide in
    let n' = subst (λ (a : RegAccess). AreNextAccesses (unit.Memory c.args.size c.args.read c.args.ap c.args.address c.args.value) t [] (select_of c.args.ap 15 ∷ []) a false rest (after_cfg t c.args.size c.args.read c.args.ap c.args.address c.args.value)) (sym access) n in
    let went = subst (λ (a : RegAccess). WentTo g.F.Flights.planner c.args.forgive c.in-Ok-None.field-0 (g.F.Flights.state port.flights) port.log (unit.Memory c.args.size c.args.read c.args.ap c.args.address c.args.value) old.managed t [] (select_of c.args.ap 15 ∷ []) a (after_cfg t c.args.size c.args.read c.args.ap c.args.address c.args.value) m0) access (c.in-Ok-None.ensures.gives.on m0 (unit.Memory c.args.size c.args.read c.args.ap c.args.address c.args.value) old.managed t [] rest (after_cfg t c.args.size c.args.read c.args.ap c.args.address c.args.value) h n') in
    done_same g.F.Flights.planner c.args.forgive port.managed _ port.log (unit.Memory c.args.size c.args.read c.args.ap c.args.address c.args.value) old.managed t m0 _ false _ None _ 1 c.attempt_of.ensures.small c.attempt_of.ensures.word c.attempt_of.ensures.reads
    (cfg_skipped g.F.Flights.planner c.args.forgive _ old.log old.managed t rest m0 c.args.size c.args.read c.args.ap c.args.address c.args.value h lt c.requires.wide _ port.log port.managed c.in-Ok-None.field-0 c.try_port.ensures.managed c.in-Ok-None.field-0-is went)

pub returns-in-Err-clause-broke : goal.returns-in-Err-clause-broke
returns-in-Err-clause-broke g c = λ m0 t rest table h.
    let old = c.args.self.now in
    let port = c.try_port.new.self in
    let lt : c.args.ap < 256 = c.ranges.ap.fits in
    let access : c.access_ap.result ≡ ap_access_of true 4 0 = c.access_ap.ensures in
    let n = cfg_next g.F.Flights.planner c.args.forgive _ old.log old.managed t rest m0 c.args.size c.args.read c.args.ap c.args.address c.args.value h lt c.requires.wide in
    let n' = subst (λ (a : RegAccess). AreNextAccesses (unit.Memory c.args.size c.args.read c.args.ap c.args.address c.args.value) t [] (select_of c.args.ap 15 ∷ []) a false rest (after_cfg t c.args.size c.args.read c.args.ap c.args.address c.args.value)) (sym access) n in
    c.in-Err.ensures.gives.broke m0 (unit.Memory c.args.size c.args.read c.args.ap c.args.address c.args.value) old.managed t [] rest (after_cfg t c.args.size c.args.read c.args.ap c.args.address c.args.value) h n'

pub returns-then-not-learn_cfg-clause-on : goal.returns-then-not-learn_cfg-clause-on
returns-then-not-learn_cfg-clause-on g c = λ m0 t rest table h.
    let old = c.args.self.now in
    let port = c.try_port.new.self in
    let lt : c.args.ap < 256 = c.ranges.ap.fits in
    let access : c.access_ap.result ≡ ap_access_of true 4 0 = c.access_ap.ensures in
    let n = cfg_next g.F.Flights.planner c.args.forgive _ old.log old.managed t rest m0 c.args.size c.args.read c.args.ap c.args.address c.args.value h lt c.requires.wide in
    let n' = subst (λ (a : RegAccess). AreNextAccesses (unit.Memory c.args.size c.args.read c.args.ap c.args.address c.args.value) t [] (select_of c.args.ap 15 ∷ []) a false rest (after_cfg t c.args.size c.args.read c.args.ap c.args.address c.args.value)) (sym access) n in
    let went = subst (λ (a : RegAccess). WentTo g.F.Flights.planner c.args.forgive c.in-Ok-Some.field-0 (g.F.Flights.state port.flights) port.log (unit.Memory c.args.size c.args.read c.args.ap c.args.address c.args.value) old.managed t [] (select_of c.args.ap 15 ∷ []) a (after_cfg t c.args.size c.args.read c.args.ap c.args.address c.args.value) m0) access (c.in-Ok-Some.ensures.gives.on m0 (unit.Memory c.args.size c.args.read c.args.ap c.args.address c.args.value) old.managed t [] rest (after_cfg t c.args.size c.args.read c.args.ap c.args.address c.args.value) h n') in
    let came : c.in-Ok-Some.field-0 ≡ Some c.in-Ok-Some.cfg = c.in-Ok-Some.field-0-is ∙ ap (λ (v : ℕ). Some v) (sym c.in-Ok-Some.cfg-is) in
    let learned : c.learn_cfg.new.self ≡ learned_cfg (kept_with_select old.managed (select_value c.args.ap 15)) c.args.ap c.in-Ok-Some.cfg = c.learn_cfg.ensures.kept ∙ ap (λ (q : Kept). learned_cfg q c.args.ap c.in-Ok-Some.cfg) c.try_port.ensures.managed in
    cfg_small g.F.Flights.planner c.args.forgive _ old.log old.managed t rest m0 c.args.size c.args.read c.args.ap c.args.address c.args.value h lt c.requires.wide _ port.log c.in-Ok-Some.field-0 c.in-Ok-Some.cfg came went table c.learn_cfg.new.self learned (sym c.learn_cfg.ensures.large ∙ (search rules))

pub returns-in-Ok-clause-on : goal.returns-in-Ok-clause-on
returns-in-Ok-clause-on g c = λ m0 t rest table h.
    let old = c.args.self.now in
    let port = c.try_port.new.self in
    let lt : c.args.ap < 256 = c.ranges.ap.fits in
    let access : c.access_ap.result ≡ ap_access_of true 4 0 = c.access_ap.ensures in
    let n = cfg_next g.F.Flights.planner c.args.forgive _ old.log old.managed t rest m0 c.args.size c.args.read c.args.ap c.args.address c.args.value h lt c.requires.wide in
    let n' = subst (λ (a : RegAccess). AreNextAccesses (unit.Memory c.args.size c.args.read c.args.ap c.args.address c.args.value) t [] (select_of c.args.ap 15 ∷ []) a false rest (after_cfg t c.args.size c.args.read c.args.ap c.args.address c.args.value)) (sym access) n in
    let went = subst (λ (a : RegAccess). WentTo g.F.Flights.planner c.args.forgive c.in-Ok-Some.field-0 (g.F.Flights.state port.flights) port.log (unit.Memory c.args.size c.args.read c.args.ap c.args.address c.args.value) old.managed t [] (select_of c.args.ap 15 ∷ []) a (after_cfg t c.args.size c.args.read c.args.ap c.args.address c.args.value) m0) access (c.in-Ok-Some.ensures.gives.on m0 (unit.Memory c.args.size c.args.read c.args.ap c.args.address c.args.value) old.managed t [] rest (after_cfg t c.args.size c.args.read c.args.ap c.args.address c.args.value) h n') in
    let came : c.in-Ok-Some.field-0 ≡ Some c.in-Ok-Some.cfg = c.in-Ok-Some.field-0-is ∙ ap (λ (v : ℕ). Some v) (sym c.in-Ok-Some.cfg-is) in
    let learned : c.learn_cfg.new.self ≡ learned_cfg (kept_with_select old.managed (select_value c.args.ap 15)) c.args.ap c.in-Ok-Some.cfg = c.learn_cfg.ensures.kept ∙ ap (λ (q : Kept). learned_cfg q c.args.ap c.in-Ok-Some.cfg) c.try_port.ensures.managed in
    let has : has_bit c.in-Ok-Some.cfg cfg_la ≡ true = sym c.learn_cfg.ensures.large ∙ (search rules) in
    let tried = cfg_tried g.F.Flights.planner c.args.forgive _ old.log old.managed t rest m0 c.args.size c.args.read c.args.ap c.args.address c.args.value h lt c.requires.wide _ port.log c.in-Ok-Some.field-0 c.in-Ok-Some.cfg came went table in
    let shape = cfg_large g.F.Flights.planner c.args.forgive _ old.log old.managed t rest m0 c.args.size c.args.read c.args.ap c.args.address c.args.value h lt c.requires.wide _ port.log c.in-Ok-Some.field-0 c.in-Ok-Some.cfg came went table has in
    done_same g.F.Flights.planner c.args.forgive c.try_memory.new.self.managed _ c.try_memory.new.self.log (unit.Memory c.args.size c.args.read c.args.ap c.args.address c.args.value) old.managed t m0 _ false _ c.in-Ok.word _ 2 c.attempt_of-in-Ok.ensures.small c.attempt_of-in-Ok.ensures.word c.attempt_of-in-Ok.ensures.reads
    (wide_done g.F.Flights.planner c.args.forgive _ old.log old.managed t rest m0 c.args.size c.args.read c.args.ap c.args.address c.args.value h lt c.requires.wide _ port.log c.in-Ok-Some.field-0 c.in-Ok-Some.cfg came went table c.in-Ok.word _ c.try_memory.new.self.log c.try_memory.new.self.managed (c.try_memory.ensures.managed ∙ ap (λ (q : Kept). kept_with_select q (select_value c.args.ap 0)) learned) has
    (c.in-Ok.ensures.on m0 old.managed t (select_of c.args.ap 15 ∷ ap_access_of true 4 0 ∷ []) (after_cfg t c.args.size c.args.read c.args.ap c.args.address c.args.value) tried refl shape))

pub returns-in-Err-try_memory-clause-broke : goal.returns-in-Err-try_memory-clause-broke
returns-in-Err-try_memory-clause-broke g c = λ m0 t rest table h.
    let old = c.args.self.now in
    let port = c.try_port.new.self in
    let lt : c.args.ap < 256 = c.ranges.ap.fits in
    let access : c.access_ap.result ≡ ap_access_of true 4 0 = c.access_ap.ensures in
    let n = cfg_next g.F.Flights.planner c.args.forgive _ old.log old.managed t rest m0 c.args.size c.args.read c.args.ap c.args.address c.args.value h lt c.requires.wide in
    let n' = subst (λ (a : RegAccess). AreNextAccesses (unit.Memory c.args.size c.args.read c.args.ap c.args.address c.args.value) t [] (select_of c.args.ap 15 ∷ []) a false rest (after_cfg t c.args.size c.args.read c.args.ap c.args.address c.args.value)) (sym access) n in
    let went = subst (λ (a : RegAccess). WentTo g.F.Flights.planner c.args.forgive c.in-Ok-Some.field-0 (g.F.Flights.state port.flights) port.log (unit.Memory c.args.size c.args.read c.args.ap c.args.address c.args.value) old.managed t [] (select_of c.args.ap 15 ∷ []) a (after_cfg t c.args.size c.args.read c.args.ap c.args.address c.args.value) m0) access (c.in-Ok-Some.ensures.gives.on m0 (unit.Memory c.args.size c.args.read c.args.ap c.args.address c.args.value) old.managed t [] rest (after_cfg t c.args.size c.args.read c.args.ap c.args.address c.args.value) h n') in
    let came : c.in-Ok-Some.field-0 ≡ Some c.in-Ok-Some.cfg = c.in-Ok-Some.field-0-is ∙ ap (λ (v : ℕ). Some v) (sym c.in-Ok-Some.cfg-is) in
    let has : has_bit c.in-Ok-Some.cfg cfg_la ≡ true = sym c.learn_cfg.ensures.large ∙ (search rules) in
    let tried = cfg_tried g.F.Flights.planner c.args.forgive _ old.log old.managed t rest m0 c.args.size c.args.read c.args.ap c.args.address c.args.value h lt c.requires.wide _ port.log c.in-Ok-Some.field-0 c.in-Ok-Some.cfg came went table in
    let shape = cfg_large g.F.Flights.planner c.args.forgive _ old.log old.managed t rest m0 c.args.size c.args.read c.args.ap c.args.address c.args.value h lt c.requires.wide _ port.log c.in-Ok-Some.field-0 c.in-Ok-Some.cfg came went table has in
    broken_calls g.F.Flights.planner c.in-Err-try_memory.stop _ c.try_memory.new.self.log _ _ m0 c.in-Ok-Some.ensures.tries.further.calls
    (c.in-Err-try_memory.ensures.broke m0 old.managed t (select_of c.args.ap 15 ∷ ap_access_of true 4 0 ∷ []) (after_cfg t c.args.size c.args.read c.args.ap c.args.address c.args.value) tried refl shape)

pub returns-in-Ok-None-clause-packets : goal.returns-in-Ok-None-clause-packets
returns-in-Ok-None-clause-packets g c = λ managed. went_most _ _ c.in-Ok-None.field-0 4 (omega arith) (c.in-Ok-None.ensures.packets managed)

pub returns-then-not-learn_cfg-clause-packets : goal.returns-then-not-learn_cfg-clause-packets
returns-then-not-learn_cfg-clause-packets g c = λ managed. went_most _ _ c.in-Ok-Some.field-0 4 (omega arith) (c.in-Ok-Some.ensures.packets managed)

pub returns-in-Ok-clause-packets : goal.returns-in-Ok-clause-packets
returns-in-Ok-clause-packets g c = λ managed. went_then _ _ _ c.in-Ok-Some.field-0 c.in-Ok-Some.cfg 3 (c.in-Ok-Some.field-0-is ∙ ap (λ (v : ℕ). Some v) (sym c.in-Ok-Some.cfg-is)) (c.in-Ok-Some.ensures.packets managed) (c.in-Ok.ensures.packets managed)
