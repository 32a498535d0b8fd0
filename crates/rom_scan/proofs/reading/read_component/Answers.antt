use Rattle.std.proofs.Common.{◌≡◌, ◌∙◌, true, sym, ap, subst}
use Rattle.std.proofs.lemmas.Result.{err_from_is_err_and}
use Rattle.access_calls.specs.Reported.{world_from}
use Rattle.sequels.specs.Meeting.{Gave}
use Rattle.sequels.proofs.MeetingLemmas.{whole_after}
use Rattle.rom_scan.specs.Components.{component_at, identified_component, is_component}
use Rattle.rom_scan.specs.declared.component.Component.{Component}
use Rattle.rom_scan.proofs.ReadLemmas.{cidr_stops, first_gave, first_stops, fourth_reach, fourth_stops, known_reach, known_same, unknown_gave}
use Rattle.rom_scan.proofs.reading.read_component.Goals as goal

pub returns-in_err-cidr-clause-gives : goal.returns-in_err-cidr-clause-gives
returns-in_err-cidr-clause-gives g c =
    let passed = err_from_is_err_and c.from_residual.result c.from_residual.ensures.1 in
    rw (passed.1, passed.2) (λ m answered written b l whole.
    cidr_stops (world_from m answered) c.args.ap c.args.address c.args.depth (g.A.Access.reported c.args.access.now).asks.calls written (g.A.Access.reported c.read_words.new.access).lines
    (g.A.Access.reported c.read_words.new.access).asks.calls c.in_err-cidr.field-0.0 (c.in_err-cidr.ensures.gives m answered written b l whole))

pub returns-then-not-is_known-clause-gives : goal.returns-then-not-is_known-clause-gives
returns-then-not-is_known-clause-gives g c = λ m answered written b l whole.
    unknown_gave (world_from m answered) c.args.ap c.args.address c.args.depth (g.A.Access.reported c.args.access.now).asks.calls written (g.A.Access.reported c.read_words.new.access).asks.calls c.in_ok-cidr.cidr.items
    (c.in_ok-cidr.ensures.gives m answered written b l whole) (ap is_component (sym c.as_slice.ensures.value) ∙ sym c.is_known.ensures ∙ c.if-not-is_known.true)

pub returns-in_err-fourth-clause-gives : goal.returns-in_err-fourth-clause-gives
returns-in_err-fourth-clause-gives g c =
    let passed = err_from_is_err_and c.from_residual-in_err-fourth.result c.from_residual-in_err-fourth.ensures.1 in
    rw (passed.1, passed.2) (λ m answered written b l whole.
    let w = world_from m answered in
    let old = (g.A.Access.reported c.args.access.now).asks.calls in
    let mid = (g.A.Access.reported c.read_words.new.access).asks.calls in
    let new = (g.A.Access.reported c.read_words-2.new.access).asks.calls in
    let e = c.in_err-fourth.ensures in
    let known : is_component c.in_ok-cidr.cidr.items ≡ true = ap is_component (sym c.as_slice.ensures.value) ∙ sym c.is_known.ensures ∙ c.if-not-is_known.false in
    let r = known_reach w c.args.ap c.args.address c.args.depth old written mid c.in_ok-cidr.cidr.items (c.in_ok-cidr.ensures.gives m answered written b (e.ends.keeps.goes.left answered l) whole) known in
    fourth_stops w c.args.ap c.args.address c.args.depth old written whole mid c.in_ok-cidr.cidr.items (g.A.Access.reported c.read_words-2.new.access).lines new c.in_err-fourth.field-0.0 r
    (e.gives m answered written (c.in_ok-cidr.ensures.ends.keeps.on m b) l (whole_after w (component_at c.args.ap c.args.address c.args.depth) (identified_component c.args.ap c.args.address c.args.depth c.in_ok-cidr.cidr.items) old mid written written whole r)))

pub returns-in_err-first-clause-gives : goal.returns-in_err-first-clause-gives
returns-in_err-first-clause-gives g c =
    let passed = err_from_is_err_and c.from_residual-in_err-first.result c.from_residual-in_err-first.ensures.1 in
    rw (passed.1, passed.2) (λ m answered written b l whole.
    let w = world_from m answered in
    let old = (g.A.Access.reported c.args.access.now).asks.calls in
    let mid = (g.A.Access.reported c.read_words.new.access).asks.calls in
    let mid2 = (g.A.Access.reported c.read_words-2.new.access).asks.calls in
    let new = (g.A.Access.reported c.read_words-3.new.access).asks.calls in
    let e = c.in_err-first.ensures in
    let d = c.in_ok-fourth.ensures in
    let l2 = e.ends.keeps.goes.left answered l in
    let known : is_component c.in_ok-cidr.cidr.items ≡ true = ap is_component (sym c.as_slice.ensures.value) ∙ sym c.is_known.ensures ∙ c.if-not-is_known.false in
    let r = known_reach w c.args.ap c.args.address c.args.depth old written mid c.in_ok-cidr.cidr.items (c.in_ok-cidr.ensures.gives m answered written b (d.ends.keeps.goes.left answered l2) whole) known in
    let whole2 = whole_after w (component_at c.args.ap c.args.address c.args.depth) (identified_component c.args.ap c.args.address c.args.depth c.in_ok-cidr.cidr.items) old mid written written whole r in
    let q = fourth_reach w c.args.ap c.args.address c.args.depth old written whole mid c.in_ok-cidr.cidr.items mid2 c.in_ok-fourth.fourth.items r (d.gives m answered written (c.in_ok-cidr.ensures.ends.keeps.on m b) l2 whole2) in
    first_stops w c.args.ap c.args.address c.args.depth old written whole mid2 c.in_ok-cidr.cidr.items (g.A.Access.reported c.read_words-3.new.access).lines new c.in_ok-fourth.fourth.items c.in_err-first.field-0.0 q
    (e.gives m answered written (d.ends.keeps.on m (c.in_ok-cidr.ensures.ends.keeps.on m b)) l (whole_after w (component_at c.args.ap c.args.address c.args.depth) _ old mid2 written written whole q)))

pub returns-clause-gives : goal.returns-clause-gives
returns-clause-gives g c = λ m answered written b l whole.
    let w = world_from m answered in
    let old = (g.A.Access.reported c.args.access.now).asks.calls in
    let mid = (g.A.Access.reported c.read_words.new.access).asks.calls in
    let mid2 = (g.A.Access.reported c.read_words-2.new.access).asks.calls in
    let new = (g.A.Access.reported c.read_words-3.new.access).asks.calls in
    let e = c.in_ok-first.ensures in
    let d = c.in_ok-fourth.ensures in
    let l2 = e.ends.keeps.goes.left answered l in
    let known : is_component c.in_ok-cidr.cidr.items ≡ true = ap is_component (sym c.as_slice.ensures.value) ∙ sym c.is_known.ensures ∙ c.if-not-is_known.false in
    let r = known_reach w c.args.ap c.args.address c.args.depth old written mid c.in_ok-cidr.cidr.items (c.in_ok-cidr.ensures.gives m answered written b (d.ends.keeps.goes.left answered l2) whole) known in
    let whole2 = whole_after w (component_at c.args.ap c.args.address c.args.depth) (identified_component c.args.ap c.args.address c.args.depth c.in_ok-cidr.cidr.items) old mid written written whole r in
    let q = fourth_reach w c.args.ap c.args.address c.args.depth old written whole mid c.in_ok-cidr.cidr.items mid2 c.in_ok-fourth.fourth.items r (d.gives m answered written (c.in_ok-cidr.ensures.ends.keeps.on m b) l2 whole2) in
    subst (λ (x : Component). Gave w (component_at c.args.ap c.args.address c.args.depth) old new written written x)
    (sym (c.known_as.ensures ∙ known_same c.args.address c.args.depth _ _ _ _ _ _ c.as_slice-2.ensures.value c.as_slice-3.ensures.value c.as_slice-4.ensures.value))
    (first_gave w c.args.ap c.args.address c.args.depth old written whole mid2 c.in_ok-cidr.cidr.items new c.in_ok-fourth.fourth.items c.in_ok-first.first.items q
    (e.gives m answered written (d.ends.keeps.on m (c.in_ok-cidr.ensures.ends.keeps.on m b)) l (whole_after w (component_at c.args.ap c.args.address c.args.depth) _ old mid2 written written whole q)))
