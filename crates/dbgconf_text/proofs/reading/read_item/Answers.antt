use Rattle.std.proofs.Common.{◌+◌, ◌<◌, length, sym, arith}
use Rattle.dbgconf_text.proofs.Turns as turns
use Rattle.dbgconf_text.proofs.reading.read_item.Goals as goal

pub overflow_add-index : goal.overflow_add-index
overflow_add-index c = omega (arith, c.requires.here, c.requires.fits)

pub overflow_add-index-then-not-is_mark_at : goal.overflow_add-index-then-not-is_mark_at
overflow_add-index-then-not-is_mark_at c = omega (arith, c.requires.here, c.requires.fits)

pub returns-then-not-is_mark_at-clause-refused : goal.returns-then-not-is_mark_at-clause-refused
returns-then-not-is_mark_at-clause-refused c =
    turns.refused_equals c.args.tokens.now c.args.index c.args.found.now c.requires.stands c.in_ok-name.name c.in_ok-name.ensures.name c.in_ok-name.ensures.fresh c.place.result (sym c.if-not-is_mark_at.ensures) c.place.ensures

pub overflow_add-index-2 : goal.overflow_add-index-2
overflow_add-index-2 c =
    let within : c.args.index + 1 < length c.args.tokens.now = turns.two_within c.args.tokens.now c.args.index c.args.found.now c.requires.stands c.in_ok-name.name c.in_ok-name.ensures.name c.in_ok-name.ensures.fresh (sym c.if-not-is_mark_at.ensures) in
    omega (arith, c.requires.fits, within)

pub overflow_add-index-in_default : goal.overflow_add-index-in_default
overflow_add-index-in_default c =
    let within : c.args.index + 1 < length c.args.tokens.now = turns.two_within c.args.tokens.now c.args.index c.args.found.now c.requires.stands c.in_ok-name.name c.in_ok-name.ensures.name c.in_ok-name.ensures.fresh (sym c.if-not-is_mark_at.ensures) in
    omega (arith, c.requires.fits, within)

pub place-requires-in_default : goal.place-requires-in_default
place-requires-in_default c =
    let within : c.args.index + 1 < length c.args.tokens.now = turns.two_within c.args.tokens.now c.args.index c.args.found.now c.requires.stands c.in_ok-name.name c.in_ok-name.ensures.name c.in_ok-name.ensures.fresh (sym c.if-not-is_mark_at.ensures) in
    omega (arith, within)

pub returns-in_default-clause-refused : goal.returns-in_default-clause-refused
returns-in_default-clause-refused c =
    turns.refused_number c.args.tokens.now c.args.index c.args.found.now c.requires.stands c.in_ok-name.name c.in_ok-name.ensures.name c.in_ok-name.ensures.fresh (sym c.if-not-is_mark_at.ensures) c.place-in_default.result (sym c.in_default.ensures) c.place-in_default.ensures

pub overflow_add-index-3 : goal.overflow_add-index-3
overflow_add-index-3 c =
    let within : c.args.index + 2 < length c.args.tokens.now = turns.three_within c.args.tokens.now c.args.index c.args.found.now c.requires.stands c.in_ok-name.name c.in_ok-name.ensures.name c.in_ok-name.ensures.fresh (sym c.if-not-is_mark_at.ensures) c.in-Some.value (sym c.in-Some.ensures) in
    omega (arith, c.requires.fits, within)

pub overflow_add-index-then-not-is_mark_at-2 : goal.overflow_add-index-then-not-is_mark_at-2
overflow_add-index-then-not-is_mark_at-2 c =
    let within : c.args.index + 2 < length c.args.tokens.now = turns.three_within c.args.tokens.now c.args.index c.args.found.now c.requires.stands c.in_ok-name.name c.in_ok-name.ensures.name c.in_ok-name.ensures.fresh (sym c.if-not-is_mark_at.ensures) c.in-Some.value (sym c.in-Some.ensures) in
    omega (arith, c.requires.fits, within)

pub place-requires-then-not-is_mark_at-2 : goal.place-requires-then-not-is_mark_at-2
place-requires-then-not-is_mark_at-2 c =
    let within : c.args.index + 2 < length c.args.tokens.now = turns.three_within c.args.tokens.now c.args.index c.args.found.now c.requires.stands c.in_ok-name.name c.in_ok-name.ensures.name c.in_ok-name.ensures.fresh (sym c.if-not-is_mark_at.ensures) c.in-Some.value (sym c.in-Some.ensures) in
    omega (arith, within)

pub returns-then-not-is_mark_at-2-clause-refused : goal.returns-then-not-is_mark_at-2-clause-refused
returns-then-not-is_mark_at-2-clause-refused c =
    turns.refused_semi c.args.tokens.now c.args.index c.args.found.now c.requires.stands c.in_ok-name.name c.in_ok-name.ensures.name c.in_ok-name.ensures.fresh (sym c.if-not-is_mark_at.ensures) c.in-Some.value (sym c.in-Some.ensures) c.place-then-not-is_mark_at-2.result (sym c.if-not-is_mark_at-2.ensures) c.place-then-not-is_mark_at-2.ensures

pub returns-clause-next : goal.returns-clause-next
returns-clause-next c =
    turns.next_item c.args.tokens.now c.args.index c.args.found.now c.requires.stands c.in_ok-name.name c.in_ok-name.ensures.name c.in_ok-name.ensures.fresh (sym c.if-not-is_mark_at.ensures) c.in-Some.value (sym c.in-Some.ensures) (sym c.if-not-is_mark_at-2.ensures)
