use Rattle.std.proofs.Common.{◌≡◌, ◌+◌, ◌-◌, ◌*◌, ◌/◌, ◌%◌, ◌^◌, ◌<◌, ap, subst, sym, arith}
use Rattle.target_machine.proofs.Shifts.{shifted_in, shifted_fits}
use Rattle.target_machine.proofs.target.lines.shift_in.Goals as goal

pub overflow_add-result : goal.overflow_add-result
overflow_add-result c =
    let whole : c.args.count + (64 - c.args.count) ≡ 64 = omega arith in
    let fits : c.args.last / 2 ^ c.args.count + c.args.bits % 2 ^ c.args.count * 2 ^ (64 - c.args.count) < 2 ^ 64 =
    subst (λ n. c.args.last / 2 ^ c.args.count + c.args.bits % 2 ^ c.args.count * 2 ^ (64 - c.args.count) < 2 ^ n) whole
    (shifted_fits c.args.last c.args.bits c.args.count (64 - c.args.count) (subst (λ n. c.args.last < 2 ^ n) (sym whole) c.ranges.last.fits)) in
    let in_place = subst (λ n. c.args.bits * 2 ^ (64 - c.args.count) % 2 ^ n ≡ c.args.bits % 2 ^ c.args.count * 2 ^ (64 - c.args.count)) whole
    (shifted_in c.args.bits c.args.count (64 - c.args.count)) in
    rw in_place (record { fits = fits })

pub returns : goal.returns
returns c =
    let whole : c.args.count + (64 - c.args.count) ≡ 64 = omega arith in
    ap (λ n. c.args.last / 2 ^ c.args.count + n)
    (subst (λ n. c.args.bits * 2 ^ (64 - c.args.count) % 2 ^ n ≡ c.args.bits % 2 ^ c.args.count * 2 ^ (64 - c.args.count)) whole
    (shifted_in c.args.bits c.args.count (64 - c.args.count)))
