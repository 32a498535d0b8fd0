use Rattle.std.proofs.Common.{◌≡◌, ◌&&◌, Bool, true, leb, refl, ap}
use Rattle.std.proofs.lemmas.Bool.{le-leb}
use Rattle.target_machine.proofs.JobTest.{passes}
use Rattle.test_words.proofs.target.target_in_range.Goals as goal

pub returns : goal.returns
returns c =
    rw (c.in_ok-ports.ensures, c.in_ok-regions.ensures, c.in_ok-words.ensures, c.in_ok-scripts.ensures, c.in_ok-resets.ensures)
    (passes _ (record { numbers = ap (λ (b : Bool). b && true) (le-leb c.args.setting.now.power_reads 1000000 c.requires); few = refl; aps = refl; memory = refl; words = refl; scripts = refl; reset = refl }))
