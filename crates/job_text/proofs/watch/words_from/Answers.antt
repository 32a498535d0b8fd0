use Rattle.std.proofs.Common.{rules, ◌≡◌, Some, None}
use Rattle.std.specs.Prelude.{find}
use Rattle.job_text.specs.Tests.{holds}
use Rattle.job_text.proofs.WatchLemmas.{found-passes, any-found, none-found}
use Rattle.job_text.proofs.watch.words_from.Goals as goal

pub words_within-requires : goal.words_within-requires
words_within-requires c =
    let found : find (holds c.args.address) c.args.regions.now ≡ Some c.in-Some.region.now = search rules in
    found-passes (holds c.args.address) c.args.regions.now c.in-Some.region.now found

pub returns-in-Some-clause-held : goal.returns-in-Some-clause-held
returns-in-Some-clause-held c = λ i lt. (
    let found : find (holds c.args.address) c.args.regions.now ≡ Some c.in-Some.region.now = search rules in
    any-found (holds c.args.address) _ c.args.regions.now c.in-Some.region.now found (c.words_within.ensures.held i lt))

pub returns-in-None-clause-none : goal.returns-in-None-clause-none
returns-in-None-clause-none c =
    let none : find (holds c.args.address) c.args.regions.now ≡ None = search rules in
    none-found (holds c.args.address) c.args.regions.now none
