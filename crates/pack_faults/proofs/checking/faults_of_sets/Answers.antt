use Rattle.pack_faults.proofs.AnswerLemmas.{numbers_within, done_of}
use Rattle.pack_faults.proofs.checking.faults_of_sets.Goals as goal

pub faults_at-requires : goal.faults_at-requires
faults_at-requires c =
    numbers_within c.args.known.now c.in_ok-lined.lined c.as_slice.result.now c.args.sets.now c.in_ok-lined.ensures c.as_slice.ensures c.requires.within

pub returns : goal.returns
returns c =
    done_of c.args.known.now c.in_ok-lined.lined c.as_slice.result.now c.args.sets.now c.faults_at.result c.in_ok-lined.ensures c.as_slice.ensures c.requires.known c.faults_at.ensures
