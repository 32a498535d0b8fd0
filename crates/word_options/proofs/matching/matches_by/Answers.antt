use Rattle.word_options.proofs.LineLemmas.{finds, refused, taken}
use Rattle.word_options.proofs.matching.matches_by.Goals as goal

pub returns-in-Ok : goal.returns-in-Ok
returns-in-Ok c = record {
  taken = taken _ _ c.requires c.in-Ok.ensures.kinds;
  values = finds _ _ _ c.requires c.in-Ok.ensures.matches;
  usage = tt;
}

pub returns-in-Err : goal.returns-in-Err
returns-in-Err c = record {
  taken = tt;
  values = tt;
  usage = λ is took. c.error_of.ensures is (refused _ _ c.in-Err.error c.requires c.in-Err.ensures.kinds took);
}
