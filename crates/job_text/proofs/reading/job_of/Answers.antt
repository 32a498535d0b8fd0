use Rattle.job_text.proofs.AnswerLaws.{found_in, only_in, refused_in, ranges_in, settings_in, watch_in, trace_in}
use Rattle.job_text.proofs.reading.job_of.Goals as goal

pub returns-clause-found : goal.returns-clause-found
returns-clause-found c = found_in _ _ c.answer_of.ensures

pub returns-clause-only : goal.returns-clause-only
returns-clause-only c = only_in _ _ c.answer_of.ensures

pub returns-clause-refused : goal.returns-clause-refused
returns-clause-refused c = refused_in _ _ c.answer_of.ensures

pub returns-clause-ranges : goal.returns-clause-ranges
returns-clause-ranges c = ranges_in _ _ c.answer_of.ensures

pub returns-clause-settings : goal.returns-clause-settings
returns-clause-settings c = settings_in _ _ c.answer_of.ensures

pub returns-clause-watch : goal.returns-clause-watch
returns-clause-watch c = watch_in _ _ c.answer_of.ensures

pub returns-clause-trace : goal.returns-clause-trace
returns-clause-trace c = trace_in _ _ c.answer_of.ensures
