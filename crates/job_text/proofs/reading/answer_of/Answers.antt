use Rattle.serde_json.specs.View.{view}
use Rattle.job_text.proofs.AnswerLaws.{read_in_range}
use Rattle.job_text.proofs.reading.answer_of.Goals as goal

pub job_with-requires : goal.job_with-requires
job_with-requires c = read_in_range (view c.in-Ok.value) c.in-Ok-job_in_value.parts c.in-Ok-job_in_value.ensures
