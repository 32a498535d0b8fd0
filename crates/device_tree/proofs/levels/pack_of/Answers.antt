use Rattle.json_form.proofs.ReadingLaws.{is_found, is_only}
use Rattle.device_tree.proofs.PackLaws.{job_pack_reads}
use Rattle.device_tree.proofs.levels.pack_of.Goals as goal

pub returns-clause-found : goal.returns-clause-found
returns-clause-found c = is_found _ _ job_pack_reads _ _ c.first_pack.ensures

pub returns-clause-only : goal.returns-clause-only
returns-clause-only c = is_only _ _ job_pack_reads _ _ c.first_pack.ensures
