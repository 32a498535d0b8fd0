-- Reading gives exactly the pack that the value of a job has.
use Rattle.std.proofs.Common.{◌≡◌, ◌∙◌, ℕ, codes, List, Result, Ok, Err, refl, ap, sym}
use Rattle.std.specs.Prelude.{IfOk, IfErr}
use Rattle.json_form.specs.declared.fault.JobFault.{JobFault}
use Rattle.json_form.proofs.ReadingLaws.{Reads, bind_ok}
use Rattle.json_form.proofs.ObjectLaws.{only_keys_sound, only_keys_complete, required_reads}
use Rattle.device_tree.specs.declared.pack.Pack.{Pack}
use Rattle.device_tree.proofs.PackLaws.{pack_reads}
use Rattle.job_text.proofs.AnswerLaws.{one_value}
use Rattle.job_check.specs.declared.answer.Refusal.{Refusal}
use Rattle.job_check.specs.declared.answer.Refusal.TheVariants as refusals
use Rattle.job_check.specs.declared.answer.CheckRefusal.{CheckRefusal}
use Rattle.job_check.specs.declared.answer.CheckRefusal.TheVariants as ends
use Rattle.faults_tool.specs.Packs.{AnswersPack, DescribesPack, HasPack, IsPackAnswer, NoPack, pack_in_job}
use Rattle.job_check.specs.Answers.{OnRefusal}

pub job_pack_reads : Reads pack_in_job HasPack
unfolding pack_in_job
job_pack_reads =
    let pack = required_reads (codes "pack") _ _ pack_reads in
    record {
      sound = λ d x e. (let a = bind_ok _ _ x e in record { known = only_keys_sound _ d a.0 a.1; pack = pack.sound d x a.2 });
      complete = λ d x p. rw (only_keys_complete _ d p.known, pack.complete d x p.pack) refl;
    }

-- ---- both ways

abbrev pack_ok : Pack → Result Pack JobFault
pack_ok pack = Ok pack

abbrev pack_err : JobFault → Result Pack JobFault
pack_err fault = Err fault

same_pack : (a b : Pack) → pack_ok a ≡ pack_ok b → a ≡ b
same_pack a b e = cc

same_fault : (a b : JobFault) → pack_err a ≡ pack_err b → a ≡ b
same_fault a b e = cc

no_fault : (pack : Pack) (fault : JobFault) → pack_ok pack ≡ pack_err fault → ⊥
no_fault pack fault e = cc

pub found_in : (bytes : List ℕ) (r : Result Pack CheckRefusal) → AnswersPack bytes r → IfOk r (DescribesPack bytes)
found_in bytes (Ok pack) given = (given.0, given.1, job_pack_reads.sound given.0 pack given.2)
found_in bytes (Err end) given = tt

pub refused_in : (bytes : List ℕ) (r : Result Pack CheckRefusal) → AnswersPack bytes r → IfErr r (OnRefusal (NoPack bytes))
refused_in bytes (Ok pack) given = tt
refused_in bytes (Err end) given = given

-- bytes have one pack
pub one_pack : (bytes : List ℕ) (a b : Pack) → DescribesPack bytes a → DescribesPack bytes b → a ≡ b
one_pack bytes a b here there =
    let same = one_value bytes here.0 there.0 here.1 there.1 in
    same_pack a b (sym (job_pack_reads.complete here.0 a here.2) ∙ ap pack_in_job same ∙ job_pack_reads.complete there.0 b there.2)

-- bytes that have a pack are not refused
pub no_refusal : (bytes : List ℕ) (pack : Pack) (r : Refusal) → DescribesPack bytes pack → NoPack bytes r → ⊥
no_refusal bytes pack refusals.BadJson says none = none says.0 says.1
no_refusal bytes pack (refusals.Job fault) says none =
    let same = one_value bytes says.0 none.0 says.1 none.1 in
    no_fault pack fault (sym (job_pack_reads.complete says.0 pack says.2) ∙ ap pack_in_job same ∙ none.2)
no_refusal bytes pack refusals.NoDevice says none = none
no_refusal bytes pack refusals.AmbiguousDevice says none = none
no_refusal bytes pack refusals.NoVariant says none = none
no_refusal bytes pack (refusals.Dbgconf kind at) says none = none
no_refusal bytes pack (refusals.Image what line) says none = none
no_refusal bytes pack (refusals.Check kind spot) says none = none

pub only_in : (bytes : List ℕ) (r : Result Pack CheckRefusal) → AnswersPack bytes r → (pack : Pack) → DescribesPack bytes pack → IsPackAnswer pack r
only_in bytes (Ok found) given pack says = one_pack bytes found pack (found_in bytes (Ok found) given) says
only_in bytes (Err (ends.Refused r)) given pack says = no_refusal bytes pack r says given
only_in bytes (Err ends.OutOfMemory) given pack says = tt

abbrev job_of : JobFault → Refusal
job_of fault = refusals.Job fault

-- bytes that have no pack have one refusal
pub one_refusal : (bytes : List ℕ) (r s : Refusal) → NoPack bytes r → NoPack bytes s → r ≡ s
one_refusal bytes refusals.BadJson refusals.BadJson a b = refl
one_refusal bytes refusals.BadJson (refusals.Job fault) a b = absurd (a b.0 b.1)
one_refusal bytes (refusals.Job fault) refusals.BadJson a b = absurd (b a.0 a.1)
one_refusal bytes (refusals.Job fault) (refusals.Job other) a b =
    let same = one_value bytes a.0 b.0 a.1 b.1 in
    ap job_of (same_fault fault other (sym a.2 ∙ ap pack_in_job same ∙ b.2))
one_refusal bytes refusals.NoDevice s a b = absurd a
one_refusal bytes refusals.AmbiguousDevice s a b = absurd a
one_refusal bytes refusals.NoVariant s a b = absurd a
one_refusal bytes (refusals.Dbgconf kind at) s a b = absurd a
one_refusal bytes (refusals.Image what line) s a b = absurd a
one_refusal bytes (refusals.Check kind spot) s a b = absurd a
one_refusal bytes refusals.BadJson refusals.NoDevice a b = absurd b
one_refusal bytes refusals.BadJson refusals.AmbiguousDevice a b = absurd b
one_refusal bytes refusals.BadJson refusals.NoVariant a b = absurd b
one_refusal bytes refusals.BadJson (refusals.Dbgconf kind at) a b = absurd b
one_refusal bytes refusals.BadJson (refusals.Image what line) a b = absurd b
one_refusal bytes refusals.BadJson (refusals.Check kind spot) a b = absurd b
one_refusal bytes (refusals.Job fault) refusals.NoDevice a b = absurd b
one_refusal bytes (refusals.Job fault) refusals.AmbiguousDevice a b = absurd b
one_refusal bytes (refusals.Job fault) refusals.NoVariant a b = absurd b
one_refusal bytes (refusals.Job fault) (refusals.Dbgconf kind at) a b = absurd b
one_refusal bytes (refusals.Job fault) (refusals.Image what line) a b = absurd b
one_refusal bytes (refusals.Job fault) (refusals.Check kind spot) a b = absurd b
