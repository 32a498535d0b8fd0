-- Words and bytes ask for one answer, and its status is that of a success exactly where each set is valid.
use Rattle.std.proofs.Common.{◌≡◌, ◌∙◌, ℕ, Bool, List, [], ◌∷◌, length, Option, None, Some, refl, ap, sym, subst}
use Rattle.std.proofs.lemmas.Bool.{both_ways}
use Rattle.device_tree.specs.declared.pack.Pack.{Pack}
use Rattle.job_check.specs.declared.answer.Refusal.{Refusal}
use Rattle.pack_faults.specs.declared.answer.PackFault.{PackFault}
use Rattle.pack_faults.specs.declared.answer.PackFaults.{PackFaults}
use Rattle.pack_faults.specs.declared.request.PackRefusal.{PackRefusal}
use Rattle.pack_faults.specs.declared.request.PackRefusal.TheVariants as packs
use Rattle.pack_faults.specs.Answers.{ArePackFaults, AreValid}
use Rattle.pack_faults.specs.Sets.{refusal, sets_of}
use Rattle.pack_faults.proofs.AnswerLemmas as faults_lemmas
use Rattle.pack_faults.specs.declared.request.PackRequest.{PackRequest}
use Rattle.pack_warnings.specs.declared.answer.PackWarning.{PackWarning}
use Rattle.pack_warnings.proofs.SetLemmas as warning_lemmas
use Rattle.faults_words.specs.declared.format.Format.{Format}
use Rattle.faults_words.specs.declared.answer.FaultsCommand.{FaultsCommand}
use Rattle.faults_words.specs.Asks as words
use Rattle.faults_words.proofs.AskLemmas.{one_asked}
use Rattle.faults_tool.specs.Answers.{faults_answer_status, list_status}
use Rattle.faults_tool.specs.Asked.{AreAllValid, AsksForFaults, AsksOfPackBytes, AsksOfPack, IsList, plain, warned, job, no_pack, no_set, answer_of_pack_refusal, pack, request_of_words, sets, too_long, usage}
use Rattle.job_source.proofs.SourceLemmas.{not_both}
use Rattle.faults_tool.specs.declared.asking.FaultsAnswer.{FaultsAnswer}
use Rattle.faults_tool.specs.declared.asking.FaultsAnswer.TheVariants as answers
use Rattle.faults_tool.specs.declared.status.FaultsStatus.TheVariants as status
use Rattle.faults_tool.proofs.PackLaws.{no_refusal, one_pack, one_refusal}

-- ---- one answer

no_some : (r : PackRefusal) (found : Option PackRefusal) → found ≡ Some r → found ≡ None → ⊥
no_some r found a b = cc

same_some : {A : Type 0} (x y : A) (found : Option A) → found ≡ Some x → found ≡ Some y → x ≡ y
same_some x y found a b = cc

one_list : (p : Pack) (r : PackRequest) (format : Format) (b : Bool) (faults : PackFaults) (x y : FaultsAnswer) → IsList p r format b faults x → IsList p r format b faults y → x ≡ y
one_list p r format b faults x y (plain off e) (plain none f) = e ∙ sym f
one_list p r format b faults x y (plain off e) (warned list is are f) = absurd (both_ways b off is)
one_list p r format b faults x y (warned list is are e) (plain off f) = absurd (both_ways b off is)
one_list p r format b faults x y (warned list is are e) (warned other also others f) =
    e ∙ ap (λ (ws : List PackWarning). answers.Warned format faults ws) (warning_lemmas.one_answer p r list other are others) ∙ sym f

one_of_pack : (p : Pack) (a : FaultsCommand) (x y : FaultsAnswer) → AsksOfPack p a x → AsksOfPack p a y → x ≡ y
one_of_pack p a x y (no_set r is of) (no_set s other of_other) =
    let same : r ≡ s = same_some r s (refusal p (request_of_words a)) is other in
    same_some x y (answer_of_pack_refusal s) (subst (λ (q : PackRefusal). answer_of_pack_refusal q ≡ Some x) same of) of_other
one_of_pack p a x y (no_set r is of) (sets faults none are e) = absurd (no_some r (refusal p (request_of_words a)) is none)
one_of_pack p a x y (sets faults none are e) (no_set r is of) = absurd (no_some r (refusal p (request_of_words a)) is none)
one_of_pack p a x y (sets faults none are e) (sets others nothing are_others f) =
    let same : faults ≡ others = faults_lemmas.one_answer p (request_of_words a) faults others are are_others in
    one_list p (request_of_words a) a.format a.warnings others x y (subst (λ (q : PackFaults). IsList p (request_of_words a) a.format a.warnings q x) same e) f

abbrev refused : Refusal → FaultsAnswer
refused r = answers.Refused r

one_of_bytes : (bytes : List ℕ) (a : FaultsCommand) (x y : FaultsAnswer) → AsksOfPackBytes bytes a x → AsksOfPackBytes bytes a y → x ≡ y
one_of_bytes bytes a x y (no_pack r is e) (no_pack s other f) = e ∙ ap refused (one_refusal bytes r s is other) ∙ sym f
one_of_bytes bytes a x y (no_pack r is e) (pack p says of) = absurd (no_refusal bytes p r says is)
one_of_bytes bytes a x y (pack p says of) (no_pack r is e) = absurd (no_refusal bytes p r says is)
one_of_bytes bytes a x y (pack p says of) (pack q others of_others) =
    one_of_pack q a x y (subst (λ (z : Pack). AsksOfPack z a x) (one_pack bytes p q says others) of) of_others

pub one_answer : (given : List (List ℕ)) (bytes : List ℕ) (x y : FaultsAnswer) → AsksForFaults given bytes x → AsksForFaults given bytes y → x ≡ y
one_answer given bytes x y (usage none e) (usage nothing f) = e ∙ sym f
one_answer given bytes x y (usage none e) (too_long line long f) = absurd (none line.0 line.1)
one_answer given bytes x y (usage none e) (job a asks short of) = absurd (none a asks)
one_answer given bytes x y (too_long line long e) (usage none f) = absurd (none line.0 line.1)
one_answer given bytes x y (too_long line long e) (too_long other far f) = e ∙ sym f
one_answer given bytes x y (too_long line long e) (job a asks short of) = absurd (not_both (length bytes) long short)
one_answer given bytes x y (job a asks short of) (usage none f) = absurd (none a asks)
one_answer given bytes x y (job a asks short of) (too_long line long e) = absurd (not_both (length bytes) long short)
one_answer given bytes x y (job a asks short of) (job b others few of_others) =
    one_of_bytes bytes b x y (subst (λ (z : FaultsCommand). AsksOfPackBytes bytes z x) (one_asked given a b asks others) of) of_others

-- ---- a success

list_empty : (faults : List PackFault) → list_status faults ≡ status.Done → faults ≡ []
list_empty [] e = refl
list_empty (f ∷ fs) e = absurd (cc)

empty_done : (faults : List PackFault) → faults ≡ [] → list_status faults ≡ status.Done
empty_done faults e = ap list_status e

-- warnings change no status
status_of_list : (p : Pack) (a : FaultsCommand) (answer : FaultsAnswer) (faults : PackFaults) → IsList p (request_of_words a) a.format a.warnings faults answer → faults_answer_status answer ≡ list_status faults.faults
unfolding faults_answer_status
status_of_list p a answer faults (plain off e) = ap faults_answer_status e
status_of_list p a answer faults (warned list is are e) = ap faults_answer_status e

not_done : (r : Refusal) (answer : FaultsAnswer) → answer ≡ answers.Refused r → faults_answer_status answer ≡ status.Done → ⊥
unfolding faults_answer_status
not_done r answer e done = (let is : faults_answer_status answer ≡ status.Refused = ap faults_answer_status e in cc)

no_set_not_done : (r : PackRefusal) (answer : FaultsAnswer) → answer_of_pack_refusal r ≡ Some answer → faults_answer_status answer ≡ status.Done → ⊥
unfolding faults_answer_status
no_set_not_done packs.NoDevice answer e done = (let is : faults_answer_status answer ≡ status.Refused = ap faults_answer_status (sym (same_some _ _ _ refl e)) in cc)
no_set_not_done packs.NoVariant answer e done = (let is : faults_answer_status answer ≡ status.Refused = ap faults_answer_status (sym (same_some _ _ _ refl e)) in cc)
no_set_not_done packs.NoPname answer e done = (let is : faults_answer_status answer ≡ status.Refused = ap faults_answer_status (sym (same_some _ _ _ refl e)) in cc)
no_set_not_done packs.OutOfMemory answer e done = cc

usage_not_done : (answer : FaultsAnswer) → answer ≡ answers.Usage → faults_answer_status answer ≡ status.Done → ⊥
unfolding faults_answer_status
usage_not_done answer e done = (let is : faults_answer_status answer ≡ status.Usage = ap faults_answer_status e in cc)

too_long_not_done : (answer : FaultsAnswer) → answer ≡ answers.TooLong → faults_answer_status answer ≡ status.Done → ⊥
unfolding faults_answer_status
too_long_not_done answer e done = (let is : faults_answer_status answer ≡ status.Refused = ap faults_answer_status e in cc)

pub valid_of : (given : List (List ℕ)) (bytes : List ℕ) (answer : FaultsAnswer) → AsksForFaults given bytes answer → faults_answer_status answer ≡ status.Done → AreAllValid given bytes
valid_of given bytes answer (usage none e) done = absurd (usage_not_done answer e done)
valid_of given bytes answer (too_long line long e) done = absurd (too_long_not_done answer e done)
valid_of given bytes answer (job a asks short (no_pack r is e)) done = absurd (not_done r answer e done)
valid_of given bytes answer (job a asks short (pack p says (no_set r is of))) done = absurd (no_set_not_done r answer of done)
valid_of given bytes answer (job a asks short (pack p says (sets faults none are e))) done =
    let empty : faults.faults ≡ [] = list_empty faults.faults (sym (status_of_list p a answer faults e) ∙ done) in
    record { asked = a; asks = asks; short = short; pack = p; describes = says; some = none; valid = (faults_lemmas.empty_where_valid p (request_of_words a) faults are).0 empty }

-- where each set is valid, the faults of the pack are none
none_of_valid : (given : List (List ℕ)) (bytes : List ℕ) (a : FaultsCommand) (answer : FaultsAnswer) (v : AreAllValid given bytes) → words.WordsAskForFaults given a → AsksOfPackBytes bytes a answer → faults_answer_status answer ≡ status.Done
none_of_valid given bytes a answer v asks (no_pack r is e) = absurd (no_refusal bytes v.pack r v.describes is)
none_of_valid given bytes a answer v asks (pack p says (no_set r is of)) =
    let asked : a ≡ v.asked = one_asked given a v.asked asks v.asks in
    let same : p ≡ v.pack = one_pack bytes p v.pack says v.describes in
    absurd (no_some r (refusal p (request_of_words a)) is (ap (λ q. refusal q (request_of_words a)) same ∙ ap (λ b. refusal v.pack (request_of_words b)) asked ∙ v.some))
none_of_valid given bytes a answer v asks (pack p says (sets faults none are e)) =
    let asked : v.asked ≡ a = one_asked given v.asked a v.asks asks in
    let same : v.pack ≡ p = one_pack bytes v.pack p v.describes says in
    let valid : AreValid p (sets_of p (request_of_words a)) =
    subst (λ (b : FaultsCommand). AreValid p (sets_of p (request_of_words b))) asked (subst (λ (q : Pack). AreValid q (sets_of q (request_of_words v.asked))) same v.valid) in
    status_of_list p a answer faults e ∙ empty_done faults.faults ((faults_lemmas.empty_where_valid p (request_of_words a) faults are).1 valid)

pub done_of : (given : List (List ℕ)) (bytes : List ℕ) (answer : FaultsAnswer) → AsksForFaults given bytes answer → AreAllValid given bytes → faults_answer_status answer ≡ status.Done
done_of given bytes answer (usage none e) v = absurd (none v.asked v.asks)
done_of given bytes answer (too_long line long e) v = absurd (not_both (length bytes) long v.short)
done_of given bytes answer (job a asks short of) v = none_of_valid given bytes a answer v asks of

-- ---- the status is by the request

status_of_pack : (p : Pack) (a b : FaultsCommand) (x y : FaultsAnswer) → request_of_words a ≡ request_of_words b → AsksOfPack p a x → AsksOfPack p b y → faults_answer_status x ≡ faults_answer_status y
status_of_pack p a b x y same (no_set r is of) (no_set s other of_other) =
    let also : refusal p (request_of_words a) ≡ Some s = ap (λ (q : PackRequest). refusal p q) same ∙ other in
    let one : r ≡ s = same_some r s (refusal p (request_of_words a)) is also in
    ap faults_answer_status (same_some x y (answer_of_pack_refusal s) (subst (λ (q : PackRefusal). answer_of_pack_refusal q ≡ Some x) one of) of_other)
status_of_pack p a b x y same (no_set r is of) (sets others nothing are_others f) =
    absurd (no_some r (refusal p (request_of_words a)) is (ap (λ (q : PackRequest). refusal p q) same ∙ nothing))
status_of_pack p a b x y same (sets faults none are e) (no_set s other of_other) =
    absurd (no_some s (refusal p (request_of_words a)) (ap (λ (q : PackRequest). refusal p q) same ∙ other) none)
status_of_pack p a b x y same (sets faults none are e) (sets others nothing are_others f) =
    let one : faults ≡ others = faults_lemmas.one_answer p (request_of_words b) faults others (subst (λ (q : PackRequest). ArePackFaults p q faults) same are) are_others in
    status_of_list p a x faults e ∙ ap (λ (q : PackFaults). list_status q.faults) one ∙ sym (status_of_list p b y others f)

pub same_status : (bytes : List ℕ) (a b : FaultsCommand) (x y : FaultsAnswer) → request_of_words a ≡ request_of_words b → AsksOfPackBytes bytes a x → AsksOfPackBytes bytes b y → faults_answer_status x ≡ faults_answer_status y
same_status bytes a b x y same (no_pack r is e) (no_pack s other f) = ap faults_answer_status (e ∙ ap refused (one_refusal bytes r s is other) ∙ sym f)
same_status bytes a b x y same (no_pack r is e) (pack p says of) = absurd (no_refusal bytes p r says is)
same_status bytes a b x y same (pack p says of) (no_pack r is e) = absurd (no_refusal bytes p r says is)
same_status bytes a b x y same (pack p says of) (pack q others of_others) =
    status_of_pack q a b x y same (subst (λ (z : Pack). AsksOfPack z a x) (one_pack bytes p q says others) of) of_others
