-- A job, a selection and a name have one run at most, or one reason why none runs; and so have the bytes of a job.
use Rattle.std.proofs.Common.{◌≡◌, ◌∙◌, ℕ, true, false, List, Option, Result, Ok, Err, ap, sym, subst}
use Rattle.std.proofs.lemmas.Bool.{both_ways}
use Rattle.std.specs.List.{list_any}
use Rattle.std.specs.Str.{bytes_eq}
use Rattle.sequence_resolve.specs.declared.selection.Selection.{Selection}
use Rattle.sequence_resolve.specs.declared.entry.SeqEntry.{SeqEntry}
use Rattle.sequence_resolve.specs.declared.entry.SeqSet.{SeqSet}
use Rattle.sequence_resolve.proofs.OneSet.{one_set}
use Rattle.sequence_trees.specs.Reading.{ReadsSet}
use Rattle.sequence_trees.proofs.SetLaws as trees
use Rattle.seq_check.specs.Answers.{checked_trees}
use Rattle.job_text.specs.declared.job.Job.{Job}
use Rattle.job_text.specs.Answers.{Describes}
use Rattle.dbgconf_text.specs.declared.conf.ConfItem.{ConfItem}
use Rattle.job_check.specs.Values.{HasStartingValues, NoConf, NoValues}
use Rattle.job_check.specs.Answers.{NoSet, NoValid}
use Rattle.job_check.specs.Running.{HasPlain, IsRefusedRun, IsRefusedRunFor, IsRefusedRunOf, IsRunFor, IsRunOfJob, IsSameRun, IsSetOfJob, IsValidRun, described, has_own, has_sequence, no_conf, no_own, no_values, not_described, not_named, not_resolved, not_valid}
use Rattle.job_check.specs.Own.{own_of}
use Rattle.job_check.specs.declared.own.JobImage.{JobImage}
use Rattle.job_check.specs.declared.own.Own.{Own}
use Rattle.job_check.specs.declared.answer.Refusal.{Refusal}
use Rattle.job_check.specs.declared.running.RunRefusal.{RunRefusal}
use Rattle.job_check.specs.declared.running.RunRefusal.TheVariants as ends
use Rattle.job_check.specs.declared.running.ValidRun.{ValidRun}
use Rattle.job_text.proofs.AnswerLaws.{one_job}
use Rattle.job_check.proofs.OneAnswer.{job_and_none, one_no_job, one_none, one_not_valid, set_and_none, valid_and_not}
use Rattle.job_check.proofs.OneValues.{conf_and_none, one_conf, one_no_conf, one_no_values, one_with_values, same_entries, values_and_none}

refused_as : (x y : RunRefusal) (r q : Refusal) → x ≡ ends.Refused r → y ≡ ends.Refused q → r ≡ q → x ≡ y
refused_as x y r q is too same = is ∙ ap ends.Refused same ∙ sym too

-- the names of the sequences stay where the values are put in
pub same_names : (job : Job) (s : Selection) (items : List ConfItem) (plain set : SeqSet) (name : List ℕ) → HasStartingValues job.dbgconf items plain set → has_sequence set name ≡ has_sequence plain name
same_names job s items plain set name is = ap (λ (es : List SeqEntry). list_any (λ (e : SeqEntry). bytes_eq e.name name) es) (same_entries job.dbgconf items plain set is)

-- ---- of a job

module _ (job : Job) (s : Selection) where
  -- the set of the selection is one
  pub same_plain : (x y : List ConfItem) (a b : SeqSet) → HasPlain job s x a → HasPlain job s y b → a ≡ b
  same_plain x y a b p q = one_set job.pack s.device s.variant s.pname a b p.resolved q.resolved

  pub same_items : (x y : List ConfItem) (a b : SeqSet) → HasPlain job s x a → HasPlain job s y b → x ≡ y
  same_items x y a b p q = one_conf job.dbgconf x y p.values q.values

  pub same_set : (a b : SeqSet) → IsSetOfJob job s a → IsSetOfJob job s b → a ≡ b
  same_set a b p q =
      let plain = same_plain q.items p.items q.plain p.plain q.of p.of in
      let items = same_items q.items p.items q.plain p.plain q.of p.of in
      one_with_values job.dbgconf p.items p.plain a b p.replaced
      (subst (λ (l : List ConfItem). HasStartingValues job.dbgconf l p.plain b) items (subst (λ (x : SeqSet). HasStartingValues job.dbgconf q.items x b) plain q.replaced))

  -- the values, and none
  values_and_fault : (items : List ConfItem) (plain : SeqSet) (r : Refusal) → HasPlain job s items plain → NoConf job.dbgconf r → ⊥
  values_and_fault items plain r p q = conf_and_none job.dbgconf items r p.values q

  -- the set of the selection, and none
  plain_and_none : (items : List ConfItem) (plain : SeqSet) (r : Refusal) → HasPlain job s items plain → NoSet job.pack s r → ⊥
  plain_and_none items plain r p q = set_and_none job.pack s plain r p.resolved q

  -- the set with the values, and none
  set_and_undefined : (set plain : SeqSet) (items : List ConfItem) (r : Refusal) → IsSetOfJob job s set → HasPlain job s items plain → NoValues job.dbgconf items plain r → ⊥
  set_and_undefined set plain items r is p q =
      let same = same_plain items is.items plain is.plain p is.of in
      let values = same_items items is.items plain is.plain p is.of in
      values_and_none job.dbgconf is.items is.plain set r is.replaced
      (subst (λ (l : List ConfItem). NoValues job.dbgconf l is.plain r) values (subst (λ (x : SeqSet). NoValues job.dbgconf items x r) same q))

  one_undefined : (a b : SeqSet) (x y : List ConfItem) (r q : Refusal) → HasPlain job s x a → HasPlain job s y b → NoValues job.dbgconf x a r → NoValues job.dbgconf y b q → r ≡ q
  one_undefined a b x y r q p o none too =
      let same = same_plain y x b a o p in
      let values = same_items y x b a o p in
      one_no_values job.dbgconf x a r q none
      (subst (λ (l : List ConfItem). NoValues job.dbgconf l a q) values (subst (λ (z : SeqSet). NoValues job.dbgconf y z q) same too))

  module _ (name : List ℕ) where
    -- a set with a sequence of the name, and the same without
    plains_differ : (x y : List ConfItem) (a b : SeqSet) → HasPlain job s x a → HasPlain job s y b → has_sequence a name ≡ true → has_sequence b name ≡ false → ⊥
    plains_differ x y a b p q with_name none_too =
        both_ways (has_sequence a name) (ap (λ (z : SeqSet). has_sequence z name) (same_plain x y a b p q) ∙ none_too) with_name

    named_and_not : (set plain : SeqSet) (items : List ConfItem) → IsSetOfJob job s set → HasPlain job s items plain → has_sequence set name ≡ true → has_sequence plain name ≡ false → ⊥
    named_and_not set plain items is p with_name none_too =
        plains_differ is.items items is.plain plain is.of p (sym (same_names job s is.items is.plain set name is.replaced) ∙ with_name) none_too

    not_valids : (a b : SeqSet) (r q : Refusal) → IsSetOfJob job s a → IsSetOfJob job s b → NoValid a r → NoValid b q → r ≡ q
    not_valids a b r q p o x y = one_not_valid a r q x (subst (λ (z : SeqSet). NoValid z q) (same_set b a o p) y)

    pub one_refusal_of : (x y : RunRefusal) → IsRefusedRunOf job s name x → IsRefusedRunOf job s name y → x ≡ y
    one_refusal_of x y p q = elim p [
      | no_conf r none is ↦ elim q [
        | no_conf t too is_too ↦ refused_as x y r t is is_too (one_no_conf job.dbgconf r t none too)
        | not_resolved items t has too is_too ↦ absurd (conf_and_none job.dbgconf items r has none)
        | not_named items plain of without is_too ↦ absurd (values_and_fault items plain r of none)
        | no_values items plain t of named too is_too ↦ absurd (values_and_fault items plain r of none)
        | not_valid set t of named too is_too ↦ absurd (values_and_fault of.items of.plain r of.of none)
      ]
      | not_resolved items r has none is ↦ elim q [
        | no_conf t too is_too ↦ absurd (conf_and_none job.dbgconf items t has too)
        | not_resolved others t there too is_too ↦ refused_as x y r t is is_too (one_none job.pack s r t none too)
        | not_named others plain of without is_too ↦ absurd (plain_and_none others plain r of none)
        | no_values others plain t of named too is_too ↦ absurd (plain_and_none others plain r of none)
        | not_valid set t of named too is_too ↦ absurd (plain_and_none of.items of.plain r of.of none)
      ]
      | not_named items plain of without is ↦ elim q [
        | no_conf t too is_too ↦ absurd (values_and_fault items plain t of too)
        | not_resolved others t there too is_too ↦ absurd (plain_and_none items plain t of too)
        | not_named others other there too is_too ↦ is ∙ sym is_too
        | no_values others other t there named too is_too ↦ absurd (plains_differ others items other plain there of named without)
        | not_valid set t there named too is_too ↦ absurd (named_and_not set plain items there of named without)
      ]
      | no_values items plain r of named none is ↦ elim q [
        | no_conf t too is_too ↦ absurd (values_and_fault items plain t of too)
        | not_resolved others t there too is_too ↦ absurd (plain_and_none items plain t of too)
        | not_named others other there without is_too ↦ absurd (plains_differ items others plain other of there named without)
        | no_values others other t there named_too too is_too ↦ refused_as x y r t is is_too (one_undefined plain other items others r t of there none too)
        | not_valid set t there named_too too is_too ↦ absurd (set_and_undefined set plain items r there of none)
      ]
      | not_valid set r of named none is ↦ elim q [
        | no_conf t too is_too ↦ absurd (values_and_fault of.items of.plain t of.of too)
        | not_resolved others t there too is_too ↦ absurd (plain_and_none of.items of.plain t of.of too)
        | not_named others other there without is_too ↦ absurd (named_and_not set other others of there named without)
        | no_values others other t there named_too too is_too ↦ absurd (set_and_undefined set other others t of there too)
        | not_valid other t there named_too too is_too ↦ refused_as x y r t is is_too (not_valids set other r t of there none too)
      ]
    ]

    set_and_fault : (run : ValidRun) (a set : SeqSet) (t : Refusal) → IsSetOfJob job s a → ReadsSet a (checked_trees run.trees) → IsRunOfJob s name run → IsSetOfJob job s set → NoValid set t → ⊥
    set_and_fault run a set t is reads p of none = valid_and_not set t (record {
      trees = checked_trees run.trees;
      reads = subst (λ (z : SeqSet). ReadsSet z (checked_trees run.trees)) (same_set a set is of) reads;
      sound = p.trees.sound;
    }) none

    run_and_refusal : (run : ValidRun) (a : SeqSet) → IsSetOfJob job s a → has_sequence a name ≡ true → ReadsSet a (checked_trees run.trees) → IsRunOfJob s name run → (y : RunRefusal) → IsRefusedRunOf job s name y → ⊥
    run_and_refusal run a is with_name reads p y q = elim q [
      | no_conf t none e ↦ values_and_fault is.items is.plain t is.of none
      | not_resolved items t has none e ↦ plain_and_none is.items is.plain t is.of none
      | not_named items plain of without e ↦ named_and_not a plain items is of with_name without
      | no_values items plain t of named none e ↦ set_and_undefined a plain items t is of none
      | not_valid set t of named none e ↦ set_and_fault run a set t is reads p of none
    ]

-- the sets of two runs of one job
same_sets : (s : Selection) (a b : Job) (x y : SeqSet) → a ≡ b → IsSetOfJob a s x → IsSetOfJob b s y → x ≡ y
same_sets s a b x y same p q = same_set a s x y p (subst (λ (j : Job). IsSetOfJob j s y) (sym same) q)

run_or_refusal_of : (s : Selection) (name : List ℕ) (x : ValidRun) (y : RunRefusal) → IsRunOfJob s name x → IsRefusedRunOf x.job s name y → ⊥
run_or_refusal_of s name x y p q = run_and_refusal x.job s name x x.set p.set p.named p.trees.reads p y q

-- ---- with what a mode needs

abbrev found : Option JobImage → Result (Option JobImage) Refusal
found image = Ok image

abbrev refused : Refusal → Result (Option JobImage) Refusal
refused r = Err r

same_found : (a b : Option JobImage) → found a ≡ found b → a ≡ b
same_found a b e = cc

same_refused : (r q : Refusal) → refused r ≡ refused q → r ≡ q
same_refused r q e = cc

found_and_refused : (image : Option JobImage) (r : Refusal) → found image ≡ refused r → ⊥
found_and_refused image r e = cc

pub one_run_for : (own : Own) (s : Selection) (name : List ℕ) (x y : ValidRun) → x.job ≡ y.job → IsRunFor own s name x → IsRunFor own s name y → IsSameRun x y
one_run_for own s name x y job p q =
    let set = same_sets s x.job y.job x.set y.set job p.run.set q.run.set in
    record {
      job = job;
      image = same_found x.image y.image (sym p.image ∙ ap (λ (j : Job). own_of own j.image) job ∙ q.image);
      set = set;
      trees = trees.one_set x.set (checked_trees x.trees) (checked_trees y.trees) p.run.trees.reads
          (subst (λ (z : SeqSet). ReadsSet z (checked_trees y.trees)) (sym set) q.run.trees.reads);
    }

pub one_refusal_for : (job : Job) (own : Own) (s : Selection) (name : List ℕ) (x y : RunRefusal) → IsRefusedRunFor job own s name x → IsRefusedRunFor job own s name y → x ≡ y
one_refusal_for job own s name x y p q = elim p [
  | no_own r none is ↦ elim q [
    | no_own t too is_too ↦ refused_as x y r t is is_too (same_refused r t (sym none ∙ too))
    | has_own image has of ↦ absurd (found_and_refused image r (sym has ∙ none))
  ]
  | has_own image has of ↦ elim q [
    | no_own t none is ↦ absurd (found_and_refused image t (sym has ∙ none))
    | has_own other has_too of_too ↦ one_refusal_of job s name x y of of_too
  ]
]

pub run_or_refusal_for : (own : Own) (s : Selection) (name : List ℕ) (x : ValidRun) (y : RunRefusal) → IsRunFor own s name x → IsRefusedRunFor x.job own s name y → ⊥
run_or_refusal_for own s name x y p q = elim q [
  | no_own r none is ↦ found_and_refused x.image r (sym p.image ∙ none)
  | has_own image has of ↦ run_or_refusal_of s name x y p.run of
]

-- ---- of bytes

module _ (bytes : List ℕ) (own : Own) (s : Selection) (name : List ℕ) where
  refused_job : (a b : Job) (y : RunRefusal) → Describes bytes a → Describes bytes b → IsRefusedRunFor b own s name y → IsRefusedRunFor a own s name y
  refused_job a b y p q is = subst (λ (j : Job). IsRefusedRunFor j own s name y) (one_job bytes b a q p) is

  pub one_refusal : (x y : RunRefusal) → IsRefusedRun bytes own s name x → IsRefusedRun bytes own s name y → x ≡ y
  one_refusal x y p q = elim p [
    | not_described r none is ↦ elim q [
      | not_described t too is_too ↦ refused_as x y r t is is_too (one_no_job bytes r t none too)
      | described job there of ↦ absurd (job_and_none bytes job r there none)
    ]
    | described job here of ↦ elim q [
      | not_described t too is_too ↦ absurd (job_and_none bytes job t here too)
      | described other there of_other ↦ one_refusal_for job own s name x y of (refused_job job other y here there of_other)
    ]
  ]

  pub one_run : (x y : ValidRun) → IsValidRun bytes own s name x → IsValidRun bytes own s name y → IsSameRun x y
  one_run x y p q = one_run_for own s name x y (one_job bytes x.job y.job p.job q.job) p.run q.run

  pub run_or_refusal : (x : ValidRun) (y : RunRefusal) → IsValidRun bytes own s name x → IsRefusedRun bytes own s name y → ⊥
  run_or_refusal x y p q = elim q [
    | not_described t none is ↦ job_and_none bytes x.job t p.job none
    | described job there of ↦ run_or_refusal_for own s name x y p.run (refused_job x.job job y p.job there of)
  ]
