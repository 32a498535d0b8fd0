-- What is answered to a text of starting values, and to a set into which they are put.
use Rattle.std.proofs.Common.{◌≡◌, ℕ, List, Option, Some, Result, Ok, Err, sym, subst}
use Rattle.std.specs.Prelude.{IfOk}
use Rattle.dbgconf_text.specs.declared.conf.ConfItem.{ConfItem}
use Rattle.dbgconf_text.specs.declared.conf.ConfFault.{ConfFault}
use Rattle.dbgconf_text.specs.declared.conf.ConfFault.TheVariants as conf
use Rattle.dbgconf_text.specs.declared.replacing.ReplaceFault.{ReplaceFault}
use Rattle.dbgconf_text.specs.declared.replacing.ReplaceFault.TheVariants as replacing
use Rattle.dbgconf_text.specs.Conf.{AnswersText, cut, bad, no_memory}
use Rattle.dbgconf_text.specs.Replacing.{Replaces}
use Rattle.sequence_resolve.specs.declared.entry.SeqSet.{SeqSet}
use Rattle.job_check.specs.declared.answer.CheckRefusal.{CheckRefusal}
use Rattle.job_check.specs.Answers.{OnRefusal}
use Rattle.job_check.specs.Values.{HasConf, HasConfFault, HasStartingValues, HasUndefined, conf_refusal, name_refusal}

abbrev read : List ConfItem → Result (List ConfItem) ConfFault
read items = Ok items

abbrev unread : ConfFault → Result (List ConfItem) ConfFault
unread fault = Err fault

apart : (items : List ConfItem) (fault : ConfFault) → read items ≡ unread fault → ⊥
apart items fault e = cc

pub read_text : (text : List ℕ) (items : List ConfItem) → AnswersText text (Ok items) → HasConf (Some text) items
read_text text items p = elim p [ cut ts are is ↦ (ts, are, is) | bad n first e ↦ absurd (apart items _ e) | no_memory e ↦ absurd (apart items _ e) ]

pub refused_text : (text : List ℕ) (fault : ConfFault) → AnswersText text (Err fault) → OnRefusal (HasConfFault text) (conf_refusal fault)
refused_text text (conf.BadToken at) p = p
refused_text text (conf.Unexpected at) p = p
refused_text text (conf.Repeated at) p = p
refused_text text conf.OutOfMemory p = tt

pub refused_name : (items : List ConfItem) (text : List ℕ) (fault : ReplaceFault) → Replaces text items (Err fault) → OnRefusal (HasUndefined items text) (name_refusal fault)
refused_name items text (replacing.UndefinedName at) p = p
refused_name items text replacing.OutOfMemory p = tt

-- a set into which the values of a text are put
pub replaced : (dbgconf : Option (List ℕ)) (text : List ℕ) (items : List ConfItem) (plain : SeqSet) (r : Result SeqSet CheckRefusal) → dbgconf ≡ Some text → IfOk r (λ set. set.entries ≡ plain.entries)
    → IfOk r (λ set. Replaces plain.debugvars items (Ok set.debugvars)) → IfOk r (HasStartingValues dbgconf items plain)
replaced dbgconf text items plain (Ok set) is same put = subst (λ (o : Option (List ℕ)). HasStartingValues o items plain set) (sym is) (same, put)
replaced dbgconf text items plain (Err refusal) is same put = tt
