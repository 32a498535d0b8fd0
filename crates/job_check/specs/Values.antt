-- The starting values of debug variables that a job has, and the set of sequences with these values.
use Rattle.std.specs.Prelude.{◌≡◌, ℕ, List, [], Option, Some, None, Ok, Err}
use Rattle.dap_base.specs.declared.text.Place.{Place}
use Rattle.expr_grammar.specs.Lexeme.{Lexeme}
use Rattle.expr_grammar.specs.Lexing.{AreTokensOf}
use Rattle.sequence_resolve.specs.declared.entry.SeqSet.{SeqSet}
use Rattle.dbgconf_text.specs.declared.conf.ConfItem.{ConfItem}
use Rattle.dbgconf_text.specs.declared.conf.ConfFault.{ConfFault}
use Rattle.dbgconf_text.specs.declared.conf.ConfFault.TheVariants as conf
use Rattle.dbgconf_text.specs.declared.replacing.ReplaceFault.{ReplaceFault}
use Rattle.dbgconf_text.specs.declared.replacing.ReplaceFault.TheVariants as replacing
use Rattle.dbgconf_text.specs.Conf.{AnswersText, IsConf}
use Rattle.dbgconf_text.specs.Replacing.{Replaces}
use Rattle.job_check.specs.declared.answer.DbgconfKind.{DbgconfKind}
use Rattle.job_check.specs.declared.answer.DbgconfKind.TheVariants as kinds
use Rattle.job_check.specs.declared.answer.CheckRefusal.{CheckRefusal}
use Rattle.job_check.specs.declared.answer.CheckRefusal.TheVariants as ends
use Rattle.job_check.specs.declared.answer.Refusal.{Refusal}
use Rattle.job_check.specs.declared.answer.Refusal.TheVariants as refusals

-- ---- the text of the values

-- The names and values of the job: those of its text, and none where it has no text.
abbrev pub HasConf : Option (List ℕ) → List ConfItem → Type 0
HasConf None items = items ≡ []
HasConf (Some text) items = (ts : List Lexeme) × AreTokensOf text ts × IsConf ts items

-- The text is no list of names and values: its first bad token, or the first token that is unexpected or a name that stands before.
abbrev pub IsConfFault : List ℕ → DbgconfKind → Place → Type 0
IsConfFault text kinds.BadToken at = AnswersText text (Err (conf.BadToken at))
IsConfFault text kinds.Unexpected at = AnswersText text (Err (conf.Unexpected at))
IsConfFault text kinds.Repeated at = AnswersText text (Err (conf.Repeated at))
IsConfFault text kinds.UndefinedName at = ⊥

-- the text of the values has this fault
abbrev pub HasConfFault : List ℕ → Refusal → Type 0
HasConfFault text (refusals.Dbgconf kind at) = IsConfFault text kind at
HasConfFault text other = ⊥

-- the job has a text of values, which is no list of names and values, with this fault
abbrev pub NoConf : Option (List ℕ) → Refusal → Type 0
NoConf None r = ⊥
NoConf (Some text) r = HasConfFault text r

-- the refusal of a fault of the text, or that memory ran out
abbrev pub conf_refusal : ConfFault → CheckRefusal
conf_refusal (conf.BadToken at) = ends.Refused (refusals.Dbgconf kinds.BadToken at)
conf_refusal (conf.Unexpected at) = ends.Refused (refusals.Dbgconf kinds.Unexpected at)
conf_refusal (conf.Repeated at) = ends.Refused (refusals.Dbgconf kinds.Repeated at)
conf_refusal conf.OutOfMemory = ends.OutOfMemory

-- ---- the set with the values

-- The set with the values put into its debug variables. Where the job has no text of values, it is the set as it is.
abbrev pub HasStartingValues : Option (List ℕ) → List ConfItem → SeqSet → SeqSet → Type 0
HasStartingValues None items plain set = set ≡ plain
HasStartingValues (Some text) items plain set = (set.entries ≡ plain.entries) × Replaces plain.debugvars items (Ok set.debugvars)

-- no `__var` of these debug variables declares a name: the place of the first such name in the text of the values
abbrev pub HasUndefined : List ConfItem → List ℕ → Refusal → Type 0
HasUndefined items debugvars (refusals.Dbgconf kinds.UndefinedName at) = Replaces debugvars items (Err (replacing.UndefinedName at))
HasUndefined items debugvars other = ⊥

-- the refusal of a name that is not declared, or that memory ran out
abbrev pub name_refusal : ReplaceFault → CheckRefusal
name_refusal (replacing.UndefinedName at) = ends.Refused (refusals.Dbgconf kinds.UndefinedName at)
name_refusal replacing.OutOfMemory = ends.OutOfMemory

-- the values can not be put in: the debug variables are code that does not declare each name
abbrev pub NoValues : Option (List ℕ) → List ConfItem → SeqSet → Refusal → Type 0
NoValues None items plain r = ⊥
NoValues (Some text) items plain r = HasUndefined items plain.debugvars r
