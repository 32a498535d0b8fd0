-- A job has one list of starting values, or one fault of their text. A set has one set with these values, or one name that it does not declare.
use Rattle.std.proofs.Common.{◌≡◌, ◌≢◌, ◌∙◌, ℕ, List, Option, Some, None, Ok, Err, ap, refl, sym}
use Rattle.dap_base.specs.declared.text.Place.{Place}
use Rattle.sequence_resolve.specs.declared.entry.SeqSet.{SeqSet}
use Rattle.sequence_resolve.proofs.OneSet.{same_set}
use Rattle.dbgconf_text.specs.declared.conf.ConfItem.{ConfItem}
use Rattle.dbgconf_text.specs.declared.conf.ConfFault.{ConfFault}
use Rattle.dbgconf_text.specs.declared.conf.ConfFault.TheVariants as conf
use Rattle.dbgconf_text.specs.declared.replacing.ReplaceFault.TheVariants as replacing
use Rattle.dbgconf_text.specs.Conf.{AnswersText, cut}
use Rattle.dbgconf_text.specs.Replacing.{Replaces}
use Rattle.dbgconf_text.proofs.OneConf.{gives}
use Rattle.dbgconf_text.proofs.OneFault.{one_fault}
use Rattle.dbgconf_text.proofs.OneReplacement.{one_place, one_text, text_or_place}
use Rattle.job_check.specs.declared.answer.DbgconfKind.TheVariants as kinds
use Rattle.job_check.specs.declared.answer.Refusal.{Refusal}
use Rattle.job_check.specs.declared.answer.Refusal.TheVariants as refusals
use Rattle.job_check.specs.Values.{HasConf, HasConfFault, HasStartingValues, HasUndefined, NoConf, NoValues}

-- ---- one list of values

pub one_conf : (dbgconf : Option (List ℕ)) (a b : List ConfItem) → HasConf dbgconf a → HasConf dbgconf b → a ≡ b
one_conf None a b p q = p ∙ sym q
one_conf (Some text) a b p q = gives text q.0 b (Ok a) (cut p.0 p.1 p.2) q.1 q.2

conf_and_fault : (text : List ℕ) (items : List ConfItem) (r : Refusal) → HasConf (Some text) items → HasConfFault text r → ⊥
conf_and_fault text items (refusals.Dbgconf kinds.BadToken at) p q = gives text p.0 items (Err (conf.BadToken at)) q p.1 p.2
conf_and_fault text items (refusals.Dbgconf kinds.Unexpected at) p q = gives text p.0 items (Err (conf.Unexpected at)) q p.1 p.2
conf_and_fault text items (refusals.Dbgconf kinds.Repeated at) p q = gives text p.0 items (Err (conf.Repeated at)) q p.1 p.2
conf_and_fault text items (refusals.Dbgconf kinds.UndefinedName at) p q = q
conf_and_fault text items refusals.BadJson p q = q
conf_and_fault text items (refusals.Job fault) p q = q
conf_and_fault text items refusals.NoDevice p q = q
conf_and_fault text items refusals.AmbiguousDevice p q = q
conf_and_fault text items refusals.NoVariant p q = q
conf_and_fault text items (refusals.Image what line) p q = q
conf_and_fault text items (refusals.Check kind spot) p q = q

pub conf_and_none : (dbgconf : Option (List ℕ)) (items : List ConfItem) (r : Refusal) → HasConf dbgconf items → NoConf dbgconf r → ⊥
conf_and_none None items r p q = q
conf_and_none (Some text) items r p q = conf_and_fault text items r p q

-- ---- one fault

-- the refusal of a fault
refusal_of : ConfFault → Refusal
refusal_of (conf.BadToken at) = refusals.Dbgconf kinds.BadToken at
refusal_of (conf.Unexpected at) = refusals.Dbgconf kinds.Unexpected at
refusal_of (conf.Repeated at) = refusals.Dbgconf kinds.Repeated at
refusal_of conf.OutOfMemory = refusals.BadJson

-- a refusal is that of a fault of the text
record OfFault (text : List ℕ) (r : Refusal) : Type 0 where
  fault : ConfFault
  is : AnswersText text (Err fault)
  some : fault ≢ conf.OutOfMemory
  of : r ≡ refusal_of fault

bad_apart : (at : Place) → conf.BadToken at ≢ conf.OutOfMemory
bad_apart at e = cc

unexpected_apart : (at : Place) → conf.Unexpected at ≢ conf.OutOfMemory
unexpected_apart at e = cc

repeated_apart : (at : Place) → conf.Repeated at ≢ conf.OutOfMemory
repeated_apart at e = cc

fault_of : (text : List ℕ) (r : Refusal) → HasConfFault text r → OfFault text r
unfolding refusal_of
fault_of text (refusals.Dbgconf kinds.BadToken at) p = record { fault = conf.BadToken at; is = p; some = bad_apart at; of = refl }
fault_of text (refusals.Dbgconf kinds.Unexpected at) p = record { fault = conf.Unexpected at; is = p; some = unexpected_apart at; of = refl }
fault_of text (refusals.Dbgconf kinds.Repeated at) p = record { fault = conf.Repeated at; is = p; some = repeated_apart at; of = refl }
fault_of text (refusals.Dbgconf kinds.UndefinedName at) p = absurd p
fault_of text refusals.BadJson p = absurd p
fault_of text (refusals.Job fault) p = absurd p
fault_of text refusals.NoDevice p = absurd p
fault_of text refusals.AmbiguousDevice p = absurd p
fault_of text refusals.NoVariant p = absurd p
fault_of text (refusals.Image what line) p = absurd p
fault_of text (refusals.Check kind spot) p = absurd p

pub one_no_conf : (dbgconf : Option (List ℕ)) (a b : Refusal) → NoConf dbgconf a → NoConf dbgconf b → a ≡ b
one_no_conf None a b p q = absurd p
one_no_conf (Some text) a b p q =
    let x = fault_of text a p in
    let y = fault_of text b q in
    x.of ∙ ap refusal_of (one_fault text x.fault y.fault x.is y.is x.some y.some) ∙ sym y.of

-- ---- one set with the values

pub one_with_values : (dbgconf : Option (List ℕ)) (items : List ConfItem) (plain a b : SeqSet) → HasStartingValues dbgconf items plain a → HasStartingValues dbgconf items plain b → a ≡ b
one_with_values None items plain a b p q = p ∙ sym q
one_with_values (Some text) items plain a b p q =
    same_set a b (p.0 ∙ sym q.0) (one_text plain.debugvars items a.debugvars b.debugvars p.1 q.1)

values_and_undefined : (items : List ConfItem) (text fresh : List ℕ) (r : Refusal) → Replaces text items (Ok fresh) → HasUndefined items text r → ⊥
values_and_undefined items text fresh (refusals.Dbgconf kinds.UndefinedName at) p q = text_or_place text items fresh at p q
values_and_undefined items text fresh (refusals.Dbgconf kinds.BadToken at) p q = q
values_and_undefined items text fresh (refusals.Dbgconf kinds.Unexpected at) p q = q
values_and_undefined items text fresh (refusals.Dbgconf kinds.Repeated at) p q = q
values_and_undefined items text fresh refusals.BadJson p q = q
values_and_undefined items text fresh (refusals.Job fault) p q = q
values_and_undefined items text fresh refusals.NoDevice p q = q
values_and_undefined items text fresh refusals.AmbiguousDevice p q = q
values_and_undefined items text fresh refusals.NoVariant p q = q
values_and_undefined items text fresh (refusals.Image what line) p q = q
values_and_undefined items text fresh (refusals.Check kind spot) p q = q

pub values_and_none : (dbgconf : Option (List ℕ)) (items : List ConfItem) (plain set : SeqSet) (r : Refusal) → HasStartingValues dbgconf items plain set → NoValues dbgconf items plain r → ⊥
values_and_none None items plain set r p q = q
values_and_none (Some text) items plain set r p q = values_and_undefined items plain.debugvars set.debugvars r p.1 q

-- a refusal is that of a name that is not declared
record OfName (items : List ConfItem) (text : List ℕ) (r : Refusal) : Type 0 where
  place : Place
  is : Replaces text items (Err (replacing.UndefinedName place))
  of : r ≡ refusals.Dbgconf kinds.UndefinedName place

name_of : (items : List ConfItem) (text : List ℕ) (r : Refusal) → HasUndefined items text r → OfName items text r
name_of items text (refusals.Dbgconf kinds.UndefinedName at) p = record { place = at; is = p; of = refl }
name_of items text (refusals.Dbgconf kinds.BadToken at) p = absurd p
name_of items text (refusals.Dbgconf kinds.Unexpected at) p = absurd p
name_of items text (refusals.Dbgconf kinds.Repeated at) p = absurd p
name_of items text refusals.BadJson p = absurd p
name_of items text (refusals.Job fault) p = absurd p
name_of items text refusals.NoDevice p = absurd p
name_of items text refusals.AmbiguousDevice p = absurd p
name_of items text refusals.NoVariant p = absurd p
name_of items text (refusals.Image what line) p = absurd p
name_of items text (refusals.Check kind spot) p = absurd p

pub one_no_values : (dbgconf : Option (List ℕ)) (items : List ConfItem) (plain : SeqSet) (a b : Refusal) → NoValues dbgconf items plain a → NoValues dbgconf items plain b → a ≡ b
one_no_values None items plain a b p q = absurd p
one_no_values (Some text) items plain a b p q =
    let x = name_of items plain.debugvars a p in
    let y = name_of items plain.debugvars b q in
    x.of ∙ ap (refusals.Dbgconf kinds.UndefinedName) (one_place plain.debugvars items x.place y.place x.is y.is) ∙ sym y.of

-- ---- the sequences stay

pub same_entries : (dbgconf : Option (List ℕ)) (items : List ConfItem) (plain set : SeqSet) → HasStartingValues dbgconf items plain set → set.entries ≡ plain.entries
same_entries None items plain set p = ap (λ (s : SeqSet). s.entries) p
same_entries (Some text) items plain set p = p.0
