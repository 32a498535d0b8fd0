use Rattle.std.proofs.Common.{rules, ◌∙◌, List, ◌++◌, take, subst}
use Rattle.access_calls.specs.declared.issued.Issued.{Issued}
use Rattle.packed_access.specs.Counted.{CountsConfirmed}
use Rattle.packed_access.proofs.CountedLemmas.{counted_few}
use Rattle.packed_access.proofs.LogLemmas.{sound_settled, sound_state}
use Rattle.packed_access.proofs.log.CallLog.let_entries_go.Goals as goal

pub add-requires-clause-counts : goal.add-requires-clause-counts
add-requires-clause-counts c = counted_few c.self.inside.confirmed (take c.self.inside.entries.gone c.self.inside.entries.all) c.self.invariant.counts

pub invariant_of-self : goal.invariant_of-self
invariant_of-self c =
    sound_settled _ _ _ _ c.self.inside.entries.all c.self.inside.entries.gone _ _ _ _ _ _ _ _ c.self.inside.confirmed c.let_go.new.self.all c.let_go.new.self.gone _ c.add.new.self c.self.invariant
    c.let_go.ensures.all (c.let_go.ensures.gone ∙ c.len-count.ensures) c.let_go.ensures.longer
    (subst (λ (l : List Issued). CountsConfirmed c.add.new.self (take c.self.inside.entries.gone c.self.inside.entries.all ++ l)) c.kept_items.ensures
    (c.add.ensures (take c.self.inside.entries.gone c.self.inside.entries.all) c.self.invariant.counts))

pub returns : goal.returns
returns c = record { answer = record { so = search rules; sound = sound_state _ _ _ _ _ _ _ _ _ _ _ _ _ _ _ _ _ _ (invariant_of-self c) } }
