-- The trees of a run are those of the set as it is, with the starting values put in, apart from places.
use Rattle.std.proofs.Common.{◌≡◌, ◌∙◌, ℕ, List, [], ◌∷◌, Option, Some, None, ap, refl, sym, subst}
use Rattle.expr_grammar.specs.declared.limit.Span.TheVariants as spans
use Rattle.expr_grammar.specs.Bare.{bare_code}
use Rattle.expr_grammar.specs.Grammar.{ReadsCode}
use Rattle.expr_grammar.specs.Tree.{StmtTree, Empty, Declare, Plain}
use Rattle.sequence_resolve.specs.declared.selection.Selection.{Selection}
use Rattle.sequence_resolve.specs.declared.entry.SeqEntry.{SeqEntry}
use Rattle.sequence_resolve.specs.declared.entry.SeqSet.{SeqSet}
use Rattle.sequence_trees.specs.Reading.{ReadsEntries, ReadsSet}
use Rattle.sequence_trees.specs.Texts.{IsCodeOf}
use Rattle.sequence_trees.specs.Trees.{SetTrees}
use Rattle.sequence_trees.proofs.SetLaws as sets
use Rattle.sequence_trees.proofs.TextLaws.{exact_code, one_value}
use Rattle.seq_check.specs.Answers.{checked_trees}
use Rattle.dbgconf_text.specs.declared.conf.ConfItem.{ConfItem}
use Rattle.dbgconf_text.specs.Cuts.{with_values}
use Rattle.dbgconf_text.specs.Replacing.{settings_of}
use Rattle.dbgconf_text.proofs.Replaced.{has_values}
use Rattle.dbgconf_text.proofs.Spelled.{small_values}
use Rattle.job_check.specs.Values.{HasConf, HasStartingValues}
use Rattle.job_check.specs.Running.{HasPlain, IsRunOfJob}
use Rattle.job_check.specs.declared.running.ValidRun.{ValidRun}
use Rattle.job_check.proofs.OneRun.{same_items, same_plain}
use Rattle.job_check.proofs.OneValues.{same_entries}

with_none : (code : List StmtTree) → with_values [] code ≡ code
with_none [] = refl
with_none (Empty at ∷ more) = ap (λ (l : List StmtTree). Empty at ∷ l) (with_none more)
with_none (Declare n e ∷ more) = ap (λ (l : List StmtTree). Declare n e ∷ l) (with_none more)
with_none (Plain at e ∷ more) = ap (λ (l : List StmtTree). Plain at e ∷ l) (with_none more)

-- a text is one code
one_code : (text : List ℕ) (a b : List StmtTree) → IsCodeOf text a → IsCodeOf text b → a ≡ b
one_code text a b p q = one_value ReadsCode spans.Statement exact_code text a b p q

put_in : (dbgconf : Option (List ℕ)) (items : List ConfItem) (plain set : SeqSet) (code new : List StmtTree) → HasConf dbgconf items → HasStartingValues dbgconf items plain set
    → IsCodeOf plain.debugvars code → IsCodeOf set.debugvars new → bare_code new ≡ bare_code (with_values (settings_of items) code)
put_in None items plain set code new none same old is =
    let as_before : new ≡ code = one_code plain.debugvars new code (subst (λ (s : SeqSet). IsCodeOf s.debugvars new) same is) old in
    ap bare_code (as_before ∙ sym (with_none code)) ∙ ap (λ (l : List ConfItem). bare_code (with_values (settings_of l) code)) (sym none)
put_in (Some text) items plain set code new has replaced old is =
    let r = has_values plain.debugvars items set.debugvars replaced.1 old.tokens code (small_values items has.0 has.2.reads) old.cut old.accepted in
    ap bare_code (one_code set.debugvars new r.1 is (record { tokens = r.0; cut = r.2; accepted = r.3 })) ∙ r.4

module _ (s : Selection) (name : List ℕ) (run : ValidRun) (is : IsRunOfJob s name run) (items : List ConfItem) (plain : SeqSet) (has : HasPlain run.job s items plain) where
  values_are : HasStartingValues run.job.dbgconf items plain run.set
  values_are =
      let same = same_plain run.job s is.set.items items is.set.plain plain is.set.of has in
      let same_values = same_items run.job s is.set.items items is.set.plain plain is.set.of has in
      subst (λ (l : List ConfItem). HasStartingValues run.job.dbgconf l plain run.set) same_values
      (subst (λ (x : SeqSet). HasStartingValues run.job.dbgconf is.set.items x run.set) same is.set.replaced)

  pub debugvars_put_in : (code : List StmtTree) → IsCodeOf plain.debugvars code → bare_code (checked_trees run.trees).debugvars ≡ bare_code (with_values (settings_of items) code)
  debugvars_put_in code old =
      put_in run.job.dbgconf items plain run.set code (checked_trees run.trees).debugvars has.values values_are old is.trees.reads.debugvars

  pub sequences_stay : (trees : SetTrees) → ReadsSet plain trees → (checked_trees run.trees).sequences ≡ trees.sequences
  sequences_stay trees reads =
      let own = (checked_trees run.trees).sequences in
      let entries = subst (λ (es : List SeqEntry). ReadsEntries es own) (same_entries run.job.dbgconf items plain run.set values_are) is.trees.reads.sequences in
      ap (λ (t : SetTrees). t.sequences) (sets.one_set plain (record { debugvars = trees.debugvars; sequences = own }) trees (record { debugvars = reads.debugvars; sequences = entries }) reads)
