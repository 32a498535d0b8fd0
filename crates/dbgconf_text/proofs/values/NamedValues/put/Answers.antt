use Rattle.std.proofs.Common.{ℕ, List, Some, cond, ap, ◌∙◌, bytes_eq, string_bytes}
use Rattle.std.proofs.lemmas.Map.Text.{hash_map_updates_text}
use Rattle.dbgconf_text.specs.Values.{value_in}
use Rattle.dbgconf_text.proofs.values.NamedValues.put.Goals as goal
use Rattle.dbgconf_text.proofs.values.NamedValues.put.Goals.{in-Ok-insert, in-Err}

pub returns : goal.returns
returns c =
    elim c.match-insert.branch [
      | in-Ok-insert w ↦ rw w.result-is (λ other.
          hash_map_updates_text (string_bytes c.in-Ok.name) c.args.self.now.numbers c.insert.new.self (Some c.args.number) w.in-Ok-insert.ensures.updates other
          ∙ ap (λ (n : List ℕ). cond (bytes_eq n other) (Some c.args.number) (value_in c.args.self.now other)) c.in-Ok.ensures.ok)
      | in-Err w ↦ rw w.result-is tt
    ]
