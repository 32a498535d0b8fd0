-- A coverage as text.
use Rattle.std.specs.Prelude.{ℕ, Bool, ◌&&◌, List, [], ◌++◌, length, filter, codes, decimal, if◌then◌else◌}
use Rattle.std.specs.List.{flat_map}
use Rattle.text_lines.specs.Shown.{shown_text}
use Rattle.sequence_trees.specs.Trees.{SetTrees}
use Rattle.run_events.specs.Events.{Event}
use Rattle.run_coverage.specs.declared.items.Item.{Item}
use Rattle.run_coverage.specs.Covered.{happens}
use Rattle.run_coverage.specs.Items.{sequence_items}
use Rattle.run_coverage.specs.Reach.{reached_names}

-- Which words have happened.
module _ (has : List ℕ → Bool) where
  -- a statement that ran
  abbrev pub has_run : Item → Bool
  has_run item = item.is_statement && has item.words

  -- how many statements ran, of all
  abbrev pub count_text : List Item → List ℕ
  count_text items = decimal (length (filter has_run items)) ++ codes " of " ++ decimal (length (filter (λ i. i.is_statement) items)) ++ codes "\n"

  -- the line of the sequence of a name
  abbrev pub covered_line : SetTrees → List ℕ → List ℕ
  covered_line set name = codes "covered " ++ shown_text name ++ codes " " ++ count_text (sequence_items set name)

  -- the line of what has not happened
  abbrev pub never_line : Item → List ℕ
  never_line item = if has item.words then [] else codes "  never " ++ item.words ++ codes "\n"

  -- the lines of sequences: a line for each, one for all, and what has not happened
  abbrev pub coverage_lines : SetTrees → List (List ℕ) → List ℕ
  coverage_lines set names =
      flat_map (covered_line set) names
      ++ (codes "covered all " ++ count_text (flat_map (sequence_items set) names))
      ++ flat_map never_line (flat_map (sequence_items set) names)

-- The coverage of the sequences that the run of a sequence can reach, by the events of the run.
abbrev pub coverage_text : SetTrees → List ℕ → List Event → List ℕ
coverage_text set start events = coverage_lines (happens events) set (reached_names set start)
