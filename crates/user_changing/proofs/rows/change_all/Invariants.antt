use Rattle.std.proofs.Common.{◌≡◌, ℕ, List, drop}
use Rattle.std.specs.Prelude.{IsTrue}
use Rattle.user_items.specs.Names.{is_user_defined_name}
use Rattle.user_extension.specs.UserDefined.{AreUserDefined, rows_of}
use Rattle.user_extension.specs.Laws.{as_read}
use Rattle.user_extension.specs.Reading.{said}
use Rattle.user_changing.specs.Changes.{after, edits_of}
use Rattle.user_changing.proofs.rows.change_all.Given as goal

-- what the changes that are left make of what the rows say is what all make of the first
abbrev pub invariant-loop-change : goal.invariant-loop-change
invariant-loop-change l = record {
  are : AreUserDefined (rows_of l.rows.items);
  said : (name : List ℕ) → IsTrue (is_user_defined_name name) → after (edits_of (drop l.change-index l.changes)) name (said (as_read (rows_of l.rows.items)) name)
      ≡ after (edits_of l.changes) name (said (as_read (rows_of l.fn.rows.items)) name);
}
