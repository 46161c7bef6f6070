use Rattle.std.proofs.Common.{List, subst, sym}
use Rattle.std.specs.Prelude.{ℕ, IsTrue, ◌≡◌}
use Rattle.std.proofs.lemmas.Result.{IfOk-weaker}
use Rattle.user_items.specs.Names.{is_user_defined_name}
use Rattle.user_extension.specs.UserDefined.{AreUserDefined, rows_of}
use Rattle.user_extension.specs.Laws.{as_read}
use Rattle.user_extension.specs.Reading.{said}
use Rattle.user_extension.specs.View.{read_rows}
use Rattle.user_extension.specs.declared.user_defined.UserDefined.{UserDefined}
use Rattle.user_changing.specs.Changes.{after, edits_of}
use Rattle.user_changing.proofs.Holding.{reads_back}
use Rattle.user_changing.proofs.writing.changed.Goals as goal

pub returns-clause-read : goal.returns-clause-read
returns-clause-read c =
    let same = sym c.deref.ensures.value in
    IfOk-weaker c.write.result _ _ (λ v h.
    reads_back c.entries_are_read.ensures c.every_name_is_found.ensures c.args.names.now c.args.entry.now (read_rows c.args.extension.now)
    (edits_of c.args.changes.now) _ (rows_of c.deref.result.now) v.items c.requires.present c.requires.no_nul c.requires.changes (record {
      tables = c.in_ok-table.ensures;
      user_defined = subst (λ (xs : List UserDefined). (name : List ℕ) → IsTrue (is_user_defined_name name) → said (as_read (rows_of xs)) name
          ≡ after (edits_of c.args.changes.now) name (said (read_rows c.args.extension.now) name)) same c.in_ok-rows.ensures.said;
      in_order = subst (λ (xs : List UserDefined). AreUserDefined (rows_of xs)) same c.in_ok-rows.ensures.are;
    }) c.values_agree.ensures h.0 h.1 h.2) c.write.ensures.ok
