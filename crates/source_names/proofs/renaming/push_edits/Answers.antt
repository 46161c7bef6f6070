use Rattle.std.proofs.Common.{rules, ◌≡◌, ◌+◌, ◌++◌, List, [], ◌∷◌, ap, drop, map, ◌∙◌, arith}
use Rattle.std.proofs.lemmas.List.{map-append}
use Rattle.source_names.specs.NameEdits.{name_edit_seen}
use Rattle.source_names.specs.Renaming.{RenameSeen, placed_edit, rename_edit_seen}
use Rattle.source_names.proofs.Seeking.{put_next}
use Rattle.source_names.proofs.renaming.push_edits.Goals as goal

pub loop-edit-preserved : goal.loop-edit-preserved
loop-edit-preserved c =
    let at = c.loop-edit.edit-index in
    let line = c.args.line in
    let block = c.args.block.now in
    let items = c.loop-edit.edits.items in
    let next = put_next line block c.args.found.now at _ (map rename_edit_seen items) _ _ _ c.in-Some.edit (omega arith) c.loop-edit.invariant.all
    c.loop-edit.invariant.so c.in_ok-edit.ensures c.in-Some.is in
    let pushed : c.push.new.self.items ≡ items ++ c.in-Some.edit ∷ [] = search rules in
    record {
      all = next.0;
      so = ap (λ (t : List RenameSeen). t ++ map (placed_edit line block) (map name_edit_seen (drop (at + 1) c.args.found.now)))
          (ap (map rename_edit_seen) pushed ∙ map-append rename_edit_seen items (c.in-Some.edit ∷ []))
          ∙ next.1;
    }
