use Rattle.std.proofs.Common.{◌≡◌, ◌+◌, Some, None, rules, ◌∙◌}
use Rattle.std.specs.String.{string_bytes}
use Rattle.std.proofs.lemmas.List.{drop_all}
use Rattle.tools_devices.specs.Tree.{FindsFile}
use Rattle.tools_directories.specs.Finding.{front_size}
use Rattle.tools_directories.proofs.Searches.{Finds-absent, Finds-failed, Finds-here, Finds-none, HasFailed-more, paths-from}
use Rattle.tools_directories.proofs.finding.search.Goals as goal
use Rattle.tools_directories.proofs.finding.search.Goals.{in-Ok-None, in-Err-Failed}

pub returns-in-Ok-Some-clause-found : goal.returns-in-Ok-Some-clause-found
returns-in-Ok-Some-clause-found g c =
    let files = g.T.Tree.files c.args.tree.now in
    let path = string_bytes c.path-item.result in
    let at : FindsFile path front_size files (Some c.in-Ok-Some.bytes.items) =
    rw (c.as_str.ensures.value, c.loop-path.invariant.kept, c.in-Ok-Some.field-0-is) at c.in-Ok-Some.ensures.found in
    let same : string_bytes c.in_ok-path-in-Ok-Some.path ≡ path = search rules in
    let counted : g.T.Tree.failures c.read.new.self ≡ g.T.Tree.failures c.loop-path.tree + 0 = search rules in
    c.loop-path.invariant.rest (g.T.Tree.failures c.read.new.self) (Some (string_bytes c.in_ok-path-in-Ok-Some.path, c.in-Ok-Some.bytes.items))
    (rw (paths-from string_bytes c.args.paths.now c.loop-path.path-index c.path-item.result (search rules) c.path-item.is, same)
    (Finds-here files path c.in-Ok-Some.bytes.items _ _ _ at counted))

pub loop-path-preserved : goal.loop-path-preserved
loop-path-preserved g c =
    let files = g.T.Tree.files c.args.tree.now in
    let path = string_bytes c.path-item.result in
    let from = paths-from string_bytes c.args.paths.now c.loop-path.path-index c.path-item.result (search rules) c.path-item.is in
    elim c.match-read.branch [
      | in-Ok-None w ↦
          (let at : FindsFile path front_size files None = rw (c.as_str.ensures.value, c.loop-path.invariant.kept, w.in-Ok-None.field-0-is) at
          w.in-Ok-None.ensures.found in
          let counted : g.T.Tree.failures c.read.new.self ≡ g.T.Tree.failures c.loop-path.tree + 0 = search rules in
          record {
            rest = λ after file later. c.loop-path.invariant.rest after file (rw from (Finds-absent files path _ _ _ after file at counted later));
            kept = c.read.ensures.kept ∙ c.loop-path.invariant.kept;
            failed = HasFailed-more _ _ _ 0 c.loop-path.invariant.failed counted;
          })
      | in-Err-Failed w ↦
          (let counted : g.T.Tree.failures c.read.new.self ≡ g.T.Tree.failures c.loop-path.tree + 1 = search rules in
          record {
            rest = λ after file later. c.loop-path.invariant.rest after file (rw from (Finds-failed files path _ _ _ after file counted later));
            kept = c.read.ensures.kept ∙ c.loop-path.invariant.kept;
            failed = HasFailed-more _ _ _ 1 c.loop-path.invariant.failed counted;
          })
    ]

pub returns-clause-found : goal.returns-clause-found
returns-clause-found g c =
    c.loop-path.invariant.rest (g.T.Tree.failures c.loop-path.tree) None
    (rw (drop_all c.loop-path.path-index c.args.paths.now (search rules)) (Finds-none (g.T.Tree.files c.args.tree.now) _))
