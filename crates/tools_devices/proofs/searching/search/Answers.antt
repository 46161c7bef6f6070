use Rattle.std.proofs.Common.{◌+◌, Some, None, rules, ◌∙◌}
use Rattle.std.specs.String.{string_bytes}
use Rattle.std.proofs.lemmas.List.{drop_all}
use Rattle.tools_devices.specs.Paths.{path_of}
use Rattle.tools_devices.specs.Tree.{FindsFile}
use Rattle.tools_devices.proofs.Searches.{Finds-here, Finds-later, Finds-none, directories-from}
use Rattle.tools_devices.proofs.searching.search.Goals as goal

pub returns-in-Ok-Some-clause-found : goal.returns-in-Ok-Some-clause-found
returns-in-Ok-Some-clause-found g c =
    let files = g.T.Tree.files c.args.tree.now in
    let at : FindsFile (path_of (string_bytes c.directory-item.result) c.args.name.now) (c.args.limit + 1) files (Some c.in-Ok-Some.bytes.items) =
    rw (c.as_str-in-loop-directory.ensures.value, c.in_ok-path.ensures, c.as_str.ensures.value, c.loop-directory.invariant.kept, c.in-Ok-Some.field-0-is) at
    c.in-Ok-Some.ensures.found in
    c.loop-directory.invariant.rest (Some c.in-Ok-Some.bytes.items)
    (rw (directories-from string_bytes c.args.directories.now c.loop-directory.directory-index c.directory-item.result (search rules) c.directory-item.is)
    (Finds-here _ files _ _ _ _ at))

pub loop-directory-preserved : goal.loop-directory-preserved
loop-directory-preserved g c =
    let files = g.T.Tree.files c.args.tree.now in
    let at : FindsFile (path_of (string_bytes c.directory-item.result) c.args.name.now) (c.args.limit + 1) files None =
    rw (c.as_str-in-loop-directory.ensures.value, c.in_ok-path.ensures, c.as_str.ensures.value, c.loop-directory.invariant.kept, c.in-Ok-None.field-0-is) at
    c.in-Ok-None.ensures.found in record {
      rest = λ found later. c.loop-directory.invariant.rest found
          (rw (directories-from string_bytes c.args.directories.now c.loop-directory.directory-index c.directory-item.result (search rules) c.directory-item.is)
          (Finds-later _ files _ _ _ found at later));
      kept = c.read.ensures.kept ∙ c.loop-directory.invariant.kept;
      steady = search rules;
    }

pub returns-clause-found : goal.returns-clause-found
returns-clause-found g c =
    c.loop-directory.invariant.rest None
    (rw (drop_all c.loop-directory.directory-index c.args.directories.now (search rules)) (Finds-none _ (g.T.Tree.files c.args.tree.now) c.args.name.now))
