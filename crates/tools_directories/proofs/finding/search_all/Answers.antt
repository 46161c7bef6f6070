use Rattle.std.proofs.Common.{◌≡◌, None, Some, map, option_map, rules}
use Rattle.std.specs.String.{string_bytes}
use Rattle.std.proofs.lemmas.Result.{IfOk-weaker, on_err_weaker}
use Rattle.tools_directories.specs.Finding.{Finds, file_of}
use Rattle.tools_directories.specs.Paths.{hexadecimal_paths_of, letter_paths_of}
use Rattle.tools_directories.proofs.Searches.{Finds-first, Finds-later, HasFailed-more}
use Rattle.tools_directories.proofs.finding.search_all.Goals as goal

pub returns-in-Some-clause-found : goal.returns-in-Some-clause-found
returns-in-Some-clause-found g c =
    let files = g.T.Tree.files c.args.tree.now in
    let name = c.args.name.now in
    let dirs = map string_bytes c.args.directories.now in
    let found : Finds files (letter_paths_of name dirs) (g.T.Tree.failures c.args.tree.now) (g.T.Tree.failures c.search.new.tree)
    (Some (file_of c.in-Some.found)) =
    rw (c.as_slice.ensures.value, c.in_ok-letters.ensures, c.in-Some.is) at c.in_ok-found.ensures.found in
    Finds-first files (letter_paths_of name dirs) (hexadecimal_paths_of name dirs) _ _ (file_of c.in-Some.found) found

pub returns-clause-found : goal.returns-clause-found
returns-clause-found g c =
    let files = g.T.Tree.files c.args.tree.now in
    let name = c.args.name.now in
    let dirs = map string_bytes c.args.directories.now in
    let none : c.in_ok-found.field-0 ≡ None = search rules in
    let first : Finds files (letter_paths_of name dirs) (g.T.Tree.failures c.args.tree.now) (g.T.Tree.failures c.search.new.tree) None =
    rw (c.as_slice.ensures.value, c.in_ok-letters.ensures, none) at c.in_ok-found.ensures.found in
    IfOk-weaker c.search-2.result _ _
    (λ found is.
    Finds-later files (letter_paths_of name dirs) (hexadecimal_paths_of name dirs) _ _ _ (option_map file_of found) first
    (rw (c.as_slice-2.ensures.value, c.in_ok-others.ensures, c.search.ensures.kept) at is))
    c.search-2.ensures.found

pub returns-clause-failed : goal.returns-clause-failed
returns-clause-failed g c =
    let first = c.in_ok-found.ensures.found in
    on_err_weaker c.search-2.result (λ failed. HasFailed-more _ _ _ failed.0 (first.0, first.1) failed.1) c.search-2.ensures.failed
