-- each step reads the file of one name
use Rattle.std.proofs.Common.{Bor, ◌∙◌, ◌++◌, [], ◌∷◌, List, Option, Some, None, ℕ, ap, get_or, map, rules, subst, sym, append-nil, append_assoc}
use Rattle.std.specs.Prelude.{option_map, Err, Ok}
use Rattle.std.specs.String.{string_bytes}
use Rattle.tools_devices.specs.Tree.{Files}
use Rattle.tools_directories.specs.declared.finding.Found.{Found}
use Rattle.everyday_entries.specs.Failures.{out_of_memory}
use Rattle.everyday_infocmp.specs.Reading.{GivesFiles, GivesSought, Sought, directories_for, sought_names}
use Rattle.everyday_infocmp.proofs.Files.{GivesFiles-missed, GivesFiles-none, GivesFiles-read, kept-items, memory-sought, names-at, names-end, pushed-items}
use Rattle.everyday_infocmp.proofs.reading.read_files.Goals as goal

-- what is past the end of the names
past : Bor (List ℕ)
past = record { ref_ptr = (0, 0); now = [] }

pub loop-name-preserved : goal.loop-name-preserved
unfolding past
loop-name-preserved g c =
    let files = g.T.Tree.files c.args.tree.now in
    let dirs = map string_bytes c.args.places.now.directories.now in
    let other = option_map (λ (dir : Bor (List ℕ)). dir.now) c.args.places.now.other in
    let first = option_map (λ (dir : Bor (List ℕ)). dir.now) c.args.places.now.first in
    let only = option_map (λ (dir : Bor (List ℕ)). dir.now) c.loop-name.only in
    let before = g.T.Tree.failures c.args.tree.now in
    let now = g.T.Tree.failures c.loop-name.tree in
    let new = g.T.Tree.failures c.sought_file.new.tree in
    let all = sought_names (map (λ (name : Bor (List ℕ)). name.now) c.args.names.now) first other dirs in
    let from = names-at (λ (name : Bor (List ℕ)). name.now) c.args.names.now c.loop-name.name-index past only other dirs c.loop-name-test.true in
    let text = (get_or c.args.names.now c.loop-name.name-index past).now in
    let one : GivesSought files text (directories_for only dirs) now new (Ok c.in-Ok.file) =
    subst (λ (fs : Option Files). GivesSought fs text (directories_for only dirs) now new (Ok c.in-Ok.file)) c.loop-name.invariant.kept c.in-Ok.ensures.file in
    let pushed = pushed-items c.push.result _ _ c.in-Ok.file c.push.ensures.items (search rules) in
    record {
      rest = λ after later stop h.
          subst (λ (found : List Found). GivesFiles files all before after found stop)
          (sym (ap (λ (found : List Found). found ++ later) pushed ∙ append_assoc c.loop-name.files.items (c.in-Ok.file ∷ []) later))
          (c.loop-name.invariant.rest after (c.in-Ok.file ∷ later) stop
          (subst (λ (names : List Sought). GivesFiles files names now after (c.in-Ok.file ∷ later) stop) (sym from)
          (GivesFiles-read files text (directories_for only dirs) _ now new after c.in-Ok.file later stop one h)));
      kept = c.in-Ok.ensures.kept ∙ c.loop-name.invariant.kept;
    }

pub returns-in-Err-clause-files : goal.returns-in-Err-clause-files
unfolding past
returns-in-Err-clause-files g c =
    let files = g.T.Tree.files c.args.tree.now in
    let dirs = map string_bytes c.args.places.now.directories.now in
    let other = option_map (λ (dir : Bor (List ℕ)). dir.now) c.args.places.now.other in
    let first = option_map (λ (dir : Bor (List ℕ)). dir.now) c.args.places.now.first in
    let only = option_map (λ (dir : Bor (List ℕ)). dir.now) c.loop-name.only in
    let before = g.T.Tree.failures c.args.tree.now in
    let now = g.T.Tree.failures c.loop-name.tree in
    let new = g.T.Tree.failures c.sought_file.new.tree in
    let all = sought_names (map (λ (name : Bor (List ℕ)). name.now) c.args.names.now) first other dirs in
    let from = names-at (λ (name : Bor (List ℕ)). name.now) c.args.names.now c.loop-name.name-index past only other dirs c.loop-name-test.true in
    let text = (get_or c.args.names.now c.loop-name.name-index past).now in
    let one : GivesSought files text (directories_for only dirs) now new (Err c.in-Err.failure) =
    subst (λ (fs : Option Files). GivesSought fs text (directories_for only dirs) now new (Err c.in-Err.failure)) c.loop-name.invariant.kept
    c.in-Err.ensures.file in
    subst (λ (found : List Found). GivesFiles files all before new found (Some c.in-Err.failure)) (append-nil c.loop-name.files.items)
    (c.loop-name.invariant.rest new [] (Some c.in-Err.failure)
    (subst (λ (names : List Sought). GivesFiles files names now new [] (Some c.in-Err.failure)) (sym from)
    (GivesFiles-missed files text (directories_for only dirs) _ now new c.in-Err.failure one)))

pub returns-then-is_err-clause-files : goal.returns-then-is_err-clause-files
unfolding past
returns-then-is_err-clause-files g c =
    let files = g.T.Tree.files c.args.tree.now in
    let dirs = map string_bytes c.args.places.now.directories.now in
    let other = option_map (λ (dir : Bor (List ℕ)). dir.now) c.args.places.now.other in
    let first = option_map (λ (dir : Bor (List ℕ)). dir.now) c.args.places.now.first in
    let only = option_map (λ (dir : Bor (List ℕ)). dir.now) c.loop-name.only in
    let before = g.T.Tree.failures c.args.tree.now in
    let now = g.T.Tree.failures c.loop-name.tree in
    let new = g.T.Tree.failures c.sought_file.new.tree in
    let all = sought_names (map (λ (name : Bor (List ℕ)). name.now) c.args.names.now) first other dirs in
    let from = names-at (λ (name : Bor (List ℕ)). name.now) c.args.names.now c.loop-name.name-index past only other dirs c.loop-name-test.true in
    let text = (get_or c.args.names.now c.loop-name.name-index past).now in
    let one : GivesSought files text (directories_for only dirs) now new (Ok c.in-Ok.file) =
    subst (λ (fs : Option Files). GivesSought fs text (directories_for only dirs) now new (Ok c.in-Ok.file)) c.loop-name.invariant.kept c.in-Ok.ensures.file in
    let same = kept-items c.push.result _ _ c.in-Ok.file c.push.ensures.items (search rules) in
    subst (λ (found : List Found). GivesFiles files all before new found (Some out_of_memory)) (append-nil c.loop-name.files.items ∙ sym same)
    (c.loop-name.invariant.rest new [] (Some out_of_memory)
    (subst (λ (names : List Sought). GivesFiles files names now new [] (Some out_of_memory)) (sym from)
    (GivesFiles-missed files text (directories_for only dirs) _ now new out_of_memory (memory-sought files text (directories_for only dirs) now new _ one))))

pub returns-clause-files : goal.returns-clause-files
returns-clause-files g c =
    let files = g.T.Tree.files c.args.tree.now in
    let dirs = map string_bytes c.args.places.now.directories.now in
    let other = option_map (λ (dir : Bor (List ℕ)). dir.now) c.args.places.now.other in
    let first = option_map (λ (dir : Bor (List ℕ)). dir.now) c.args.places.now.first in
    let only = option_map (λ (dir : Bor (List ℕ)). dir.now) c.loop-name.only in
    let before = g.T.Tree.failures c.args.tree.now in
    let now = g.T.Tree.failures c.loop-name.tree in
    let all = sought_names (map (λ (name : Bor (List ℕ)). name.now) c.args.names.now) first other dirs in
    let none = names-end (λ (name : Bor (List ℕ)). name.now) c.args.names.now c.loop-name.name-index only other dirs c.loop-name-test.false in
    subst (λ (found : List Found). GivesFiles files all before now found None) (append-nil c.loop-name.files.items)
    (c.loop-name.invariant.rest now [] None
    (subst (λ (names : List Sought). GivesFiles files names now now [] None) (sym none) (GivesFiles-none files now)))
