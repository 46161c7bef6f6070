use Rattle.std.proofs.Common.{◌≡◌, ◌++◌, ◌∷◌, [], ◌∙◌, sym, true, false, rules, map}
use Rattle.std.specs.List.{list_any}
use Rattle.std.specs.Str.{bytes_eq}
use Rattle.std.specs.String.{string_bytes}
use Rattle.tools_directories.specs.Directories.{each_once}
use Rattle.tools_directories.proofs.Once.{among-strings, kept_next, kept_same, listed_none}
use Rattle.tools_directories.proofs.Searches.{paths-from}
use Rattle.tools_directories.proofs.directories.each_once.Goals as goal
use Rattle.tools_directories.proofs.directories.each_once.Goals.{then-not-is_among+in_ok-add_directory, else-not-is_among}

pub loop-directory-init : goal.loop-directory-init
loop-directory-init c = rw c.new-each.ensures.items (listed_none (each_once (map string_bytes c.args.named.now)))

pub loop-directory-preserved : goal.loop-directory-preserved
loop-directory-preserved c =
    let from = paths-from string_bytes c.args.named.now c.loop-directory.directory-index c.directory-item.result (search rules) c.directory-item.is in
    let listed = map string_bytes c.loop-directory.each.items in
    let d = string_bytes c.directory-item.result in
    let held = rw from at c.loop-directory.invariant in
    elim c.if-not-is_among.branch [
      | then-not-is_among+in_ok-add_directory w ↦
          (let new : list_any (λ x. bytes_eq (string_bytes x) d) c.loop-directory.each.items ≡ false = search rules in
          let same : map string_bytes c.if-not-is_among.each.items ≡ listed ++ d ∷ [] = search rules in
          kept_next listed _ d _ _ held (sym (among-strings d c.loop-directory.each.items) ∙ new) same)
      | else-not-is_among w ↦
          (let there : list_any (λ x. bytes_eq (string_bytes x) d) c.loop-directory.each.items ≡ true =
          rw (c.as_str.ensures.value, c.as_slice.ensures.value) at (sym c.is_among.ensures ∙ w.if-not-is_among.false) in
          let same : map string_bytes c.if-not-is_among.each.items ≡ listed = search rules in
          kept_same listed _ d _ _ held (sym (among-strings d c.loop-directory.each.items) ∙ there) same)
    ]
