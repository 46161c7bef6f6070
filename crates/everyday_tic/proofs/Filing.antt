-- The files of entries, name by name and block by block.
use Rattle.std.proofs.Common.{◌≡◌, ℕ, suc, ◌+◌, ◌<◌, Bool, false, true, cond, option_and_then, slice_get, List, [], ◌∷◌, ◌++◌}
use Rattle.std.proofs.Common.{length, map, get_or, Option, Some, refl, sym, ap, ◌∙◌, arith}
use Rattle.std.specs.Prelude.{count_by}
use Rattle.std.specs.List.{range_with_len}
use Rattle.std.specs.Option.{option_map_or}
use Rattle.std.proofs.lemmas.List.{length-append, length-map}
use Rattle.std.proofs.lemmas.Option.{slice_get-get_or, slice_get-map}
use Rattle.std.proofs.lemmas.List.Sums.{sum_by-append, sum_by-cons}
use Rattle.ti_source.specs.declared.parsing.Rule.{Rule}
use Rattle.base_meaning.specs.Readings.{reading_by, readings_by}
use Rattle.tools_devices.specs.Tree.{FileAt}
use Rattle.base_meaning.specs.Compiled.{EntryState, compiled_by, state_of}
use Rattle.tools_devices.specs.Placing.{entries, placed_entry}
use Rattle.tools_devices.specs.declared.placing.File.{File}
use Rattle.tools_sources.specs.EntryFiles.{entry_files, names_at}
use Rattle.tools_sources.proofs.Filing.{range_more}
use Rattle.user_compiling.specs.Entries.{entry_in, state_seen}
use Rattle.user_compiling.specs.Laws.{PlainSourcesAreAsInTheProfile, profile_states_by}
use Rattle.user_compiling.specs.declared.compiled.Compiled.{Compiled}
use Rattle.user_compiling.proofs.Lines.{slice_get-map_item}
use Rattle.everyday_tic.specs.Entries.{block_files, entry_at}
use Rattle.everyday_sources.specs.Selection.{is_chosen}

count-more : (p : ℕ → Bool) (xs : List ℕ) (x : ℕ) → count_by p (xs ++ x ∷ []) ≡ count_by p xs + cond (p x) 1 0
count-more p xs x = sum_by-append (λ y. cond (p y) 1 0) xs (x ∷ []) ∙ ap (λ n. count_by p xs + n) (sum_by-cons (λ y. cond (p y) 1 0) x [] ∙ omega arith)

-- how many of them pass a test
pub one_more_counted : (p : ℕ → Bool) (old new at : ℕ) → old ≡ count_by p (range_with_len 0 at) → new ≡ old + cond (p at) 1 0
    → new ≡ count_by p (range_with_len 0 (at + 1))
one_more_counted p old new at so_far added =
    let more : at + 1 ≡ suc at = omega arith in
    added ∙ ap (λ n. n + cond (p at) 1 0) so_far
    ∙ sym (ap (λ n. count_by p (range_with_len 0 n)) more ∙ ap (count_by p) (range_more 0 at at (omega arith)) ∙ count-more p (range_with_len 0 at) at)

-- ---- the entry and the files of a block

-- the entry of the profile is that of what becomes of the block
pub profile_entry : PlainSourcesAreAsInTheProfile → (rule : Rule) (texts : List (List ℕ)) (at : ℕ) (found : Option (List ℕ)) → at < length texts
    → found ≡ compiled_by rule texts at → found ≡ entry_at (profile_states_by rule texts) at
profile_entry law rule texts at found within is =
    let text = get_or texts at [] in
    let stands = slice_get-get_or texts at [] within in
    let state : slice_get (profile_states_by rule texts) at ≡ Some (state_of (readings_by rule texts) (reading_by rule text)) =
    rw (slice_get-map (λ t. state_of (readings_by rule texts) (reading_by rule t)) texts at, stands) refl in
    is ∙ sym (law.entries rule texts at text stands) ∙ sym (ap (option_and_then entry_in) state)

-- the entry of a block that was compiled with user-defined capabilities
pub extended_entry : (states : List Compiled) (at : ℕ) (state : Compiled) (found : Option (List ℕ)) → at < length states → state ≡ get_or states at state
    → found ≡ entry_in (state_seen state) → found ≡ entry_at (map state_seen states) at
extended_entry states at state found within is_state is =
    is ∙ sym (ap (option_and_then entry_in) (slice_get-map_item state_seen states at state within is_state))

module _ (directory : List ℕ) (asked : Option (List ℕ)) (texts names : List (List ℕ)) (states : List EntryState) (at : ℕ) where
  -- a block that is not chosen has no files
  pub files_unchosen : names_at texts at ≡ names → is_chosen asked names ≡ false → block_files directory asked texts states at ≡ []
  files_unchosen named other = rw (named, other) refl

  -- one that is has those of its entry
  pub files_chosen : (entry : Option (List ℕ)) → names_at texts at ≡ names → is_chosen asked names ≡ true → entry ≡ entry_at states at
      → block_files directory asked texts states at ≡ option_map_or (entry_files directory texts at) entry []
  files_chosen entry named chosen is =
      ap (λ ns. cond (is_chosen asked ns) (option_map_or (entry_files directory texts at) (entry_at states at) []) []) named
      ∙ rw chosen (ap (λ e. option_map_or (entry_files directory texts at) e []) (sym is))

-- how many files more there are
pub files_more : (old new : List File) (more : List FileAt) → entries new ≡ entries old ++ more → length new ≡ length old + length more
files_more old new more added =
    sym (length-map new placed_entry) ∙ ap length added ∙ length-append (entries old) more ∙ ap (λ n. n + length more) (length-map old placed_entry)
