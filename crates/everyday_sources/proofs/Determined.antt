-- A source with the entries that it uses, when no read fails.
use Rattle.std.proofs.Common.{◌≡◌, ◌≤◌, inl, inr, ℕ, Bool, true, false, List, [], ◌∷◌, ◌++◌, Option, Some, None, Result, Ok, Err, refl, sym, ap, ◌∙◌, subst, arith}
use Rattle.std.proofs.lemmas.Bool.{true≢false}
use Rattle.base_meaning.specs.Owner.{is_among}
use Rattle.ti_layout.specs.View.{Entry, entry_seen, names_of}
use Rattle.ti_layout.specs.declared.view.View.{View}
use Rattle.ti_list.specs.Listing.{listing}
use Rattle.ti_source.specs.Header.{HeadersHaveOneReading, ReadsNames}
use Rattle.ti_source.specs.Judging.{names_found}
use Rattle.tools_devices.specs.Tree.{FileAt, Files}
use Rattle.tools_directories.specs.Finding.{Finds, FindsTheFirst, Searches, first_at}
use Rattle.tools_directories.specs.Paths.{paths_of}
use Rattle.tools_directories.specs.Reading.{FilesHaveOneReading}
use Rattle.user_extension.specs.Reading.{ReadRow}
use Rattle.user_extension.specs.View.{read_rows}
use Rattle.user_extension.specs.declared.view.Extension.{Extension}
use Rattle.user_listing.specs.Listing.{extended_listing}
use Rattle.everyday_sources.specs.Installed.{Gives, HasName, block_names, layout, listing_of}
use Rattle.everyday_sources.specs.Used.{LooksUp, ProblemSeen, PutsIn, TakesFound, TakesGiven, TakesName, TakesNames, UsedEntriesAreDetermined, missing_names}
use Rattle.everyday_sources.specs.declared.problem.Cause.{Cause}
use Rattle.everyday_sources.specs.declared.problem.Cause.TheVariants as cause

-- ---- what a file gives

-- whether a name is among those of a names field
one_test : HeadersHaveOneReading → (field other name : List ℕ) (has had : Bool) → field ≡ other → HasName field name has → HasName other name had → has ≡ had
one_test headers field other name has had same g h =
    g.2 ∙ ap (λ names. is_among name (names_found names)) (headers field g.0 h.0 g.1 (subst (λ f. ReadsNames f h.0) (sym same) h.1)) ∙ sym h.2

one_listing : (user_defined : Bool) (name : List ℕ) (view other : View) (extension further : Extension) → entry_seen view ≡ entry_seen other
    → read_rows extension ≡ read_rows further
    → listing_of user_defined (block_names (names_of view) name) view extension ≡ listing_of user_defined (block_names (names_of other) name) other further
one_listing false name view other extension further seen rows =
    ap (λ (entry : Entry). listing (block_names entry.names name) entry.contents layout) seen
one_listing true name view other extension further seen rows =
    let named : Entry → Entry = λ entry. record { names = block_names entry.names name; contents = entry.contents } in
    ap (λ (entry : Entry). extended_listing (record { entry = named entry; rows = read_rows extension }) layout) seen
    ∙ ap (λ (read : List ReadRow). extended_listing (record { entry = named (entry_seen other); rows = read }) layout) rows

one_given : FilesHaveOneReading → HeadersHaveOneReading → (user_defined : Bool) (bytes name : List ℕ) (one other : Result (List ℕ) Cause)
    → Gives user_defined bytes name one → Gives user_defined bytes name other → one ≡ other
one_given files headers user_defined bytes name (Ok text) (Ok further) g h =
    let alike = files bytes (Ok (g.0, g.1)) (Ok (h.0, h.1)) g.2 h.2 in
    ap (λ t. Ok t) (g.4 ∙ one_listing user_defined name g.0 h.0 g.1 h.1 alike.0 alike.1 ∙ sym h.4)
one_given files headers user_defined bytes name (Ok text) (Err (cause.BadEntry error)) g h = absurd (files bytes (Ok (g.0, g.1)) (Err error) g.2 h)
one_given files headers user_defined bytes name (Ok text) (Err cause.OtherNames) g h =
    let alike = files bytes (Ok (g.0, g.1)) (Ok (h.0, h.1)) g.2 h.2 in
    absurd (true≢false (one_test headers (names_of g.0) (names_of h.0) name true false (ap (λ (entry : Entry). entry.names) alike.0) g.3 h.3))
one_given files headers user_defined bytes name (Ok text) (Err cause.NoRoom) g h = absurd h
one_given files headers user_defined bytes name (Err (cause.BadEntry error)) (Ok text) g h = absurd (files bytes (Err error) (Ok (h.0, h.1)) g h.2)
one_given files headers user_defined bytes name (Err (cause.BadEntry error)) (Err (cause.BadEntry further)) g h =
    ap (λ e. Err (cause.BadEntry e)) (files bytes (Err error) (Err further) g h)
one_given files headers user_defined bytes name (Err (cause.BadEntry error)) (Err cause.OtherNames) g h =
    absurd (files bytes (Err error) (Ok (h.0, h.1)) g h.2)
one_given files headers user_defined bytes name (Err (cause.BadEntry error)) (Err cause.NoRoom) g h = absurd h
one_given files headers user_defined bytes name (Err cause.OtherNames) (Ok text) g h =
    let alike = files bytes (Ok (h.0, h.1)) (Ok (g.0, g.1)) h.2 g.2 in
    absurd (true≢false (one_test headers (names_of h.0) (names_of g.0) name true false (ap (λ (entry : Entry). entry.names) alike.0) h.3 g.3))
one_given files headers user_defined bytes name (Err cause.OtherNames) (Err (cause.BadEntry error)) g h =
    absurd (files bytes (Ok (g.0, g.1)) (Err error) g.2 h)
one_given files headers user_defined bytes name (Err cause.OtherNames) (Err cause.OtherNames) g h = refl
one_given files headers user_defined bytes name (Err cause.OtherNames) (Err cause.NoRoom) g h = absurd h
one_given files headers user_defined bytes name (Err cause.NoRoom) other g h = absurd g

-- ---- what a search finds

-- the first file, if no read failed
first_found : FindsTheFirst → (files : Files) (paths : List (List ℕ)) (count : ℕ) (file : Option FileAt) → Finds (Some files) paths count count file
    → file ≡ first_at files paths
first_found first files paths count file found =
    let is = found.1 in
    let none : found.0 ≡ 0 = omega (arith, is) in
    first files paths file (subst (λ n. Searches (Some files) paths n file) none found.2)

one_found : FindsTheFirst → (files : Files) (directories : List (List ℕ)) (name : List ℕ) (before since : ℕ) (one other : Option FileAt)
    → LooksUp (Some files) directories name before before one → LooksUp (Some files) directories name since since other → one ≡ other
one_found first files directories name before since (Some file) (Some further) g h =
    let paths = paths_of name directories in
    first_found first files paths before (Some file) g.1 ∙ sym (first_found first files paths since (Some further) h.1)
one_found first files directories name before since (Some file) None g (inl h) = absurd (true≢false (sym g.0 ∙ h.0))
one_found first files directories name before since (Some file) None g (inr h) =
    let paths = paths_of name directories in
    first_found first files paths before (Some file) g.1 ∙ sym (first_found first files paths since None h.1)
one_found first files directories name before since None (Some file) (inl g) h = absurd (true≢false (sym h.0 ∙ g.0))
one_found first files directories name before since None (Some file) (inr g) h =
    let paths = paths_of name directories in
    first_found first files paths before None g.1 ∙ sym (first_found first files paths since (Some file) h.1)
one_found first files directories name before since None None g h = refl

-- ---- what is taken

one_put : (texts : List (List ℕ)) (path text : List ℕ) (one other : List (List ℕ)) (problems others : List ProblemSeen)
    → PutsIn texts path text one problems → PutsIn texts path text other others → (one ≡ other) × (problems ≡ others)
one_put texts path text one other problems others (inl g) (inl h) = (g.1 ∙ sym h.1, g.2 ∙ sym h.2)
one_put texts path text one other problems others (inl g) (inr h) = absurd (h.0 g.0)
one_put texts path text one other problems others (inr g) (inl h) = absurd (g.0 h.0)
one_put texts path text one other problems others (inr g) (inr h) = (g.1 ∙ sym h.1, g.2 ∙ sym h.2)

one_result : (texts : List (List ℕ)) (path : List ℕ) (given : Result (List ℕ) Cause) (one other : List (List ℕ)) (problems others : List ProblemSeen)
    → TakesGiven texts path given one problems → TakesGiven texts path given other others → (one ≡ other) × (problems ≡ others)
one_result texts path (Ok text) one other problems others g h = one_put texts path text one other problems others g h
one_result texts path (Err why) one other problems others g h = (g.0 ∙ sym h.0, g.1 ∙ sym h.1)

one_taken : FilesHaveOneReading → HeadersHaveOneReading → (user_defined : Bool) (texts : List (List ℕ)) (name : List ℕ) (found : Option FileAt)
    (one other : List (List ℕ)) (problems others : List ProblemSeen) → TakesFound user_defined texts name found one problems
    → TakesFound user_defined texts name found other others → (one ≡ other) × (problems ≡ others)
one_taken reading headers user_defined texts name None one other problems others g h = (g.0 ∙ sym h.0, g.1 ∙ sym h.1)
one_taken reading headers user_defined texts name (Some file) one other problems others g h =
    let same : h.0 ≡ g.0 = one_given reading headers user_defined file.1 name h.0 g.0 h.1 g.1 in
    one_result texts file.0 g.0 one other problems others g.2 (subst (λ r. TakesGiven texts file.0 r other others) same h.2)

-- ---- how often reads failed

found_later : (files : Option Files) (paths : List (List ℕ)) (before after : ℕ) (file : Option FileAt) → Finds files paths before after file → before ≤ after
found_later files paths before after file found = let is = found.1 in omega (arith, is)

looked_later : (files : Option Files) (directories : List (List ℕ)) (name : List ℕ) (before after : ℕ) (found : Option FileAt)
    → LooksUp files directories name before after found → before ≤ after
looked_later files directories name before after (Some file) looks = found_later files (paths_of name directories) before after (Some file) looks.1
looked_later files directories name before after None (inl none) = let is = none.1 in omega (arith, is)
looked_later files directories name before after None (inr looks) = found_later files (paths_of name directories) before after None looks.1

taken_later : (user_defined : Bool) (files : Option Files) (directories texts : List (List ℕ)) (name : List ℕ) (before after : ℕ) (next : List (List ℕ))
    (problems : List ProblemSeen) → TakesName user_defined files directories texts name before after next problems → before ≤ after
taken_later user_defined files directories texts name before after next problems (inl owned) = let is = owned.2 in omega (arith, is)
taken_later user_defined files directories texts name before after next problems (inr looked) =
    looked_later files directories name before after looked.1 looked.2

all_later : (user_defined : Bool) (files : Option Files) (directories texts names : List (List ℕ)) (before after : ℕ) (last : List (List ℕ))
    (problems : List ProblemSeen) → TakesNames user_defined files directories texts names before after last problems → before ≤ after
all_later user_defined files directories texts [] before after last problems taken = let is = taken.1 in omega (arith, is)
all_later user_defined files directories texts (name ∷ names) before after last problems taken =
    let one = taken_later user_defined files directories texts name before taken.1 taken.0 taken.2 taken.4 in
    let rest = all_later user_defined files directories taken.0 names taken.1 after last taken.3 taken.5 in
    omega (arith, one, rest)

-- ---- one name after another

module _ (first : FindsTheFirst) (reading : FilesHaveOneReading) (headers : HeadersHaveOneReading) (user_defined : Bool) (files : Files)
    (directories : List (List ℕ)) where
  one_name : (texts : List (List ℕ)) (name : List ℕ) (before since : ℕ) (one other : List (List ℕ)) (problems others : List ProblemSeen)
      → TakesName user_defined (Some files) directories texts name before before one problems
      → TakesName user_defined (Some files) directories texts name since since other others → (one ≡ other) × (problems ≡ others)
  one_name texts name before since one other problems others (inl g) (inl h) = (g.1 ∙ sym h.1, g.3 ∙ sym h.3)
  one_name texts name before since one other problems others (inl g) (inr h) = absurd (g.0 h.0)
  one_name texts name before since one other problems others (inr g) (inl h) = absurd (h.0 g.0)
  one_name texts name before since one other problems others (inr g) (inr h) =
      let same : h.1 ≡ g.1 = one_found first files directories name since before h.1 g.1 h.2 g.2 in
      one_taken reading headers user_defined texts name g.1 one other problems others g.3
      (subst (λ found. TakesFound user_defined texts name found other others) same h.3)

  -- no read fails in between, if none does in all
  quiet : (texts names : List (List ℕ)) (name : List ℕ) (count between : ℕ) (next last : List (List ℕ)) (problems others : List ProblemSeen)
      → TakesName user_defined (Some files) directories texts name count between next problems
      → TakesNames user_defined (Some files) directories next names between count last others → between ≡ count
  quiet texts names name count between next last problems others step rest =
      let one = taken_later user_defined (Some files) directories texts name count between next problems step in
      let later = all_later user_defined (Some files) directories next names between count last others rest in
      omega (arith, one, later)

  one_end : (texts names : List (List ℕ)) (before since : ℕ) (one other : List (List ℕ)) (problems others : List ProblemSeen)
      → TakesNames user_defined (Some files) directories texts names before before one problems
      → TakesNames user_defined (Some files) directories texts names since since other others → (one ≡ other) × (problems ≡ others)
  one_end texts [] before since one other problems others g h = (g.0 ∙ sym h.0, g.2 ∙ sym h.2)
  one_end texts (name ∷ names) before since one other problems others g h =
      let still : g.1 ≡ before = quiet texts names name before g.1 g.0 one g.2 g.3 g.4 g.5 in
      let calm : h.1 ≡ since = quiet texts names name since h.1 h.0 other h.2 h.3 h.4 h.5 in
      let step = subst (λ n. TakesName user_defined (Some files) directories texts name before n g.0 g.2) still g.4 in
      let walk = subst (λ n. TakesName user_defined (Some files) directories texts name since n h.0 h.2) calm h.4 in
      let same = one_name texts name before since g.0 h.0 g.2 h.2 step walk in
      let rest = subst (λ n. TakesNames user_defined (Some files) directories g.0 names n before one g.3) still g.5 in
      let tail = subst (λ n. TakesNames user_defined (Some files) directories h.0 names n since other h.3) calm h.5 in
      let end = subst (λ ts. TakesNames user_defined (Some files) directories ts names since since other h.3) (sym same.0) tail in
      let later = one_end g.0 names before since one other g.3 h.3 rest end in
      (later.0, g.6 ∙ ap (λ ps. ps ++ g.3) same.1 ∙ ap (λ ps. h.2 ++ ps) later.1 ∙ sym h.6)

pub used_entries_are_determined : FindsTheFirst → FilesHaveOneReading → HeadersHaveOneReading → UsedEntriesAreDetermined
used_entries_are_determined first reading headers rule user_defined files directories texts before since one other problems others g h =
    one_end first reading headers user_defined files directories texts (missing_names rule texts) before since one other problems others g h
