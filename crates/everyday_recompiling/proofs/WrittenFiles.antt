-- The files that `ti-tic -x` writes are those of blocks, and are read as what these say.
use Rattle.std.proofs.Common.{◌≡◌, ◌+◌, ◌<◌, ◌≤◌, inl, inr, ℕ, zero, suc, Bool, true, false, cond, List, [], ◌∷◌, ◌++◌, map, length, get_or, All, Contains}
use Rattle.std.proofs.Common.{Option, None, Some, Ok, Err, option_and_then, slice_get, flat_map, option_map, sym, ap, ◌∙◌, refl, subst, arith}
use Rattle.std.specs.List.{AllByRecursion, AllZip, range_with_len}
use Rattle.std.specs.Option.{option_map_or}
use Rattle.std.proofs.lemmas.List.Elements.{All-contains_itself, All-from_recursion, recursion_from_All}
use Rattle.std.proofs.lemmas.Option.{same_Some, none-some, slice_get-get_or, slice_get-map}
use Rattle.ti_source.specs.declared.parsing.Rule.TheVariants.{OwnFirst}
use Rattle.ti_source.specs.Cutting.{OneBlock}
use Rattle.ti_source.specs.Parsing.{reading_of_text}
use Rattle.base_meaning.specs.Compiled.{EntryState, unresolved, oversized, written}
use Rattle.base_meaning.specs.Owner.{readings}
use Rattle.base_meaning.specs.OwnNames.{own_names}
use Rattle.tools_devices.specs.Paths.{path_of}
use Rattle.tools_devices.specs.Tree.{FileAt, Files}
use Rattle.tools_sources.specs.EntryFiles.{entry_files, files_for, names_at}
use Rattle.tools_sources.specs.Sources.{AreTaken, first_line, source_texts}
use Rattle.tools_sources.specs.declared.source_error.SourceError.{SourceError}
use Rattle.tools_sources.specs.declared.source_error.SourceError.TheVariants.{BlockTooLong, TooManyBlocks}
use Rattle.user_kept.proofs.KeptStates.{zip_at}
use Rattle.user_compiling.specs.Entries.{entry_in}
use Rattle.everyday_constants.specs.Laws.{ReadsWithCharacters}
use Rattle.everyday_graphics.specs.Entries.{AreWrittenStates, IsDrawnState, IsWrittenState}
use Rattle.everyday_graphics.specs.ReadBack.{DrawnEntriesReadBack, DrawnReadsBack}
use Rattle.everyday_names.specs.Fields.{fitted, long_field}
use Rattle.everyday_names.specs.Laws.{FittedBlocksReadAlike, NamedEntriesRead}
use Rattle.everyday_names.proofs.SourceLemmas.{all-fitted}
use Rattle.everyday_sources.specs.Selection.{is_chosen}
use Rattle.everyday_sources.specs.Used.{ProblemSeen, PutsIn, SourcesComeFirst, TakesFound, TakesName, TakesNames, TakesUsed, missing_names}
use Rattle.everyday_tic.specs.Characters.{AreWithCharacters, IsStateWithCharacters}
use Rattle.everyday_tic.specs.Entries.{block_files, entry_at, first_files}
use Rattle.everyday_tic.specs.Named.{named_states}
use Rattle.everyday_tic.specs.Outcomes.{Asked, ComesOf, ComesOfPlain, Made, refusal_of}
use Rattle.everyday_recompiling.specs.WrittenFiles.{IsEntryFile, WrittenFilesAreRead}
use Rattle.everyday_recompiling.proofs.Names.{IsNamedOf, named-at, read-with_names}
use Rattle.everyday_recompiling.proofs.Spelled.{IsSpelledOf, IsKnown, sound-entry, spelled-at}

-- ---- lists

both : {X : Type 0} (P : X → Type 0) (xs ys : List X) → AllByRecursion P xs → AllByRecursion P ys → AllByRecursion P (xs ++ ys)
both P [] ys here there = there
both P (x ∷ xs) ys here there = (here.0, both P xs ys here.1 there)

each-of-each : {X Y : Type 0} (P : Y → Type 0) (Q : X → Type 0) (f : X → List Y) (xs : List X) → ((x : X) → Q x → AllByRecursion P (f x))
    → AllByRecursion Q xs → AllByRecursion P (flat_map f xs)
each-of-each P Q f [] h all = tt
each-of-each P Q f (x ∷ xs) h all = both P (f x) (flat_map f xs) (h x all.0) (each-of-each P Q f xs h all.1)

below : (count from n : ℕ) → from + n ≤ count → AllByRecursion (λ at. at < count) (range_with_len from n)
below count from zero low = tt
below count from (suc n) low = (omega (arith, low), below count (from + 1) n (omega (arith, low)))

of-each : {X Y : Type 0} (P : Y → Type 0) (f : X → Y) (xs : List X) → AllByRecursion (λ x. P (f x)) xs → AllByRecursion P (map f xs)
of-each P f [] all = tt
of-each P f (x ∷ xs) all = (all.0, of-each P f xs all.1)

-- ---- the blocks are blocks

each-between : (texts : List (List ℕ))
    → ((front : List (List ℕ)) (text : List ℕ) (back : List (List ℕ)) → texts ≡ front ++ text ∷ back → OneBlock text) → AllByRecursion OneBlock texts
each-between [] each = tt
each-between (text ∷ texts) each =
    (each [] text texts refl, each-between texts (λ front other back is. each (text ∷ front) other back (ap (λ (ts : List (List ℕ)). text ∷ ts) is)))

are-blocks : (texts : List (List ℕ)) → AreTaken texts → AllByRecursion OneBlock texts
are-blocks texts taken = each-between texts (λ front text back is. (taken front text back is).block)

module _ (user_defined : Bool) (files : Option Files) (directories : List (List ℕ)) where
  put-in : (texts next : List (List ℕ)) (path text : List ℕ) (problems : List ProblemSeen) → AllByRecursion OneBlock texts
      → PutsIn texts path text next problems → AllByRecursion OneBlock next
  put-in texts next path text problems are (inl put) = subst (AllByRecursion OneBlock) (sym put.1) (both OneBlock texts (text ∷ []) are (put.0.block, tt))
  put-in texts next path text problems are (inr other) = subst (AllByRecursion OneBlock) (sym other.1) are

  take-found : (texts next : List (List ℕ)) (name : List ℕ) (found : Option FileAt) (problems : List ProblemSeen) → AllByRecursion OneBlock texts
      → TakesFound user_defined texts name found next problems → AllByRecursion OneBlock next
  take-found texts next name None problems are taken = subst (AllByRecursion OneBlock) (sym taken.0) are
  take-found texts next name (Some file) problems are (Ok text, gives, put) = put-in texts next file.0 text problems are put
  take-found texts next name (Some file) problems are (Err why, gives, put) = subst (AllByRecursion OneBlock) (sym put.0) are

  take-name : (texts next : List (List ℕ)) (name : List ℕ) (before after : ℕ) (problems : List ProblemSeen) → AllByRecursion OneBlock texts
      → TakesName user_defined files directories texts name before after next problems → AllByRecursion OneBlock next
  take-name texts next name before after problems are (inl kept) = subst (AllByRecursion OneBlock) (sym kept.1) are
  take-name texts next name before after problems are (inr taken) = take-found texts next name taken.1 problems are taken.3

  take-names : (texts : List (List ℕ)) (names : List (List ℕ)) (before after : ℕ) (last : List (List ℕ)) (problems : List ProblemSeen)
      → AllByRecursion OneBlock texts → TakesNames user_defined files directories texts names before after last problems → AllByRecursion OneBlock last
  take-names texts [] before after last problems are taken = subst (AllByRecursion OneBlock) (sym taken.0) are
  take-names texts (name ∷ names) before after last problems are taken =
      let next = taken.0 in
      take-names next names taken.1 after last taken.3 (take-name texts next name before taken.1 taken.2 are taken.4) taken.5

-- ---- the file of a block

-- what became of a block that has an entry
was-written : (states : List EntryState) (at : ℕ) (state : Option EntryState) (image : List ℕ) → slice_get states at ≡ state
    → option_and_then entry_in state ≡ Some image → slice_get states at ≡ Some (written image)
was-written states at None image is e = absurd (none-some image e)
was-written states at (Some unresolved) image is e = absurd (none-some image e)
was-written states at (Some oversized) image is e = absurd (none-some image e)
was-written states at (Some (written bytes)) image is e = is ∙ ap (λ (b : List ℕ). Some (written b)) (same_Some bytes image e)

map-length : {X Y : Type 0} (f : X → Y) (xs : List X) → length (map f xs) ≡ length xs
map-length f [] = refl
map-length f (x ∷ xs) = let later = map-length f xs in omega (arith, later)

get-front : {X : Type 0} (xs ys : List X) (at : ℕ) (x : X) → slice_get xs at ≡ Some x → slice_get (xs ++ ys) at ≡ Some x
get-front [] ys at x e = absurd (none-some x e)
get-front (z ∷ zs) ys zero x e = e
get-front (z ∷ zs) ys (suc at) x e = get-front zs ys at x e

pick : {X : Type 0} (P : X → Type 0) (xs : List X) (at : ℕ) (x : X) → AllByRecursion P xs → slice_get xs at ≡ Some x → P x
pick P [] at x all e = absurd (none-some x e)
pick P (z ∷ zs) zero x all e = subst P (same_Some z x e) all.0
pick P (z ∷ zs) (suc at) x all e = pick P zs at x all.1 e

pub record AreNamed : Type 0 where
  pub alike : FittedBlocksReadAlike
  pub names : NamedEntriesRead
  pub known : IsKnown

module _ (known : DrawnEntriesReadBack) (laws : AreNamed) (draws : Bool) (files : Option Files) (directories : List (List ℕ)) (directory source : List ℕ)
    (before after : ℕ)
  where
    abbrev IsFile : FileAt → Type 0
    IsFile file = IsEntryFile draws files directories directory source before after file

    abbrev count : ℕ
    count = length (map fitted (source_texts source))

    module _ (texts : List (List ℕ)) (problems : List ProblemSeen)
        (used : TakesUsed OwnFirst true files directories (map fitted (source_texts source)) before after texts problems)
        (singles : AllByRecursion OneBlock (source_texts source)) (blocks : All OneBlock texts) (others : List (List ℕ))
        (first : texts ≡ map fitted (source_texts source) ++ others) (drawn : List EntryState) (are : AreWrittenStates OwnFirst true draws texts drawn)
        (spelled : List EntryState)
      where
        abbrev given : List EntryState
        given = named_states (map long_field (source_texts source)) spelled

        module _ (are_spelled : AllZip IsStateWithCharacters drawn spelled) where
          -- those of a block, one for each name that it owns
          named : (at : ℕ) (image : List ℕ) → at < count → slice_get given at ≡ Some (written image)
              → AllByRecursion IsFile (files_for directory (own_names (readings texts) at (names_at texts at)) image)
          named at image within state =
              of-each IsFile (λ name. (path_of directory name, image)) names
              (each-named names (recursion_from_All (Contains names) names (All-contains_itself names)))
            where
              names : List (List ℕ)
              names = own_names (readings texts) at (names_at texts at)

              low : at < length (source_texts source)
              low = subst (λ (n : ℕ). at < n) (map-length fitted (source_texts source)) within

              whole : List ℕ
              whole = get_or (source_texts source) at []

              there : slice_get (source_texts source) at ≡ Some (get_or (source_texts source) at [])
              there = slice_get-get_or (source_texts source) at [] low

              single : OneBlock (get_or (source_texts source) at [])
              single = pick OneBlock (source_texts source) at (get_or (source_texts source) at []) singles there

              stands : slice_get texts at ≡ Some (fitted (get_or (source_texts source) at []))
              stands = ap (λ (ts : List (List ℕ)). slice_get ts at) first
                  ∙ get-front (map fitted (source_texts source)) others at (fitted (get_or (source_texts source) at []))
                  (slice_get-map fitted (source_texts source) at ∙ ap (option_map fitted) there)

              field : slice_get (map long_field (source_texts source)) at ≡ Some (long_field (get_or (source_texts source) at []))
              field = slice_get-map long_field (source_texts source) at ∙ ap (option_map long_field) there

              found : (s : EntryState) × (slice_get spelled at ≡ Some s) × IsNamedOf (long_field (get_or (source_texts source) at [])) image s
              found = named-at (map long_field (source_texts source)) spelled at (long_field (get_or (source_texts source) at [])) image field state

              earlier : IsSpelledOf drawn at found.2.bytes
              earlier = spelled-at drawn spelled at found.2.bytes are_spelled (found.1 ∙ ap (λ (s : EntryState). Some s) found.2.is)

              is : IsDrawnState draws OwnFirst texts (fitted (get_or (source_texts source) at [])) (written earlier.bytes)
              is = zip_at (IsWrittenState OwnFirst true draws texts) texts drawn at (fitted (get_or (source_texts source) at [])) (written earlier.bytes) are stands
                  earlier.there

              reads : DrawnReadsBack draws OwnFirst texts at (fitted (get_or (source_texts source) at [])) earlier.bytes
              reads = known draws OwnFirst texts at (fitted (get_or (source_texts source) at [])) earlier.bytes blocks stands is

              reads_spelled : ReadsWithCharacters (reading_of_text (fitted (get_or (source_texts source) at []))).field earlier.bytes found.2.bytes reads.contents
              reads_spelled =
                  laws.known.characters (reading_of_text (fitted (get_or (source_texts source) at []))).field earlier.bytes found.2.bytes reads.contents
                  (sound-entry laws.known draws texts at (fitted (get_or (source_texts source) at [])) earlier.bytes blocks stands is reads)
                  earlier.with_characters

              each-named : (ns : List (List ℕ)) → AllByRecursion (Contains names) ns → AllByRecursion (λ (name : List ℕ). IsFile (path_of directory name, image)) ns
              each-named [] has = tt
              each-named (name ∷ ns) has = (
                record {
                  texts = texts;
                  problems = problems;
                  used = used;
                  blocks = blocks;
                  at = at;
                  own = low;
                  whole = get_or (source_texts source) at [];
                  there = there;
                  single = single;
                  stands = stands;
                  bytes = earlier.bytes;
                  is = is;
                  spelled = found.2.bytes;
                  with_characters = earlier.with_characters;
                  named = found.2.named;
                  name = name;
                  owned = has.0;
                  path = refl;
                  reads = reads;
                  reads_spelled = reads_spelled;
                  reads_named = read-with_names laws.alike laws.names (get_or (source_texts source) at []) found.2.bytes image reads_spelled.given single
                      found.2.named reads_spelled.reads reads_spelled.ends_well;
                },
                each-named ns has.1,
              )

          -- those of a block, none if it is not chosen or has no entry
          of-block : (asked : Option (List ℕ)) (at : ℕ) → at < count → AllByRecursion IsFile (block_files directory asked texts given at)
          of-block asked at within = by_choice (is_chosen asked (names_at texts at)) (entry_at given at) refl
            where
              by_choice : (chosen : Bool) (image : Option (List ℕ)) → entry_at given at ≡ image
                  → AllByRecursion IsFile (cond chosen (option_map_or (entry_files directory texts at) image []) [])
              by_choice false image is = tt
              by_choice true None is = tt
              by_choice true (Some image) is = named at image within (was-written given at (slice_get given at) image refl is)

          -- those of the blocks of the source
          of-blocks : (asked : Option (List ℕ)) → AllByRecursion IsFile (first_files directory asked texts given count)
          of-blocks asked =
              each-of-each IsFile (λ at. at < count) (block_files directory asked texts given) (range_with_len 0 count) (of-block asked)
              (below count 0 count (omega arith))

        -- none if the source is only checked
        of-source : (check : Bool) (asked : Option (List ℕ)) → AreWithCharacters check drawn spelled
            → AllByRecursion IsFile (cond check [] (first_files directory asked texts (cond check spelled given) count))
        of-source true asked are_spelled = tt
        of-source false asked are_spelled = of-blocks are_spelled asked

-- ---- what comes of a source

abbrev AreFiles : Bool → Option Files → List (List ℕ) → List ℕ → List ℕ → ℕ → ℕ → List FileAt → Type 0
AreFiles draws files directories directory source before after all = AllByRecursion (IsEntryFile draws files directories directory source before after) all

module _ (known : DrawnEntriesReadBack) (laws : AreNamed) (come_first : SourcesComeFirst) (asked : Asked) (user : asked.user_defined ≡ true)
    (files : Option Files) (directories : List (List ℕ)) (file source : List ℕ) (before after : ℕ)
  where
    of-all : (texts : List (List ℕ)) (problems : List ProblemSeen) (made : Made) → AreTaken (source_texts source)
        → TakesUsed OwnFirst true files directories (map fitted (source_texts source)) before after texts problems
        → ComesOf OwnFirst asked file (first_line source) (map long_field (source_texts source)) texts (length (map fitted (source_texts source))) problems made
        → AreFiles asked.draws files directories asked.directory source before after made.files
    of-all texts problems made taken used (inl refused) =
        subst (λ (m : Made). AreFiles asked.draws files directories asked.directory source before after m.files) (sym refused.3) tt
    of-all texts problems made taken used (inr (few, states, are, drawn, are_drawn, spelled, are_spelled, is)) =
        let singles = are-blocks (source_texts source) taken in
        let fitted_blocks : AllByRecursion OneBlock (map fitted (source_texts source)) =
        recursion_from_All OneBlock (map fitted (source_texts source))
        (all-fitted laws.alike (source_texts source) (All-from_recursion OneBlock (source_texts source) singles)) in
        let blocks : AllByRecursion OneBlock texts =
        take-names true files directories (map fitted (source_texts source)) (missing_names OwnFirst (map fitted (source_texts source))) before after texts
        problems fitted_blocks used in
        let behind = come_first OwnFirst true files directories (map fitted (source_texts source)) before after texts problems used in
        let there : AreWrittenStates OwnFirst true asked.draws texts drawn = subst (λ (b : Bool). AreWrittenStates OwnFirst b asked.draws texts drawn) user are_drawn in
        subst (λ (m : Made). AreFiles asked.draws files directories asked.directory source before after m.files) (sym is)
        (of-source known laws asked.draws files directories asked.directory source before after texts problems used singles
        (All-from_recursion OneBlock texts blocks) behind.0 behind.1 drawn there spelled asked.check asked.entries are_spelled)

    of-plain : (made : Made) → ComesOfPlain asked files directories file source before after made
        → AreFiles asked.draws files directories asked.directory source before after made.files
    of-plain made (inl refused) =
        subst (λ (m : Made). AreFiles asked.draws files directories asked.directory source before after m.files) (sym refused.3) (none refused.0)
      where
        none : (error : SourceError) → AreFiles asked.draws files directories asked.directory source before after (refusal_of file error).files
        none (BlockTooLong line) = tt
        none (TooManyBlocks line) = tt
    of-plain made (inr (taken, inl termcap)) =
        subst (λ (m : Made). AreFiles asked.draws files directories asked.directory source before after m.files) (sym termcap.3) tt
    of-plain made (inr (taken, inr (none, texts, problems, used, comes))) =
        of-all texts problems made taken
        (subst (λ (b : Bool). TakesUsed OwnFirst b files directories (map fitted (source_texts source)) before after texts problems) user used) comes

pub files_are_read : DrawnEntriesReadBack → AreNamed → SourcesComeFirst → WrittenFilesAreRead
files_are_read known laws come_first asked files directories file source before after made user comes =
    All-from_recursion (IsEntryFile asked.draws files directories asked.directory source before after) made.files
    (of-plain known laws come_first asked user files directories file source before after made comes)
