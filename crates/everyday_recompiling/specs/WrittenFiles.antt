-- What is read of the files that `ti-tic -x` writes, and that what `ti-infocmp -x` lists of them
-- compiles back to them (tic(1) and infocmp(1), options -x and -U; own).
use Rattle.std.specs.Prelude.{◌≡◌, ◌⊎◌, ◌<◌, ◌&&◌, Bool, false, ℕ, true, List, [], ◌∷◌, All, Contains, length, map, Option, Some, slice_get}
use Rattle.ti_text.specs.Limits.{extended_entry_max}
use Rattle.ti_text.specs.Texts.{AreBytes}
use Rattle.ti_source.specs.Cutting.{OneBlock}
use Rattle.ti_source.specs.declared.parsing.Rule.TheVariants.{OwnFirst}
use Rattle.ti_source.specs.Parsing.{reading_of_text}
use Rattle.ti_layout.specs.Reading.{Reads}
use Rattle.ti_layout.specs.Values.{Contents}
use Rattle.ti_list.specs.declared.layout.Layout.{Layout}
use Rattle.base_meaning.specs.Compiled.{written}
use Rattle.base_meaning.specs.Owner.{readings}
use Rattle.base_meaning.specs.OwnNames.{own_names}
use Rattle.tools_devices.specs.Paths.{path_of}
use Rattle.tools_devices.specs.Tree.{FileAt, Files}
use Rattle.tools_relisting.specs.Entries.{IsSourceOf}
use Rattle.tools_sources.specs.EntryFiles.{names_at}
use Rattle.tools_sources.specs.Sources.{source_texts}
use Rattle.user_extension.specs.Reading.{EndsWell, rows_after}
use Rattle.user_listing.specs.Entries.{Extended}
use Rattle.user_listing.specs.Listing.{extended_listing}
use Rattle.user_recompiling.specs.Entries.{CompilesTo}
use Rattle.user_recompiling.specs.Shown.{IsShownFrom}
use Rattle.everyday_names.specs.Entries.{with_names}
use Rattle.everyday_names.specs.Fields.{fitted, long_field}
use Rattle.everyday_constants.specs.Entries.{IsWithCharacters}
use Rattle.everyday_constants.specs.Laws.{ReadsWithCharacters}
use Rattle.everyday_graphics.specs.Entries.{IsDrawnState}
use Rattle.everyday_graphics.specs.Graphics.{lacks_acsc}
use Rattle.everyday_graphics.specs.ReadBack.{DrawnReadsBack}
use Rattle.everyday_sources.specs.Used.{ProblemSeen, TakesUsed}
use Rattle.everyday_tic.specs.Named.{named_state}
use Rattle.everyday_tic.specs.Outcomes.{Asked, ComesOfPlain, Made}

-- an entry file is read as another, which has a part of the names field of a block: as the whole field,
-- or as that part if the file would be over its limit with the whole; and as the same values and the
-- same user-defined capabilities
pub record IsReadWithNames (whole bytes named : List ℕ) (contents : Contents) : Type 0 where
  pub field : List ℕ
  pub chosen : (field ≡ (reading_of_text whole).field)
      ⊎ ((field ≡ (reading_of_text (fitted whole)).field) × (extended_entry_max < length (with_names (reading_of_text whole).field bytes)))
  pub reads : Reads named field contents
  pub rows : rows_after named ≡ rows_after bytes
  pub ends_well : EndsWell named

-- a file holds the entry of a block of a source with user-defined capabilities, with the installed
-- entries that the source uses as further blocks after its own, and is that of a name which the
-- block owns. A names field that is too long for the profile is compiled in part; the entry is read as
-- what the block says, by the rule of `ti-tic`, with line graphics if they are drawn; with its
-- constants as characters as the same, but for the strings that have them; and the file as that with
-- the whole names field.
pub record IsEntryFile (draws : Bool) (files : Option Files) (directories : List (List ℕ)) (directory source : List ℕ) (before after : ℕ) (file : FileAt)
    : Type 0 where
  pub texts : List (List ℕ)
  pub problems : List ProblemSeen
  pub used : TakesUsed OwnFirst true files directories (map fitted (source_texts source)) before after texts problems
  pub blocks : All OneBlock texts
  pub at : ℕ
  pub own : at < length (source_texts source)
  pub whole : List ℕ
  pub there : slice_get (source_texts source) at ≡ Some whole
  pub single : OneBlock whole
  pub stands : slice_get texts at ≡ Some (fitted whole)
  pub bytes : List ℕ
  pub is : IsDrawnState draws OwnFirst texts (fitted whole) (written bytes)
  pub spelled : List ℕ
  pub with_characters : IsWithCharacters bytes spelled
  pub named : written file.1 ≡ named_state (long_field whole) (written spelled)
  pub name : List ℕ
  pub owned : Contains (own_names (readings texts) at (names_at texts at)) name
  pub path : file.0 ≡ path_of directory name
  pub reads : DrawnReadsBack draws OwnFirst texts at (fitted whole) bytes
  pub reads_spelled : ReadsWithCharacters (reading_of_text (fitted whole)).field bytes spelled reads.contents
  pub reads_named : IsReadWithNames whole spelled file.1 reads_spelled.given

-- Each file that comes of a source with `-x` is so.
abbrev pub WrittenFilesAreRead : Type 0
WrittenFilesAreRead =
    (asked : Asked) (files : Option Files) (directories : List (List ℕ)) (file source : List ℕ) (before after : ℕ) (made : Made) → asked.user_defined ≡ true
    → ComesOfPlain asked files directories file source before after made
    → All (IsEntryFile asked.draws files directories asked.directory source before after) made.files

-- what is shown of these bytes, which are the entry of one of these blocks. The blocks are of bytes,
-- as all texts in memory are.
pub record IsShownOf (texts : List (List ℕ)) (bytes : List ℕ) (shown : Extended) : Type 0 where
  pub of_bytes : All AreBytes texts
  pub reads : Reads bytes shown.entry.names shown.entry.contents
  pub rows : shown.rows ≡ rows_after bytes

-- what is shown, with another names field
abbrev pub shown_as : Extended → List ℕ → Extended
shown_as shown field = record { entry = record { names = field; contents = shown.entry.contents }; rows = shown.rows }

-- a listing compiles back to a file: the entry to which it compiles, with its names field in part, is
-- that to which the block of the file did, with its constants as characters, and with its whole names
-- field it is the file
pub record CompilesBack (texts : List (List ℕ)) (listing whole bytes file : List ℕ) (shown : Extended) : Type 0 where
  pub shows : IsShownFrom bytes (shown_as shown (reading_of_text (fitted whole)).field) texts
  pub source : IsSourceOf listing (listing ∷ [])
  pub compiles : CompilesTo OwnFirst (fitted listing ∷ []) (fitted listing) bytes
  pub named : written file ≡ named_state (long_field listing) (written bytes)

-- What is shown of such a file, listed in any layout, is a source of one block, which compiles with
-- `-x` to the file, byte for byte, before line graphics are drawn. It is an entry of which the laws of
-- `user_recompiling` speak, also in relative source.
abbrev pub WrittenFilesCompileBack : Type 0
WrittenFilesCompileBack =
    (draws : Bool) (files : Option Files) (directories : List (List ℕ)) (directory source : List ℕ) (before after : ℕ) (file : FileAt) (shown : Extended)
    (layout : Layout) → (is : IsEntryFile draws files directories directory source before after file) → IsShownOf is.texts file.1 shown
    → CompilesBack is.texts (extended_listing shown layout) is.whole is.spelled file.1 shown

-- So each file that comes of the listing with `-x`, wherever and with whatever else is asked for,
-- has the same bytes, if nothing is drawn of it: with `-U`, or if it does not lack `acsc`. It lacks it
-- if its block cancels it, which an entry does not keep.
abbrev pub ListedFilesComeBack : Type 0
ListedFilesComeBack =
    (draws : Bool) (files : Option Files) (directories : List (List ℕ)) (directory source : List ℕ) (before after : ℕ) (file : FileAt) (shown : Extended)
    (layout : Layout) → (is : IsEntryFile draws files directories directory source before after file) → IsShownOf is.texts file.1 shown
    → (asked : Asked) (there : Option Files) (places : List (List ℕ)) (name : List ℕ) (start end : ℕ) (made : Made) → asked.user_defined ≡ true
    → (asked.draws && lacks_acsc shown.entry.contents) ≡ false
    → ComesOfPlain asked there places name (extended_listing shown layout) start end made
    → All (λ (again : FileAt). again.1 ≡ file.1) made.files
