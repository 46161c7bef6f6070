-- What `ti-infocmp` prints (infocmp(1)).
use Rattle.std.specs.Prelude.{◌≡◌, ◌⊎◌, ℕ, Bool, true, false, List, ◌∷◌, Option, Some, None, Result, Ok, Err}
use Rattle.std.specs.Global.{Vec}
use Rattle.ti_list.specs.declared.layout.Layout.{Layout}
use Rattle.tools_commands.specs.declared.jobs.InfocmpMode.{InfocmpMode}
use Rattle.tools_devices.specs.Tree.{Files}
use Rattle.user_listing.specs.Entries.{Extended, entries_in}
use Rattle.everyday_words.specs.Requests.{InfocmpWanted}
use Rattle.tools_directories.specs.declared.finding.Found.{Found}
use Rattle.everyday_entries.specs.Failures.{out_of_memory}
use Rattle.everyday_entries.specs.declared.failure.Failure.{Failure}
use Rattle.everyday_entries.specs.declared.failure.Failure.TheVariants.{NoName}
use Rattle.everyday_infocmp.specs.Entries.{AllEntries, AreEntries, IsBadFile}
use Rattle.everyday_initializers.specs.Initializers.{initializers}
use Rattle.everyday_initializers.specs.Rows.{described}
use Rattle.everyday_infocmp.specs.Initializing.{first_bytes, is_initializer, rows_shown}
use Rattle.everyday_infocmp.specs.Joining.{as_asked}
use Rattle.everyday_infocmp.specs.Listings.{extended_text}
use Rattle.everyday_infocmp.specs.Names.{all_names}
use Rattle.everyday_infocmp.specs.PlainListings.{plain_text}
use Rattle.everyday_infocmp.specs.Reading.{GivesFiles, sought_names}
use Rattle.everyday_infocmp.specs.TermcapListings.{AreTermcaps, is_termcap, lines_in}

-- what is printed of the first entry and of others
abbrev pub printed : Bool → InfocmpMode → Extended → List Extended → Layout → List ℕ
printed false mode first others layout = plain_text mode first.entry (entries_in others) layout
printed true mode first others layout = extended_text mode first others layout

-- the text is what is printed of the first entry and of others
abbrev pub IsPrinted : (termcap : Bool) → InfocmpWanted → Extended → List Extended → List ℕ → Type 0
IsPrinted false wanted first others text = text ≡ printed wanted.user_defined wanted.mode first others wanted.layout
IsPrinted true wanted first others text =
    AreTermcaps wanted.limited wanted.all (lines_in wanted.joined wanted.layout) (entries_in (first ∷ others)) text

-- what comes of files that were all read: what is printed of the entries that they are, or the first
-- that is none
abbrev pub PrintsEntries : InfocmpWanted → List Found → Result (Vec ℕ) Failure → Type 0
PrintsEntries wanted files (Ok text) =
    (first : Extended) × (others : List Extended) × AreEntries wanted.user_defined files (first ∷ others)
    × IsPrinted (is_termcap wanted.user_defined wanted.termcap wanted.mode) wanted first others text.items
PrintsEntries wanted files (Err failure) = IsBadFile wanted.user_defined files failure

-- the same, with each entry on one line if that is asked for
abbrev pub PrintsLines : InfocmpWanted → List Found → Result (Vec ℕ) Failure → Type 0
PrintsLines wanted files (Ok text) = (whole : Vec ℕ) × PrintsEntries wanted files (Ok whole) × (text.items ≡ as_asked wanted whole.items)
PrintsLines wanted files (Err failure) = IsBadFile wanted.user_defined files failure

-- the same, if the first entry is printed as C has it
abbrev pub PrintsInitializers : InfocmpWanted → List Found → Result (Vec ℕ) Failure → Type 0
PrintsInitializers wanted files (Ok text) =
    (first : Extended) × (others : List Extended) × AreEntries wanted.user_defined files (first ∷ others)
    × (text.items ≡ initializers wanted.structure wanted.tables (described (first_bytes files) first.entry (rows_shown wanted.user_defined first.rows)))
PrintsInitializers wanted files (Err failure) = IsBadFile wanted.user_defined files failure

-- the same, as it is asked for
abbrev pub PrintsBy : (initializer : Bool) → InfocmpWanted → List Found → Result (Vec ℕ) Failure → Type 0
PrintsBy false wanted files result = PrintsLines wanted files result
PrintsBy true wanted files result = PrintsInitializers wanted files result

abbrev pub PrintsFiles : InfocmpWanted → List Found → Result (Vec ℕ) Failure → Type 0
PrintsFiles wanted files result = PrintsBy (is_initializer wanted) wanted files result

-- what comes of files after which one cannot be had: the first of them that is not an entry, else
-- why that one cannot be had
abbrev pub EndsWith : InfocmpWanted → List Found → Option Failure → Result (Vec ℕ) Failure → Type 0
EndsWith wanted files None result = PrintsFiles wanted files result
EndsWith wanted files (Some stop) (Ok text) = ⊥
EndsWith wanted files (Some stop) (Err failure) =
    ((failure ≡ stop) × AllEntries wanted.user_defined files) ⊎ IsBadFile wanted.user_defined files failure

-- the same of names, if there are names; `before` and `after` are the failures that the tree counts
abbrev pub PrintsNames : Option Files → InfocmpWanted → Option (List (List ℕ)) → List (List ℕ) → ℕ → ℕ → Result (Vec ℕ) Failure → Type 0
PrintsNames tree wanted None directories before after result = (result ≡ Err NoName) × (after ≡ before)
PrintsNames tree wanted (Some names) directories before after result =
    (files : List Found) × (stop : Option Failure)
    × GivesFiles tree (sought_names names wanted.first_dir wanted.other_dir directories) before after files stop
    × EndsWith wanted files stop result

-- what `ti-infocmp` prints, or why it prints nothing, given the terminal's own name and the
-- directories; memory may run out before a file is read
abbrev pub Prints : Option Files → InfocmpWanted → Option (List ℕ) → List (List ℕ) → ℕ → ℕ → Result (Vec ℕ) Failure → Type 0
Prints tree wanted own directories before after result =
    ((result ≡ Err out_of_memory) × (after ≡ before)) ⊎ PrintsNames tree wanted (all_names wanted.mode wanted.names own) directories before after result
