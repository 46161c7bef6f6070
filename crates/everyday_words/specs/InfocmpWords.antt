-- What the words after `ti-infocmp` ask for (infocmp(1)).
use Rattle.std.specs.Prelude.{ℕ, ◌==◌, nat_lt, Bool, false, ◌||◌, ◌&&◌, not, if◌then◌else◌, List, [], ◌∷◌, length, slice_index, codes}
use Rattle.std.specs.Prelude.{Option, Some, None, Result, Ok, Err}
use Rattle.std.specs.Str.Parse.{digits_value, without_leading_plus}
use Rattle.ti_text.specs.Ascii as ascii
use Rattle.clap.specs.ValueTests.{is_unsigned_in}
use Rattle.clap.specs.Walk.{Row, Text, first_of}
use Rattle.ti_list.specs.declared.layout.Order.{Order}
use Rattle.tools_commands.specs.InfocmpWords.{modes_named, name_words, order_for}
use Rattle.tools_commands.specs.Matches.{is_on}
use Rattle.tools_commands.specs.Rules.{is_given}
use Rattle.tools_commands.specs.declared.jobs.InfocmpMode.{InfocmpMode}
use Rattle.tools_commands.specs.declared.jobs.InfocmpMode.TheVariants as mode
use Rattle.tools_commands.specs.declared.mistakes.Mistake.{Mistake}
use Rattle.tools_commands.specs.declared.mistakes.Mistake.TheVariants as mistake
use Rattle.everyday_words.specs.Requests.{Wanted, wants_directories, wants_infocmp}

-- the mode for this number of names: the one that is named; if none is, listing for one name and
-- differences for more
abbrev pub mode_of : List InfocmpMode → ℕ → Result InfocmpMode Mistake
mode_of [] count = Ok (if nat_lt 1 count then mode.Differ else mode.List)
mode_of (named ∷ []) count = Ok named
mode_of (first ∷ second ∷ others) count = Err (mistake.TwoModes first second)

-- whether an entry is printed as C has it, whatever else there is
abbrev pub is_initializer : List Row → Bool
is_initializer rows = is_on (codes "tables") rows || is_on (codes "structure") rows

-- whether entries are listed in termcap's form
abbrev pub is_termcap : List Row → Bool
is_termcap rows = is_on (codes "termcap") rows && not (is_initializer rows)

-- whether entries are compared
unfoldable pub compares : List Row → Bool
compares rows = is_on (codes "differ") rows || is_on (codes "common") rows || is_on (codes "neither") rows
    || (nat_lt 1 (length (name_words rows)) && not (is_on (codes "list") rows) && not (is_on (codes "relative") rows))

-- whether two names are given, or a mode that takes two
unfoldable pub takes_two : List Row → Bool
takes_two rows = nat_lt 1 (length (name_words rows)) || compares rows || is_on (codes "relative") rows

-- whether a layout is asked for that is not on one line
abbrev pub is_wrapped : List Row → Bool
is_wrapped rows = is_on (codes "one") rows || is_given (codes "width") rows

-- ---- the width of a listing's lines

-- the greatest width that may be asked for, as an `int` of C
abbrev pub columns_max : ℕ
columns_max = 2147483647

-- the width that is taken if none is given
abbrev pub columns_default : ℕ
columns_default = 60

-- the width that a text says, if it is one that may be asked for
abbrev pub columns_for : Option Text → Option ℕ
columns_for None = Some columns_default
columns_for (Some text) = if is_unsigned_in 0 columns_max text then Some (digits_value 10 (without_leading_plus text)) else None

-- whether a text has a digit 0 before others, which makes it a number of base 8 to ncurses
abbrev pub is_octal : Option Text → Bool
is_octal None = false
is_octal (Some text) = nat_lt 1 (length text) && (slice_index text 0 == ascii.digit_0)

-- ---- what is asked for

-- what is wrong with options that do not go together, or with the width, if they are there
unfoldable pub conflict : List Row → Option Text
conflict rows =
    if is_on (codes "tables") rows && takes_two rows then Some (codes "-E takes one name")
    else if is_on (codes "structure") rows && takes_two rows then Some (codes "-e takes one name")
    else if is_on (codes "q") rows && compares rows then Some (codes "-q is not supported in comparisons")
    else if is_on (codes "joined") rows && is_wrapped rows then Some (codes "-0 excludes -1 and -w")
    else if is_octal (first_of (codes "width") rows) then Some (codes "-w takes a decimal number")
    else None

-- what is asked for, if a mode, a width and an order are there; termcap has no user-defined
-- capabilities
abbrev pub listing_at : Result InfocmpMode Mistake → Option ℕ → Option Order → List Row → List Text → Result Wanted Mistake
listing_at (Err wrong) width by rows names = Err wrong
listing_at (Ok named) None by rows names = Err mistake.NoCommandLine
listing_at (Ok named) (Some width) None rows names = Err mistake.NoCommandLine
listing_at (Ok named) (Some width) (Some by) rows names = Ok (wants_infocmp (record {
  user_defined = (is_on (codes "user") rows || is_on (codes "a") rows) && not (is_termcap rows);
  mode = named;
  names = names;
  layout = record { width = width; one_per_line = is_on (codes "one") rows || is_on (codes "joined") rows; order = by };
  termcap = is_termcap rows;
  all = is_on (codes "all") rows;
  limited = not (is_on (codes "unlimited") rows);
  structure = is_on (codes "structure") rows;
  tables = is_on (codes "tables") rows;
  joined = is_on (codes "joined") rows;
  first_dir = first_of (codes "first") rows;
  other_dir = first_of (codes "other") rows;
}))

-- what is asked for with these matches and names, or what is wrong
abbrev pub listing_with : List Row → List Text → Result Wanted Mistake
listing_with rows names =
    listing_at (mode_of (modes_named rows) (length names)) (columns_for (first_of (codes "width") rows)) (order_for (first_of (codes "sort") rows)) rows names

-- what is asked for with these matches but for `-D`
unfoldable pub listing_asked : List Row → Result Wanted Mistake
listing_asked rows = listing_with rows (name_words rows)

-- what is asked for with these matches: with `-D` the directories, whatever else there is
abbrev pub infocmp_asked : List Row → Result Wanted Mistake
infocmp_asked rows = if is_on (codes "directories") rows then Ok wants_directories else listing_asked rows
