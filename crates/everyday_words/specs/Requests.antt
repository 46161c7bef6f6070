-- What the words of a command line ask for, as plain data (own).
use Rattle.std.specs.Prelude.{ℕ, Bool, List, map, Option, option_map}
use Rattle.std.specs.String.{string_bytes}
use Rattle.clap.specs.Walk.{Text}
use Rattle.ti_list.specs.declared.layout.Layout.{Layout}
use Rattle.tools_commands.specs.declared.jobs.InfocmpMode.{InfocmpMode}
use Rattle.everyday_words.specs.declared.requests.ClearRequest.{ClearRequest}
use Rattle.everyday_words.specs.declared.requests.FmtRequest.{FmtRequest}
use Rattle.everyday_words.specs.declared.requests.InfocmpRequest.{InfocmpRequest}
use Rattle.everyday_words.specs.declared.requests.LintColor.{LintColor}
use Rattle.everyday_words.specs.declared.requests.LintForm.{LintForm}
use Rattle.everyday_words.specs.declared.requests.LintRequest.{LintRequest}
use Rattle.everyday_words.specs.declared.requests.Request.{Request}
use Rattle.everyday_words.specs.declared.requests.Request.TheVariants as request
use Rattle.everyday_words.specs.declared.requests.TabsRequest.{TabsRequest}
use Rattle.everyday_words.specs.declared.requests.TicRequest.{TicRequest}
use Rattle.everyday_words.specs.declared.requests.ToeRequest.{ToeRequest}
use Rattle.everyday_words.specs.declared.requests.TputRequest.{TputRequest}
use Rattle.everyday_words.specs.declared.requests.TsetRequest.{TsetRequest}

-- of `ti-tic`: whether it is only to report, whether it is to say how much it wrote, whether
-- user-defined capabilities are taken, whether line graphics are drawn, the names that are to be
-- written, the directory and the file, each if it is given
pub record TicWanted : Type 0 where
  pub check : Bool
  pub summary : Bool
  pub user_defined : Bool
  pub draws : Bool
  pub only : Option Text
  pub dir : Option Text
  pub file : Option Text

-- of `ti-infocmp`: whether user-defined capabilities are taken, the mode, the names, the layout, whether
-- entries are listed in termcap's form, whether then with what only terminfo has, and whether they are
-- limited in their length, whether the
-- first is printed as the initializer of a structure of C and as tables of C, whether each entry is listed
-- on one line, the only directory for the first name, and that for the others
pub record InfocmpWanted : Type 0 where
  pub user_defined : Bool
  pub mode : InfocmpMode
  pub names : List Text
  pub layout : Layout
  pub termcap : Bool
  pub all : Bool
  pub limited : Bool
  pub structure : Bool
  pub tables : Bool
  pub joined : Bool
  pub first_dir : Option Text
  pub other_dir : Option Text

-- of `ti-tput`: whether commands come from standard input, whether `clear` keeps what has scrolled
-- off the screen, the terminal if it is given, the rate of its line, and the words
pub record TputWanted : Type 0 where
  pub lines : Bool
  pub keeps_scrollback : Bool
  pub term : Option Text
  pub rate : ℕ
  pub words : List Text

-- of `ti-fmt`: whether it only says which sources have another layout, how many columns a line has
-- at most, whether it keeps lines, and the files, none for standard input
pub record FmtWanted : Type 0 where
  pub check : Bool
  pub width : ℕ
  pub keep : Bool
  pub files : List Text

-- of `ti-lint`: whether sources may have user-defined capabilities, whether warnings are as bad as
-- errors, whether fixes are made, the form of what is said, when colors are used, and the files,
-- none for standard input
pub record LintWanted : Type 0 where
  pub user_defined : Bool
  pub strict : Bool
  pub fix : Bool
  pub form : LintForm
  pub color : LintColor
  pub files : List Text

-- of `ti-clear`: whether what has scrolled off the screen is kept, and the terminal if it is given
pub record ClearWanted : Type 0 where
  pub keeps_scrollback : Bool
  pub term : Option Text

-- of `ti-toe`: whether all directories that are searched are listed, whether each has a heading,
-- whether entries are sorted, and the directories, none for those that are searched
pub record ToeWanted : Type 0 where
  pub all : Bool
  pub headings : Bool
  pub sorted : Bool
  pub directories : List Text

-- of `ti-tabs`: the words, options too
pub record TabsWanted : Type 0 where
  pub words : List Text

-- of `ti-tset` and `ti-reset`: whether the terminal is reset, and the words, options too
pub record TsetWanted : Type 0 where
  pub is_reset : Bool
  pub words : List Text

-- what is asked of a tool; `wants_outputs` asks for the directories for entries, given that of `-o`
pub data Wanted : Type 0 where
  wants_tic : TicWanted → Wanted
  wants_outputs : Option Text → Wanted
  wants_infocmp : InfocmpWanted → Wanted
  wants_directories : Wanted
  wants_tput : TputWanted → Wanted
  wants_fmt : FmtWanted → Wanted
  wants_lint : LintWanted → Wanted
  wants_clear : ClearWanted → Wanted
  wants_toe : ToeWanted → Wanted
  wants_tabs : TabsWanted → Wanted
  wants_tset : TsetWanted → Wanted

-- ---- a request that holds its words in memory, as plain data

-- of `ti-tic`
abbrev pub tic_seen : TicRequest → TicWanted
tic_seen r = record {
  check = r.check;
  summary = r.summary;
  user_defined = r.user_defined;
  draws = r.draws;
  only = option_map string_bytes r.only;
  dir = option_map string_bytes r.dir;
  file = option_map string_bytes r.file;
}

-- of `ti-infocmp`
abbrev pub infocmp_seen : InfocmpRequest → InfocmpWanted
infocmp_seen r = record {
  user_defined = r.user_defined;
  mode = r.mode;
  names = map string_bytes r.names.items;
  layout = r.layout;
  termcap = r.termcap;
  all = r.all;
  limited = r.limited;
  structure = r.structure;
  tables = r.tables;
  joined = r.joined;
  first_dir = option_map string_bytes r.first_dir;
  other_dir = option_map string_bytes r.other_dir;
}

-- of `ti-tput`
abbrev pub tput_seen : TputRequest → TputWanted
tput_seen r = record {
  lines = r.lines;
  keeps_scrollback = r.keeps_scrollback;
  term = option_map string_bytes r.term;
  rate = r.rate;
  words = map string_bytes r.words.items;
}

-- of `ti-fmt`
abbrev pub fmt_seen : FmtRequest → FmtWanted
fmt_seen r = record { check = r.check; width = r.width; keep = r.keep; files = map string_bytes r.files.items }

-- of `ti-lint`
abbrev pub lint_seen : LintRequest → LintWanted
lint_seen r = record {
  user_defined = r.user_defined;
  strict = r.strict;
  fix = r.fix;
  form = r.form;
  color = r.color;
  files = map string_bytes r.files.items;
}

-- of `ti-clear`
abbrev pub clear_seen : ClearRequest → ClearWanted
clear_seen r = record { keeps_scrollback = r.keeps_scrollback; term = option_map string_bytes r.term }

-- of `ti-toe`
abbrev pub toe_seen : ToeRequest → ToeWanted
toe_seen r = record { all = r.all; headings = r.headings; sorted = r.sorted; directories = map string_bytes r.directories.items }

-- of `ti-tabs`
abbrev pub tabs_seen : TabsRequest → TabsWanted
tabs_seen r = record { words = map string_bytes r.words.items }

-- of `ti-tset` and `ti-reset`
abbrev pub tset_seen : TsetRequest → TsetWanted
tset_seen r = record { is_reset = r.is_reset; words = map string_bytes r.words.items }

-- of any tool
abbrev pub wanted_of : Request → Wanted
wanted_of (request.Tic r) = wants_tic (tic_seen r)
wanted_of (request.Outputs dir) = wants_outputs (option_map string_bytes dir)
wanted_of (request.Infocmp r) = wants_infocmp (infocmp_seen r)
wanted_of request.Directories = wants_directories
wanted_of (request.Tput r) = wants_tput (tput_seen r)
wanted_of (request.Fmt r) = wants_fmt (fmt_seen r)
wanted_of (request.Lint r) = wants_lint (lint_seen r)
wanted_of (request.Clear r) = wants_clear (clear_seen r)
wanted_of (request.Toe r) = wants_toe (toe_seen r)
wanted_of (request.Tabs r) = wants_tabs (tabs_seen r)
wanted_of (request.Tset r) = wants_tset (tset_seen r)
