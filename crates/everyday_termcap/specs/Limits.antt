-- What of an entry is written where it is too long for older readers of termcap, and the comments on
-- that (infocmp(1), -T; ncurses's `dump_entry`): up to 1,023 bytes are short enough.
use Rattle.std.specs.Prelude.{ℕ, zero, suc, ◌+◌, ◌-◌, ◌==◌, nat_le, nat_lt, Bool, true, false, ◌&&◌, ◌||◌, not, if◌then◌else◌, List, [], ◌∷◌, ◌++◌, length, codes}
use Rattle.std.specs.Prelude.{Option, Some, None}
use Rattle.std.specs.List.{list_any}
use Rattle.std.specs.Option.{option_copied}
use Rattle.std.specs.Fmt.{decimal}
use Rattle.ti_text.specs.Ascii as ascii
use Rattle.ti_text.specs.Ascii.{byte_of}
use Rattle.ti_layout.specs.Values.{Contents}
use Rattle.ti_layout.specs.View.{names_of, view_contents}
use Rattle.everyday_termcap.specs.Contents.{is_there, text_said}
use Rattle.everyday_termcap.specs.Items.{entry_text}
use Rattle.everyday_termcap.specs.declared.contents.Kept.{Kept}
use Rattle.everyday_termcap.specs.declared.items.Lines.{Lines}
use Rattle.everyday_termcap.specs.declared.limits.Remark.{Remark}
use Rattle.everyday_termcap.specs.declared.limits.Remark.TheVariants.{Untranslatable, Graphics, Consistency, Characters, TerminfoOnly, Keys, WarningFront, WarningEnd}
use Rattle.everyday_termcap.specs.declared.limits.Source.{Source as Lent}

-- an entry, its `me` with its alternate character set and without, whether all that has a code is
-- written, or what termcap has, and its lines
pub record Source : Type 0 where
  pub names : List ℕ
  pub table : Contents
  pub with_sets : Option (List ℕ)
  pub without_sets : Option (List ℕ)
  pub all : Bool
  pub form : Lines

-- the same of one in memory
abbrev pub source_seen : Lent → Source
source_seen s = record {
  names = names_of s.view;
  table = view_contents s.view;
  with_sets = option_copied s.with_sets;
  without_sets = option_copied s.without_sets;
  all = s.all;
  form = s.form;
}

-- the entry with what is kept of it
unfoldable pub shown : Source → Kept → List ℕ
shown s kept = entry_text s.names s.table kept (if kept.sets then s.with_sets else s.without_sets) s.form

-- whether a text is short enough
abbrev pub is_fit : List ℕ → Bool
is_fit text = nat_le (length text) 1023

-- ---- what is kept

abbrev pub all_kept : (all : Bool) → Kept
all_kept all = record { all = all; untranslatable = true; graphics = true; sets = true; characters = true; keys = 10 }

-- of an entry that is too long
abbrev pub kept_in_short : (all graphics sets characters : Bool) (keys : ℕ) → Kept
kept_in_short all graphics sets characters keys =
    record { all = all; untranslatable = false; graphics = graphics; sets = sets; characters = characters; keys = keys }

-- a line-drawing character is on each of these
abbrev pub is_line : ℕ → Bool
is_line x = list_any (λ y. y == x) (codes "lmkjtuvwqxn")

-- whether each line-drawing character of an `acsc` is its own, as in that of a vt100
abbrev pub is_one_to_one : List ℕ → Bool
is_one_to_one [] = true
is_one_to_one (x ∷ []) = true
is_one_to_one (x ∷ y ∷ pairs) = if is_line x && not (x == y) then false else is_one_to_one pairs

-- whether an entry is to lose `as` and `ae`: readers of termcap take no `acsc`
abbrev pub loses_sets : Option (List ℕ) → Bool
loses_sets None = false
loses_sets (Some acsc) = not (is_one_to_one acsc)

abbrev pub has_sets : Contents → Bool
has_sets table = not (loses_sets (text_said table (codes "ac")))

-- the code of a function key
abbrev pub key_code : ℕ → List ℕ
key_code n = byte_of "k" ∷ (ascii.digit_0 + n) ∷ []

-- whether an entry has a function key below a number
unfoldable pub has_keys : Contents → ℕ → Bool
has_keys table zero = false
has_keys table (suc n) = is_there (text_said table (key_code n)) || has_keys table n

-- the first function key that is left out, given what is done without the key of a number
abbrev pub lose_key : (n too_many : ℕ) → (ℕ → ℕ) → Option (List ℕ) → ℕ
lose_key n too_many later None = later too_many
lose_key n too_many later (Some t) = if nat_lt too_many (length t + 5) then n else later (too_many - (length t + 5))

-- the first function key that is left out, if those from a number on are and so many bytes are too
-- many: the string of a key counts for five bytes more than it has
unfoldable pub first_lost : Contents → (n too_many : ℕ) → ℕ
first_lost table zero too_many = 0
first_lost table (suc n) too_many = lose_key n too_many (λ left. first_lost table n left) (text_said table (key_code n))

-- ---- comments

-- what a comment says
unfoldable pub remark_text : Remark → List ℕ
remark_text Untranslatable = codes "# (untranslatable capabilities removed to fit entry within 1023 bytes)\n"
remark_text Graphics = codes "# (sgr removed to fit entry within 1023 bytes)\n"
remark_text Consistency = codes "# (rmacs/smacs removed for consistency)\n"
remark_text Characters = codes "# (acsc removed to fit entry within 1023 bytes)\n"
remark_text TerminfoOnly = codes "# (terminfo-only capabilities suppressed to fit entry within 1023 bytes)\n"
remark_text Keys = codes "# (some function-key capabilities suppressed to fit entry within 1023 bytes)\n"
remark_text WarningFront = codes "# WARNING: this entry, "
remark_text WarningEnd = codes " bytes long, may core-dump older termcap libraries!\n"

-- a comment, if it is said
abbrev pub remark_if : Bool → Remark → List ℕ
remark_if said remark = if said then remark_text remark else []

-- the warning of a text that is too long
unfoldable pub warning : List ℕ → List ℕ
warning text = if is_fit text then [] else (remark_text WarningFront ++ decimal (length text)) ++ remark_text WarningEnd

-- ---- what is written

-- too long without what only terminfo has too: function keys are left out
unfoldable pub without_keys : Source → List ℕ → List ℕ
without_keys s text =
    let last = shown s (kept_in_short false false (has_sets s.table) false (first_lost s.table 10 (length text - 1023))) in
    (remark_if (has_keys s.table 10) Keys ++ warning last) ++ last

-- too long without its graphics and sets too: what only terminfo has is left out
unfoldable pub without_others : Source → List ℕ
without_others s =
    let text = shown s (kept_in_short false false (has_sets s.table) false 10) in
    remark_text TerminfoOnly ++ (if is_fit text then text else without_keys s text)

-- too long without its graphics: its characters are left out, and its sets
unfoldable pub without_sets : Source → List ℕ
without_sets s =
    let sets = has_sets s.table in
    let text = shown s (kept_in_short s.all false sets false 10) in
    (remark_if (not sets) Consistency ++ remark_if (is_there (text_said s.table (codes "ac"))) Characters)
    ++ (if is_fit text then text else without_others s)

-- too long without what termcap has no form for
unfoldable pub without_graphics : Source → List ℕ
without_graphics s =
    let text = shown s (kept_in_short s.all false true true 10) in
    remark_if (is_there (text_said s.table (codes "sa"))) Graphics ++ (if is_fit text then text else without_sets s)

-- too long as it is
unfoldable pub shortened : Source → List ℕ
shortened s =
    let text = shown s (kept_in_short s.all true true true 10) in
    remark_text Untranslatable ++ (if is_fit text then text else without_graphics s)

-- short enough, or of any length: it keeps its sets if its characters are listed
unfoldable pub as_it_is : Source → List ℕ
as_it_is s =
    let sets = s.all || has_sets s.table in
    remark_if (not sets) Consistency ++ shown s (record (all_kept s.all) { sets = sets })

-- an entry, with its comments, without the newline at its end
unfoldable pub limited_text : Bool → Source → List ℕ
limited_text limited s = if limited && not (is_fit (shown s (all_kept s.all))) then shortened s else as_it_is s
