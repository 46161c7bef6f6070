-- The items of an entry in termcap's form, and their lines (termcap(5); infocmp(1), -C, -0, -1 and -w).
use Rattle.std.specs.Prelude.{ℕ, ◌+◌, ◌==◌, nat_le, Bool, false, if◌then◌else◌, List, [], ◌∷◌, ◌++◌, length, map, codes, Option, Some, None}
use Rattle.std.specs.List.{flat_map}
use Rattle.std.specs.Fmt.{decimal}
use Rattle.ti_text.specs.Ascii as ascii
use Rattle.ti_layout.specs.Values.{Contents}
use Rattle.everyday_termcap.specs.Contents.{flag_shown, number_shown, text_shown}
use Rattle.everyday_termcap.specs.Lists.{flag_codes, has_parameters, number_codes, text_codes}
use Rattle.everyday_converting.specs.Strings.{source_text, termcap_text}
use Rattle.everyday_termcap.specs.declared.contents.Kept.{Kept}
use Rattle.everyday_termcap.specs.declared.items.Lines.{Lines}

-- ---- items, without the colon that ends them

-- no item, or one
abbrev pub if_any : Option (List ℕ) → List (List ℕ)
if_any None = []
if_any (Some item) = item ∷ []

-- the item of a boolean
abbrev pub flag_item : List ℕ → Bool → Option (List ℕ)
flag_item code shown = if shown then Some code else None

-- the item of a number
abbrev pub number_item : List ℕ → Option ℕ → Option (List ℕ)
number_item code None = None
number_item code (Some n) = Some (code ++ ascii.number_sign ∷ decimal n)

-- a text with a backslash before each colon
abbrev pub with_colons : List ℕ → List ℕ
with_colons text = flat_map (λ (x : ℕ). if x == ascii.colon then codes "\\:" else x ∷ []) text

-- the item of a string that is given, and given its form: where termcap has none, two dots, and the
-- string as a source has it
abbrev pub converted : Bool → List ℕ → List ℕ → Option (List ℕ) → Option (List ℕ)
converted untranslatable code text (Some form) = Some ((code ++ codes "=") ++ form)
converted untranslatable code text None =
    if untranslatable then Some (((codes ".." ++ code) ++ codes "=") ++ with_colons (source_text text)) else None

-- the item of a string
abbrev pub text_item : Bool → List ℕ → Option (List ℕ) → Option (List ℕ)
text_item untranslatable code None = None
text_item untranslatable code (Some text) = converted untranslatable code text (termcap_text (has_parameters code) text)

-- the items of a kind, by their codes
abbrev pub flag_items : Contents → List (List ℕ) → List (List ℕ)
flag_items table list = flat_map (λ (code : List ℕ). if_any (flag_item code (flag_shown table code))) list

abbrev pub number_items : Contents → List (List ℕ) → List (List ℕ)
number_items table list = flat_map (λ (code : List ℕ). if_any (number_item code (number_shown table code))) list

abbrev pub text_items : Contents → Kept → Option (List ℕ) → List (List ℕ) → List (List ℕ)
text_items table kept plain list =
    flat_map (λ (code : List ℕ). if_any (text_item kept.untranslatable code (text_shown table kept plain code))) list

-- ---- lines

-- whether an item is on the line of which so many columns are taken, if one has begun
abbrev pub fits : ℕ → Option ℕ → List ℕ → Bool
fits width None item = false
fits width (Some taken) item = nat_le (taken + 1 + length item) width

-- the columns that are taken after an item; a tab takes 8
abbrev pub column_after : ℕ → Option ℕ → List ℕ → ℕ
column_after width None item = 8 + length item
column_after width (Some taken) item = if nat_le (taken + 1 + length item) width then taken + length item else 8 + length item

-- how a line ends and another begins, unless all items are on one
abbrev pub line_break : Lines → List ℕ
line_break form = if form.joined then [] else codes "\\\n\t:"

-- the same before an item that is not on the line that has begun
abbrev pub break_before : Lines → Option ℕ → List ℕ → List ℕ
break_before form line item = if fits form.width line item then [] else line_break form

-- the items of a kind, of which the first begins a line, when so many columns are taken
abbrev pub lines : Lines → Option ℕ → List (List ℕ) → List ℕ
lines form line [] = []
lines form line (item ∷ items) =
    break_before form line item ++ (item ++ (ascii.colon ∷ lines form (Some (column_after form.width line item)) items))

-- ---- an entry

-- the names field, in which termcap can have no colon
abbrev pub header : List ℕ → List ℕ
header names = map (λ x. if x == ascii.colon then ascii.equals else x) names

-- an entry, without the newline at its end
unfoldable pub entry_text : List ℕ → Contents → Kept → Option (List ℕ) → Lines → List ℕ
entry_text names table kept plain form =
    (((header names ++ codes ":") ++ lines form None (flag_items table (flag_codes kept.all)))
    ++ lines form None (number_items table (number_codes kept.all)))
    ++ lines form None (text_items table kept plain (text_codes kept.all))
