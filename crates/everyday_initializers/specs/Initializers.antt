-- An entry as C's tables, and as the structure of them (infocmp(1), -E and -e).
use Rattle.std.specs.Prelude.{ℕ, ◌+◌, ◌-◌, ◌/◌, ◌%◌, ◌==◌, nat_le, nat_lt, Bool, ◌&&◌, ◌||◌, not, if◌then◌else◌, List, [], ◌∷◌, ◌++◌, length, map, codes, replicate}
use Rattle.std.specs.Prelude.{Option, Some, None}
use Rattle.std.specs.List.{before_first, flat_map, range_with_len}
use Rattle.std.specs.Fmt.{decimal}
use Rattle.ti_text.specs.Ascii as ascii
use Rattle.ti_caps.specs.Tables.{count_of}
use Rattle.ti_caps.specs.declared.capability.Kind.{Kind}
use Rattle.ti_caps.specs.declared.capability.Kind.TheVariants.{Flag, Number, Text}
use Rattle.ti_layout.specs.Values.{Content, content_true, content_number, content_text}
use Rattle.everyday_initializers.specs.Marks.{flag_byte, is_cancelled_number, is_cancelled_text}
use Rattle.everyday_initializers.specs.Rows.{Described, content_at, extra_count, mark_index, marks_at, name_at, total_count}

-- ---- names of C's variables

-- whether a byte may be in a name of C, but for the underscore
abbrev pub is_alphanumeric : ℕ → Bool
is_alphanumeric b =
    (nat_le (ascii.byte_of "0") b && nat_le b (ascii.byte_of "9"))
    || ((nat_le (ascii.byte_of "A") b && nat_le b (ascii.byte_of "Z")) || (nat_le (ascii.byte_of "a") b && nat_le b (ascii.byte_of "z")))

-- a byte that may be in a name, or an underscore in its place
abbrev pub in_name : ℕ → ℕ
in_name b = if is_alphanumeric b then b else ascii.byte_of "_"

-- with what the variables of an entry begin: its first name
abbrev pub prefix : List ℕ → List ℕ
prefix names = map in_name (before_first (λ b. b == ascii.bar) names)

-- the variable of a table
abbrev pub table_name : List ℕ → List ℕ → List ℕ
table_name front table = front ++ codes "_" ++ table ++ codes "_data"

-- the variable of a string
abbrev pub variable : List ℕ → List ℕ → List ℕ
variable front name = front ++ codes "_s_" ++ name

-- ---- texts of a width

-- a text with blanks after it, up to a width
abbrev pub on_the_left : ℕ → List ℕ → List ℕ
on_the_left width text = text ++ replicate (width - length text) ascii.space

-- a text with blanks before it, up to a width
abbrev pub on_the_right : ℕ → List ℕ → List ℕ
on_the_right width text = replicate (width - length text) ascii.space ++ text

-- ---- a string of C

-- the octal digit of a number below 8
abbrev pub octal_digit : ℕ → ℕ
octal_digit n = ascii.byte_of "0" + n

-- whether a byte is printed as it is
abbrev pub is_plain : ℕ → Bool
is_plain b = nat_le ascii.space b && nat_lt b 127 && not (b == ascii.backslash) && not (b == ascii.byte_of "\"")

-- a byte as it is, or by three octal digits
abbrev pub spelled : ℕ → List ℕ
spelled b = if is_plain b then b ∷ [] else ascii.backslash ∷ octal_digit (b / 64) ∷ octal_digit (b / 8 % 8) ∷ octal_digit (b % 8) ∷ []

-- a string without its quotation marks
abbrev pub spelling : List ℕ → List ℕ
spelling text = flat_map spelled text

-- ---- what the tables have of a capability

-- a boolean without a value: absent and cancelled, which old writers have as -1 and -2, else false
abbrev pub void_flag : Option ℕ → List ℕ
void_flag None = codes "FALSE"
void_flag (Some b) = if b == 255 then codes "ABSENT_BOOLEAN" else if b == 254 then codes "CANCELLED_BOOLEAN" else codes "FALSE"

-- a boolean, given its byte
abbrev pub flag_word : Option Content → Option ℕ → List ℕ
flag_word (Some content_true) byte = codes "TRUE"
flag_word _ byte = void_flag byte

-- a number, given whether it is cancelled
abbrev pub number_word : Option Content → Bool → List ℕ
number_word (Some (content_number n)) cancelled = decimal n
number_word _ cancelled = if cancelled then codes "CANCELLED_NUMERIC" else codes "ABSENT_NUMERIC"

-- a string, given its variable and whether it is cancelled
abbrev pub text_word : Option Content → List ℕ → Bool → List ℕ
text_word (Some (content_text text)) name cancelled = name
text_word _ name cancelled = if cancelled then codes "CANCELLED_STRING" else codes "ABSENT_STRING"

-- ---- the lines

-- with what a line begins: the index and the name of a capability
abbrev pub line_front : ℕ → List ℕ → List ℕ
line_front index name = codes "\t/* " ++ on_the_right 3 (decimal index) ++ codes ": " ++ on_the_left 8 name ++ codes " */\t"

-- the variable of a string, and the string
abbrev pub string_line : List ℕ → List ℕ → Option Content → List ℕ
string_line front name (Some (content_text text)) =
    codes "static char " ++ on_the_left 20 (variable front name) ++ codes "[] = \"" ++ spelling text ++ codes "\";\n"
string_line front name _ = []

-- the string at an index
abbrev pub string_at : Described → ℕ → List ℕ
string_at d index = string_line (prefix d.names) (name_at d Text index) (content_at d Text index)

-- the boolean at an index
abbrev pub flag_at : Described → ℕ → List ℕ
flag_at d index =
    line_front index (name_at d Flag index)
    ++ flag_word (content_at d Flag index) (flag_byte (marks_at d Flag index) (mark_index Flag index)) ++ codes ",\n"

-- the number at an index
abbrev pub number_at : Described → ℕ → List ℕ
number_at d index =
    line_front index (name_at d Number index)
    ++ number_word (content_at d Number index) (is_cancelled_number (marks_at d Number index) (mark_index Number index)) ++ codes ",\n"

-- the string at an index, by its variable
abbrev pub text_at : Described → ℕ → List ℕ
text_at d index =
    line_front index (name_at d Text index)
    ++ text_word (content_at d Text index) (variable (prefix d.names) (name_at d Text index)) (is_cancelled_text (marks_at d Text index) (mark_index Text index))
    ++ codes ",\n"

-- a kind in the table of user-defined names
abbrev pub kind_word : Kind → List ℕ
kind_word Flag = codes "bool"
kind_word Number = codes "num"
kind_word Text = codes "str"

-- the name at an index
abbrev pub name_line : Described → Kind → ℕ → List ℕ
name_line d kind index =
    codes "\t/* " ++ on_the_right 3 (decimal index) ++ codes ": " ++ kind_word kind ++ codes " */\t\"" ++ name_at d kind index ++ codes "\",\n"

-- the lines of the indexes from one up to another
abbrev pub lines : (ℕ → List ℕ) → ℕ → ℕ → List ℕ
lines line begin end = flat_map line (range_with_len begin (end - begin))

-- ---- the tables

-- with what a table begins, and with what it ends
abbrev pub table_front : List ℕ → List ℕ → List ℕ → List ℕ
table_front type front table = codes "static " ++ type ++ table_name front table ++ codes "[] = {\n"

abbrev pub table_end : List ℕ
table_end = codes "};\n"

-- a table of all capabilities of a kind
abbrev pub table : Described → Kind → List ℕ → List ℕ → (ℕ → List ℕ) → List ℕ
table d kind type name line = (table_front type (prefix d.names) name ++ lines line 0 (total_count d kind)) ++ table_end

-- whether there are user-defined capabilities
abbrev pub has_extra : Described → Bool
has_extra d = nat_lt 0 (extra_count d Flag + extra_count d Number + extra_count d Text)

-- the user-defined names of a kind
abbrev pub extra_names : Described → Kind → List ℕ
extra_names d kind = lines (name_line d kind) (count_of kind) (total_count d kind)

-- the table of user-defined names
unfoldable pub full_names_table : Described → List ℕ
full_names_table d =
    (((table_front (codes "char * ") (prefix d.names) (codes "string_ext") ++ extra_names d Flag) ++ extra_names d Number) ++ extra_names d Text) ++ table_end

-- the same, if there are any
abbrev pub names_table : Described → List ℕ
names_table d = if has_extra d then full_names_table d else []

-- the names field
abbrev pub alias_table : Described → List ℕ
alias_table d = codes "\nstatic char " ++ table_name (prefix d.names) (codes "alias") ++ codes "[] = \"" ++ d.names ++ codes "\";\n\n"

-- all tables
unfoldable pub tables_text : Described → List ℕ
tables_text d =
    (((((alias_table d ++ lines (string_at d) 0 (total_count d Text)) ++ codes "\n") ++ table d Flag (codes "char ") (codes "bool") (flag_at d))
    ++ table d Number (codes "short ") (codes "number") (number_at d)) ++ table d Text (codes "char * ") (codes "string") (text_at d)) ++ names_table d

-- ---- the structure

-- a table as a member of the structure
abbrev pub member : List ℕ → List ℕ → List ℕ
member front table = codes "\t\t" ++ table_name front table ++ codes ",\n"

-- the table of user-defined names as a member, or none
abbrev pub names_member : Described → List ℕ
names_member d = if has_extra d then table_name (prefix d.names) (codes "string_ext") else codes "(char **)0"

-- a number as a member
abbrev pub count_member : ℕ → List ℕ → List ℕ
count_member n said = (((codes "\t\t" ++ decimal n) ++ codes ",\t\t/* count ") ++ said) ++ codes " */\n"

-- how many capabilities there are of each kind, and how many of them are user-defined
unfoldable pub count_members : Described → List ℕ
count_members d =
    ((((count_member (total_count d Flag) (codes "total Booleans") ++ count_member (total_count d Number) (codes "total Numbers"))
    ++ count_member (total_count d Text) (codes "total Strings")) ++ count_member (extra_count d Flag) (codes "extensions to Booleans"))
    ++ count_member (extra_count d Number) (codes "extensions to Numbers")) ++ count_member (extra_count d Text) (codes "extensions to Strings")

-- the members that each system has
unfoldable pub table_members : List ℕ → List ℕ
table_members front =
    ((((codes "\t{\n" ++ member front (codes "alias")) ++ codes "\t\t(char *)0,\t/* pointer to string table */\n") ++ member front (codes "bool"))
    ++ member front (codes "number")) ++ member front (codes "string")

-- the structure
unfoldable pub structure_text : Described → List ℕ
structure_text d =
    ((((table_members (prefix d.names) ++ codes "#if NCURSES_XNAMES\n\t\t(char *)0,\t/* pointer to extended string table */\n\t\t") ++ names_member d)
    ++ codes ",\t/* ...corresponding names */\n") ++ count_members d) ++ codes "#endif /* NCURSES_XNAMES */\n\t}\n"

-- what is asked for: the structure, and then the tables
abbrev pub initializers : (structure tables : Bool) → Described → List ℕ
initializers structure tables d = (if structure then structure_text d else []) ++ (if tables then tables_text d else [])
