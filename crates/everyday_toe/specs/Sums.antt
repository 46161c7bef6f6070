-- A sum of what an entry has, by which toe(1) tells entries of one name apart (ncurses 6.4, whose sum
-- this is; that a cancelled value counts as an absent one is own).
use Rattle.std.specs.Prelude.{ℕ, zero, suc, ◌+◌, ◌%◌, ◌^◌, List, Option, Some, None}
use Rattle.std.specs.List.{fold}
use Rattle.ti_caps.specs.Tables.{capability, count_of}
use Rattle.ti_caps.specs.declared.capability.Kind.{Kind}
use Rattle.ti_caps.specs.declared.capability.Kind.TheVariants.{Flag, Number, Text}
use Rattle.ti_layout.specs.Values.{Content, Contents, content_true, content_number, content_text, content_cancelled}
use Rattle.ti_layout.specs.View.{Entry}
use Rattle.user_extension.specs.Reading.{ReadRow}

-- a total and one more number, in 64 bits
abbrev pub added : ℕ → ℕ → ℕ
added total number = (total + number) % 2 ^ 64

-- a total and the bytes of a text
abbrev pub text_added : ℕ → List ℕ → ℕ
text_added total text = fold added total text

-- a total and what there is of a capability, if there is something: 1 for a boolean
abbrev pub given_added : ℕ → Option Content → ℕ
given_added total None = total
given_added total (Some content_true) = added total 1
given_added total (Some (content_number n)) = added total n
given_added total (Some (content_text text)) = text_added total text
given_added total (Some content_cancelled) = total

-- what an absent number of the tables counts: minus one, in 64 bits
abbrev pub absent_number : ℕ
absent_number = 18446744073709551615

-- the same of a capability of the tables
abbrev pub table_added : Kind → ℕ → Option Content → ℕ
table_added Number total None = added total absent_number
table_added kind total content = given_added total content

-- a total and what an entry has of the first capabilities of a kind
unfoldable pub kind_added : Contents → Kind → ℕ → ℕ → ℕ
kind_added contents kind zero total = total
kind_added contents kind (suc count) total = table_added kind (kind_added contents kind count total) (contents (capability kind count))

-- a total and what an extension has
abbrev pub extension_added : ℕ → List ReadRow → ℕ
extension_added total rows = fold (λ sum row. given_added sum row.1) total rows

-- the sum of an entry with user-defined capabilities: of its names, of what it has of the tables, and
-- of the values of its extension
abbrev pub entry_sum : Entry → List ReadRow → ℕ
entry_sum entry rows =
    let names = text_added 0 entry.names in
    let flags = kind_added entry.contents Flag (count_of Flag) names in
    let numbers = kind_added entry.contents Number (count_of Number) flags in
    extension_added (kind_added entry.contents Text (count_of Text) numbers) rows
