-- What an entry says that C holds (own): a view of the library, taken apart.
use Rattle.std.specs.Borrow.{Bor}
use Rattle.std.specs.Prelude.{◌≡◌, ◌⊎◌, ℕ, ℤ, pos, negsuc, nat_lt, Bool, true, false, if◌then◌else◌, List, Option, Some, None}
use Rattle.ti_caps.specs.Tables.{capability, count_of}
use Rattle.ti_caps.specs.declared.capability.Kind.TheVariants.{Flag, Number, Text}
use Rattle.ti_layout.specs.declared.fault.ReadError.{ReadError}
use Rattle.ti_layout.specs.declared.layout.Format.{Format}
use Rattle.ti_layout.specs.declared.layout.Format.TheVariants.{Legacy, Extended}
use Rattle.ti_layout.specs.Reading.{Reads, FailsToRead, contents_of, numbers_in, rank}
use Rattle.ti_layout.specs.Values.{Contents}
use Rattle.ti_layout.specs.View.{shown_flag, shown_number, shown_text}
use Rattle.ti_layout.specs.View as view
use Rattle.ti_c.specs.declared.entry.Entry.{Entry}

-- whether numbers take four bytes
abbrev pub format_of : Bool → Format
format_of true = Extended
format_of false = Legacy

-- the names field, without its NUL
abbrev pub entry_names : Entry → List ℕ
entry_names e = e.names.now

-- what the entry holds of each capability
unfoldable pub entry_contents : Entry → Contents
entry_contents e =
    contents_of (format_of e.wide) e.flags.now (numbers_in (format_of e.wide) e.numbers.now) (numbers_in Legacy e.offsets.now) e.strings.now

-- the entry, as the library sees it
abbrev pub entry_of : Entry → view.Entry
entry_of e = record { names = entry_names e; contents = entry_contents e }

-- ---- reading

-- the bytes are this entry, which holds the whole of them
abbrev pub IsEntryOf : List ℕ → Entry → Type 0
IsEntryOf bytes e = Reads bytes (entry_names e) (entry_contents e) × (e.bytes.now ≡ bytes)

-- 0: the bytes are this entry, which holds the whole of them where they are. Else they are refused
-- by the first refusal that holds; the answer is its number, and the entry is as before.
abbrev pub ReadAnswer : Bor (List ℕ) → Entry → Entry → ℕ → Type 0
ReadAnswer bytes before after answer =
    ((answer ≡ 0) × IsEntryOf bytes.now after × (after.bytes.ref_ptr ≡ bytes.ref_ptr))
    ⊎ ((error : ReadError) × (answer ≡ rank error) × FailsToRead bytes.now error × (after ≡ before))

-- memory was refused
abbrev pub no_memory_answer : ℕ
no_memory_answer = 9

-- the number of the first refusal that holds, or memory was refused
abbrev pub IsRefusal : List ℕ → ℕ → Type 0
IsRefusal bytes answer = ((error : ReadError) × (answer ≡ rank error) × FailsToRead bytes error) ⊎ (answer ≡ no_memory_answer)

-- 0: the bytes are an entry
abbrev pub CopyAnswer : List ℕ → ℕ → Type 0
CopyAnswer bytes answer =
    ((answer ≡ 0) × (names : List ℕ) × (contents : Contents) × Reads bytes names contents) ⊎ IsRefusal bytes answer

-- ---- values

-- 1 or 0, if the boolean of a place is set or not; -1 if there is no such boolean
abbrev pub flag_answer : Contents → ℕ → ℤ
flag_answer contents index =
    if nat_lt index (count_of Flag) then (if shown_flag (contents (capability Flag index)) then pos 1 else pos 0) else negsuc 0

-- a number; -1 if it is absent
abbrev pub number_or_absent : Option ℕ → ℤ
number_or_absent (Some n) = pos n
number_or_absent None = negsuc 0

-- the number of a place; -1 if it is absent, -2 if there is no such number
abbrev pub number_answer : Contents → ℕ → ℤ
number_answer contents index =
    if nat_lt index (count_of Number) then number_or_absent (shown_number (contents (capability Number index))) else negsuc 1

-- the string of a place, if there is one
abbrev pub string_at : Contents → ℕ → Option (List ℕ)
string_at contents index = if nat_lt index (count_of Text) then shown_text (contents (capability Text index)) else None

-- whether there is one
abbrev pub presence : Option (List ℕ) → ℤ
presence (Some text) = pos 1
presence None = pos 0

-- 1 if the string of a place is present, 0 if it is absent; -1 if there is no such string
abbrev pub string_answer : Contents → ℕ → ℤ
string_answer contents index = if nat_lt index (count_of Text) then presence (shown_text (contents (capability Text index))) else negsuc 0
