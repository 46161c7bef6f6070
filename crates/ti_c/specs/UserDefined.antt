-- What C sees of an entry's user-defined capabilities (user_caps(5); "Extended storage format" of
-- term(5)).
use Rattle.std.specs.Prelude.{◌≡◌, ◌⊎◌, ◌+◌, ℕ, nat_lt, Bool, true, false, if◌then◌else◌, List, [], length, Option, Some, None}
use Rattle.ti_layout.specs.Values.{Content, content_true, content_number, content_text, content_cancelled}
use Rattle.ti_layout.specs.Reading.{count_in, rank}
use Rattle.user_extension.specs.declared.fault.ExtensionError.{ExtensionError}
use Rattle.user_extension.specs.declared.fault.ExtensionError.TheVariants as errors
use Rattle.user_extension.specs.Reading.{Parts, ReadRow, rows_in, rows_after, EndsWell, FailsToRead}
use Rattle.ti_c.specs.declared.extension.EntryExtension.{EntryExtension}
use Rattle.ti_c.specs.declared.user_defined.FoundValue.{FoundValue}
use Rattle.ti_c.specs.Entries.{format_of}

-- the sections as bytes
abbrev pub sections_held : EntryExtension → Parts
sections_held e = record { flags = e.flags.now; numbers = e.numbers.now; values = e.values.now; names = e.names.now; table = e.table.now }

-- each name with what it has, in the order of booleans, numbers and strings
unfoldable pub rows_held : EntryExtension → List ReadRow
rows_held e = rows_in (format_of e.wide) (sections_held e)

-- the number of a refusal: that of the entry's own, or 12 if what follows the entry is not an
-- extension
abbrev pub refusal_number : ExtensionError → ℕ
refusal_number (errors.Entry e) = rank e
refusal_number errors.BadExtension = 12

-- 0: the bytes are an entry, and these are its user-defined capabilities. Else they are refused; the
-- answer is the number of the refusal, and what is held is as before.
abbrev pub ExtensionAnswer : List ℕ → EntryExtension → EntryExtension → ℕ → Type 0
ExtensionAnswer bytes before after answer =
    ((answer ≡ 0) × EndsWell bytes × (rows_held after ≡ rows_after bytes))
    ⊎ ((error : ExtensionError) × (answer ≡ refusal_number error) × FailsToRead bytes error × (after ≡ before))

-- the kind of the capability at an index
abbrev pub kind_at : EntryExtension → ℕ → ℕ
kind_at e index =
    if nat_lt index (length e.flags.now) then 0
    else (if nat_lt index (length e.flags.now + count_in (format_of e.wide) e.numbers.now) then 1 else 2)

-- the kind of a value; a cancel has none
abbrev pub kind_of : Content → ℕ
kind_of content_true = 0
kind_of (content_number n) = 1
kind_of (content_text text) = 2
kind_of content_cancelled = 3

-- a capability as C sees it: its kind; whether it is present; the number; the string
abbrev pub ValueSeen : Type 0
ValueSeen = ℕ × Bool × ℕ × List ℕ

-- what a capability of a kind with a value is seen as
abbrev pub seen_as : ℕ → Option Content → ValueSeen
seen_as kind (Some content_true) = (kind, true, 1, [])
seen_as kind (Some (content_number n)) = (kind, true, n, [])
seen_as kind (Some (content_text text)) = (kind, true, 0, text)
seen_as kind (Some content_cancelled) = (kind, false, 0, [])
seen_as kind None = (kind, false, 0, [])

-- a value that C was given
abbrev pub value_seen : FoundValue → ValueSeen
value_seen v = (v.kind, v.is_present, v.number, v.text.now)
