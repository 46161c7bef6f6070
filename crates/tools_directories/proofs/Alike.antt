-- A file that is read once more, or without its user-defined capabilities.
use Rattle.std.proofs.Common.{◌≡◌, ◌⊎◌, ◌∙◌, ℕ, suc, ◌<◌, ◌≤◌, List, length, take, Result, Ok, Err, refl, sym, ap, inl, inr, arith}
use Rattle.ti_layout.specs.declared.fault.ReadError.TheVariants.{Counts}
use Rattle.user_extension.specs.Reading.{FailsToRead}
use Rattle.user_extension.specs.declared.fault.ExtensionError.{ExtensionError}
use Rattle.user_extension.specs.declared.fault.ExtensionError.TheVariants as errors
use Rattle.ti_layout.specs.Reading.{EntriesHaveOneReading}
use Rattle.ti_layout.specs.Values.{Contents}
use Rattle.ti_layout.specs.View.{Entry, entry_seen, names_of, view_contents}
use Rattle.ti_layout.specs.declared.view.View.{View}
use Rattle.tools_devices.specs.Searching as profile
use Rattle.tools_devices.specs.declared.tool_error.ToolError.{ToolError}
use Rattle.tools_devices.specs.declared.tool_error.ToolError.TheVariants.{Usage, NoTerminal, BadEntry, ReadFault, WriteFault}
use Rattle.tools_devices.specs.declared.tool_error.ToolError.TheVariants.{LineTooLong, BlockTooLong, TooManyBlocks, Memory}
use Rattle.user_extension.specs.declared.view.Extension.{Extension}
use Rattle.tools_directories.specs.Reading.{IsEntry, Opens, ReadsAlike}

too_long : {Y : Type 0} (limit n : ℕ) → n ≤ limit → limit < n → Y
too_long limit n low past = absurd (omega arith)

abbrev with_names : List ℕ → Contents → Entry
with_names names contents = record { names = names; contents = contents }

same_entry : (m n : List ℕ) (c d : Contents) → m ≡ n → c ≡ d → with_names m c ≡ with_names n d
same_entry m n c d names contents = rw (names, contents) refl

pub tables_alike : EntriesHaveOneReading → (limit : ℕ) (bytes : List ℕ) (view : View) (extension : Extension) (result : Result View ToolError)
    → Opens limit bytes (Ok (view, extension)) → profile.Opens limit bytes result
    → (other : View) × (result ≡ Ok other) × (entry_seen other ≡ entry_seen view)
tables_alike one limit bytes view extension (Ok other) opened tables =
    let same = one.0 bytes (names_of other) (names_of view) (view_contents other) (view_contents view) tables.1 opened.1.reads in
    (other, refl, same_entry (names_of other) (names_of view) (view_contents other) (view_contents view) same.0 same.1)
tables_alike one limit bytes view extension (Err (BadEntry error)) opened (inl refused) =
    absurd (one.2 bytes (names_of view) (view_contents view) error opened.1.reads refused.1)
tables_alike one limit bytes view extension (Err (BadEntry error)) opened (inr refused) = too_long limit (length bytes) opened.0 refused.0
tables_alike one limit bytes view extension (Err Usage) opened tables = absurd tables
tables_alike one limit bytes view extension (Err NoTerminal) opened tables = absurd tables
tables_alike one limit bytes view extension (Err ReadFault) opened tables = absurd tables
tables_alike one limit bytes view extension (Err WriteFault) opened tables = absurd tables
tables_alike one limit bytes view extension (Err LineTooLong) opened tables = absurd tables
tables_alike one limit bytes view extension (Err (BlockTooLong n)) opened tables = absurd tables
tables_alike one limit bytes view extension (Err TooManyBlocks) opened tables = absurd tables
tables_alike one limit bytes view extension (Err Memory) opened tables = absurd tables

-- ---- the same file once more

-- two refusals of the same bytes
one_refusal : EntriesHaveOneReading → (bytes : List ℕ) (e f : ExtensionError) → FailsToRead bytes e → FailsToRead bytes f → e ≡ f
one_refusal one bytes (errors.Entry e) (errors.Entry f) g h = ap (λ error. errors.Entry error) (one.1 bytes e f g h)
one_refusal one bytes (errors.Entry e) errors.BadExtension g h = let read = h.0 in absurd (one.2 bytes read.0 read.1 e read.2 g)
one_refusal one bytes errors.BadExtension (errors.Entry f) g h = let read = g.0 in absurd (one.2 bytes read.0 read.1 f read.2 h)
one_refusal one bytes errors.BadExtension errors.BadExtension g h = refl

-- bytes are not both an entry and refused
not_both : {Y : Type 0} → EntriesHaveOneReading → (bytes : List ℕ) (e : ExtensionError) (view : View) (extension : Extension) → FailsToRead bytes e
    → IsEntry bytes view extension → Y
not_both one bytes (errors.Entry e) view extension refused is = absurd (one.2 bytes (names_of view) (view_contents view) e is.reads refused)
not_both one bytes errors.BadExtension view extension refused is = absurd (refused.1 is.ends)

-- the refusal of the front of a file that is too long
abbrev IsOfFront : List ℕ → ExtensionError → Type 0
IsOfFront front error = FailsToRead front error ⊎ ((error ≡ errors.Entry Counts) × (view : View) × (extension : Extension) × IsEntry front view extension)

one_of_front : EntriesHaveOneReading → (front : List ℕ) (e f : ExtensionError) → IsOfFront front e → IsOfFront front f → e ≡ f
one_of_front one front e f (inl g) (inl h) = one_refusal one front e f g h
one_of_front one front e f (inl g) (inr h) = not_both one front e h.1 h.2 g h.3
one_of_front one front e f (inr g) (inl h) = not_both one front f g.1 g.2 h g.3
one_of_front one front e f (inr g) (inr h) = g.0 ∙ sym h.0

both_refused : EntriesHaveOneReading → (limit : ℕ) (bytes : List ℕ) (e f : ExtensionError) → Opens limit bytes (Err e) → Opens limit bytes (Err f) → e ≡ f
both_refused one limit bytes e f (inl g) (inl h) = one_refusal one bytes e f g.1 h.1
both_refused one limit bytes e f (inl g) (inr h) = too_long limit (length bytes) g.0 h.0
both_refused one limit bytes e f (inr g) (inl h) = too_long limit (length bytes) h.0 g.0
both_refused one limit bytes e f (inr g) (inr h) = one_of_front one (take (suc limit) bytes) e f g.1 h.1

one_refused : {Y : Type 0} → EntriesHaveOneReading → (limit : ℕ) (bytes : List ℕ) (r : View × Extension) (f : ExtensionError) → Opens limit bytes (Ok r)
    → Opens limit bytes (Err f) → Y
one_refused one limit bytes r f g (inl h) = not_both one bytes f r.0 r.1 h.1 g.1
one_refused one limit bytes r f g (inr h) = too_long limit (length bytes) g.0 h.0

pub read_alike : EntriesHaveOneReading → (limit : ℕ) (bytes : List ℕ) (one other : Result (View × Extension) ExtensionError) → Opens limit bytes one
    → Opens limit bytes other → ReadsAlike one other
read_alike once limit bytes (Ok r) (Ok s) g h =
    let same = once.0 bytes (names_of r.0) (names_of s.0) (view_contents r.0) (view_contents s.0) g.1.reads h.1.reads in
    (same_entry (names_of r.0) (names_of s.0) (view_contents r.0) (view_contents s.0) same.0 same.1, g.1.rows ∙ sym h.1.rows)
read_alike once limit bytes (Ok r) (Err f) g h = one_refused once limit bytes r f g h
read_alike once limit bytes (Err e) (Ok s) g h = one_refused once limit bytes s e h g
read_alike once limit bytes (Err e) (Err f) g h = both_refused once limit bytes e f g h
