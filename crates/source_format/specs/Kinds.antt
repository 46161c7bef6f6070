-- The kinds of items, which a listing shows one after the other (infocmp(1)).
use Rattle.std.specs.Prelude.{ℕ, ◌==◌, ◌||◌, Bool, codes, if◌then◌else◌, List, Option, Some, None}
use Rattle.std.specs.Str.{bytes_eq}
use Rattle.ti_source.specs.Items.{Claim, Statement, claims_cancel, claims_flag, claims_number, claims_text}
use Rattle.ti_source.specs.Stating.{statement_of}
use Rattle.source_format.specs.declared.kinds.Kind.{Kind}
use Rattle.source_format.specs.declared.kinds.Kind.TheVariants as kind

-- the kind of an item that claims this of a name
abbrev pub kind_claimed : List ℕ → Claim → Kind
kind_claimed name claims_flag = kind.Flag
kind_claimed name (claims_number value) = kind.Number
kind_claimed name (claims_text value) = if bytes_eq name (codes "use") then kind.Use else kind.Text
kind_claimed name claims_cancel = kind.Any

-- the kind of an item that states this
abbrev pub kind_stated : Option Statement → Kind
kind_stated None = kind.Any
kind_stated (Some s) = kind_claimed s.name s.claim

-- the kind of an item, by its text
unfoldable pub kind_of : List ℕ → Kind
kind_of text = kind_stated (statement_of text)

-- the place of a kind in a listing, from 1; 0 if it goes with any
abbrev pub rank : Kind → ℕ
rank kind.Any = 0
rank kind.Flag = 1
rank kind.Number = 2
rank kind.Text = 3
rank kind.Use = 4

-- whether two kinds can stand on one line
abbrev pub together : Kind → Kind → Bool
together one other = rank one == 0 || rank other == 0 || rank one == rank other

-- the kind of a line of this kind with one more item
abbrev pub kind_after : Kind → Kind → Kind
kind_after line item = if rank item == 0 then line else item
