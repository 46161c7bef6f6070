-- An entry in termcap's form (infocmp(1), -C, -r and -T).
use Rattle.std.specs.Prelude.{◌≡◌, ℕ, Bool, true, false, List, [], ◌∷◌, ◌++◌, Option}
use Rattle.ti_text.specs.Ascii as ascii
use Rattle.ti_layout.specs.View.{Entry}
use Rattle.everyday_termcap.specs.Limits.{Source, limited_text}
use Rattle.everyday_termcap.specs.Reset.{IsPlain}
use Rattle.everyday_termcap.specs.declared.items.Lines.{Lines}

-- an entry with its `me`, in such lines, with all that has a code or what termcap has
abbrev pub source_of : Entry → (with_sets without_sets : Option (List ℕ)) → (all : Bool) → Lines → Source
source_of entry with_sets without_sets all form =
    record { names = entry.names; table = entry.contents; with_sets = with_sets; without_sets = without_sets; all = all; form = form }

-- the text is the entry in termcap's form, after comments on what is left out
abbrev pub IsTermcap : Entry → (limited all : Bool) → Lines → List ℕ → Type 0
IsTermcap entry limited all form text =
    (with_sets : Option (List ℕ)) × (without_sets : Option (List ℕ))
    × IsPlain entry.contents true with_sets × IsPlain entry.contents false without_sets
    × (text ≡ limited_text limited (source_of entry with_sets without_sets all form) ++ ascii.newline ∷ [])
