-- What is printed of entries in termcap's form (infocmp(1), -C, -r, -0 and -1).
use Rattle.std.specs.Prelude.{◌≡◌, ℕ, Bool, true, false, ◌&&◌, if◌then◌else◌, List, [], ◌∷◌, ◌++◌}
use Rattle.ti_layout.specs.View.{Entry}
use Rattle.ti_list.specs.declared.layout.Layout.{Layout}
use Rattle.tools_commands.specs.declared.jobs.InfocmpMode.{InfocmpMode}
use Rattle.tools_commands.specs.declared.jobs.InfocmpMode.TheVariants as mode
use Rattle.everyday_termcap.specs.Whole.{IsTermcap}
use Rattle.everyday_termcap.specs.declared.items.Lines.{Lines}

-- the lines: an item to a line is a line of no columns
abbrev pub lines_in : (joined : Bool) → Layout → Lines
lines_in joined layout = record { width = if layout.one_per_line then 0 else layout.width; joined = joined }

-- the text is the entries in termcap's form, one after another
abbrev pub AreTermcaps : (limited all : Bool) → Lines → List Entry → List ℕ → Type 0
AreTermcaps limited all form [] text = text ≡ []
AreTermcaps limited all form (entry ∷ entries) text =
    (one : List ℕ) × (later : List ℕ) × IsTermcap entry limited all form one × AreTermcaps limited all form entries later × (text ≡ one ++ later)

-- whether entries are listed
abbrev pub is_list : InfocmpMode → Bool
is_list mode.List = true
is_list _ = false

-- whether they are listed in termcap's form, which has no user-defined capabilities
abbrev pub is_termcap : (user_defined termcap : Bool) → InfocmpMode → Bool
is_termcap true termcap how = false
is_termcap false termcap how = termcap && is_list how
