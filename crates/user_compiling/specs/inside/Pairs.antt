-- Each warning of a block with what is wrong with its item, computed.
use Rattle.std.specs.Prelude.{ℕ, suc, true, false, nat_eq, if◌then◌else◌, List, [], ◌∷◌, ◌++◌, filter, Option, Some, None}
use Rattle.ti_source.specs.Reading.{Reading, ReadFault}
use Rattle.base_meaning.specs.Faults.{SourceFault, is_kept, item_faults, local_faults, name_faults}
use Rattle.user_items.specs.Reading.{ReadUserFault}
use Rattle.user_items.specs.declared.reading.UserCode.{UserCode}
use Rattle.user_items.specs.Laws.{is_local_warning}
use Rattle.user_compiling.specs.Faults.{ExtendedSourceFault, of_profile, in_place, is_user_warning}

-- the ordinals of the warnings of unknown names that are user-defined, among faults that reading gave
abbrev pub warning_ordinals : List ReadFault → List ℕ
warning_ordinals [] = []
warning_ordinals (f ∷ fs) = if is_local_warning f then f.ordinal ∷ warning_ordinals fs else warning_ordinals fs

-- the code of the first of these faults, if it has that ordinal
abbrev pub code_here : ℕ → List ReadUserFault → Option UserCode
code_here o [] = None
code_here o (u ∷ us) = if nat_eq u.ordinal o then Some u.code else None

-- for each of these ordinals the code of the next of these faults, if it has that ordinal
abbrev pub pairs : List ℕ → List ReadUserFault → List (Option UserCode)
pairs [] own = []
pairs (o ∷ os) [] = None ∷ pairs os []
pairs (o ∷ os) (u ∷ us) = if nat_eq u.ordinal o then Some u.code ∷ pairs os us else None ∷ pairs os (u ∷ us)

-- the first of codes, none if there is none
abbrev pub head_code : List (Option UserCode) → Option UserCode
head_code [] = None
head_code (c ∷ cs) = c

-- codes without the first
abbrev pub tail_codes : List (Option UserCode) → List (Option UserCode)
tail_codes [] = []
tail_codes (c ∷ cs) = cs

-- the faults of the profile, with what comes in the place of each warning, by its code
abbrev pub replaced : List SourceFault → List (Option UserCode) → List ExtendedSourceFault
replaced [] cs = []
replaced (f ∷ fs) cs = if is_user_warning f then in_place f (head_code cs) ++ replaced fs (tail_codes cs) else of_profile f ∷ replaced fs cs

-- the faults of a block before that of its entry
abbrev pub front_faults : List Reading → ℕ → Reading → List SourceFault
front_faults blocks at block =
    local_faults true at block.faults ++ (name_faults blocks at block.names ++ item_faults blocks at (filter (is_kept false) block.faults) block.items)

-- how many faults at the front are of the block at that position
abbrev pub count_at : ℕ → List SourceFault → ℕ
count_at at [] = 0
count_at at (f ∷ fs) = if nat_eq f.block at then suc (count_at at fs) else 0
