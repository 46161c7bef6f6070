-- The part of a conditional that is not taken, skipped token by token (own).
use Rattle.std.specs.Prelude.{ℕ, zero, suc, Bool, true, false, List, [], ◌∷◌, Option, Some, None}
use Rattle.ti_formats.specs.declared.codes.Placed.{Placed}
use Rattle.ti_formats.specs.declared.codes.Token.{Token}
use Rattle.ti_formats.specs.declared.codes.Token.TheVariants.{Literal, Operation, If, Then, Else, EndIf}

-- How many conditionals are open in a skipped part after one more token. None if the token ends the
-- part: the `%;` of the part, or its `%e` if that may end it.
abbrev pub level_after : ℕ → Bool → Token → Option ℕ
level_after level to_else (Literal b) = Some level
level_after level to_else (Operation c) = Some level
level_after level to_else If = Some (suc level)
level_after level to_else Then = Some level
level_after zero true Else = None
level_after zero false Else = Some zero
level_after (suc level) to_else Else = Some (suc level)
level_after zero to_else EndIf = None
level_after (suc level) to_else EndIf = Some level

-- the tokens after the part that is skipped
unfoldable pub after_part : ℕ → Bool → List Placed → List Placed
after_part level to_else [] = []
after_part level to_else (p ∷ tokens) =
    elim (level_after level to_else p.token) [ None ↦ tokens | Some next ↦ after_part next to_else tokens ]
