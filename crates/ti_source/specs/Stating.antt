-- What an item states, as a function of its text, and statements in memory (terminfo(5); X/Open Curses
-- Issue 7, "Terminfo Source Format"). By `one_reading` it is what `States` relates.
use Rattle.ti_text.specs.Ascii as ascii
use Rattle.std.specs.Prelude.{ℕ, ◌==◌, if◌then◌else◌, List, [], ◌∷◌, Option, Some, None}
use Rattle.ti_spelling.specs.WhiteSpace.{without_trailing_space}
use Rattle.ti_source.specs.Cutting.{last_byte}
use Rattle.ti_source.specs.declared.items.Claim.{Claim as ClaimInMemory}
use Rattle.ti_source.specs.declared.items.Claim.TheVariants as claims
use Rattle.ti_source.specs.declared.items.Statement.{Statement as StatementInMemory}
use Rattle.ti_source.specs.Items.{Claim, Statement, claims_cancel, claims_flag, claims_number, claims_text, is_mark}

-- the bytes before the first mark, all if there is none
abbrev pub before_mark : List ℕ → List ℕ
before_mark [] = []
before_mark (x ∷ xs) = if is_mark x then [] else x ∷ before_mark xs

-- the bytes from the first mark on, nothing if there is none
abbrev pub from_mark : List ℕ → List ℕ
from_mark [] = []
from_mark (x ∷ xs) = if is_mark x then x ∷ xs else from_mark xs

-- a text without its last byte
abbrev pub without_last : List ℕ → List ℕ
without_last [] = []
without_last (x ∷ []) = []
without_last (x ∷ y ∷ ys) = x ∷ without_last (y ∷ ys)

-- what a text with no mark states, without the white space at its end
abbrev pub plain_statement : List ℕ → Statement
plain_statement text =
    if last_byte 0 text == ascii.at_sign
    then record { name = without_last text; claim = claims_cancel }
    else record { name = text; claim = claims_flag }

-- the statement of a name with a value: a number if the mark is `#`, else a string
abbrev pub statement_with_value : List ℕ → ℕ → List ℕ → Statement
statement_with_value name mark value = record { name = name; claim = if mark == ascii.number_sign then claims_number value else claims_text value }

-- what a text states, given what begins with its first mark
abbrev pub statement_by_mark : List ℕ → List ℕ → Statement
statement_by_mark text [] = plain_statement (without_trailing_space text)
statement_by_mark text (mark ∷ value) = statement_with_value (before_mark text) mark value

-- what an item states, by its text with no white space at its front, computed
abbrev pub statement_of : List ℕ → Option Statement
statement_of [] = None
statement_of (x ∷ xs) = if x == ascii.dot then None else Some (statement_by_mark (x ∷ xs) (from_mark (x ∷ xs)))

-- a claim that holds its text in memory, as plain data
abbrev pub claim_seen : ClaimInMemory → Claim
claim_seen claims.Flag = claims_flag
claim_seen (claims.Number text) = claims_number text.now
claim_seen (claims.Text text) = claims_text text.now
claim_seen claims.Cancel = claims_cancel

-- a statement that holds its texts in memory, as plain data
abbrev pub statement_seen : StatementInMemory → Statement
statement_seen s = record { name = s.name.now; claim = claim_seen s.claim }
