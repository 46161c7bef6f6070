-- Lists of tab stops as they are written (tabs(1)): those that options name, and those that words make.
use Rattle.std.specs.Prelude.{ℕ, nat_lt, ◌==◌, ◌&&◌, ◌||◌, Bool, false, not, if◌then◌else◌, ◌-◌, length, slice_index_or, List, [], ◌∷◌, ◌++◌, codes}
use Rattle.std.specs.Prelude.{bytes_eq, Option, Some, None}
use Rattle.std.specs.List.{list_all}
use Rattle.ti_text.specs.Ascii as ascii

-- ---- the signs of a list

-- white space, as C has it: a space, or HT to CR
abbrev pub is_blank : ℕ → Bool
is_blank sign = sign == ascii.space || (nat_lt 8 sign && nat_lt sign 14)

-- a decimal digit
abbrev pub is_digit : ℕ → Bool
is_digit sign = nat_lt 47 sign && nat_lt sign 58

-- what separates stops
abbrev pub comma : ℕ
comma = ascii.byte_of ","

-- what is before the distance from the stop before
abbrev pub plus : ℕ
plus = ascii.byte_of "+"

-- a sign that a list may have
abbrev pub is_list_sign : ℕ → Bool
is_list_sign sign = is_digit sign || sign == comma || sign == plus

-- the same, or white space
abbrev pub is_spelling_sign : ℕ → Bool
is_spelling_sign sign = is_list_sign sign || is_blank sign

-- whether a list ends with a comma
abbrev pub ends_with_comma : List ℕ → Bool
ends_with_comma list = slice_index_or list (length list - 1) 0 == comma

-- whether a text is a list: numbers, commas and plus signs, and no comma at its end
abbrev pub is_list : List ℕ → Bool
is_list list = list_all is_list_sign list && not (ends_with_comma list)

-- ---- the lists that options name

-- the list of these letters (IBM S/370 assembler, COBOL, FORTRAN, PL/I, SNOBOL, UNIVAC assembler)
abbrev pub predefined : List ℕ → Option (List ℕ)
predefined letters =
    if bytes_eq letters (codes "a") then Some (codes "1,10,16,36,72")
    else if bytes_eq letters (codes "a2") then Some (codes "1,10,16,40,72")
    else if bytes_eq letters (codes "c") then Some (codes "1,8,12,16,20,55")
    else if bytes_eq letters (codes "c2") then Some (codes "1,6,10,14,49")
    else if bytes_eq letters (codes "c3") then Some (codes "1,6,10,14,18,22,26,30,34,38,42,46,50,54,58,62,67")
    else if bytes_eq letters (codes "f") then Some (codes "1,7,11,15,19,23")
    else if bytes_eq letters (codes "p") then Some (codes "1,5,9,13,17,21,25,29,33,37,41,45,49,53,57,61")
    else if bytes_eq letters (codes "s") then Some (codes "1,10,55")
    else if bytes_eq letters (codes "u") then Some (codes "1,12,20,44")
    else None

-- ---- the lists that words make

-- what is kept of a sign of a word after the one before it, 0 if it is the first: a comma is kept
-- once there is something after it
abbrev pub sign_kept : ℕ → ℕ → List ℕ
sign_kept before sign =
    if is_blank sign || sign == comma then []
    else if before == comma then comma ∷ sign ∷ [] else sign ∷ []

-- a blank after a digit or a comma counts as a comma, one at the front not at all
abbrev pub blank_as : ℕ → ℕ
blank_as before =
    if before == 0 then 0
    else if is_digit before || before == comma then comma
    else ascii.space

-- what a sign counts as, for the next one
abbrev pub sign_after : ℕ → ℕ → ℕ
sign_after before sign = if is_blank sign then blank_as before else sign

-- what is kept of signs after that one
abbrev pub kept_after : ℕ → List ℕ → List ℕ
kept_after before [] = []
kept_after before (sign ∷ signs) = sign_kept before sign ++ kept_after (sign_after before sign) signs

-- what is kept of a word: one comma for several, and for the blanks after a number
abbrev pub trimmed : List ℕ → List ℕ
trimmed word = kept_after 0 word

-- whether a comma comes between a list and what is added to it
abbrev pub needs_comma : List ℕ → List ℕ → Bool
needs_comma [] more = false
needs_comma (sign ∷ signs) [] = false
needs_comma (sign ∷ signs) (next ∷ rest) = not (next == comma)

-- a list and what is added to it
abbrev pub added : List ℕ → List ℕ → List ℕ
added list more = list ++ (if needs_comma list more then comma ∷ [] else []) ++ more

-- a list to which a word adds what is kept of it
abbrev pub joined : List ℕ → List ℕ → List ℕ
joined list word = added list (trimmed word)
