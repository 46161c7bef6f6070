-- The tree of a format and the place where it is stuck, computed from left to right; and the law
-- that these are those of `Formats` (own).
use Rattle.std.specs.Prelude.{◌≡◌, ℕ, zero, suc, ◌-◌, ◌/◌, ◌%◌, List, [], ◌∷◌, length, if◌then◌else◌, ◌==◌, nat_lt, Option, Some, None, ◌↔◌}
use Rattle.ti_formats.specs.declared.codes.Token.{Token}
use Rattle.ti_formats.specs.declared.codes.Token.TheVariants.{Literal, Operation, If, Then, Else, EndIf}
use Rattle.ti_formats.specs.declared.codes.Placed.{Placed}
use Rattle.ti_text.specs.Ascii as ascii
use Rattle.ti_formats.specs.inside.Codes.{Front, token_after}
use Rattle.ti_formats.specs.Reading.{Scan, Phase, in_test, in_taken}
use Rattle.ti_formats.specs.Formats.{IsStuck, IsTree, FormatTree, byte, choice, code, group, open_max, nothing, placed_token}

-- the token that a byte and the text after it begin with, and the text after the token: the code
-- after a `%`, else the byte itself
abbrev pub first_token : ℕ → List ℕ → Front Token
first_token b after = if b == ascii.percent then token_after after else Some (Literal b, after)

-- a scan with one more token before it, at a place
abbrev pub with_token : ℕ → Token → Scan → Scan
with_token place token scan = record { tokens = placed_token place token ∷ scan.tokens; stop = scan.stop }

-- the code at a place, if one was found, and the tokens of the text after it
abbrev pub with_code : ℕ → Front Token → (List ℕ → Scan) → Scan
with_code place None scan_rest = record { tokens = []; stop = Some place }
with_code place (Some found) scan_rest = with_token place found.0 (scan_rest found.1)

-- the scan of a text that begins at a place; its first bytes belong to a code that was read
unfoldable pub scan : (passed place : ℕ) → List ℕ → Scan
scan passed place [] = record { tokens = []; stop = None }
scan (suc passed) place (b ∷ text) = scan passed (suc place) text
scan zero place (b ∷ text) =
    if b == ascii.percent then with_code place (token_after text) (λ rest. scan (length text - length rest) (suc place) text)
    else with_token place (Literal b) (scan zero (suc place) text)

-- the scan of a whole format
abbrev pub scan_of : List ℕ → Scan
scan_of format = scan 0 0 format

-- what may come in each open conditional, the innermost first, by as many bits: the lowest for the
-- innermost, 1 in a part taken
unfoldable pub phases_of : (depth taken : ℕ) → List Phase
phases_of zero taken = []
phases_of (suc depth) taken = (if taken % 2 == 1 then in_taken else in_test) ∷ phases_of depth (taken / 2)

-- The open conditionals after one more token, the innermost first, each with what may come in it: a
-- `%t` in its test, an `%e` in the part taken. None if the token may not come there.
abbrev pub phases_after : List Phase → Token → Option (List Phase)
phases_after phases (Literal b) = Some phases
phases_after phases (Operation c) = Some phases
phases_after phases If = if nat_lt (length phases) open_max then Some (in_test ∷ phases) else None
phases_after [] Then = None
phases_after (in_test ∷ phases) Then = Some (in_taken ∷ phases)
phases_after (in_taken ∷ phases) Then = None
phases_after [] Else = None
phases_after (in_test ∷ phases) Else = None
phases_after (in_taken ∷ phases) Else = Some (in_test ∷ phases)
phases_after [] EndIf = None
phases_after (phase ∷ phases) EndIf = Some phases

-- the place of the first token that may not come where it is, else the last argument
unfoldable pub refusal : List Phase → List Placed → Option ℕ → Option ℕ
refusal phases [] stop = stop
refusal phases (p ∷ tokens) stop =
    elim (phases_after phases p.token) [ None ↦ Some p.place | Some opened ↦ refusal opened tokens stop ]

-- the tokens of a scan up to the first that may not come where it is, and the place of that one,
-- else where the scan stopped
unfoldable pub accepted : List Phase → List Placed → Option ℕ → Scan
accepted phases [] stop = record { tokens = []; stop = stop }
accepted phases (p ∷ tokens) stop = elim (phases_after phases p.token) [
  | None ↦ record { tokens = []; stop = Some p.place }
  | Some opened ↦ record { tokens = p ∷ (accepted opened tokens stop).tokens; stop = (accepted opened tokens stop).stop }
]

-- the tokens of a scan that goes on inside these open conditionals
abbrev pub accepted_of : List Phase → Scan → Scan
accepted_of phases s = accepted phases s.tokens s.stop

-- the token at the front of a text, and the text after it
abbrev pub front_of : List ℕ → Front Token
front_of [] = None
front_of (b ∷ after) = first_token b after

-- where a format is stuck
unfoldable pub stuck_place : List ℕ → Option ℕ
stuck_place format = refusal [] (scan_of format).tokens (scan_of format).stop

-- the tree of the pieces up to the first `%t`, `%e` or `%;` that belongs to a conditional begun
-- before, and such marks with the trees between them
abbrev pub Marks : Type 0
Marks = List (Token × FormatTree)

-- what is in a conditional that begins with this test, the tree of what follows the conditional,
-- and the marks after it
abbrev pub conditional_of : FormatTree → Marks → FormatTree × FormatTree × Marks
conditional_of test [] = (test, nothing, [])
conditional_of test ((EndIf, next) ∷ marks) = (test, next, marks)
conditional_of test ((Then, taken) ∷ []) = (choice test taken nothing, nothing, [])
conditional_of test ((Then, taken) ∷ ((EndIf, next) ∷ marks)) = (choice test taken nothing, next, marks)
conditional_of test ((Then, taken) ∷ ((Else, other) ∷ marks)) =
    let rest = conditional_of other marks in (choice test taken rest.0, rest.1, rest.2)
conditional_of test (mark ∷ marks) = (test, nothing, [])

-- a conditional and what follows it as one tree, and the marks after them
abbrev pub grouped_tree : FormatTree × FormatTree × Marks → FormatTree × Marks
grouped_tree parts = (group parts.0 parts.1, parts.2)

-- the tree and the marks of a list of tokens, by its first token and those of the others
abbrev pub with_first_token : Placed → FormatTree × Marks → FormatTree × Marks
with_first_token p (next, marks) = elim p.token [
  | Literal b ↦ (byte b next, marks)
  | Operation c ↦ (code p.place c next, marks)
  | If ↦ grouped_tree (conditional_of next marks)
  | Then ↦ (nothing, (Then, next) ∷ marks)
  | Else ↦ (nothing, (Else, next) ∷ marks)
  | EndIf ↦ (nothing, (EndIf, next) ∷ marks)
]

-- the tree of a list of tokens up to its first mark, and the marks from there on
unfoldable pub tree_and_marks : List Placed → FormatTree × Marks
tree_and_marks [] = (nothing, [])
tree_and_marks (p ∷ tokens) = with_first_token p (tree_and_marks tokens)

-- the tree of a format that is not stuck
abbrev pub tree_of : List ℕ → FormatTree
tree_of format = (tree_and_marks (scan_of format).tokens).0

-- the law of the computing reader: it gives the tree, or the place, that there is
pub record IsFormatComputed (format : List ℕ) : Type 0 where
  pub tree : (t : FormatTree) → IsTree format t ↔ ((stuck_place format ≡ None) × (tree_of format ≡ t))
  pub stuck : (place : ℕ) → IsStuck format place ↔ (stuck_place format ≡ Some place)
