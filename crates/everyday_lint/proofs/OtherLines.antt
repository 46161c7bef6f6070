-- A text with lines that end in CR LF, and what is read of it: the same fixes are made in both.
use Rattle.std.proofs.Common.{◌≡◌, ℕ, zero, suc, ◌+◌, ◌-◌, ◌<◌, ◌≤◌, ◌==◌, ◌&&◌, ◌||◌, nat_le, nat_lt, Bool, true, false, cond, List, [], ◌∷◌, ◌++◌, drop}
use Rattle.std.proofs.Common.{length, map, take, inl, inr, refl, sym, ap, ap₂, subst, ◌∙◌, arith, zero-add}
use Rattle.std.specs.List.{AllByRecursion, list_any, slice_range}
use Rattle.std.proofs.lemmas.Bool.{and_parts, cases_Bool, eqb-true, false≢true, le-leb, leb-false, leb-true, lt-leb}
use Rattle.std.proofs.lemmas.List.{drop-drop}
use Rattle.source_types.specs.declared.places.Position.{Position}
use Rattle.source_places.specs.Position.{column_offset, ends_line, line_start, lines_left, offset_of, units}
use Rattle.source_plain.specs.Reading.{is_return, is_return_at, plain_lines}
use Rattle.source_plain.proofs.Returns.{or_false, starts_none, without_return}
use Rattle.source_keeping.specs.Keeping.{goes_on_line, open_line, stays_in_line}
use Rattle.source_edits.specs.Shown.{shown, shown_byte}
use Rattle.everyday_lint.proofs.Changes.{Change, Rise, changed}

-- the offset in a text of an offset in what is read of it: before the CR of a CR LF
abbrev pub up : List ℕ → ℕ → ℕ
up [] offset = offset
up (byte ∷ text) zero = 0
up (byte ∷ text) (suc offset) = suc (cond (is_return_at (byte ∷ text)) (up text (suc offset)) (up text offset))

-- a text has no CR but those of CR LF
abbrev pub HasNoReturn : List ℕ → Type 0
HasNoReturn text = list_any is_return (plain_lines text) ≡ false

pub up_zero : (text : List ℕ) → up text 0 ≡ 0
up_zero [] = refl
up_zero (byte ∷ text) = refl

-- CR LF in front of a text
pub record Returns (byte : ℕ) (text : List ℕ) : Type 0 where
  pub rest : List ℕ
  pub first : byte ≡ 13
  pub whole : text ≡ 10 ∷ rest

pub returns : (byte : ℕ) (text : List ℕ) → is_return_at (byte ∷ text) ≡ true → Returns byte text
returns byte [] t = absurd cc
returns byte (next ∷ text) t =
    let both = and_parts (byte == 13) (next == 10) t in
    record { rest = text; first = eqb-true byte 13 both.0; whole = ap (λ (n : ℕ). n ∷ text) (eqb-true next 10 both.1) }

-- ---- places

or_true : (b : Bool) → (b || true) ≡ true
or_true true = refl
or_true false = refl

or_none : (b : Bool) → (b || false) ≡ b
or_none true = refl
or_none false = refl

and_none : (b : Bool) → (b && false) ≡ false
and_none true = refl
and_none false = refl

-- a line ends with LF, or where CR LF begins
ends_by : (byte : ℕ) (text : List ℕ) → ends_line (byte ∷ text) ≡ (byte == 10 || is_return_at (byte ∷ text))
ends_by byte [] = ap (λ (b : Bool). byte == 10 || b) (and_none (byte == 13))
ends_by byte (next ∷ text) = refl

ends_plain : (byte : ℕ) (text : List ℕ) → is_return_at (byte ∷ text) ≡ false → ends_line (byte ∷ text) ≡ (byte == 10)
ends_plain byte text f = ends_by byte text ∙ ap (λ (b : Bool). byte == 10 || b) f ∙ or_none (byte == 10)

column_by : (byte : ℕ) (text : List ℕ) (column : ℕ) (b : Bool) → ends_line (byte ∷ text) ≡ b
    → column_offset (byte ∷ text) column ≡ cond (nat_lt column (units byte) || b) 0 (suc (column_offset text (column - units byte)))
column_by byte text column b e = rw e refl

-- both begin with a newline, or with the same byte
pub plain_kept : (byte : ℕ) (text : List ℕ) → is_return_at (byte ∷ text) ≡ false → plain_lines (byte ∷ text) ≡ byte ∷ plain_lines text
plain_kept byte text f = rw f refl

plain_left : (byte : ℕ) (text : List ℕ) → is_return_at (byte ∷ text) ≡ true → plain_lines (byte ∷ text) ≡ plain_lines text
plain_left byte text t = rw t refl

pub plain_newline : (rest : List ℕ) → plain_lines (10 ∷ rest) ≡ 10 ∷ plain_lines rest
plain_newline rest = plain_kept 10 rest (starts_none 10 rest refl)

up_kept : (byte : ℕ) (text : List ℕ) (offset : ℕ) → is_return_at (byte ∷ text) ≡ false → up (byte ∷ text) (suc offset) ≡ suc (up text offset)
up_kept byte text offset f = rw f refl

up_left : (byte : ℕ) (text : List ℕ) (offset : ℕ) → is_return_at (byte ∷ text) ≡ true → up (byte ∷ text) (suc offset) ≡ suc (up text (suc offset))
up_left byte text offset t = rw t refl

-- no CR is left
record IsPlainFirst (byte : ℕ) (text : List ℕ) : Type 0 where
  first : is_return byte ≡ false
  rest : HasNoReturn text

plain_first : (byte : ℕ) (text : List ℕ) → is_return_at (byte ∷ text) ≡ false → HasNoReturn (byte ∷ text) → IsPlainFirst byte text
plain_first byte text f none =
    let both = or_false (is_return byte) (list_any is_return (plain_lines text)) (ap (list_any is_return) (sym (plain_kept byte text f)) ∙ none) in
    record { first = both.0; rest = both.1 }

none_left : (byte : ℕ) (text : List ℕ) → is_return_at (byte ∷ text) ≡ true → HasNoReturn (byte ∷ text) → HasNoReturn text
none_left byte text t none = ap (list_any is_return) (sym (plain_left byte text t)) ∙ none

column_up : (text : List ℕ) (column : ℕ) → HasNoReturn text → column_offset text column ≡ up text (column_offset (plain_lines text) column)
column_up [] column none = refl
column_up (byte ∷ text) column none =
    let stop = nat_lt column (units byte) in
    elim (cases_Bool (is_return_at (byte ∷ text))) [
      | inl t ↦
          let crlf = returns byte text t in
          let ends : ends_line (byte ∷ text) ≡ true = ends_by byte text ∙ ap (λ (b : Bool). byte == 10 || b) t ∙ or_true (byte == 10) in
          let here : column_offset (byte ∷ text) column ≡ 0 =
          column_by byte text column true ends
          ∙ ap (λ (b : Bool). cond b 0 (suc (column_offset text (column - units byte)))) (or_true stop) in
          let read : plain_lines (byte ∷ text) ≡ 10 ∷ plain_lines crlf.rest = plain_left byte text t ∙ ap plain_lines crlf.whole ∙ plain_newline crlf.rest in
          let there : column_offset (10 ∷ plain_lines crlf.rest) column ≡ 0 =
          column_by 10 (plain_lines crlf.rest) column true refl
          ∙ ap (λ (b : Bool). cond b 0 (suc (column_offset (plain_lines crlf.rest) (column - units 10)))) (or_true (nat_lt column (units 10))) in
          here ∙ sym (ap (λ (l : List ℕ). up (byte ∷ text) (column_offset l column)) read ∙ ap (up (byte ∷ text)) there)
      | inr f ↦
          let plain = plain_first byte text f none in
          let later = column_up text (column - units byte) plain.rest in
          let P : Bool → ℕ → Type 0 = λ b n. cond b 0 (suc n) ≡ up (byte ∷ text) (cond b 0 (suc (column_offset (plain_lines text) (column - units byte)))) in
          let next : suc (column_offset text (column - units byte)) ≡ up (byte ∷ text) (suc (column_offset (plain_lines text) (column - units byte))) =
          ap (λ (n : ℕ). suc n) later ∙ sym (up_kept byte text (column_offset (plain_lines text) (column - units byte)) f) in
          let both : (b : Bool) → P b (column_offset text (column - units byte)) = λ b. elim b as (λ v. P v (column_offset text (column - units byte))) [
            | true ↦ refl
            | false ↦ next
          ] in
          column_by byte text column (byte == 10) (ends_plain byte text f)
          ∙ both (stop || byte == 10)
          ∙ sym (ap (λ (l : List ℕ). up (byte ∷ text) (column_offset l column)) (plain_kept byte text f)
          ∙ ap (up (byte ∷ text))
          (column_by byte (plain_lines text) column (byte == 10) (ends_plain byte (plain_lines text) (starts_none byte (plain_lines text) plain.first))))
    ]

-- a place in the first line, and in a later one
abbrev at_place : ℕ → ℕ → Position
at_place line column = record { line = line; column = column }

in_first : (text : List ℕ) (column : ℕ) → offset_of text (at_place 0 column) ≡ column_offset text column
in_first [] column = refl
in_first (byte ∷ text) column = zero-add (column_offset (byte ∷ text) column)

in_later : (byte : ℕ) (text : List ℕ) (line column : ℕ) → (line == 0) ≡ false
    → offset_of (byte ∷ text) (at_place line column) ≡ suc (offset_of text (at_place (lines_left line byte) column))
in_later byte text line column f =
    let start = line_start text (lines_left line byte) in
    let first : line_start (byte ∷ text) line ≡ suc start = rw f refl in
    let sum : suc start + column_offset (drop start text) column ≡ suc (start + column_offset (drop start text) column) = omega arith in
    ap (λ (n : ℕ). n + column_offset (drop n (byte ∷ text)) column) first ∙ sum

none_there : (line column : ℕ) → offset_of [] (at_place line column) ≡ 0
none_there line column = refl

pub place_up : (text : List ℕ) (line column : ℕ) → HasNoReturn text
    → offset_of text (at_place line column) ≡ up text (offset_of (plain_lines text) (at_place line column))
place_up [] line column none = refl
place_up (byte ∷ text) line column none =
    elim (cases_Bool (line == 0)) [
      | inl first ↦
          let is : line ≡ 0 = eqb-true line 0 first in
          let P : ℕ → Type 0 =
          λ l. offset_of (byte ∷ text) (at_place l column) ≡ up (byte ∷ text) (offset_of (plain_lines (byte ∷ text)) (at_place l column)) in
          subst P (sym is)
          (in_first (byte ∷ text) column ∙ column_up (byte ∷ text) column none ∙ ap (up (byte ∷ text)) (sym (in_first (plain_lines (byte ∷ text)) column)))
      | inr later ↦
          elim (cases_Bool (is_return_at (byte ∷ text))) [
            | inl t ↦
                let crlf = returns byte text t in
                let same : lines_left line byte ≡ line = ap (lines_left line) crlf.first in
                let read : plain_lines text ≡ 10 ∷ plain_lines crlf.rest = ap plain_lines crlf.whole ∙ plain_newline crlf.rest in
                let n = offset_of (plain_lines crlf.rest) (at_place (lines_left line 10) column) in
                let there : offset_of (plain_lines text) (at_place line column) ≡ suc n =
                ap (λ (l : List ℕ). offset_of l (at_place line column)) read ∙ in_later 10 (plain_lines crlf.rest) line column later in
                in_later byte text line column later
                ∙ ap (λ (k : ℕ). suc (offset_of text (at_place k column))) same
                ∙ ap (λ (k : ℕ). suc k) (place_up text line column (none_left byte text t none) ∙ ap (up text) there)
                ∙ sym (ap (λ (l : List ℕ). up (byte ∷ text) (offset_of l (at_place line column))) (plain_left byte text t)
                ∙ ap (up (byte ∷ text)) there ∙ up_left byte text n t)
            | inr f ↦
                let plain = plain_first byte text f none in
                let n = offset_of (plain_lines text) (at_place (lines_left line byte) column) in
                in_later byte text line column later
                ∙ ap (λ (k : ℕ). suc k) (place_up text (lines_left line byte) column plain.rest)
                ∙ sym (ap (λ (l : List ℕ). up (byte ∷ text) (offset_of l (at_place line column))) (plain_kept byte text f)
                ∙ ap (up (byte ∷ text)) (in_later byte (plain_lines text) line column later) ∙ up_kept byte text n f)
          ]
    ]

-- ---- offsets

pub up_less : (text : List ℕ) (one other : ℕ) → one < other → up text one < up text other
up_less [] one other less = less
up_less (byte ∷ text) one zero less = absurd (omega (arith, less))
up_less (byte ∷ text) zero (suc other) less = omega arith
up_less (byte ∷ text) (suc one) (suc other) less =
    elim (cases_Bool (is_return_at (byte ∷ text))) [
      | inl t ↦ let later = up_less text (suc one) (suc other) less in rw t (omega (arith, later))
      | inr f ↦ let later = up_less text one other (omega (arith, less)) in rw f (omega (arith, later))
    ]

pub up_order : (text : List ℕ) (one other : ℕ) → nat_le (up text one) (up text other) ≡ nat_le one other
up_order text one other =
    elim (cases_Bool (nat_le one other)) [
      | inl t ↦
          let up_to = leb-true one other t in
          let still : up text one ≤ up text other = elim (cases_Bool (nat_le other one)) [
            | inl back ↦
                let down = leb-true other one back in
                let same : one ≡ other = omega (arith, up_to, down) in
                let equal = ap (up text) same in
                omega (arith, equal)
            | inr less ↦
                let below = leb-false other one less in
                let more = up_less text one other (omega (arith, below)) in
                omega (arith, more)
          ] in
          le-leb (up text one) (up text other) still ∙ sym t
      | inr f ↦
          let below = leb-false one other f in
          let less = up_less text other one (omega (arith, below)) in
          lt-leb (up text one) (up text other) less ∙ sym f
    ]

up_within : (text : List ℕ) (offset : ℕ) → offset ≤ length (plain_lines text) → up text offset ≤ length text
up_within [] offset within = within
up_within (byte ∷ text) zero within = omega arith
up_within (byte ∷ text) (suc offset) within =
    elim (cases_Bool (is_return_at (byte ∷ text))) [
      | inl t ↦
          let size = ap (λ (l : List ℕ). length l) (plain_left byte text t) in
          let later = up_within text (suc offset) (omega (arith, within, size)) in
          rw t (omega (arith, later))
      | inr f ↦
          let size = ap (λ (l : List ℕ). length l) (plain_kept byte text f) in
          let later = up_within text offset (omega (arith, within, size)) in
          rw f (omega (arith, later))
    ]

none_of : (k : ℕ) → let none : List ℕ = [] in none ≡ drop k none
none_of zero = refl
none_of (suc k) = refl

up_add : (text : List ℕ) (n j : ℕ) → up text (n + j) ≡ up text n + up (drop (up text n) text) j
up_add [] n j = ap (λ (l : List ℕ). n + up l j) (none_of n)
up_add (byte ∷ text) zero j =
    ap (up (byte ∷ text)) (zero-add j) ∙ sym (zero-add (up (byte ∷ text) j))
up_add (byte ∷ text) (suc n) j =
    let next : suc n + j ≡ suc (n + j) = omega arith in
    elim (cases_Bool (is_return_at (byte ∷ text))) [
      | inl t ↦
          let here = up_left byte text n t in
          let later = up_add text (suc n) j in
          let sum : suc (up text (suc n) + up (drop (up text (suc n)) text) j) ≡ suc (up text (suc n)) + up (drop (up text (suc n)) text) j = omega arith in
          ap (up (byte ∷ text)) next ∙ up_left byte text (n + j) t ∙ ap (λ (k : ℕ). suc (up text k)) (sym next) ∙ ap (λ (k : ℕ). suc k) later ∙ sum
          ∙ sym (ap (λ (k : ℕ). k + up (drop k (byte ∷ text)) j) here)
      | inr f ↦
          let here = up_kept byte text n f in
          let later = up_add text n j in
          let sum : suc (up text n + up (drop (up text n) text) j) ≡ suc (up text n) + up (drop (up text n) text) j = omega arith in
          ap (up (byte ∷ text)) next ∙ up_kept byte text (n + j) f ∙ ap (λ (k : ℕ). suc k) later ∙ sum
          ∙ sym (ap (λ (k : ℕ). k + up (drop k (byte ∷ text)) j) here)
    ]

plain_dropped : (text : List ℕ) (n : ℕ) → plain_lines (drop (up text n) text) ≡ drop n (plain_lines text)
plain_dropped [] zero = refl
plain_dropped [] (suc n) = refl
plain_dropped (byte ∷ text) zero = refl
plain_dropped (byte ∷ text) (suc n) =
    elim (cases_Bool (is_return_at (byte ∷ text))) [
      | inl t ↦
          ap (λ (k : ℕ). plain_lines (drop k (byte ∷ text))) (up_left byte text n t) ∙ plain_dropped text (suc n)
          ∙ ap (λ (l : List ℕ). drop (suc n) l) (sym (plain_left byte text t))
      | inr f ↦
          ap (λ (k : ℕ). plain_lines (drop k (byte ∷ text))) (up_kept byte text n f) ∙ plain_dropped text n
          ∙ ap (λ (l : List ℕ). drop (suc n) l) (sym (plain_kept byte text f))
    ]

plain_taken : (text : List ℕ) (n : ℕ) → HasNoReturn text → plain_lines (take (up text n) text) ≡ take n (plain_lines text)
plain_taken [] zero none = refl
plain_taken [] (suc n) none = refl
plain_taken (byte ∷ text) zero none = refl
plain_taken (byte ∷ text) (suc n) none =
    elim (cases_Bool (is_return_at (byte ∷ text))) [
      | inl t ↦
          let crlf = returns byte text t in
          let k = up text (suc n) in
          let m = up crlf.rest n in
          let inner : k ≡ suc m = ap (λ (l : List ℕ). up l (suc n)) crlf.whole ∙ up_kept 10 crlf.rest n (starts_none 10 crlf.rest refl) in
          let first : take k text ≡ 10 ∷ take m crlf.rest = ap₂ (λ (a : ℕ) (l : List ℕ). take a l) inner crlf.whole in
          let back : is_return_at (byte ∷ take k text) ≡ true =
          ap₂ (λ (a : ℕ) (l : List ℕ). is_return_at (a ∷ l)) crlf.first first in
          ap (λ (a : ℕ). plain_lines (take a (byte ∷ text))) (up_left byte text n t) ∙ plain_left byte (take k text) back
          ∙ plain_taken text (suc n) (none_left byte text t none) ∙ ap (λ (l : List ℕ). take (suc n) l) (sym (plain_left byte text t))
      | inr f ↦
          let plain = plain_first byte text f none in
          ap (λ (a : ℕ). plain_lines (take a (byte ∷ text))) (up_kept byte text n f)
          ∙ plain_kept byte (take (up text n) text) (starts_none byte (take (up text n) text) plain.first)
          ∙ ap (λ (l : List ℕ). byte ∷ l) (plain_taken text n plain.rest) ∙ ap (λ (l : List ℕ). take (suc n) l) (sym (plain_kept byte text f))
    ]

-- a text after one that ends with no CR
plain_both : (one other : List ℕ) → HasNoReturn one → plain_lines (one ++ other) ≡ plain_lines one ++ plain_lines other
plain_both [] other none = refl
plain_both (byte ∷ one) other none =
    elim (cases_Bool (is_return_at (byte ∷ one))) [
      | inl t ↦
          let crlf = returns byte one t in
          let still : is_return_at (byte ∷ (one ++ other)) ≡ true =
          ap₂ (λ (a : ℕ) (l : List ℕ). is_return_at (a ∷ (l ++ other))) crlf.first crlf.whole in
          plain_left byte (one ++ other) still ∙ plain_both one other (none_left byte one t none)
          ∙ ap (λ (l : List ℕ). l ++ plain_lines other) (sym (plain_left byte one t))
      | inr f ↦
          let plain = plain_first byte one f none in
          plain_kept byte (one ++ other) (starts_none byte (one ++ other) plain.first)
          ∙ ap (λ (l : List ℕ). byte ∷ l) (plain_both one other plain.rest)
          ∙ ap (λ (l : List ℕ). l ++ plain_lines other) (sym (plain_kept byte one f))
    ]

none_taken : (n : ℕ) (text : List ℕ) → list_any is_return text ≡ false → list_any is_return (take n text) ≡ false
none_taken zero text none = refl
none_taken (suc n) [] none = refl
none_taken (suc n) (byte ∷ text) none =
    let both = or_false (is_return byte) (list_any is_return text) none in
    rw both.0 (none_taken n text both.1)

none_dropped : (n : ℕ) (text : List ℕ) → list_any is_return text ≡ false → list_any is_return (drop n text) ≡ false
none_dropped zero text none = none
none_dropped (suc n) [] none = refl
none_dropped (suc n) (byte ∷ text) none = none_dropped n text (or_false (is_return byte) (list_any is_return text) none).1

-- what prints has no CR
pub printed_none : (text : List ℕ) → shown text ≡ text → list_any is_return text ≡ false
printed_none [] printed = refl
printed_none (byte ∷ text) printed =
    let first : shown_byte byte ≡ byte = cc in
    let rest : shown text ≡ text = cc in
    elim (cases_Bool (is_return byte)) [
      | inl t ↦
          let is : byte ≡ 13 = eqb-true byte 13 t in
          let no : shown_byte 13 ≡ 13 = subst (λ (b : ℕ). shown_byte b ≡ b) is first in
          absurd cc
      | inr f ↦ rw f (printed_none text rest)
    ]

-- ---- lines

-- the line that both are in is the same
open_up : (line text : List ℕ) (n : ℕ) → open_line line (take (up text n) text) ≡ open_line line (take n (plain_lines text))
open_up line [] zero = refl
open_up line [] (suc n) = refl
open_up line (byte ∷ text) zero = refl
open_up line (byte ∷ text) (suc n) =
    elim (cases_Bool (is_return_at (byte ∷ text))) [
      | inl t ↦
          let crlf = returns byte text t in
          let read : plain_lines text ≡ 10 ∷ plain_lines crlf.rest = ap plain_lines crlf.whole ∙ plain_newline crlf.rest in
          let more = line ++ 13 ∷ [] in
          ap (λ (a : ℕ). open_line line (take a (byte ∷ text))) (up_left byte text n t)
          ∙ ap (λ (a : ℕ). open_line line (a ∷ take (up text (suc n)) text)) crlf.first
          ∙ open_up more text (suc n)
          ∙ ap (λ (l : List ℕ). open_line more (take (suc n) l)) read
          ∙ sym (ap (λ (l : List ℕ). open_line line (take (suc n) l)) (plain_left byte text t ∙ read))
      | inr f ↦
          ap (λ (a : ℕ). open_line line (take a (byte ∷ text))) (up_kept byte text n f)
          ∙ elim (cases_Bool (byte == 10)) [
            | inl newline ↦ rw newline (open_up [] text n)
            | inr other ↦ rw other (open_up (line ++ byte ∷ []) text n)
          ]
          ∙ sym (ap (λ (l : List ℕ). open_line line (take (suc n) l)) (plain_kept byte text f))
    ]

-- what is exchanged goes on its line in both or in neither
goes_both : (line left : List ℕ) → goes_on_line line (take (up left 1) left) ≡ goes_on_line line (take 1 (plain_lines left))
goes_both line [] = refl
goes_both line (byte ∷ left) =
    elim (cases_Bool (is_return_at (byte ∷ left))) [
      | inl t ↦
          let crlf = returns byte left t in
          let inner : up left 1 ≡ 1 =
          ap (λ (l : List ℕ). up l 1) crlf.whole ∙ up_kept 10 crlf.rest 0 (starts_none 10 crlf.rest refl) ∙ ap (λ (k : ℕ). suc k) (up_zero crlf.rest) in
          let there : take (up (byte ∷ left) 1) (byte ∷ left) ≡ 13 ∷ 10 ∷ [] =
          ap (λ (k : ℕ). take k (byte ∷ left)) (up_left byte left 0 t ∙ ap (λ (k : ℕ). suc k) inner)
          ∙ ap₂ (λ (a : ℕ) (l : List ℕ). a ∷ take 1 l) crlf.first crlf.whole in
          let read : take 1 (plain_lines (byte ∷ left)) ≡ 10 ∷ [] =
          ap (λ (l : List ℕ). take 1 l) (plain_left byte left t ∙ ap plain_lines crlf.whole ∙ plain_newline crlf.rest) in
          ap (goes_on_line line) there ∙ sym (ap (goes_on_line line) read)
      | inr f ↦
          ap (λ (k : ℕ). goes_on_line line (take k (byte ∷ left))) (up_kept byte left 0 f ∙ ap (λ (k : ℕ). suc k) (up_zero left))
          ∙ sym (ap (λ (l : List ℕ). goes_on_line line (take 1 l)) (plain_kept byte left f))
    ]

-- a byte that goes on its line is one byte in both
one_both : (line left : List ℕ) → goes_on_line line (take 1 (plain_lines left)) ≡ true → up left 1 ≡ 1
one_both line [] goes = refl
one_both line (byte ∷ left) goes =
    elim (cases_Bool (is_return_at (byte ∷ left))) [
      | inl t ↦
          let crlf = returns byte left t in
          let read : take 1 (plain_lines (byte ∷ left)) ≡ 10 ∷ [] =
          ap (λ (l : List ℕ). take 1 l) (plain_left byte left t ∙ ap plain_lines crlf.whole ∙ plain_newline crlf.rest) in
          absurd (false≢true (sym (ap (goes_on_line line) read) ∙ goes))
      | inr f ↦ up_kept byte left 0 f ∙ ap (λ (k : ℕ). suc k) (up_zero left)
    ]

-- the byte at an offset, and the one after it
up_next : (text : List ℕ) (n : ℕ) → up text (suc n) ≡ up text n + up (drop (up text n) text) 1
up_next text n = let next : suc n ≡ n + 1 = omega arith in ap (up text) next ∙ up_add text n 1

sliced : (text : List ℕ) (n : ℕ) → slice_range text (up text n) (up text (suc n)) ≡ take (up (drop (up text n) text) 1) (drop (up text n) text)
sliced text n =
    let next = up_next text n in
    let size : up text (suc n) - up text n ≡ up (drop (up text n) text) 1 = omega (arith, next) in
    ap (λ (k : ℕ). take k (drop (up text n) text)) size

one_more : (n : ℕ) → suc n - n ≡ 1
one_more n = omega arith

-- an edit of a byte stays in its line in both or in neither
pub stays_both : (text : List ℕ) (n : ℕ) (new : List ℕ)
    → stays_in_line text (up text n) (up text (suc n)) new ≡ stays_in_line (plain_lines text) n (suc n) new
stays_both text n new =
    let left = drop (up text n) text in
    let line = open_line [] (take n (plain_lines text)) in
    let lines = open_up [] text n in
    let read : take 1 (plain_lines left) ≡ take (suc n - n) (drop n (plain_lines text)) =
    ap₂ (λ (k : ℕ) (l : List ℕ). take k l) (sym (one_more n)) (plain_dropped text n) in
    ap₂ (λ (l old : List ℕ). goes_on_line l old && goes_on_line l new) lines (sliced text n)
    ∙ ap (λ (b : Bool). b && goes_on_line line new) (goes_both line left ∙ ap (goes_on_line line) read)

-- if it stays, the byte is one byte in both
pub stays_one : (text : List ℕ) (n : ℕ) (new : List ℕ) → stays_in_line (plain_lines text) n (suc n) new ≡ true → up text (suc n) ≡ suc (up text n)
stays_one text n new stays =
    let left = drop (up text n) text in
    let line = open_line [] (take n (plain_lines text)) in
    let both = and_parts (goes_on_line line (take (suc n - n) (drop n (plain_lines text)))) (goes_on_line line new) stays in
    let read : take 1 (plain_lines left) ≡ take (suc n - n) (drop n (plain_lines text)) =
    ap₂ (λ (k : ℕ) (l : List ℕ). take k l) (sym (one_more n)) (plain_dropped text n) in
    let one = one_both line left (ap (goes_on_line line) read ∙ both.0) in
    let next = up_next text n in
    omega (arith, next, one)

-- ---- a text with changes

-- a change of what is read, as one of the text
abbrev pub lifted : List ℕ → Change → Change
lifted text c = record { at = up text c.at; text = c.text }

-- a change is of one byte in both, for a text without a CR
pub record IsLifted (text : List ℕ) (c : Change) : Type 0 where
  pub one : up text (suc c.at) ≡ suc (up text c.at)
  pub none : list_any is_return c.text ≡ false

pub plain_changed : (text : List ℕ) (n : ℕ) (cs : List Change) → Rise n (length (plain_lines text)) cs → HasNoReturn text → AllByRecursion (IsLifted text) cs
    → plain_lines (changed (up text n) (drop (up text n) text) (map (lifted text) cs)) ≡ changed n (drop n (plain_lines text)) cs
plain_changed text n [] rise none are = plain_dropped text n
plain_changed text n (c ∷ cs) rise none are =
    let first = rise.0 in
    let plain = plain_lines text in
    let left = drop (up text n) text in
    let j = c.at - n in
    let upto : c.at ≡ n + j = omega (arith, first) in
    let there : up text c.at ≡ up text n + up left j = ap (up text) upto ∙ up_add text n j in
    let before : up text c.at - up text n ≡ up left j = omega (arith, there) in
    let left_none : HasNoReturn left =
    ap (list_any is_return) (plain_dropped text n) ∙ none_dropped n plain none in
    let front : plain_lines (take (up text c.at - up text n) left) ≡ take j (drop n plain) =
    ap (λ (k : ℕ). plain_lines (take k left)) before ∙ plain_taken left j left_none ∙ ap (λ (l : List ℕ). take j l) (plain_dropped text n) in
    let front_none : HasNoReturn (take (up text c.at - up text n) left) =
    ap (list_any is_return) front ∙ none_taken j (drop n plain) (none_dropped n plain none) in
    let one = are.0.one in
    let past : up text n + (suc (up text c.at) - up text n) ≡ up text (suc c.at) = omega (arith, there, one) in
    let rest : drop (suc (up text c.at) - up text n) left ≡ drop (up text (suc c.at)) text =
    drop-drop (suc (up text c.at) - up text n) (up text n) text ∙ ap (λ (k : ℕ). drop k text) past in
    let later = changed (suc (up text c.at)) (drop (suc (up text c.at) - up text n) left) (map (lifted text) cs) in
    let later_is : later ≡ changed (up text (suc c.at)) (drop (up text (suc c.at)) text) (map (lifted text) cs) =
    ap₂ (λ (k : ℕ) (l : List ℕ). changed k l (map (lifted text) cs)) (sym one) rest in
    let new_plain : plain_lines c.text ≡ c.text = without_return c.text are.0.none in
    let new_none : HasNoReturn c.text = ap (list_any is_return) new_plain ∙ are.0.none in
    let past_n : n + (suc c.at - n) ≡ suc c.at = omega (arith, first) in
    let back : drop (suc c.at) plain ≡ drop (suc c.at - n) (drop n plain) =
    sym (drop-drop (suc c.at - n) n plain ∙ ap (λ (k : ℕ). drop k plain) past_n) in
    plain_both (take (up text c.at - up text n) left) (c.text ++ later) front_none
    ∙ ap₂ (λ (a b : List ℕ). a ++ b) front
    (plain_both c.text later new_none
    ∙ ap₂ (λ (a b : List ℕ). a ++ b) new_plain
    (ap plain_lines later_is ∙ plain_changed text (suc c.at) cs rise.1 none are.1 ∙ ap (λ (l : List ℕ). changed (suc c.at) l cs) back))
