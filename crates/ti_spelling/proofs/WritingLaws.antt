-- Writing a value byte by byte, and what is written reads back.
use Rattle.std.proofs.Common.{◌≡◌, ◌≢◌, ℕ, suc, ◌+◌, ◌-◌, ◌<◌, Bool, true, false, eqb, ltb, List, [], ◌∷◌, ◌++◌, length, get_or, drop, Result, Ok, Err}
use Rattle.std.proofs.Common.{refl, ap, subst, sym, ◌∙◌, append_assoc, add-one, arith, ◌⊎◌, inl, inr}
use Rattle.std.specs.Prelude.{◌&&◌, ◌||◌, not}
use Rattle.std.proofs.Math.Seq.{drop-cons}
use Rattle.std.proofs.lemmas.Bool.{eqb-true, eq-eqb, ne_eqb, ltb-true, not-true, and_parts, agree_below_at, cases_eq}
use Rattle.std.proofs.lemmas.List.{drop_all}
use Rattle.std.proofs.lemmas.Slice.Eq.{bytes_eq-Decides}
use Rattle.std.specs.Str.{bytes_eq}
use Rattle.ti_spelling.specs.inside.Writing.{is_plain}
use Rattle.ti_spelling.specs.declared.spelling.Piece.{Piece}
use Rattle.ti_spelling.specs.declared.spelling.UnescapeError.{UnescapeError}
use Rattle.ti_spelling.specs.Spelling.{AreBytes, HasNoNul, is_percent, last_byte, is_empty, byte_text, written_from, spelling_of, WrittenSpells}
use Rattle.ti_spelling.specs.inside.Spelling.{escape_piece, control_piece, first_piece, with_piece, unescaped_from, unescape_result}
use Rattle.ti_spelling.proofs.SpellingLaws.{begins, unescaped_spells}

-- ---- the code's loop

ends_there : (value : List ℕ) (i : ℕ) → i < length value → is_empty (drop (suc i) value) ≡ eqb i (length value - 1)
ends_there value i lt = by_place (cases_eq i (length value - 1))
  where
    by_place : (i ≡ length value - 1) ⊎ (i ≡ length value - 1 → ⊥) → is_empty (drop (suc i) value) ≡ eqb i (length value - 1)
    by_place (inl last) = ap is_empty (drop_all (suc i) value (omega arith)) ∙ sym (eq-eqb _ _ last)
    by_place (inr more) = ap is_empty (drop-cons value (suc i) 0 (omega (arith, more))) ∙ sym (ne_eqb _ _ more)

pub writes_on : (text value all : List ℕ) (before i : ℕ) → i < length value → text ++ written_from (eqb i 0) before (drop i value) ≡ all
    → (text ++ byte_text (is_percent before) (eqb i 0 || eqb i (length value - 1)) (get_or value i 0))
    ++ written_from (eqb (i + 1) 0) (get_or value i 0) (drop (i + 1) value) ≡ all
writes_on text value all before i lt done =
    let x : ℕ = get_or value i 0 in
    let not_first : eqb (i + 1) 0 ≡ false = ne_eqb (i + 1) 0 (λ e. absurd (omega arith)) in
    let edge = ends_there value i lt in
    let one : written_from (eqb i 0) before (drop i value) ≡ byte_text (is_percent before) (eqb i 0 || eqb i (length value - 1)) x
    ++ written_from false x (drop (suc i) value) =
    ap (written_from (eqb i 0) before) (drop-cons value i 0 lt)
    ∙ ap (λ (last : Bool). byte_text (is_percent before) (eqb i 0 || last) x ++ written_from false x (drop (suc i) value)) edge in
    rw (append_assoc, not_first, add-one) (ap (λ (rest : List ℕ). text ++ rest) (sym one) ∙ done)

-- ---- a byte that is its own spelling

is_own_text : (percent edge : Bool) (byte : ℕ) → Bool
is_own_text percent edge byte = not (is_plain byte) || bytes_eq (byte_text percent edge byte) (byte ∷ [])

own_text_each : (percent edge : Bool) (byte : ℕ) → byte < 256 → is_own_text percent edge byte ≡ true
unfolding is_own_text byte_text
own_text_each true true byte lt = agree_below_at (is_own_text true true) (λ b. true) 256 byte refl lt
own_text_each true false byte lt = agree_below_at (is_own_text true false) (λ b. true) 256 byte refl lt
own_text_each false true byte lt = agree_below_at (is_own_text false true) (λ b. true) 256 byte refl lt
own_text_each false false byte lt = agree_below_at (is_own_text false false) (λ b. true) 256 byte refl lt

pub plain_text : (percent edge : Bool) (byte : ℕ) → byte < 256 → is_plain byte ≡ true → byte_text percent edge byte ≡ byte ∷ []
unfolding is_own_text
plain_text percent edge byte lt plain =
    (bytes_eq-Decides (byte_text percent edge byte) (byte ∷ [])).0
    (sym (ap (λ (p : Bool). not p || bytes_eq (byte_text percent edge byte) (byte ∷ [])) plain) ∙ own_text_each percent edge byte lt)

-- ---- reading it back

same_piece : Result Piece UnescapeError → (size byte : ℕ) → Bool
same_piece (Ok piece) size byte = eqb piece.size size && (eqb piece.byte byte && not piece.odd)
same_piece (Err cause) size byte = false

same_piece_is : (r : Result Piece UnescapeError) (size byte : ℕ) → same_piece r size byte ≡ true → r ≡ Ok (record { size = size; byte = byte; odd = false })
unfolding same_piece
same_piece_is (Ok piece) size byte e =
    let p = and_parts _ _ e in
    let q = and_parts _ _ p.1 in
    let size_is : piece.size ≡ size = eqb-true _ _ p.0 in
    let byte_is : piece.byte ≡ byte = eqb-true _ _ q.0 in
    let odd_is : piece.odd ≡ false = not-true _ q.1 in
    rw (← size_is, ← byte_is, ← odd_is) refl
same_piece_is (Err cause) size byte e = absurd cc

reads_byte : (percent edge : Bool) (rest : List ℕ) (byte : ℕ) → Bool
reads_byte percent edge rest byte =
    eqb byte 0 || same_piece (first_piece percent (byte_text percent edge byte ++ rest)) (length (byte_text percent edge byte)) byte

-- each of the 256 bytes, whatever follows
reads_each : (percent edge : Bool) (rest : List ℕ) (byte : ℕ) → byte < 256 → reads_byte percent edge rest byte ≡ true
unfolding reads_byte same_piece first_piece escape_piece control_piece byte_text
reads_each true true rest byte lt = agree_below_at (reads_byte true true rest) (λ b. true) 256 byte refl lt
reads_each true false rest byte lt = agree_below_at (reads_byte true false rest) (λ b. true) 256 byte refl lt
reads_each false true rest byte lt = agree_below_at (reads_byte false true rest) (λ b. true) 256 byte refl lt
reads_each false false rest byte lt = agree_below_at (reads_byte false false rest) (λ b. true) 256 byte refl lt

percent_after : (before : ℕ) (percent edge : Bool) (byte : ℕ) → byte < 256 → is_percent (last_byte before (byte_text percent edge byte)) ≡ is_percent byte
unfolding byte_text
percent_after before true true byte lt = agree_below_at (λ b. is_percent (last_byte before (byte_text true true b))) is_percent 256 byte refl lt
percent_after before true false byte lt = agree_below_at (λ b. is_percent (last_byte before (byte_text true false b))) is_percent 256 byte refl lt
percent_after before false true byte lt = agree_below_at (λ b. is_percent (last_byte before (byte_text false true b))) is_percent 256 byte refl lt
percent_after before false false byte lt = agree_below_at (λ b. is_percent (last_byte before (byte_text false false b))) is_percent 256 byte refl lt

text_some : (percent edge : Bool) (byte : ℕ) → byte < 256 → ltb 0 (length (byte_text percent edge byte)) ≡ true
unfolding byte_text
text_some true true byte lt = agree_below_at (λ b. ltb 0 (length (byte_text true true b))) (λ b. true) 256 byte refl lt
text_some true false byte lt = agree_below_at (λ b. ltb 0 (length (byte_text true false b))) (λ b. true) 256 byte refl lt
text_some false true byte lt = agree_below_at (λ b. ltb 0 (length (byte_text false true b))) (λ b. true) 256 byte refl lt
text_some false false byte lt = agree_below_at (λ b. ltb 0 (length (byte_text false false b))) (λ b. true) 256 byte refl lt

reads_text : (percent edge : Bool) (rest : List ℕ) (byte : ℕ) → byte < 256 → byte ≢ 0 → first_piece percent (byte_text percent edge byte ++ rest)
    ≡ Ok (record { size = length (byte_text percent edge byte); byte = byte; odd = false })
unfolding reads_byte
reads_text percent edge rest byte lt some =
    same_piece_is _ _ byte (sym (ap (λ (nul : Bool). nul || same_piece (first_piece percent (byte_text percent edge byte ++ rest))
    (length (byte_text percent edge byte)) byte) (ne_eqb byte 0 some)) ∙ reads_each percent edge rest byte lt)

reads_back : (value : List ℕ) (first : Bool) (before after : ℕ) → is_percent before ≡ is_percent after → AreBytes value → HasNoNul value
    → unescaped_from 0 after (written_from first before value) ≡ Ok (value, false)
unfolding unescaped_from
reads_back [] first before after same bytes some = refl
reads_back (x ∷ xs) first before after same bytes some =
    let edge : Bool = first || is_empty xs in
    let text : List ℕ = byte_text (is_percent before) edge x in
    let rest : List ℕ = written_from false x xs in
    let lt : x < 256 = bytes 0 0 (omega arith) in
    let not_nul : x ≢ 0 = some 0 0 (omega arith) in
    let piece : Piece = record { size = length text; byte = x; odd = false } in
    let read : first_piece (is_percent after) (text ++ rest) ≡ Ok piece =
    subst (λ (p : Bool). first_piece p (text ++ rest) ≡ Ok piece) same (reads_text (is_percent before) edge rest x lt not_nul) in
    begins after text rest piece (ltb-true 0 (length text) (text_some (is_percent before) edge x lt)) refl read
    ∙ ap (with_piece piece) (reads_back xs false x (last_byte after text) (sym (percent_after after (is_percent before) edge x lt))
    (λ k d below. bytes (suc k) d (omega arith)) (λ k d below. some (suc k) d (omega arith)))

pub written_reads : (value : List ℕ) → AreBytes value → HasNoNul value → unescape_result (spelling_of value) ≡ Ok (value, false)
unfolding unescape_result
written_reads value bytes some = reads_back value true 0 0 refl bytes some

pub written_spells : WrittenSpells
written_spells value bytes some = unescaped_spells (written_reads value bytes some)
