-- A text with no byte order mark in front has none once bytes of it are exchanged for texts in ASCII.
use Rattle.std.proofs.Common.{◌≡◌, ◌≢◌, ℕ, suc, ◌+◌, ◌-◌, ◌<◌, ◌≤◌, ◌&&◌, get_or, nat_le, true, List, [], ◌∷◌, ◌++◌, drop, length, take, inl, inr, refl, sym}
use Rattle.std.proofs.Common.{ap, ap₂, subst, ◌∙◌, arith}
use Rattle.std.specs.List.{AllByRecursion}
use Rattle.std.proofs.Math.Seq.{drop-cons}
use Rattle.std.proofs.lemmas.Bool.{and_parts, cases_Bool, eqb-true, leb-false, leb-true}
use Rattle.std.proofs.lemmas.List.{drop-drop, length-drop}
use Rattle.source_places.specs.Position.{units}
use Rattle.source_plain.specs.Reading.{has_mark, is_return_at, plain_lines}
use Rattle.source_plain.proofs.Returns.{starts_none}
use Rattle.source_edits.specs.Shown.{shown, shown_byte}
use Rattle.everyday_lint.proofs.Changes.{Change, Rise, changed, rise_ends}
use Rattle.everyday_lint.proofs.OfferedEdits.{BeginsWhole}
use Rattle.everyday_lint.proofs.OtherLines.{plain_kept, plain_newline, returns}

-- ---- the mark

pub record IsMarked (text : List ℕ) : Type 0 where
  pub rest : List ℕ
  pub whole : text ≡ 239 ∷ 187 ∷ 191 ∷ rest

pub marked_is : (text : List ℕ) → has_mark text ≡ true → IsMarked text
marked_is [] t = absurd cc
marked_is (a ∷ []) t = absurd cc
marked_is (a ∷ b ∷ []) t = absurd cc
marked_is (a ∷ b ∷ c ∷ text) t =
    let both = and_parts _ _ t in
    let first = and_parts _ _ both.0 in
    let one : a ≡ 239 = eqb-true a 239 first.0 in
    let two : b ≡ 187 = eqb-true b 187 first.1 in
    let three : c ≡ 191 = eqb-true c 191 both.1 in
    record { rest = text; whole = ap (λ (n : ℕ). n ∷ b ∷ c ∷ text) one ∙ ap (λ (n : ℕ). 239 ∷ n ∷ c ∷ text) two ∙ ap (λ (n : ℕ). 239 ∷ 187 ∷ n ∷ text) three }

pub has_it : (text : List ℕ) → IsMarked text → has_mark text ≡ true
has_it text is = ap has_mark is.whole

-- ---- in what is read

pub mark_read : (rest : List ℕ) → plain_lines (239 ∷ 187 ∷ 191 ∷ rest) ≡ 239 ∷ 187 ∷ 191 ∷ plain_lines rest
mark_read rest = ap (λ (t : List ℕ). 239 ∷ 187 ∷ t) (plain_kept 191 rest (starts_none 191 rest refl))

-- what is read begins with a byte that is no newline, and so does the text
record IsFirst (text : List ℕ) (x : ℕ) (xs : List ℕ) : Type 0 where
  rest : List ℕ
  whole : text ≡ x ∷ rest
  read : plain_lines rest ≡ xs

first_read : (text : List ℕ) (x : ℕ) (xs : List ℕ) → plain_lines text ≡ x ∷ xs → x ≢ 10 → IsFirst text x xs
first_read [] x xs e other = absurd cc
first_read (byte ∷ text) x xs e other =
    elim (cases_Bool (is_return_at (byte ∷ text))) [
      | inl t ↦
          let crlf = returns byte text t in
          let left : plain_lines text ≡ x ∷ xs = rw t at e in
          let newline : plain_lines text ≡ 10 ∷ plain_lines crlf.rest = ap plain_lines crlf.whole ∙ plain_newline crlf.rest in
          let same : 10 ∷ plain_lines crlf.rest ≡ x ∷ xs = sym newline ∙ left in
          let is : 10 ≡ x = cc in
          absurd (other (sym is))
      | inr f ↦
          let both : byte ∷ plain_lines text ≡ x ∷ xs = sym (plain_kept byte text f) ∙ e in
          let first : byte ≡ x = cc in
          let rest : plain_lines text ≡ xs = cc in
          record { rest = text; whole = ap (λ (n : ℕ). n ∷ text) first; read = rest }
    ]

three_bytes : (text one two three : List ℕ) → text ≡ 239 ∷ one → one ≡ 187 ∷ two → two ≡ 191 ∷ three → IsMarked text
three_bytes text one two three a b c =
    record { rest = three; whole = a ∙ ap (λ (t : List ℕ). 239 ∷ t) b ∙ ap (λ (t : List ℕ). 239 ∷ 187 ∷ t) c }

-- a mark that is read is one of the text
marked_third : (text one two rest : List ℕ) → text ≡ 239 ∷ one → one ≡ 187 ∷ two → plain_lines two ≡ 191 ∷ rest → IsMarked text
marked_third text one two rest a b e =
    let third = first_read two 191 rest e (λ n. cc) in
    three_bytes text one two third.rest a b third.whole

marked_second : (text one rest : List ℕ) → text ≡ 239 ∷ one → plain_lines one ≡ 187 ∷ 191 ∷ rest → IsMarked text
marked_second text one rest a e =
    let second = first_read one 187 (191 ∷ rest) e (λ n. cc) in
    marked_third text one second.rest rest a second.whole second.read

pub marked_read : (text rest : List ℕ) → plain_lines text ≡ 239 ∷ 187 ∷ 191 ∷ rest → IsMarked text
marked_read text rest e =
    let first = first_read text 239 (187 ∷ 191 ∷ rest) e (λ n. cc) in
    marked_second text first.rest rest first.whole first.read

-- ---- in a text with changes

-- a change is for a text in ASCII, and what is after it does not begin within a character
pub record IsWhole (text : List ℕ) (c : Change) : Type 0 where
  pub ascii : AllByRecursion (λ (byte : ℕ). byte < 128) c.text
  pub next : BeginsWhole (drop (suc c.at) text)

pub printed_ascii : (text : List ℕ) → shown text ≡ text → AllByRecursion (λ (byte : ℕ). byte < 128) text
printed_ascii [] printed = tt
printed_ascii (byte ∷ text) printed =
    let first : shown_byte byte ≡ byte = cc in
    let rest : shown text ≡ text = cc in
    (low first, printed_ascii text rest)
  where
    low : shown_byte byte ≡ byte → byte < 128
    low e =
        elim (cases_Bool (nat_le 32 byte && nat_le byte 126)) [
          | inl t ↦ let up = leb-true byte 126 (and_parts (nat_le 32 byte) (nat_le byte 126) t).1 in omega (arith, up)
          | inr f ↦ let is : 63 ≡ byte = rw f at e in omega (arith, is)
        ]

-- a byte within a character begins no whole text
tail_first : (x : ℕ) (xs : List ℕ) → units x ≡ 0 → BeginsWhole (x ∷ xs) → ⊥
tail_first x xs none is = omega (arith, none, is)

-- a byte that no change is of
one_step : (text : List ℕ) (n : ℕ) (cs : List Change) → Rise (suc n) (length text) cs
    → changed n (drop n text) cs ≡ get_or text n 0 ∷ changed (suc n) (drop (suc n) text) cs
one_step text n [] rise = drop-cons text n 0 (omega (arith, rise))
one_step text n (c ∷ cs) rise =
    let first = rise.0 in
    let end = rise_ends (suc c.at) (length text) cs rise.1 in
    let here = drop-cons text n 0 (omega (arith, first, end)) in
    let before : c.at - n ≡ suc (c.at - suc n) = omega (arith, first) in
    let after : suc c.at - n ≡ suc (suc c.at - suc n) = omega (arith, first) in
    ap₂ (λ (k j : ℕ). take k (drop n text) ++ (c.text ++ changed (suc c.at) (drop j (drop n text)) cs)) before after
    ∙ ap (λ (l : List ℕ). take (suc (c.at - suc n)) l ++ (c.text ++ changed (suc c.at) (drop (suc (suc c.at - suc n)) l) cs)) here

-- what a change is for does not begin so, if what is after it does not
by_text : (text : List ℕ) (n : ℕ) (c : Change) (cs : List Change) (x : ℕ) (xs new : List ℕ) → c.text ≡ new → n ≤ c.at → c.at < suc n
    → AllByRecursion (λ (byte : ℕ). byte < 128) c.text → 128 ≤ x → (changed (suc c.at) (drop (suc c.at) text) cs ≡ x ∷ xs → ⊥)
    → changed n (drop n text) (c ∷ cs) ≡ x ∷ xs → ⊥
by_text text n c cs x xs [] is first less ascii high never e =
    let zero_is : c.at - n ≡ 0 = omega (arith, less) in
    let past : n + (suc c.at - n) ≡ suc c.at = omega (arith, first, less) in
    let rest : drop (suc c.at - n) (drop n text) ≡ drop (suc c.at) text = drop-drop (suc c.at - n) n text ∙ ap (λ (k : ℕ). drop k text) past in
    let now : changed n (drop n text) (c ∷ cs) ≡ changed (suc c.at) (drop (suc c.at) text) cs =
    ap₂ (λ (k : ℕ) (t : List ℕ). take k (drop n text) ++ (t ++ changed (suc c.at) (drop (suc c.at - n) (drop n text)) cs)) zero_is is
    ∙ ap (λ (l : List ℕ). changed (suc c.at) l cs) rest in
    never (sym now ∙ e)
by_text text n c cs x xs (b ∷ bs) is first less ascii high never e =
    let zero_is : c.at - n ≡ 0 = omega (arith, less) in
    let rest = changed (suc c.at) (drop (suc c.at - n) (drop n text)) cs in
    let now : changed n (drop n text) (c ∷ cs) ≡ b ∷ (bs ++ rest) =
    ap₂ (λ (k : ℕ) (t : List ℕ). take k (drop n text) ++ (t ++ rest)) zero_is is in
    let both : b ∷ (bs ++ rest) ≡ x ∷ xs = sym now ∙ e in
    let same : b ≡ x = cc in
    let low = (subst (AllByRecursion (λ (byte : ℕ). byte < 128)) is ascii).0 in
    omega (arith, same, low, high)

-- nor does a text that begins a character, with changes
no_tail : (text : List ℕ) (n : ℕ) (cs : List Change) (x : ℕ) (xs : List ℕ) → Rise n (length text) cs → AllByRecursion (IsWhole text) cs
    → BeginsWhole (drop n text) → 128 ≤ x → units x ≡ 0 → changed n (drop n text) cs ≡ x ∷ xs → ⊥
no_tail text n [] x xs rise are whole high none e = tail_first x xs none (subst BeginsWhole e whole)
no_tail text n (c ∷ cs) x xs rise are whole high none e =
    elim (cases_Bool (nat_le (suc n) c.at)) [
      | inl t ↦
          let later = leb-true (suc n) c.at t in
          let end = rise_ends (suc c.at) (length text) cs rise.1 in
          let step = one_step text n (c ∷ cs) (later, rise.1) in
          let both : get_or text n 0 ∷ changed (suc n) (drop (suc n) text) (c ∷ cs) ≡ x ∷ xs = sym step ∙ e in
          let first : get_or text n 0 ≡ x = cc in
          let here = drop-cons text n 0 (omega (arith, later, end)) in
          tail_first x (drop (suc n) text) none (subst (λ (y : ℕ). BeginsWhole (y ∷ drop (suc n) text)) first (subst BeginsWhole here whole))
      | inr f ↦
          by_text text n c cs x xs c.text refl rise.0 (leb-false (suc n) c.at f) are.0.ascii high
          (λ now. no_tail text (suc c.at) cs x xs rise.1 are.1 are.0.next high none now) e
    ]

-- so where such a byte is then, no change is
not_here : (text : List ℕ) (n : ℕ) (cs : List Change) (x : ℕ) (xs : List ℕ) → Rise n (length text) cs → AllByRecursion (IsWhole text) cs
    → 128 ≤ x → units x ≡ 0 → changed n (drop n text) cs ≡ x ∷ xs → Rise (suc n) (length text) cs
not_here text n [] x xs rise are high none e =
    let left = length-drop n text in
    let size = ap (λ (l : List ℕ). length l) e in
    omega (arith, left, size)
not_here text n (c ∷ cs) x xs rise are high none e =
    elim (cases_Bool (nat_le (suc n) c.at)) [
      | inl t ↦ (leb-true (suc n) c.at t, rise.1)
      | inr f ↦
          absurd (by_text text n c cs x xs c.text refl rise.0 (leb-false (suc n) c.at f) are.0.ascii high
          (λ now. no_tail text (suc c.at) cs x xs rise.1 are.1 are.0.next high none now) e)
    ]

-- a text with a mark once changes are made, none of which is of its first byte, has the mark
pub marked_before : (text : List ℕ) (cs : List Change) (rest : List ℕ) → Rise 1 (length text) cs → AllByRecursion (IsWhole text) cs
    → changed 0 text cs ≡ 239 ∷ 187 ∷ 191 ∷ rest → IsMarked text
marked_before text cs rest rise are e =
    let high_two : 128 ≤ 187 = omega arith in
    let high_three : 128 ≤ 191 = omega arith in
    let one : get_or text 0 0 ∷ changed 1 (drop 1 text) cs ≡ 239 ∷ 187 ∷ 191 ∷ rest = sym (one_step text 0 cs rise) ∙ e in
    let first : get_or text 0 0 ≡ 239 = cc in
    let after_one : changed 1 (drop 1 text) cs ≡ 187 ∷ 191 ∷ rest = cc in
    let rise_two = not_here text 1 cs 187 (191 ∷ rest) rise are high_two refl after_one in
    let two : get_or text 1 0 ∷ changed 2 (drop 2 text) cs ≡ 187 ∷ 191 ∷ rest = sym (one_step text 1 cs rise_two) ∙ after_one in
    let second : get_or text 1 0 ≡ 187 = cc in
    let after_two : changed 2 (drop 2 text) cs ≡ 191 ∷ rest = cc in
    let rise_three = not_here text 2 cs 191 rest rise_two are high_three refl after_two in
    let three : get_or text 2 0 ∷ changed 3 (drop 3 text) cs ≡ 191 ∷ rest = sym (one_step text 2 cs rise_three) ∙ after_two in
    let third : get_or text 2 0 ≡ 191 = cc in
    let size = rise_ends 3 (length text) cs rise_three in
    record {
      rest = drop 3 text;
      whole = drop-cons text 0 0 (omega (arith, size))
          ∙ ap₂ (λ (b : ℕ) (l : List ℕ). b ∷ l) first (drop-cons text 1 0 (omega (arith, size)))
          ∙ ap₂ (λ (b : ℕ) (l : List ℕ). 239 ∷ b ∷ l) second (drop-cons text 2 0 (omega (arith, size)))
          ∙ ap (λ (b : ℕ). 239 ∷ 187 ∷ b ∷ drop 3 text) third;
    }
