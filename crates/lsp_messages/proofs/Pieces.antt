-- The pieces of a body, and what a repair makes of them.
use Rattle.std.proofs.Common.{ℕ, zero, suc, ◌≡◌, ◌≢◌, ◌+◌, ◌-◌, ◌<◌, ◌≤◌, ◌==◌, ◌&&◌, ◌||◌, ◌⊎◌, not, Bool, true, false, cond, List, [], ◌∷◌, ◌++◌, drop, length, take, Option}
use Rattle.std.proofs.Common.{refl, sym, ap, subst, ◌∙◌, inl, inr, arith, take-append-drop}
use Rattle.std.proofs.lemmas.Bool.{and_cases, and_left, and_parts, and_right, cases_Bool, eqb-false, eqb-true, false_from_ne_true, false≢true, ne_eqb, not_from_true, or_from, or_parts}
use Rattle.std.proofs.lemmas.List.{length-drop, length-take-le}
use Rattle.std.proofs.lemmas.Option.{slice_get_cases}
use Rattle.std.specs.Prelude.{flat_map, unwrap_or}
use Rattle.std.specs.Char.{is_ascii_hexdigit}
use Rattle.lsp_messages.specs.Bodies.{begins_half, byte_at, digit_before, ends_half, exchanged_after, is_alone, is_first_digit, is_first_half, is_pair, is_second_digit, is_second_half, kept_after, repair, repaired}
use Rattle.lsp_messages.specs.Laws.{BodiesAreInPieces, NoHalfIsLeft, RepairExchangesHalves, WholeBodiesStay}
use Rattle.lsp_messages.specs.Pieces.{ArePiecesOf, Piece, byte, escape, half, has_half, replaced, pair}

-- ---- a repair, some bytes at a time

if_true : {A : Type 0} (b : Bool) (x y : A) → b ≡ true → cond b x y ≡ x
if_true true x y e = refl
if_true false x y e = absurd (false≢true e)

if_false : {A : Type 0} (b : Bool) (x y : A) → b ≡ false → cond b x y ≡ y
if_false true x y e = absurd (false≢true (sym e))
if_false false x y e = refl

one_more : (x : ℕ) (xs : List ℕ) (kept exchanged : ℕ) → kept_after (x ∷ xs) ≡ kept → exchanged_after (x ∷ xs) ≡ exchanged
    → repaired (x ∷ xs) ≡ x ∷ repair kept exchanged xs
one_more x xs kept exchanged k e =
    subst (λ (n : ℕ). x ∷ repair (kept_after (x ∷ xs)) (exchanged_after (x ∷ xs)) xs ≡ x ∷ repair n exchanged xs) k
    (subst (λ (n : ℕ). x ∷ repair (kept_after (x ∷ xs)) (exchanged_after (x ∷ xs)) xs ≡ x ∷ repair (kept_after (x ∷ xs)) n xs) e refl)

-- one of some bytes that are to be kept
keeps_one : (kept exchanged x : ℕ) (xs : List ℕ) → (kept == 0) ≡ false → repair kept exchanged (x ∷ xs) ≡ x ∷ repair (kept - 1) exchanged xs
keeps_one kept exchanged x xs some =
    subst (λ (b : Bool). cond (b && not (exchanged == 0)) (digit_before (exchanged - 1)) x
    ∷ repair (cond (b && exchanged == 0) (kept_after (x ∷ xs)) (kept - 1))
    (cond (not b) exchanged (cond (exchanged == 0) (exchanged_after (x ∷ xs)) (exchanged - 1))) xs ≡ x ∷ repair (kept - 1) exchanged xs) (sym some) refl

kept_front : (kept : ℕ) (xs rest : List ℕ) (exchanged : ℕ) → kept ≡ length xs → repair kept exchanged (xs ++ rest) ≡ xs ++ repair 0 exchanged rest
kept_front kept [] rest exchanged size = ap (λ (n : ℕ). repair n exchanged rest) size
kept_front kept (x ∷ xs) rest exchanged size =
    keeps_one kept exchanged x (xs ++ rest) (ne_eqb kept 0 (λ none. absurd (omega arith)))
    ∙ ap (λ (t : List ℕ). x ∷ t) (kept_front (kept - 1) xs rest exchanged (omega arith))

-- bytes of which none is exchanged
stays : (text bytes rest : List ℕ) (n : ℕ) → text ≡ bytes ++ rest → length bytes ≡ n + 1 → kept_after text ≡ n → exchanged_after text ≡ 0
    → repaired text ≡ bytes ++ repaired rest
stays text [] rest n is size kept exchanged = absurd (omega arith)
stays text (x ∷ xs) rest n is size kept exchanged =
    let same : n ≡ length xs = omega arith in
    ap repaired is
    ∙ one_more x (xs ++ rest) (length xs) 0 (ap kept_after (sym is) ∙ kept ∙ same) (ap exchanged_after (sym is) ∙ exchanged)
    ∙ ap (λ (t : List ℕ). x ∷ t) (kept_front (length xs) xs rest 0 refl)

-- ---- where escapes are

there : (text : List ℕ) (at : ℕ) → is_ascii_hexdigit (byte_at text at) ≡ true → at < length text
there text at hex = elim (slice_get_cases text at).1 [
  | inl within ↦ within.1
  | inr past ↦ absurd (false≢true (subst (λ (o : Option ℕ). is_ascii_hexdigit (unwrap_or o 0) ≡ true) past.1 hex))
]

pair_size : (text : List ℕ) → is_pair text ≡ true → 12 ≤ length text
pair_size text is =
    let second = (and_parts (is_first_half text 0) (is_second_half text 6) is).1 in
    let ends = (and_parts (begins_half text 6 && is_second_digit (byte_at text 9)) (ends_half text 10) second).1 in
    let last = (and_parts (is_ascii_hexdigit (byte_at text 10)) (is_ascii_hexdigit (byte_at text 11)) ends).1 in
    let within : 11 < length text = there text 11 last in
    omega (arith, within)

-- an escape of a half at the front, whichever it is
abbrev half_by : (ℕ → Bool) → List ℕ → Bool
half_by digit text = begins_half text 0 && digit (byte_at text 3) && ends_half text 4

half_size : (digit : ℕ → Bool) (text : List ℕ) → half_by digit text ≡ true → 6 ≤ length text
half_size digit text is =
    let ends = (and_parts (begins_half text 0 && digit (byte_at text 3)) (ends_half text 4) is).1 in
    let last = (and_parts (is_ascii_hexdigit (byte_at text 4)) (is_ascii_hexdigit (byte_at text 5)) ends).1 in
    let within : 5 < length text = there text 5 last in
    omega (arith, within)

half_front : (digit : ℕ → Bool) (text : List ℕ) → half_by digit text ≡ true → (byte_at text 0 ≡ 92) × (byte_at text 1 ≡ 117)
half_front digit text is =
    let front = (and_parts (begins_half text 0 && digit (byte_at text 3)) (ends_half text 4) is).0 in
    let begins = (and_parts (begins_half text 0) (digit (byte_at text 3)) front).0 in
    let both = and_parts (byte_at text 0 == 92) (byte_at text 1 == 117)
    (and_parts (byte_at text 0 == 92 && byte_at text 1 == 117) (byte_at text 2 == 68 || byte_at text 2 == 100) begins).0 in
    (eqb-true (byte_at text 0) 92 both.0, eqb-true (byte_at text 1) 117 both.1)

no_pair : (text : List ℕ) → is_alone text ≡ true → is_pair text ≡ false
no_pair text alone =
    let none = (and_parts (half_by is_first_digit text || half_by is_second_digit text) (not (is_pair text)) alone).1 in
    elim (cases_Bool (is_pair text)) [ inl is ↦ absurd (false≢true (sym (not_from_true (is_pair text) is) ∙ none)) | inr is ↦ is ]

either_half : (text : List ℕ) → is_alone text ≡ true → (half_by is_first_digit text ≡ true) ⊎ (half_by is_second_digit text ≡ true)
either_half text is =
    let one = (and_parts (half_by is_first_digit text || half_by is_second_digit text) (not (is_pair text)) is).0 in
    elim (cases_Bool (half_by is_first_digit text)) [
      | inl first ↦ inl first
      | inr none ↦ inr (subst (λ (b : Bool). (b || half_by is_second_digit text) ≡ true) none one)
    ]

alone_size : (text : List ℕ) → is_alone text ≡ true → 6 ≤ length text
alone_size text is = elim (either_half text is) [ inl first ↦ half_size is_first_digit text first | inr second ↦ half_size is_second_digit text second ]

alone_front : (text : List ℕ) → is_alone text ≡ true → (byte_at text 0 ≡ 92) × (byte_at text 1 ≡ 117)
alone_front text is = elim (either_half text is) [ inl first ↦ half_front is_first_digit text first | inr second ↦ half_front is_second_digit text second ]

-- what begins with no backslash begins with no half
plain_half : (digit : ℕ → Bool) (x : ℕ) (xs : List ℕ) → (x == 92) ≡ false → half_by digit (x ∷ xs) ≡ false
plain_half digit x xs none =
    subst (λ (b : Bool). (b && byte_at (x ∷ xs) 1 == 117 && (byte_at (x ∷ xs) 2 == 68 || byte_at (x ∷ xs) 2 == 100)
    && digit (byte_at (x ∷ xs) 3) && ends_half (x ∷ xs) 4) ≡ false) (sym none) refl

plain_pair : (x : ℕ) (xs : List ℕ) → (x == 92) ≡ false → is_pair (x ∷ xs) ≡ false
plain_pair x xs none = and_left (is_first_half (x ∷ xs) 0) (is_second_half (x ∷ xs) 6) (plain_half is_first_digit x xs none)

plain_alone : (x : ℕ) (xs : List ℕ) → (x == 92) ≡ false → is_alone (x ∷ xs) ≡ false
plain_alone x xs none =
    let text = x ∷ xs in
    and_left (half_by is_first_digit text || half_by is_second_digit text) (not (is_pair text))
    (or_from (half_by is_first_digit text) (half_by is_second_digit text) (plain_half is_first_digit x xs none) (plain_half is_second_digit x xs none))

-- a pair is of no half that is alone
pair_alone : (text : List ℕ) → is_pair text ≡ true → is_alone text ≡ false
pair_alone text is = and_right (half_by is_first_digit text || half_by is_second_digit text) (not (is_pair text)) (not_from_true (is_pair text) is)

-- ---- each body is pieces

abbrev Found : List ℕ → Type 0
Found text = (pieces : List Piece) × ArePiecesOf pieces text

-- a text that begins with so many bytes of a piece
cut : (n size : ℕ) (text : List ℕ) → 0 < size → size ≤ length text → length text ≤ n + 1 → length (drop size text) ≤ n
cut n size text some within all = omega (arith, length-drop size text)

slow : (n x : ℕ) (xs : List ℕ) → ((rest : List ℕ) → length rest ≤ n → Found rest) → length (x ∷ xs) ≤ n + 1 → is_pair (x ∷ xs) ≡ false
    → is_alone (x ∷ xs) ≡ false → (x ≡ 92) ⊎ (x ≢ 92) → Found (x ∷ xs)
slow n x [] more within unpaired none is = (byte x ∷ [], ([], refl, inr refl, refl))
slow n x (y ∷ ys) more within unpaired none (inl is) =
    let found = more ys (omega arith) in
    (escape (x ∷ y ∷ []) ∷ found.0, (ys, refl, (unpaired, none, (y, ap (λ (b : ℕ). b ∷ y ∷ []) is)), found.1))
slow n x (y ∷ ys) more within unpaired none (inr is) =
    let found = more (y ∷ ys) (omega arith) in
    (byte x ∷ found.0, (y ∷ ys, refl, inl is, found.1))

is_slash : (x : ℕ) → (x ≡ 92) ⊎ (x ≢ 92)
is_slash x = elim (cases_Bool (x == 92)) [ inl t ↦ inl (eqb-true x 92 t) | inr f ↦ inr (eqb-false x 92 f) ]

first_piece : (n x : ℕ) (xs : List ℕ) → ((rest : List ℕ) → length rest ≤ n → Found rest) → length (x ∷ xs) ≤ n + 1 → Found (x ∷ xs)
first_piece n x xs more within =
    let text = x ∷ xs in
    elim (cases_Bool (is_pair text)) [
      | inl is ↦
          let size = pair_size text is in
          let found = more (drop 12 text) (cut n 12 text (omega arith) size within) in
          (pair (take 12 text) ∷ found.0, (drop 12 text, sym (take-append-drop 12 text), (is, length-take-le 12 text size), found.1))
      | inr unpaired ↦ elim (cases_Bool (is_alone text)) [
        | inl is ↦
            let size = alone_size text is in
            let found = more (drop 6 text) (cut n 6 text (omega arith) size within) in
            (half (take 6 text) ∷ found.0, (drop 6 text, sym (take-append-drop 6 text), (is, length-take-le 6 text size), found.1))
        | inr none ↦ slow n x xs more within unpaired none (is_slash x)
      ]
    ]

pieces_of : (n : ℕ) (text : List ℕ) → length text ≤ n → Found text
pieces_of n [] within = ([], refl)
pieces_of zero (x ∷ xs) within = absurd (omega arith)
pieces_of (suc n) (x ∷ xs) within = first_piece n x xs (pieces_of n) (omega arith)

pub are_in_pieces : BodiesAreInPieces
are_in_pieces body = pieces_of (length body) body (omega arith)

-- ---- a repair exchanges the halves

-- the escape of a half, of six bytes
halves : (text bytes rest : List ℕ) → text ≡ bytes ++ rest → length bytes ≡ 6 → is_alone text ≡ true
    → repaired text ≡ 92 ∷ 117 ∷ 102 ∷ 102 ∷ 102 ∷ 100 ∷ repaired rest
halves text (a ∷ b ∷ c ∷ d ∷ e ∷ f ∷ []) rest is size alone =
    let front = alone_front text alone in
    let first : a ≡ 92 = ap (λ (t : List ℕ). byte_at t 0) (sym is) ∙ front.0 in
    let second : b ≡ 117 = ap (λ (t : List ℕ). byte_at t 1) (sym is) ∙ front.1 in
    let slash : (byte_at text 0 == 92) ≡ true = ap (λ (n : ℕ). n == 92) front.0 in
    let kept : kept_after text ≡ 1 = if_false (is_pair text) 11 (cond (byte_at text 0 == 92) 1 0) (no_pair text alone) ∙ if_true (byte_at text 0 == 92) 1 0 slash in
    let exchanged : exchanged_after text ≡ 4 = if_true (is_alone text) 4 0 alone in
    ap repaired is
    ∙ one_more a (b ∷ c ∷ d ∷ e ∷ f ∷ rest) 1 4 (ap kept_after (sym is) ∙ kept) (ap exchanged_after (sym is) ∙ exchanged)
    ∙ ap (λ (n : ℕ). n ∷ b ∷ 102 ∷ 102 ∷ 102 ∷ 100 ∷ repaired rest) first
    ∙ ap (λ (n : ℕ). 92 ∷ n ∷ 102 ∷ 102 ∷ 102 ∷ 100 ∷ repaired rest) second
halves text _ rest is size alone = absurd (omega arith)

exchanged : (pieces : List Piece) (text : List ℕ) → ArePiecesOf pieces text → repaired text ≡ flat_map replaced pieces
exchanged [] text are = ap repaired are
exchanged (pair bytes ∷ pieces) text are =
    let is = are.2.0 in
    let none = pair_alone text is in
    stays text bytes are.0 11 are.1 are.2.1 (if_true (is_pair text) 11 (cond (byte_at text 0 == 92) 1 0) is) (if_false (is_alone text) 4 0 none)
    ∙ ap (λ (t : List ℕ). bytes ++ t) (exchanged pieces are.0 are.3)
exchanged (half bytes ∷ pieces) text are =
    halves text bytes are.0 are.1 are.2.1 are.2.0
    ∙ ap (λ (t : List ℕ). 92 ∷ 117 ∷ 102 ∷ 102 ∷ 102 ∷ 100 ∷ t) (exchanged pieces are.0 are.3)
exchanged (escape bytes ∷ pieces) text are =
    let slash : byte_at text 0 ≡ 92 = ap (λ (t : List ℕ). byte_at t 0) (are.1 ∙ ap (λ (t : List ℕ). t ++ are.0) are.2.2.1) in
    let kept : kept_after text ≡ 1 =
    if_false (is_pair text) 11 (cond (byte_at text 0 == 92) 1 0) are.2.0 ∙ if_true (byte_at text 0 == 92) 1 0 (ap (λ (n : ℕ). n == 92) slash) in
    stays text bytes are.0 1 are.1 (ap length are.2.2.1) kept (if_false (is_alone text) 4 0 are.2.1)
    ∙ ap (λ (t : List ℕ). bytes ++ t) (exchanged pieces are.0 are.3)
exchanged (byte one ∷ pieces) text are =
    elim (cases_Bool (one == 92)) [
      | inl slash ↦ elim are.2 [
        | inl other ↦ absurd (other (eqb-true one 92 slash))
        | inr alone ↦
            let rest : are.0 ≡ [] = cc (are.1, alone) in
            let last : flat_map replaced pieces ≡ [] = sym (exchanged pieces are.0 are.3) ∙ ap repaired rest in
            ap repaired (alone ∙ ap (λ (n : ℕ). n ∷ []) (eqb-true one 92 slash))
            ∙ ap (λ (n : ℕ). n ∷ []) (sym (eqb-true one 92 slash)) ∙ ap (λ (t : List ℕ). one ∷ t) (sym last)
      ]
      | inr none ↦
          let kept : kept_after text ≡ 0 =
          ap kept_after are.1 ∙ if_false (is_pair (one ∷ are.0)) 11 (cond (one == 92) 1 0) (plain_pair one are.0 none) ∙ if_false (one == 92) 1 0 none in
          let exchanged_none : exchanged_after text ≡ 0 =
          ap exchanged_after are.1 ∙ if_false (is_alone (one ∷ are.0)) 4 0 (plain_alone one are.0 none) in
          stays text (one ∷ []) are.0 0 are.1 refl kept exchanged_none ∙ ap (λ (t : List ℕ). one ∷ t) (exchanged pieces are.0 are.3)
    ]

pub exchanges : RepairExchangesHalves
exchanges body pieces are = exchanged pieces body are

-- ---- no half is left

-- bytes after an escape that are no backslashes stay
follows : (pieces : List Piece) (text : List ℕ) → ArePiecesOf pieces text → (at : ℕ)
    → ((k : ℕ) → k ≤ at → byte_at (flat_map replaced pieces) k ≢ 92) → byte_at (flat_map replaced pieces) at ≡ byte_at text at
follows [] text are at none = ap (λ (t : List ℕ). byte_at t at) (sym are)
follows (pair [] ∷ pieces) text are at none = absurd (omega (arith, are.2.1))
follows (pair (x ∷ xs) ∷ pieces) text are at none =
    let first = (and_parts (is_first_half text 0) (is_second_half text 6) are.2.0).0 in
    absurd (none 0 (omega arith) (ap (λ (t : List ℕ). byte_at t 0) (sym are.1) ∙ (half_front is_first_digit text first).0))
follows (half bytes ∷ pieces) text are at none = absurd (none 0 (omega arith) refl)
follows (escape bytes ∷ pieces) text are at none =
    absurd (none 0 (omega arith) (ap (λ (t : List ℕ). byte_at (t ++ flat_map replaced pieces) 0) are.2.2.1))
follows (byte one ∷ pieces) text are zero none = ap (λ (t : List ℕ). byte_at t 0) (sym are.1)
follows (byte one ∷ pieces) text are (suc at) none =
    follows pieces are.0 are.3 at (λ k within. none (suc k) (omega (arith, within))) ∙ ap (λ (t : List ℕ). byte_at t (suc at)) (sym are.1)

upto_three : (P : ℕ → Type 0) → P 0 → P 1 → P 2 → P 3 → (k : ℕ) → k ≤ 3 → P k
upto_three P a b c d zero within = a
upto_three P a b c d (suc zero) within = b
upto_three P a b c d (suc (suc zero)) within = c
upto_three P a b c d (suc (suc (suc zero))) within = d
upto_three P a b c d (suc (suc (suc (suc k)))) within = absurd (omega arith)

-- the bytes of an escape of a half after its backslash and the byte after it
abbrev tail_by : (ℕ → Bool) → ℕ → ℕ → ℕ → ℕ → ℕ → Bool
tail_by digit taken a b c d = (92 == 92 && taken == 117 && (a == 68 || a == 100)) && digit b && (is_ascii_hexdigit c && is_ascii_hexdigit d)

-- an escape that is no half is none after the repair
module _ (digit : ℕ → Bool) (other : digit 92 ≡ false) (pieces : List Piece) (text : List ℕ) (are : ArePiecesOf pieces text) (taken : ℕ) where
  plain_four : half_by digit (92 ∷ taken ∷ flat_map replaced pieces) ≡ true → (k : ℕ) → k ≤ 3 → byte_at (flat_map replaced pieces) k ≢ 92
  plain_four is =
      let m = flat_map replaced pieces in
      let both = and_parts (begins_half (92 ∷ taken ∷ m) 0 && digit (byte_at m 1)) (ends_half (92 ∷ taken ∷ m) 4) is in
      let front = and_parts (begins_half (92 ∷ taken ∷ m) 0) (digit (byte_at m 1)) both.0 in
      let mark = (and_parts (92 == 92 && taken == 117) (byte_at m 0 == 68 || byte_at m 0 == 100) front.0).1 in
      let ends = and_parts (is_ascii_hexdigit (byte_at m 2)) (is_ascii_hexdigit (byte_at m 3)) both.1 in
      upto_three (λ (k : ℕ). byte_at m k ≢ 92)
      (λ e. false≢true (subst (λ (n : ℕ). (n == 68 || n == 100) ≡ true) e mark))
      (λ e. false≢true (sym other ∙ subst (λ (n : ℕ). digit n ≡ true) e front.1))
      (λ e. false≢true (subst (λ (n : ℕ). is_ascii_hexdigit n ≡ true) e ends.0))
      (λ e. false≢true (subst (λ (n : ℕ). is_ascii_hexdigit n ≡ true) e ends.1))

  was_half : half_by digit (92 ∷ taken ∷ flat_map replaced pieces) ≡ true → half_by digit (92 ∷ taken ∷ text) ≡ true
  was_half is =
      let m = flat_map replaced pieces in
      let same : (at : ℕ) → at ≤ 3 → byte_at m at ≡ byte_at text at =
      λ at within. follows pieces text are at (λ k below. plain_four is k (omega (arith, within, below))) in
      subst (λ (n : ℕ). tail_by digit taken (byte_at text 0) (byte_at text 1) (byte_at text 2) n ≡ true) (same 3 (omega arith))
      (subst (λ (n : ℕ). tail_by digit taken (byte_at text 0) (byte_at text 1) n (byte_at m 3) ≡ true) (same 2 (omega arith))
      (subst (λ (n : ℕ). tail_by digit taken (byte_at text 0) n (byte_at m 2) (byte_at m 3) ≡ true) (same 1 (omega arith))
      (subst (λ (n : ℕ). tail_by digit taken n (byte_at m 1) (byte_at m 2) (byte_at m 3) ≡ true) (same 0 (omega arith)) is)))

  still_none : half_by digit (92 ∷ taken ∷ text) ≡ false → half_by digit (92 ∷ taken ∷ flat_map replaced pieces) ≡ false
  still_none none =
      false_from_ne_true (half_by digit (92 ∷ taken ∷ flat_map replaced pieces)) (λ is. false≢true (sym none ∙ was_half is))

-- a text with neither a pair nor a half that is alone at its front has no half there
no_half : (text : List ℕ) → is_pair text ≡ false → is_alone text ≡ false
    → (half_by is_first_digit text ≡ false) × (half_by is_second_digit text ≡ false)
no_half text unpaired none =
    let either = half_by is_first_digit text || half_by is_second_digit text in
    elim (and_cases either (not (is_pair text)) none) [
      | inl neither ↦ or_parts (half_by is_first_digit text) (half_by is_second_digit text) neither
      | inr is ↦ absurd (false≢true (sym is ∙ ap not unpaired))
    ]

escape_stays : (pieces : List Piece) (text : List ℕ) → ArePiecesOf pieces text → (taken : ℕ) → is_pair (92 ∷ taken ∷ text) ≡ false
    → is_alone (92 ∷ taken ∷ text) ≡ false
    → (is_pair (92 ∷ taken ∷ flat_map replaced pieces) ≡ false) × (is_alone (92 ∷ taken ∷ flat_map replaced pieces) ≡ false)
escape_stays pieces text are taken unpaired none =
    let now = 92 ∷ taken ∷ flat_map replaced pieces in
    let was = no_half (92 ∷ taken ∷ text) unpaired none in
    let first = still_none is_first_digit refl pieces text are taken was.0 in
    let second = still_none is_second_digit refl pieces text are taken was.1 in (
      and_left (is_first_half now 0) (is_second_half now 6) first,
      and_left (half_by is_first_digit now || half_by is_second_digit now) (not (is_pair now))
          (or_from (half_by is_first_digit now) (half_by is_second_digit now) first second),
    )

-- a pair is one whatever comes after it
pair_stays : (bytes rest other : List ℕ) → length bytes ≡ 12 → is_pair (bytes ++ rest) ≡ true → is_pair (bytes ++ other) ≡ true
pair_stays (a ∷ b ∷ c ∷ d ∷ e ∷ f ∷ g ∷ h ∷ i ∷ j ∷ k ∷ l ∷ []) rest other size is = is
pair_stays _ rest other size is = absurd (omega arith)

-- the pieces of a repaired body, for one of the body
abbrev stand : Piece → List Piece
stand (half bytes) = escape (92 ∷ 117 ∷ []) ∷ byte 102 ∷ byte 102 ∷ byte 102 ∷ byte 100 ∷ []
stand piece = piece ∷ []

sound : (pieces : List Piece) (text : List ℕ) → ArePiecesOf pieces text → ArePiecesOf (flat_map stand pieces) (flat_map replaced pieces)
sound [] text are = refl
sound (pair bytes ∷ pieces) text are =
    let m = flat_map replaced pieces in
    let is : is_pair (bytes ++ m) ≡ true = pair_stays bytes are.0 m are.2.1 (ap is_pair (sym are.1) ∙ are.2.0) in
    (m, refl, (is, are.2.1), sound pieces are.0 are.3)
sound (half bytes ∷ pieces) text are =
    let m = flat_map replaced pieces in
    let f : 102 ≢ 92 = eqb-false 102 92 refl in (
      102 ∷ 102 ∷ 102 ∷ 100 ∷ m,
      refl,
      (refl, refl, (117, refl)),
      (102 ∷ 102 ∷ 100 ∷ m, refl, inl f, (102 ∷ 100 ∷ m, refl, inl f, (100 ∷ m, refl, inl f, (m, refl, inl (eqb-false 100 92 refl), sound pieces are.0 are.3)))),
    )
sound (escape bytes ∷ pieces) text are =
    let m = flat_map replaced pieces in
    let taken = are.2.2.0 in
    let was : text ≡ 92 ∷ taken ∷ are.0 = are.1 ∙ ap (λ (t : List ℕ). t ++ are.0) are.2.2.1 in
    let now : bytes ++ m ≡ 92 ∷ taken ∷ m = ap (λ (t : List ℕ). t ++ m) are.2.2.1 in
    let both = escape_stays pieces are.0 are.3 taken (ap is_pair (sym was) ∙ are.2.0) (ap is_alone (sym was) ∙ are.2.1) in
    (m, refl, (ap is_pair now ∙ both.0, ap is_alone now ∙ both.1, (taken, are.2.2.1)), sound pieces are.0 are.3)
sound (byte one ∷ pieces) text are =
    let m = flat_map replaced pieces in (
      m,
      refl,
      elim are.2 [
        | inl other ↦ inl other
        | inr alone ↦
            let rest : are.0 ≡ [] = cc (are.1, alone) in
            inr (ap (λ (t : List ℕ). one ∷ t) (sym (exchanged pieces are.0 are.3) ∙ ap repaired rest))
      ],
      sound pieces are.0 are.3,
    )

none_stands : (pieces : List Piece) → has_half (flat_map stand pieces) ≡ false
none_stands [] = refl
none_stands (pair bytes ∷ pieces) = none_stands pieces
none_stands (half bytes ∷ pieces) = none_stands pieces
none_stands (escape bytes ∷ pieces) = none_stands pieces
none_stands (byte one ∷ pieces) = none_stands pieces

pub none_is_left : NoHalfIsLeft
none_is_left body =
    let found = are_in_pieces body in (
      flat_map stand found.0,
      subst (λ (text : List ℕ). ArePiecesOf (flat_map stand found.0) text) (sym (exchanged found.0 body found.1)) (sound found.0 body found.1),
      none_stands found.0,
    )

-- ---- a body in which no half is alone

same_pieces : (pieces : List Piece) (text : List ℕ) → ArePiecesOf pieces text → has_half pieces ≡ false → flat_map replaced pieces ≡ text
same_pieces [] text are none = sym are
same_pieces (pair bytes ∷ pieces) text are none = ap (λ (t : List ℕ). bytes ++ t) (same_pieces pieces are.0 are.3 none) ∙ sym are.1
same_pieces (half bytes ∷ pieces) text are none = absurd (false≢true (sym none))
same_pieces (escape bytes ∷ pieces) text are none = ap (λ (t : List ℕ). bytes ++ t) (same_pieces pieces are.0 are.3 none) ∙ sym are.1
same_pieces (byte one ∷ pieces) text are none = ap (λ (t : List ℕ). one ∷ t) (same_pieces pieces are.0 are.3 none) ∙ sym are.1

pub whole_stay : WholeBodiesStay
whole_stay body pieces are none = exchanged pieces body are ∙ same_pieces pieces body are none
