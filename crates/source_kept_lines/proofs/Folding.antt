-- The folded text of a block, line by line.
use Rattle.std.proofs.Common.{◌≡◌, ◌≢◌, ℕ, ◌+◌, ◌<◌, ◌==◌, Bool, true, false, cond, List, [], ◌∷◌, ◌++◌, append_assoc, refl, sym, ap, subst, ◌∙◌, inl, inr, arith}
use Rattle.std.specs.List.{list_all}
use Rattle.std.proofs.lemmas.Bool.{cases_Bool, and_parts, eqb-true, true≢false}
use Rattle.std.proofs.lemmas.List.{append-nil, map-append}
use Rattle.ti_text.specs.WhiteSpace.{is_white_space}
use Rattle.ti_source.specs.Cutting.{HasNoHead, HasOneHead}
use Rattle.ti_source.specs.Heads.{begins_head}
use Rattle.ti_source.specs.Folding.{PlacedByte}
use Rattle.ti_source.specs.Items.{bytes, without_white_front}
use Rattle.ti_source.specs.inside.Folding.{bytes_on_lines, folding_of, in_comment, without_breaks, without_comments}
use Rattle.ti_source.specs.inside.Items.{on_line}
use Rattle.source_format.specs.Pieces.{is_kept, lines_of, with_first_byte}
use Rattle.source_format.proofs.Cut.{bytes-on_line}
use Rattle.source_format.proofs.Folded.{IsOneLine, folded, fresh, fresh-kept, inline, inline-newline, inline-run}
use Rattle.source_kept_lines.specs.Layout.{white_front}
use Rattle.source_kept_lines.proofs.Contents.{Content, line-append-right, split, white_is}
use Rattle.source_kept_lines.proofs.Rows.{AllLines, Begins}
use Rattle.source_kept_lines.proofs.Laid.{AllBegin}
use Rattle.source_kept_lines.proofs.Read.{Above}

-- ---- a text is its lines

pub data Lines : List ℕ → List (List ℕ) → Type 0 where
  no_text : Lines [] []
  last_line : (l : List ℕ) → IsOneLine l → l ≢ [] → Lines l (l ∷ [])
  line_more : (l s : List ℕ) (ls : List (List ℕ)) → IsOneLine l → Lines s ls → Lines (l ++ 10 ∷ s) (l ∷ ls)

byte_line : (x : ℕ) (s : List ℕ) (ls : List (List ℕ)) → (x == 10) ≡ false → Lines s ls → Lines (x ∷ s) (with_first_byte x ls)
byte_line x _ _ n no_text = last_line (x ∷ []) (n, tt) (λ e. cc)
byte_line x _ _ n (last_line l one some) = last_line (x ∷ l) (n, one) (λ e. cc)
byte_line x _ _ n (line_more l s ls one more) = line_more (x ∷ l) s ls (n, one) more

pub lines_are : (s : List ℕ) → Lines s (lines_of s)
lines_are [] = no_text
lines_are (x ∷ xs) =
    elim (cases_Bool (x == 10)) [
      | inl t ↦ rw t (subst (λ (y : ℕ). Lines (y ∷ xs) ([] ∷ lines_of xs)) (sym (eqb-true x 10 t)) (line_more [] xs (lines_of xs) tt (lines_are xs)))
      | inr f ↦ rw f (byte_line x xs (lines_of xs) f (lines_are xs))
    ]

pub all_lines : {s : List ℕ} {ls : List (List ℕ)} → Lines s ls → AllLines ls
all_lines no_text = tt
all_lines (last_line l one some) = (one, tt)
all_lines (line_more l s ls one more) = (one, all_lines more)

-- ---- what is read of lines

-- the bytes of lines, each with the number of its line
abbrev pub placed : ℕ → List (List ℕ) → List PlacedByte
placed n [] = []
placed n (l ∷ ls) = cond (is_kept l) (placed (n + 1) ls) (on_line n (without_white_front l) ++ placed (n + 1) ls)

abbrev pub joined : List (List ℕ) → List ℕ
joined [] = []
joined (l ∷ ls) = cond (is_kept l) (joined ls) (without_white_front l ++ joined ls)

pub bytes-placed : (n : ℕ) (ls : List (List ℕ)) → bytes (placed n ls) ≡ joined ls
bytes-placed n [] = refl
bytes-placed n (l ∷ ls) =
    let later = bytes-placed (n + 1) ls in
    elim (cases_Bool (is_kept l)) [
      | inl t ↦ rw t later
      | inr f ↦ rw f (map-append (λ (x : PlacedByte). x.0) (on_line n (without_white_front l)) (placed (n + 1) ls)
          ∙ ap (λ (s : List ℕ). s ++ bytes (placed (n + 1) ls)) (bytes-on_line n (without_white_front l))
          ∙ ap (λ (s : List ℕ). without_white_front l ++ s) later)
    ]

above-line : (number line : ℕ) (u : List ℕ) (s : List PlacedByte) → number < line → Above number s → Above number (on_line line u ++ s)
above-line number line [] s h a = a
above-line number line (x ∷ u) s h a = (h, above-line number line u s h a)

pub above_placed : (number n : ℕ) (ls : List (List ℕ)) → number < n → Above number (placed n ls)
above_placed number n [] h = tt
above_placed number n (l ∷ ls) h =
    let later = above_placed number (n + 1) ls (omega (arith, h)) in
    elim (cases_Bool (is_kept l)) [ inl t ↦ rw t later | inr f ↦ rw f (above-line number n (without_white_front l) (placed (n + 1) ls) h later) ]

-- ---- the folding of a text

visible_read : (before n x : ℕ) (s : List ℕ) → (x == 10) ≡ false → is_white_space x ≡ false → in_comment false before x ≡ false
    → folded true before n (x ∷ s) ≡ inline n (x ∷ s)
visible_read before n x s line v c = rw (c, line, v) refl

white_byte : (n before x : ℕ) (s : List ℕ) → is_white_space x ≡ true → folded true before n (x ∷ s) ≡ folded true x n s
white_byte n before x s w =
    let other = white_is x w in
    let c : in_comment false before x ≡ false = no_mark before x other.1 in
    rw (c, other.0, w) refl
  where
    by_line : (b : Bool) → cond b false false ≡ false
    by_line true = refl
    by_line false = refl

    no_mark : (before x : ℕ) → (x == 35) ≡ false → in_comment false before x ≡ false
    no_mark before x e = rw e (by_line (before == 10))

inner_read : (n before : ℕ) (front : List ℕ) (x : ℕ) (s : List ℕ) → list_all is_white_space front ≡ true → is_white_space x ≡ false → (x == 10) ≡ false
    → (before == 10) ≡ false → folded true before n (front ++ x ∷ s) ≡ inline n (x ∷ s)
inner_read n before [] x s w v line b = visible_read before n x s line v (rw b refl)
inner_read n before (y ∷ front) x s w v line b =
    let both = and_parts (is_white_space y) (list_all is_white_space front) w in
    white_byte n before y (front ++ x ∷ s) both.0 ∙ inner_read n y front x s both.1 v line (white_is y both.0).0

front_read : (n : ℕ) (front : List ℕ) (x : ℕ) (s : List ℕ) → Content front x → (x == 10) ≡ false → fresh n (front ++ x ∷ s) ≡ inline n (x ∷ s)
front_read n [] x s c line = visible_read 10 n x s line c.visible c.mark
front_read n (y ∷ front) x s c line =
    let both = and_parts (is_white_space y) (list_all is_white_space front) c.white in
    white_byte n 10 y (front ++ x ∷ s) both.0 ∙ inner_read n y front x s both.1 c.visible line (white_is y both.0).0

content_read : (n : ℕ) (front : List ℕ) (x : ℕ) (u t : List ℕ) → Content front x → IsOneLine (x ∷ u)
    → fresh n (front ++ x ∷ u ++ t) ≡ on_line n (x ∷ u) ++ inline n t
content_read n front x u t c one =
    ap (fresh n) (append_assoc front (x ∷ u) t) ∙ front_read n front x (u ++ t) c one.0 ∙ inline-run n (x ∷ u) t one

-- a line that has content, and what comes after it
line_read : (n : ℕ) (l t : List ℕ) → is_kept l ≡ false → IsOneLine l → fresh n (l ++ t) ≡ on_line n (without_white_front l) ++ inline n t
line_read n l t k one =
    let s = split l k in
    let line : IsOneLine (s.byte ∷ s.rest) = line-append-right (white_front l) (s.byte ∷ s.rest) (subst IsOneLine s.whole one) in
    ap (λ (m : List ℕ). fresh n (m ++ t)) s.whole ∙ content_read n (white_front l) s.byte s.rest t s.is line
    ∙ ap (λ (u : List ℕ). on_line n u ++ inline n t) (sym s.content)

-- a comment or a blank line at the end
blank_end : (n before : ℕ) (l : List ℕ) → list_all is_white_space l ≡ true → folded true before n l ≡ []
blank_end n before [] w = refl
blank_end n before (x ∷ xs) w =
    let both = and_parts (is_white_space x) (list_all is_white_space xs) w in
    white_byte n before x xs both.0 ∙ blank_end n x xs both.1

comment_rest : (n before : ℕ) (l : List ℕ) → IsOneLine l → (before == 10) ≡ false → without_comments true before (bytes_on_lines n l) ≡ []
comment_rest n before [] one b = refl
comment_rest n before (x ∷ xs) one b = rw (b, one.0) (comment_rest n x xs one.1 one.0)

kept_end : (n : ℕ) (l : List ℕ) → IsOneLine l → is_kept l ≡ true → fresh n l ≡ []
kept_end n [] one k = refl
kept_end n (x ∷ xs) one k =
    elim (cases_Bool (x == 35)) [
      | inl t ↦ rw (t, one.0) (ap (without_breaks true) (comment_rest n x xs one.1 one.0))
      | inr f ↦ blank_end n 10 (x ∷ xs) (rw f at k)
    ]

pub fresh_placed : {s : List ℕ} {ls : List (List ℕ)} → Lines s ls → (n : ℕ) → fresh n s ≡ placed n ls
fresh_placed no_text n = refl
fresh_placed (last_line l one some) n =
    elim (cases_Bool (is_kept l)) [
      | inl t ↦ rw t (kept_end n l one t)
      | inr f ↦ rw f (ap (fresh n) (sym (append-nil l)) ∙ line_read n l [] f one)
    ]
fresh_placed (line_more l s ls one more) n =
    let later = fresh_placed more (n + 1) in
    elim (cases_Bool (is_kept l)) [
      | inl t ↦ rw t (fresh-kept n l s one t ∙ later)
      | inr f ↦ rw f (line_read n l (10 ∷ s) f one ∙ ap (λ (t : List PlacedByte). on_line n (without_white_front l) ++ t) (inline-newline n s ∙ later))
    ]

-- ---- a block

pub record Heads (x : ℕ) : Type 0 where
  pub white : is_white_space x ≡ false
  pub newline : (x == 10) ≡ false
  pub sign : (x == 35) ≡ false

pub heads_so : (x : ℕ) → begins_head x ≡ true → Heads x
heads_so x t =
    elim (cases_Bool (is_white_space x)) [
      | inl w ↦ let none : false ≡ true = rw w at t in cc
      | inr v ↦ elim (cases_Bool (x == 35)) [
        | inl s ↦ let none : false ≡ true = rw (v, s) at t in cc
        | inr f ↦ elim (cases_Bool (x == 10)) [
          | inl n ↦ let none : false ≡ true = rw (v, f, n) at t in cc
          | inr g ↦ record { white = v; newline = g; sign = f }
        ]
      ]
    ]

pub block_placed : (block : List ℕ) → HasOneHead block → folding_of block ≡ placed 1 (lines_of block)
block_placed [] h = absurd h
block_placed (x ∷ xs) h =
    let head = heads_so x h.0 in
    let same : folding_of (x ∷ xs) ≡ fresh 1 (x ∷ xs) = rw (head.sign, head.newline, head.white) refl in
    same ∙ fresh_placed (lines_are (x ∷ xs)) 1

-- ---- no line but the first begins as a head line does

pub drop_line : (before : ℕ) (l s : List ℕ) → HasNoHead before (l ++ 10 ∷ s) → HasNoHead 10 s
drop_line before [] s none = none.1
drop_line before (x ∷ xs) s none = drop_line x xs s none.1

no_head_white : (l : List ℕ) → IsOneLine l → HasNoHead 10 l → is_kept l ≡ false → Begins false (white_front l)
no_head_white [] one none k = absurd (true≢false k)
no_head_white (x ∷ xs) one none k =
    elim (cases_Bool (is_white_space x)) [
      | inl w ↦ rw w tt
      | inr v ↦ elim (cases_Bool (x == 35)) [
        | inl t ↦ let bad : true ≡ false = rw t at k in absurd (true≢false bad)
        | inr f ↦ let bad : true ≡ false = rw (v, f, one.0) at none.0 in absurd (true≢false bad)
      ]
    ]

no_head_front : (before : ℕ) (l s : List ℕ) → HasNoHead before (l ++ s) → HasNoHead before l
no_head_front before [] s none = tt
no_head_front before (x ∷ xs) s none = (none.0, no_head_front x xs s none.1)

later_begin : {s : List ℕ} {ls : List (List ℕ)} → Lines s ls → HasNoHead 10 s → AllBegin false ls
later_begin no_text none = tt
later_begin (last_line l one some) none = (no_head_white l one none, tt)
later_begin (line_more l s ls one more) none =
    (no_head_white l one (no_head_front 10 l (10 ∷ s) none), later_begin more (drop_line 10 l s none))

first_begins : (l s : List ℕ) → HasOneHead (l ++ 10 ∷ s) → HasNoHead 10 s
first_begins [] s h = h.1
first_begins (x ∷ xs) s h = drop_line x xs s h.1

pub block_begins : {s : List ℕ} {ls : List (List ℕ)} → Lines s ls → HasOneHead s → AllBegin true ls
block_begins no_text h = absurd h
block_begins (last_line l one some) h = ((λ k. tt), tt)
block_begins (line_more l s ls one more) h = ((λ k. tt), later_begin more (first_begins l s h))
