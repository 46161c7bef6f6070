-- The folded text of a block, up to a byte that is kept and from there on.
use Rattle.std.proofs.Common.{◌≡◌, ℕ, suc, ◌+◌, ◌==◌, ◌||◌, ◌&&◌, Bool, true, false, List, [], ◌∷◌, ◌++◌, append_assoc, length, inl, inr, refl, sym, ap}
use Rattle.std.proofs.Common.{subst, ◌∙◌, arith}
use Rattle.std.proofs.lemmas.Bool.{cases_Bool, eq-eqb, eqb-true}
use Rattle.ti_text.specs.Texts.{last_byte}
use Rattle.ti_text.specs.WhiteSpace.{is_white_space}
use Rattle.ti_source.specs.Cutting.{HasNoHead}
use Rattle.ti_source.specs.Folding.{PlacedByte}
use Rattle.ti_source.specs.Heads.{is_head}
use Rattle.ti_source.specs.Items.{bytes}
use Rattle.source_spans.specs.Folding.{bytes_at, in_comment, without_breaks, without_comments}
use Rattle.source_spans.specs.Replacing.{IsOneLine}

-- what is kept of a text after the byte `before`, in a comment or not, in a break or not
abbrev pub kept_after : Bool → ℕ → Bool → List PlacedByte → List PlacedByte
kept_after comment before joining text = without_breaks joining (without_comments comment before text)

in_break : Bool → ℕ → Bool
in_break joining byte = byte == 10 || (joining && is_white_space byte)

-- a byte in a comment, one in a break, and one that is kept
past_comment : (c j : Bool) (b : ℕ) (x : PlacedByte) (t : List PlacedByte) → in_comment c b x.0 ≡ true → kept_after c b j (x ∷ t) ≡ kept_after true x.0 j t
past_comment c j b x t is = rw is refl

past_break : (c j : Bool) (b : ℕ) (x : PlacedByte) (t : List PlacedByte) → in_comment c b x.0 ≡ false → in_break j x.0 ≡ true
    → kept_after c b j (x ∷ t) ≡ kept_after false x.0 true t
unfolding in_break
past_break c j b x t out is = rw (out, is) refl

pub past_kept : (c j : Bool) (b : ℕ) (x : PlacedByte) (t : List PlacedByte) → in_comment c b x.0 ≡ false → (x.0 == 10 || (j && is_white_space x.0)) ≡ false
    → kept_after c b j (x ∷ t) ≡ x ∷ kept_after false x.0 false t
past_kept c j b x t out plain = rw (out, plain) refl

-- where a line begins and in a comment a break goes on
pub record IsSafe (c : Bool) (b : ℕ) (j : Bool) : Type 0 where
  pub line : b ≡ 10 → j ≡ true
  pub comment : c ≡ true → j ≡ true

-- a byte of a block that is kept, and what is kept before it and after it
pub record IsKept (c : Bool) (b : ℕ) (j : Bool) (offset : ℕ) (block : List ℕ) (front : List PlacedByte) (x : PlacedByte) (back : List PlacedByte) : Type 0 where
  pub before : List ℕ
  pub after : List ℕ
  pub comment : Bool
  pub joining : Bool
  pub whole : block ≡ before ++ x.0 ∷ after
  pub place : x.1 ≡ offset + length before
  pub out : in_comment comment (last_byte b before) x.0 ≡ false
  pub stays : (x.0 == 10 || (joining && is_white_space x.0)) ≡ false
  pub safe : IsSafe comment (last_byte b before) joining
  pub front_kept : (rest : List PlacedByte) → kept_after c b j (bytes_at offset before ++ rest) ≡ front ++ kept_after comment (last_byte b before) joining rest
  pub back_kept : back ≡ kept_after false x.0 false (bytes_at (suc x.1) after)

one_later : (c c2 j j2 : Bool) (b y offset : ℕ) (ys : List ℕ) (pre front : List PlacedByte) (x : PlacedByte) (back : List PlacedByte)
    → ((t : List PlacedByte) → kept_after c b j ((y, offset) ∷ t) ≡ pre ++ kept_after c2 y j2 t)
    → IsKept c2 y j2 (suc offset) ys front x back → IsKept c b j offset (y ∷ ys) (pre ++ front) x back
one_later c c2 j j2 b y offset ys pre front x back step later = record {
  before = y ∷ later.before;
  after = later.after;
  comment = later.comment;
  joining = later.joining;
  whole = ap (λ (t : List ℕ). y ∷ t) later.whole;
  place = let p = later.place in omega (arith, p);
  out = later.out;
  stays = later.stays;
  safe = later.safe;
  front_kept = λ rest. step (bytes_at (suc offset) later.before ++ rest) ∙ ap (λ (t : List PlacedByte). pre ++ t) (later.front_kept rest)
      ∙ sym (append_assoc pre front (kept_after later.comment (last_byte y later.before) later.joining rest));
  back_kept = later.back_kept;
}

comment_safe : (c j : Bool) (b y : ℕ) → IsSafe c b j → in_comment c b y ≡ true → IsSafe true y j
comment_safe c j b y safe is =
    let on : j ≡ true = elim (cases_Bool (b == 10)) [ inl t ↦ safe.line (eqb-true b 10 t) | inr f ↦ safe.comment (rw f at is) ] in
    record { line = λ e. on; comment = λ e. on }

break_safe : (y : ℕ) → IsSafe false y true
break_safe y = record { line = λ e. refl; comment = λ e. refl }

pub no_newline : (j : Bool) (y : ℕ) → (y == 10 || (j && is_white_space y)) ≡ false → (y == 10) ≡ false
no_newline j y plain = first (y == 10) (j && is_white_space y) plain
  where
    first : (a w : Bool) → (a || w) ≡ false → a ≡ false
    first true w h = h
    first false w h = refl

pub kept_safe : (y : ℕ) → (y == 10) ≡ false → IsSafe false y false
kept_safe y plain = record { line = λ e. let is = eq-eqb y 10 e in cc; comment = λ e. cc }

-- the first byte is kept
kept_here : (c j : Bool) (b y offset : ℕ) (ys : List ℕ) (front : List PlacedByte) (x : PlacedByte) (back : List PlacedByte) → IsSafe c b j
    → in_comment c b y ≡ false
    → (y == 10 || (j && is_white_space y)) ≡ false
    → ((front : List PlacedByte) → kept_after false y false (bytes_at (suc offset) ys) ≡ front ++ x ∷ back → IsKept false y false (suc offset) ys front x back)
    → (y, offset) ∷ kept_after false y false (bytes_at (suc offset) ys) ≡ front ++ x ∷ back → IsKept c b j offset (y ∷ ys) front x back
kept_here c j b y offset ys [] x back safe out plain later e =
    let same : (y, offset) ≡ x = cc in
    let left : kept_after false y false (bytes_at (suc offset) ys) ≡ back = cc in
    subst (λ (z : PlacedByte). IsKept c b j offset (y ∷ ys) [] z back) same (record {
      before = [];
      after = ys;
      comment = c;
      joining = j;
      whole = refl;
      place = omega arith;
      out = out;
      stays = plain;
      safe = safe;
      front_kept = λ rest. refl;
      back_kept = sym left;
    })
kept_here c j b y offset ys (p ∷ ps) x back safe out plain later e =
    let same : (y, offset) ≡ p = cc in
    let left : kept_after false y false (bytes_at (suc offset) ys) ≡ ps ++ x ∷ back = cc in
    subst (λ (z : PlacedByte). IsKept c b j offset (y ∷ ys) (z ∷ ps) x back) same
    (one_later c false j false b y offset ys ((y, offset) ∷ []) ps x back (λ rest. past_kept c j b (y, offset) rest out plain) (later ps left))

pub find_kept : (c j : Bool) (b offset : ℕ) (block : List ℕ) (front : List PlacedByte) (x : PlacedByte) (back : List PlacedByte) → IsSafe c b j
    → kept_after c b j (bytes_at offset block) ≡ front ++ x ∷ back → IsKept c b j offset block front x back
unfolding in_break
find_kept c j b offset [] [] x back safe e = absurd cc
find_kept c j b offset [] (p ∷ ps) x back safe e = absurd cc
find_kept c j b offset (y ∷ ys) front x back safe e =
    elim (cases_Bool (in_comment c b y)) [
      | inl t ↦
          one_later c true j j b y offset ys [] front x back (λ rest. past_comment c j b (y, offset) rest t)
          (find_kept true j y (suc offset) ys front x back (comment_safe c j b y safe t) (sym (past_comment c j b (y, offset) (bytes_at (suc offset) ys) t)
          ∙ e))
      | inr out ↦
          elim (cases_Bool (in_break j y)) [
            | inl t ↦
                one_later c false j true b y offset ys [] front x back (λ rest. past_break c j b (y, offset) rest out t)
                (find_kept false true y (suc offset) ys front x back (break_safe y) (sym (past_break c j b (y, offset) (bytes_at (suc offset) ys) out t) ∙ e))
            | inr plain ↦
                kept_here c j b y offset ys front x back safe out plain
                (λ ps left. find_kept false false y (suc offset) ys ps x back (kept_safe y (no_newline j y plain)) left)
                (sym (past_kept c j b (y, offset) (bytes_at (suc offset) ys) out plain) ∙ e)
          ]
    ]

-- ---- a kept byte does not begin a line of a block

no_head_at : (h x : ℕ) (before after : List ℕ) → HasNoHead h (before ++ x ∷ after) → is_head (last_byte h before) x ≡ false
no_head_at h x [] after none = none.0
no_head_at h x (y ∷ ys) after none = no_head_at y x ys after none.1

pub no_line_begins : (c j : Bool) (b x h : ℕ) (before after : List ℕ) → b ≡ last_byte h before → HasNoHead h (before ++ x ∷ after) → IsSafe c b j
    → in_comment c b x ≡ false
    → (x == 10 || (j && is_white_space x)) ≡ false → (b == 10) ≡ false
no_line_begins c j b x h before after last none safe out stays =
    elim (cases_Bool (b == 10)) [
      | inr f ↦ f
      | inl t ↦
          let on : j ≡ true = safe.line (eqb-true b 10 t) in
          let head : is_head b x ≡ false = ap (λ (n : ℕ). is_head n x) last ∙ no_head_at h x before after none in
          let mark : (x == 35) ≡ false = rw t at out in
          let line : (x == 10) ≡ false = no_newline j x stays in
          let white : is_white_space x ≡ false = rw (line, on) at stays in
          let plain = rw (t, white, mark, line) at head in
          cc
    ]

-- ---- a new text

-- a line that goes on is kept
pub line_kept : (m offset : ℕ) (text : List ℕ) (rest : List PlacedByte) → (m == 10) ≡ false → IsOneLine text
    → kept_after false m false (bytes_at offset text ++ rest) ≡ bytes_at offset text ++ kept_after false (last_byte m text) false rest
line_kept m offset [] rest plain one = refl
line_kept m offset (y ∷ ys) rest plain one = rw (plain, one.0) (ap (λ (t : List PlacedByte). (y, offset) ∷ t) (line_kept y (suc offset) ys rest one.0 one.1))

pub last_on_line : (m : ℕ) (text : List ℕ) → (m == 10) ≡ false → IsOneLine text → (last_byte m text == 10) ≡ false
last_on_line m [] plain one = plain
last_on_line m (y ∷ ys) plain one = last_on_line y ys one.0 one.1

-- what is kept after a byte that is no newline does not depend on it
pub same_after : (m l : ℕ) (text : List PlacedByte) → (m == 10) ≡ false → (l == 10) ≡ false → kept_after false m false text ≡ kept_after false l false text
same_after m l [] plain none = refl
same_after m l (x ∷ xs) plain none = rw (plain, none) refl

-- nor does it depend on the offsets
pub shifted : (c j : Bool) (b o p : ℕ) (text : List ℕ) → bytes (kept_after c b j (bytes_at o text)) ≡ bytes (kept_after c b j (bytes_at p text))
unfolding in_break
shifted c j b o p [] = refl
shifted c j b o p (y ∷ ys) =
    elim (cases_Bool (in_comment c b y)) [
      | inl t ↦ rw t (shifted true j y (suc o) (suc p) ys)
      | inr out ↦
          elim (cases_Bool (in_break j y)) [
            | inl t ↦ rw (out, t) (shifted false true y (suc o) (suc p) ys)
            | inr plain ↦ rw (out, plain) (ap (λ (t : List ℕ). y ∷ t) (shifted false false y (suc o) (suc p) ys))
          ]
    ]

pub bytes_apart : (offset : ℕ) (text more : List ℕ) → bytes_at offset (text ++ more) ≡ bytes_at offset text ++ bytes_at (offset + length text) more
bytes_apart offset [] more = ap (λ (n : ℕ). bytes_at n more) (omega arith)
bytes_apart offset (y ∷ ys) more = ap (λ (t : List PlacedByte). (y, offset) ∷ t) (bytes_apart (suc offset) ys more
    ∙ ap (λ (n : ℕ). bytes_at (suc offset) ys ++ bytes_at n more) (omega arith))

pub bytes_of_at : (offset : ℕ) (text : List ℕ) → bytes (bytes_at offset text) ≡ text
bytes_of_at offset [] = refl
bytes_of_at offset (y ∷ ys) = ap (λ (t : List ℕ). y ∷ t) (bytes_of_at (suc offset) ys)
