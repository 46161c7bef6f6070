-- Items read byte by byte.
use Rattle.std.proofs.Common.{◌≡◌, ◌≢◌, ℕ, zero, suc, ◌-◌, ◌<◌, ◌≤◌, Bool, true, false, not, ◌==◌, ◌||◌, ◌&&◌, List, [], ◌∷◌, ◌++◌, length, take, get_or}
use Rattle.std.proofs.Common.{cond, refl, sym, ap, subst, ◌∙◌, arith, append_assoc, ◌⊎◌, inl, inr}
use Rattle.std.proofs.Math.Bool.{or-false}
use Rattle.std.proofs.Math.Seq.{take-suc}
use Rattle.std.proofs.lemmas.Bool.{cases_Bool, ne_eqb, eqb-true}
use Rattle.memchr.specs.Find.{NoneBefore, is_byte2}
use Rattle.std.proofs.lemmas.List.{append-nil, length-append, length-take-le}
use Rattle.ti_source.specs.declared.items.Escape.{Escape}
use Rattle.ti_source.specs.declared.items.Escape.TheVariants as escape
use Rattle.ti_text.specs.WhiteSpace.{is_white_space}
use Rattle.ti_source.specs.Folding.{PlacedByte}
use Rattle.ti_source.specs.Items.{bytes, ItemPiece, item_piece, without_front, line_of, piece_of}
use Rattle.ti_source.specs.inside.Folding.{SkipsWhiteSpace, skips_nothing, skips_byte}
use Rattle.ti_source.specs.inside.Items.{escape_after, cuts, with_first, with_text_before, items_of, with_byte, on_line, PassesRun, takes_no_byte}
use Rattle.ti_source.specs.inside.Items.{takes_byte, begins_visible, IsWholeItem, TakesWholeItem, ReadsSoFar, TakesItem}

pub items_of-plain : (by : Escape) (before : ℕ) (x : PlacedByte) (xs : List PlacedByte) → cuts by x.0 ≡ false
    → items_of by before (x ∷ xs) ≡ with_first x (items_of (escape_after by before x.0) x.0 xs)
items_of-plain by before x xs f = rw f

items_of-cut : (by : Escape) (before : ℕ) (x : PlacedByte) (xs : List PlacedByte) → cuts by x.0 ≡ true
    → items_of by before (x ∷ xs) ≡ [] ∷ items_of escape.Nothing 44 xs
items_of-cut by before x xs t = rw t

with_front-with_first : (x : PlacedByte) (items : List (List PlacedByte)) → with_first x items ≡ with_text_before [] (with_first x items)
with_front-with_first x [] = refl
with_front-with_first x (i ∷ is) = refl

with_front-nil : (by : Escape) (before : ℕ) (source : List PlacedByte) → items_of by before source ≡ with_text_before [] (items_of by before source)
with_front-nil by before [] = refl
with_front-nil by before (x ∷ xs) =
    let later = items_of (escape_after by before x.0) x.0 xs in
    let next = items_of escape.Nothing 44 xs in
    elim (cuts by x.0) as (λ b. cond b ([] ∷ next) (with_first x later) ≡ with_text_before [] (cond b ([] ∷ next) (with_first x later))) [
      | true ↦ refl
      | false ↦ with_front-with_first x later
    ]

with_front-push : (seen : List PlacedByte) (x : PlacedByte) (items : List (List PlacedByte))
    → with_text_before seen (with_first x items) ≡ with_text_before (seen ++ x ∷ []) items
with_front-push seen x [] = refl
with_front-push seen x (i ∷ is) = ap (λ item. item ∷ is) (sym (append_assoc seen (x ∷ []) i))

-- an item with one more byte shows one more byte
without_front-push : (s : List PlacedByte) (x : PlacedByte) → (without_front s ≡ [] → without_front (s ++ x ∷ []) ≡ without_front (x ∷ []))
    × ((y : PlacedByte) (ys : List PlacedByte) → without_front s ≡ y ∷ ys → without_front (s ++ x ∷ []) ≡ y ∷ (ys ++ x ∷ []))
without_front-push [] x = (λ e. refl, λ y ys e. cc)
without_front-push (z ∷ zs) x =
    elim (is_white_space z.0) as (λ b. (cond b (without_front zs) (z ∷ zs) ≡ [] → cond b (without_front (zs ++ x ∷ [])) (z ∷ (zs ++ x ∷ []))
    ≡ without_front (x ∷ []))
    × ((y : PlacedByte) (ys : List PlacedByte) → cond b (without_front zs) (z ∷ zs) ≡ y ∷ ys
    → cond b (without_front (zs ++ x ∷ [])) (z ∷ (zs ++ x ∷ [])) ≡ y ∷ (ys ++ x ∷ []))) [
      | true ↦ without_front-push zs x
      | false ↦ (λ e. cc, λ y ys e. ap (λ s. s ++ x ∷ []) e)
    ]

bytes-push : (s : List PlacedByte) (x : PlacedByte) → bytes (s ++ x ∷ []) ≡ bytes s ++ x.0 ∷ []
bytes-push [] x = refl
bytes-push (y ∷ ys) x = ap (λ s. y.0 ∷ s) (bytes-push ys x)

piece_of-push-by : (seen : List PlacedByte) (x : PlacedByte) (shown : List PlacedByte) → without_front seen ≡ shown
    → piece_of (seen ++ x ∷ []) ≡ with_byte (item_piece (bytes shown) (line_of shown)) x
piece_of-push-by seen x [] e =
    rw ((without_front-push seen x).0 e)
    (elim (is_white_space x.0) as (λ b. item_piece (bytes (cond b [] (x ∷ []))) (line_of (cond b [] (x ∷ [])))
    ≡ cond b (item_piece [] 0) (item_piece (x.0 ∷ []) x.1)) [ true ↦ refl | false ↦ refl ])
piece_of-push-by seen x (y ∷ ys) e =
    rw ((without_front-push seen x).1 y ys e)
    (ap (λ text. item_piece (y.0 ∷ text) y.1) (bytes-push ys x))

pub piece_of-push : (seen : List PlacedByte) (x : PlacedByte) → piece_of (seen ++ x ∷ []) ≡ with_byte (piece_of seen) x
piece_of-push seen x = piece_of-push-by seen x (without_front seen) refl

pub so_far-start : (start : List PlacedByte) → ReadsSoFar start escape.Nothing 44 start (item_piece [] 0)
so_far-start start = record { seen = []; is_piece = refl; items = with_front-nil escape.Nothing 44 start; shorter = omega arith }

pub so_far-more : (start : List PlacedByte) (by : Escape) (before : ℕ) (x : PlacedByte) (source : List PlacedByte) (shown : ItemPiece)
    → ReadsSoFar start by before (x ∷ source) shown → cuts by x.0 ≡ false → ReadsSoFar start (escape_after by before x.0) x.0 source (with_byte shown x)
so_far-more start by before x source shown r f = record {
  seen = r.seen ++ x ∷ [];
  is_piece = piece_of-push r.seen x ∙ ap (λ p. with_byte p x) r.is_piece;
  items = r.items ∙ ap (with_text_before r.seen) (items_of-plain by before x source f)
      ∙ with_front-push r.seen x (items_of (escape_after by before x.0) x.0 source);
  shorter = omega (arith, r.shorter);
}

-- a text that has a byte, with one more byte
pushes : (text : List ℕ) (line : ℕ) (x : PlacedByte) → 0 < length text → with_byte (item_piece text line) x ≡ item_piece (text ++ x.0 ∷ []) line
pushes [] line x some = absurd (omega arith)
pushes (y ∷ ys) line x some = refl

pub on_line-append : (line : ℕ) (run more : List ℕ) → on_line line (run ++ more) ≡ on_line line run ++ on_line line more
on_line-append line [] more = refl
on_line-append line (b ∷ bs) more = ap (λ (s : List PlacedByte). (b, line) ∷ s) (on_line-append line bs more)

-- an item whose text has a byte, read over a run
pub so_far-run : (start : List PlacedByte) {by next : Escape} {before last : ℕ} {run : List ℕ} (line at : ℕ) (source : List PlacedByte) (text : List ℕ)
    → PassesRun by before run next last → 0 < length text → ReadsSoFar start by before (on_line at run ++ source) (item_piece text line)
    → ReadsSoFar start next last source (item_piece (text ++ run) line)
so_far-run start line at source text takes_no_byte some r = rw append-nil r
so_far-run start {run = all} line at source text (takes_byte {by = by} {next = next} {before = before} {last = last} {run = run} x goes plain inner) some r =
    let regrouped : on_line at (run ++ x ∷ []) ++ source ≡ on_line at run ++ ((x, at) ∷ source) =
    rw on_line-append (append_assoc (on_line at run) ((x, at) ∷ []) source) in
    let earlier = so_far-run start line at ((x, at) ∷ source) text goes some
    (subst (λ (s : List PlacedByte). ReadsSoFar start by before s (item_piece text line)) regrouped r) in
    let longer : with_byte (item_piece (text ++ run) line) (x, at) ≡ item_piece (text ++ (run ++ x ∷ [])) line =
    pushes (text ++ run) line (x, at) (omega (arith, length-append text run)) ∙ ap (λ (t : List ℕ). item_piece t line) (append_assoc text run (x ∷ [])) in
    subst (λ (shown : ItemPiece). ReadsSoFar start (escape_after next last x) x source shown) longer
    (so_far-more start next last (x, at) source (item_piece (text ++ run) line) earlier inner)

pub takes-cut : (start : List PlacedByte) (by : Escape) (before : ℕ) (x : PlacedByte) (source : List PlacedByte) (shown : ItemPiece)
    → ReadsSoFar start by before (x ∷ source) shown → cuts by x.0 ≡ true → TakesItem start shown false source
takes-cut start by before x source shown r t = record {
  item = r.seen;
  is_piece = r.is_piece;
  is_first = r.items ∙ ap (with_text_before r.seen) (items_of-cut by before x source t)
      ∙ ap (λ item. item ∷ items_of escape.Nothing 44 source) (append-nil r.seen);
  shorter = λ e. omega (arith, r.shorter);
}

pub takes-last : (start : List PlacedByte) (by : Escape) (before : ℕ) (shown : ItemPiece) → ReadsSoFar start by before [] shown → TakesItem start shown true []
takes-last start by before shown r = record {
  item = r.seen;
  is_piece = r.is_piece;
  is_first = r.items ∙ ap (λ item. item ∷ []) (append-nil r.seen);
  shorter = λ e. cc;
}

-- ---- white space at the front of an item

white_cases : (x : ℕ) → is_white_space x ≡ true → (x ≡ 32) ⊎ (x ≡ 9)
white_cases x w =
    elim (cases_Bool (x == 32)) [
      | inl t ↦ inl (eqb-true x 32 t)
      | inr f ↦ inr (eqb-true x 9 (rw f at w))
    ]

items_of-space : (line : ℕ) (xs : List PlacedByte) → items_of escape.Nothing 44 ((32, line) ∷ xs) ≡ with_first (32, line) (items_of escape.Nothing 44 xs)
items_of-space line [] = refl
items_of-space line (x ∷ xs) = refl

items_of-tab : (line : ℕ) (xs : List PlacedByte) → items_of escape.Nothing 44 ((9, line) ∷ xs) ≡ with_first (9, line) (items_of escape.Nothing 44 xs)
items_of-tab line [] = refl
items_of-tab line (x ∷ xs) = refl

items_of-white : (x : PlacedByte) (xs : List PlacedByte) → is_white_space x.0 ≡ true → items_of escape.Nothing 44 (x ∷ xs)
    ≡ with_first x (items_of escape.Nothing 44 xs)
items_of-white x xs w =
    elim (white_cases x.0 w) [
      | inl e ↦ subst (λ b. items_of escape.Nothing 44 ((b, x.1) ∷ xs) ≡ with_first (b, x.1) (items_of escape.Nothing 44 xs)) (sym e) (items_of-space x.1 xs)
      | inr e ↦ subst (λ b. items_of escape.Nothing 44 ((b, x.1) ∷ xs) ≡ with_first (b, x.1) (items_of escape.Nothing 44 xs)) (sym e) (items_of-tab x.1 xs)
    ]

white_unseen : (x : PlacedByte) → is_white_space x.0 ≡ true → with_byte (item_piece [] 0) x ≡ item_piece [] 0
white_unseen x w = rw w refl

pub so_far-white : (start : List PlacedByte) {old new : List PlacedByte} → SkipsWhiteSpace old new
    → ReadsSoFar start escape.Nothing 44 old (item_piece [] 0) → ReadsSoFar start escape.Nothing 44 new (item_piece [] 0)
so_far-white start skips_nothing r = r
so_far-white start (skips_byte {new = new} x skips w) r =
    let earlier = so_far-white start skips r in
    record {
      seen = earlier.seen ++ x ∷ [];
      is_piece = piece_of-push earlier.seen x ∙ ap (λ p. with_byte p x) earlier.is_piece ∙ white_unseen x w;
      items = earlier.items ∙ ap (with_text_before earlier.seen) (items_of-white x new w) ∙ with_front-push earlier.seen x (items_of escape.Nothing 44 new);
      shorter = omega (arith, earlier.shorter);
    }

-- ---- an item on one line

-- the line of a text on `line`, 0 if it is empty
abbrev line_at : ℕ → List ℕ → ℕ
line_at line [] = 0
line_at line (x ∷ xs) = line

begins_earlier : (run : List ℕ) (x : ℕ) → begins_visible (run ++ x ∷ []) ≡ true → begins_visible run ≡ true
begins_earlier [] x v = refl
begins_earlier (y ∷ ys) x v = v

visible_more : (line x : ℕ) (run : List ℕ) → begins_visible (run ++ x ∷ []) ≡ true
    → with_byte (item_piece run (line_at line run)) (x, line) ≡ item_piece (run ++ x ∷ []) (line_at line (run ++ x ∷ []))
visible_more line x [] v =
    elim (cases_Bool (is_white_space x)) [
      | inl t ↦ (let no = rw t at v in cc)
      | inr f ↦ rw f refl
    ]
visible_more line x (y ∷ ys) v = refl

-- an item of which nothing shows, read over a run that does not begin with white space
so_far-item : (start : List PlacedByte) {by next : Escape} {before last : ℕ} {run : List ℕ} (line : ℕ) (source : List PlacedByte)
    → PassesRun by before run next last → begins_visible run ≡ true → ReadsSoFar start by before (on_line line run ++ source) (item_piece [] 0)
    → ReadsSoFar start next last source (item_piece run (line_at line run))
so_far-item start line source takes_no_byte v r = r
so_far-item start line source (takes_byte {by = by} {next = next} {before = before} {last = last} {run = run} x goes plain inner) v r =
    let regrouped : on_line line (run ++ x ∷ []) ++ source ≡ on_line line run ++ ((x, line) ∷ source) =
    rw on_line-append (append_assoc (on_line line run) ((x, line) ∷ []) source) in
    let earlier = so_far-item start line ((x, line) ∷ source) goes (begins_earlier run x v)
    (subst (λ (s : List PlacedByte). ReadsSoFar start by before s (item_piece [] 0)) regrouped r) in
    subst (λ (shown : ItemPiece). ReadsSoFar start (escape_after next last x) x source shown) (visible_more line x run v)
    (so_far-more start next last (x, line) source (item_piece run (line_at line run)) earlier inner)

line_at-some : (line : ℕ) (text : List ℕ) → 0 < length text → line_at line text ≡ line
line_at-some line [] some = absurd (omega arith)
line_at-some line (x ∷ xs) some = refl

pub takes-whole : (start old : List PlacedByte) (text : List ℕ) (line : ℕ) (new : List PlacedByte)
    → ReadsSoFar start escape.Nothing 44 old (item_piece [] 0) → TakesWholeItem old text line new → TakesItem start (item_piece text line) false new
takes-whole start old text line new r whole =
    let from_item = subst (λ (s : List PlacedByte). ReadsSoFar start escape.Nothing 44 s (item_piece [] 0)) whole.whole r in
    let read = so_far-item start line ((44, line) ∷ new) whole.item.passes_run whole.item.visible from_item in
    subst (λ (n : ℕ). TakesItem start (item_piece text n) false new) (line_at-some line text whole.item.some)
    (takes-cut start whole.item.next whole.item.last (44, line) new (item_piece text (line_at line text)) read whole.item.ends)

-- ---- how far an item on one line goes

-- the byte just before the place `n` of a text with a comma before it
abbrev byte_before : List ℕ → ℕ → ℕ
byte_before text zero = 44
byte_before text (suc n) = get_or text n 0

comma_ends : (by : Escape) (before x : ℕ) → (x == 92) ≡ false → cuts (escape_after by before x) 44 ≡ true
comma_ends escape.Nothing before x f =
    rw f (elim (x == 94 && not (before == 37)) as (λ b. cuts (cond b escape.Caret escape.Nothing) 44 ≡ true) [ true ↦ refl | false ↦ refl ])
comma_ends escape.Backslash before x f = refl
comma_ends escape.Caret before x f = refl

no_cut : (by : Escape) (x : ℕ) → (x == 44) ≡ false → cuts by x ≡ false
no_cut escape.Nothing x f = f
no_cut escape.Backslash x f = refl
no_cut escape.Caret x f = f

neither : (a b : Bool) → ((a || b) ≡ true → ⊥) → (a ≡ false) × (b ≡ false)
neither true b never = absurd (never refl)
neither false true never = absurd (never refl)
neither false false never = (refl, refl)

-- an item goes on over bytes that are neither comma nor newline, and a comma after them ends it if
-- no backslash is just before it
goes_to : (text : List ℕ) (n : ℕ) → n ≤ length text → ((k : ℕ) → k < n → is_byte2 44 10 (get_or text k 0) ≡ true → ⊥)
    → (next : Escape) × PassesRun escape.Nothing 44 (take n text) next (byte_before text n) × ((byte_before text n == 92) ≡ false → cuts next 44 ≡ true)
goes_to text zero h none = (escape.Nothing, takes_no_byte, λ f. refl)
goes_to text (suc n) h none =
    let (next, goes, ends) = goes_to text n (omega arith) (λ k i. none k (omega arith)) in
    let byte = get_or text n 0 in
    let (no_comma, no_newline) = neither (byte == 44) (byte == 10) (none n (omega arith)) in
    let more = takes_byte byte goes no_newline (no_cut next byte no_comma) in
    let longer = take-suc text n 0 (omega arith) in (
      escape_after next (byte_before text n) byte,
      subst (λ (s : List ℕ). PassesRun escape.Nothing 44 s (escape_after next (byte_before text n) byte) byte) (sym longer) more,
      comma_ends next (byte_before text n) byte,
    )

begins-take : (text : List ℕ) (n : ℕ) → 0 < length text → is_white_space (get_or text 0 0) ≡ false → begins_visible (take (suc n) text) ≡ true
begins-take [] n some v = absurd (omega arith)
begins-take (x ∷ xs) n some v = rw v refl

other_is_comma : (x : ℕ) → is_byte2 44 10 x ≡ true → x ≢ 10 → x ≡ 44
other_is_comma x t other = eqb-true x 44 (rw (ne_eqb x 10 other, or-false) at t)

pub whole_item : (text : List ℕ) (n : ℕ) → NoneBefore (λ k. is_byte2 44 10 (get_or text k 0) ≡ true) 0 (length text) n → is_byte2 44 10 (get_or text n 0) ≡ true
    → 0 < n → get_or text n 0 ≢ 10 → get_or text (n - 1) 0 ≢ 92 → is_white_space (get_or text 0 0) ≡ false → IsWholeItem text n
whole_item text zero none t some ended plain visible = absurd (omega arith)
whole_item text (suc n) none t some ended plain visible =
    let high = none.high in
    let (next, goes, ends) = goes_to text (suc n) (omega arith) (λ k h. none.before k (omega arith) h) in
    let back : suc n - 1 ≡ n = omega arith in
    let last = rw back at plain in
    record {
      within = high;
      comma = other_is_comma (get_or text (suc n) 0) t ended;
      item = record {
        next = next;
        last = get_or text n 0;
        some = omega (arith, length-take-le (suc n) text (omega arith));
        visible = begins-take text n (omega arith) visible;
        passes_run = goes;
        ends = ends (ne_eqb (get_or text n 0) 92 last);
      };
    }
