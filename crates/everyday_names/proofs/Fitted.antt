-- A block with a part of its description says the same.
use Rattle.std.proofs.Common.{◌≡◌, ◌≢◌, ℕ, zero, suc, ◌-◌, ◌<◌, ◌≤◌, Bool, true, false, not, ◌==◌, ◌&&◌, List, [], ◌∷◌, ◌++◌, length, take, drop}
use Rattle.std.proofs.Common.{replicate, nat_lt, nat_le, Option, Some, None, refl, sym, ap, ◌∙◌, subst, arith, append_assoc, length-append}
use Rattle.std.proofs.Common.{drop-cons, get_or}
use Rattle.std.proofs.lemmas.Bool.{and_parts, le-ltb, leb-true, lt-ltb, ltb-true, not-true, or_from, or_parts}
use Rattle.std.proofs.lemmas.Option.{same_Some}
use Rattle.std.proofs.lemmas.List.{drop_at, length-take-le, take-append-drop, take_more}
use Rattle.ti_text.specs.Texts.{last_byte}
use Rattle.ti_text.proofs.Texts.{last_byte-append}
use Rattle.ti_source.specs.Cutting.{HasNoHead, HasOneHead, OneBlock}
use Rattle.ti_source.specs.Judging.{Judged, faults_from, header_faults, names_found, reading_by}
use Rattle.ti_source.specs.Parsing.{reading_of_text}
use Rattle.ti_source.specs.Reading.{Reading, ReadFault}
use Rattle.ti_source.specs.inside.Header.{header_names}
use Rattle.ti_source.proofs.CutLemmas.{one_block_from}
use Rattle.user_items.specs.Parsing.{user_reading_of_text}
use Rattle.everyday_names.specs.Fields.{after_field, field_of, fitted, has, is_described, is_long, is_long_field, long_field}
use Rattle.everyday_names.specs.Laws.{FittedBlocksReadAlike, too_long}
use Rattle.everyday_names.proofs.FieldLemmas.{field-no_comma, has-joined_none, has-none, has-take, split-at_comma}
use Rattle.everyday_names.proofs.Folded.{IsField, judged_behind, read-with_blanks, user-with_blanks}
use Rattle.everyday_names.proofs.Headers.{AreNamesOf, LastBar, last-bar, names-with}

-- ---- what the tests say

pub record IsLong (text : List ℕ) : Type 0 where
  pub comma : has 44 text ≡ true
  pub over : 127 < length (field_of text)
  pub within : length (field_of text) ≤ 512
  pub one_line : has 10 (field_of text) ≡ false
  pub no_nul : has 0 (field_of text) ≡ false
  pub bar : has 124 (take 126 (field_of text)) ≡ true
  pub no_bar : has 124 (drop 126 (field_of text)) ≡ false

pub is-long : (text : List ℕ) → is_long text ≡ true → IsLong text
is-long text e =
    let f = field_of text in
    let whole = and_parts (has 44 text) (is_long_field f) e in
    let a = and_parts (nat_lt 127 (length f) && nat_le (length f) 512 && not (has 10 f) && not (has 0 f)) (is_described f) whole.1 in
    let g = and_parts (has 124 (take 126 f)) (not (has 124 (drop 126 f))) a.1 in
    let c = and_parts (nat_lt 127 (length f) && nat_le (length f) 512 && not (has 10 f)) (not (has 0 f)) a.0 in
    let d = and_parts (nat_lt 127 (length f) && nat_le (length f) 512) (not (has 10 f)) c.0 in
    let l = and_parts (nat_lt 127 (length f)) (nat_le (length f) 512) d.0 in
    record {
      comma = whole.0;
      over = ltb-true 127 (length f) l.0;
      within = leb-true (length f) 512 l.1;
      one_line = not-true (has 10 f) d.1;
      no_nul = not-true (has 0 f) c.1;
      bar = g.0;
      no_bar = not-true (has 124 (drop 126 f)) g.1;
    }

-- what a block has if it has a long names field
pub record HasLong (text field : List ℕ) : Type 0 where
  pub is : is_long text ≡ true
  pub long : IsLong text
  pub same : field ≡ field_of text
  pub split : text ≡ field ++ 44 ∷ after_field text

pub has-long : (text field : List ℕ) → long_field text ≡ Some field → HasLong text field
has-long text field e = by (is_long text) refl
  where
    by : (b : Bool) → is_long text ≡ b → HasLong text field
    by false f = absurd (none (rw f at e))
      where
        none : None ≡ Some field → ⊥
        none h = cc
    by true t =
        let long = is-long text t in
        let same : field_of text ≡ field = same_Some (field_of text) field (rw t at e) in
        record {
          is = t;
          long = long;
          same = sym same;
          split = split-at_comma text long.comma ∙ ap (λ (s : List ℕ). s ++ 44 ∷ after_field text) same;
        }

pub behind-field : (text field : List ℕ) → HasLong text field → drop (suc (length field)) text ≡ after_field text
behind-field text field h =
    ap (drop (suc (length field))) (h.split ∙ sym (append_assoc field (44 ∷ []) (after_field text)))
    ∙ drop_at (field ++ 44 ∷ []) (after_field text) (suc (length field)) (omega (arith, length-append field (44 ∷ [])))

pub has-none_long : (text : List ℕ) → long_field text ≡ None → is_long text ≡ false
has-none_long text e = by (is_long text) refl
  where
    by : (b : Bool) → is_long text ≡ b → is_long text ≡ false
    by false f = f
    by true t = absurd (none (rw t at e))
      where
        none : Some (field_of text) ≡ None → ⊥
        none h = cc

-- ---- heads

-- no head line begins after a byte of a line, up to the end of the line
no-head-run : (before : ℕ) (run rest : List ℕ) → (before == 10) ≡ false → has 10 run ≡ false → HasNoHead 44 (44 ∷ rest)
    → HasNoHead before (run ++ 44 ∷ rest)
no-head-run before [] rest b n h = (rw b refl, h.1)
no-head-run before (x ∷ xs) rest b n h =
    let parts = or_parts (x == 10) (has 10 xs) n in
    (rw b refl, no-head-run x xs rest parts.0 parts.1 h)

no-head-behind : (before : ℕ) (run rest : List ℕ) → HasNoHead before (run ++ 44 ∷ rest) → HasNoHead 44 rest
no-head-behind before [] rest h = h.1
no-head-behind before (x ∷ xs) rest h = no-head-behind x xs rest h.1

no-head-blanks : (before n : ℕ) (rest : List ℕ) → (before == 10) ≡ false → HasNoHead 44 rest → HasNoHead before (replicate n 32 ++ rest)
no-head-blanks before zero rest b h = moved rest h
  where
    moved : (s : List ℕ) → HasNoHead 44 s → HasNoHead before s
    moved [] h = tt
    moved (x ∷ xs) h = (rw b refl, h.1)
no-head-blanks before (suc n) rest b h = (rw b refl, no-head-blanks 32 n rest refl h)

-- a text behind which something follows ends as that does
last-behind : (before other : ℕ) (rest : List ℕ) → rest ≢ [] → last_byte before rest ≡ last_byte other rest
last-behind before other [] n = absurd (n refl)
last-behind before other (x ∷ xs) n = refl

-- ---- a field and a part of it

field-is : (f rest : List ℕ) → HasOneHead (f ++ 44 ∷ rest) → 0 < length f → has 44 f ≡ false → has 10 f ≡ false → IsField f
field-is [] rest h l c n = absurd (omega (arith, l))
field-is (x ∷ xs) rest h l c n = record { first = x; others = xs; whole = refl; begins = h.0; no_comma = c; one_line = n }

part-is : (f : List ℕ) (k : ℕ) → IsField f → IsField (take (suc k) f)
part-is f k is = record {
  first = is.first;
  others = take k is.others;
  whole = ap (take (suc k)) is.whole;
  begins = is.begins;
  no_comma = has-take 44 (suc k) f is.no_comma;
  one_line = has-take 10 (suc k) f is.one_line;
}

heads : (f rest : List ℕ) (k n : ℕ) → HasOneHead (f ++ 44 ∷ rest) → 0 < length f → has 10 f ≡ false
    → HasOneHead (take (suc k) f ++ 44 ∷ (replicate n 32 ++ rest))
heads [] rest k n h l c = absurd (omega (arith, l))
heads (x ∷ xs) rest k n h l c =
    let lines = or_parts (x == 10) (has 10 xs) c in (
      h.0,
      no-head-run x (take k xs) (replicate n 32 ++ rest) lines.0 (has-take 10 k xs lines.1)
          (refl, no-head-blanks 44 n rest refl (no-head-behind x xs rest h.1)),
    )

ends : (f g rest : List ℕ) (n : ℕ) → last_byte 0 (f ++ 44 ∷ rest) ≡ 10 → last_byte 0 (g ++ 44 ∷ (replicate n 32 ++ rest)) ≡ 10
ends f g rest n e =
    let last : last_byte 44 rest ≡ 10 = sym (last_byte-append 0 f (44 ∷ rest)) ∙ e in
    last_byte-append 0 g (44 ∷ (replicate n 32 ++ rest)) ∙ last_byte-append 44 (replicate n 32) rest
    ∙ last-behind (last_byte 44 (replicate n 32)) 44 rest (λ none. absurd (omega (arith, sym last ∙ ap (last_byte 44) none))) ∙ last

-- a block with another names field is one too
head-with : (f g rest : List ℕ) → IsField f → HasOneHead (g ++ 44 ∷ rest) → 0 < length g → HasOneHead (f ++ 44 ∷ rest)
head-with f [] rest is h l = absurd (omega (arith, l))
head-with f (y ∷ ys) rest is h l =
    let lines = or_parts (is.first == 10) (has 10 is.others) (ap (has 10) (sym is.whole) ∙ is.one_line) in
    subst (λ (s : List ℕ). HasOneHead (s ++ 44 ∷ rest)) (sym is.whole) (
      is.begins,
      no-head-run is.first is.others rest lines.0 lines.1 (refl, no-head-behind y ys rest h.1),
    )

pub block-with : (f g rest : List ℕ) → IsField f → IsField g → OneBlock (g ++ 44 ∷ rest) → OneBlock (f ++ 44 ∷ rest)
block-with f g rest is of one =
    one_block_from (f ++ 44 ∷ rest) (head-with f g rest is one.cut.each.1 (omega (arith, ap length of.whole))) (ends g f rest 0 one.ends)

header-none : (f g : List ℕ) (faults : List ReadFault) (found : Option (List (List ℕ))) → found ≢ Some [] → 127 < length f → length g ≡ 127
    → header_faults f found ++ faults ≡ too_long (names_found found) ++ (header_faults g found ++ faults)
header-none f g faults None some over part = refl
header-none f g faults (Some []) some over part = absurd (some refl)
header-none f g faults (Some (name ∷ names)) some over part = rw (lt-ltb 127 (length f) over, le-ltb 127 (length g) (omega (arith, part))) refl

-- what is read of a block with a long names field, and of that with a part of it
pub record AreReadAlike (text : List ℕ) : Type 0 where
  pub judged : List (Option Judged)
  pub found : Option (List (List ℕ))
  pub some : found ≢ Some []
  pub whole : reading_of_text text ≡ reading_by (field_of text) found judged
  pub part : reading_of_text (fitted text) ≡ reading_by (take 127 (field_of text)) found judged
  pub user_defined : user_reading_of_text (fitted text) ≡ user_reading_of_text text
  pub block : OneBlock (fitted text)
  pub size : length (take 127 (field_of text)) ≡ 127
  pub over : 127 < length (field_of text)

module _ (text : List ℕ) (one : OneBlock text) (is : is_long text ≡ true) where
  long : IsLong text
  long = is-long text is

  field : List ℕ
  field = field_of text

  rest : List ℕ
  rest = after_field text

  blanks : ℕ
  blanks = length (field_of text) - 127

  split : text ≡ field_of text ++ 44 ∷ after_field text
  split = split-at_comma text long.comma

  fitted-is : fitted text ≡ take 127 (field_of text) ++ 44 ∷ (replicate (length (field_of text) - 127) 32 ++ after_field text)
  fitted-is = rw is refl

  head : HasOneHead (field_of text ++ 44 ∷ after_field text)
  head = subst HasOneHead split one.cut.each.1

  some-field : 0 < length (field_of text)
  some-field = let l = long.over in omega (arith, l)

  pub whole-field : IsField (field_of text)
  whole-field = field-is (field_of text) (after_field text) head some-field (field-no_comma text) long.one_line

  pub part-field : IsField (take 127 (field_of text))
  part-field = part-is (field_of text) 126 whole-field

  bar : LastBar (take 126 (field_of text))
  bar = last-bar (take 126 (field_of text)) long.bar

  next : ℕ
  next = get_or (field_of text) 126 0

  behind : drop 126 (field_of text) ≡ get_or (field_of text) 126 0 ∷ drop 127 (field_of text)
  behind = drop-cons (field_of text) 126 0 (let l = long.over in omega (arith, l))

  whole-parts : field_of text ≡ bar.names ++ 124 ∷ (bar.description ++ get_or (field_of text) 126 0 ∷ drop 127 (field_of text))
  whole-parts =
      sym (take-append-drop 126 (field_of text)) ∙ ap (λ (s : List ℕ). s ++ drop 126 (field_of text)) bar.whole
      ∙ append_assoc bar.names (124 ∷ bar.description) (drop 126 (field_of text))
      ∙ ap (λ (s : List ℕ). bar.names ++ 124 ∷ (bar.description ++ s)) behind

  cut-parts : take 127 (field_of text) ≡ bar.names ++ 124 ∷ (bar.description ++ get_or (field_of text) 126 0 ∷ [])
  cut-parts =
      take_more (field_of text) 126 0 (let l = long.over in omega (arith, l))
      ∙ ap (λ (s : List ℕ). s ++ get_or (field_of text) 126 0 ∷ []) bar.whole
      ∙ append_assoc bar.names (124 ∷ bar.description) (get_or (field_of text) 126 0 ∷ [])

  some-bytes : (s t : List ℕ) (x : ℕ) → s ++ x ∷ t ≢ []
  some-bytes s t x e = absurd (omega (arith, length-append s (x ∷ t), ap length e))

  no-bar_behind : has 124 (get_or (field_of text) 126 0 ∷ drop 127 (field_of text)) ≡ false
  no-bar_behind = ap (has 124) (sym behind) ∙ long.no_bar

  no-nul_described : has 0 (bar.description ++ get_or (field_of text) 126 0 ∷ drop 127 (field_of text)) ≡ false
  no-nul_described = (has-none 0 bar.names (124 ∷ (bar.description ++ get_or (field_of text) 126 0 ∷ drop 127 (field_of text)))
      (ap (has 0) (sym whole-parts) ∙ long.no_nul)).1

  -- the same without what is behind the part
  first-alone : (byte x : ℕ) (s : List ℕ) → has byte (x ∷ s) ≡ false → has byte (x ∷ []) ≡ false
  first-alone byte x s e = or_from (x == byte) false (or_parts (x == byte) (has byte s) e).0 refl

  names : (found : Option (List (List ℕ))) × AreNamesOf bar.names found
  names = names-with bar.names

  whole-names : header_names (field_of text) ≡ names.0
  whole-names =
      ap header_names whole-parts
      ∙ names.1.is (bar.description ++ get_or (field_of text) 126 0 ∷ drop 127 (field_of text))
      (has-joined_none 124 bar.description (get_or (field_of text) 126 0 ∷ drop 127 (field_of text)) bar.no_bar no-bar_behind) no-nul_described
      (some-bytes bar.description (drop 127 (field_of text)) (get_or (field_of text) 126 0))

  part-names : header_names (take 127 (field_of text)) ≡ names.0
  part-names =
      let nul = has-none 0 bar.description (get_or (field_of text) 126 0 ∷ drop 127 (field_of text)) no-nul_described in
      ap header_names cut-parts
      ∙ names.1.is (bar.description ++ get_or (field_of text) 126 0 ∷ [])
      (has-joined_none 124 bar.description (get_or (field_of text) 126 0 ∷ []) bar.no_bar
      (first-alone 124 (get_or (field_of text) 126 0) (drop 127 (field_of text)) no-bar_behind))
      (has-joined_none 0 bar.description (get_or (field_of text) 126 0 ∷ []) nul.0
      (first-alone 0 (get_or (field_of text) 126 0) (drop 127 (field_of text)) nul.1))
      (some-bytes bar.description [] (get_or (field_of text) 126 0))

  pub read-alike : AreReadAlike text
  read-alike = record {
    judged = judged_behind (after_field text);
    found = names.0;
    some = names.1.some;
    whole = ap reading_of_text split ∙ read-with_blanks (field_of text) 0 (after_field text) whole-field
        ∙ ap (λ n. reading_by (field_of text) n (judged_behind (after_field text))) whole-names;
    part = ap reading_of_text fitted-is
        ∙ read-with_blanks (take 127 (field_of text)) (length (field_of text) - 127) (after_field text) part-field
        ∙ ap (λ n. reading_by (take 127 (field_of text)) n (judged_behind (after_field text))) part-names;
    user_defined = ap user_reading_of_text fitted-is
        ∙ user-with_blanks (take 127 (field_of text)) (length (field_of text) - 127) (after_field text) part-field
        ∙ sym (user-with_blanks (field_of text) 0 (after_field text) whole-field) ∙ ap user_reading_of_text (sym split);
    block = subst OneBlock (sym fitted-is) (one_block_from
        (take 127 (field_of text) ++ 44 ∷ (replicate (length (field_of text) - 127) 32 ++ after_field text))
        (heads (field_of text) (after_field text) 126 (length (field_of text) - 127) head some-field long.one_line)
        (ends (field_of text) (take 127 (field_of text)) (after_field text) (length (field_of text) - 127) (ap (last_byte 0) (sym split) ∙ one.ends)));
    size = length-take-le 127 (field_of text) (let l = long.over in omega (arith, l));
    over = long.over;
  }

pub fitted_blocks_read_alike : FittedBlocksReadAlike
fitted_blocks_read_alike text one is =
    let r = read-alike text one is in
    let faults = faults_from 0 r.judged in
    record {
      block = r.block;
      whole = ap (λ (b : Reading). b.field) r.whole;
      part = ap (λ (b : Reading). b.field) r.part;
      names = ap (λ (b : Reading). b.names) r.part ∙ sym (ap (λ (b : Reading). b.names) r.whole);
      items = ap (λ (b : Reading). b.items) r.part ∙ sym (ap (λ (b : Reading). b.items) r.whole);
      faults = ap (λ (b : Reading). b.faults) r.whole
          ∙ header-none (field_of text) (take 127 (field_of text)) faults r.found r.some r.over r.size
          ∙ sym (ap (λ (b : Reading). too_long b.names ++ (reading_of_text (fitted text)).faults) r.whole
          ∙ ap (λ (b : Reading). too_long (names_found r.found) ++ b.faults) r.part);
      user_defined = r.user_defined;
    }
